use Rattle.std.proofs.Common.{◌≡◌, ℕ, ◌+◌, ◌≤◌, ◌<◌, List, [], ◌∷◌, length, sym, subst, ap, ◌∙◌, arith, ⊎_elim, nat_lt}
use Rattle.std.proofs.lemmas.Bool.{cases_lt, cond-true, cond-false, lt-ltb, le-ltb}
use Rattle.machine.specs.Meaning.{Meaning, InRange, Lawful}
use Rattle.search.specs.Search.{followed_by, looks_by, looks_from}
use Rattle.search.specs.declared.limit.TheConstants.{HIGHEST_LIMIT}
use Rattle.walk.specs.Left.{Leads, and_above, looks_later, left_at, left_after, left_here}
use Rattle.walk.specs.Walks.{made, tried, machine, Down, NoneLeft, Back, StaysAtStart, Stands, Over}
use Rattle.walk.specs.declared.walk.Walk.{Walk}

-- The steps of a walk, and what is left of a round after each.

module _ {S : Type 0} (m : Meaning S) (e : S → ℕ) (threshold : ℕ) (made : List ℕ) (s : S) (tried : ℕ) where
  pub with_room : length made ≤ HIGHEST_LIMIT → left_here m e threshold made s tried ≡ left_after m e threshold made s tried
  with_room few = cond-false (nat_lt HIGHEST_LIMIT (length made)) _ _ (le-ltb HIGHEST_LIMIT (length made) few)

  without_room : HIGHEST_LIMIT < length made → left_here m e threshold made s tried ≡ and_above m e threshold made s []
  without_room many = cond-true (nat_lt HIGHEST_LIMIT (length made)) _ _ (lt-ltb HIGHEST_LIMIT (length made) many)

module _ {S M : Type 0} (m : Meaning S) (state : M → S) where
  none_left : (p q : Walk M) → NoneLeft m state p q → (e : S → ℕ) (threshold : ℕ) → left_here m e threshold (made p) (state (machine p)) (tried p) ≡ and_above m e threshold (made p) (state (machine p)) []
  none_left p q none e threshold =
      let s = state (machine p) in
      ⊎_elim
      (λ many. without_room m e threshold (made p) s (tried p) many)
      (λ few.
      with_room m e threshold (made p) s (tried p) few
      ∙ ap (λ ks. and_above m e threshold (made p) s (looks_by (λ k. looks_from m e threshold (k ∷ made p) (m.after s k)) ks)) (none.none few))
      (cases_lt HIGHEST_LIMIT (length (made p)))

  -- The walk w came back from the walk p, and the same looks are left of a round.
  pub record CameBack (p : Walk M) (w : Walk M) : Type 0 where
    pub no_deeper : length (made w) ≤ length (made p)
    pub leads : (root : S) → Leads m root (made p) (state p.here) → Leads m root (made w) (state w.here)
    pub left : (e : S → ℕ) (threshold : ℕ) → left_here m e threshold (made p) (state p.here) (tried p) ≡ left_here m e threshold (made w) (state w.here) (tried w)

  -- what is left is the same one turn back, where nothing is left here
  pub back_left : (p q : Walk M) → Back m state p q → length (made q) ≤ HIGHEST_LIMIT → (e : S → ℕ) (threshold : ℕ) → and_above m e threshold (made p) (state (machine p)) [] ≡ left_here m e threshold (made q) (state (machine q)) (tried q)
  back_left p q back few e threshold =
      let s = state (machine p) in
      ap (λ ks. and_above m e threshold ks s []) back.made_less
      ∙ ap (λ r. left_after m e threshold (made q) r back.turn) (sym back.leads)
      ∙ ap (left_after m e threshold (made q) (state (machine q))) (sym back.tried_last)
      ∙ sym (with_room m e threshold (made q) (state (machine q)) (tried q) few)

  pub back_leads : (p q : Walk M) (root : S) → Back m state p q → Leads m root (made p) (state (machine p)) → Leads m root (made q) (state (machine q))
  back_leads p q root back leads =
      subst (Leads m root (made q)) (sym back.leads) (subst (λ ks. Leads m root ks (state (machine p))) back.made_less leads).1

  pub one_back : (p w v q : Walk M) → CameBack p w → NoneLeft m state w v → Back m state v q → length (made q) ≤ HIGHEST_LIMIT → length (made v) ≡ length (made q) + 1 → CameBack p q
  one_back p w v q came none back few shorter =
      let same = none.same in
      let same_length : length (made v) ≡ length (made w) = ap (λ x. length (made x)) same in
      let no_deeper = came.no_deeper in
      record {
        no_deeper = omega arith;
        leads = λ root leads. back_leads v q root back (subst (λ x. Leads m root (made x) (state (machine x))) (sym same) (came.leads root leads));
        left = λ e threshold. came.left e threshold ∙ none_left w v none e threshold ∙ ap (λ x. and_above m e threshold (made x) (state (machine x)) []) (sym same) ∙ back_left v q back few e threshold;
      }

  module _ (law : Lawful m) (e : S → ℕ) (threshold : ℕ) (root : S) where
    -- the next turn is made: the state that it leads to is yet to be looked at
    pub one_down : (p w q : Walk M) → CameBack p w → Down m state w q → Leads m root (made p) (state (machine p)) → Stands m state e threshold root (left_here m e threshold (made p) (state (machine p)) (tried p)) q
    one_down p w q came down leads =
        let s = state (machine w) in
        let k = down.turn in
        let range = down.in_range in
        let low = range.low in
        let high = range.high in
        let same_low = law.same_lowest s k range in
        let same_high = law.same_highest s k range in
        let again : InRange m (m.after s k) k = record { low = omega arith; high = omega arith } in
        let twice = law.twice s k range in
        record {
          leads = subst (λ ks. Leads m root ks (state (machine q))) (sym down.made_more) (subst (Leads m root (k ∷ made w)) (sym down.leads) (again, subst (Leads m root (made w)) (sym twice) (came.leads root leads)));
          none_tried = down.none_tried;
          left =
              came.left e threshold
              ∙ with_room m e threshold (made w) s (tried w) down.room
              ∙ ap (λ ks. and_above m e threshold (made w) s (looks_by (λ j. looks_from m e threshold (j ∷ made w) (m.after s j)) ks)) down.next
              ∙ ap (λ r. and_above m e threshold (made w) r (followed_by (looks_from m e threshold (k ∷ made w) (m.after s k)) (looks_later m e threshold (made w) r k))) (sym twice)
              ∙ ap (left_at m e threshold (k ∷ made w)) (sym down.leads)
              ∙ ap (λ ks. left_at m e threshold ks (state (machine q))) (sym down.made_more);
        }

    -- no turn is left anywhere: the round is over
    pub all_back : (p w v q : Walk M) → CameBack p w → NoneLeft m state w v → ((root : S) → Leads m root (made v) (state (machine v)) → StaysAtStart m state v q) → Leads m root (made p) (state (machine p)) → Over m state root (left_here m e threshold (made p) (state (machine p)) (tried p)) q
    all_back p w v q came none start leads =
        let same = none.same in
        let leads_w = came.leads root leads in
        let leads_v = subst (λ x. Leads m root (made x) (state (machine x))) (sym same) leads_w in
        let at = start root leads_v in
        record {
          none_made = at.none_made;
          none_tried = at.none_tried;
          at_root = ap state at.same ∙ subst (λ ks. Leads m root ks (state (machine v))) at.was_there leads_v;
          none_left = came.left e threshold ∙ none_left w v none e threshold ∙ ap (λ x. and_above m e threshold (made x) (state (machine x)) []) (sym same) ∙ ap (λ ks. and_above m e threshold ks (state (machine v)) []) at.was_there;
        }
