use Rattle.std.proofs.Common.{◌≡◌, ℕ, ◌+◌, ◌≤◌, ◌<◌, true, false, List, [], ◌∷◌, length, Option, Some, None, sym, subst, ap, ap₂, ◌∙◌, arith}
use Rattle.machine.specs.Meaning.{Meaning, Lawful}
use Rattle.search.specs.Search.{Look, cut, continued, round, rounds_from, allowed}
use Rattle.search.specs.Shortest.{Unbounded}
use Rattle.search.proofs.Searches.{some_looks}
use Rattle.search.proofs.Thresholds.{allowed_cases}
use Rattle.walk.proofs.Back.{with_room}
use Rattle.walk.specs.Left.{Leads, and_above, left_at, left_after, left_here}
use Rattle.walk.specs.Walks.{made, tried, machine, Over}
use Rattle.walk.specs.declared.walk.Walk.{Walk}
use Rattle.planner.specs.ToCome.{with_cut, to_come}
use Rattle.planner.specs.UnderWay.{NotHome, BeforeFirst, InRound, Waits, UnderWay, GoneOn, CameHome, Looked}
use Rattle.planner.specs.declared.progress.Progress.{Progress}
use Rattle.planner.specs.declared.seen.Seen.{Seen}
use Rattle.planner.specs.declared.seen.Seen.TheVariants.{GoesOn, Home, Ended}
use Rattle.planner.proofs.LookCases.{some_to_come, next_begins, look_cut, look_home, look_continued}

allowed_some : (limit n t : ℕ) → allowed limit n ≡ Some t → (t ≡ n) × (t ≤ limit)
allowed_some limit n t =
    allowed_cases (λ o. o ≡ Some t → (t ≡ n) × (t ≤ limit)) limit n
    (λ over is. absurd (subst IsNone is tt))
    (λ le is. let same : n ≡ t = cc in (sym same, omega arith))
  where
    IsNone : Option ℕ → Type 0
    IsNone None = Unit {0}
    IsNone (Some t) = ⊥

-- what the first look sets, as it is asked
pub threshold_set : (limit l n k : ℕ) (r o : Option ℕ) → l ≡ limit → k ≡ n → r ≡ allowed l k → r ≡ o → allowed limit n ≡ o
threshold_set limit l n k r o same asked is set = sym (ap₂ allowed same asked) ∙ sym is ∙ set

-- the total of a state, as it is added up
pub total_is : (a b c d length estimate : ℕ) → a ≡ b → b ≡ length → c ≡ d → d ≡ estimate → a + c ≡ length + estimate
total_is a b c d length estimate p q r s = omega arith

module _ {S M : Type 0} (m : Meaning S) (state : M → S) (e : S → ℕ) (limit : ℕ) (s : S) where
  some_waiting : (threshold least : Option ℕ) (w : Walk M) (xs : List Look) → Waits m state e limit s threshold least w xs → 1 ≤ length xs
  some_waiting None least w xs x = subst (λ l. 1 ≤ length {A = Look} l) (sym x.is) (some_looks m e limit s)
  some_waiting (Some t) least w xs x =
      subst (λ l. 1 ≤ length {A = Look} l) (sym (x.is ∙ ap (to_come m e limit s least) x.stands.left)) (some_to_come m e limit s t least (made w) (state (machine w)))

  -- a search that is under way has a look to make
  pub some_under_way : (p : Progress M) (xs : List Look) → UnderWay m state e limit s p xs → 1 ≤ length xs
  some_under_way p xs x = some_waiting p.threshold p.least p.walk xs x.waits

  -- back at the beginning, with this threshold for the next round
  pub next_round : Unbounded m e → (w : Walk M) (t : ℕ) (left : List Look) → t ≤ limit → Over m state s left w → InRound m state e limit s t None w (to_come m e limit s (Some t) left)
  next_round bounds w t left le over = record {
    allowed = le;
    left = round m e t s;
    stands = record {
      leads = subst (λ ks. Leads m s ks (state (machine w))) (sym over.none_made) over.at_root;
      none_tried = over.none_tried;
      left = ap₂ (left_at m e t) (sym over.none_made) (sym over.at_root);
    };
    is = ap (to_come m e limit s (Some t)) over.none_left ∙ next_begins m e limit s bounds t le;
  }

  in_round : (p : Progress M) (xs : List Look) (t : ℕ) → p.threshold ≡ Some t → UnderWay m state e limit s p xs → InRound m state e limit s t p.least p.walk xs
  in_round p xs t is x = subst (λ o. Waits m state e limit s o p.least p.walk xs) is x.waits

  -- the first look sets the threshold of the first round, and no total is above it
  pub first_begins : Unbounded m e → (least : Option ℕ) (w : Walk M) (xs : List Look) (t : ℕ) → BeforeFirst m state e limit s least w xs → allowed limit (e (state (machine w))) ≡ Some t →
      InRound m state e limit s t least w xs × (length (made w) + e (state (machine w)) ≤ t)
  first_begins bounds least w xs t x is =
      let set : allowed limit (e s) ≡ Some t = ap (λ r. allowed limit (e r)) (sym x.at_start) ∙ is in
      let a = allowed_some limit (e s) t set in
      let here : e (state (machine w)) ≡ e s = ap e x.at_start in
      let none : length (made w) ≡ 0 = ap length x.none_made in
      let first = a.0 in (
        record {
          allowed = a.1;
          left = round m e t s;
          stands = record {
            leads = subst (λ ks. Leads m s ks (state (machine w))) (sym x.none_made) x.at_start;
            none_tried = x.none_tried;
            left = ap₂ (left_at m e t) (sym x.none_made) (sym x.at_start);
          };
          is = x.is
              ∙ ap (λ o. elim o as (λ _. List Look) [ None ↦ cut (e s) ∷ [] | Some u ↦ rounds_from m e limit s u ]) set
              ∙ bounds.rounds limit s t a.1
              ∙ ap (λ o. to_come m e limit s o (round m e t s)) (sym x.none_cut);
        },
        omega arith,
      )

  pub came_home : Unbounded m e → (p : Progress M) (xs : List Look) (t : ℕ) → p.threshold ≡ Some t → length (made p.walk) + e (state (machine p.walk)) ≤ t → m.home (state (machine p.walk)) ≡ true → UnderWay m state e limit s p xs → CameHome m state e limit s p xs
  came_home bounds p xs t is fits here x =
      let r = in_round p xs t is x in
      let low = p.low_limit in
      let same = x.same_limit in
      let allowed = r.allowed in
      record {
        is = r.is ∙ ap (to_come m e limit s p.least) r.stands.left ∙ look_home m e limit s bounds t p.least (made p.walk) (state (machine p.walk)) fits here;
        within = omega arith;
      }

  -- the state is not home: the look is cut or continued, and then the search goes on or ends
  pub looked_on : (seen : Seen) (q : Progress M) (xs : List Look) (look : Look) (rest : List Look) → NotHome look → xs ≡ look ∷ rest → GoneOn m state e limit s seen q rest → Looked m state e limit s seen q xs
  looked_on GoesOn q xs look rest h is on = record { look = look; not_home = h; rest = rest; is = is; gone_on = on }
  looked_on Home q xs look rest h is on = absurd on
  looked_on Ended q xs look rest h is on = record { look = look; not_home = h; rest = rest; is = is; gone_on = on }

  -- One look in a round. By `settles` the search has gone on from what is left after it.
  module _ (bounds : Unbounded m e) (seen : Seen) (p q : Progress M) (xs : List Look) (t : ℕ) (is : p.threshold ≡ Some t) (x : UnderWay m state e limit s p xs) where
    pub kept : Lawful m → length (made p.walk) + e (state (machine p.walk)) ≤ t → m.home (state (machine p.walk)) ≡ false →
        (t ≤ limit → Leads m s (made p.walk) (state (machine p.walk)) → GoneOn m state e limit s seen q (to_come m e limit s p.least (left_here m e t (made p.walk) (state (machine p.walk)) (tried p.walk)))) → Looked m state e limit s seen q xs
    kept law fits away settles =
        let r = in_round p xs t is x in
        let here = state (machine p.walk) in
        let low = p.low_limit in
        let same = x.same_limit in
        let allowed = r.allowed in
        looked_on seen q xs continued _ tt
        (r.is
        ∙ ap (to_come m e limit s p.least) r.stands.left
        ∙ look_continued m e limit s bounds t p.least (made p.walk) here fits law away
        ∙ ap (λ k. continued ∷ to_come m e limit s p.least (left_after m e t (made p.walk) here k)) (sym r.stands.none_tried)
        ∙ ap (λ l. continued ∷ to_come m e limit s p.least l) (sym (with_room m e t (made p.walk) here (tried p.walk) (omega arith))))
        (settles r.allowed r.stands.leads)

    pub cut_off : (total : ℕ) → total ≡ length (made p.walk) + e (state (machine p.walk)) → t < total →
        (t ≤ limit → Leads m s (made p.walk) (state (machine p.walk)) → GoneOn m state e limit s seen q (to_come m e limit s (with_cut p.least total) (and_above m e t (made p.walk) (state (machine p.walk)) []))) → Looked m state e limit s seen q xs
    cut_off total total_is above settles =
        let r = in_round p xs t is x in
        looked_on seen q xs (cut total) _ tt
        (r.is ∙ ap (to_come m e limit s p.least) r.stands.left ∙ look_cut m e limit s bounds t p.least (made p.walk) (state (machine p.walk)) total total_is above)
        (settles r.allowed r.stands.leads)
