use Rattle.std.proofs.Common.{◌≡◌, ℕ, suc, ◌-◌, ◌≤◌, ◌<◌, Bool, true, false, not, ◌&&◌, List, [], ◌∷◌, sym, ap, ◌∙◌, arith, ◌==◌, nat_lt}
use Rattle.std.proofs.lemmas.Bool.{and_from, and_parts, and_right, not-true, not_from_false, false_from_ne_true, ltb-true, lt-ltb, le-ltb, eqb-false, ne_eqb}
use Rattle.std.specs.List.{filter}
use Rattle.machine.specs.Meaning.{Meaning, Lawful}
use Rattle.machine.specs.Turns.{turns}
use Rattle.machine.specs.declared.turn_range.TurnRange.{TurnRange}
use Rattle.walk.specs.declared.depth_record.DepthRecord.{DepthRecord}
use Rattle.walk.specs.Left.{later}
use Rattle.walk.specs.Nexts.{MayTry}
use Rattle.walk.specs.Records.{first_or_none}
use Rattle.walk.proofs.Ranges.{filter_both, filter_all, filter_none, filter_least}

-- The next turn to try is the first of the later ones.

-- A turn is not the one that led here, and comes after the one tried last.
abbrev is_left : ℕ → ℕ → ℕ → Bool
is_left led tried k = not (k == led) && nat_lt tried k

left_if : (led tried k : ℕ) → (k ≡ led → ⊥) → tried < k → is_left led tried k ≡ true
left_if led tried k other more = and_from (not (k == led)) (nat_lt tried k) (not_from_false (k == led) (ne_eqb k led other)) (lt-ltb tried k more)

not_left_if : (led tried k : ℕ) → ((k ≡ led → ⊥) → tried < k → ⊥) → is_left led tried k ≡ false
not_left_if led tried k h =
    false_from_ne_true (is_left led tried k)
    (λ t.
    let both = and_parts (not (k == led)) (nat_lt tried k) t in
    h (eqb-false k led (not-true (k == led) both.0)) (ltb-true tried k both.1))

module _ {S : Type 0} (m : Meaning S) (law : Lawful m) (s : S) where
  later_is : (made : List ℕ) (tried : ℕ) → later m made s tried ≡ filter (is_left (first_or_none made) tried) (turns m s)
  later_is [] tried =
      let least = law.from_one s in
      ap (filter (λ k. nat_lt tried k)) (sym (filter_all (λ k. not (k == 0)) (m.lowest s) (suc (m.highest s) - m.lowest s) (λ k low. not_from_false (k == 0) (ne_eqb k 0 (λ e. omega arith)))))
      ∙ filter_both (λ k. not (k == 0)) (λ k. nat_lt tried k) (turns m s)
  later_is (led ∷ made) tried = filter_both (λ k. not (k == led)) (λ k. nat_lt tried k) (turns m s)

  module _ (made : List ℕ) (range : TurnRange) (here : DepthRecord) (lowest : range.lowest ≡ m.lowest s) (highest : range.highest ≡ m.highest s) (led : here.led ≡ first_or_none made) (t : ℕ) (tried : here.tried ≡ t) where
    pub none_later : ((k : ℕ) → MayTry range here k → ⊥) → later m made s t ≡ []
    none_later none =
        ap (later m made s) (sym tried)
        ∙ later_is made here.tried
        ∙ filter_none (is_left (first_or_none made) here.tried) (m.lowest s) (suc (m.highest s) - m.lowest s)
        (λ k low high.
        not_left_if (first_or_none made) here.tried k
        (λ other more. none k (record { low = omega arith; high = omega arith; later = more; other = λ e. other (e ∙ led) })))

    pub next_later : (k : ℕ) → MayTry range here k → ((j : ℕ) → MayTry range here j → k ≤ j) → later m made s t ≡ k ∷ later m made s k
    next_later k may least =
        let in_low = may.low in
        let in_high = may.high in
        let more = may.later in
        ap (later m made s) (sym tried)
        ∙ later_is made here.tried
        ∙ filter_least (is_left (first_or_none made) here.tried) (is_left (first_or_none made) k) k (m.lowest s) (suc (m.highest s) - m.lowest s)
        (omega arith) (omega arith)
        (left_if (first_or_none made) here.tried k (λ e. may.other (e ∙ sym led)) may.later)
        (λ j low below.
        not_left_if (first_or_none made) here.tried j
        (λ other after. let le = least j (record { low = omega arith; high = omega arith; later = after; other = λ e. other (e ∙ led) }) in omega arith))
        (λ j le. and_right (not (j == first_or_none made)) (nat_lt k j) (le-ltb k j le))
        (λ j above. ap (λ b. not (j == first_or_none made) && b) (lt-ltb here.tried j (omega arith) ∙ sym (lt-ltb k j above)))
        ∙ ap (λ ks. k ∷ ks) (sym (later_is made k))
