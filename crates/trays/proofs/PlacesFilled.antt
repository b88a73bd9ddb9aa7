use Rattle.std.proofs.Common.{◌≡◌, ℕ, suc, ◌+◌, ◌-◌, ◌<◌, ◌≤◌, eqb, List, length, take, get_or, set, replicate, sym, ap, ◌∙◌, subst, ⊎_elim, add-one, arith}
use Rattle.std.proofs.lemmas.Bool.{cases_eq, cond-true, cond-false, eq-eqb, ne_eqb}
use Rattle.std.proofs.lemmas.List.{ext_get_or, get_or-replicate, get_or-set_other, get_or-set_same, length-set}
use Rattle.trays.specs.Form.{TrayForm, Regular, number_at, tray_at}
use Rattle.trays.specs.Permutation.{answering, inverse, last}
use Rattle.trays.proofs.Inverses.{inverts, length-inverse, placed, tray_at-inverse}
use Rattle.trays.proofs.Places.{taken}

-- The inverse, one tray after the other.
module _ {A : Type 0} (f : TrayForm A) (reg : Regular f) (xs : List A) where
  pub no_inverse : (t : A) → t ≡ f.upright 0 → replicate 32 t ≡ inverse f 0 xs
  unfolding last
  no_inverse t e =
      let a = length-inverse f reg 0 xs in
      ext_get_or (f.upright 0) (replicate 32 t) (inverse f 0 xs) (omega arith)
      (λ j lt. get_or-replicate 32 j t (f.upright 0) lt ∙ e ∙ sym (tray_at-inverse f reg 0 xs j (omega arith)))

  module _ (i : ℕ) (ps : List A) (was : ps ≡ inverse f i xs) where
    sized : length ps ≡ 32
    sized = ap length was ∙ length-inverse f reg i xs

    here : (j : ℕ) → j < 32 → number_at f xs i ≡ suc j → tray_at f (inverse f (suc i) xs) j ≡ f.renumbered (suc i) (tray_at f xs i)
    unfolding last
    here j lt e =
        tray_at-inverse f reg (suc i) xs j (omega arith)
        ∙ ap (answering f xs) (cond-true (eqb (number_at f xs i) (suc j)) (suc i) (placed f reg i xs (suc j)) (eq-eqb (number_at f xs i) (suc j) e))

    elsewhere : (j : ℕ) → j < 32 → (number_at f xs i ≡ suc j → ⊥) → tray_at f ps j ≡ tray_at f (inverse f (suc i) xs) j
    unfolding last
    elsewhere j lt ne =
        ap (λ (l : List A). tray_at f l j) was
        ∙ tray_at-inverse f reg i xs j (omega arith)
        ∙ sym (tray_at-inverse f reg (suc i) xs j (omega arith)
        ∙ ap (answering f xs) (cond-false (eqb (number_at f xs i) (suc j)) (suc i) (placed f reg i xs (suc j)) (ne_eqb (number_at f xs i) (suc j) ne)))

    -- a turn over the first n of 32 trays: t stands at place i, and v is its number
    pub place_set : (n v : ℕ) (t u : A) → length xs ≡ 32 → n ≤ 32 → i < length (take n xs) → t ≡ get_or (take n xs) i t → v ≡ f.number t → 1 ≤ v → v ≤ 32 → u ≡ f.renumbered (i + 1) t → set ps (v - 1) u ≡ inverse f (i + 1) xs
    place_set n v t u long few turn item number low high is =
        let at = (taken f n xs i t turn (omega arith) item).1 in
        let a = length-inverse f reg (suc i) xs in
        let b = sized in
        let c = length-set ps (v - 1) u in
        let n : v ≡ number_at f xs i = number ∙ ap f.number at in
        subst (λ (k : ℕ). set ps (v - 1) u ≡ inverse f k xs) (sym (add-one i))
        (ext_get_or (f.upright 0) (set ps (v - 1) u) (inverse f (suc i) xs) (omega arith)
        (λ j lt.
        ⊎_elim
        (λ (e : j ≡ v - 1).
        subst (λ (k : ℕ). tray_at f (set ps (v - 1) u) k ≡ tray_at f (inverse f (suc i) xs) k) (sym e)
        (get_or-set_same ps (v - 1) u (f.upright 0) (omega arith)
        ∙ is
        ∙ ap (λ (k : ℕ). f.renumbered k t) (add-one i)
        ∙ ap (f.renumbered (suc i)) at
        ∙ sym (here (v - 1) (omega arith) (omega arith))))
        (λ (ne : j ≡ v - 1 → ⊥). get_or-set_other ps (v - 1) j u (f.upright 0) ne ∙ elsewhere j (omega arith) (λ e. ne (omega arith)))
        (cases_eq j (v - 1))))

    pub place_none : (n v : ℕ) (t : A) → length xs ≡ 32 → n ≤ 32 → i < length (take n xs) → t ≡ get_or (take n xs) i t → v ≡ f.number t → ((1 ≤ v) × (v ≤ 32) → ⊥) → ps ≡ inverse f (i + 1) xs
    place_none n v t long few turn item number out =
        let at = (taken f n xs i t turn (omega arith) item).1 in
        let a = length-inverse f reg (suc i) xs in
        let b = sized in
        let n : v ≡ number_at f xs i = number ∙ ap f.number at in
        subst (λ (k : ℕ). ps ≡ inverse f k xs) (sym (add-one i))
        (ext_get_or (f.upright 0) ps (inverse f (suc i) xs) (omega arith) (λ j lt. elsewhere j (omega arith) (λ e. out (omega arith, omega arith))))

-- what a function that makes an inverse stands on
pub ruleset placing = (inverts, no_inverse, place_set, place_none)
