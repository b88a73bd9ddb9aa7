use Rattle.std.proofs.Common.{◌≡◌, ℕ, zero, suc, ◌+◌, ◌<◌, ◌≤◌, List, get_or, sym, subst, ⊎_elim, arith}
use denote.Param.Members.{Mut}
use Rattle.std.specs.Fn.{Called}
use Rattle.std.specs.Array.{IsFromFnResult, IsFromFnResultFrom}
use Rattle.std.proofs.lemmas.Bool.{cases_eq}

-- What `array::from_fn` made has P at each place, where a call leaves the closure as it was and gives what has P.
module _ {F B : Type 0} (g : Mut F (ℕ × Unit {0}) B) (f : F) (ys : List B) (P : ℕ → B → Type 0) (d : B) where
  made_from : (i n : ℕ) → IsFromFnResultFrom g f ys i n → ((k : ℕ) (y : B) (q : F) → k < i + n → Called g f (k, tt) y q → (q ≡ f) × P k y) → (k : ℕ) → i ≤ k → k < i + n → P k (get_or ys k d)
  made_from i zero h call k le lt = absurd (omega arith)
  made_from i (suc n) (q, y, at, was, rest) call k le lt =
      let here = call i y q (omega arith) was in
      ⊎_elim
      (λ (e : k ≡ i). subst (λ (j : ℕ). P j (get_or ys j d)) (sym e) (subst (P i) (sym (at.1 d)) here.1))
      (λ (ne : k ≡ i → ⊥). made_from (i + 1) n (subst (λ (p : F). IsFromFnResultFrom g p ys (i + 1) n) here.0 rest) (λ j z p lj. call j z p (omega arith)) k (omega arith) (omega arith))
      (cases_eq k i)

  pub made_each : (n : ℕ) → IsFromFnResult g f ys n → ((k : ℕ) (y : B) (q : F) → k < n → Called g f (k, tt) y q → (q ≡ f) × P k y) → (k : ℕ) → k < n → P k (get_or ys k d)
  made_each n h call k lt = made_from 0 n h.each (λ j y q lj. call j y q (omega arith)) k (omega arith) (omega arith)
