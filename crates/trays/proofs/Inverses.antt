use Rattle.std.proofs.Common.{◌≡◌, ℕ, zero, suc, ◌-◌, ◌<◌, ◌≤◌, min, Bool, true, false, IsTrue, eqb, List, length, sym, refl, ap, ◌∙◌, subst, ⊎_elim, arith}
use Rattle.std.proofs.lemmas.Bool.{cases_eq, cases_lt, cond-true, cond-false, eqb-true, eq-eqb, ne_eqb}
use Rattle.std.proofs.lemmas.List.{get_or_past, ext_get_or}
use Rattle.std.proofs.lemmas.List.FromFn.{length-map-range_with_len, get_or-map-range_with_len}
use Rattle.trays.specs.Form.{TrayForm, Regular, number_at, tray_at}
use Rattle.trays.specs.Permutation.{Inverts, last, answering, inverse, permutation}
use Rattle.trays.proofs.MarkCounts.{covers}
use Rattle.trays.proofs.Permutations.{Permutation, Ordered, from_test, to_test}

last_is : (n : ℕ) (p : ℕ → Bool) (i : ℕ) → i < n → p i ≡ true → ((j : ℕ) → j < n → p j ≡ true → j ≡ i) → last n p ≡ suc i
unfolding last
last_is zero p i lt here only = absurd (omega arith)
last_is (suc n) p i lt here only =
    ⊎_elim
    (λ (e : i ≡ n). cond-true (p n) (suc n) (last n p) (subst (λ (x : ℕ). p x ≡ true) e here) ∙ ap suc (sym e))
    (λ (ne : i ≡ n → ⊥).
    cond-false (p n) (suc n) (last n p) (elim (p n) as (λ b. p n ≡ b → p n ≡ false) [ true ↦ λ q. absurd (ne (sym (only n (omega arith) q))) | false ↦ λ q. q ] refl)
    ∙ last_is n p i (omega arith) here (λ j lj q. only j (omega arith) q))
    (cases_eq i n)

last_none : (n : ℕ) (p : ℕ → Bool) → ((j : ℕ) → j < n → p j ≡ false) → last n p ≡ 0
unfolding last
last_none zero p none = refl
last_none (suc n) p none = cond-false (p n) (suc n) (last n p) (none n (omega arith)) ∙ last_none n p (λ j lj. none j (omega arith))

module _ {A : Type 0} (f : TrayForm A) (reg : Regular f) (n : ℕ) where
  -- the place that holds number v, one more than counted from 0, or 0
  abbrev pub placed : List A → ℕ → ℕ
  placed xs v = last n (λ i. eqb (number_at f xs i) v)

  pub inverse_fits : (xs ys : List A) → n ≤ 32 → ys ≡ inverse f (min n 32) xs → ys ≡ inverse f n xs
  inverse_fits xs ys le e = let q : min n 32 ≡ n = omega arith in e ∙ ap (λ (k : ℕ). inverse f k xs) q

  pub length-inverse : (xs : List A) → length (inverse f n xs) ≡ 32
  unfolding inverse
  length-inverse xs = length-map-range_with_len (λ j. answering f xs (placed xs (suc j))) 0 32

  pub tray_at-inverse : (xs : List A) (j : ℕ) → j < 32 → tray_at f (inverse f n xs) j ≡ answering f xs (placed xs (suc j))
  unfolding inverse
  tray_at-inverse xs j lt = get_or-map-range_with_len (λ j. answering f xs (placed xs (suc j))) 0 32 j j (f.upright 0) lt (omega arith)

  module _ (xs : List A) (s : Permutation f n xs) (most : n ≤ 32) where
    -- each number from 1 to n has its place
    pub place_of : (v : ℕ) → v < n → (i : ℕ) × (i < n) × (number_at f xs i ≡ suc v)
    place_of v lt = covers n (number_at f xs) s.ranged s.apart v lt

    -- what stands at j in the inverse, in terms of the place that holds j
    pub inverse_at : (i j : ℕ) → i < n → number_at f xs i ≡ suc j → tray_at f (inverse f n xs) j ≡ f.renumbered (suc i) (tray_at f xs i)
    inverse_at i j lt e =
        let r = s.ranged i lt in
        tray_at-inverse xs j (omega arith)
        ∙ ap (answering f xs) (last_is n (λ k. eqb (number_at f xs k) (suc j)) i lt (eq-eqb (number_at f xs i) (suc j) e) (λ k lk q. s.apart k i lk lt (eqb-true (number_at f xs k) (suc j) q ∙ sym e)))

    pub inverse_past : (j : ℕ) → n ≤ j → tray_at f (inverse f n xs) j ≡ f.upright 0
    inverse_past j ge =
        ⊎_elim
        (λ (lt : j < 32).
        tray_at-inverse xs j lt
        ∙ ap (answering f xs) (last_none n (λ k. eqb (number_at f xs k) (suc j)) (λ k lk. ne_eqb (number_at f xs k) (suc j) (λ e. let r = s.ranged k lk in omega arith))))
        (λ (past : 32 ≤ j). get_or_past (inverse f n xs) j (f.upright 0) (let a = length-inverse xs in omega arith))
        (cases_lt j 32)

    number-inverse : (i j : ℕ) → i < n → number_at f xs i ≡ suc j → number_at f (inverse f n xs) j ≡ suc i
    number-inverse i j lt e = ap f.number (inverse_at i j lt e) ∙ reg.number-renumbered (suc i) (tray_at f xs i)

    pub inverse_permutation : Permutation f n (inverse f n xs)
    inverse_permutation =
        record {
          long = length-inverse xs;
          ranged = λ j lj.
              let c = place_of j lj in
              let lt = c.1 in
              let e = number-inverse c.0 j c.1 c.2 in
              (omega arith, omega arith);
          apart = λ i j li lj e.
              let a = place_of i li in
              let b = place_of j lj in
              let p = number-inverse a.0 i a.1 a.2 in
              let q = number-inverse b.0 j b.1 b.2 in
              let same : a.0 ≡ b.0 = omega arith in
              let vals : suc i ≡ suc j = sym a.2 ∙ ap (number_at f xs) same ∙ b.2 in
              omega arith;
          blank = inverse_past;
        }

    -- trays that stand as at home do so in the inverse
    pub ordered_inverse : Ordered f reg n xs → Ordered f reg n (inverse f n xs)
    ordered_inverse h i lt =
        inverse_at i i lt (ap f.number (h i lt) ∙ reg.number-upright (suc i))
        ∙ ap (f.renumbered (suc i)) (h i lt)
        ∙ reg.renumbered-upright (suc i) (suc i)

  -- the inverse of the inverse is the list itself
  pub inverse_twice : (xs : List A) → Permutation f n xs → n ≤ 32 → inverse f n (inverse f n xs) ≡ xs
  inverse_twice xs s most =
      let ys = inverse f n xs in
      let t = inverse_permutation xs s most in
      ext_get_or (f.upright 0) (inverse f n ys) xs (length-inverse ys ∙ sym s.long)
      (λ i _.
      ⊎_elim
      (λ (lt : i < n).
      let r = s.ranged i lt in
      let j = number_at f xs i - 1 in
      let e : number_at f xs i ≡ suc j = omega arith in
      inverse_at ys t most j i (omega arith) (number-inverse xs s most i j lt e)
      ∙ ap (f.renumbered (suc j)) (inverse_at xs s most i j lt e)
      ∙ reg.renumbered_again (suc j) (suc i) (tray_at f xs i)
      ∙ ap (λ (v : ℕ). f.renumbered v (tray_at f xs i)) (sym e)
      ∙ reg.renumbered_same (tray_at f xs i))
      (λ (ge : n ≤ i). inverse_past ys t most i ge ∙ sym (s.blank i ge))
      (cases_lt i n))

pub inverts : {A : Type 0} (f : TrayForm A) → Regular f → Inverts f
inverts f reg n xs most t = inverse_at f reg n xs (from_test f reg n xs t) most

-- the inverse keeps the test
pub inverse_kept : {A : Type 0} (f : TrayForm A) → Regular f → (n : ℕ) (xs ys : List A) → n ≤ 32 → IsTrue (permutation f n xs) → ys ≡ inverse f (min n 32) xs → IsTrue (permutation f n ys)
inverse_kept f reg n xs ys most t e =
    to_test f reg n ys (subst (Permutation f n) (sym (inverse_fits f reg n xs ys most e)) (inverse_permutation f reg n xs (from_test f reg n xs t) most))
