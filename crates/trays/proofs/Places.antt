use Rattle.std.proofs.Common.{◌≡◌, ℕ, ◌+◌, ◌-◌, ◌<◌, ◌≤◌, true, false, List, Option, Some, None, MatchOption, option_map, length, take, drop, get_or, sym, ap, ◌∙◌, subst, arith}
use Rattle.std.proofs.lemmas.Bool.{true≢false}
use Rattle.std.proofs.lemmas.List.{get_or_default, get_or-drop, get_or-take, length-drop, length-take-le, take_all}
use Rattle.trays.specs.Form.{TrayForm, Regular, number_at, tray_at}
use Rattle.trays.specs.Settable.{Blank, Found, Numbered}

module _ {A : Type 0} (f : TrayForm A) (n : ℕ) (xs : List A) where
  -- an item of the first n trays is the tray at its place
  pub taken : (i : ℕ) (t : A) → i < length (take n xs) → n ≤ length xs → t ≡ get_or (take n xs) i t → (i < n) × (t ≡ tray_at f xs i)
  taken i t lt le is =
      let long = length-take-le n xs le in
      (omega arith, is ∙ get_or-take n xs i t (omega arith) ∙ get_or_default xs i t (f.upright 0) (omega arith))

  blank_at : Regular f → (k : ℕ) → n ≤ k → f.stands 0 (tray_at f xs (n + (k - n))) ≡ true → Blank f xs k
  blank_at reg k le t = let e : n + (k - n) ≡ k = omega arith in (reg.stands-upright 0 (tray_at f xs k)).0 (subst (λ (j : ℕ). f.stands 0 (tray_at f xs j) ≡ true) e t)

  -- s is the first place from n on where the test for no tray fails; r counts it from n
  pub blank_found : Regular f → (r s : Option ℕ) → s ≡ option_map (λ i. n + i) r → MatchOption r ((k : ℕ) → n + k < 32 → f.stands 0 (tray_at f xs (n + k)) ≡ true) (λ i. (n + i < 32) × (f.stands 0 (tray_at f xs (n + i)) ≡ false) × ((k : ℕ) → k < i → f.stands 0 (tray_at f xs (n + k)) ≡ true)) → Found (Blank f xs) n 32 s
  blank_found reg None s is all = subst (Found (Blank f xs) n 32) (sym is) (λ k le lt. blank_at reg k le (all (k - n) (omega arith)))
  blank_found reg (Some i) s is (lt, off, on) =
      subst (Found (Blank f xs) n 32) (sym is) (record {
        from = omega arith;
        to = lt;
        fails = λ e. true≢false (sym ((reg.stands-upright 0 (tray_at f xs (n + i))).1 e) ∙ off);
        before = λ k le lk. blank_at reg k le (on (k - n) (omega arith));
      })

  -- the trays from place n on, as a slice has them
  abbrev pub rest : List A
  rest = take (length xs - n) (drop n xs)

  rest_is : rest ≡ drop n xs
  rest_is = take_all (length xs - n) (drop n xs) (omega (arith, length-drop n xs))

  -- how many they are
  rest_long : length xs ≡ 32 → n ≤ 32 → n + length rest ≡ 32
  rest_long long le = let d = length-drop n xs in ap (λ ys. n + length ys) rest_is ∙ omega (arith, d, long, le)

  rest_at : (P : A → Type 0) (k : ℕ) → P (tray_at f rest k) → P (tray_at f xs (n + k))
  rest_at P k = subst P (ap (λ ys. tray_at f ys k) rest_is ∙ get_or-drop n xs k (f.upright 0))

  -- what a test for no tray says of the trays from place n on, it says of these places
  pub rest_tested : length xs ≡ 32 → n ≤ 32 → (r : Option ℕ) → MatchOption r ((k : ℕ) → k < length rest → f.stands 0 (tray_at f rest k) ≡ true) (λ i. (i < length rest) × (f.stands 0 (tray_at f rest i) ≡ false) × ((k : ℕ) → k < i → f.stands 0 (tray_at f rest k) ≡ true)) → MatchOption r ((k : ℕ) → n + k < 32 → f.stands 0 (tray_at f xs (n + k)) ≡ true) (λ i. (n + i < 32) × (f.stands 0 (tray_at f xs (n + i)) ≡ false) × ((k : ℕ) → k < i → f.stands 0 (tray_at f xs (n + k)) ≡ true))
  rest_tested long le None all = λ k lt. rest_at (λ t. f.stands 0 t ≡ true) k (all k (omega (arith, rest_long long le, lt)))
  rest_tested long le (Some i) (lt, off, on) = (omega (arith, rest_long long le, lt), rest_at (λ t. f.stands 0 t ≡ false) i off, λ k lk. rest_at (λ t. f.stands 0 t ≡ true) k (on k lk))

  numbered_at : n ≤ length xs → (k : ℕ) → k < n → Numbered n (number_at f (take n xs)) k → Numbered n (number_at f xs) k
  numbered_at le k lt = subst (λ t. (1 ≤ f.number t) × (f.number t ≤ n)) (get_or-take n xs k (f.upright 0) lt)

  -- r is the first of the first n places whose number is not from 1 to n
  pub numbered_found : n ≤ length xs → (r : Option ℕ) → MatchOption r ((k : ℕ) → k < length (take n xs) → Numbered n (number_at f (take n xs)) k) (λ i. (i < length (take n xs)) × (Numbered n (number_at f (take n xs)) i → ⊥) × ((k : ℕ) → k < i → Numbered n (number_at f (take n xs)) k)) → Found (Numbered n (number_at f xs)) 0 n r
  numbered_found le None all = λ k _ lt. numbered_at le k lt (all k (omega (arith, length-take-le n xs le, lt)))
  numbered_found le (Some i) (lt, off, on) =
      let few : i < n = omega (arith, length-take-le n xs le, lt) in
      record {
        from = omega arith;
        to = few;
        fails = λ e. off (subst (λ t. (1 ≤ f.number t) × (f.number t ≤ n)) (sym (get_or-take n xs i (f.upright 0) few)) e);
        before = λ k _ lk. numbered_at le k (omega (arith, few, lk)) (on k lk);
      }
