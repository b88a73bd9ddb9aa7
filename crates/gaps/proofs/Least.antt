use Rattle.std.proofs.Common.{◌≡◌, ℕ, zero, suc, ◌+◌, ◌-◌, ◌≤◌, min, Option, Some, map, sym, ap, ap₂, ◌∙◌, arith}
use Rattle.std.specs.List.{fold, range_with_len, reduce}
use Rattle.std.specs.Option.{unwrap_or}

-- The least of the numbers that e has from a on.
module _ (e : ℕ → ℕ) where
  abbrev pub least_from : ℕ → ℕ → Option ℕ
  least_from a n = reduce min (map e (range_with_len a n))

  fold_more : (x a n : ℕ) → fold min x (map e (range_with_len a (suc n))) ≡ min (fold min x (map e (range_with_len a n))) (e (a + n))
  fold_more x a zero = let same : a + 0 ≡ a = omega arith in ap (λ k. min x (e k)) (sym same)
  fold_more x a (suc n) = let same : a + 1 + n ≡ a + suc n = omega arith in fold_more (min x (e a)) (a + 1) n ∙ ap (λ k. min (fold min (min x (e a)) (map e (range_with_len (a + 1) n))) (e k)) same

  -- one number more
  more : (a n : ℕ) → Some (min (unwrap_or (least_from a n) (e (a + n))) (e (a + n))) ≡ least_from a (suc n)
  more a zero = let same : a + 0 ≡ a = omega arith in let once : min (e (a + 0)) (e (a + 0)) ≡ e (a + 0) = omega arith in ap Some (once ∙ ap e same)
  more a (suc n) = let same : a + 1 + n ≡ a + suc n = omega arith in ap Some (ap (λ k. min (fold min (e a) (map e (range_with_len (a + 1) n))) (e k)) (sym same) ∙ sym (fold_more (e a) (a + 1) n))

  pub least_more : (a k m after : ℕ) (least next : Option ℕ) → a ≤ k → m ≡ suc k - a → least ≡ least_from a (k - a) → after ≡ e k → next ≡ Some (min (unwrap_or least after) after) → next ≡ least_from a m
  least_more a k m after least next low long is at lesser =
      let here : a + (k - a) ≡ k = omega arith in
      let next : suc (k - a) ≡ m = omega arith in
      lesser ∙ ap₂ (λ l y. Some (min (unwrap_or l y) y)) is (at ∙ ap e (sym here)) ∙ more a (k - a) ∙ ap (least_from a) next
