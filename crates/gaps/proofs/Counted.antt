use Rattle.std.proofs.Common.{◌≡◌, ℕ, suc, ◌+◌, ◌<◌, Bool, cond, List, length, get_or, sym, ap, ap₂, ◌∙◌, arith}
use Rattle.std.proofs.lemmas.List.{get_or_default}
use Rattle.trays.proofs.Neighbours.{apart_at}
use Rattle.trays.proofs.Tally.{tally, tally_more, tally_zero}
use Rattle.gaps.specs.Counts.{apart_count}
use Rattle.gaps.specs.Laws.{apart_count-tally}

module _ {A : Type 0} (apart : A → A → Bool) (xs : List A) (end : A) where
  -- how many of the first i items are apart from the next one
  unfoldable pub counted : ℕ → ℕ
  counted i = tally i (apart_at apart (λ j. get_or xs j end))

  pub counted_none : 0 ≡ counted 0
  unfolding counted
  counted_none = sym (tally_zero (apart_at apart (λ j. get_or xs j end)))

  pub counted_more : (i count more : ℕ) (x y : A) (is : Bool) → i < length xs → x ≡ get_or xs i x → y ≡ get_or xs (i + 1) end → is ≡ apart x y → more ≡ cond is 1 0 → count ≡ counted i → count + more ≡ counted (i + 1)
  unfolding counted
  counted_more i count more x y is lt at next test byte before =
      let here : x ≡ get_or xs i end = at ∙ get_or_default xs i x end lt in
      let e : i + 1 ≡ suc i = omega arith in
      let same : ◌≡◌ {A = ℕ} (cond is 1 0) (cond (apart_at apart (λ j. get_or xs j end) i) 1 0) = ap (λ (b : Bool). cond b 1 0) (test ∙ ap₂ apart here (next ∙ ap (λ j. get_or xs j end) e)) in
      let step = tally_more i (apart_at apart (λ j. get_or xs j end)) in
      let far = ap (λ n. tally n (apart_at apart (λ j. get_or xs j end))) e in
      omega arith

  pub counted_all : (i count : ℕ) → length xs ≡ i → count ≡ counted i → count ≡ apart_count apart xs end
  unfolding counted
  counted_all i count all is = is ∙ ap (λ n. tally n (apart_at apart (λ j. get_or xs j end))) (sym all) ∙ sym (apart_count-tally apart xs end)
