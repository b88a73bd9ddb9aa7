use Rattle.std.proofs.Common.{◌≡◌, ℕ, zero, suc, ◌+◌, ◌-◌, ◌<◌, Bool, true, false, Option, refl, ap, ◌∙◌, arith}
use Rattle.std.proofs.lemmas.Iterator.{YieldsList}
use Rattle.std.specs.declared.ops.RangeInclusive.{RangeInclusive}
use Rattle.std.specs.Iterator.{AlwaysYields}
use Rattle.std.specs.List.{range_with_len}
use Rattle.std.specs.Range.{range_inclusive_end, range_inclusive_exhausted, range_inclusive_left, range_inclusive_len, range_inclusive_start, range_inclusive_steps}

-- A range of numbers with both its ends gives each number from the one to the other.

abbrev Steps : RangeInclusive ℕ → Option ℕ → RangeInclusive ℕ → Type 0
Steps = range_inclusive_steps (λ x y. y - x) (λ x y. y ≡ x + 1)

abbrev left : RangeInclusive ℕ → ℕ
left = range_inclusive_left (λ x y. y - x)

-- where something is left, it is not spent, so the start has moved on by one
moved : (s : RangeInclusive ℕ) (a n : ℕ) (spent : Bool) → range_inclusive_exhausted s ≡ spent → left s ≡ n → 0 < n → (range_inclusive_exhausted s ≡ false → range_inclusive_start s ≡ a) → range_inclusive_start s ≡ a
moved s a n true is all some next =
    let none : left s ≡ 0 = ap (range_inclusive_len (λ x y. y - x) (range_inclusive_start s) (range_inclusive_end s)) is in omega arith
moved s a n false is all some next = next is

gives : (n a : ℕ) (s : RangeInclusive ℕ) → left s ≡ n → (0 < n → range_inclusive_start s ≡ a) → AlwaysYields Steps (λ x. x) s (range_with_len a n)
gives zero a s all first = λ x t step. let fewer = step.1.1 in omega arith
gives (suc n) a s all first = (
  (λ t step. let none = step.1.0 in omega arith),
  λ x t step.
      let fewer = step.1.1 in
      let start = first (omega arith) in
      (step.1.0 ∙ start, gives n (a + 1) t (omega arith) (λ some. moved t (a + 1) n (range_inclusive_exhausted t) refl (omega arith) some (λ on. step.1.2 on ∙ ap (λ x. x + 1) start))),
)

pub closed : (a b x y : ℕ) (s : RangeInclusive ℕ) → x ≡ a → y ≡ b → range_inclusive_start s ≡ x → range_inclusive_end s ≡ y → range_inclusive_exhausted s ≡ false → YieldsList Steps (λ k. k) s (range_with_len a (suc b - a))
closed a b x y s from to start end fresh =
    let all : left s ≡ range_inclusive_len (λ x y. y - x) (range_inclusive_start s) (range_inclusive_end s) false = ap (range_inclusive_len (λ x y. y - x) (range_inclusive_start s) (range_inclusive_end s)) fresh in
    record { runs = gives (suc b - a) a s (omega arith) (λ _. start ∙ from) }
