use Rattle.std.specs.Prelude.{◌≡◌, ℕ, zero, suc, ◌-◌, ◌^◌, ◌↔◌, bit_or, count_ones}
use Rattle.trays.specs.Settable.{Each, EachStands, New, Numbered}

-- The marks of the first i of the numbers f: number v sets the binary digit v - 1.
unfoldable pub marks : (ℕ → ℕ) → ℕ → ℕ
marks f zero = 0
marks f (suc i) = bit_or (marks f i) (2 ^ (f i - 1))

-- Of n numbers from 1 to n, n marks are set exactly where none stands twice, and exactly where each number from 1 to n stands at some place.
abbrev pub MarksCount : Type 0
MarksCount = (n : ℕ) (f : ℕ → ℕ) → Each (Numbered n f) 0 n → ((count_ones (marks f n) ≡ n) ↔ Each (New f) 0 n) × ((count_ones (marks f n) ≡ n) ↔ EachStands n f)
