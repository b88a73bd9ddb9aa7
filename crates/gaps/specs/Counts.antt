use Rattle.std.specs.Prelude.{ℕ, ◌+◌, ◌-◌, ◌/◌, Bool, not, ◌||◌, if◌then◌else◌, List, [], ◌∷◌, ◌++◌, count_by, drop, take, slice_index, ◌==◌, nat_lt, ℤ, pos, neg_ℤ, ◌+ℤ◌}
use Rattle.std.specs.Int.{abs_diff}
use Rattle.std.specs.List.{zip}
use Rattle.std.specs.Ordering.{int_eq}
use Rattle.ring.specs.declared.tray_ring.TrayRing.{TrayRing}
use Rattle.towers.specs.declared.tower.Tower.{Tower}
use Rattle.towers.specs.declared.sided_tray.SidedTray.{SidedTray}
use Rattle.trays.specs.declared.tray.Tray.{Ghosts}

-- How many of the trays are apart from the next one, where `end` comes after the last.
unfoldable pub apart_count : {A : Type 0} → (A → A → Bool) → List A → A → ℕ
apart_count apart xs end = count_by (λ p. apart p.0 p.1) (zip xs (drop 1 xs ++ end ∷ []))

-- How many trays of a tower of n are apart from the one below, where a plate lies below the last, which counts as tray n + 1.
unfoldable pub tower_count : {A : Type 0} {b : Ghosts A} → (A → A → Bool) → Tower A b → ℕ
tower_count {b = b} apart s = apart_count apart (take s.arrangement.n s.arrangement.trays) (b.form.upright (s.arrangement.n + 1))

-- Two trays of a plain tower differ by more than 1.
abbrev pub gap : ℕ → ℕ → Bool
gap tray below = nat_lt 1 (abs_diff tray below)

abbrev pub gaps : {b : Ghosts ℕ} → Tower ℕ b → ℕ
gaps s = tower_count gap s

-- A tray whose door is turned away counts as a negative number.
abbrev pub signed : SidedTray → ℤ
signed t = if t.away then neg_ℤ (pos t.number) else pos t.number

-- The tray below is not greater by exactly 1.
abbrev pub breakpoint : SidedTray → SidedTray → Bool
breakpoint tray below = not (int_eq (signed below) (signed tray +ℤ pos 1))

abbrev pub breakpoints : {b : Ghosts SidedTray} → Tower SidedTray b → ℕ
breakpoints s = tower_count breakpoint s

-- The difference of two neighbours in a ring of n trays is not 1 and not n - 1.
abbrev pub ring_gap : ℕ → ℕ → ℕ → Bool
ring_gap n tray next = not (abs_diff tray next == 1 || abs_diff tray next == n - 1)

-- The first tray comes after the last.
abbrev pub ring_gaps : TrayRing → ℕ
ring_gaps s = let xs = take s.arrangement.n s.arrangement.trays in apart_count (ring_gap s.arrangement.n) xs (slice_index xs 0)

-- Half the gaps of a ring, rounded up.
abbrev pub half_gaps : TrayRing → ℕ
half_gaps s = (ring_gaps s + 1) / 2
