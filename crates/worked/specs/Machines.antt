use Rattle.std.specs.Prelude.{ℕ, ◌-◌, ◌≤◌, true, IsTrue, List, [], ◌∷◌, ◌++◌, length, replicate, refl}
use Rattle.std.proofs.Math.Dec.{lit≤}
use Rattle.std.proofs.Math.Nat.{le_trans}
use Rattle.trays.specs.declared.arrangement.Arrangement.{Arrangement}
use Rattle.trays.specs.declared.arrangement.TheConstants.{MOST_TRAYS}
use Rattle.trays.specs.declared.tray.Tray.{Ghosts}
use Rattle.trays.specs.Form.{TrayForm, number_tray}
use Rattle.trays.specs.Permutation.{permutation, every, some}
use Rattle.trays.specs.Settable.{Counted}
use Rattle.towers.specs.declared.tower.Tower.{Tower}
use Rattle.towers.specs.declared.sided_tray.SidedTray.{SidedTray}
use Rattle.towers.specs.Kinds.{PlainTower, SidedTower}
use Rattle.towers.specs.Tray.{sided_tray}
use Rattle.ring.specs.declared.tray_ring.TrayRing.{TrayRing}

-- All places: first these trays, and then no trays.
abbrev pub placed : {A : Type 0} → TrayForm A → List A → List A
placed f xs = xs ++ replicate (MOST_TRAYS - length xs) (f.upright 0)

-- There are from 1 to `MOST_TRAYS` trays, and they have the numbers 1 to n, each once.
abbrev pub IsArranged : {A : Type 0} → TrayForm A → List A → Type 0
IsArranged f xs = Counted 1 (length xs) × IsTrue (permutation f (length xs) (placed f xs))

abbrev pub arranged : {A : Type 0} {b : Ghosts A} (xs : List A) → IsArranged b.form xs → Arrangement A b
arranged {b = b} xs is = record { n = length xs; trays = placed b.form xs; least = is.0.0; most = is.0.1; each_once = is.1 }

-- The tower of these trays, the first at the top.
abbrev pub tower_of : {A : Type 0} {b : Ghosts A} (xs : List A) → IsArranged b.form xs → Tower A b
tower_of xs is = record { arrangement = arranged xs is }

-- The ring of these trays, from place 1 on, with span 2.
abbrev pub ring_of : (xs : List ℕ) → IsArranged number_tray xs → 4 ≤ length xs → TrayRing
ring_of xs is four = record { arrangement = arranged xs is; span = 2; least = four; span_least = lit≤ tt; span_most = le_trans (lit≤ tt) four }

-- The tray of this number as it stands at home, and with its door turned away.
abbrev pub upright : ℕ → SidedTray
upright = sided_tray.upright

abbrev pub away : ℕ → SidedTray
away v = record { number = v; away = true }

-- The machines, each named by its trays. What stands behind the trays shows that they are a permutation.

abbrev pub one : PlainTower
unfolding permutation every some
one = tower_of (1 ∷ []) ((lit≤ tt, lit≤ tt), refl)

abbrev pub two_one : PlainTower
unfolding permutation every some
two_one = tower_of (2 ∷ 1 ∷ []) ((lit≤ tt, lit≤ tt), refl)

abbrev pub one_three_two : PlainTower
unfolding permutation every some
one_three_two = tower_of (1 ∷ 3 ∷ 2 ∷ []) ((lit≤ tt, lit≤ tt), refl)

abbrev pub one_two_four_three : PlainTower
unfolding permutation every some
one_two_four_three = tower_of (1 ∷ 2 ∷ 4 ∷ 3 ∷ []) ((lit≤ tt, lit≤ tt), refl)

abbrev pub away_one : SidedTower
unfolding permutation every some
away_one = tower_of (away 1 ∷ []) ((lit≤ tt, lit≤ tt), refl)

abbrev pub away_one_away_two : SidedTower
unfolding permutation every some
away_one_away_two = tower_of (away 1 ∷ away 2 ∷ []) ((lit≤ tt, lit≤ tt), refl)

abbrev pub two_three_one : SidedTower
unfolding permutation every some
two_three_one = tower_of (upright 2 ∷ upright 3 ∷ upright 1 ∷ []) ((lit≤ tt, lit≤ tt), refl)

abbrev pub one_away_two_three : SidedTower
unfolding permutation every some
one_away_two_three = tower_of (upright 1 ∷ away 2 ∷ upright 3 ∷ []) ((lit≤ tt, lit≤ tt), refl)

abbrev pub three_away_one_two : SidedTower
unfolding permutation every some
three_away_one_two = tower_of (upright 3 ∷ away 1 ∷ upright 2 ∷ []) ((lit≤ tt, lit≤ tt), refl)

abbrev pub away_two_three_one : SidedTower
unfolding permutation every some
away_two_three_one = tower_of (away 2 ∷ upright 3 ∷ upright 1 ∷ []) ((lit≤ tt, lit≤ tt), refl)

abbrev pub ring_two_one_three_four : TrayRing
unfolding permutation every some
ring_two_one_three_four = ring_of (2 ∷ 1 ∷ 3 ∷ 4 ∷ []) ((lit≤ tt, lit≤ tt), refl) (lit≤ tt)

abbrev pub ring_two_one_four_three : TrayRing
unfolding permutation every some
ring_two_one_four_three = ring_of (2 ∷ 1 ∷ 4 ∷ 3 ∷ []) ((lit≤ tt, lit≤ tt), refl) (lit≤ tt)

abbrev pub ring_two_three_four_one : TrayRing
unfolding permutation every some
ring_two_three_four_one = ring_of (2 ∷ 3 ∷ 4 ∷ 1 ∷ []) ((lit≤ tt, lit≤ tt), refl) (lit≤ tt)
