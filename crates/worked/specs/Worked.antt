use Rattle.std.specs.Prelude.{◌≡◌, ℕ, ◌-◌, ◌≤◌, false, not, min, List, [], ◌∷◌, ◌++◌, map, reverse, take, drop, Some, None}
use Rattle.estimate.specs.Layers.{look_ahead}
use Rattle.gaps.specs.Counts.{gaps, breakpoints, ring_gaps, half_gaps}
use Rattle.gaps.specs.Kinds.{plain_estimate}
use Rattle.ring.specs.declared.tray_ring.TrayRing.{TrayRing}
use Rattle.ring.specs.Ring.{ring}
use Rattle.std.specs.List.{AllByRecursion}
use Rattle.search.specs.Search.{search, Search}
use Rattle.towers.specs.declared.sided_tray.SidedTray.{SidedTray}
use Rattle.towers.specs.Kinds.{PlainTower, SidedTower, plain, sided}
use Rattle.towers.specs.Towers.{mirrored}
use Rattle.trays.specs.Form.{number_tray}
use Rattle.trays.specs.Run.{RunReversed}
use Rattle.worked.specs.Machines.{one, two_one, one_three_two, one_two_four_three, away_one, away_one_away_two, two_three_one, one_away_two_three, three_away_one_two, away_two_three_one, ring_two_one_three_four, ring_two_one_four_three, ring_two_three_four_one}

-- A tray with its door turned to the other side.
abbrev pub other_side : SidedTray → SidedTray
other_side t = record { number = t.number; away = not t.away }

-- What a search gives: this plan or none, after so many looks.
abbrev pub found : ℕ → List ℕ → Search
found looks p = record { looks = looks; plan = Some p }

abbrev pub none : ℕ → Search
none looks = record { looks = looks; plan = None }

-- Searches, each with its machine, its estimate, its limit and the state, beside what it gives.
unfoldable pub worked_searches : List (Search × Search)
worked_searches =
    (search plain gaps 64 one, found 1 [])
    ∷ (search plain gaps 64 two_one, found 2 (2 ∷ []))
    ∷ (search plain gaps 0 two_one, none 1)
    ∷ (search plain gaps 64 one_three_two, found 7 (2 ∷ 3 ∷ 2 ∷ []))
    ∷ (search plain plain_estimate 64 one_three_two, found 4 (2 ∷ 3 ∷ 2 ∷ []))
    ∷ (search plain gaps 2 one_three_two, none 3)
    ∷ (search plain plain_estimate 2 one_three_two, none 1)
    ∷ (search plain gaps 64 one_two_four_three, found 13 (4 ∷ 2 ∷ 4 ∷ []))
    ∷ (search sided breakpoints 64 away_one, found 2 (1 ∷ []))
    ∷ (search sided breakpoints 64 away_one_away_two, found 13 (1 ∷ 2 ∷ 1 ∷ 2 ∷ []))
    ∷ (search sided breakpoints 64 two_three_one, found 10 (2 ∷ 3 ∷ 1 ∷ []))
    ∷ (search sided breakpoints 64 one_away_two_three, found 11 (2 ∷ 1 ∷ 2 ∷ []))
    ∷ (search ring half_gaps 64 ring_two_one_three_four, found 2 (1 ∷ []))
    ∷ (search ring half_gaps 64 ring_two_one_four_three, found 9 (1 ∷ 3 ∷ []))
    ∷ []

-- What a turn does, and what the definitions give at small machines. The rings there have span 2.
pub record WorkedExamples : Type 0 where
  -- Turn k of a plain tower stands its first k trays in the other order; the others stay.
  pub plain_turn : (s : PlainTower) (k : ℕ) → let block = min k s.arrangement.n in (plain.after s k).arrangement.trays ≡ reverse (take block s.arrangement.trays) ++ drop block s.arrangement.trays
  -- Turn k of a sided tower does the same, and changes the side of each of the first k.
  pub sided_turn : (s : SidedTower) (k : ℕ) → let block = min k s.arrangement.n in (sided.after s k).arrangement.trays ≡ map other_side (reverse (take block s.arrangement.trays)) ++ drop block s.arrangement.trays
  -- Turn p of a ring stands the trays of the run from place p on in the other order, counted round the seam; every other place stays.
  pub ring_turn : (s : TrayRing) (p : ℕ) → 1 ≤ p → p ≤ s.arrangement.n → RunReversed number_tray s.arrangement.n s.span (p - 1) s.arrangement.trays (ring.after s p).arrangement.trays
  pub ring_span : (s : TrayRing) (p : ℕ) → (ring.after s p).span ≡ s.span
  pub one_gaps : gaps one ≡ 0
  pub two_gaps : gaps two_one ≡ 1
  pub three_gaps : gaps one_three_two ≡ 2
  pub three_look_ahead : look_ahead plain gaps one_three_two ≡ 3
  pub three_estimate : plain_estimate one_three_two ≡ 3
  pub four_gaps : gaps one_two_four_three ≡ 2
  pub away_breakpoints : breakpoints away_one ≡ 1
  pub both_away_breakpoints : breakpoints away_one_away_two ≡ 2
  pub sided_breakpoints : breakpoints two_three_one ≡ 2
  pub one_away_breakpoints : breakpoints one_away_two_three ≡ 2
  pub sided_dual : mirrored three_away_one_two ≡ away_two_three_one
  pub swapped_ring_gaps : ring_gaps ring_two_one_three_four ≡ 2
  pub swapped_half_gaps : half_gaps ring_two_one_three_four ≡ 1
  pub both_swapped_half_gaps : half_gaps ring_two_one_four_three ≡ 0
  pub moved_half_gaps : half_gaps ring_two_three_four_one ≡ 0
  pub moved_not_home : ring.home ring_two_three_four_one ≡ false
  pub searches : AllByRecursion (λ (w : Search × Search). w.0 ≡ w.1) worked_searches
