use Rattle.std.specs.Prelude.{ℕ}
use Rattle.estimate.specs.Layers.{look_ahead, dual_lookup}
use Rattle.gaps.specs.Counts.{gaps, breakpoints, half_gaps}
use Rattle.ring.specs.declared.tray_ring.TrayRing.{TrayRing}
use Rattle.ring.specs.Ring as rings
use Rattle.towers.specs.Kinds.{PlainTower, SidedTower, plain, sided}
use Rattle.towers.specs.Towers as towers

-- The highest estimate of each kind: dual lookup over look-ahead over the count of the kind.

abbrev pub plain_estimate : PlainTower → ℕ
plain_estimate = dual_lookup towers.mirrored (look_ahead plain gaps)

abbrev pub sided_estimate : SidedTower → ℕ
sided_estimate = dual_lookup towers.mirrored (look_ahead sided breakpoints)

abbrev pub ring_estimate : TrayRing → ℕ
ring_estimate = dual_lookup rings.mirrored (look_ahead rings.ring half_gaps)
