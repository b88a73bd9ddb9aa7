use Rattle.std.proofs.Common.{◌≡◌}
use Rattle.trays.specs.Permutation.{inverse}
use Rattle.trays.proofs.inverse.invert.Given as goal

abbrev pub invariant-loop-i : goal.invariant-loop-i
invariant-loop-i g l = l.places ≡ inverse g.T.Tray.form l.i l.trays
