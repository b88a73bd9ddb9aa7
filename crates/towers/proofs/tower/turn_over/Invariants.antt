use Rattle.std.proofs.Common.{◌≡◌}
use Rattle.trays.specs.Sides.{turned_over}
use Rattle.towers.proofs.tower.turn_over.Given as goal

abbrev pub invariant-loop-tray : goal.invariant-loop-tray
invariant-loop-tray g l = l.trays ≡ turned_over g.T.Tray.form l.tray-index l.initial.trays
