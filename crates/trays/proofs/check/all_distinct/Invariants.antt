use Rattle.std.proofs.Common.{◌≡◌}
use Rattle.trays.specs.Form.{number_at}
use Rattle.trays.specs.Marks.{marks}
use Rattle.trays.proofs.check.all_distinct.Given as goal

abbrev pub invariant-loop-tray : goal.invariant-loop-tray
invariant-loop-tray g l = l.marks ≡ marks (number_at g.T.Tray.form l.trays) l.tray-index
