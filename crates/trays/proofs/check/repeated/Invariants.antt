use Rattle.std.proofs.Common.{◌≡◌}
use Rattle.trays.specs.Form.{number_at}
use Rattle.trays.specs.Marks.{marks}
use Rattle.trays.specs.Settable.{Each, New}
use Rattle.trays.proofs.check.repeated.Given as goal

abbrev pub invariant-loop-i : goal.invariant-loop-i
invariant-loop-i g l = (l.seen ≡ marks (number_at g.T.Tray.form l.trays) l.i) × Each (New (number_at g.T.Tray.form l.trays)) 0 l.i
