use Rattle.std.proofs.Common.{sym}
use Rattle.text.proofs.Steps.{stuck_end}
use Rattle.text.proofs.reader.Reader.read.Goals as goal

pub returns-then-not-may_end-clause-err : goal.returns-then-not-may_end-clause-err
returns-then-not-may_end-clause-err c = stuck_end c.loop-at.self _ _ c.loop-at-test.false c.loop-at.invariant (sym c.if-not-may_end.ensures)
