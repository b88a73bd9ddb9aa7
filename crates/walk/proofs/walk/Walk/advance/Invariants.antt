use Rattle.std.proofs.Common.{length}
use Rattle.walk.specs.Walks.{made}
use Rattle.walk.proofs.Back.{CameBack}
use Rattle.walk.proofs.walk.Walk.advance.Given as goal

abbrev pub invariant-loop-self : goal.invariant-loop-self
invariant-loop-self g l = CameBack g.M.Machine.meaning g.M.Machine.state l.initial.self l.self

abbrev pub decreases-loop-self : goal.decreases-loop-self
decreases-loop-self g l = length (made l.self)
