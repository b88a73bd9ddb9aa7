use Rattle.planner.proofs.HeldTask.{holds_task}
use Rattle.planner.proofs.planner.Planner.spend.Goals as goal

pub returns-else-self-clause-holds : goal.returns-else-self-clause-holds
returns-else-self-clause-holds g c = λ limit s working x.
    let p = c.args.self.now in
    let q = c.loop-self.self in
    holds_task g.M.Machine.meaning g.M.Machine.state (g.E.Estimate.value p.estimate) (record { start = s; limit = limit; granted = p.granted }) q
    c.loop-self.invariant.0 (c.loop-self.invariant.2 limit s working x) (λ _. c.if-self.false)
