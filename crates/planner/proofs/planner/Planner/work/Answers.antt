use Rattle.std.proofs.Common.{rules}
use Rattle.search.proofs.ShortestFound.{finds_shortest}
use Rattle.planner.proofs.Replies.{worked}
use Rattle.planner.proofs.planner.Planner.work.Goals as goal

pub returns-clause-answers : goal.returns-clause-answers
returns-clause-answers g c = λ task sheet working x.
    let m = g.M.Machine.meaning in
    let p = c.args.self.now in
    let e = g.E.Estimate.value p.estimate in
    worked m g.M.Machine.state e (finds_shortest m e g.met.M.Machine.lawful (g.met.E.Estimate.sound p.estimate).admissible)
    task p c.spend.new.self c.args.grant sheet c.report.result working x (search rules) (λ limit s y. c.spend.ensures.holds limit s working y) c.report.ensures
