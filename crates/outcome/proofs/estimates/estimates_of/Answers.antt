use Rattle.outcome.proofs.Owed.{estimates_of}
use Rattle.outcome.proofs.estimates.estimates_of.Goals as goal

pub returns : goal.returns
returns g c =
    let e = g.E.Estimate.value c.args.estimate in
    estimates_of g.M.Machine.meaning g.M.Dual.mirror g.met.M.Dual.duals e (g.met.E.Estimate.sound c.args.estimate) (g.M.Machine.state c.args.machine.now) _ c.ask.ensures.value c.ask-2.ensures.value c.ask-3.ensures.value
