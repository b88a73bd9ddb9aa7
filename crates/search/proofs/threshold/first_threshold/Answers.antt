use Rattle.search.proofs.ShortestFound.{finds_shortest}
use Rattle.search.proofs.threshold.first_threshold.Goals as goal

pub returns-clause-shortest : goal.returns-clause-shortest
returns-clause-shortest g c = finds_shortest g.M.Machine.meaning (g.E.Estimate.value c.args.estimate.now) g.met.M.Machine.lawful (g.met.E.Estimate.sound c.args.estimate.now).admissible
