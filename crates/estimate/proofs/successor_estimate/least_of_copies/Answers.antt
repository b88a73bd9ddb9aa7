use Rattle.std.proofs.Common.{rules, min}
use Rattle.std.proofs.lemmas.Iterator.{YieldsList-from_map}
use Rattle.std.proofs.lemmas.Iterator.Consumers.{YieldsList-at}
use Rattle.estimate.proofs.Ranges.{closed}
use Rattle.estimate.proofs.Reduced.{reduced}
use Rattle.estimate.proofs.successor_estimate.least_of_copies.Goals as goal

pub returns : goal.returns
returns g c =
    let m = g.M.Machine.meaning in
    let s = g.M.Machine.state c.args.machine.now in
    let e = g.E.Estimate.value c.args.estimate.now in
    reduced _ _ min (λ a x b q k. search rules) c.map.result c.reduce.result c.reduce.ensures.ran (YieldsList-from_map _ (λ k. e (m.after s k)) (YieldsList-at c.map.ensures.source (closed (m.lowest s) (m.highest s) _ _ c.new.result c.range-lowest.ensures.lowest c.range-lowest.ensures.highest c.new.ensures.start c.new.ensures.end c.new.ensures.exhausted)) c.map.ensures.closure (λ x r q k. search rules))
