use Rattle.std.proofs.Common.{◌∙◌, sym, subst, None, arith}
use Rattle.search.proofs.Bounds.{unbounded}
use Rattle.planner.specs.ToCome.{to_come}
use Rattle.planner.specs.UnderWay.{InRound}
use Rattle.planner.proofs.LookMade.{next_round}
use Rattle.planner.proofs.progress.Progress.next_round.Goals as goal

pub returns-in-Some : goal.returns-in-Some
returns-in-Some g c = λ e limit s left same over.
    let m = g.M.Machine.meaning in
    let p = c.args.self.now in
    let from = c.from.ensures in
    let low = c.if-least-from.true in
    record {
      same_limit = same;
      waits = subst (λ o. InRound m g.M.Machine.state e limit s c.in-Some.least o p.walk (to_come m e limit s p.least left)) (sym c.take.ensures.after)
          (subst (λ o. InRound m g.M.Machine.state e limit s c.in-Some.least None p.walk (to_come m e limit s o left)) (sym c.in-Some.is ∙ c.take.ensures.value)
          (next_round m g.M.Machine.state e limit s (unbounded m e) p.walk c.in-Some.least left (omega arith) over));
    }
