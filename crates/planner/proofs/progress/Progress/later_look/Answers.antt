use Rattle.std.proofs.Common.{◌≡◌, ◌+◌, [], length, subst, arith}
use Rattle.search.proofs.Bounds.{unbounded}
use Rattle.walk.specs.Left.{and_above}
use Rattle.walk.specs.Walks.{made, machine}
use Rattle.planner.specs.ToCome.{to_come}
use Rattle.planner.specs.UnderWay.{GoneOn}
use Rattle.planner.proofs.LookMade.{total_is, cut_off}
use Rattle.planner.proofs.progress.Progress.later_look.Goals as goal

pub returns-then-total-from : goal.returns-then-total-from
returns-then-total-from g c = λ limit s xs x.
    let p = c.args.self.now in
    let state = g.M.Machine.state in
    let e = g.E.Estimate.value c.args.estimate.now in
    let asked = subst (λ y. c.ask.result ≡ e (state y)) c.here.ensures c.ask.ensures.value in
    let total = total_is c.from.result c.depth.result c.from-2.result c.ask.result (length (made p.walk)) (e (state (machine p.walk))) c.from.ensures c.depth.ensures c.from-2.ensures asked in
    let same = c.from-3.ensures in
    let fits = c.if-total-from.true in
    c.look_not_cut.ensures e limit s c.args.threshold xs c.requires (omega arith) x

pub returns : goal.returns
returns g c = λ limit s xs x.
    let m = g.M.Machine.meaning in
    let state = g.M.Machine.state in
    let p = c.args.self.now in
    let e = g.E.Estimate.value c.args.estimate.now in
    let asked = subst (λ y. c.ask.result ≡ e (state y)) c.here.ensures c.ask.ensures.value in
    let total = total_is c.from.result c.depth.result c.from-2.result c.ask.result (length (made p.walk)) (e (state (machine p.walk))) c.from.ensures c.depth.ensures c.from-2.ensures asked in
    let same = c.from-3.ensures in
    let above = c.if-total-from.false in
    cut_off m state e limit s (unbounded m e) c.settle.result p c.settle.new.self xs c.args.threshold c.requires x (c.from.result + c.from-2.result) total (omega arith)
    (λ allowed leads.
    subst (λ o. GoneOn m state e limit s c.settle.result c.settle.new.self (to_come m e limit s o (and_above m e c.args.threshold (made p.walk) (state (machine p.walk)) []))) c.lesser.ensures
    (c.settle.ensures e limit s c.args.threshold _ x.same_limit c.requires allowed (c.leave-step.ensures e c.args.threshold s leads)))
