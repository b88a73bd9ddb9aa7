use Rattle.std.proofs.Common.{Some, subst, sym, ap}
use Rattle.search.proofs.Bounds.{unbounded}
use Rattle.walk.specs.Walks.{machine}
use Rattle.planner.specs.UnderWay.{Waits}
use Rattle.planner.proofs.LookMade.{threshold_set, first_begins}
use Rattle.planner.proofs.progress.Progress.first_look.Goals as goal

pub returns-in-Some : goal.returns-in-Some
returns-in-Some g c = λ limit s xs x.
    let m = g.M.Machine.meaning in
    let state = g.M.Machine.state in
    let p = c.args.self.now in
    let e = g.E.Estimate.value c.args.estimate.now in
    let t = c.in-Some.field-0 in
    let before = subst (λ o. Waits m state e limit s o p.least p.walk xs) c.requires x.waits in
    let asked = ap (λ y. e (state y)) c.here.ensures in
    let set = threshold_set limit p.limit (e (state (machine p.walk))) (e (state c.here.result.now)) c.first_threshold-self.result (Some t) x.same_limit asked c.first_threshold-self.ensures.threshold c.in-Some.is in
    let b = first_begins m state e limit s (unbounded m e) p.least p.walk xs t before set in
    c.look_not_cut.ensures e limit s t xs c.in-Some.is b.1
    (record { same_limit = x.same_limit; waits = subst (λ o. Waits m state e limit s o p.least p.walk xs) (sym c.in-Some.is) b.0 })
