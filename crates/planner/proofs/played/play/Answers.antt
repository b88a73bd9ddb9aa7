use Rattle.std.proofs.Common.{None, replicate, map, take, subst}
use Rattle.planner.specs.Calls.{on_state}
use Rattle.planner.specs.Promise.{Run}
use Rattle.planner.specs.Since.{KeepsPromise}
use Rattle.walk.specs.declared.sheet.TheConstants.{SHEET_PLACES}
use Rattle.planner.proofs.played.play.Goals as goal

pub returns-clause-run : goal.returns-clause-run
returns-clause-run g c =
    let n = c.play.result in
    let m = g.M.Machine.meaning in
    subst (λ est. Run m (g.E.Estimate.value est) None (replicate SHEET_PLACES 0) (map (on_state g.M.Machine.state) (take n c.args.calls.now)) (take n c.play.new.replies)) c.new.ensures.estimate
    (c.play.ensures.plays None c.new.ensures.empty).run

pub returns-clause-promise : goal.returns-clause-promise
returns-clause-promise g c =
    let n = c.play.result in
    let m = g.M.Machine.meaning in
    subst (λ est. KeepsPromise m (g.E.Estimate.value est) None (map (on_state g.M.Machine.state) (take n c.args.calls.now)) (take n c.play.new.replies)) c.new.ensures.estimate
    (c.play.ensures.plays None c.new.ensures.empty).promise
