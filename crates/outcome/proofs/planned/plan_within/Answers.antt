use Rattle.std.proofs.Common.{◌≡◌, ℕ, List, None, map, min, replicate, vec_items, sym, subst, arith}
use Rattle.planner.specs.Calls.{on_state}
use Rattle.planner.specs.Promise.{Run}
use Rattle.planner.specs.declared.played.Played.{Played}
use Rattle.planner.specs.declared.planner.TheConstants.{HIGHEST_GRANT_SUM}
use Rattle.walk.specs.declared.sheet.TheConstants.{SHEET_PLACES}
use Rattle.outcome.specs.Verdicts.{calls_within}
use Rattle.outcome.proofs.planned.plan_within.Goals as goal

pub returns : goal.returns
returns g c =
    let e = g.E.Estimate.value c.args.estimate in
    let run = λ (looks : ℕ) (rs : List Played). Run g.M.Machine.meaning e None (replicate SHEET_PLACES 0) (map (on_state g.M.Machine.state) (calls_within c.args.machine c.args.limit looks)) rs in
    let granted : c.min.result ≡ min c.args.looks HIGHEST_GRANT_SUM = omega arith in
    c.read.ensures e c.args.limit (min c.args.looks HIGHEST_GRANT_SUM) (omega arith)
    (subst (run (min c.args.looks HIGHEST_GRANT_SUM)) (sym c.deref.ensures.value) (subst (λ (looks : ℕ). run looks (vec_items c.in_ok-replies.replies)) granted c.in_ok-replies.ensures))
