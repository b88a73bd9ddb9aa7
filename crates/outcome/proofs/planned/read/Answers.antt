use Rattle.std.proofs.Common.{Some, None, map, vec_items, refl, sym, subst}
use Rattle.machine.specs.Follows.{Follows}
use Rattle.outcome.specs.declared.verdict.Verdict.TheVariants.{Unfinished, Found, NoPlan}
use Rattle.outcome.proofs.Replies.{comes, found_plan}
use Rattle.outcome.proofs.planned.read.Goals as goal

pub returns-in-Some : goal.returns-in-Some
returns-in-Some g c = λ e limit looks room run.
    comes g.M.Machine.meaning e g.M.Machine.state c.args.machine limit looks c.args.replies.now (Some c.in-Some.fault) _ (sym c.in-Some.ensures) refl room run

pub returns-in-Unfinished : goal.returns-in-Unfinished
returns-in-Unfinished g c = λ e limit looks room run.
    let h = comes g.M.Machine.meaning e g.M.Machine.state c.args.machine limit looks c.args.replies.now None (Unfinished c.in-Unfinished.looks) (sym c.in_default.ensures) (sym c.in-Unfinished.ensures) room run in
    (h.0, h.1.0, h.1.1)

pub returns-in-NoPlan : goal.returns-in-NoPlan
returns-in-NoPlan g c = λ e limit looks room run.
    let h = comes g.M.Machine.meaning e g.M.Machine.state c.args.machine limit looks c.args.replies.now None (NoPlan c.in-NoPlan.looks) (sym c.in_default.ensures) (sym c.in-NoPlan.ensures) room run in
    (h.0, h.1.0, h.1.1, h.1.2)

pub returns-in_ok-trace-in-Found : goal.returns-in_ok-trace-in-Found
returns-in_ok-trace-in-Found g c = λ e limit looks room run.
    let m = g.M.Machine.meaning in
    let state = g.M.Machine.state in
    let n = c.in-Found.length in
    let turns = c.in_ok-turns-in-Found.turns in
    let trace = c.in_ok-trace-in-Found.trace in
    let h = comes m e state c.args.machine limit looks c.args.replies.now None (Found n c.in-Found.looks) (sym c.in_default.ensures) (sym c.in-Found.ensures) room run in (
      h.0,
      h.1.0,
      found_plan m e state limit (state c.args.machine) n c.in-Found.looks _ c.last_sheet.result (vec_items turns) trace h.1.1 h.1.2 c.last_sheet.ensures c.in_ok-turns-in-Found.ensures
          (subst (λ ks. Follows m (state c.args.machine) ks (map state (vec_items trace.states)) trace.ending) c.deref.ensures.value c.in_ok-trace-in-Found.ensures.followed),
    )
