use Rattle.std.proofs.Common.{Ok, sym, subst}
use Rattle.search.proofs.ShortestFound.{finds_shortest}
use Rattle.planner.specs.Calls.{on_state}
use Rattle.planner.specs.Holds.{Answers}
use Rattle.planner.proofs.Replies.{fetched}
use Rattle.planner.proofs.planner.Planner.answer.Goals as goal

pub returns-in-AtWork-Work-3-clause-answers : goal.returns-in-AtWork-Work-3-clause-answers
returns-in-AtWork-Work-3-clause-answers g c = λ task x.
    let state = g.M.Machine.state in
    let e = g.E.Estimate.value c.args.self.now.estimate in
    let sheet = c.args.sheet.now in
    subst (λ call. Answers g.M.Machine.meaning state e task (on_state state call) sheet (Ok c.work.result) sheet c.work.new.self) (sym c.in-AtWork-Work.is-1)
    (c.work.ensures.answers task sheet c.in-AtWork-Work.is-0 x)

pub returns-in-Found-Fetch-clause-answers : goal.returns-in-Found-Fetch-clause-answers
returns-in-Found-Fetch-clause-answers g c = λ task x.
    let m = g.M.Machine.meaning in
    let state = g.M.Machine.state in
    let p = c.args.self.now in
    let e = g.E.Estimate.value p.estimate in
    subst (λ call. Answers m state e task (on_state state call) c.args.sheet.now (Ok c.fetch.result) c.fetch.new.sheet p) (sym c.in-Found-Fetch.is-1)
    (fetched m state e (finds_shortest m e g.met.M.Machine.lawful (g.met.E.Estimate.sound p.estimate).admissible)
    task p c.args.sheet.now c.fetch.new.sheet c.fetch.result c.in-Found-Fetch.is-0 x c.fetch.ensures.answer c.fetch.ensures.sheet)
