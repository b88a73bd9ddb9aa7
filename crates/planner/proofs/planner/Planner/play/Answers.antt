use Rattle.std.proofs.Common.{◌≡◌, ◌+◌, ◌<◌, length, map, take, get_or, set, sym, subst, ◌∙◌, arith}
use Rattle.planner.specs.Calls.{on_state}
use Rattle.planner.specs.Holds.{Plays}
use Rattle.planner.specs.declared.call.Call.{Call}
use Rattle.planner.specs.declared.played.Played.{Played}
use Rattle.planner.proofs.Runs.{Halfway, one_more, plays}
use Rattle.planner.proofs.planner.Planner.play.Goals as goal

pub loop-i-preserved : goal.loop-i-preserved
loop-i-preserved g c =
    let m = g.M.Machine.meaning in
    let state = g.M.Machine.state in
    let value = g.E.Estimate.value in
    let i = c.loop-i.i in
    let p = c.loop-i.self in
    let q = c.answer-reply.new.self in
    let calls = c.loop-i.calls in
    let call = c.replace-call.result in
    let replies = c.loop-i.replies in
    let r : Played = record { reply = c.answer-reply.result; sheet = c.answer-reply.new.sheet } in
    let in_all : i < length c.args.calls.now = omega arith in
    let in_calls : i < length calls = omega arith in
    let in_room : i < length c.args.replies.now = omega arith in
    let in_replies : i < length replies = omega arith in
    let same : call ≡ c.index-calls-i.result = c.replace-call.ensures.value ∙ sym c.index-calls-i.is in
    let call_is : get_or calls i call ≡ call = subst (λ (x : Call g.row.M.Denot). get_or calls i x ≡ x) (sym same) (sym c.index-calls-i.is) in
    subst (λ (x : Call g.row.M.Denot). Halfway m state value c.args.self.now c.args.calls.now c.args.sheet.now c.args.replies.now (i + 1) q (set calls i x) r.sheet (set replies i r)) (sym c.replace-call.ensures.after)
    (one_more m state value c.args.self.now c.args.calls.now c.args.sheet.now c.args.replies.now i p q calls c.loop-i.sheet replies call r in_all in_calls in_room in_replies call_is c.answer-reply.ensures.estimate c.answer-reply.ensures.answers c.loop-i.invariant)

pub returns-clause-plays : goal.returns-clause-plays
returns-clause-plays g c = λ task x.
    let end : c.loop-i.i ≡ c.min-count.result = omega arith in
    subst (λ n. Plays g.M.Machine.meaning g.M.Machine.state (g.E.Estimate.value c.args.self.now.estimate) task c.args.sheet.now (map (on_state g.M.Machine.state) (take n c.args.calls.now)) (take n c.loop-i.replies) c.loop-i.self) end
    (plays g.M.Machine.meaning g.M.Machine.state g.E.Estimate.value c.args.self.now c.args.calls.now c.args.sheet.now c.args.replies.now c.loop-i.i c.loop-i.self c.loop-i.calls c.loop-i.sheet c.loop-i.replies c.loop-i.invariant task x)
