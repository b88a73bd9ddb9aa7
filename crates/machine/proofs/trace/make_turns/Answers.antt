use Rattle.std.proofs.Common.{◌+◌, map, get_or, drop, vec_items, rules}
use Rattle.std.proofs.lemmas.List.{drop_all, drop_more}
use Rattle.machine.specs.declared.ending.Ending.{Ending}
use Rattle.machine.specs.declared.ending.Ending.TheVariants.{Home, NotHome}
use Rattle.machine.proofs.Ways.{resumes_refused, resumes_ended}
use Rattle.machine.proofs.trace.make_turns.Goals as goal

pub returns-in_err-turn : goal.returns-in_err-turn
returns-in_err-turn g c =
    let state = g.M.Machine.state in
    let turns = c.args.turns.now in
    let i = c.loop-k.k-index in
    let refused = c.in_err-turn.ensures in
    let ended = resumes_refused g.M.Machine.meaning (state c.args.machine.now) turns (map state (vec_items c.loop-k.states)) (state c.loop-k.machine) (drop i turns) (get_or turns i 0) (drop (i + 1) turns) _ c.loop-k.invariant.0 (drop_more turns i 0 c.loop-k-test.true) refused.0 refused.1 in
    search rules

pub returns : goal.returns
returns g c =
    let state = g.M.Machine.state in
    let turns = c.args.turns.now in
    let i = c.loop-k.k-index in
    let end = drop_all i turns c.loop-k-test.false in
    let ended = λ (e : Ending). resumes_ended g.M.Machine.meaning (state c.args.machine.now) turns (map state (vec_items c.loop-k.states)) (state c.loop-k.machine) (drop i turns) e c.loop-k.invariant.0 end in
    (ended Home, ended NotHome)
