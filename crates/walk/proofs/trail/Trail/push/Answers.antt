use Rattle.std.proofs.Common.{◌<◌, ◌+◌, length, arith}
use Rattle.walk.proofs.Trails.{length_turns_to, pushed_turns, pushed_linked}
use Rattle.walk.proofs.trail.Trail.push.Goals as goal

pub invariant_of-self-clause-linked : goal.invariant_of-self-clause-linked
invariant_of-self-clause-linked c =
    let t = c.args.self.now in
    let long = length_turns_to t.table.records t.depth in
    let within : t.depth + 1 < length t.table.records = omega arith in
    pushed_linked t.table.records t.depth c.args.k c.record-here.result.now within c.record-here.ensures.value t.linked

pub returns-clause-made : goal.returns-clause-made
returns-clause-made c =
    let t = c.args.self.now in
    let long = length_turns_to t.table.records t.depth in
    pushed_turns t.table.records t.depth c.args.k c.record-here.result.now (omega arith)
