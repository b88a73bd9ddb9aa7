use Rattle.std.proofs.Common.{vec_items, arith}
use Rattle.outcome.proofs.Calls.{all_calls}
use Rattle.outcome.proofs.planned.calls_within.Goals as goal

pub returns : goal.returns
returns g c =
    all_calls c.args.machine c.args.limit c.args.looks c.loop.counter (vec_items c.loop.calls) (vec_items c.grant_rest.new.calls) (vec_items c.push-2.new.self) (omega arith) c.loop.invariant c.in_ok-grant_rest.ensures c.in_ok-push-3.ensures.items
