use Rattle.std.proofs.Common.{◌≡◌, vec_items}
use Rattle.outcome.proofs.Calls.{calls_so_far}
use Rattle.outcome.proofs.planned.calls_within.Given as goal

abbrev pub invariant-loop : goal.invariant-loop
invariant-loop g l = vec_items l.calls ≡ calls_so_far l.fn.machine l.limit l.counter
