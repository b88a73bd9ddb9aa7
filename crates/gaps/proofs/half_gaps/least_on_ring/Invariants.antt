use Rattle.std.proofs.Common.{◌≡◌}
use Rattle.gaps.specs.Counts.{half_gaps}
use Rattle.gaps.proofs.Least.{least_from}
use Rattle.ring.specs.Ring.{turned}
use Rattle.gaps.proofs.half_gaps.least_on_ring.Given as goal

abbrev pub invariant-loop-from : goal.invariant-loop-from
invariant-loop-from l = l.least ≡ least_from (λ p. half_gaps (turned l.ring p)) 1 l.from
