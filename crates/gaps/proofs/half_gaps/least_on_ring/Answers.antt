use Rattle.std.proofs.Common.{◌≡◌, ℕ, ◌+◌, ◌-◌, arith, ap, ◌∙◌}
use Rattle.gaps.specs.Counts.{half_gaps}
use Rattle.gaps.proofs.Least.{least_from, least_more}
use Rattle.ring.specs.Ring.{turned}
use Rattle.gaps.proofs.half_gaps.least_on_ring.Goals as goal

pub loop-from-preserved : goal.loop-from-preserved
loop-from-preserved c =
    let s = c.args.ring.now in
    let from = c.loop-from.from in
    let e : ℕ → ℕ = λ p. half_gaps (turned s p) in
    let gaps = c.gaps_after-after.ensures s c.trays-trays.ensures c.span.ensures c.count_ring_gaps-here.ensures.value in
    let yet : from ≡ from + 1 - 1 = omega arith in
    least_more e 1 (from + 1) (from + 1) c.div_ceil.result c.loop-from.least c.lesser-least.result (omega arith) (omega arith) (c.loop-from.invariant ∙ ap (least_from e 1) yet) (let half = c.div_ceil.ensures in omega arith) c.lesser-least.ensures
