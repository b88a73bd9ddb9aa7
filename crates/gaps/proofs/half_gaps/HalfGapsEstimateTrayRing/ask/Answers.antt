use Rattle.std.proofs.Common.{arith}
use Rattle.gaps.specs.Laws.{half_sound}
use Rattle.gaps.proofs.half_gaps.HalfGapsEstimateTrayRing.ask.Goals as goal

pub returns-clause-admissible : goal.returns-clause-admissible
returns-clause-admissible c = λ ks brings.
    let value = c.count_ring_gaps.ensures.value in
    let half = c.div_ceil.ensures in
    let law = half_sound.admissible c.args.ring.now ks brings in
    omega arith
