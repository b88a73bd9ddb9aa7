use Rattle.std.proofs.Common.{arith}
use Rattle.trays.proofs.LaidOut.{laid_then_none}
use Rattle.trays.proofs.first.home_trays.Goals as goal

pub returns : goal.returns
returns g c =
    let laid = c.loop-i.invariant in
    let end = c.loop-i-test.false in
    let is = c.clamp-count.ensures in
    laid_then_none g.T.Tray.form g.T.Tray.regular _ c.clamp-count.result c.loop-i.tray-items c.upright-trays.result (omega arith) (omega arith) laid.0 c.upright-trays.ensures (λ k lt. laid.1 k (omega arith))
