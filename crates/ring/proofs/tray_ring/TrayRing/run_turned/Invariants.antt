use Rattle.ring.proofs.Spun.{SpunTo}
use Rattle.ring.proofs.tray_ring.TrayRing.run_turned.Given as goal

abbrev pub invariant-loop-j : goal.invariant-loop-j
invariant-loop-j l = SpunTo l.self l.from l.j l.trays
