use Rattle.std.proofs.Common.{◌≡◌}
use Rattle.walk.proofs.SheetWritten.{written}
use Rattle.walk.proofs.trail.Trail.write.Given as goal

abbrev pub invariant-loop-depth : goal.invariant-loop-depth
invariant-loop-depth l = l.sheet ≡ written l.self.table.records l.depth
