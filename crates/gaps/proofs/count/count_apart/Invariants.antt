use Rattle.std.proofs.Common.{◌≡◌, ◌≤◌, Bool}
use Rattle.std.specs.Iterator.{ActsAsOnTwo}
use Rattle.gaps.proofs.Counted.{counted}
use Rattle.gaps.proofs.count.count_apart.Given as goal

abbrev pub invariant-loop-i : goal.invariant-loop-i
invariant-loop-i g l =
    ((h : _ → _ → Bool) → ActsAsOnTwo g.F.Fn l.apart h → l.count ≡ counted h l.trays l.fn.end l.i)
    × (l.count ≤ l.i)
