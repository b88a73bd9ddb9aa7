use Rattle.std.proofs.Common.{◌≡◌, ◌-◌, ◌≤◌, max, length}
use Rattle.gaps.specs.Counts.{tower_count}
use Rattle.gaps.proofs.Least.{least_from}
use Rattle.towers.specs.Towers.{turned}
use Rattle.gaps.proofs.apart_count.least_on_plate.Given as goal

abbrev pub invariant-loop-k : goal.invariant-loop-k
invariant-loop-k g l =
    let lowest = g.T.TowerTray.LOWEST in
    (l.least ≡ least_from (λ k. tower_count g.T.Neighbour.apart (turned l.tower k)) lowest (l.k - lowest))
    × (l.k ≤ max lowest (length l.trays))
