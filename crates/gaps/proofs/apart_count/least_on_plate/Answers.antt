use Rattle.std.proofs.Common.{◌≡◌, ◌+◌, ◌-◌, suc, arith, ap, ◌∙◌}
use Rattle.gaps.specs.Counts.{tower_count}
use Rattle.gaps.proofs.Held.{tower_long}
use Rattle.gaps.proofs.Least.{least_from, least_more}
use Rattle.towers.specs.Towers.{turned}
use Rattle.gaps.proofs.apart_count.least_on_plate.Goals as goal

pub loop-k-init : goal.loop-k-init
loop-k-init g c =
    let e = c.LOWEST-k.ensures in
    let none : 0 ≡ c.LOWEST-k.result - g.T.TowerTray.LOWEST = omega arith in
    (ap (least_from (λ k. tower_count g.T.Neighbour.apart (turned c.args.tower.now k)) g.T.TowerTray.LOWEST) none, omega arith)

pub loop-k-preserved : goal.loop-k-preserved
loop-k-preserved g c =
    let s = c.args.tower.now in
    let low = c.loop-k.auto.k in
    let start = c.LOWEST-k.ensures in
    let after = c.count_after.ensures s c.trays-trays.ensures c.plate-plate.ensures c.count_on_plate-here.ensures in
    (least_more (λ k. tower_count g.T.Neighbour.apart (turned s k)) g.T.TowerTray.LOWEST c.loop-k.k (c.loop-k.k + 1 - g.T.TowerTray.LOWEST) c.count_after.result c.loop-k.least c.lesser-least.result (omega arith) (omega arith) c.loop-k.invariant.0 after c.lesser-least.ensures, omega arith)

pub returns : goal.returns
returns g c =
    let s = c.args.tower.now in
    let long = tower_long s c.trays-trays.result.now c.trays-trays.ensures in
    let low = c.loop-k.auto.k in
    let start = c.LOWEST-k.ensures in
    let high = c.loop-k.invariant.1 in
    let past = c.loop-k-test.false in
    let all : c.loop-k.k - g.T.TowerTray.LOWEST ≡ suc s.arrangement.n - g.T.TowerTray.LOWEST = omega arith in
    c.loop-k.invariant.0 ∙ ap (least_from (λ k. tower_count g.T.Neighbour.apart (turned s k)) g.T.TowerTray.LOWEST) all

pub returns-2 : goal.returns-2
returns-2 g c =
    let s = c.args.tower.now in
    let long = tower_long s c.trays-trays.result.now c.trays-trays.ensures in
    let low = c.loop-k.auto.k in
    let start = c.LOWEST-k.ensures in
    let on = c.loop-k-test.true in
    let after = c.count_after.ensures s c.trays-trays.ensures c.plate-plate.ensures c.count_on_plate-here.ensures in
    least_more (λ k. tower_count g.T.Neighbour.apart (turned s k)) g.T.TowerTray.LOWEST c.loop-k.k (suc s.arrangement.n - g.T.TowerTray.LOWEST) c.count_after.result c.loop-k.least c.lesser-least.result (omega arith) (omega arith) c.loop-k.invariant.0 after c.lesser-least.ensures
