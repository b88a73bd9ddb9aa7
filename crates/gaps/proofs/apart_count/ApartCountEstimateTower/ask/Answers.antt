use Rattle.std.proofs.Common.{arith}
use Rattle.gaps.specs.Laws.{tower_sound}
use Rattle.gaps.proofs.apart_count.ApartCountEstimateTower.ask.Goals as goal

pub returns-clause-most : goal.returns-clause-most
returns-clause-most g c =
    let value = c.count_on_plate.ensures in
    let most = (tower_sound g.T.Neighbour.apart g.met.T.Neighbour.lawful g.T.TowerTray.LOWEST).to_highest c.args.tower.now in
    omega arith

pub returns-clause-admissible : goal.returns-clause-admissible
returns-clause-admissible g c = λ ks brings.
    let value = c.count_on_plate.ensures in
    let law = (tower_sound g.T.Neighbour.apart g.met.T.Neighbour.lawful g.T.TowerTray.LOWEST).admissible c.args.tower.now ks brings in
    omega arith
