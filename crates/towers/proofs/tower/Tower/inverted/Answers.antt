use Rattle.std.proofs.Common.{ap, ◌∙◌}
use Rattle.trays.proofs.KindFacts.{kind_dual, mirror_twice}
use Rattle.towers.specs.Towers.{mirrored, tower}
use Rattle.towers.specs.Laws.{count, tower_kind}
use Rattle.towers.proofs.tower.Tower.inverted.Goals as goal

pub returns : goal.returns
unfolding tower_kind
returns g c =
    let f = g.T.Tray.form in
    let low = g.T.TowerTray.LOWEST in
    let s = c.args.self.now in
    let facts = tower_kind low g.met.T.TowerTray.from_one in
    let dual = kind_dual f g.T.Tray.regular (tower low) mirrored count facts s _ c.inverted.ensures.count c.inverted.ensures.trays in
    record { dual = dual; again = ap mirrored dual.mirrored ∙ mirror_twice f g.T.Tray.regular (tower low) mirrored count facts s }
