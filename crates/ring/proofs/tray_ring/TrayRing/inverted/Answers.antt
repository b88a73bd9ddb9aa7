use Rattle.std.proofs.Common.{ap, ◌∙◌}
use Rattle.trays.specs.Form.{number_tray, number_regular}
use Rattle.trays.proofs.KindFacts.{kind_dual, mirror_twice}
use Rattle.ring.specs.Ring.{mirrored, ring}
use Rattle.ring.specs.Laws.{base, ring_kind}
use Rattle.ring.proofs.tray_ring.TrayRing.inverted.Goals as goal

pub returns : goal.returns
unfolding ring_kind
returns c =
    let s = c.args.self.now in
    let dual = kind_dual number_tray number_regular ring mirrored base ring_kind s _ (ap (λ n. (n, s.span)) c.inverted.ensures.count) c.inverted.ensures.trays in
    record { dual = dual; again = ap mirrored dual.mirrored ∙ mirror_twice number_tray number_regular ring mirrored base ring_kind s }
