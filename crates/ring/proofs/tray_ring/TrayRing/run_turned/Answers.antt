use Rattle.std.proofs.Common.{◌≡◌, ℕ, subst, arith}
use Rattle.ring.proofs.Spun.{SpunTo, none_spun, more_spun, all_spun, all_reversed}
use Rattle.ring.proofs.tray_ring.TrayRing.run_turned.Goals as goal

pub loop-j-init : goal.loop-j-init
loop-j-init c = none_spun c.args.self.now c.args.from

pub loop-j-preserved : goal.loop-j-preserved
loop-j-preserved c =
    more_spun c.args.self.now c.args.from c.loop-j.j c.place_on.result c.place_on-other.result c.loop-j.trays c.loop-j-test.true c.place_on.ensures c.place_on-other.ensures c.loop-j.invariant

pub returns : goal.returns
returns c =
    let s = c.args.self.now in
    let left = c.loop-j-test.false in
    let end = c.loop-j.auto.j-end in
    let all : c.loop-j.j ≡ s.span = omega arith in
    let value = all_spun s c.args.from c.loop-j.trays c.requires (subst (λ (j : ℕ). SpunTo s c.args.from j c.loop-j.trays) all c.loop-j.invariant) in
    record { value = value; reversed = all_reversed s c.args.from c.loop-j.trays c.requires value }
