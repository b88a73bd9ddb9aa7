use Rattle.std.proofs.Common.{◌-◌, get_or, length, refl, sym, ap, ◌∙◌, arith}
use Rattle.trays.specs.Run.{place_on}
use Rattle.gaps.proofs.Rounds.{part_turned, whole_turned}
use Rattle.gaps.proofs.half_gaps.gaps_after.Goals as goal

pub returns-then-span-n : goal.returns-then-span-n
returns-then-span-n c ring all span here = whole_turned ring c.args.from c.args.here c.args.trays.now c.requires.from all here (sym span ∙ c.if-span-n.true)

pub returns : goal.returns
returns c ring all span here =
    let trays = c.args.trays.now in
    let fits = c.requires.fits in
    part_turned ring c.args.from c.args.here trays c.requires.from all here _ _ _ _ _ _ _
    (omega arith)
    refl
    (c.tray_on-last.ensures ∙ ap (λ k. get_or trays (place_on (length trays) c.args.from (k - 1)) 0) span)
    (c.tray_on-next.ensures ∙ ap (λ k. get_or trays (place_on (length trays) c.args.from k) 0) span)
    c.tray_on-before.ensures
    c.gaps_between-joined.ensures c.gaps_between-parted.ensures
    (c.saturating_sub.ensures ∙ ap (λ k. k - c.gaps_between-parted.result) c.saturating_add.ensures)
