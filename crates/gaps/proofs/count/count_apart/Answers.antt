use Rattle.std.proofs.Common.{of_calls, rules, arith}
use Rattle.gaps.proofs.Counted.{counted_none, counted_more, counted_all}
use Rattle.gaps.proofs.count.count_apart.Goals as goal

pub loop-i-init : goal.loop-i-init
loop-i-init g c = ((λ h acts. counted_none h c.args.trays.now c.args.end), omega arith)

pub loop-i-preserved : goal.loop-i-preserved
loop-i-preserved g c =
    let tray = c.index-trays-i.result in
    let next = c.unwrap_or-next.result in (
      (λ h acts.
          counted_more h c.args.trays.now c.args.end c.loop-i.i c.loop-i.count c.from-count.result tray next c.apart.result c.loop-i-test.true (search rules) (search rules) (acts tray next c.apart.result c.args.apart (search of_calls)).1 (search rules) (c.loop-i.invariant.0 h acts)),
      search rules,
    )

pub returns : goal.returns
returns g c h acts = counted_all h c.args.trays.now c.args.end c.loop-i.i c.loop-i.count (omega arith) (c.loop-i.invariant.0 h acts)
