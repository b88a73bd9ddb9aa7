use Rattle.std.proofs.Common.{rules}
use Rattle.gaps.proofs.Recounted.{recounted}
use Rattle.gaps.proofs.apart_count.count_after.Goals as goal

pub returns : goal.returns
returns g c tower all is_plate here =
    let below = c.unwrap_or-below.result in
    let first = c.index-trays-0.result in
    let last = c.index-trays-k.result in
    let over = c.turned_over.result in
    recounted g.T.Neighbour.apart g.met.T.Neighbour.lawful tower c.args.k c.args.here c.from-joined.result c.from-parted.result c.saturating_sub.result c.is_apart.result c.is_apart-2.result c.args.trays.now first over last below c.args.plate c.requires.low c.requires.high all
    (search rules) (search rules) (search rules) (search rules) is_plate
    (search rules) (search rules)
    (search rules) (search rules)
    here (search rules)
