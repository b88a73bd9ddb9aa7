use Rattle.std.proofs.Common.{rules}
use Rattle.std.proofs.iter.runs.Made.{chains}
use Rattle.trays.proofs.Permutations.{in_order_is}
use Rattle.trays.proofs.order.is_in_order.Goals as goal

pub returns : goal.returns
returns g c = in_order_is g.T.Tray.form g.T.Tray.regular c.args.trays.now c.all.result (search (rules, chains))
