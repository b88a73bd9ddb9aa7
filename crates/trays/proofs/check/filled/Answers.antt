use Rattle.std.proofs.Common.{rules}
use Rattle.std.proofs.iter.runs.Made.{chains}
use Rattle.trays.proofs.Places.{blank_found, rest_tested}
use Rattle.trays.proofs.check.filled.Goals as goal

pub returns : goal.returns
returns g c =
    let f = g.T.Tray.form in
    let xs = c.args.trays.now in
    blank_found f c.args.n xs g.T.Tray.regular c.position.result c.map.result (search rules) (rest_tested f c.args.n xs (search rules) (search rules) c.position.result (search (rules, chains)))
