use Rattle.std.proofs.Common.{rules}
use Rattle.std.proofs.iter.runs.Made.{chains}
use Rattle.trays.proofs.Places.{numbered_found}
use Rattle.trays.proofs.check.misnumbered.Goals as goal

pub returns : goal.returns
returns g c = numbered_found g.T.Tray.form c.args.n c.args.trays.now (search rules) c.position.result (search (rules, chains))
