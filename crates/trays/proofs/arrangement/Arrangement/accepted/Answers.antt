use Rattle.std.proofs.Common.{◌≡◌, length, rules}
use Rattle.trays.proofs.Permutations.{from_accepted}
use Rattle.trays.proofs.arrangement.Arrangement.accepted.Goals as goal

pub invariant_of-result : goal.invariant_of-result
invariant_of-result g c =
    let xs = c.args.trays in
    let long : length xs ≡ 32 = search rules in
    let accepted = c.requires.accepted.1 in
    record { least = c.requires.least; most = accepted.counted.1; each_once = from_accepted g.T.Tray.form g.T.Tray.regular c.requires.accepted.0 c.args.n xs long accepted }
