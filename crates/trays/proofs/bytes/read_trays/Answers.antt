use Rattle.std.proofs.Common.{rules, ◌≡◌, get_or}
use Rattle.trays.proofs.Made.{made_each}
use Rattle.trays.proofs.BytesRead.{read_all}
use Rattle.trays.proofs.bytes.read_trays.Goals as goal

pub returns-clause-value : goal.returns-clause-value
returns-clause-value g c =
    let f = g.T.Tray.form in
    let bytes = c.args.bytes.now in
    let made = c.from_fn.ensures.items in
    read_all f g.T.Tray.regular bytes c.from_fn.result c.told-bytes made.long
    (made_each _ _ _ (λ k y. y ≡ f.read (get_or bytes k 0)) (f.upright 0) 32 made (λ k y q lt called. search rules))
