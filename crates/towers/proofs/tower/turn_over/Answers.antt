use Rattle.std.proofs.Common.{List, ◌++◌, map, true, ap, ◌∙◌, ap₂, append-nil, arith}
use Rattle.std.proofs.lemmas.List.{drop_all, get_or_default, take_all}
use Rattle.trays.proofs.Blocks.{turned_over_more}
use Rattle.towers.proofs.tower.turn_over.Goals as goal

pub loop-tray-preserved : goal.loop-tray-preserved
loop-tray-preserved g c =
    let f = g.T.Tray.form in
    let i = c.loop-tray.tray-index in
    let lt = c.loop-tray-test.true in
    let long = c.loop-tray.auto.trays in
    turned_over_more f g.T.Tray.regular i c.args.trays.now c.loop-tray.trays c.turned_over.result lt c.loop-tray.invariant
    (c.turned_over.ensures ∙ ap (f.sided true) (get_or_default c.loop-tray.trays i _ (f.upright 0) (omega arith)))

pub returns : goal.returns
returns g c =
    let xs = c.args.trays.now in
    let i = c.loop-tray.tray-index in
    let end = c.loop-tray-test.false in
    let over = map (g.T.Tray.form.sided true) in
    c.loop-tray.invariant ∙ ap₂ (λ (l r : List _). over l ++ r) (take_all i xs end) (drop_all i xs end) ∙ append-nil (over xs)
