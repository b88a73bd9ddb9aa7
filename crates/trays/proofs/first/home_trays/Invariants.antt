use Rattle.std.proofs.Common.{◌≡◌, ◌+◌, ◌<◌, ℕ, length}
use Rattle.trays.specs.Form.{tray_at}
use Rattle.trays.proofs.first.home_trays.Given as goal

abbrev pub invariant-loop-i : goal.invariant-loop-i
invariant-loop-i g l =
    (length l.tray-items ≡ l.count)
    × ((k : ℕ) → k < l.i → tray_at g.T.Tray.form l.tray-items k ≡ g.T.Tray.form.upright (k + 1))
