use Rattle.std.proofs.Common.{◌≡◌, ◌+◌, List, length, take, ap, ◌∙◌}
use Rattle.ring.specs.declared.tray_ring.TrayRing.{TrayRing}
use Rattle.towers.specs.declared.tower.Tower.{Tower}
use Rattle.trays.specs.declared.tray.Tray.{Ghosts}
use Rattle.trays.proofs.Held.{held_long}

-- the plate below a tower, by the number of trays that it tells
pub plate_of : {A : Type 0} {b : Ghosts A} (s : Tower A b) (trays : List A) (plate : A) → trays ≡ take s.arrangement.n s.arrangement.trays → plate ≡ b.form.upright (length trays + 1) → plate ≡ b.form.upright (s.arrangement.n + 1)
plate_of {b = b} s trays plate all is = is ∙ ap (λ l. b.form.upright (length l + 1)) all ∙ ap (λ n. b.form.upright (n + 1)) (held_long s.arrangement)

-- a ring of n trays holds n
pub ring_long : (s : TrayRing) → length (take s.arrangement.n s.arrangement.trays) ≡ s.arrangement.n
ring_long s = held_long s.arrangement

-- a tower of n trays tells n
pub tower_long : {A : Type 0} {b : Ghosts A} (s : Tower A b) (trays : List A) → trays ≡ take s.arrangement.n s.arrangement.trays → length trays ≡ s.arrangement.n
tower_long s trays all = ap length all ∙ held_long s.arrangement
