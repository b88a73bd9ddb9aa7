use Rattle.std.specs.Prelude.{ℕ}
use Rattle.machine.specs.Meaning.{Meaning}
use Rattle.towers.specs.contracts.sided_tray.SidedTrayTray.TheImpl as sided_trays
use Rattle.towers.specs.declared.sided_tray.SidedTray.{SidedTray}
use Rattle.towers.specs.declared.tower.Tower.{Tower}
use Rattle.towers.specs.Towers.{tower}
use Rattle.trays.specs.contracts.tray.U8Tray.TheImpl as plain_trays

-- The states of the two kinds of tower.
abbrev pub PlainTower : Type 0
PlainTower = Tower ℕ plain_trays.ghosts

abbrev pub SidedTower : Type 0
SidedTower = Tower SidedTray sided_trays.ghosts

-- What each means: the lowest turn of a plain tower is 2, and that of a sided tower 1.
abbrev pub plain : Meaning PlainTower
plain = tower 2

abbrev pub sided : Meaning SidedTower
sided = tower 1
