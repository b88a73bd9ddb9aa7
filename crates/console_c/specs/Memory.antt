use base.Fml.{Fml, ftrue, fsep, fex}
use prog.Memory.{align}
use denote.Memory.{lone}
use Rattle.std.specs.Prelude.{ℕ}
use Rattle.std.specs.Mem.{type_size}
use Rattle.std.specs.Ptr.{Ptr, points_to}
use Rattle.console_c.specs.declared.kept_console.KeptConsole.{KeptConsole}
use Rattle.console_c.specs.contracts.kept_console.KeptConsole.{the_row}

-- How many bytes the memory of a console has, and of what its address is a multiple.
abbrev pub size : ℕ
size = type_size the_row

abbrev pub alignment : ℕ
alignment = align (lone (the_row).mir)

-- In the memory at the pointer lies a console, or none, of which φ holds.
abbrev pub kept_at : Ptr → (KeptConsole → Type 0) → Fml
kept_at at φ = fex KeptConsole (λ kept. fsep (points_to the_row at kept) (fex (φ kept) (λ _. ftrue)))
