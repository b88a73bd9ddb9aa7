use Rattle.std.specs.Prelude.{ℕ, Some, None, Option}
use Rattle.machine.specs.declared.fault.Fault.{Fault}
use Rattle.machine.specs.declared.fault.Fault.TheVariants.{TrayCount, Span, TrayNumber, TrayRepeated, TrayBeyond, NoSuchTurn}

-- What is told of a fault: its number, and the index of the tray byte at fault where there is one.
pub record FaultEntry : Type 0 where
  pub number : ℕ
  pub index : Option ℕ

-- The one list of the machine's faults.
abbrev pub fault_entry : Fault → FaultEntry
fault_entry TrayCount = record { number = 6; index = None }
fault_entry Span = record { number = 7; index = None }
fault_entry (TrayNumber i) = record { number = 8; index = Some i }
fault_entry (TrayRepeated i) = record { number = 9; index = Some i }
fault_entry (TrayBeyond i) = record { number = 10; index = Some i }
fault_entry NoSuchTurn = record { number = 11; index = None }
