use Rattle.std.specs.Prelude.{ℕ, ◌+◌, min}
use Rattle.machine.specs.declared.fault.Fault.TheVariants.{TrayCount, Span, TrayNumber, TrayRepeated, TrayBeyond}
use Rattle.planner.specs.declared.fault.Fault.TheVariants.{Limit, Grant, GrantSum}
use Rattle.tape.specs.declared.command.Command.{Command}
use Rattle.tape.specs.declared.command.Command.TheVariants.{Ring, Work}
use Rattle.tape.specs.declared.fault.Fault.{Fault}
use Rattle.tape.specs.declared.fault.Fault.TheVariants.{Machine, Planner}
use Rattle.tape.specs.declared.refusal.Refusal.{Refusal}
use Rattle.tape.specs.declared.placed.Placed.{Placed}

-- How far after the letter the first tray byte of a load stands.
abbrev pub trays_at : Command → ℕ
trays_at (Ring bytes) = 4
trays_at c = 3

-- How far after the letter the first grant byte stands; where there is none, the letter counts.
abbrev pub grant_at : Command → ℕ
grant_at (Work bytes) = 1
grant_at c = 0

-- How far after the letter the byte at fault stands.
abbrev pub fault_at : Command → Fault → ℕ
fault_at c (Machine TrayCount) = 2
fault_at c (Machine Span) = 3
fault_at c (Machine (TrayNumber i)) = trays_at c + i
fault_at c (Machine (TrayRepeated i)) = trays_at c + i
fault_at c (Machine (TrayBeyond i)) = trays_at c + i
fault_at c (Planner Limit) = 1
fault_at c (Planner Grant) = grant_at c
fault_at c (Planner GrantSum) = grant_at c
fault_at c f = 0

-- The refusal of a command for a fault, with the place of the byte at fault. A place above 65,535, which no tape has, counts as that.
abbrev pub refused_for : Placed → Fault → Refusal
refused_for p f = record { fault = f; place = min 65535 (p.place + fault_at p.command f) }
