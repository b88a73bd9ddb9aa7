use Rattle.std.specs.Prelude.{◌≡◌, ◌≢◌, ℕ, ◌<◌, List, [], ◌∷◌, ◌++◌, length, Some, None, Option, Ok, Err, Result}
use Rattle.tape.specs.declared.command.Command.{Command}
use Rattle.tape.specs.declared.command.Command.TheVariants.{Plain, Sided, Ring, Work, Go, Fetch, Drop}
use Rattle.tape.specs.declared.fault.Fault.{Fault}
use Rattle.tape.specs.declared.fault.Fault.TheVariants.{UnknownCommand, OperandsCut}

-- The letter of each command.
abbrev pub letter_of : Command → ℕ
letter_of (Plain bytes) = 0x50
letter_of (Sided bytes) = 0x53
letter_of (Ring bytes) = 0x52
letter_of (Work bytes) = 0x57
letter_of Go = 0x47
letter_of Fetch = 0x46
letter_of Drop = 0x44

-- Its operand bytes.
abbrev pub operands_of : Command → List ℕ
operands_of (Plain bytes) = bytes.now
operands_of (Sided bytes) = bytes.now
operands_of (Ring bytes) = bytes.now
operands_of (Work bytes) = bytes.now
operands_of Go = []
operands_of Fetch = []
operands_of Drop = []

-- How many operand bytes a command has.
abbrev pub width : Command → ℕ
width (Plain bytes) = 34
width (Sided bytes) = 34
width (Ring bytes) = 35
width (Work bytes) = 4
width Go = 0
width Fetch = 0
width Drop = 0

-- A tape begins with this command: with its letter, and then its operand bytes, as many as it has.
pub record StartsWith (tape : List ℕ) (c : Command) : Type 0 where
  pub rest : List ℕ
  pub is : tape ≡ letter_of c ∷ (operands_of c ++ rest)
  pub whole : length (operands_of c) ≡ width c

-- Why a tape begins with no command, though it is not at its end: no command has this letter, or the operands of one that has it are cut.
abbrev pub Unreadable : List ℕ → Fault → Type 0
Unreadable [] f = ⊥
Unreadable (letter ∷ rest) UnknownCommand = (c : Command) → letter_of c ≢ letter
Unreadable (letter ∷ rest) OperandsCut = (c : Command) × (letter_of c ≡ letter) × (length rest < width c)
Unreadable (letter ∷ rest) f = ⊥

-- What is read at the beginning of a tape, or none at its end.
abbrev pub Reads : List ℕ → Result (Option Command) Fault → Type 0
Reads tape (Ok None) = tape ≡ []
Reads tape (Ok (Some c)) = StartsWith tape c
Reads tape (Err f) = Unreadable tape f
