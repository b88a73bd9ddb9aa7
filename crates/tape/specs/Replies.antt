use Rattle.std.specs.Prelude.{ℕ, List, [], ◌∷◌, ◌++◌, Some, None, Option, Ok, Err, Result}
use Rattle.std.specs.Int.{w16, w32, to_be_bytes}
use Rattle.machine.specs.FaultEntry.{fault_entry}
use Rattle.planner.specs.Told.{fault_number, told}
use Rattle.planner.specs.declared.answer.Answer.{Answer}
use Rattle.planner.specs.declared.answer.Answer.TheVariants.{Fetched}
use Rattle.tape.specs.declared.fault.Fault.{Fault}
use Rattle.tape.specs.declared.fault.Fault.TheVariants.{TapeLength, Place, ReplyRoom, UnknownCommand, OperandsCut, Machine, Planner}
use Rattle.tape.specs.declared.refusal.Refusal.{Refusal}

-- What tells a fault: the layer byte, which says which part refuses, and the number of the refusal.
pub record FaultCode : Type 0 where
  pub layer : ℕ
  pub number : ℕ

abbrev pub fault_code : Fault → FaultCode
fault_code TapeLength = record { layer = 1; number = 1 }
fault_code Place = record { layer = 1; number = 2 }
fault_code ReplyRoom = record { layer = 1; number = 3 }
fault_code UnknownCommand = record { layer = 2; number = 4 }
fault_code OperandsCut = record { layer = 2; number = 5 }
fault_code (Machine f) = record { layer = 3; number = (fault_entry f).number }
fault_code (Planner f) = record { layer = 4; number = fault_number f }

-- The bytes that tell a refusal.
abbrev pub refusal_bytes : Refusal → List ℕ
refusal_bytes r = 0x45 ∷ (fault_code r.fault).layer ∷ (fault_code r.fault).number ∷ to_be_bytes w16 r.place

-- The byte of a length and the four bytes of looks, where they are told.
abbrev pub length_bytes : Option ℕ → List ℕ
length_bytes None = []
length_bytes (Some length) = length ∷ []

abbrev pub looks_bytes : Option ℕ → List ℕ
looks_bytes None = []
looks_bytes (Some looks) = to_be_bytes w32 looks

-- The bytes of the sheet, which only a fetch is told with.
abbrev pub sheet_bytes : Answer → List ℕ → List ℕ
sheet_bytes (Fetched length) sheet = sheet
sheet_bytes a sheet = []

-- The bytes that tell an answer: its letter, and then what it tells.
abbrev pub answer_bytes : Answer → List ℕ → List ℕ
answer_bytes a sheet = (told a).letter ∷ (length_bytes (told a).length ++ (looks_bytes (told a).looks ++ sheet_bytes a sheet))

-- The bytes that tell a reply: an answer or a refusal.
abbrev pub reply_bytes : Result Answer Refusal → List ℕ → List ℕ
reply_bytes (Ok a) sheet = answer_bytes a sheet
reply_bytes (Err r) sheet = refusal_bytes r
