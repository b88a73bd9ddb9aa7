use Rattle.std.specs.Prelude.{⊤, ℕ, Some, None, Option}
use Rattle.planner.specs.declared.answer.Answer.{Answer}
use Rattle.planner.specs.declared.answer.Answer.TheVariants.{Accepted, Working, Found, NoPlan, Fetched}
use Rattle.planner.specs.declared.fault.Fault.{Fault}
use Rattle.planner.specs.declared.fault.Fault.TheVariants.{Limit, AtWork, NoTask, Grant, GrantSum, NotFound, NothingToDrop}

-- What each answer tells: its letter, the looks made since the load, and the length of the plan.
pub record Told : Type 0 where
  pub letter : ℕ
  pub looks : Option ℕ
  pub length : Option ℕ

-- The letters are A, B, Y, N and T.
abbrev pub told : Answer → Told
told Accepted = record { letter = 0x41; looks = None; length = None }
told (Working looks) = record { letter = 0x42; looks = Some looks; length = None }
told (Found length looks) = record { letter = 0x59; looks = Some looks; length = Some length }
told (NoPlan looks) = record { letter = 0x4E; looks = Some looks; length = None }
told (Fetched length) = record { letter = 0x54; looks = None; length = Some length }

abbrev pub IsWorking : Answer → Type 0
IsWorking (Working looks) = ⊤
IsWorking a = ⊥

abbrev pub IsFound : Answer → Type 0
IsFound (Found length looks) = ⊤
IsFound a = ⊥

abbrev pub IsNoPlan : Answer → Type 0
IsNoPlan (NoPlan looks) = ⊤
IsNoPlan a = ⊥

abbrev pub IsFetched : Answer → Type 0
IsFetched (Fetched length) = ⊤
IsFetched a = ⊥

-- The number of each fault.
abbrev pub fault_number : Fault → ℕ
fault_number Limit = 12
fault_number AtWork = 13
fault_number NoTask = 14
fault_number Grant = 15
fault_number GrantSum = 16
fault_number NotFound = 17
fault_number NothingToDrop = 18
