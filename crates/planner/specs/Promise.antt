use Rattle.std.specs.Prelude.{◌≡◌, ⊤, ℕ, ◌+◌, ◌<◌, ◌↔◌, min, List, [], ◌∷◌, length, Some, None, Option, Ok, Err, Result}
use Rattle.machine.specs.Meaning.{Meaning}
use Rattle.search.specs.Shortest.{Shortest, AllLonger}
use Rattle.walk.specs.Sheets.{padded}
use Rattle.planner.specs.Told.{IsWorking, IsFound, IsNoPlan, IsFetched, told}
use Rattle.planner.specs.Calls.{Task, search_of, refused, after}
use Rattle.planner.specs.declared.answer.Answer.{Answer}
use Rattle.planner.specs.declared.answer.Answer.TheVariants.{Accepted}
use Rattle.planner.specs.declared.call.Call.{Call}
use Rattle.planner.specs.declared.call.Call.TheVariants.{Load, Work, Fetch, Drop}
use Rattle.planner.specs.declared.fault.Fault.{Fault}
use Rattle.planner.specs.declared.played.Played.{Played}

-- What the answers of a planner owe to the calls, whatever calls came before.

module _ {S : Type 0} (m : Meaning S) (e : S → ℕ) where
  -- What a grant is told, for a task with this grant added.
  pub record Granted (t : Task S) (a : Answer) : Type 0 where
    -- "working" exactly while the grants come to less than all the looks of the search
    pub working : IsWorking a ↔ (t.granted < (search_of m e t).looks)
    -- the looks made are the grants, or all the looks of the search if they are fewer
    pub looks : (told a).looks ≡ Some (min t.granted (search_of m e t).looks)
    -- else "none" exactly when every list that brings the machine home has more turns than the limit
    pub none : (IsWorking a → ⊥) → (IsNoPlan a ↔ AllLonger m t.limit t.start)
    -- else "found", with the length of the plan
    pub found : (IsWorking a → ⊥) → (IsNoPlan a → ⊥) → IsFound a × ((p : List ℕ) × ((search_of m e t).plan ≡ Some p) × ((told a).length ≡ Some (length p)))

  -- What a fetch answers and writes.
  pub record Yields (t : Task S) (a : Answer) (sheet : List ℕ) : Type 0 where
    pub turns : List ℕ
    pub fetched : IsFetched a
    pub length_is : (told a).length ≡ Some (length turns)
    pub sheet_is : sheet ≡ padded turns
    -- it is the plan that the search finds, and it is a shortest one within the limit
    pub searched : (search_of m e t).plan ≡ Some turns
    pub shortest : Shortest m t.limit t.start turns

  -- What is owed to a call that is accepted: the answer, and the sheet, which only a fetch changes.
  abbrev pub Owed : Option (Task S) → Call S → List ℕ → Answer → List ℕ → Type 0
  Owed task (Load s limit) old a new = (a ≡ Accepted) × (new ≡ old)
  Owed None (Work grant) old a new = ⊥
  Owed (Some t) (Work grant) old a new = Granted (record { start = t.start; limit = t.limit; granted = t.granted + grant }) a × (new ≡ old)
  Owed None Fetch old a new = ⊥
  Owed (Some t) Fetch old a new = Yields t a new
  Owed task Drop old a new = (a ≡ Accepted) × (new ≡ old)

  -- What is owed to a call, by the first fault that applies: none, and it is accepted; or this one, which is then answered, and the sheet stays.
  abbrev pub OwedIf : Option Fault → Option (Task S) → Call S → List ℕ → Result Answer Fault → List ℕ → Type 0
  OwedIf None task call old (Ok a) new = Owed task call old a new
  OwedIf None task call old (Err f) new = ⊥
  OwedIf (Some f) task call old r new = (r ≡ Err f) × (new ≡ old)

  -- What is owed to a call: it is accepted exactly when no fault applies, else the first one that does is answered and the sheet stays.
  abbrev pub Kept : Option (Task S) → Call S → List ℕ → Result Answer Fault → List ℕ → Type 0
  Kept task call old r new = OwedIf (refused m e task call) task call old r new

  -- A run of calls with what each was replied and the sheet after it.
  abbrev pub Run : Option (Task S) → List ℕ → List (Call S) → List Played → Type 0
  Run task sheet [] [] = ⊤
  Run task sheet (c ∷ cs) (r ∷ rs) = Kept task c sheet r.reply r.sheet × Run (after m e task c) r.sheet cs rs
  Run task sheet cs rs = ⊥

-- The sheet after these replies.
abbrev pub sheet_after : List ℕ → List Played → List ℕ
sheet_after sheet [] = sheet
sheet_after sheet (r ∷ rs) = sheet_after r.sheet rs
