use Rattle.std.specs.Prelude.{◌≡◌, ℕ, ◌<◌, ◌≤◌, List, length, Option, Some, None, Ok, Err}
use Rattle.tape.specs.declared.refusal.Refusal.{Refusal}
use Rattle.console.specs.declared.console.Console.{Console}
use Rattle.console.specs.Histories.{none}
use Rattle.console.specs.Holds.{Stands}
use Rattle.console.specs.Called.{Called}
use Rattle.console.specs.Tapes.{AllReplies, written}
use Rattle.console_c.specs.declared.console_ran.ConsoleRan.{ConsoleRan}
use Rattle.console_c.specs.declared.status.Status.{Status}
use Rattle.console_c.specs.declared.status.Status.TheVariants.{Done, Refused, NoConsole, NoRoom}

-- What a call for a new console leaves: one before its first command.
abbrev pub NewEnds : Option Console → Type 0
NewEnds (Some c) = Stands none c
NewEnds None = ⊥

-- How a call of what is kept ends, for a reply buffer with these bytes before and after.
abbrev pub RunEnds : List ℕ → ℕ → Option Console → List ℕ → ConsoleRan → Status → Option Console → List ℕ → ConsoleRan → Type 0
RunEnds tape place (Some c) old before Done (Some c') new ran =
    Called tape place c old (Ok (record { next = ran.next; count = ran.count })) c' new
RunEnds tape place (Some c) old before (Refused fault) (Some c') new ran =
    ((r : Refusal) × (r.fault ≡ fault) × Called tape place c old (Err r) c' new) × (ran ≡ before)
RunEnds tape place None old before NoConsole None new ran = (new ≡ old) × (ran ≡ before)
RunEnds tape place kept old before status kept' new ran = ⊥

-- How a call for all replies to a tape ends, for a room with these bytes before and after, and how many bytes are told as needed. The room has as much of the replies as it can hold.
abbrev pub RepliesEnd : List ℕ → List ℕ → Status → List ℕ → ℕ → Type 0
RepliesEnd tape old Done new needed = (bytes : List ℕ) × AllReplies tape bytes × (needed ≡ length bytes) × (new ≡ written old bytes) × (length bytes ≤ length old)
RepliesEnd tape old NoRoom new needed = (bytes : List ℕ) × AllReplies tape bytes × (needed ≡ length bytes) × (new ≡ written old bytes) × (length old < length bytes)
RepliesEnd tape old status new needed = ⊥
