use Rattle.std.specs.Prelude.{◌≡◌, ℕ, List, map, drop, replicate, slice_index, Some, None, Option, Ok, Err, Result}
use Rattle.machine.specs.Meaning.{Meaning}
use Rattle.planner.specs.Calls.{Task, after}
use Rattle.planner.specs.Promise.{Kept}
use Rattle.planner.specs.declared.answer.Answer.{Answer}
use Rattle.planner.specs.declared.call.Call.{Call}
use Rattle.planner.specs.declared.fault.Fault as planner
use Rattle.ring.specs.Ring as rings
use Rattle.tape.specs.declared.command.Command.{Command}
use Rattle.tape.specs.declared.command.Command.TheVariants.{Plain, Sided, Ring, Work, Go, Fetch, Drop}
use Rattle.tape.specs.declared.fault.Fault.{Fault}
use Rattle.tape.specs.declared.fault.Fault.TheVariants.{Planner}
use Rattle.towers.specs.Towers as towers
use Rattle.towers.specs.Tray.{sided_tray}
use Rattle.trays.specs.Form.{TrayForm, number_tray}
use Rattle.trays.specs.Settable.{Holding, in_ring, in_tower}
use Rattle.walk.specs.declared.sheet.TheConstants.{SHEET_PLACES}
use Rattle.console.specs.Calls.{call_of}
use Rattle.console.specs.Histories.{History, none, plain_task, sided_task, ring_task, busy, history_of}
use Rattle.gaps.specs.Kinds.{plain_estimate, sided_estimate, ring_estimate}
use Rattle.ring.specs.Ring.{ring}
use Rattle.towers.specs.Kinds.{plain, sided}
use Rattle.console.specs.Loads.{Loads}

-- What a tower is to hold by the operands of its load: byte 0 is the limit, byte 1 the number of trays, and the others are the trays.
abbrev pub tower_load : {A : Type 0} → TrayForm A → List ℕ → Holding A
tower_load f bytes = in_tower f (slice_index bytes 1) (drop 2 bytes)

-- What a ring is to hold: byte 2 is the span.
abbrev pub ring_load : List ℕ → Holding ℕ
ring_load bytes = in_ring (slice_index bytes 1) (slice_index bytes 2) (drop 3 bytes)

-- A reply of a planner is the console's, with its fault in the console's.
abbrev pub carried : Result Answer planner.Fault → Result Answer Fault
carried (Ok a) = Ok a
carried (Err f) = Err (Planner f)

-- A planner with this task, or none, replies what it owes to a call. The history afterwards is that of the task that is left.
pub record Asked {S : Type 0} (m : Meaning S) (e : S → ℕ) (of : Task S → History) (task : Option (Task S)) (call : Call S) (r : Result Answer Fault) (sheet : List ℕ) (next : History) : Type 0 where
  pub reply : Result Answer planner.Fault
  pub reply_is : r ≡ carried reply
  pub kept : Kept m e task call (replicate SHEET_PLACES 0) reply sheet
  pub next_is : next ≡ history_of of (after m e task call)

-- The planner of the history is asked. Where there is no task an empty one is, and those of all kinds reply the same.
abbrev pub AskedOf : History → ((S : Type 0) → Call S) → Result Answer Fault → List ℕ → History → Type 0
AskedOf none call r sheet next = Asked plain plain_estimate plain_task None (call _) r sheet next
AskedOf (plain_task t) call r sheet next = Asked plain plain_estimate plain_task (Some t) (call _) r sheet next
AskedOf (sided_task t) call r sheet next = Asked sided sided_estimate sided_task (Some t) (call _) r sheet next
AskedOf (ring_task t) call r sheet next = Asked ring ring_estimate ring_task (Some t) (call _) r sheet next

-- What a command is answered, and the history after it.
abbrev pub Answered : History → Command → Result Answer Fault → List ℕ → History → Type 0
Answered h (Plain bytes) r sheet next =
    Loads (λ s. s) number_tray 1 towers.held plain_task (busy h) (slice_index bytes.now 0) (tower_load number_tray bytes.now) h r next
Answered h (Sided bytes) r sheet next =
    Loads (λ s. s) sided_tray 1 towers.held sided_task (busy h) (slice_index bytes.now 0) (tower_load sided_tray bytes.now) h r next
Answered h (Ring bytes) r sheet next =
    Loads (λ s. s) number_tray 4 rings.held ring_task (busy h) (slice_index bytes.now 0) (ring_load bytes.now) h r next
Answered h (Work bytes) r sheet next = AskedOf h (λ _. call_of (Work bytes)) r sheet next
Answered h Go r sheet next = AskedOf h (λ _. call_of Go) r sheet next
Answered h Fetch r sheet next = AskedOf h (λ _. call_of Fetch) r sheet next
Answered h Drop r sheet next = AskedOf h (λ _. call_of Drop) r sheet next
