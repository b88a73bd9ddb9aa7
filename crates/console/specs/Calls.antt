use Rattle.std.specs.Prelude.{⊤}
use Rattle.std.specs.Int.{w32, from_be_bytes}
use Rattle.planner.specs.declared.call.Call.{Call}
use Rattle.planner.specs.declared.call.Call.TheVariants as call
use Rattle.tape.specs.declared.command.Command.{Command}
use Rattle.tape.specs.declared.command.Command.TheVariants.{Work, Go, Fetch, Drop}
use Rattle.console.specs.declared.console.TheConstants.{GO_GRANT}

-- The command asks something of the planner of the latest load, and loads nothing.
abbrev pub Asks : Command → Type 0
Asks (Work bytes) = ⊤
Asks Go = ⊤
Asks Fetch = ⊤
Asks Drop = ⊤
Asks c = ⊥

-- The call of such a command. A load hands over a machine of one kind; it is none of these, and stands here as a fetch.
abbrev pub call_of : {S : Type 0} → Command → Call S
call_of (Work bytes) = call.Work (from_be_bytes w32 bytes.now)
call_of Go = call.Work GO_GRANT
call_of Drop = call.Drop
call_of c = call.Fetch
