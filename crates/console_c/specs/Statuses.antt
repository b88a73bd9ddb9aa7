use Rattle.std.specs.Prelude.{ℕ}
use Rattle.tape.specs.Replies.{fault_code}
use Rattle.console_c.specs.declared.status.Status.{Status}
use Rattle.console_c.specs.declared.status.Status.TheVariants.{Done, Refused, NoConsole, NoRoom}

-- The number that C is given for a status. What the console refuses as a whole has the number of its refusal; by `Called` that is 1, 2 or 3.
abbrev pub status_number : Status → ℕ
status_number Done = 0
status_number (Refused fault) = (fault_code fault).number
status_number NoConsole = 21
status_number NoRoom = 22
