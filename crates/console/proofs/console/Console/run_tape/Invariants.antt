use Rattle.std.proofs.Common.{◌*◌, length, ◌-◌, ◌<◌, ◌≤◌}
use Rattle.console.specs.Histories.{none}
use Rattle.console.specs.Holds.{Stands}
use Rattle.console.specs.declared.console.TheConstants.{LONGEST_TAPE}
use Rattle.tape.specs.declared.reply.TheConstants.{LONGEST_REPLY}
use Rattle.console.proofs.SoFar.{SoFar}
use Rattle.console.proofs.console.Console.run_tape.Given as goal

abbrev pub invariant-loop-place : goal.invariant-loop-place
invariant-loop-place l =
    (l.place ≤ length l.tape)
    × (l.count ≤ l.place * LONGEST_REPLY)
    × (0 < l.place → length l.tape ≤ LONGEST_TAPE)
    × (Stands none l.fn.self → SoFar l.tape l.place l.fn.room l.count l.room l.self)

abbrev pub decreases-loop-place : goal.decreases-loop-place
decreases-loop-place l = length l.tape - l.place
