use Rattle.std.specs.Prelude.{◌≡◌, ℕ, ◌<◌, ◌≤◌, List, length, slice_index, None, Ok, Err, Result}
use Rattle.tape.specs.declared.refusal.Refusal.{Refusal}
use Rattle.tape.specs.declared.reply.TheConstants.{LONGEST_REPLY}
use Rattle.console.specs.declared.console.Console.{Console}
use Rattle.console.specs.declared.ran.Ran.{Ran}
use Rattle.console.specs.Histories.{History}
use Rattle.console.specs.Holds.{Stands}
use Rattle.console.specs.Tapes.{Runs, Whole, call_fault}

-- A console c runs what stands at the place, for every history, and is c' after it. A reply that begins with E and the tape's end leave it as it was.
pub record RunsAt (tape : List ℕ) (place : ℕ) (c : Console) (old : List ℕ) (ran : Ran) (c' : Console) (new : List ℕ) : Type 0 where
  pub runs : (h : History) → Stands h c → (after : History) × Runs tape place h old ran new after × Stands after c'
  pub told : slice_index new 0 ≡ 0x45 → c' ≡ c
  pub idle : ran.count ≡ 0 → c' ≡ c
  pub further : place < length tape → place < ran.next
  pub on_tape : ran.next ≤ length tape
  pub few : ran.count ≤ LONGEST_REPLY

-- What one call of a console answers and leaves: it is refused as a whole and changes nothing, or else it runs what stands at the place.
abbrev pub Called : List ℕ → ℕ → Console → List ℕ → Result Ran Refusal → Console → List ℕ → Type 0
Called tape place c old (Ok ran) c' new = (call_fault tape place (length old) ≡ None) × RunsAt tape place c old ran c' new
Called tape place c old (Err r) c' new = Whole tape place (length old) r × (c' ≡ c) × (new ≡ old)
