use Rattle.std.specs.Prelude.{◌≡◌, ℕ, Ok, Err, Result}
use Rattle.machine.specs.declared.fault.Fault.{Fault}
use Rattle.machine.specs.declared.fault.Fault.TheVariants.{NoSuchTurn}
use Rattle.machine.specs.Meaning.{Meaning, InRange}

-- What turn k answers and leaves. Made: the turn is in range, and the state is the one that it leads to.
-- Refused: the turn is out of range, and the machine is as it was.
abbrev pub Turned : {S M U : Type 0} → Meaning S → (M → S) → M → ℕ → Result U Fault → M → Type 0
Turned m state before k (Ok _) after = InRange m (state before) k × (state after ≡ m.after (state before) k)
Turned m state before k (Err f) after = (f ≡ NoSuchTurn) × (InRange m (state before) k → ⊥) × (after ≡ before)
