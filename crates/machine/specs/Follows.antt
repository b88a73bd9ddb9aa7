use Rattle.std.specs.Prelude.{◌≡◌, ℕ, ◌&&◌, nat_le, Bool, true, false, List, [], ◌∷◌, Ok, Err, Result}
use Rattle.std.specs.List.{prefix_len}
use Rattle.machine.specs.declared.fault.Fault.{Fault}
use Rattle.machine.specs.declared.fault.Fault.TheVariants.{NoSuchTurn}
use Rattle.machine.specs.declared.ending.Ending.{Ending}
use Rattle.machine.specs.declared.ending.Ending.TheVariants.{Home, NotHome, Refused}
use Rattle.machine.specs.Meaning.{Meaning, InRange, Brings}

-- How a list of turns ends whose last turn led to this state.
abbrev pub EndsAs : {S : Type 0} → Meaning S → S → Ending → Type 0
EndsAs m s Home = m.home s ≡ true
EndsAs m s NotHome = m.home s ≡ false
EndsAs m s (Refused f) = ⊥

-- The turns ks lead from s through these states, one for each turn made, and end so.
abbrev pub Through : {S : Type 0} → Meaning S → S → List ℕ → List S → Ending → Type 0
Through m s [] [] end = EndsAs m s end
Through m s [] (t ∷ ts) end = ⊥
Through m s (k ∷ ks) [] end = (InRange m s k → ⊥) × (end ≡ Refused NoSuchTurn)
Through m s (k ∷ ks) (t ∷ ts) end = InRange m s k × (t ≡ m.after s k) × Through m t ks ts end

-- What following the turns ks from s owes: the states passed through, and the ending is home exactly where ks bring s home.
pub record Follows {S : Type 0} (m : Meaning S) (s : S) (ks : List ℕ) (states : List S) (end : Ending) : Type 0 where
  pub through : Through m s ks states end
  pub brings : end ≡ Home → Brings m ks s
  pub ends_home : Brings m ks s → end ≡ Home

-- What is owed once the turns are made up to the state t: where one was refused the way has ended so, else as t is home or not.
abbrev pub Made : {S U : Type 0} → Meaning S → S → List ℕ → List S → S → Result U Fault → Type 0
Made m s ks states t (Err f) = Follows m s ks states (Refused f)
Made m s ks states t (Ok _) = (m.home t ≡ true → Follows m s ks states Home) × (m.home t ≡ false → Follows m s ks states NotHome)

-- Whether a turn lies between these two, both included.
abbrev pub within : ℕ → ℕ → ℕ → Bool
within lowest highest k = nat_le lowest k && nat_le k highest

-- How many turns of the list stand before the first that is not between these two.
abbrev pub leading_in : ℕ → ℕ → List ℕ → ℕ
leading_in lowest highest ks = prefix_len (within lowest highest) ks

-- How many turns of the list stand before the first that the machine does not have at s.
abbrev pub leading : {S : Type 0} → Meaning S → S → List ℕ → ℕ
leading m s ks = leading_in (m.lowest s) (m.highest s) ks
