use Rattle.std.specs.Prelude.{◌≡◌, ℕ, ◌+◌, ◌≤◌, true, List, length}
use Rattle.machine.specs.Meaning.{Meaning, InRange, Brings}
use Rattle.estimate.specs.declared.estimate.TheConstants.{HIGHEST_ESTIMATE}

-- No list of turns that brings the state home is shorter than the number.
abbrev pub Admissible : {S : Type 0} → Meaning S → (S → ℕ) → Type 0
Admissible {S} m e = (s : S) (ks : List ℕ) → Brings m ks s → e s ≤ length ks

-- What every estimate owes: a number of at most HIGHEST_ESTIMATE for each state, which is admissible.
pub record IsEstimate {S : Type 0} (m : Meaning S) (e : S → ℕ) : Type 0 where
  pub to_highest : (s : S) → e s ≤ HIGHEST_ESTIMATE
  pub admissible : Admissible m e

-- Home has 0, and a turn lowers the number by at most `step`.
pub record Consistent {S : Type 0} (m : Meaning S) (step : ℕ) (e : S → ℕ) : Type 0 where
  pub home : (s : S) → m.home s ≡ true → e s ≡ 0
  pub turn : (s : S) (k : ℕ) → InRange m s k → e s ≤ e (m.after s k) + step
