use Rattle.std.specs.Prelude.{◌≡◌, ℕ, ◌≤◌, Bool, true, List, [], ◌∷◌}
use Rattle.machine.specs.declared.turn_range.TheConstants.{HIGHEST_TURN}

-- What a machine means: its lowest and its highest turn number, where each turn leads, and which states are home.
-- Where the lowest number is above the highest, there are no turns.
pub record Meaning (S : Type 0) : Type 0 where
  pub lowest : S → ℕ
  pub highest : S → ℕ
  pub after : S → ℕ → S
  pub home : S → Bool

-- The machine has this turn at this state.
pub record InRange {S : Type 0} (m : Meaning S) (s : S) (k : ℕ) : Type 0 where
  pub low : m.lowest s ≤ k
  pub high : k ≤ m.highest s

-- What every machine owes.
pub record Lawful {S : Type 0} (m : Meaning S) : Type 0 where
  pub from_one : (s : S) → 1 ≤ m.lowest s
  pub to_highest : (s : S) → m.highest s ≤ HIGHEST_TURN
  pub twice : (s : S) (k : ℕ) → InRange m s k → m.after (m.after s k) k ≡ s
  pub same_lowest : (s : S) (k : ℕ) → InRange m s k → m.lowest (m.after s k) ≡ m.lowest s
  pub same_highest : (s : S) (k : ℕ) → InRange m s k → m.highest (m.after s k) ≡ m.highest s

-- The list of turns brings the state home: all are in range, and they end in a state that is home.
abbrev pub Brings : {S : Type 0} → Meaning S → List ℕ → S → Type 0
Brings m [] s = m.home s ≡ true
Brings m (k ∷ ks) s = InRange m s k × Brings m ks (m.after s k)
