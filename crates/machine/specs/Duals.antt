use Rattle.std.specs.Prelude.{◌≡◌, ℕ, List, reverse}
use Rattle.machine.specs.Meaning.{Meaning, Brings}

-- A list of turns brings s home if its reverse brings t home, and only then.
abbrev pub Backwards : {S : Type 0} → Meaning S → S → S → Type 0
Backwards m s t = (ks : List ℕ) → (Brings m ks s → Brings m (reverse ks) t) × (Brings m (reverse ks) t → Brings m ks s)

-- What the dual t of the state s owes.
pub record IsDual {S : Type 0} (m : Meaning S) (mirror : S → S) (s t : S) : Type 0 where
  pub mirrored : t ≡ mirror s
  pub backwards : Backwards m s t

-- The same for every state and its mirror.
abbrev pub Duals : {S : Type 0} → Meaning S → (S → S) → Type 0
Duals {S} m mirror = (s : S) → Backwards m s (mirror s)
