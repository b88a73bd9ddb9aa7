use Rattle.std.specs.Prelude.{◌≡◌, ℕ, ◌≤◌, ◌<◌, ◌↔◌, List, length, Some, None}
use Rattle.machine.specs.Meaning.{Meaning, Brings}
use Rattle.search.specs.Search.{looks_from, look_and_below, round_and_later, rounds_from, search}

-- These turns bring the state home, are within the limit, and no list that brings the state home is shorter.
pub record Shortest {S : Type 0} (m : Meaning S) (limit : ℕ) (s : S) (p : List ℕ) : Type 0 where
  pub brings : Brings m p s
  pub within : length p ≤ limit
  pub least : (ks : List ℕ) → Brings m ks s → length p ≤ length ks

-- Every list that brings the state home has more turns than the limit.
abbrev pub AllLonger : {S : Type 0} → Meaning S → ℕ → S → Type 0
AllLonger m limit s = (ks : List ℕ) → Brings m ks s → limit < length ks

-- What the search from a state within a limit owes.
pub record FindsShortest {S : Type 0} (m : Meaning S) (e : S → ℕ) (limit : ℕ) (s : S) : Type 0 where
  pub found : (p : List ℕ) → (search m e limit s).plan ≡ Some p → Shortest m limit s p
  pub none : ((search m e limit s).plan ≡ None) ↔ AllLonger m limit s
  pub some_looks : 1 ≤ (search m e limit s).looks
  -- it depends on the values of the estimate alone
  pub by_values : (f : S → ℕ) → ((t : S) → f t ≡ e t) → search m f limit s ≡ search m e limit s
  -- another limit that allows the plan changes nothing
  pub by_limit : (p : List ℕ) → (search m e limit s).plan ≡ Some p → (other : ℕ) → length p ≤ other → search m e other s ≡ search m e limit s

-- The bounds on turns and rounds, by which the definitions are seen to end, leave nothing out.
pub record Unbounded {S : Type 0} (m : Meaning S) (e : S → ℕ) : Type 0 where
  pub looks : (threshold : ℕ) (made : List ℕ) (s : S) → looks_from m e threshold made s ≡ look_and_below m e threshold (looks_from m e threshold) made s
  pub rounds : (limit : ℕ) (s : S) (threshold : ℕ) → threshold ≤ limit → rounds_from m e limit s threshold ≡ round_and_later m e limit s (rounds_from m e limit s) threshold
