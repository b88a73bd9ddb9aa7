use Rattle.std.specs.Prelude.{ℕ, ◌+◌, min, max, if◌then◌else◌, List, map, Some, None, Option}
use Rattle.std.specs.List.{reduce}
use Rattle.machine.specs.Meaning.{Meaning}
use Rattle.machine.specs.Turns.{turns}
use Rattle.estimate.specs.declared.estimate.TheConstants.{HIGHEST_ESTIMATE}

-- The numbers that e has after one turn, by the turns in rising order.
abbrev pub after_each : {S : Type 0} → Meaning S → (S → ℕ) → S → List ℕ
after_each m e s = map (λ k. e (m.after s k)) (turns m s)

-- The least of them, where there is a turn.
abbrev pub least_after : {S : Type 0} → Meaning S → (S → ℕ) → S → Option ℕ
least_after m e s = reduce min (after_each m e s)

-- The greater of the number here and 1 plus the least after one turn, but at most HIGHEST_ESTIMATE; where there is no turn, the number here.
abbrev pub ahead : ℕ → Option ℕ → ℕ
ahead here None = here
ahead here (Some least) = min (max here (1 + least)) HIGHEST_ESTIMATE

-- Look-ahead over the estimate e: 0 at home.
abbrev pub look_ahead : {S : Type 0} → Meaning S → (S → ℕ) → S → ℕ
look_ahead m e s = if m.home s then 0 else ahead (e s) (least_after m e s)

-- The greater of the numbers of a state and of its dual.
abbrev pub dual_lookup : {S : Type 0} → (S → S) → (S → ℕ) → S → ℕ
dual_lookup mirror e s = max (e s) (e (mirror s))
