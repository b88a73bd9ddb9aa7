use Rattle.std.specs.Prelude.{ℕ, min, List, [], ◌∷◌, Some, None, Option}
use Rattle.std.specs.List.{reduce}
use Rattle.machine.specs.Meaning.{Meaning}
use Rattle.search.specs.Search.{Look, followed_by, cuts, next_threshold, rounds_from}

-- The least total that was cut so far, where one was, and then these totals.
abbrev pub with_least : Option ℕ → List ℕ → List ℕ
with_least None ts = ts
with_least (Some t) ts = t ∷ ts

-- The least total that was cut, with one more.
abbrev pub with_cut : Option ℕ → ℕ → Option ℕ
with_cut least t = reduce min (with_least least (t ∷ []))

module _ {S : Type 0} (m : Meaning S) (e : S → ℕ) (limit : ℕ) (s : S) where
  -- The looks of the rounds after one that has cut this least total.
  abbrev pub later_rounds : Option ℕ → List Look
  later_rounds least = elim (next_threshold limit least) [ None ↦ [] | Some t ↦ rounds_from m e limit s t ]

  -- What is still to come of a search, where xs is what is left of the round.
  abbrev pub to_come : Option ℕ → List Look → List Look
  to_come least xs = followed_by xs (later_rounds (reduce min (with_least least (cuts xs))))
