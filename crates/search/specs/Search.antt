use Rattle.std.specs.Prelude.{ℕ, zero, suc, ◌+◌, ◌-◌, min, not, if◌then◌else◌, List, [], ◌∷◌, length, reverse, Some, None, Option, ◌==◌, nat_lt}
use Rattle.std.specs.List.{filter, reduce}
use Rattle.machine.specs.Meaning.{Meaning}
use Rattle.machine.specs.Turns.{turns}

-- A list of turns made has the last one first; a plan is in the order of its turns.

-- A look takes the estimate of a state. It finds a state to cut, with its total; a state that is home, with the turns that led there as a plan; or a state to continue.
pub data Look : Type 0 where
  cut : ℕ → Look
  home : List ℕ → Look
  continued : Look

-- These looks followed by those; but a look that is home is the last.
abbrev pub followed_by : List Look → List Look → List Look
followed_by [] ys = ys
followed_by (cut t ∷ xs) ys = cut t ∷ followed_by xs ys
followed_by (home p ∷ xs) ys = home p ∷ []
followed_by (continued ∷ xs) ys = continued ∷ followed_by xs ys

-- The looks by each of these turns, one turn after the other.
abbrev pub looks_by : (ℕ → List Look) → List ℕ → List Look
looks_by f [] = []
looks_by f (k ∷ ks) = followed_by (f k) (looks_by f ks)

-- The turns of the look that is home, if one is.
abbrev pub plan : List Look → Option (List ℕ)
plan [] = None
plan (cut t ∷ xs) = plan xs
plan (home p ∷ xs) = Some p
plan (continued ∷ xs) = plan xs

-- The totals that were cut.
abbrev pub cuts : List Look → List ℕ
cuts [] = []
cuts (cut t ∷ xs) = t ∷ cuts xs
cuts (home p ∷ xs) = cuts xs
cuts (continued ∷ xs) = cuts xs

-- The least total that was cut, if any was.
abbrev pub least_cut : List Look → Option ℕ
least_cut xs = reduce min (cuts xs)

-- The turns to try at a state: its turns in rising order, without the one by which it was reached.
abbrev pub to_try : {S : Type 0} → Meaning S → List ℕ → S → List ℕ
to_try m [] s = turns m s
to_try m (led ∷ made) s = filter (λ k. not (k == led)) (turns m s)

module _ {S : Type 0} (m : Meaning S) (e : S → ℕ) (threshold : ℕ) where
  -- The look at a state that these turns led to, and the looks below it, where `below` has those after one turn more.
  abbrev pub look_and_below : (List ℕ → S → List Look) → List ℕ → S → List Look
  look_and_below below made s =
      let total = length made + e s in
      if nat_lt threshold total then cut total ∷ []
      else (if m.home s then home (reverse made) ∷ []
      else continued ∷ looks_by (λ k. below (k ∷ made) (m.after s k)) (to_try m made s))

  -- The same to a bounded depth, where a state that is further down is cut.
  abbrev pub looks_within : ℕ → List ℕ → S → List Look
  looks_within zero made s = cut (length made + e s) ∷ []
  looks_within (suc depth) made s = look_and_below (looks_within depth) made s

  -- The bound leaves nothing out, since a list of more turns than the threshold is cut anyway.
  abbrev pub looks_from : List ℕ → S → List Look
  looks_from made s = looks_within (suc threshold - length made) made s

  -- The looks of a round.
  abbrev pub round : S → List Look
  round s = looks_from [] s

-- A threshold, where it is not above the limit.
abbrev pub allowed : ℕ → ℕ → Option ℕ
allowed limit t = if nat_lt limit t then None else Some t

-- The threshold after a round: the least total that was cut in it, if any was, and if it is not above the limit.
abbrev pub next_threshold : ℕ → Option ℕ → Option ℕ
next_threshold limit None = None
next_threshold limit (Some least) = allowed limit least

-- A search: the number of its looks, and the plan where one is found.
pub record Search : Type 0 where
  pub looks : ℕ
  pub plan : Option (List ℕ)

-- The search with these looks.
abbrev pub searched : List Look → Search
searched xs = record { looks = length xs; plan = plan xs }

module _ {S : Type 0} (m : Meaning S) (e : S → ℕ) (limit : ℕ) (s : S) where
  -- The looks of the round with this threshold and of those after it, where `later` has those from the next threshold on.
  abbrev pub round_and_later : (ℕ → List Look) → ℕ → List Look
  round_and_later later threshold =
      let xs = round m e threshold s in
      followed_by xs (elim (next_threshold limit (least_cut xs)) [ None ↦ [] | Some t ↦ later t ])

  -- The same for so many rounds at most.
  abbrev pub rounds_within : ℕ → ℕ → List Look
  rounds_within zero threshold = []
  rounds_within (suc more) threshold = round_and_later (rounds_within more) threshold

  -- The bound leaves nothing out, since each threshold is above the one before and none is above the limit.
  abbrev pub rounds_from : ℕ → List Look
  rounds_from threshold = rounds_within (suc limit - threshold) threshold

  -- All looks of the search. The first one sets the threshold of the first round; where that is above the limit there is no other, and it stands as cut.
  abbrev pub all_looks : List Look
  all_looks = elim (allowed limit (e s)) [ None ↦ cut (e s) ∷ [] | Some t ↦ rounds_from t ]

  -- The search from a state within the limit.
  abbrev pub search : Search
  search = searched all_looks
