use Rattle.std.specs.Prelude.{◌≡◌, ⊤, ℕ, ◌≤◌, List, [], ◌∷◌, length, reverse, Some, None, Option}
use Rattle.machine.specs.Meaning.{Meaning}
use Rattle.search.specs.Search.{Look, cut, home, continued, all_looks}
use Rattle.search.specs.declared.limit.TheConstants.{HIGHEST_LIMIT}
use Rattle.walk.specs.Walks.{made, tried, machine, Stands}
use Rattle.walk.specs.declared.walk.Walk.{Walk}
use Rattle.planner.specs.ToCome.{to_come}
use Rattle.planner.specs.declared.progress.Progress.{Progress}
use Rattle.planner.specs.declared.seen.Seen.{Seen}
use Rattle.planner.specs.declared.seen.Seen.TheVariants.{GoesOn, Home, Ended}

-- The state looked at was not home.
abbrev pub NotHome : Look → Type 0
NotHome (cut t) = ⊤
NotHome (home p) = ⊥
NotHome continued = ⊤

module _ {S M : Type 0} (m : Meaning S) (state : M → S) (e : S → ℕ) (limit : ℕ) (s : S) where
  -- No look is made, and so these are still to come.
  pub record BeforeFirst (least : Option ℕ) (w : Walk M) (xs : List Look) : Type 0 where
    pub none_made : made w ≡ []
    pub none_tried : tried w ≡ 0
    pub at_start : state (machine w) ≡ s
    pub none_cut : least ≡ None
    pub is : xs ≡ all_looks m e limit s

  -- A round with this threshold is under way. `left` is what is left of it, and xs is still to come of the search.
  pub record InRound (threshold : ℕ) (least : Option ℕ) (w : Walk M) (xs : List Look) : Type 0 where
    pub allowed : threshold ≤ limit
    pub left : List Look
    pub stands : Stands m state e threshold s left w
    pub is : xs ≡ to_come m e limit s least left

  -- Between two looks, by the threshold: there is none before the first look, and a round is under way after it.
  abbrev pub Waits : Option ℕ → Option ℕ → Walk M → List Look → Type 0
  Waits None least w xs = BeforeFirst least w xs
  Waits (Some threshold) least w xs = InRound threshold least w xs

  -- A search from s within the limit is under way, and the looks xs are still to come.
  pub record UnderWay (p : Progress M) (xs : List Look) : Type 0 where
    pub same_limit : p.limit ≡ limit
    pub waits : Waits p.threshold p.least p.walk xs

  -- After a look that was not home, the looks xs are still to come.
  abbrev pub GoneOn : Seen → Progress M → List Look → Type 0
  GoneOn GoesOn q xs = UnderWay q xs
  GoneOn Home q xs = ⊥
  GoneOn Ended q xs = xs ≡ []

  -- The first of the looks xs is made, and was not home.
  pub record NotYet (seen : Seen) (q : Progress M) (xs : List Look) : Type 0 where
    pub look : Look
    pub not_home : NotHome look
    pub rest : List Look
    pub is : xs ≡ look ∷ rest
    pub gone_on : GoneOn seen q rest

  -- The first of the looks xs is made, and was home: it is the last one.
  pub record CameHome (q : Progress M) (xs : List Look) : Type 0 where
    pub is : xs ≡ home (reverse (made q.walk)) ∷ []
    pub within : length (made q.walk) ≤ HIGHEST_LIMIT

  -- The first of the looks xs is made.
  abbrev pub Looked : Seen → Progress M → List Look → Type 0
  Looked GoesOn q xs = NotYet GoesOn q xs
  Looked Home q xs = CameHome q xs
  Looked Ended q xs = NotYet Ended q xs
