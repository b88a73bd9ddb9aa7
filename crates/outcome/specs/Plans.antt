use Rattle.std.specs.Prelude.{◌≡◌, ℕ, ◌<◌, ◌≤◌, List, map, vec_items, Some}
use Rattle.machine.specs.Follows.{Follows}
use Rattle.machine.specs.Meaning.{Meaning}
use Rattle.machine.specs.declared.ending.Ending.TheVariants.{Home}
use Rattle.machine.specs.declared.trace.Trace.{Trace}
use Rattle.planner.specs.declared.fault.Fault.TheVariants.{Limit}
use Rattle.search.specs.Search.{search}
use Rattle.search.specs.declared.limit.TheConstants.{HIGHEST_LIMIT}
use Rattle.search.specs.Shortest.{Shortest, AllLonger}
use Rattle.outcome.specs.declared.planned.Planned.{Planned}
use Rattle.outcome.specs.declared.planned.Planned.TheVariants.{Refused, Found, NoPlan, Unfinished}

-- What comes of the search by the estimate e for a plan from a state, within a limit.
module _ {S M : Type 0} (m : Meaning S) (e : S → ℕ) (state : M → S) (limit : ℕ) (s : S) where
  -- These turns are a shortest plan, and the one that the search finds; they lead through these states and end at home.
  pub record FoundPlan (turns : List ℕ) (trace : Trace M) (looks : ℕ) : Type 0 where
    pub shortest : Shortest m limit s turns
    pub searched : (search m e limit s).plan ≡ Some turns
    pub all_looks : looks ≡ (search m e limit s).looks
    pub followed : Follows m s turns (map state (vec_items trace.states)) trace.ending
    pub ends_home : trace.ending ≡ Home

  -- It is searched by at most so many looks, which are granted.
  abbrev pub Plans : ℕ → Planned M → Type 0
  Plans granted (Refused fault) = (fault ≡ Limit) × (HIGHEST_LIMIT < limit)
  Plans granted (Found turns trace looks) = (limit ≤ HIGHEST_LIMIT) × (looks ≤ granted) × FoundPlan (vec_items turns) trace looks
  Plans granted (NoPlan looks) = (limit ≤ HIGHEST_LIMIT) × (looks ≤ granted) × AllLonger m limit s × (looks ≡ (search m e limit s).looks)
  Plans granted (Unfinished looks) = (limit ≤ HIGHEST_LIMIT) × (looks ≡ granted) × (granted < (search m e limit s).looks)
