use Rattle.std.specs.Prelude.{◌≡◌, ℕ, ◌≤◌, min, List, drop, length, reverse, Some, None, Option, Result}
use Rattle.machine.specs.Meaning.{Meaning}
use Rattle.search.specs.Search.{plan, all_looks}
use Rattle.search.specs.declared.limit.TheConstants.{HIGHEST_LIMIT}
use Rattle.walk.specs.Walks.{made}
use Rattle.planner.specs.Calls.{Task, search_of, doing, after, after_all}
use Rattle.planner.specs.Promise.{Kept, Run}
use Rattle.planner.specs.Since.{KeepsPromise}
use Rattle.planner.specs.UnderWay.{UnderWay}
use Rattle.planner.specs.declared.answer.Answer.{Answer}
use Rattle.planner.specs.declared.answer.Answer.TheVariants as answer
use Rattle.planner.specs.declared.call.Call.{Call}
use Rattle.planner.specs.declared.fault.Fault.{Fault}
use Rattle.planner.specs.declared.phase.Phase.{Phase}
use Rattle.planner.specs.declared.phase.Phase.TheVariants.{Empty, AtWork, Found, NoPlan}
use Rattle.planner.specs.declared.planner.Planner.{Planner}
use Rattle.planner.specs.declared.played.Played.{Played}
use Rattle.planner.specs.declared.progress.Progress.{Progress}

-- What a grant is told, by what the planner is doing, the number of turns that it holds, and the looks made.
abbrev pub report : Phase → ℕ → ℕ → Answer
report Empty length looks = answer.Working looks
report AtWork length looks = answer.Working looks
report Found length looks = answer.Found length looks
report NoPlan length looks = answer.NoPlan looks

-- How a planner stands after some calls: as the search does after exactly the looks granted.

module _ {S M : Type 0} (m : Meaning S) (state : M → S) (e : S → ℕ) (limit : ℕ) (s : S) where
  -- After so many looks the others are still to come, and no plan is found yet.
  pub record Searching (looks : ℕ) (p : Progress M) : Type 0 where
    pub to_come : UnderWay m state e limit s p (drop looks (all_looks m e limit s))
    pub not_yet : plan (all_looks m e limit s) ≡ plan (drop looks (all_looks m e limit s))

  -- All looks are made, and the turns that the planner holds are the plan.
  pub record HasPlan (looks : ℕ) (p : Progress M) : Type 0 where
    pub all_made : looks ≡ length (all_looks m e limit s)
    pub plan_is : plan (all_looks m e limit s) ≡ Some (reverse (made p.walk))
    pub within : length (made p.walk) ≤ HIGHEST_LIMIT

  -- All looks are made, and there is no plan.
  pub record HasNone (looks : ℕ) : Type 0 where
    pub all_made : looks ≡ length (all_looks m e limit s)
    pub none : plan (all_looks m e limit s) ≡ None

  -- The search stands so after this many looks.
  abbrev pub Standing : Phase → ℕ → Progress M → Type 0
  Standing Empty looks p = ⊥
  Standing AtWork looks p = Searching looks p
  Standing Found looks p = HasPlan looks p
  Standing NoPlan looks p = HasNone looks

module _ {S M E : Type 0} (m : Meaning S) (state : M → S) (e : S → ℕ) where
  pub record HoldsTask (t : Task S) (p : Planner M E) : Type 0 where
    pub phase : p.phase ≡ doing m e (Some t)
    pub granted : p.granted ≡ t.granted
    pub looks : p.looks ≡ min t.granted (search_of m e t).looks
    pub standing : Standing m state e t.limit t.start p.phase p.looks p.progress

  -- The planner holds this task, or none.
  abbrev pub Holds : Option (Task S) → Planner M E → Type 0
  Holds None p = p.phase ≡ Empty
  Holds (Some t) p = HoldsTask t p

  -- After a call that was replied so the planner holds what it should, and the reply and the sheet are as promised.
  abbrev pub Answers : Option (Task S) → Call S → List ℕ → Result Answer Fault → List ℕ → Planner M E → Type 0
  Answers task call old r new p = Holds (after m e task call) p × Kept m e task call old r new

  -- After these calls, which were replied so, the planner holds what it should, and what was replied is as promised: call by call, and by the latest accepted load before each.
  pub record Plays (task : Option (Task S)) (sheet : List ℕ) (calls : List (Call S)) (replies : List Played) (p : Planner M E) : Type 0 where
    pub holds : Holds (after_all m e task calls) p
    pub run : Run m e task sheet calls replies
    pub promise : KeepsPromise m e task calls replies

-- The estimate that it asks.
abbrev pub estimate_of : {M E : Type 0} → Planner M E → E
estimate_of p = p.estimate
