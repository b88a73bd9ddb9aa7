use Rattle.std.specs.Prelude.{ℕ, Bool, true, false, ◌+◌, ◌||◌, if◌then◌else◌, nat_lt, ◌==◌, List, [], ◌∷◌, Some, None, Option}
use Rattle.machine.specs.Meaning.{Meaning}
use Rattle.search.specs.Search.{Search, search}
use Rattle.search.specs.declared.limit.TheConstants.{HIGHEST_LIMIT}
use Rattle.planner.specs.declared.call.Call.{Call}
use Rattle.planner.specs.declared.call.Call.TheVariants.{Load, Work, Fetch, Drop}
use Rattle.planner.specs.declared.fault.Fault.{Fault}
use Rattle.planner.specs.declared.fault.Fault.TheVariants as fault
use Rattle.planner.specs.declared.phase.Phase.{Phase}
use Rattle.planner.specs.declared.phase.Phase.TheVariants as phase
use Rattle.planner.specs.declared.planner.TheConstants.{HIGHEST_GRANT, HIGHEST_GRANT_SUM}

-- Which calls are accepted, and what a planner is doing, by the calls alone.

-- The call on a machine, as one on the state that the machine is in.
abbrev pub on_state : {S M : Type 0} → (M → S) → Call M → Call S
on_state state (Load x limit) = Load (state x) limit
on_state state (Work grant) = Work grant
on_state state Fetch = Fetch
on_state state Drop = Drop

-- Whether a planner that is doing this has a task at work.
abbrev pub at_work : Phase → Bool
at_work phase.AtWork = true
at_work doing = false

-- The first fault that applies to a call, by what the planner is doing and the grants since the load.
abbrev pub first_fault : {S : Type 0} → Phase → ℕ → Call S → Option Fault
first_fault phase.AtWork granted (Load s limit) = if nat_lt HIGHEST_LIMIT limit then Some fault.Limit else Some fault.AtWork
first_fault doing granted (Load s limit) = if nat_lt HIGHEST_LIMIT limit then Some fault.Limit else None
first_fault phase.AtWork granted (Work grant) =
    if (grant == 0) || nat_lt HIGHEST_GRANT grant then Some fault.Grant
    else (if nat_lt HIGHEST_GRANT_SUM (granted + grant) then Some fault.GrantSum else None)
first_fault doing granted (Work grant) = Some fault.NoTask
first_fault phase.Found granted Fetch = None
first_fault doing granted Fetch = Some fault.NotFound
first_fault phase.AtWork granted Drop = None
first_fault doing granted Drop = Some fault.NothingToDrop

-- What the latest accepted load handed over, and the sum of the grants accepted since.
pub record Task (S : Type 0) : Type 0 where
  pub start : S
  pub limit : ℕ
  pub granted : ℕ

-- The task after a call that is accepted; none at first, and after a drop.
abbrev pub accept : {S : Type 0} → Option (Task S) → Call S → Option (Task S)
accept task (Load s limit) = Some (record { start = s; limit = limit; granted = 0 })
accept None (Work grant) = None
accept (Some t) (Work grant) = Some (record { start = t.start; limit = t.limit; granted = t.granted + grant })
accept task Fetch = task
accept task Drop = None

module _ {S : Type 0} (m : Meaning S) (e : S → ℕ) where
  -- The whole search of a task.
  abbrev pub search_of : Task S → Search
  search_of t = search m e t.limit t.start

  -- What a planner is doing with a task: its search has ended once the grants come to all its looks or more.
  abbrev pub doing : Option (Task S) → Phase
  doing None = phase.Empty
  doing (Some t) =
      if nat_lt t.granted (search_of t).looks then phase.AtWork
      else elim (search_of t).plan [ None ↦ phase.NoPlan | Some p ↦ phase.Found ]

  -- The grants accepted since the load; 0 where there is no task.
  abbrev pub granted_to : Option (Task S) → ℕ
  granted_to None = 0
  granted_to (Some t) = t.granted

  -- The first fault that applies to a call, where the planner has this task.
  abbrev pub refused : Option (Task S) → Call S → Option Fault
  refused task call = first_fault (doing task) (granted_to task) call

  -- The task after a call. A call that is refused leaves it.
  abbrev pub after : Option (Task S) → Call S → Option (Task S)
  after task call = elim (refused task call) [ None ↦ accept task call | Some f ↦ task ]

  -- The task after these calls.
  abbrev pub after_all : Option (Task S) → List (Call S) → Option (Task S)
  after_all task [] = task
  after_all task (c ∷ cs) = after_all (after task c) cs
