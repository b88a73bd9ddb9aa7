use Rattle.std.specs.Prelude.{◌≡◌, ℕ, ◌<◌, ◌≤◌, Bool, true, false, Ok, Err, Result}
use Rattle.planner.specs.Calls.{Task}
use Rattle.planner.specs.declared.answer.Answer.{Answer}
use Rattle.planner.specs.declared.answer.Answer.TheVariants as answer
use Rattle.planner.specs.declared.fault.Fault.TheVariants.{Limit, AtWork}
use Rattle.search.specs.declared.limit.TheConstants.{HIGHEST_LIMIT}
use Rattle.tape.specs.declared.fault.Fault.{Fault}
use Rattle.tape.specs.declared.fault.Fault.TheVariants.{Machine, Planner}
use Rattle.trays.specs.Form.{TrayForm}
use Rattle.trays.specs.Settable.{CanHold, Holding, IsSetTo, Refused}

-- What a machine is to hold is `want`, and `busy` says whether a task of any kind is at work.

module _ {A : Type 0} (f : TrayForm A) (least : ℕ) where
  -- Why a load is refused, the first that applies.
  abbrev pub LoadRefused : Bool → ℕ → Holding A → Fault → Type 0
  LoadRefused busy limit want (Machine fault) = Refused f least want.count want.span want.trays fault
  LoadRefused busy limit want (Planner Limit) = CanHold f least want × (HIGHEST_LIMIT < limit)
  LoadRefused busy limit want (Planner AtWork) = CanHold f least want × (limit ≤ HIGHEST_LIMIT) × (busy ≡ true)
  LoadRefused busy limit want fault = ⊥

-- What is known after an accepted load is `of` its task.
module _ {S M A H : Type 0} (state : M → S) (f : TrayForm A) (least : ℕ) (holding : M → Holding A) (of : Task S → H) where
  -- A load is accepted, and its task is that of a machine that holds this.
  pub record Taken (busy : Bool) (limit : ℕ) (want : Holding A) (next : H) : Type 0 where
    pub machine : M
    pub holds : IsSetTo f least want (holding machine)
    pub within : limit ≤ HIGHEST_LIMIT
    pub free : busy ≡ false
    pub next_is : next ≡ of (record { start = state machine; limit = limit; granted = 0 })

  -- What a load is answered, and what is known after it: on a refusal what was known before.
  abbrev pub Loads : Bool → ℕ → Holding A → H → Result Answer Fault → H → Type 0
  Loads busy limit want before (Ok a) next = (a ≡ answer.Accepted) × Taken busy limit want next
  Loads busy limit want before (Err fault) next = LoadRefused f least busy limit want fault × (next ≡ before)
