use Rattle.std.specs.Prelude.{◌≡◌, ◌≢◌, ⊤, ℕ, ◌≤◌, min, List, [], length, map, Ok, Err, vec_items, Result}
use Rattle.estimate.specs.Layers.{look_ahead, dual_lookup}
use Rattle.machine.specs.Duals.{IsDual}
use Rattle.machine.specs.Follows.{Follows}
use Rattle.machine.specs.Meaning.{Meaning, Brings}
use Rattle.planner.specs.declared.planner.TheConstants.{HIGHEST_GRANT_SUM}
use Rattle.trays.specs.Form.{TrayForm}
use Rattle.trays.specs.declared.kind.Kind.{Kind}
use Rattle.text.specs.Lines.{Asked, turns, dual, estimate, plan}
use Rattle.trays.specs.Settable.{Holding, IsSetTo}
use Rattle.trays.specs.Settable as setting
use Rattle.outcome.specs.declared.failure.Failure.{Failure}
use Rattle.outcome.specs.declared.failure.Failure.TheVariants.{Unexpected, Refused, NoMemory}
use Rattle.outcome.specs.declared.done.Done.{Done}
use Rattle.outcome.specs.declared.done.Done.TheVariants.{Followed, Mirrored, Estimated, Planned}
use Rattle.outcome.specs.declared.estimates.Estimates.{Estimates}
use Rattle.outcome.specs.declared.completed.Completed.{Completed}
use Rattle.outcome.specs.Plans.{Plans}

-- The estimates of a state, where e is that of its kind: its number, that of look-ahead over e, and that of dual lookup over look-ahead. No list of turns that brings the state home is shorter than any of them.
pub record EstimatesOf {S : Type 0} (m : Meaning S) (mirror : S → S) (e : S → ℕ) (s : S) (numbers : Estimates) : Type 0 where
  pub count_is : numbers.count ≡ e s
  pub look_ahead_is : numbers.look_ahead ≡ look_ahead m e s
  pub dual_lookup_is : numbers.dual_lookup ≡ dual_lookup mirror (look_ahead m e) s
  pub no_shorter : (ks : List ℕ) → Brings m ks s → (numbers.count ≤ length ks) × (numbers.look_ahead ≤ length ks) × (numbers.dual_lookup ≤ length ks)

-- What is done with a machine: these turns are followed, its dual is found, the turns that it still needs are estimated by e, or a plan within a limit is searched for by dual lookup over look-ahead over e, with so many looks, or the most that a planner makes if that is less.
abbrev pub Does : {S M : Type 0} → Meaning S → (S → S) → (M → S) → (S → ℕ) → M → Asked → Done M → Type 0
Does m mirror state e start (turns ks) (Followed ts trace) = (vec_items ts ≡ ks) × Follows m (state start) ks (map state (vec_items trace.states)) trace.ending
Does m mirror state e start dual (Mirrored t) = IsDual m mirror (state start) (state t)
Does m mirror state e start estimate (Estimated numbers) = EstimatesOf m mirror e (state start) numbers
Does m mirror state e start (plan limit looks) (Planned l p) = (l ≡ limit) × Plans m (dual_lookup mirror (look_ahead m e)) state limit (state start) (min looks HIGHEST_GRANT_SUM) p
Does m mirror state e start asked done = ⊥

-- This asks for memory: for the states after its turns, where there are any, or for a search.
abbrev pub AsksMemory : Asked → Type 0
AsksMemory (turns ks) = ks ≢ []
AsksMemory dual = ⊥
AsksMemory estimate = ⊥
AsksMemory (plan limit looks) = ⊤

-- What comes of setting a machine of this kind to hold this, and of what is asked of it: it holds it, and that is done; or why it was refused. No memory is answered only where every rule for setting is kept and what is asked needs memory.
abbrev pub Attempted : {S M A : Type 0} → Kind → TrayForm A → ℕ → (M → Holding A) → Meaning S → (S → S) → (M → S) → (S → ℕ) → Holding A → Asked → Result (Completed M) Failure → Type 0
Attempted kind f least holding m mirror state e want asked (Ok c) = IsSetTo f least want (holding c.start) × Does m mirror state e c.start asked c.done
Attempted kind f least holding m mirror state e want asked (Err (Unexpected at expected)) = ⊥
Attempted kind f least holding m mirror state e want asked (Err (Refused k fault)) = (k ≡ kind) × setting.Refused f least want.count want.span want.trays fault
Attempted kind f least holding m mirror state e want asked (Err NoMemory) = setting.CanHold f least want × AsksMemory asked
