use Rattle.std.specs.Prelude.{◌≡◌, ℕ, false, Some, None, Option}
use Rattle.machine.specs.Meaning.{Meaning}
use Rattle.planner.specs.Calls.{Task, at_work, doing}
use Rattle.planner.specs.Holds.{Holds}
use Rattle.planner.specs.declared.planner.Planner.{Planner}
use Rattle.console.specs.declared.console.Console.{Console}
use Rattle.trays.specs.declared.kind.Kind.{Kind}
use Rattle.trays.specs.declared.kind.Kind.TheVariants as kind
use Rattle.console.specs.Histories.{History, none, plain_task, sided_task, ring_task}
use Rattle.gaps.specs.Kinds.{plain_estimate, sided_estimate, ring_estimate}
use Rattle.ring.specs.Ring.{ring}
use Rattle.towers.specs.Kinds.{plain, sided}

-- A planner holds some task that is not at work, or none.
abbrev pub Rests : {S E : Type 0} → Meaning S → (S → ℕ) → Planner S E → Type 0
Rests {S} m e p = (task : Option (Task S)) × Holds m (λ s. s) e task p × (at_work (doing m e task) ≡ false)

-- The planner of this kind is empty.
abbrev pub IsEmpty : Kind → Console → Type 0
IsEmpty kind.Plain c = Holds plain (λ s. s) plain_estimate None c.plain
IsEmpty kind.Sided c = Holds sided (λ s. s) sided_estimate None c.sided
IsEmpty kind.Ring c = Holds ring (λ s. s) ring_estimate None c.ring

-- How a console stands after this history: the planner of its kind holds its task, and is asked; the others rest. Without a task all rest, and the one that is asked is empty.
abbrev pub Stands : History → Console → Type 0
Stands none c =
    IsEmpty c.latest c × Rests plain plain_estimate c.plain × Rests sided sided_estimate c.sided × Rests ring ring_estimate c.ring
Stands (plain_task t) c =
    (c.latest ≡ kind.Plain) × Holds plain (λ s. s) plain_estimate (Some t) c.plain × Rests sided sided_estimate c.sided × Rests ring ring_estimate c.ring
Stands (sided_task t) c =
    (c.latest ≡ kind.Sided) × Rests plain plain_estimate c.plain × Holds sided (λ s. s) sided_estimate (Some t) c.sided × Rests ring ring_estimate c.ring
Stands (ring_task t) c =
    (c.latest ≡ kind.Ring) × Rests plain plain_estimate c.plain × Rests sided sided_estimate c.sided × Holds ring (λ s. s) ring_estimate (Some t) c.ring
