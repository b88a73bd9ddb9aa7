use Rattle.std.specs.Prelude.{Bool, false, Some, None, Option}
use Rattle.planner.specs.Calls.{Task, at_work, doing}
use Rattle.ring.specs.declared.tray_ring.TrayRing.{TrayRing}
use Rattle.gaps.specs.Kinds.{plain_estimate, sided_estimate, ring_estimate}
use Rattle.ring.specs.Ring.{ring}
use Rattle.towers.specs.Kinds.{PlainTower, SidedTower, plain, sided}

-- What the commands so far come to: the task of the latest accepted load, by its kind; none at first, and after a drop.
pub data History : Type 0 where
  none : History
  plain_task : Task PlainTower → History
  sided_task : Task SidedTower → History
  ring_task : Task TrayRing → History

-- With this task of a kind, or none.
abbrev pub history_of : {S : Type 0} → (Task S → History) → Option (Task S) → History
history_of of None = none
history_of of (Some t) = of t

-- A task is at work.
abbrev pub busy : History → Bool
busy none = false
busy (plain_task t) = at_work (doing plain plain_estimate (Some t))
busy (sided_task t) = at_work (doing sided sided_estimate (Some t))
busy (ring_task t) = at_work (doing ring ring_estimate (Some t))
