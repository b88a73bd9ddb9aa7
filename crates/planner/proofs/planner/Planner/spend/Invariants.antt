use Rattle.std.proofs.Common.{◌≡◌, ℕ, ◌-◌}
use Rattle.planner.specs.Holds.{Searching, Standing}
use Rattle.planner.specs.declared.phase.Phase.TheVariants.{AtWork}
use Rattle.planner.proofs.planner.Planner.spend.Given as goal

abbrev pub invariant-loop-self : goal.invariant-loop-self
invariant-loop-self g l =
    let m = g.M.Machine.meaning in
    let state = g.M.Machine.state in
    let p = l.initial.self in
    let e = g.E.Estimate.value p.estimate in
    (l.self.granted ≡ p.granted)
    × (l.self.estimate ≡ p.estimate)
    × ((limit : ℕ) (s : g.row.M-State.Denot) → p.phase ≡ AtWork → Searching m state e limit s p.looks p.progress → Standing m state e limit s l.self.phase l.self.looks l.self.progress)

abbrev pub decreases-loop-self : goal.decreases-loop-self
decreases-loop-self g l = l.self.granted - l.self.looks
