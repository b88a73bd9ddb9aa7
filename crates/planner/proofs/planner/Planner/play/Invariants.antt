use Rattle.planner.proofs.Runs.{Halfway}
use Rattle.planner.proofs.planner.Planner.play.Given as goal

abbrev pub invariant-loop-i : goal.invariant-loop-i
invariant-loop-i g l = Halfway g.M.Machine.meaning g.M.Machine.state g.E.Estimate.value l.initial.self l.initial.calls l.initial.sheet l.initial.replies l.i l.self l.calls l.sheet l.replies
