use Rattle.std.proofs.Common.{◌≡◌, ◌≤◌, ◌+◌, map, drop, vec_items, vec_len, vec_capacity}
use Rattle.machine.specs.Follows.{leading}
use Rattle.machine.proofs.Ways.{Resumes}
use Rattle.machine.proofs.trace.make_turns.Given as goal

abbrev pub invariant-loop-k : goal.invariant-loop-k
invariant-loop-k g l =
    let m = g.M.Machine.meaning in
    let start = g.M.Machine.state l.initial.machine in
    let here = g.M.Machine.state l.machine in
    Resumes m start l.turns (map g.M.Machine.state (vec_items l.states)) here (drop l.k-index l.turns)
    × (vec_len l.states ≡ l.k-index)
    × (m.lowest here ≡ m.lowest start)
    × (m.highest here ≡ m.highest start)
    × (leading m start l.turns ≡ l.k-index + leading m start (drop l.k-index l.turns))
    × (leading m start l.turns ≤ vec_capacity l.states)
