use Rattle.std.proofs.Common.{refl, arith}
use Rattle.walk.proofs.Trails.{length_turns_to}
use Rattle.walk.proofs.Back.{one_back, one_down, all_back}
use Rattle.walk.proofs.walk.Walk.advance.Goals as goal

pub loop-self-preserved : goal.loop-self-preserved
loop-self-preserved g c =
    let v = c.go_down.new.self in
    let q = c.go_back.new.self in
    let shorter = c.in_default-go_back.ensures.depth refl in
    let room = v.trail.room in
    let long = length_turns_to v.trail.table.records v.trail.depth in
    one_back g.M.Machine.meaning g.M.Machine.state c.args.self.now c.loop-self.self v q c.loop-self.invariant c.in-NoneLeft.ensures c.in_default-go_back.ensures.went (omega arith) shorter

pub returns-in-NoneLeft-go_back : goal.returns-in-NoneLeft-go_back
returns-in-NoneLeft-go_back g c = λ e threshold root leads.
    all_back g.M.Machine.meaning g.M.Machine.state g.met.M.Machine.lawful e threshold root c.args.self.now c.loop-self.self c.go_down.new.self c.go_back.new.self c.loop-self.invariant c.in-NoneLeft.ensures c.in-NoneLeft-go_back.ensures.went leads

pub returns : goal.returns
returns g c = λ e threshold root leads.
    one_down g.M.Machine.meaning g.M.Machine.state g.met.M.Machine.lawful e threshold root c.args.self.now c.loop-self.self c.go_down.new.self c.loop-self.invariant c.in_default.ensures leads
