use Rattle.std.proofs.Common.{refl, sym, subst, arith}
use Rattle.walk.specs.Walks.{Went}
use Rattle.walk.proofs.Trails.{length_turns_to}
use Rattle.walk.proofs.Back.{back_left, back_leads}
use Rattle.walk.proofs.walk.Walk.leave.Goals as goal

pub returns-in-ByTurn : goal.returns-in-ByTurn
returns-in-ByTurn g c = λ e threshold root leads.
    let m = g.M.Machine.meaning in
    let state = g.M.Machine.state in
    let p = c.args.self.now in
    let q = c.go_back.new.self in
    let back = c.in-ByTurn.ensures.went in
    let shorter = c.in-ByTurn.ensures.depth refl in
    let room = p.trail.room in
    let long = length_turns_to p.trail.table.records p.trail.depth in
    subst (λ xs. Went m state e threshold root xs c.advance.result c.advance.new.self) (sym (back_left m state p q back (omega arith) e threshold))
    (c.advance.ensures e threshold root (back_leads m state p q root back leads))
