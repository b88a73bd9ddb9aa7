use Rattle.std.proofs.Common.{arith, refl}
use Rattle.std.proofs.lemmas.Grind.{common_steps}
use Rattle.walk.specs.Walks.{made, tried}
use Rattle.walk.proofs.Nexts.{none_later, next_later}
use Rattle.walk.proofs.walk.Walk.go_down.Goals as goal

pub returns-in-None : goal.returns-in-None
returns-in-None g c =
    let w = c.args.self.now in
    record {
      none = λ _. none_later g.M.Machine.meaning g.met.M.Machine.lawful (g.M.Machine.state w.here) (made w) c.range.result c.record.result c.range.ensures.lowest c.range.ensures.highest c.record.ensures.led (tried w) c.record.ensures.tried c.in-None.ensures;
      same = refl;
    }

pub returns-in-Some : goal.returns-in-Some
returns-in-Some g c =
    let w = c.args.self.now in
    let k = c.in-Some.k in
    let next = next_later g.M.Machine.meaning g.met.M.Machine.lawful (g.M.Machine.state w.here) (made w) c.range.result c.record.result c.range.ensures.lowest c.range.ensures.highest c.record.ensures.led (tried w) c.record.ensures.tried k c.in-Some.ensures.0 c.in-Some.ensures.1 in
    grind (arith, common_steps)
