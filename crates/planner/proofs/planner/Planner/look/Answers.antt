use Rattle.std.proofs.Common.{◌+◌, sym, subst}
use Rattle.planner.specs.Holds.{Standing}
use Rattle.planner.specs.declared.seen.Seen.TheVariants.{GoesOn, Home, Ended}
use Rattle.planner.proofs.HeldTask.{looked}
use Rattle.planner.proofs.planner.Planner.look.Goals as goal

pub returns-in-GoesOn-clause-standing : goal.returns-in-GoesOn-clause-standing
returns-in-GoesOn-clause-standing g c = λ limit s working x.
    let m = g.M.Machine.meaning in
    let state = g.M.Machine.state in
    let p = c.args.self.now in
    let e = g.E.Estimate.value p.estimate in
    let q = c.look.new.self in
    subst (λ ph. Standing m state e limit s ph (p.looks + 1) q) (sym working) (looked m state e limit s p.looks p.progress q GoesOn x (c.in-GoesOn.ensures limit s _ x.to_come))

pub returns-in-Home-clause-standing : goal.returns-in-Home-clause-standing
returns-in-Home-clause-standing g c = λ limit s working x.
    let p = c.args.self.now in
    looked g.M.Machine.meaning g.M.Machine.state (g.E.Estimate.value p.estimate) limit s p.looks p.progress c.look.new.self Home x (c.in-Home.ensures limit s _ x.to_come)

pub returns-in-Ended-clause-standing : goal.returns-in-Ended-clause-standing
returns-in-Ended-clause-standing g c = λ limit s working x.
    let p = c.args.self.now in
    looked g.M.Machine.meaning g.M.Machine.state (g.E.Estimate.value p.estimate) limit s p.looks p.progress c.look.new.self Ended x (c.in-Ended.ensures limit s _ x.to_come)
