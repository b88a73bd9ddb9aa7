use Rattle.std.proofs.Common.{◌≡◌, rules, arith}
use Rattle.estimate.specs.Layers.{look_ahead}
use Rattle.estimate.specs.Laws.{look_ahead_sound}
use Rattle.estimate.proofs.look_ahead.LookAheadEstimate.ask.Goals as goal

pub returns-in-Some-clause-admissible : goal.returns-in-Some-clause-admissible
returns-in-Some-clause-admissible g c = λ ks b.
    let m = g.M.Machine.meaning in
    let e = g.E.Estimate.value c.args.self.now.below in
    let s = g.M.Machine.state c.args.machine.now in
    let value : c.min.result ≡ look_ahead m e s = search rules in
    let law = (look_ahead_sound m e (g.met.E.Estimate.sound c.args.self.now.below)).admissible s ks b in
    omega arith
