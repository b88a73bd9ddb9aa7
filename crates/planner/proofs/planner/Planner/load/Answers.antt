use Rattle.std.proofs.Common.{refl, arith}
use Rattle.planner.specs.Calls.{Task}
use Rattle.planner.specs.declared.phase.Phase.TheVariants.{AtWork}
use Rattle.planner.proofs.HeldTask.{doing_by, begins}
use Rattle.planner.proofs.planner.Planner.load.Goals as goal

pub returns-clause-holds : goal.returns-clause-holds
returns-clause-holds g c =
    let m = g.M.Machine.meaning in
    let state = g.M.Machine.state in
    let e = g.E.Estimate.value c.args.self.now.estimate in
    let t : Task g.row.M-State.Denot = record { start = state c.args.machine; limit = c.args.limit; granted = 0 } in
    let q = c.begin.new.self in
    let standing = begins m state e t.limit t.start q (c.begin.ensures e) in
    let d = doing_by m state e t AtWork 0 q standing (omega arith) (λ _. refl) in
    record { phase = d.0; granted = refl {a = 0}; looks = d.1; standing = standing }
