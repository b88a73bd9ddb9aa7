use Rattle.std.proofs.Common.{refl}
use Rattle.tests.specs.NeverHome.{never_home}
use Rattle.tests.proofs.swing.NumberedEstimateSwing.ask.Goals as goal

pub returns-clause-admissible : goal.returns-clause-admissible
returns-clause-admissible c = λ ks b. absurd (never_home _ (λ _. refl) c.args.machine.now ks b)
