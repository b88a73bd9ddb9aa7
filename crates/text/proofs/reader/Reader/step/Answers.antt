use Rattle.std.proofs.Common.{IsTrue, arith}
use Rattle.text.specs.declared.word.Word.TheVariants.{Dual, Estimate, Looks}
use Rattle.text.specs.Expected.{may_stand}
use Rattle.text.proofs.ReadSoFar.{dual_more, estimate_more, looks_more}
use Rattle.text.proofs.reader.Reader.step.Goals as goal

pub returns-in-Dual-clause-ok : goal.returns-in-Dual-clause-ok
returns-in-Dual-clause-ok c ws h =
    let at : IsTrue (may_stand c.args.self.now.expected Dual) = grind arith in
    rw (c.end_with.ensures, c.in-Dual.is) (dual_more _ _ _ _ _ _ ws at h)

pub returns-in-Estimate-clause-ok : goal.returns-in-Estimate-clause-ok
returns-in-Estimate-clause-ok c ws h =
    let at : IsTrue (may_stand c.args.self.now.expected Estimate) = grind arith in
    rw (c.end_with-in-Estimate.ensures, c.in-Estimate.is) (estimate_more _ _ _ _ _ _ ws at h)

pub returns-in-Looks-clause-ok : goal.returns-in-Looks-clause-ok
returns-in-Looks-clause-ok c ws h =
    let at : IsTrue (may_stand c.args.self.now.expected Looks) = grind arith in
    rw c.in-Looks.is (looks_more _ _ _ _ _ _ ws at h)
