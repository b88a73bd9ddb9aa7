use Rattle.std.proofs.Common.{drop, Err, refl, subst}
use Rattle.tape.specs.Commands.{Reads}
use Rattle.console.proofs.RestKept.{rest_of}
use Rattle.console.proofs.console.Console.run_at.Goals as goal

pub returns-in-Err-clause-runs : goal.returns-in-Err-clause-runs
returns-in-Err-clause-runs c = λ h s.
    let reads = subst (λ xs. Reads xs c.read.result) (rest_of c.args.place c.args.tape.now) c.read.ensures in (
      h,
      record {
        bytes = _;
        step = record { read = Err c.in-Err.fault; reads = subst (λ r. Reads (drop c.args.place c.args.tape.now) r) c.in-Err.is reads; comes = (refl, refl, refl) };
        count_is = c.write_reply.ensures.count;
        written = c.write_reply.ensures.written;
      },
      s,
    )
