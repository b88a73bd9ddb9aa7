use Rattle.std.proofs.Common.{◌≤◌, length, sym, subst, ◌∙◌, arith}
use Rattle.std.proofs.Math.ListN.{get_or-append}
use Rattle.console.proofs.Unique.{step_once}
use Rattle.console.proofs.RestKept.{rest_stays}
use Rattle.console.proofs.console.Console.run.Goals as goal

pub returns-in-Some-clause-called : goal.returns-in-Some-clause-called
returns-in-Some-clause-called c =
    let room = c.in-Some.ensures.cases.enough in
    let forward = c.run_at.ensures.forward in (
      c.in_ok-check_place.ensures.2 _ room,
      record {
        runs = λ h s.
            let one = c.run_at.ensures.runs h s in
            let few : length one.1.bytes ≤ 66 = subst (λ n. n ≤ 66) one.1.count_is forward.2 in (
              one.0,
              record {
                bytes = one.1.bytes;
                step = one.1.step;
                count_is = one.1.count_is;
                written = rest_stays 66 one.1.bytes c.args.reply.now c.in-Some.bytes.now c.run_at.new.bytes room few c.in-Some.ensures.cases.same one.1.written;
              },
              one.2,
            );
        told = λ is. c.run_at.ensures.refused (sym (get_or-append c.run_at.new.bytes _ 0 0 (let l = c.run_at.ensures.long in omega arith)) ∙ is);
        idle = c.run_at.ensures.idle;
        further = forward.0;
        on_tape = forward.1;
        few = forward.2;
      },
    )

pub returns-in_err-check_place-clause-one : goal.returns-in_err-check_place-clause-one
returns-in_err-check_place-clause-one c = step_once

pub returns-in-None-clause-one : goal.returns-in-None-clause-one
returns-in-None-clause-one c = step_once

pub returns-in-Some-clause-one : goal.returns-in-Some-clause-one
returns-in-Some-clause-one c = step_once
