use Rattle.std.proofs.Common.{◌≡◌, ◌+◌, ◌*◌, ◌<◌, ◌≤◌, ◌++◌, suc, length, length-append, refl, sym, ap, ap₂, subst, ◌∙◌, arith, ⊎_elim}
use Rattle.std.proofs.lemmas.Bool.{cases_lt}
use Rattle.console.specs.Tapes.{written}
use Rattle.console.specs.declared.console.TheConstants.{LONGEST_TAPE}
use Rattle.tape.specs.declared.reply.TheConstants.{LONGEST_REPLY}
use Rattle.console.proofs.SoFar.{all_replied, fits_on_tape, not_long, one_more, refused_whole, reply_part}
use Rattle.console.proofs.console.Console.run_tape.Goals as goal

pub loop-place-preserved : goal.loop-place-preserved
loop-place-preserved c =
    let tape = c.args.tape.now in
    let place = c.loop-place.place in
    let called = c.in-Ok.ensures.called in
    let few = called.1.few in
    let further = called.1.further c.loop-place-test.true in
    let on_tape = called.1.on_tape in
    let short = fits_on_tape tape place called.0 in
    let before = c.loop-place.invariant.1 in (
      on_tape,
      omega arith,
      λ _. short,
      λ s.
          let half = c.loop-place.invariant.3 s in
          let ran = called.1.runs half.history half.stands in
          let part = reply_part ran.1.bytes c.run.new.reply _ c.in-Ok.ran.count ran.1.count_is ran.1.written in
          record {
            count = suc half.count;
            history = ran.0;
            replies = _;
            after = one_more tape place c.in-Ok.ran.next half.history ran.0 half.replies ran.1.bytes half.count half.after c.loop-place-test.true ran.1.step;
            stands = ran.2;
            told_is = ap₂ (λ n m. n + m) half.told_is ran.1.count_is ∙ sym (length-append half.replies ran.1.bytes);
            room_is = c.put.ensures c.args.room.now half.replies half.room_is half.told_is ∙ ap (λ xs. written c.args.room.now (half.replies ++ xs)) part;
            not_begun = λ long. absurd (not_long tape place called.0 long);
          },
    )

pub returns-in-Err-clause-replies : goal.returns-in-Err-clause-replies
returns-in-Err-clause-replies c = λ s.
    let half = c.loop-place.invariant.3 s in
    let bytes = c.bytes-bytes.result in (
      _,
      refused_whole c.args.tape.now c.loop-place.place half.replies bytes c.in-Err.refusal c.loop-place-test.true half.not_begun c.in-Err.ensures.called.0 c.bytes-bytes.ensures,
      ap₂ (λ n m. n + m) half.told_is (sym (ap length c.bytes-bytes.ensures)) ∙ sym (length-append half.replies bytes),
      c.put-in-Err.ensures c.args.room.now half.replies half.room_is half.told_is,
    )

pub returns-in-Err-clause-few : goal.returns-in-Err-clause-few
returns-in-Err-clause-few c =
    let few = c.loop-place.invariant.1 in
    let on_tape = c.loop-place-test.true in
    ⊎_elim
    (λ (begun : 0 < c.loop-place.place). let short = c.loop-place.invariant.2 begun in omega arith)
    (λ (not_begun : c.loop-place.place ≤ 0). omega arith)
    (cases_lt 0 c.loop-place.place)

pub returns-clause-replies : goal.returns-clause-replies
returns-clause-replies c = λ s. all_replied c.args.tape.now c.loop-place.place c.args.room.now c.loop-place.count c.loop-place.room c.loop-place.self (let e = c.loop-place-test.false in let l = c.loop-place.invariant.0 in omega arith) (c.loop-place.invariant.3 s)
