use Rattle.std.proofs.Common.{◌≤◌, List, ℕ, ◌++◌, length, take, ap, ◌∙◌, arith}
use Rattle.console.proofs.Written.{end_written, put_written}
use Rattle.console.proofs.replies.put.Goals as goal

pub returns : goal.returns
returns c = λ old so_far is place.
    let room = c.args.room.now in
    let start = c.min-start.result in
    let begins = c.min-start.ensures in
    let within : start ≤ length room = omega arith in
    ap (λ (xs : List ℕ). take start room ++ xs) (end_written room c.args.bytes.now c.fill.new.room start within c.fill.ensures)
    ∙ put_written old so_far c.args.bytes.now room c.args.at start is place begins
