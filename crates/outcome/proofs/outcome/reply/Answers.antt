use Rattle.std.proofs.Common.{rules}
use Rattle.outcome.proofs.SettledOnce.{replies_failed}
use Rattle.outcome.proofs.outcome.reply.Goals as goal

pub returns-in_err-carry_out : goal.returns-in_err-carry_out
returns-in_err-carry_out c =
    let failed = replies_failed c.args.words.now c.in_err-carry_out.field-0.0 (search rules) (c.in_err-carry_out.ensures c.args.words.now c.in_ok-request.ensures.read) in
    search rules
