use Rattle.outcome.specs.Outcomes.{Replies}
use Rattle.outcome.proofs.SettledOnce.{answers}
use Rattle.outcome.proofs.outcome.perform.Goals as goal

pub returns : goal.returns
returns c =
    let replied : Replies c.in_ok-words.words.items c.reply.result = rw (← c.deref.ensures.value) c.reply.ensures in
    answers _ _ _ c.in_ok-words.ensures.words replied
