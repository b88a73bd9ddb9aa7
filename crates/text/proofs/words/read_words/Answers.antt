use Rattle.std.proofs.Common.{rules}
use Rattle.text.specs.Words.{HasWord}
use Rattle.text.proofs.LineWords.{cut_of, has_word, words_all, words_more}
use Rattle.text.proofs.words.read_words.Goals as goal

pub loop-text-preserved : goal.loop-text-preserved
loop-text-preserved c =
    rw c.in_ok-push.ensures.items (words_more _ _ _ _ _ _ c.loop-text.invariant (cut_of _ _ _ c.in-Some.ensures.steps) c.from.ensures)

pub returns-in_err-push-clause-no_memory : goal.returns-in_err-push-clause-no_memory
returns-in_err-push-clause-no_memory c =
    let some : HasWord c.args.line.now = has_word _ _ _ _ _ c.loop-text.invariant (cut_of _ _ _ c.in-Some.ensures.steps) in
    search rules

pub returns-clause-words : goal.returns-clause-words
returns-clause-words c = words_all _ _ _ c.loop-text.invariant c.in-None.ensures.steps.1
