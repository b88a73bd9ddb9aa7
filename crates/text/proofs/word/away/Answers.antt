use Rattle.std.proofs.Common.{arith, rules}
use Rattle.std.proofs.lemmas.Str.Pattern.{strip_prefix_char}
use Rattle.text.proofs.LineWords.{away_read}
use Rattle.text.proofs.word.away.Goals as goal

pub returns : goal.returns
returns c =
    away_read _ _ _ _ _ (λ n b kept. search rules) (strip_prefix_char 45 _ _ c.strip_prefix.ensures.cases (omega arith)) c.and_then.ensures c.filter.ensures
