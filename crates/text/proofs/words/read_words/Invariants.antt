use Rattle.std.proofs.Common.{vec_items}
use Rattle.std.specs.Str.Iter.{split_whitespace_rest}
use Rattle.text.proofs.LineWords.{WordsBefore}
use Rattle.text.proofs.words.read_words.Given as goal

abbrev pub invariant-loop-text : goal.invariant-loop-text
invariant-loop-text l = WordsBefore l.line (vec_items l.words) (split_whitespace_rest l.text-iterator)
