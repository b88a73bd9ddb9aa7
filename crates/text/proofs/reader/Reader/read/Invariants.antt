use Rattle.std.proofs.Common.{take}
use Rattle.text.specs.Readers.{HasRead}
use Rattle.text.proofs.reader.Reader.read.Given as goal

abbrev pub invariant-loop-at : goal.invariant-loop-at
invariant-loop-at l = HasRead l.self (take l.at l.words)
