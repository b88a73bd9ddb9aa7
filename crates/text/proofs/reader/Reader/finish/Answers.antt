use Rattle.text.proofs.ReadSoFar.{written}
use Rattle.text.proofs.reader.Reader.finish.Goals as goal

pub returns : goal.returns
returns c ws = written _ _ _ _ _ _ ws c.requires
