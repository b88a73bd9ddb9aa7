use Rattle.console.proofs.Unique.{long_alike, one_reply}
use Rattle.console.proofs.replies.write_replies.Goals as goal

pub returns-clause-one : goal.returns-clause-one
returns-clause-one c = one_reply

pub returns-clause-long : goal.returns-clause-long
returns-clause-long c = long_alike
