use Rattle.std.proofs.Common.{rules}
use Rattle.tape.proofs.Cuts.{plain_cut, sided_cut, ring_cut, work_cut}
use Rattle.tape.proofs.command.Command.after.Goals as goal

pub returns-in_err-operands-in_default : goal.returns-in_err-operands-in_default
returns-in_err-operands-in_default c = search (rules, plain_cut)

pub returns-in_err-operands-in_default-2 : goal.returns-in_err-operands-in_default-2
returns-in_err-operands-in_default-2 c = search (rules, sided_cut)

pub returns-in_err-operands-in_default-3 : goal.returns-in_err-operands-in_default-3
returns-in_err-operands-in_default-3 c = search (rules, ring_cut)

pub returns-in_err-operands-in-87 : goal.returns-in_err-operands-in-87
returns-in_err-operands-in-87 c = search (rules, work_cut)
