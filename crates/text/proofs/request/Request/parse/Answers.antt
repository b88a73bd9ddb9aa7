use Rattle.text.proofs.Unique.{one_fault, one_reading, one_request}
use Rattle.text.proofs.request.Request.parse.Goals as goal

pub returns-in_err-read-clause-once : goal.returns-in_err-read-clause-once
returns-in_err-read-clause-once c = one_reading

pub returns-clause-once : goal.returns-clause-once
returns-clause-once c = one_reading

pub returns-in_err-read-clause-request : goal.returns-in_err-read-clause-request
returns-in_err-read-clause-request c = one_request

pub returns-clause-request : goal.returns-clause-request
returns-clause-request c = one_request

pub returns-in_err-read-clause-fault : goal.returns-in_err-read-clause-fault
returns-in_err-read-clause-fault c = one_fault

pub returns-clause-fault : goal.returns-clause-fault
returns-clause-fault c = one_fault
