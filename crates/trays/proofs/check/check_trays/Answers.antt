use Rattle.trays.proofs.MarkCounts.{lacks_none}
use Rattle.trays.proofs.check.check_trays.Goals as goal

pub returns-in_err-check_count-clause-lacks_none : goal.returns-in_err-check_count-clause-lacks_none
returns-in_err-check_count-clause-lacks_none g c = lacks_none g.T.Tray.form

pub returns-in_err-check_span-clause-lacks_none : goal.returns-in_err-check_span-clause-lacks_none
returns-in_err-check_span-clause-lacks_none g c = lacks_none g.T.Tray.form

pub returns-in-Some-clause-lacks_none : goal.returns-in-Some-clause-lacks_none
returns-in-Some-clause-lacks_none g c = lacks_none g.T.Tray.form

pub returns-in-Some-repeated-clause-lacks_none : goal.returns-in-Some-repeated-clause-lacks_none
returns-in-Some-repeated-clause-lacks_none g c = lacks_none g.T.Tray.form

pub returns-in-Some-filled-clause-lacks_none : goal.returns-in-Some-filled-clause-lacks_none
returns-in-Some-filled-clause-lacks_none g c = lacks_none g.T.Tray.form

pub returns-clause-lacks_none : goal.returns-clause-lacks_none
returns-clause-lacks_none g c = lacks_none g.T.Tray.form
