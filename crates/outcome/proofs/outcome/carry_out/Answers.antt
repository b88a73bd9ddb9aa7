use Rattle.std.proofs.Common.{rules}
use Rattle.gaps.specs.Counts.{breakpoints, gaps}
use Rattle.text.specs.Lines.{asked}
use Rattle.towers.specs.Towers as towers
use Rattle.towers.specs.Tray.{sided_tray}
use Rattle.trays.specs.Form.{number_tray}
use Rattle.trays.specs.Settable.{in_tower}
use Rattle.outcome.specs.Completed.{Attempted}
use Rattle.outcome.proofs.outcome.carry_out.Goals as goal

pub returns-in-Plain : goal.returns-in-Plain
returns-in-Plain c ws asks =
    let attempted : Attempted c.args.request.kind number_tray 1 towers.held (towers.tower 2) towers.mirrored (λ s. s) gaps (in_tower number_tray c.tray_count-n.result c.tray_bytes-bytes.result) (asked c.args.request.action) c.attempt.result = c.attempt.ensures in
    search rules

pub returns-in-Sided : goal.returns-in-Sided
returns-in-Sided c ws asks =
    let attempted : Attempted c.args.request.kind sided_tray 1 towers.held (towers.tower 1) towers.mirrored (λ s. s) breakpoints (in_tower sided_tray c.tray_count-n.result c.tray_bytes-bytes.result) (asked c.args.request.action) c.attempt-in-Sided.result = c.attempt-in-Sided.ensures in
    search rules
