use Rattle.std.proofs.Common.{sym, ◌∙◌}
use Rattle.console.proofs.Busy.{plain_held, sided_held, busy_ring}
use Rattle.console.proofs.console.Console.is_busy.Goals as goal

pub returns-then-is_at_work : goal.returns-then-is_at_work
returns-then-is_at_work c = λ h s.
    let plain = plain_held h c.args.self.now s in
    c.if-is_at_work.true ∙ sym (plain.2 (sym (c.is_at_work.ensures plain.0 plain.1) ∙ c.if-is_at_work.true))

pub returns-then-is_at_work-2 : goal.returns-then-is_at_work-2
returns-then-is_at_work-2 c = λ h s.
    let sided = sided_held h c.args.self.now s in
    c.if-is_at_work-2.true ∙ sym (sided.2 (sym (c.is_at_work-else-is_at_work.ensures sided.0 sided.1) ∙ c.if-is_at_work-2.true))

pub returns-else-is_at_work-2 : goal.returns-else-is_at_work-2
returns-else-is_at_work-2 c = λ h s. busy_ring h c.args.self.now s _ _ _ c.is_at_work.ensures c.is_at_work-else-is_at_work.ensures c.is_at_work-else-is_at_work-2.ensures c.if-is_at_work.false c.if-is_at_work-2.false
