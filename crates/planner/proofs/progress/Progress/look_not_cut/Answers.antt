use Rattle.std.proofs.Common.{◌≡◌, true, false, ap, sym, ◌∙◌}
use Rattle.search.proofs.Bounds.{unbounded}
use Rattle.walk.specs.Walks.{machine}
use Rattle.planner.proofs.LookMade.{came_home, kept}
use Rattle.planner.proofs.progress.Progress.look_not_cut.Goals as goal

pub returns-then-is_home : goal.returns-then-is_home
returns-then-is_home g c = λ e limit s threshold xs is fits x.
    let m = g.M.Machine.meaning in
    let state = g.M.Machine.state in
    let p = c.args.self.now in
    let here : m.home (state (machine p.walk)) ≡ true = ap (λ y. m.home (state y)) (sym c.here.ensures) ∙ sym c.is_home.ensures ∙ c.if-is_home.true in
    came_home m state e limit s (unbounded m e) p xs threshold is fits here x

pub returns : goal.returns
returns g c = λ e limit s threshold xs is fits x.
    let m = g.M.Machine.meaning in
    let state = g.M.Machine.state in
    let p = c.args.self.now in
    let away : m.home (state (machine p.walk)) ≡ false = ap (λ y. m.home (state y)) (sym c.here.ensures) ∙ sym c.is_home.ensures ∙ c.if-is_home.false in
    kept m state e limit s (unbounded m e) c.settle.result p c.settle.new.self xs threshold is x g.met.M.Machine.lawful fits away
    (λ allowed leads. c.settle.ensures e limit s threshold _ x.same_limit is allowed (c.advance-step.ensures e threshold s leads))
