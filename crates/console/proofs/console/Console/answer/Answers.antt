use Rattle.std.proofs.Common.{None, Some, sym, subst, ap, ◌∙◌}
use Rattle.ring.specs.Ring as rings
use Rattle.towers.specs.Towers as towers
use Rattle.towers.specs.Tray.{sided_tray}
use Rattle.trays.specs.Form.{number_tray}
use Rattle.trays.specs.Settable.{holding_of}
use Rattle.planner.specs.Holds.{Holds}
use Rattle.console.specs.Commanded.{Answered}
use Rattle.console.specs.Histories.{plain_task, sided_task, ring_task}
use Rattle.console.specs.Holds.{Stands}
use Rattle.gaps.specs.Kinds.{plain_estimate, sided_estimate, ring_estimate}
use Rattle.ring.specs.Ring.{ring}
use Rattle.towers.specs.Kinds.{plain, sided}
use Rattle.trays.specs.declared.kind.Kind.TheVariants as kind
use Rattle.console.proofs.Busy.{plain_held, sided_held, ring_held, plain_rests, sided_rests, ring_rests}
use Rattle.console.proofs.Loaded.{loads_as, loads_of}
use Rattle.console.proofs.StandsAfter.{latest_loaded, plain_refused, sided_refused, ring_refused, plain_stands, sided_stands, ring_stands}
use Rattle.console.proofs.console.Console.answer.Goals as goal

pub returns-in-Plain-clause-answered : goal.returns-in-Plain-clause-answered
returns-in-Plain-clause-answered c = λ h s.
    let console = c.args.self.now in
    let r = c.load_kind.result in
    let p = c.load_kind.new.planner in
    let k = c.load_kind.new.latest in
    let latest = c.load_kind.ensures.latest in
    let free = c.is_busy-busy.ensures h s in
    let held = plain_held h console s in
    let one = c.load_kind.ensures.loads held.0 held.1 (λ w. free ∙ held.2 w) in
    let want = ap (holding_of number_tray (λ _. None)) c.of_tower.ensures.setup in
    let load = loads_as (λ s. s) number_tray 1 towers.held held.0 r one.0 free c.of_tower.ensures.limit want one.1 in
    let done = loads_of (λ s. s) number_tray 1 towers.held _ plain_task (λ x. Stands x (record console { plain = p; latest = k })) h _ _ held.0 r one.0 load (λ a t is rests next. plain_stands (record console { plain = p; latest = k }) (Some t) (latest_loaded r console.latest kind.Plain k latest a is) (subst (λ x. Holds plain (λ s. s) plain_estimate x p) next one.2) (sided_rests h console s rests) (ring_rests h console s rests)) (plain_refused h console s r p k c.load_kind.ensures.refused latest) in
    (done.0, subst (λ x. Answered h x r c.load_kind.new.sheet done.0) (sym c.in-Plain.is) done.1, done.2)

pub returns-in-Sided-clause-answered : goal.returns-in-Sided-clause-answered
returns-in-Sided-clause-answered c = λ h s.
    let console = c.args.self.now in
    let r = c.load_kind-in-Sided.result in
    let p = c.load_kind-in-Sided.new.planner in
    let k = c.load_kind-in-Sided.new.latest in
    let latest = c.load_kind-in-Sided.ensures.latest in
    let free = c.is_busy-busy.ensures h s in
    let held = sided_held h console s in
    let one = c.load_kind-in-Sided.ensures.loads held.0 held.1 (λ w. free ∙ held.2 w) in
    let want = ap (holding_of sided_tray (λ _. None)) c.of_tower-in-Sided.ensures.setup in
    let load = loads_as (λ s. s) sided_tray 1 towers.held held.0 r one.0 free c.of_tower-in-Sided.ensures.limit want one.1 in
    let done = loads_of (λ s. s) sided_tray 1 towers.held _ sided_task (λ x. Stands x (record console { sided = p; latest = k })) h _ _ held.0 r one.0 load (λ a t is rests next. sided_stands (record console { sided = p; latest = k }) (Some t) (latest_loaded r console.latest kind.Sided k latest a is) (plain_rests h console s rests) (subst (λ x. Holds sided (λ s. s) sided_estimate x p) next one.2) (ring_rests h console s rests)) (sided_refused h console s r p k c.load_kind-in-Sided.ensures.refused latest) in
    (done.0, subst (λ x. Answered h x r c.load_kind-in-Sided.new.sheet done.0) (sym c.in-Sided.is) done.1, done.2)

pub returns-in-Ring-clause-answered : goal.returns-in-Ring-clause-answered
returns-in-Ring-clause-answered c = λ h s.
    let console = c.args.self.now in
    let r = c.load_kind-in-Ring.result in
    let p = c.load_kind-in-Ring.new.planner in
    let k = c.load_kind-in-Ring.new.latest in
    let latest = c.load_kind-in-Ring.ensures.latest in
    let free = c.is_busy-busy.ensures h s in
    let held = ring_held h console s in
    let one = c.load_kind-in-Ring.ensures.loads held.0 held.1 (λ w. free ∙ held.2 w) in
    let want = ap (holding_of number_tray (λ k. Some k)) c.of_ring.ensures.setup in
    let load = loads_as (λ s. s) number_tray 4 rings.held held.0 r one.0 free c.of_ring.ensures.limit want one.1 in
    let done = loads_of (λ s. s) number_tray 4 rings.held _ ring_task (λ x. Stands x (record console { ring = p; latest = k })) h _ _ held.0 r one.0 load (λ a t is rests next. ring_stands (record console { ring = p; latest = k }) (Some t) (latest_loaded r console.latest kind.Ring k latest a is) (plain_rests h console s rests) (sided_rests h console s rests) (subst (λ x. Holds ring (λ s. s) ring_estimate x p) next one.2)) (ring_refused h console s r p k c.load_kind-in-Ring.ensures.refused latest) in
    (done.0, subst (λ x. Answered h x r c.load_kind-in-Ring.new.sheet done.0) (sym c.in-Ring.is) done.1, done.2)
