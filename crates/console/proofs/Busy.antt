use Rattle.std.proofs.Common.{◌≡◌, Bool, true, false, Some, Option, refl, sym, ◌∙◌}
use Rattle.std.proofs.lemmas.Bool.{true≢false}
use Rattle.planner.specs.Calls.{Task, at_work, doing}
use Rattle.planner.specs.Holds.{Holds}
use Rattle.ring.specs.declared.tray_ring.TrayRing.{TrayRing}
use Rattle.console.specs.declared.console.Console.{Console}
use Rattle.console.specs.Histories.{History, none, plain_task, sided_task, ring_task, busy}
use Rattle.console.specs.Holds.{Rests, Stands}
use Rattle.gaps.specs.Kinds.{plain_estimate, sided_estimate, ring_estimate}
use Rattle.ring.specs.Ring.{ring}
use Rattle.towers.specs.Kinds.{PlainTower, SidedTower, plain, sided}

-- Each planner holds a task, or none, that is at work only where the history's is.

pub plain_held : (h : History) (c : Console) → Stands h c → (task : Option (Task PlainTower)) × Holds plain (λ s. s) plain_estimate task c.plain × (at_work (doing plain plain_estimate task) ≡ true → busy h ≡ true)
plain_held (plain_task t) c s = (Some t, s.1, λ w. w)
plain_held none c s = let r = s.1 in (r.0, r.1, λ w. absurd (true≢false (sym w ∙ r.2)))
plain_held (sided_task t) c s = let r = s.1 in (r.0, r.1, λ w. absurd (true≢false (sym w ∙ r.2)))
plain_held (ring_task t) c s = let r = s.1 in (r.0, r.1, λ w. absurd (true≢false (sym w ∙ r.2)))

pub sided_held : (h : History) (c : Console) → Stands h c → (task : Option (Task SidedTower)) × Holds sided (λ s. s) sided_estimate task c.sided × (at_work (doing sided sided_estimate task) ≡ true → busy h ≡ true)
sided_held (sided_task t) c s = (Some t, s.2, λ w. w)
sided_held none c s = let r = s.2 in (r.0, r.1, λ w. absurd (true≢false (sym w ∙ r.2)))
sided_held (plain_task t) c s = let r = s.2 in (r.0, r.1, λ w. absurd (true≢false (sym w ∙ r.2)))
sided_held (ring_task t) c s = let r = s.2 in (r.0, r.1, λ w. absurd (true≢false (sym w ∙ r.2)))

pub ring_held : (h : History) (c : Console) → Stands h c → (task : Option (Task TrayRing)) × Holds ring (λ s. s) ring_estimate task c.ring × (at_work (doing ring ring_estimate task) ≡ true → busy h ≡ true)
ring_held (ring_task t) c s = (Some t, s.3, λ w. w)
ring_held none c s = let r = s.3 in (r.0, r.1, λ w. absurd (true≢false (sym w ∙ r.2)))
ring_held (plain_task t) c s = let r = s.3 in (r.0, r.1, λ w. absurd (true≢false (sym w ∙ r.2)))
ring_held (sided_task t) c s = let r = s.3 in (r.0, r.1, λ w. absurd (true≢false (sym w ∙ r.2)))

is_false : (b : Bool) → (b ≡ true → ⊥) → b ≡ false
is_false true hence = absurd (hence refl)
is_false false hence = refl

-- Where no task is at work, each planner rests.
pub plain_rests : (h : History) (c : Console) → Stands h c → busy h ≡ false → Rests plain plain_estimate c.plain
plain_rests h c s free = let k = plain_held h c s in (k.0, k.1, is_false _ (λ w. true≢false (sym (k.2 w) ∙ free)))

pub sided_rests : (h : History) (c : Console) → Stands h c → busy h ≡ false → Rests sided sided_estimate c.sided
sided_rests h c s free = let k = sided_held h c s in (k.0, k.1, is_false _ (λ w. true≢false (sym (k.2 w) ∙ free)))

pub ring_rests : (h : History) (c : Console) → Stands h c → busy h ≡ false → Rests ring ring_estimate c.ring
ring_rests h c s free = let k = ring_held h c s in (k.0, k.1, is_false _ (λ w. true≢false (sym (k.2 w) ∙ free)))

-- Where the towers are not at work, the ring says whether a task is.
pub busy_ring : (h : History) (c : Console) → Stands h c → (p s r : Bool) → ((task : Option (Task PlainTower)) → Holds plain (λ s. s) plain_estimate task c.plain → p ≡ at_work (doing plain plain_estimate task)) → ((task : Option (Task SidedTower)) → Holds sided (λ s. s) sided_estimate task c.sided → s ≡ at_work (doing sided sided_estimate task)) → ((task : Option (Task TrayRing)) → Holds ring (λ s. s) ring_estimate task c.ring → r ≡ at_work (doing ring ring_estimate task)) → p ≡ false → s ≡ false → r ≡ busy h
busy_ring none c st p s r of_plain of_sided of_ring no_plain no_sided = of_ring st.3.0 st.3.1 ∙ st.3.2
busy_ring (plain_task t) c st p s r of_plain of_sided of_ring no_plain no_sided = of_ring st.3.0 st.3.1 ∙ st.3.2 ∙ sym no_plain ∙ of_plain (Some t) st.1
busy_ring (sided_task t) c st p s r of_plain of_sided of_ring no_plain no_sided = of_ring st.3.0 st.3.1 ∙ st.3.2 ∙ sym no_sided ∙ of_sided (Some t) st.2
busy_ring (ring_task t) c st p s r of_plain of_sided of_ring no_plain no_sided = of_ring (Some t) st.3
