use Rattle.std.proofs.Common.{◌≡◌, replicate, ℕ, List, Some, None, Option, Ok, Err, Result, MatchResult, IfErr, refl, sym, ap₂, subst, ◌∙◌}
use Rattle.machine.specs.Meaning.{Meaning}
use Rattle.planner.specs.Calls.{Task, after}
use Rattle.planner.specs.Holds.{Holds}
use Rattle.planner.specs.Promise.{Kept}
use Rattle.planner.specs.declared.answer.Answer.{Answer}
use Rattle.planner.specs.declared.fault.Fault as planner
use Rattle.ring.specs.declared.tray_ring.TrayRing.{TrayRing}
use Rattle.tape.specs.declared.fault.Fault.{Fault}
use Rattle.tape.specs.declared.command.Command.{Command}
use Rattle.tape.specs.declared.command.Command.TheVariants as command
use Rattle.console.specs.declared.console.Console.{Console}
use Rattle.trays.specs.declared.kind.Kind.{Kind}
use Rattle.trays.specs.declared.kind.Kind.TheVariants as kind
use Rattle.console.specs.Commanded.{Answered, AskedOf, carried}
use Rattle.console.specs.Calls.{Asks, call_of}
use Rattle.console.specs.Histories.{History, none, plain_task, sided_task, ring_task, history_of}
use Rattle.console.specs.Holds.{IsEmpty, Rests, Stands}
use Rattle.gaps.specs.Kinds.{plain_estimate, sided_estimate, ring_estimate}
use Rattle.ring.specs.Ring.{ring}
use Rattle.towers.specs.Kinds.{PlainTower, SidedTower, plain, sided}

-- How a console stands after one of its planners was asked or loaded.

pub plain_stands : (c : Console) (next : Option (Task PlainTower)) → c.latest ≡ kind.Plain → Holds plain (λ s. s) plain_estimate next c.plain → Rests sided sided_estimate c.sided → Rests ring ring_estimate c.ring → Stands (history_of plain_task next) c
plain_stands c None is held s r = (subst (λ k. IsEmpty k c) (sym is) held, (None, held, refl), s, r)
plain_stands c (Some t) is held s r = (is, held, s, r)

pub sided_stands : (c : Console) (next : Option (Task SidedTower)) → c.latest ≡ kind.Sided → Rests plain plain_estimate c.plain → Holds sided (λ s. s) sided_estimate next c.sided → Rests ring ring_estimate c.ring → Stands (history_of sided_task next) c
sided_stands c None is p held r = (subst (λ k. IsEmpty k c) (sym is) held, p, (None, held, refl), r)
sided_stands c (Some t) is p held r = (is, p, held, r)

pub ring_stands : (c : Console) (next : Option (Task TrayRing)) → c.latest ≡ kind.Ring → Rests plain plain_estimate c.plain → Rests sided sided_estimate c.sided → Holds ring (λ s. s) ring_estimate next c.ring → Stands (history_of ring_task next) c
ring_stands c None is p s held = (subst (λ k. IsEmpty k c) (sym is) held, p, s, (None, held, refl))
ring_stands c (Some t) is p s held = (is, p, s, held)

-- What a planner replies, where P holds of the task that is left.
abbrev Replied : {S : Type 0} → Meaning S → (S → ℕ) → Option (Task S) → Command → Result Answer Fault → List ℕ → (Option (Task S) → Type 0) → Type 0
Replied m e task what r sheet P = (reply : Result Answer planner.Fault) × (r ≡ carried reply) × Kept m e task (call_of what) (replicate 64 0) reply sheet × P (after m e task (call_of what))

-- An empty planner has no task after a call either, and replies as that of the plain tower does.
module _ {S : Type 0} (m : Meaning S) (e : S → ℕ) where
  still_none : (what : Command) → after m e None (call_of what) ≡ None
  still_none (command.Plain bytes) = refl
  still_none (command.Sided bytes) = refl
  still_none (command.Ring bytes) = refl
  still_none (command.Work bytes) = refl
  still_none command.Go = refl
  still_none command.Fetch = refl
  still_none command.Drop = refl

  of_empty : (what : Command) (r : Result Answer Fault) (sheet : List ℕ) (P : Option (Task S) → Type 0) → Replied m e None what r sheet P → AskedOf none (λ _. call_of what) r sheet none
  of_empty (command.Plain bytes) r sheet P x = record { reply = x.0; reply_is = x.1; kept = x.2; next_is = refl }
  of_empty (command.Sided bytes) r sheet P x = record { reply = x.0; reply_is = x.1; kept = x.2; next_is = refl }
  of_empty (command.Ring bytes) r sheet P x = record { reply = x.0; reply_is = x.1; kept = x.2; next_is = refl }
  of_empty (command.Work bytes) r sheet P x = record { reply = x.0; reply_is = x.1; kept = x.2; next_is = refl }
  of_empty command.Go r sheet P x = record { reply = x.0; reply_is = x.1; kept = x.2; next_is = refl }
  of_empty command.Fetch r sheet P x = record { reply = x.0; reply_is = x.1; kept = x.2; next_is = refl }
  of_empty command.Drop r sheet P x = record { reply = x.0; reply_is = x.1; kept = x.2; next_is = refl }

pub plain_asked : (h : History) (c : Console) → Stands h c → c.latest ≡ kind.Plain → (what : Command) (r : Result Answer Fault) (sheet : List ℕ) (p : _) → ((task : Option (Task PlainTower)) → Holds plain (λ s. s) plain_estimate task c.plain → Replied plain plain_estimate task what r sheet (λ t. Holds plain (λ s. s) plain_estimate t p)) → (next : History) × AskedOf h (λ _. call_of what) r sheet next × Stands next (record c { plain = p })
plain_asked none c s is what r sheet p asked =
    let one = asked None (subst (λ k. IsEmpty k c) is s.0) in
    (none, of_empty plain plain_estimate what r sheet (λ t. Holds plain (λ s. s) plain_estimate t p) one, plain_stands (record c { plain = p }) None is (subst (λ t. Holds plain (λ s. s) plain_estimate t p) (still_none plain plain_estimate what) one.3) s.2 s.3)
plain_asked (plain_task t) c s is what r sheet p asked =
    let one = asked (Some t) s.1 in
    (_, record { reply = one.0; reply_is = one.1; kept = one.2; next_is = refl }, plain_stands (record c { plain = p }) _ is one.3 s.2 s.3)
plain_asked (sided_task t) c s is what r sheet p asked = absurd (cc (sym s.0 ∙ is))
plain_asked (ring_task t) c s is what r sheet p asked = absurd (cc (sym s.0 ∙ is))

pub sided_asked : (h : History) (c : Console) → Stands h c → c.latest ≡ kind.Sided → (what : Command) (r : Result Answer Fault) (sheet : List ℕ) (p : _) → ((task : Option (Task SidedTower)) → Holds sided (λ s. s) sided_estimate task c.sided → Replied sided sided_estimate task what r sheet (λ t. Holds sided (λ s. s) sided_estimate t p)) → (next : History) × AskedOf h (λ _. call_of what) r sheet next × Stands next (record c { sided = p })
sided_asked none c s is what r sheet p asked =
    let one = asked None (subst (λ k. IsEmpty k c) is s.0) in
    (none, of_empty sided sided_estimate what r sheet (λ t. Holds sided (λ s. s) sided_estimate t p) one, sided_stands (record c { sided = p }) None is s.1 (subst (λ t. Holds sided (λ s. s) sided_estimate t p) (still_none sided sided_estimate what) one.3) s.3)
sided_asked (sided_task t) c s is what r sheet p asked =
    let one = asked (Some t) s.2 in
    (_, record { reply = one.0; reply_is = one.1; kept = one.2; next_is = refl }, sided_stands (record c { sided = p }) _ is s.1 one.3 s.3)
sided_asked (plain_task t) c s is what r sheet p asked = absurd (cc (sym s.0 ∙ is))
sided_asked (ring_task t) c s is what r sheet p asked = absurd (cc (sym s.0 ∙ is))

pub ring_asked : (h : History) (c : Console) → Stands h c → c.latest ≡ kind.Ring → (what : Command) (r : Result Answer Fault) (sheet : List ℕ) (p : _) → ((task : Option (Task TrayRing)) → Holds ring (λ s. s) ring_estimate task c.ring → Replied ring ring_estimate task what r sheet (λ t. Holds ring (λ s. s) ring_estimate t p)) → (next : History) × AskedOf h (λ _. call_of what) r sheet next × Stands next (record c { ring = p })
ring_asked none c s is what r sheet p asked =
    let one = asked None (subst (λ k. IsEmpty k c) is s.0) in
    (none, of_empty ring ring_estimate what r sheet (λ t. Holds ring (λ s. s) ring_estimate t p) one, ring_stands (record c { ring = p }) None is s.1 s.2 (subst (λ t. Holds ring (λ s. s) ring_estimate t p) (still_none ring ring_estimate what) one.3))
ring_asked (ring_task t) c s is what r sheet p asked =
    let one = asked (Some t) s.3 in
    (_, record { reply = one.0; reply_is = one.1; kept = one.2; next_is = refl }, ring_stands (record c { ring = p }) _ is s.1 s.2 one.3)
ring_asked (plain_task t) c s is what r sheet p asked = absurd (cc (sym s.0 ∙ is))
ring_asked (sided_task t) c s is what r sheet p asked = absurd (cc (sym s.0 ∙ is))

-- What the planner of the latest load is asked by a command is what the command is answered.
pub answered_as_asked : (h : History) (what : Command) → Asks what → (r : Result Answer Fault) (sheet : List ℕ) (P : History → Type 0) → (next : History) × AskedOf h (λ _. call_of what) r sheet next × P next → (next : History) × Answered h what r sheet next × P next
answered_as_asked h (command.Work bytes) is r sheet P x = x
answered_as_asked h command.Go is r sheet P x = x
answered_as_asked h command.Fetch is r sheet P x = x
answered_as_asked h command.Drop is r sheet P x = x
answered_as_asked h c is r sheet P x = absurd is

-- A refused load leaves the console as it was.

abbrev Latest : Result Answer Fault → Kind → Kind → Kind → Type 0
Latest r before loaded k = MatchResult r (λ _. k ≡ loaded) (λ _. k ≡ before)

pub latest_loaded : (r : Result Answer Fault) (before loaded k : Kind) → Latest r before loaded k → (a : Answer) → r ≡ Ok a → k ≡ loaded
latest_loaded r before loaded k x a is = subst (λ z. Latest z before loaded k) is x

pub plain_refused : (h : History) (c : Console) → Stands h c → (r : Result Answer Fault) (p : _) (k : Kind) → IfErr r (λ _. p ≡ c.plain) → Latest r c.latest kind.Plain k → (g : Fault) → r ≡ Err g → Stands h (record c { plain = p; latest = k })
plain_refused h c s r p k same latest g is =
    subst (Stands h) (ap₂ (λ p k. record c { plain = p; latest = k }) (sym (subst (λ z. IfErr z (λ _. p ≡ c.plain)) is same)) (sym (subst (λ z. Latest z c.latest kind.Plain k) is latest))) s

pub sided_refused : (h : History) (c : Console) → Stands h c → (r : Result Answer Fault) (p : _) (k : Kind) → IfErr r (λ _. p ≡ c.sided) → Latest r c.latest kind.Sided k → (g : Fault) → r ≡ Err g → Stands h (record c { sided = p; latest = k })
sided_refused h c s r p k same latest g is =
    subst (Stands h) (ap₂ (λ p k. record c { sided = p; latest = k }) (sym (subst (λ z. IfErr z (λ _. p ≡ c.sided)) is same)) (sym (subst (λ z. Latest z c.latest kind.Sided k) is latest))) s

pub ring_refused : (h : History) (c : Console) → Stands h c → (r : Result Answer Fault) (p : _) (k : Kind) → IfErr r (λ _. p ≡ c.ring) → Latest r c.latest kind.Ring k → (g : Fault) → r ≡ Err g → Stands h (record c { ring = p; latest = k })
ring_refused h c s r p k same latest g is =
    subst (Stands h) (ap₂ (λ p k. record c { ring = p; latest = k }) (sym (subst (λ z. IfErr z (λ _. p ≡ c.ring)) is same)) (sym (subst (λ z. Latest z c.latest kind.Ring k) is latest))) s
