use Rattle.std.proofs.Common.{◌≡◌, ℕ, List, length, Some, None, Option, Ok, Err, Result, sym, ap, ap₂, ◌∙◌}
use Rattle.machine.specs.Meaning.{Meaning}
use Rattle.planner.specs.Calls.{Task, refused, search_of}
use Rattle.planner.specs.Promise.{Granted, Owed, OwedIf}
use Rattle.planner.specs.Told.{IsFetched, told}
use Rattle.planner.specs.declared.answer.Answer.{Answer}
use Rattle.planner.specs.declared.answer.Answer.TheVariants.{Accepted, Working, Found, NoPlan, Fetched}
use Rattle.planner.specs.declared.call.Call.{Call}
use Rattle.planner.specs.declared.call.Call.TheVariants.{Load, Work, Fetch, Drop}
use Rattle.planner.specs.declared.fault.Fault.{Fault}
use Rattle.walk.specs.Sheets.{padded}
use Rattle.console.specs.Commanded.{Asked, carried}
use Rattle.console.specs.Histories.{History}

-- What a planner owes to a call is one thing.

module _ {S : Type 0} (m : Meaning S) (e : S → ℕ) where
  granted_once : (t : Task S) (a b : Answer) → Granted m e t a → Granted m e t b → a ≡ b
  granted_once t (Working n) (Working k) g h = ap Working (cc (g.looks ∙ sym h.looks))
  granted_once t (Working n) (Found l k) g h = absurd (h.working.1 (g.working.0 tt))
  granted_once t (Working n) (NoPlan k) g h = absurd (h.working.1 (g.working.0 tt))
  granted_once t (Found l k) (Working n) g h = absurd (g.working.1 (h.working.0 tt))
  granted_once t (NoPlan k) (Working n) g h = absurd (g.working.1 (h.working.0 tt))
  granted_once t (Found l k) (Found j n) g h =
      let x = g.found (λ w. w) (λ w. w) in
      let y = h.found (λ w. w) (λ w. w) in
      ap₂ Found (cc (x.1.2 ∙ ap (λ p. Some (length p)) (cc (sym x.1.1 ∙ y.1.1)) ∙ sym y.1.2)) (cc (g.looks ∙ sym h.looks))
  granted_once t (Found l k) (NoPlan n) g h = absurd ((g.none (λ w. w)).1 ((h.none (λ w. w)).0 tt))
  granted_once t (NoPlan n) (Found l k) g h = absurd ((h.none (λ w. w)).1 ((g.none (λ w. w)).0 tt))
  granted_once t (NoPlan n) (NoPlan k) g h = ap NoPlan (cc (g.looks ∙ sym h.looks))
  granted_once t Accepted b g h = absurd (cc g.looks)
  granted_once t (Fetched l) b g h = absurd (cc g.looks)
  granted_once t a Accepted g h = absurd (cc h.looks)
  granted_once t a (Fetched l) g h = absurd (cc h.looks)

  fetched_once : (a b : Answer) → IsFetched a → IsFetched b → (told a).length ≡ (told b).length → a ≡ b
  fetched_once (Fetched n) (Fetched k) x y is = ap Fetched (cc is)
  fetched_once (Fetched n) b x y is = absurd y
  fetched_once a b x y is = absurd x

  owed_once : (task : Option (Task S)) (c : Call S) (old : List ℕ) (a b : Answer) (v w : List ℕ) → Owed m e task c old a v → Owed m e task c old b w → (a ≡ b) × (v ≡ w)
  owed_once task (Load s limit) old a b v w x y = (x.0 ∙ sym y.0, x.1 ∙ sym y.1)
  owed_once None (Work n) old a b v w x y = absurd x
  owed_once (Some t) (Work n) old a b v w x y = (granted_once _ a b x.0 y.0, x.1 ∙ sym y.1)
  owed_once None Fetch old a b v w x y = absurd x
  owed_once (Some t) Fetch old a b v w x y =
      let same : x.turns ≡ y.turns = cc (sym x.searched ∙ y.searched) in
      (fetched_once a b x.fetched y.fetched (x.length_is ∙ ap (λ p. Some (length p)) same ∙ sym y.length_is), x.sheet_is ∙ ap padded same ∙ sym y.sheet_is)
  owed_once task Drop old a b v w x y = (x.0 ∙ sym y.0, x.1 ∙ sym y.1)

  owed_if_once : (o : Option Fault) (task : Option (Task S)) (c : Call S) (old : List ℕ) (r q : Result Answer Fault) (v w : List ℕ) → OwedIf m e o task c old r v → OwedIf m e o task c old q w → (r ≡ q) × (v ≡ w)
  owed_if_once None task c old (Ok a) (Ok b) v w x y = let both = owed_once task c old a b v w x y in (ap Ok both.0, both.1)
  owed_if_once None task c old (Ok a) (Err g) v w x y = absurd y
  owed_if_once None task c old (Err f) q v w x y = absurd x
  owed_if_once (Some f) task c old r q v w x y = (x.0 ∙ sym y.0, x.1 ∙ sym y.1)

  pub asked_once : (of : Task S → History) (task : Option (Task S)) (c : Call S) (r q : _) (v w : List ℕ) (a b : History) → Asked m e of task c r v a → Asked m e of task c q w b → (r ≡ q) × (v ≡ w) × (a ≡ b)
  asked_once of task c r q v w a b x y =
      let both = owed_if_once (refused m e task c) task c _ x.reply y.reply v w x.kept y.kept in
      (x.reply_is ∙ ap carried both.0 ∙ sym y.reply_is, both.1, x.next_is ∙ sym y.next_is)
