use Rattle.std.proofs.Common.{◌≡◌, ℕ, Bool, Ok, Err, Result, refl, sym, ap, ◌∙◌, arith}
use Rattle.std.proofs.lemmas.Bool.{true≢false}
use Rattle.planner.specs.Calls.{Task}
use Rattle.planner.specs.declared.answer.Answer.{Answer}
use Rattle.planner.specs.declared.answer.Answer.TheVariants.{Accepted}
use Rattle.planner.specs.declared.fault.Fault.TheVariants.{Limit, AtWork}
use Rattle.tape.specs.declared.fault.Fault.{Fault}
use Rattle.tape.specs.declared.fault.Fault.TheVariants.{Machine, Planner}
use Rattle.trays.specs.Form.{TrayForm}
use Rattle.trays.specs.Settable.{Holding}
use Rattle.trays.proofs.OneAnswer.{one_answer}
use Rattle.console.specs.Loads.{LoadRefused, Loads, Taken}

-- A load comes to one thing, where a machine is fixed by what it holds.

module _ {S M A H : Type 0} (state : M → S) (f : TrayForm A) (least : ℕ) (holding : M → Holding A) (of : Task S → H) (busy : Bool) (limit : ℕ) (want : Holding A) (before : H) where
  pub accepted_load : (r : Result Answer Fault) (next : H) → Loads state f least holding of busy limit want before r next → (a : Answer) → r ≡ Ok a → a ≡ Accepted
  accepted_load (Ok b) next x a is = cc (sym is) ∙ x.0
  accepted_load (Err g) next x a is = absurd (cc is)

module _ {A : Type 0} (f : TrayForm A) (least : ℕ) (busy : Bool) (limit : ℕ) (want : Holding A) where
  load_refused_once : (g h : Fault) → LoadRefused f least busy limit want g → LoadRefused f least busy limit want h → g ≡ h
  load_refused_once (Machine g) (Machine h) x y = ap Machine ((one_answer f least want.count want.span want.trays).1 g h x y)
  load_refused_once (Machine g) (Planner Limit) x y = absurd ((one_answer f least want.count want.span want.trays).0 y.0.0 y.0.1 g x)
  load_refused_once (Machine g) (Planner AtWork) x y = absurd ((one_answer f least want.count want.span want.trays).0 y.0.0 y.0.1 g x)
  load_refused_once (Planner Limit) (Machine h) x y = absurd ((one_answer f least want.count want.span want.trays).0 x.0.0 x.0.1 h y)
  load_refused_once (Planner Limit) (Planner Limit) x y = refl
  load_refused_once (Planner Limit) (Planner AtWork) x y = let over = x.1 in let in_limit = y.1 in absurd (omega arith)
  load_refused_once (Planner AtWork) (Machine h) x y = absurd ((one_answer f least want.count want.span want.trays).0 x.0.0 x.0.1 h y)
  load_refused_once (Planner AtWork) (Planner Limit) x y = let in_limit = x.1 in let over = y.1 in absurd (omega arith)
  load_refused_once (Planner AtWork) (Planner AtWork) x y = refl
  load_refused_once (Machine g) h x y = absurd y
  load_refused_once (Planner Limit) h x y = absurd y
  load_refused_once (Planner AtWork) h x y = absurd y
  load_refused_once g h x y = absurd x

module _ {S M A H : Type 0} (state : M → S) (f : TrayForm A) (least : ℕ) (holding : M → Holding A) (fixed : (x y : M) → (holding x).count ≡ (holding y).count → (holding x).span ≡ (holding y).span → (holding x).trays ≡ (holding y).trays → x ≡ y) (of : Task S → H) where
  module _ (busy : Bool) (limit : ℕ) (want : Holding A) (before : H) where
    taken_once : (t u : H) → Taken state f least holding of busy limit want t → Taken state f least holding of busy limit want u → t ≡ u
    taken_once t u x y =
        let same = fixed x.machine y.machine (x.holds.count ∙ sym y.holds.count) (x.holds.span ∙ sym y.holds.span) (x.holds.trays ∙ sym y.holds.trays) in
        x.next_is ∙ ap (λ m. of (record { start = state m; limit = limit; granted = 0 })) same ∙ sym y.next_is

    taken_not_refused : (t : H) → Taken state f least holding of busy limit want t → (g : Fault) → LoadRefused f least busy limit want g → ⊥
    taken_not_refused t x (Machine g) y = (one_answer f least want.count want.span want.trays).0 x.holds.spanned x.holds.accepted g y
    taken_not_refused t x (Planner Limit) y = let in_limit = x.within in let over = y.1 in omega arith
    taken_not_refused t x (Planner AtWork) y = true≢false (sym y.2 ∙ x.free)
    taken_not_refused t x g y = y

    pub loads_once : (r q : Result Answer Fault) (t u : H) → Loads state f least holding of busy limit want before r t → Loads state f least holding of busy limit want before q u → (r ≡ q) × (t ≡ u)
    loads_once (Ok a) (Ok b) t u x y = (ap Ok (x.0 ∙ sym y.0), taken_once t u x.1 y.1)
    loads_once (Ok a) (Err g) t u x y = absurd (taken_not_refused t x.1 g y.0)
    loads_once (Err g) (Ok a) t u x y = absurd (taken_not_refused u y.1 g x.0)
    loads_once (Err g) (Err h) t u x y = (ap Err (load_refused_once f least busy limit want g h x.0 y.0), x.1 ∙ sym y.1)
