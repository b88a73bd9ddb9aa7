use Rattle.std.proofs.Common.{◌≡◌, ℕ, Bool, false, Some, Option, Ok, Err, Result, refl, subst}
use Rattle.planner.specs.Calls.{Task}
use Rattle.planner.specs.declared.answer.Answer.{Answer}
use Rattle.tape.specs.declared.fault.Fault.{Fault}
use Rattle.trays.specs.Form.{TrayForm}
use Rattle.trays.specs.Settable.{Holding}
use Rattle.console.specs.Loads.{Loads}

module _ {S M A : Type 0} (state : M → S) (f : TrayForm A) (least : ℕ) (holding : M → Holding A) where
  -- What comes of a load, with whether a task is at work, the limit and what is to be held under other names.
  pub loads_as : (before : Option (Task S)) (r : Result Answer Fault) (next : Option (Task S)) {b c : Bool} {k l : ℕ} {want hold : Holding A} → b ≡ c → k ≡ l → want ≡ hold → Loads state f least holding (λ t. Some t) b k want before r next → Loads state f least holding (λ t. Some t) c l hold before r next
  loads_as before r next {b = b} {c = c} {k = k} {l = l} {hold = hold} e n w x =
      subst (λ y. Loads state f least holding (λ t. Some t) y l hold before r next) e
      (subst (λ y. Loads state f least holding (λ t. Some t) b y hold before r next) n
      (subst (λ y. Loads state f least holding (λ t. Some t) b k y before r next) w x))

module _ {S M A : Type 0} (state : M → S) (f : TrayForm A) (least : ℕ) (holding : M → Holding A) (limit : ℕ) where
  -- What comes of the load of a planner comes of the whole history, and what follows from either answer holds after it.
  pub loads_of : {H : Type 0} (of : Task S → H) (P : H → Type 0) (h : H) (busy : Bool) (want : Holding A) (before : Option (Task S)) (r : Result Answer Fault) (next : Option (Task S)) → Loads state f least holding (λ t. Some t) busy limit want before r next → ((a : Answer) (t : Task S) → r ≡ Ok a → busy ≡ false → next ≡ Some t → P (of t)) → ((g : Fault) → r ≡ Err g → P h) → (after : H) × Loads state f least holding of busy limit want h r after × P after
  loads_of of P h busy want before (Ok a) next x accepted refused =
      let m = x.1 in
      (_, (x.0, record { machine = m.machine; holds = m.holds; within = m.within; free = m.free; next_is = refl }), accepted a _ refl m.free m.next_is)
  loads_of of P h busy want before (Err g) next x accepted refused = (h, (x.0, refl), refused g refl)
