use Rattle.std.proofs.Common.{◌≡◌, ℕ, ◌<◌, List, Option, refl, ap, ⊎_elim}
use Rattle.std.proofs.lemmas.Bool.{cases_order}
use Rattle.machine.specs.declared.fault.Fault.{Fault}
use Rattle.machine.specs.declared.fault.Fault.TheVariants.{TrayCount, Span, TrayNumber, TrayRepeated, TrayBeyond, NoSuchTurn}
use Rattle.trays.specs.Form.{TrayForm}
use Rattle.trays.specs.Settable.{Accepted, Each, First, OneAnswer, Refused, Spanned}

first_none : {P : ℕ → Type 0} {low high i : ℕ} → First P low high i → Each P low high → ⊥
first_none {P} {low} {high} {i} h all = h.fails (all i h.from h.to)

first_one : {P : ℕ → Type 0} {low high i j : ℕ} → First P low high i → First P low high j → i ≡ j
first_one {P} {low} {high} {i} {j} h e =
    ⊎_elim (λ (q : i ≡ j). q)
    (⊎_elim (λ (lt : i < j). absurd (h.fails (e.before i h.from lt))) (λ (gt : j < i). absurd (e.fails (h.before j e.from gt))))
    (cases_order i j)

module _ {A : Type 0} (t : TrayForm A) (least n : ℕ) (span : Option ℕ) (xs : List A) where
  not_refused : Spanned n span → Accepted t least n xs → (f : Fault) → Refused t least n span xs f → ⊥
  not_refused p a TrayCount h = h a.counted
  not_refused p a Span h = h.1 p
  not_refused p a (TrayNumber i) h = first_none h.2 a.numbered
  not_refused p a (TrayRepeated i) h = first_none h.3 a.new
  not_refused p a (TrayBeyond i) h = first_none h.4 a.blank
  not_refused p a NoSuchTurn h = h

  one_fault : (f g : Fault) → Refused t least n span xs f → Refused t least n span xs g → f ≡ g
  one_fault TrayCount TrayCount h e = refl
  one_fault TrayCount Span h e = absurd (h e.0)
  one_fault TrayCount (TrayNumber j) h e = absurd (h e.0)
  one_fault TrayCount (TrayRepeated j) h e = absurd (h e.0)
  one_fault TrayCount (TrayBeyond j) h e = absurd (h e.0)
  one_fault TrayCount NoSuchTurn h e = absurd e
  one_fault Span TrayCount h e = absurd (e h.0)
  one_fault Span Span h e = refl
  one_fault Span (TrayNumber j) h e = absurd (h.1 e.1)
  one_fault Span (TrayRepeated j) h e = absurd (h.1 e.1)
  one_fault Span (TrayBeyond j) h e = absurd (h.1 e.1)
  one_fault Span NoSuchTurn h e = absurd e
  one_fault (TrayNumber i) TrayCount h e = absurd (e h.0)
  one_fault (TrayNumber i) Span h e = absurd (e.1 h.1)
  one_fault (TrayNumber i) (TrayNumber j) h e = ap TrayNumber (first_one h.2 e.2)
  one_fault (TrayNumber i) (TrayRepeated j) h e = absurd (first_none h.2 e.2)
  one_fault (TrayNumber i) (TrayBeyond j) h e = absurd (first_none h.2 e.2)
  one_fault (TrayNumber i) NoSuchTurn h e = absurd e
  one_fault (TrayRepeated i) TrayCount h e = absurd (e h.0)
  one_fault (TrayRepeated i) Span h e = absurd (e.1 h.1)
  one_fault (TrayRepeated i) (TrayNumber j) h e = absurd (first_none e.2 h.2)
  one_fault (TrayRepeated i) (TrayRepeated j) h e = ap TrayRepeated (first_one h.3 e.3)
  one_fault (TrayRepeated i) (TrayBeyond j) h e = absurd (first_none h.3 e.3)
  one_fault (TrayRepeated i) NoSuchTurn h e = absurd e
  one_fault (TrayBeyond i) TrayCount h e = absurd (e h.0)
  one_fault (TrayBeyond i) Span h e = absurd (e.1 h.1)
  one_fault (TrayBeyond i) (TrayNumber j) h e = absurd (first_none e.2 h.2)
  one_fault (TrayBeyond i) (TrayRepeated j) h e = absurd (first_none e.3 h.3)
  one_fault (TrayBeyond i) (TrayBeyond j) h e = ap TrayBeyond (first_one h.4 e.4)
  one_fault (TrayBeyond i) NoSuchTurn h e = absurd e
  one_fault NoSuchTurn g h e = absurd h

pub one_answer : {A : Type 0} (t : TrayForm A) → OneAnswer t
one_answer t least n span xs = (not_refused t least n span xs, one_fault t least n span xs)
