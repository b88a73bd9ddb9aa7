use Rattle.std.proofs.Common.{◌≡◌, ℕ, List, [], ◌∷◌, ◌++◌, length-append, take, drop, Some, None, Option, Ok, Err, Result, refl, sym, ap, subst, ◌∙◌, arith}
use Rattle.std.specs.Bool.{⊤}
use Rattle.std.proofs.Math.Seq.{take-append_seam}
use Rattle.std.specs.List.{slice_index_or}
use Rattle.tape.specs.Commands.{StartsWith, Reads, Unreadable, letter_of, operands_of, width}
use Rattle.tape.specs.declared.command.Command.{Command}
use Rattle.tape.specs.declared.command.Command.TheVariants.{Plain, Sided, Ring, Work, Go, Fetch, Drop}
use Rattle.tape.specs.declared.fault.Fault.{Fault}
use Rattle.tape.specs.declared.fault.Fault.TheVariants.{UnknownCommand, OperandsCut}

-- What stands at the beginning of a tape is read in one way.

-- The same command with the same operands, wherever they lie in memory.
abbrev pub SameCommand : Command → Command → Type 0
SameCommand (Plain a) (Plain b) = a.now ≡ b.now
SameCommand (Sided a) (Sided b) = a.now ≡ b.now
SameCommand (Ring a) (Ring b) = a.now ≡ b.now
SameCommand (Work a) (Work b) = a.now ≡ b.now
SameCommand Go Go = ⊤
SameCommand Fetch Fetch = ⊤
SameCommand Drop Drop = ⊤
SameCommand c d = ⊥

same_by_bytes : (c d : Command) → letter_of c ≡ letter_of d → operands_of c ≡ operands_of d → SameCommand c d
same_by_bytes (Plain a) (Plain b) e f = f
same_by_bytes (Sided a) (Sided b) e f = f
same_by_bytes (Ring a) (Ring b) e f = f
same_by_bytes (Work a) (Work b) e f = f
same_by_bytes Go Go e f = tt
same_by_bytes Fetch Fetch e f = tt
same_by_bytes Drop Drop e f = tt
same_by_bytes c d e f = absurd (omega arith)

-- A letter has one width.
same_width : (c d : Command) → letter_of c ≡ letter_of d → width c ≡ width d
same_width (Plain a) (Plain b) e = refl
same_width (Sided a) (Sided b) e = refl
same_width (Ring a) (Ring b) e = refl
same_width (Work a) (Work b) e = refl
same_width Go Go e = refl
same_width Fetch Fetch e = refl
same_width Drop Drop e = refl
same_width c d e = absurd (omega arith)

begins_once : (t : List ℕ) (c d : Command) → StartsWith t c → StartsWith t d → SameCommand c d
begins_once t c d x y =
    let both = sym x.is ∙ y.is in
    let letters = ap (λ (xs : List ℕ). slice_index_or xs 0 0) both in
    let widths = same_width c d letters in
    let front = λ (e : Command) (z : StartsWith t e). sym (ap (λ (n : ℕ). take n (operands_of e ++ z.rest)) (sym z.whole) ∙ take-append_seam (operands_of e) z.rest) in
    same_by_bytes c d letters (front c x ∙ ap (take (width c)) (ap (drop 1) both) ∙ ap (λ (n : ℕ). take n (operands_of d ++ y.rest)) widths ∙ sym (front d y))

begins_readable : (t : List ℕ) (c : Command) (f : Fault) → StartsWith t c → Unreadable t f → ⊥
begins_readable t c UnknownCommand x u = subst (λ xs. Unreadable xs UnknownCommand) x.is u c refl
begins_readable t c OperandsCut x u =
    let cut = subst (λ xs. Unreadable xs OperandsCut) x.is u in
    let widths = same_width cut.0 c cut.1 in
    let less = cut.2 in
    let whole = x.whole in
    let long = length-append (operands_of c) x.rest in
    omega arith
begins_readable t c f x u = subst (λ xs. Unreadable xs f) x.is u

unreadable_once : (t : List ℕ) (f g : Fault) → Unreadable t f → Unreadable t g → f ≡ g
unreadable_once [] f g x y = absurd x
unreadable_once (letter ∷ rest) UnknownCommand UnknownCommand x y = refl
unreadable_once (letter ∷ rest) OperandsCut OperandsCut x y = refl
unreadable_once (letter ∷ rest) UnknownCommand OperandsCut x y = absurd (x y.0 y.1)
unreadable_once (letter ∷ rest) OperandsCut UnknownCommand x y = absurd (y x.0 x.1)
unreadable_once (letter ∷ rest) UnknownCommand g x y = absurd y
unreadable_once (letter ∷ rest) OperandsCut g x y = absurd y
unreadable_once (letter ∷ rest) f g x y = absurd x

abbrev pub SameReading : Result (Option Command) Fault → Result (Option Command) Fault → Type 0
SameReading (Ok None) (Ok None) = ⊤
SameReading (Ok (Some c)) (Ok (Some d)) = SameCommand c d
SameReading (Err f) (Err g) = f ≡ g
SameReading a b = ⊥

pub reads_once : (t : List ℕ) (a b : Result (Option Command) Fault) → Reads t a → Reads t b → SameReading a b
reads_once t (Ok None) (Ok None) x y = tt
reads_once t (Ok None) (Ok (Some d)) x y = absurd (cc (sym x ∙ y.is))
reads_once t (Ok (Some c)) (Ok None) x y = absurd (cc (sym y ∙ x.is))
reads_once t (Ok None) (Err g) x y = subst (λ xs. Unreadable xs g) x y
reads_once t (Err f) (Ok None) x y = subst (λ xs. Unreadable xs f) y x
reads_once t (Ok (Some c)) (Ok (Some d)) x y = begins_once t c d x y
reads_once t (Ok (Some c)) (Err g) x y = begins_readable t c g x y
reads_once t (Err f) (Ok (Some d)) x y = begins_readable t d f y x
reads_once t (Err f) (Err g) x y = unreadable_once t f g x y
