use Rattle.std.proofs.Common.{◌≡◌, ℕ, zero, suc, ◌+◌, ◌<◌, ◌≤◌, min, List, drop, length, length-append, ◌++◌, Some, None, Option, Ok, Err, Result, slice_index, refl, sym, ap, ap₂, subst, ◌∙◌, arith, ⊎_elim}
use Rattle.std.proofs.lemmas.Bool.{cases_lt}
use Rattle.ring.specs.Laws.{same_ring}
use Rattle.ring.specs.Ring as rings
use Rattle.planner.specs.declared.answer.Answer.{Answer}
use Rattle.planner.specs.declared.answer.Answer.TheVariants.{Accepted}
use Rattle.planner.specs.declared.call.Call.{Call}
use Rattle.planner.specs.declared.call.Call.TheVariants as call
use Rattle.tape.specs.Places.{fault_at, grant_at, trays_at}
use Rattle.tape.specs.Commands.{width}
use Rattle.tape.specs.Replies.{refusal_bytes, reply_bytes}
use Rattle.tape.specs.declared.command.Command.{Command}
use Rattle.tape.specs.declared.command.Command.TheVariants.{Plain, Sided, Ring, Work, Go, Fetch, Drop}
use Rattle.tape.specs.declared.fault.Fault.{Fault}
use Rattle.tape.specs.declared.fault.Fault.TheVariants.{Machine, Planner}
use Rattle.machine.specs.declared.fault.Fault.TheVariants as machine
use Rattle.planner.specs.declared.fault.Fault.TheVariants as planner
use Rattle.towers.specs.Laws.{same_tower}
use Rattle.towers.specs.Towers as towers
use Rattle.towers.specs.Tray.{sided_tray}
use Rattle.trays.specs.Form.{number_tray}
use Rattle.std.specs.Int.{w32, from_be_bytes}
use Rattle.console.specs.Calls.{call_of}
use Rattle.console.specs.Commanded.{Answered, AskedOf, ring_load, tower_load}
use Rattle.console.specs.Histories.{History, none, plain_task, sided_task, ring_task, busy}
use Rattle.gaps.specs.Kinds.{plain_estimate, sided_estimate, ring_estimate}
use Rattle.ring.specs.Ring.{ring}
use Rattle.towers.specs.Kinds.{plain, sided}
use Rattle.console.specs.Loads.{Loads}
use Rattle.console.specs.declared.console.TheConstants.{LONGEST_TAPE}
use Rattle.console.specs.Tapes.{After, ComesOf, LongAlike, OneReply, OneStep, Step, placed_reply}
use Rattle.console.proofs.AskedOnce.{asked_once}
use Rattle.console.proofs.LoadsOnce.{accepted_load, loads_once}
use Rattle.console.proofs.ReadsOnce.{SameCommand, SameReading, reads_once}

-- The rules leave one reply.

-- The same command has its operands at the same places.
same_shape : (c d : Command) → SameCommand c d → (width c ≡ width d) × (trays_at c ≡ trays_at d) × (grant_at c ≡ grant_at d)
same_shape (Plain a) (Plain b) e = (refl, refl, refl)
same_shape (Sided a) (Sided b) e = (refl, refl, refl)
same_shape (Ring a) (Ring b) e = (refl, refl, refl)
same_shape (Work a) (Work b) e = (refl, refl, refl)
same_shape Go Go e = (refl, refl, refl)
same_shape Fetch Fetch e = (refl, refl, refl)
same_shape Drop Drop e = (refl, refl, refl)
same_shape c d e = absurd e

same_fault_at : (c d : Command) → SameCommand c d → (f : Fault) → fault_at c f ≡ fault_at d f
same_fault_at c d e (Machine (machine.TrayNumber i)) = ap (λ (n : ℕ). n + i) (same_shape c d e).1
same_fault_at c d e (Machine (machine.TrayRepeated i)) = ap (λ (n : ℕ). n + i) (same_shape c d e).1
same_fault_at c d e (Machine (machine.TrayBeyond i)) = ap (λ (n : ℕ). n + i) (same_shape c d e).1
same_fault_at c d e (Planner planner.Grant) = (same_shape c d e).2
same_fault_at c d e (Planner planner.GrantSum) = (same_shape c d e).2
same_fault_at c d e f = refl

-- The bytes of a reply, which depend on the sheet only where a plan is fetched.
abbrev bytes_of : ℕ → Command → Result Answer Fault → List ℕ → List ℕ
bytes_of place c r sheet = reply_bytes (placed_reply (record { command = c; place = place }) r) sheet

refused_bytes : (place : ℕ) (c d : Command) → SameCommand c d → (f : Fault) (v w : List ℕ) → bytes_of place c (Err f) v ≡ bytes_of place d (Err f) w
refused_bytes place c d e f v w = ap (λ (n : ℕ). refusal_bytes (record { fault = f; place = min 65535 (place + n) })) (same_fault_at c d e f)

same_bytes : (place : ℕ) (c d : Command) → SameCommand c d → (r : Result Answer Fault) (v w : List ℕ) → v ≡ w → bytes_of place c r v ≡ bytes_of place d r w
same_bytes place c d e (Ok a) v w is = ap (reply_bytes (Ok a)) is
same_bytes place c d e (Err f) v w is = refused_bytes place c d e f v w

load_bytes : (place : ℕ) (c d : Command) → SameCommand c d → (r : Result Answer Fault) → ((a : Answer) → r ≡ Ok a → a ≡ Accepted) → (v w : List ℕ) → bytes_of place c r v ≡ bytes_of place d r w
load_bytes place c d e (Ok a) is v w = subst (λ a. reply_bytes (Ok a) v ≡ reply_bytes (Ok a) w) (sym (is a refl)) refl
load_bytes place c d e (Err f) is v w = refused_bytes place c d e f v w

-- What comes of a command: the reply's bytes, and the history after it.
abbrev Same : ℕ → Command → Command → Result Answer Fault → Result Answer Fault → List ℕ → List ℕ → History → History → Type 0
Same place c d r q v w a b = (a ≡ b) × (bytes_of place c r v ≡ bytes_of place d q w)

loaded_bytes : (place : ℕ) (c d : Command) → SameCommand c d → (r q : Result Answer Fault) → r ≡ q → ((a : Answer) → r ≡ Ok a → a ≡ Accepted) → (v w : List ℕ) → bytes_of place c r v ≡ bytes_of place d q w
loaded_bytes place c d e r q is accepted v w = load_bytes place c d e r accepted v w ∙ ap (λ x. bytes_of place d x w) is

asked_of_once : (h : History) (call : (S : Type 0) → Call S) (r q : Result Answer Fault) (v w : List ℕ) (a b : History) → AskedOf h call r v a → AskedOf h call q w b → (r ≡ q) × (v ≡ w) × (a ≡ b)
asked_of_once none call r q v w a b x y = asked_once plain plain_estimate plain_task None (call _) r q v w a b x y
asked_of_once (plain_task t) call r q v w a b x y = asked_once plain plain_estimate plain_task (Some t) (call _) r q v w a b x y
asked_of_once (sided_task t) call r q v w a b x y = asked_once sided sided_estimate sided_task (Some t) (call _) r q v w a b x y
asked_of_once (ring_task t) call r q v w a b x y = asked_once ring ring_estimate ring_task (Some t) (call _) r q v w a b x y

asked_same : (place : ℕ) (c d : Command) → SameCommand c d → (h : History) (call : (S : Type 0) → Call S) (r q : Result Answer Fault) (v w : List ℕ) (a b : History) → AskedOf h call r v a → AskedOf h call q w b → Same place c d r q v w a b
asked_same place c d e h call r q v w a b x y =
    let one = asked_of_once h call r q v w a b x y in
    (one.2, same_bytes place c d e r v w one.1 ∙ ap (λ z. bytes_of place d z w) one.0)

answered_once : (place : ℕ) (h : History) (c d : Command) → SameCommand c d → (r q : Result Answer Fault) (v w : List ℕ) (a b : History) → Answered h c r v a → Answered h d q w b → Same place c d r q v w a b
answered_once place h (Plain m) (Plain n) e r q v w a b x y =
    let load = subst (λ xs. Loads (λ s. s) number_tray 1 towers.held plain_task (busy h) (slice_index xs 0) (tower_load number_tray xs) h q b) (sym e) y in
    let one = loads_once (λ s. s) number_tray 1 towers.held (λ s t p _ is. same_tower s t p is) plain_task (busy h) (slice_index m.now 0) (tower_load number_tray m.now) h r q a b x load in
    (one.1, loaded_bytes place (Plain m) (Plain n) e r q one.0 (accepted_load (λ s. s) number_tray 1 towers.held plain_task (busy h) (slice_index m.now 0) (tower_load number_tray m.now) h r a x) v w)
answered_once place h (Sided m) (Sided n) e r q v w a b x y =
    let load = subst (λ xs. Loads (λ s. s) sided_tray 1 towers.held sided_task (busy h) (slice_index xs 0) (tower_load sided_tray xs) h q b) (sym e) y in
    let one = loads_once (λ s. s) sided_tray 1 towers.held (λ s t p _ is. same_tower s t p is) sided_task (busy h) (slice_index m.now 0) (tower_load sided_tray m.now) h r q a b x load in
    (one.1, loaded_bytes place (Sided m) (Sided n) e r q one.0 (accepted_load (λ s. s) sided_tray 1 towers.held sided_task (busy h) (slice_index m.now 0) (tower_load sided_tray m.now) h r a x) v w)
answered_once place h (Ring m) (Ring n) e r q v w a b x y =
    let load = subst (λ xs. Loads (λ s. s) number_tray 4 rings.held ring_task (busy h) (slice_index xs 0) (ring_load xs) h q b) (sym e) y in
    let one = loads_once (λ s. s) number_tray 4 rings.held (λ s t p k is. same_ring s t (ap₂ (λ (n m : ℕ). (n, m)) p (cc k)) is) ring_task (busy h) (slice_index m.now 0) (ring_load m.now) h r q a b x load in
    (one.1, loaded_bytes place (Ring m) (Ring n) e r q one.0 (accepted_load (λ s. s) number_tray 4 rings.held ring_task (busy h) (slice_index m.now 0) (ring_load m.now) h r a x) v w)
answered_once place h (Work m) (Work n) e r q v w a b x y =
    asked_same place (Work m) (Work n) e h (λ _. call_of (Work m)) r q v w a b x (subst (λ xs. AskedOf h (λ _. call.Work (from_be_bytes w32 xs)) q w b) (sym e) y)
answered_once place h Go Go e r q v w a b x y = asked_same place Go Go e h (λ _. call_of Go) r q v w a b x y
answered_once place h Fetch Fetch e r q v w a b x y = asked_same place Fetch Fetch e h (λ _. call.Fetch) r q v w a b x y
answered_once place h Drop Drop e r q v w a b x y = asked_same place Drop Drop e h (λ _. call.Drop) r q v w a b x y
answered_once place h c d e r q v w a b x y = absurd e

-- What comes of the tape at a place: the reply's bytes, the next place and the history after it.
abbrev SameStep : List ℕ → List ℕ → ℕ → ℕ → History → History → Type 0
SameStep xs ys p q a b = (xs ≡ ys) × (p ≡ q) × (a ≡ b)

comes_once : (tape : List ℕ) (place : ℕ) (h : History) (m n : Result (Option Command) Fault) → SameReading m n → (xs ys : List ℕ) (p q : ℕ) (a b : History) → ComesOf tape place h m xs p a → ComesOf tape place h n ys q b → SameStep xs ys p q a b
comes_once tape place h (Ok None) (Ok None) e xs ys p q a b x y = (x.0 ∙ sym y.0, x.1 ∙ sym y.1, x.2 ∙ sym y.2)
comes_once tape place h (Ok (Some c)) (Ok (Some d)) e xs ys p q a b x y =
    let one = answered_once place h c d e x.reply y.reply x.sheet y.sheet a b x.answered y.answered in
    (x.bytes_are ∙ one.1 ∙ sym y.bytes_are, x.next_is ∙ ap (λ (n : ℕ). place + 1 + n) (same_shape c d e).0 ∙ sym y.next_is, one.0)
comes_once tape place h (Err f) (Err g) e xs ys p q a b x y =
    (x.0 ∙ ap (λ f. refusal_bytes (record { fault = f; place = place })) e ∙ sym y.0, x.1 ∙ sym y.1, x.2 ∙ sym y.2)
comes_once tape place h m n e xs ys p q a b x y = absurd e

pub step_once : OneStep
step_once tape place h xs ys p q a b x y = comes_once tape place h x.read y.read (reads_once (drop place tape) x.read y.read x.reads y.reads) xs ys p q a b x.comes y.comes

-- After so many commands the tape is at one place, with one history and one row of replies.
after_once : (tape : List ℕ) (n : ℕ) (p q : ℕ) (a b : History) (xs ys : List ℕ) → After tape n p a xs → After tape n q b ys → SameStep xs ys p q a b
after_once tape zero p q a b xs ys x y = (x.2 ∙ sym y.2, x.0 ∙ sym y.0, x.1 ∙ sym y.1)
after_once tape (suc n) p q a b xs ys x y =
    let before = after_once tape n x.place y.place x.history y.history x.so_far y.so_far x.before y.before in
    let step = subst (λ h. Step tape x.place h y.bytes q b) (sym before.2) (subst (λ k. Step tape k y.history y.bytes q b) (sym before.1) y.step) in
    let one = step_once tape x.place x.history x.bytes y.bytes p q a b x.step step in
    (x.replies_are ∙ ap₂ (λ (v w : List ℕ). v ++ w) before.0 one.0 ∙ sym y.replies_are, one.1, one.2)

-- Where more commands were run, one stood on the tape after fewer of them.
record Left (tape : List ℕ) (n : ℕ) : Type 0 where
  place : ℕ
  history : History
  replies : List ℕ
  after : After tape n place history replies
  on_tape : place < length tape

left_after : (tape : List ℕ) (n m : ℕ) (p : ℕ) (a : History) (xs : List ℕ) → n < m → After tape m p a xs → Left tape n
left_after tape n zero p a xs less x = absurd (omega arith)
left_after tape n (suc m) p a xs less x =
    ⊎_elim
    (λ (more : n < m). left_after tape n m x.place x.history x.so_far more x.before)
    (λ (last : m ≤ n).
    let same : m ≡ n = omega arith in
    record { place = x.place; history = x.history; replies = x.so_far; after = subst (λ k. After tape k x.place x.history x.so_far) same x.before; on_tape = x.on_tape })
    (cases_lt n m)

-- At the tape's end no command is left.
not_left : (tape : List ℕ) (n : ℕ) (h : History) (xs : List ℕ) → After tape n (length tape) h xs → Left tape n → ⊥
not_left tape n h xs x l =
    let same = (after_once tape n (length tape) l.place h l.history xs l.replies x l.after).1 in
    let on_tape = l.on_tape in
    omega arith

ends_once : (tape : List ℕ) (n m : ℕ) (h k : History) (xs ys : List ℕ) → After tape n (length tape) h xs → After tape m (length tape) k ys → xs ≡ ys
ends_once tape n m h k xs ys x y =
    ⊎_elim
    (λ (less : n < m). absurd (not_left tape n h xs x (left_after tape n m (length tape) k ys less y)))
    (λ (no_less : m ≤ n).
    ⊎_elim
    (λ (more : m < n). absurd (not_left tape m k ys y (left_after tape m n (length tape) h xs more x)))
    (λ (no_more : n ≤ m).
    let same : m ≡ n = omega arith in
    (after_once tape n (length tape) (length tape) h k xs ys x (subst (λ i. After tape i (length tape) k ys) same y)).0)
    (cases_lt m n))
    (cases_lt n m)

pub one_reply : OneReply
one_reply tape xs ys x y =
    ⊎_elim
    (λ (long : LONGEST_TAPE < length tape). x.too_long long ∙ sym (y.too_long long))
    (λ (fits : length tape ≤ LONGEST_TAPE).
    let a = x.to_end fits in
    let b = y.to_end fits in
    ends_once tape a.0 b.0 a.1 b.1 xs ys a.2 b.2)
    (cases_lt LONGEST_TAPE (length tape))

pub long_alike : LongAlike
long_alike tape more replies long x =
    let both = length-append tape more in
    record { too_long = λ _. x.too_long long; to_end = λ fits. absurd (omega arith) }
