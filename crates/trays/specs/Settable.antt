use Rattle.std.specs.Prelude.{◌≡◌, ℕ, ◌<◌, ◌≤◌, List, map, Some, None, Ok, Err, Option, Result, ⊤, ◌≢◌}
use Rattle.machine.specs.declared.fault.Fault.{Fault}
use Rattle.machine.specs.declared.fault.Fault.TheVariants.{TrayCount, Span, TrayNumber, TrayRepeated, TrayBeyond, NoSuchTurn}
use Rattle.trays.specs.declared.arrangement.TheConstants.{MOST_TRAYS}
use Rattle.trays.specs.declared.setup.Setup.{Setup}
use Rattle.trays.specs.Form.{TrayForm, number_at, number_tray, tray_at}

-- The rules for setting a machine of n trays. A place counts from 0.

-- the number of trays is from the kind's least to `MOST_TRAYS`
abbrev pub Counted : ℕ → ℕ → Type 0
Counted least n = (least ≤ n) × (n ≤ MOST_TRAYS)

-- a span, where the kind has one, is from 2 to n
abbrev pub Spanned : ℕ → Option ℕ → Type 0
Spanned n None = ⊤
Spanned n (Some k) = (2 ≤ k) × (k ≤ n)

-- the number at place i, of the numbers f by place, is from 1 to n
abbrev pub Numbered : ℕ → (ℕ → ℕ) → ℕ → Type 0
Numbered n f i = (1 ≤ f i) × (f i ≤ n)

-- the number at place i stands at no earlier place
abbrev pub New : (ℕ → ℕ) → ℕ → Type 0
New f i = (k : ℕ) → k < i → f k ≢ f i

-- number v stands at one of the first n places
pub record Stands (n : ℕ) (f : ℕ → ℕ) (v : ℕ) : Type 0 where
  pub place : ℕ
  pub within : place < n
  pub there : f place ≡ v

-- each number from 1 to n stands at one of the first n places
abbrev pub EachStands : ℕ → (ℕ → ℕ) → Type 0
EachStands n f = (v : ℕ) → 1 ≤ v → v ≤ n → Stands n f v

-- there is no tray at place i
abbrev pub Blank : {A : Type 0} → TrayForm A → List A → ℕ → Type 0
Blank f xs i = tray_at f xs i ≡ f.upright 0

-- P at each place from low on and before high
abbrev pub Each : (ℕ → Type 0) → ℕ → ℕ → Type 0
Each P low high = (k : ℕ) → low ≤ k → k < high → P k

-- i is the first place from low on and before high without P
pub record First (P : ℕ → Type 0) (low high i : ℕ) : Type 0 where
  pub from : low ≤ i
  pub to : i < high
  pub fails : P i → ⊥
  pub before : Each P low i

-- the first place from low on and before high without P, or none where each of them has P
abbrev pub Found : (ℕ → Type 0) → ℕ → ℕ → Option ℕ → Type 0
Found P low high None = Each P low high
Found P low high (Some i) = First P low high i

-- Every rule for the trays is kept.
pub record Accepted {A : Type 0} (f : TrayForm A) (least n : ℕ) (xs : List A) : Type 0 where
  pub counted : Counted least n
  pub numbered : Each (Numbered n (number_at f xs)) 0 n
  pub new : Each (New (number_at f xs)) 0 n
  pub blank : Each (Blank f xs) n MOST_TRAYS

-- What is accepted lacks no number.
abbrev pub LacksNone : {A : Type 0} → TrayForm A → Type 0
LacksNone {A} f = (least n : ℕ) (xs : List A) → Accepted f least n xs → EachStands n (number_at f xs)

-- Why a setting is refused: the first rule that is broken, and the first place that breaks it.
abbrev pub Refused : {A : Type 0} → TrayForm A → ℕ → ℕ → Option ℕ → List A → Fault → Type 0
Refused f least n span xs TrayCount = Counted least n → ⊥
Refused f least n span xs Span = Counted least n × (Spanned n span → ⊥)
Refused f least n span xs (TrayNumber i) = Counted least n × Spanned n span × First (Numbered n (number_at f xs)) 0 n i
Refused f least n span xs (TrayRepeated i) = Counted least n × Spanned n span × Each (Numbered n (number_at f xs)) 0 n × First (New (number_at f xs)) 0 n i
Refused f least n span xs (TrayBeyond i) =
    Counted least n × Spanned n span × Each (Numbered n (number_at f xs)) 0 n × Each (New (number_at f xs)) 0 n × First (Blank f xs) n MOST_TRAYS i
Refused f least n span xs NoSuchTurn = ⊥

-- The rules leave one answer: what is accepted is refused by nothing, and what is refused has one fault.
abbrev pub OneAnswer : {A : Type 0} → TrayForm A → Type 0
OneAnswer {A} t = (least n : ℕ) (span : Option ℕ) (xs : List A) → (Spanned n span → Accepted t least n xs → (f : Fault) → Refused t least n span xs f → ⊥) × ((f g : Fault) → Refused t least n span xs f → Refused t least n span xs g → f ≡ g)

-- What a machine holds: how many trays, a span where the kind has one, and what stands at each place.
pub record Holding (A : Type 0) : Type 0 where
  pub count : ℕ
  pub span : Option ℕ
  pub trays : List A

-- What is to be held by a machine that is set so: each byte stands for a tray.
abbrev pub holding_of : {A S : Type 0} → TrayForm A → (S → Option ℕ) → Setup S → Holding A
holding_of f spanning setup = record { count = setup.n; span = spanning setup.span; trays = map f.read setup.bytes }

-- What a tower is to hold that is set from n and these bytes, and a ring that also has a span.
abbrev pub in_tower : {A : Type 0} → TrayForm A → ℕ → List ℕ → Holding A
in_tower f n bytes = record { count = n; span = None; trays = map f.read bytes }

abbrev pub in_ring : ℕ → ℕ → List ℕ → Holding ℕ
in_ring n span bytes = record { count = n; span = Some span; trays = map number_tray.read bytes }

-- Every rule for setting a machine to hold this is kept.
abbrev pub CanHold : {A : Type 0} → TrayForm A → ℕ → Holding A → Type 0
CanHold f least want = Spanned want.count want.span × Accepted f least want.count want.trays

-- A machine that holds this is set as wanted: every rule is kept for what is wanted, and this is held.
pub record IsSetTo {A : Type 0} (f : TrayForm A) (least : ℕ) (want held : Holding A) : Type 0 where
  pub spanned : Spanned want.count want.span
  pub accepted : Accepted f least want.count want.trays
  pub count : held.count ≡ want.count
  pub span : held.span ≡ want.span
  pub trays : held.trays ≡ want.trays

-- What setting a machine to hold this answers and leaves. Accepted: the machine holds it.
-- Refused: why, and the machine is as it was.
abbrev pub Sets : {M A U : Type 0} → TrayForm A → ℕ → (M → Holding A) → M → Holding A → Result U Fault → M → Type 0
Sets f least holding before want (Ok _) after = IsSetTo f least want (holding after)
Sets f least holding before want (Err fault) after = Refused f least want.count want.span want.trays fault × (after ≡ before)
