use Rattle.std.specs.Prelude.{◌≡◌, ℕ, ◌<◌, ◌⊎◌, List, [], map, Some, None, Option, Ok, Err, Result, ◌≢◌, slice_index}
use Rattle.std.specs.Option.{unwrap_or}
use Rattle.gaps.specs.Counts.{gaps, breakpoints, half_gaps}
use Rattle.machine.specs.declared.fault.Fault.{Fault}
use Rattle.ring.specs.Ring as rings
use Rattle.towers.specs.Towers as towers
use Rattle.towers.specs.Tray.{sided_tray}
use Rattle.trays.specs.declared.kind.Kind.{Kind}
use Rattle.trays.specs.declared.kind.Kind.TheVariants as kind
use Rattle.text.specs.declared.word.Word.{Word}
use Rattle.text.specs.Lines.{Asked, Stuck, Unkept, Written}
use Rattle.text.specs.TrayCounts.{tray_count}
use Rattle.text.specs.Words.{HasWord, Words}
use Rattle.trays.specs.declared.arrangement.TheConstants.{MOST_TRAYS}
use Rattle.trays.specs.Form.{number_tray}
use Rattle.trays.specs.Settable.{CanHold, Refused, in_ring, in_tower}
use Rattle.outcome.specs.declared.failure.Failure.{Failure}
use Rattle.outcome.specs.declared.failure.Failure.TheVariants as failure
use Rattle.outcome.specs.declared.outcome.Outcome.{Outcome}
use Rattle.outcome.specs.declared.outcome.Outcome.TheVariants.{Plain, Sided, Ring}
use Rattle.outcome.specs.Completed.{AsksMemory, Attempted}

-- The bytes of these trays, with 0 after the last.
abbrev pub Bytes : List ℕ → List ℕ → Type 0
Bytes trays bytes = (k : ℕ) → k < MOST_TRAYS → slice_index bytes k ≡ slice_index trays k

-- Why no machine of this kind is set from n, this span and these bytes.
abbrev pub RefusedAs : Kind → ℕ → Option ℕ → List ℕ → Fault → Type 0
RefusedAs kind.Plain n span bytes fault = Refused number_tray 1 n None (map number_tray.read bytes) fault
RefusedAs kind.Sided n span bytes fault = Refused sided_tray 1 n None (map sided_tray.read bytes) fault
RefusedAs kind.Ring n span bytes fault = Refused number_tray 4 n (Some (unwrap_or span 0)) (map number_tray.read bytes) fault

-- Every rule for setting a machine of this kind from n, this span and these bytes is kept. Every line of a ring has a span, so the 0 is never taken.
abbrev pub CanBeSet : Kind → ℕ → Option ℕ → List ℕ → Type 0
CanBeSet kind.Plain n span bytes = CanHold number_tray 1 (in_tower number_tray n bytes)
CanBeSet kind.Sided n span bytes = CanHold sided_tray 1 (in_tower sided_tray n bytes)
CanBeSet kind.Ring n span bytes = CanHold number_tray 4 (in_ring n (unwrap_or span 0) bytes)

-- What is done for a machine of this kind, of n trays, with this span and these bytes, where this is asked of it.
abbrev pub Settled : Kind → ℕ → Option ℕ → List ℕ → Asked → Result Outcome Failure → Type 0
Settled k n span bytes asks (Ok (Plain w)) = (k ≡ kind.Plain) × Attempted k number_tray 1 towers.held (towers.tower 2) towers.mirrored (λ s. s) gaps (in_tower number_tray n bytes) asks (Ok w)
Settled k n span bytes asks (Ok (Sided w)) = (k ≡ kind.Sided) × Attempted k sided_tray 1 towers.held (towers.tower 1) towers.mirrored (λ s. s) breakpoints (in_tower sided_tray n bytes) asks (Ok w)
Settled k n span bytes asks (Ok (Ring w)) = (k ≡ kind.Ring) × Attempted k number_tray 4 rings.held rings.ring rings.mirrored (λ s. s) half_gaps (in_ring n (unwrap_or span 0) bytes) asks (Ok w)
Settled k n span bytes asks (Err (failure.Unexpected at expected)) = ⊥
Settled k n span bytes asks (Err (failure.Refused j fault)) = (j ≡ k) × RefusedAs k n span bytes fault
Settled k n span bytes asks (Err failure.NoMemory) = CanBeSet k n span bytes × AsksMemory asks

-- The words make a request, and this is done for it.
pub record Requested (ws : List Word) (o : Result Outcome Failure) : Type 0 where
  pub kind : Kind
  pub trays : List ℕ
  pub count : Option ℕ
  pub span : Option ℕ
  pub asks : Asked
  pub bytes : List ℕ
  pub asked : Written ws kind trays count span asks
  pub padded : Bytes trays bytes
  pub settled : Settled kind (tray_count trays count) span bytes asks o

-- What comes of the words of a line. No memory is answered only where a tray or a turn was to be kept, or for what is asked of a machine that can be set.
abbrev pub Replies : List Word → Result (Option Outcome) Failure → Type 0
Replies ws (Ok None) = ws ≡ []
Replies ws (Ok (Some o)) = Requested ws (Ok o)
Replies ws (Err (failure.Unexpected at expected)) = (ws ≢ []) × Stuck ws at expected
Replies ws (Err (failure.Refused k fault)) = Requested ws (Err (failure.Refused k fault))
Replies ws (Err failure.NoMemory) = (ws ≢ []) × (Unkept ws ⊎ Requested ws (Err failure.NoMemory))

-- What comes of a line. Its words ask for memory too, so no memory may be answered wherever it has a word.
abbrev pub Answers : List ℕ → Result (Option Outcome) Failure → Type 0
Answers line (Err failure.NoMemory) = HasWord line
Answers line r = (ws : List Word) × Words line ws × Replies ws r
