use Rattle.std.specs.Prelude.{ℕ, ◌-◌, ◌<◌, min, List, take, Some}
use Rattle.std.proofs.Common.{arith}
use Rattle.machine.specs.Meaning.{Meaning}
use Rattle.trays.specs.Form.{number_tray, number_regular}
use Rattle.trays.specs.Permutation.{in_order, inverse}
use Rattle.trays.specs.Run.{run_turned}
use Rattle.trays.specs.Settable.{Holding}
use Rattle.trays.proofs.Exchange.{Exchange, Moved, moved_permutation}
use Rattle.trays.proofs.Inverses.{inverse_permutation}
use Rattle.trays.proofs.Permutations.{Permutation, from_test, to_test}
use Rattle.trays.proofs.Runs.{run_move, run_exchange, run_moved}
use Rattle.ring.specs.declared.tray_ring.TrayRing.{TrayRing}

-- `towers/specs/Towers.antt` has the same for a tower, whose struct has no span and no bounds on it.

-- The trays of a ring are the numbers 1 to n, each once.
pub permuted : (s : TrayRing) → Permutation number_tray s.arrangement.n s.arrangement.trays
permuted s = from_test number_tray number_regular s.arrangement.n s.arrangement.trays s.arrangement.each_once

-- The ring with these trays in place of its own.
abbrev pub refitted : (s : TrayRing) (ys : List ℕ) → Permutation number_tray s.arrangement.n ys → TrayRing
refitted s ys p = record {
  arrangement = record { n = s.arrangement.n; trays = ys; least = s.arrangement.least; most = s.arrangement.most; each_once = to_test number_tray number_regular s.arrangement.n ys p };
  span = s.span;
  least = s.least;
  span_least = s.span_least;
  span_most = s.span_most;
}

-- The trays once the run of `span` places from this place on, counted from 0, is turned round.
abbrev pub run_of : TrayRing → ℕ → List ℕ
run_of s from = run_turned number_tray s.arrangement.n s.span from s.arrangement.trays

-- where the run of turn p begins: at place p, or at the last where there are fewer
abbrev pub start : ℕ → ℕ → ℕ
start n p = min (p - 1) (n - 1)

-- That place is one of the ring's.
pub start_within : (s : TrayRing) (p : ℕ) → start s.arrangement.n p < s.arrangement.n
start_within s p = let l = s.least in omega arith

-- Turn p exchanges places.
pub turn_exchange : (s : TrayRing) (p : ℕ) → Exchange s.arrangement.n (run_move s.arrangement.n (start s.arrangement.n p) (start_within s p) s.span s.span_most)
turn_exchange s p = run_exchange s.arrangement.n (start s.arrangement.n p) (start_within s p) s.span s.span_most

-- It moves the trays by that exchange.
pub turn_moves : (s : TrayRing) (p : ℕ) → Moved number_tray (run_move s.arrangement.n (start s.arrangement.n p) (start_within s p) s.span s.span_most) s.arrangement.trays (run_of s (start s.arrangement.n p))
turn_moves s p = run_moved s.arrangement.n (start s.arrangement.n p) (start_within s p) s.span s.span_most number_tray s.arrangement.trays (permuted s).long s.arrangement.most number_regular

-- The ring with the run that begins at place p turned round.
abbrev pub turned : TrayRing → ℕ → TrayRing
turned s p =
    refitted s (run_of s (start s.arrangement.n p)) (moved_permutation number_tray number_regular s.arrangement.n (run_move s.arrangement.n (start s.arrangement.n p) (start_within s p) s.span s.span_most) (turn_exchange s p) s.arrangement.trays (run_of s (start s.arrangement.n p)) (turn_moves s p) (permuted s))

-- What a ring means: turn p, from 1 to n, turns round the trays at `span` places from place p on, counted round; home is tray i at place i.
abbrev pub ring : Meaning TrayRing
ring = record { lowest = λ s. 1; highest = λ s. s.arrangement.n; after = turned; home = λ s. in_order number_tray (take s.arrangement.n s.arrangement.trays) }

-- The dual: where place i holds tray j, place j holds tray i; the span is the same.
abbrev pub mirrored : TrayRing → TrayRing
mirrored s = refitted s (inverse number_tray s.arrangement.n s.arrangement.trays) (inverse_permutation number_tray number_regular s.arrangement.n s.arrangement.trays (permuted s) s.arrangement.most)

-- What the ring holds.
abbrev pub held : TrayRing → Holding ℕ
held s = record { count = s.arrangement.n; span = Some s.span; trays = s.arrangement.trays }
