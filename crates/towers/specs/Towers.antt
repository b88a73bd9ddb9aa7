use Rattle.std.specs.Prelude.{ℕ, min, List, take, None}
use Rattle.std.proofs.Common.{arith}
use Rattle.machine.specs.Meaning.{Meaning}
use Rattle.reversal.specs.Reversed.{flipped}
use Rattle.trays.specs.Permutation.{in_order, inverse}
use Rattle.trays.specs.Sides.{turned_over}
use Rattle.trays.specs.Settable.{Holding}
use Rattle.trays.specs.declared.tray.Tray.{Ghosts}
use Rattle.trays.proofs.Exchange.{Moved, moved_permutation}
use Rattle.trays.proofs.Inverses.{inverse_permutation}
use Rattle.trays.proofs.Permutations.{Permutation, from_test, to_test}
use Rattle.trays.proofs.Blocks.{block_move, block_exchange, block_moved}
use Rattle.towers.specs.declared.tower.Tower.{Tower}

module _ {A : Type 0} {b : Ghosts A} where
  -- The trays of a tower are the numbers 1 to n, each once.
  pub permuted : (s : Tower A b) → Permutation b.form s.arrangement.n s.arrangement.trays
  permuted s = from_test b.form b.regular s.arrangement.n s.arrangement.trays s.arrangement.each_once

  -- The tower with these trays in place of its own.
  abbrev pub refitted : (s : Tower A b) (ys : List A) → Permutation b.form s.arrangement.n ys → Tower A b
  refitted s ys p =
      record {
        arrangement = record { n = s.arrangement.n; trays = ys; least = s.arrangement.least; most = s.arrangement.most; each_once = to_test b.form b.regular s.arrangement.n ys p };
      }

  -- how many trays turn k turns round: k, or all where there are fewer
  abbrev pub block : Tower A b → ℕ → ℕ
  block s k = min k s.arrangement.n

  -- the trays after turn k
  abbrev pub flipped_over : Tower A b → ℕ → List A
  flipped_over s k = turned_over b.form (block s k) (flipped (block s k) s.arrangement.trays)

  -- Turn k moves the trays as `block_move` says.
  pub turn_moves : (s : Tower A b) (k : ℕ) → Moved b.form (block_move s.arrangement.n k) s.arrangement.trays (flipped_over s k)
  turn_moves s k =
      let m = s.arrangement.most in
      let l = (permuted s).long in
      block_moved b.form b.regular s.arrangement.n k s.arrangement.trays (omega arith)

  -- The tower with its first k trays turned round, and over where they have sides.
  abbrev pub turned : Tower A b → ℕ → Tower A b
  turned s k =
      refitted s (flipped_over s k) (moved_permutation b.form b.regular s.arrangement.n (block_move s.arrangement.n k) (block_exchange s.arrangement.n k) s.arrangement.trays (flipped_over s k) (turn_moves s k) (permuted s))

  -- What a tower means whose lowest turn is `low`: turn k, from there to n, turns the block of the first k trays round, and over where they have sides; home is 1 to n rising from the top, each as it stands at home.
  abbrev pub tower : ℕ → Meaning (Tower A b)
  tower low = record { lowest = λ s. low; highest = λ s. s.arrangement.n; after = turned; home = λ s. in_order b.form (take s.arrangement.n s.arrangement.trays) }

  -- The dual: where place i holds tray j, place j holds tray i, on the same side.
  abbrev pub mirrored : Tower A b → Tower A b
  mirrored s = refitted s (inverse b.form s.arrangement.n s.arrangement.trays) (inverse_permutation b.form b.regular s.arrangement.n s.arrangement.trays (permuted s) s.arrangement.most)

  -- What the tower holds.
  abbrev pub held : Tower A b → Holding A
  held s = record { count = s.arrangement.n; span = None; trays = s.arrangement.trays }
