use Rattle.std.specs.Prelude.{◌≡◌, ℕ, ◌≤◌, refl}
use Rattle.std.proofs.Common.{ap, arith}
use Rattle.trays.specs.Arranged.{same_arrangement}
use Rattle.trays.specs.declared.tray.Tray.{Ghosts}
use Rattle.trays.proofs.KindFacts.{KindFacts}
use Rattle.trays.proofs.Permutations.{first_in_order}
use Rattle.trays.proofs.Blocks.{block_move, block_exchange}
use Rattle.towers.specs.declared.tower.Tower.{Tower}
use Rattle.towers.specs.Towers.{held, mirrored, permuted, refitted, tower, turn_moves}

module _ {A : Type 0} {b : Ghosts A} where
  -- how many trays, which no turn changes
  abbrev pub count : Tower A b → ℕ
  count s = s.arrangement.n

  -- towers with the same trays are the same
  pub same_tower : (s t : Tower A b) → count s ≡ count t → s.arrangement.trays ≡ t.arrangement.trays → s ≡ t
  same_tower s t p q = λ i. record { arrangement = same_arrangement s.arrangement t.arrangement p q i }

  -- a tower is fixed by what it holds
  pub held_fixed : (s t : Tower A b) → held s ≡ held t → s ≡ t
  held_fixed s t e = same_tower s t (ap (λ h. h.count) e) (ap (λ h. h.trays) e)

  unfoldable pub tower_kind : (low : ℕ) → 1 ≤ low → KindFacts b.form b.regular (tower {b = b} low) mirrored count
  tower_kind low from = record {
    trays = λ s. s.arrangement.trays;
    count = λ n. n;
    most = λ s. s.arrangement.most;
    permuted = permuted;
    same = same_tower;
    refitted = λ s ys p. (refitted s ys p, refl, refl);
    range = λ s t e. (refl, e);
    from_one = λ s. from;
    to_highest = λ s. let m = s.arrangement.most in omega arith;
    move = block_move;
    exchange = λ s k. block_exchange s.arrangement.n k;
    after_base = λ s k. refl;
    after_trays = turn_moves;
    home = λ s. let m = s.arrangement.most in let l = (permuted s).long in first_in_order b.form b.regular s.arrangement.n s.arrangement.trays (omega arith);
    mirror_base = λ s. refl;
    mirror_trays = λ s. refl;
  }
