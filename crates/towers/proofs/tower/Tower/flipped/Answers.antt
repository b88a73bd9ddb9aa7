use Rattle.std.proofs.Common.{◌≡◌, ℕ, ◌≤◌, ◌++◌, min, map, true, IsTrue, List, take, drop, sym, refl, ap, ◌∙◌, subst, ap₂, arith}
use Rattle.reversal.specs.Reversed.{reversed_part}
use Rattle.trays.specs.declared.tray.Tray.{Ghosts}
use Rattle.trays.specs.Permutation.{permutation}
use Rattle.trays.specs.Sides.{turned_over}
use Rattle.trays.proofs.Blocks.{block_turned}
use Rattle.towers.specs.declared.tower.Tower.{Tower}
use Rattle.towers.specs.Laws.{count, same_tower}
use Rattle.towers.specs.Towers.{permuted, turned}
use Rattle.towers.proofs.tower.Tower.flipped.Goals as goal

-- the first k trays turned round and then over
turns : {A : Type 0} {b : Ghosts A} (s : Tower A b) (k : ℕ) (ys over : List A) → k ≤ count s → ys ≡ reversed_part 0 k s.arrangement.trays → over ≡ map (b.form.sided true) (take k ys) → over ++ drop k ys ≡ (turned s k).arrangement.trays
turns {A} {b} s k ys over le round is =
    let m = s.arrangement.most in
    let l = (permuted s).long in
    let same : k ≡ min k (count s) = omega arith in
    ap (λ (l : List A). l ++ drop k ys) is
    ∙ ap₂ (λ (j : ℕ) (l : List A). turned_over b.form j l) same (block_turned (count s) k s.arrangement.trays ys (omega arith) le round)

pub invariant_of-result : goal.invariant_of-result
invariant_of-result g c =
    let s = c.args.self.now in
    let e = turns s c.args.k c.reverse_part.new.items c.turn_over.new.trays c.requires c.reverse_part.ensures c.turn_over.ensures in
    record {
      least = s.arrangement.least;
      most = s.arrangement.most;
      each_once = subst (λ (l : List _). IsTrue (permutation g.T.Tray.form (count s) l)) (sym e) (turned s c.args.k).arrangement.each_once;
    }

pub returns : goal.returns
returns g c =
    let s = c.args.self.now in
    same_tower _ (turned s c.args.k) refl (turns s c.args.k c.reverse_part.new.items c.turn_over.new.trays c.requires c.reverse_part.ensures c.turn_over.ensures)
