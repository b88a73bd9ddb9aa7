use Rattle.std.proofs.Common.{◌≡◌, ℕ, ◌-◌, ◌≤◌, IsTrue, List, sym, refl, ap, ◌∙◌, subst, arith}
use Rattle.trays.specs.Form.{number_tray}
use Rattle.trays.specs.Permutation.{permutation}
use Rattle.ring.specs.declared.tray_ring.TrayRing.{TrayRing}
use Rattle.ring.specs.Ring.{run_of, start, turned}
use Rattle.ring.specs.Laws.{same_ring}
use Rattle.ring.proofs.tray_ring.TrayRing.spun.Goals as goal

turns : (s : TrayRing) (p : ℕ) (ys : List ℕ) → 1 ≤ p → p ≤ s.arrangement.n → ys ≡ run_of s (p - 1) → ys ≡ (turned s p).arrangement.trays
turns s p ys low high e = let at : p - 1 ≡ start s.arrangement.n p = omega arith in e ∙ ap (run_of s) at

pub invariant_of-result : goal.invariant_of-result
invariant_of-result c =
    let s = c.args.self.now in
    let e = turns s c.args.p c.run_turned.result c.requires.low c.requires.high c.run_turned.ensures.value in
    record {
      least = s.arrangement.least;
      most = s.arrangement.most;
      each_once = subst (λ (l : List ℕ). IsTrue (permutation number_tray s.arrangement.n l)) (sym e) (turned s c.args.p).arrangement.each_once;
    }

pub returns : goal.returns
returns c =
    let s = c.args.self.now in
    same_ring _ (turned s c.args.p) refl (turns s c.args.p c.run_turned.result c.requires.low c.requires.high c.run_turned.ensures.value)
