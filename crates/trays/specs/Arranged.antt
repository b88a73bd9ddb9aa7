use Rattle.std.specs.Prelude.{◌≡◌, ℕ, ◌≤◌, true, IsTrue, Option}
use mathlib.Core.Bool.{Bool-set}
use mathlib.Core.HLevel.{is_prop→PathP}
use Rattle.std.proofs.Math.Bridge.{le_prop}
use Rattle.trays.specs.declared.arrangement.TheConstants.{MOST_TRAYS}
use Rattle.trays.specs.Permutation.{permutation}
use Rattle.trays.specs.Settable.{Holding}
use Rattle.trays.specs.declared.arrangement.Arrangement.{Arrangement}
use Rattle.trays.specs.declared.tray.Tray.{Ghosts}

-- What a machine of this arrangement holds, with this span.
abbrev pub arranged : {A : Type 0} {b : Ghosts A} → Option ℕ → Arrangement A b → Holding A
arranged span s = record { count = s.n; span = span; trays = s.trays }

-- arrangements with the same trays are the same
pub same_arrangement : {A : Type 0} {b : Ghosts A} (s t : Arrangement A b) → s.n ≡ t.n → s.trays ≡ t.trays → s ≡ t
same_arrangement {A} {b} s t p q = λ i. record {
  n = p i;
  trays = q i;
  least = is_prop→PathP (λ i. 1 ≤ p i) (λ i. le_prop) s.least t.least i;
  most = is_prop→PathP (λ i. p i ≤ MOST_TRAYS) (λ i. le_prop) s.most t.most i;
  each_once = is_prop→PathP (λ i. IsTrue (permutation b.form (p i) (q i))) (λ i. Bool-set (permutation b.form (p i) (q i)) true) s.each_once t.each_once i;
}
