use Rattle.std.specs.Prelude.{◌≡◌, ℕ, ◌≤◌, false, refl}
use Rattle.std.specs.Option.{unwrap_or}
use Rattle.std.proofs.Common.{ap, arith}
use mathlib.Core.HLevel.{is_prop→PathP}
use Rattle.std.proofs.Math.Bridge.{le_prop}
use Rattle.trays.specs.Form.{number_tray, number_regular}
use Rattle.trays.specs.Arranged.{same_arrangement}
use Rattle.trays.specs.Run.{partner}
use Rattle.trays.proofs.KindFacts.{KindFacts}
use Rattle.trays.proofs.Permutations.{first_in_order}
use Rattle.ring.specs.declared.tray_ring.TrayRing.{TrayRing}
use Rattle.ring.specs.Ring.{held, mirrored, permuted, refitted, ring, start, turn_exchange, turn_moves}

-- what no turn changes
abbrev pub base : TrayRing → ℕ × ℕ
base s = (s.arrangement.n, s.span)

-- rings with the same span and trays are the same
pub same_ring : (s t : TrayRing) → base s ≡ base t → s.arrangement.trays ≡ t.arrangement.trays → s ≡ t
same_ring s t p q =
    let same = same_arrangement s.arrangement t.arrangement (ap (λ (b : ℕ × ℕ). b.0) p) q in
    λ i. record {
      arrangement = same i;
      span = (p i).1;
      least = is_prop→PathP (λ i. 4 ≤ (same i).n) (λ i. le_prop) s.least t.least i;
      span_least = is_prop→PathP (λ i. 2 ≤ (p i).1) (λ i. le_prop) s.span_least t.span_least i;
      span_most = is_prop→PathP (λ i. (p i).1 ≤ (same i).n) (λ i. le_prop) s.span_most t.span_most i;
    }

-- a ring is fixed by what it holds
pub held_fixed : (s t : TrayRing) → held s ≡ held t → s ≡ t
held_fixed s t e = same_ring s t (ap (λ h. (h.count, unwrap_or h.span 0)) e) (ap (λ h. h.trays) e)

unfoldable pub ring_kind : KindFacts number_tray number_regular ring mirrored base
ring_kind = record {
  trays = λ s. s.arrangement.trays;
  count = λ b. b.0;
  most = λ s. s.arrangement.most;
  permuted = permuted;
  same = same_ring;
  refitted = λ s ys p. (refitted s ys p, refl, refl);
  range = λ s t e. (refl, ap (λ (b : ℕ × ℕ). b.0) e);
  from_one = λ s. omega arith;
  to_highest = λ s. let m = s.arrangement.most in omega arith;
  move = λ b p. record { to = partner b.0 b.1 (start b.0 p); over = λ i. false };
  exchange = turn_exchange;
  after_base = λ s p. refl;
  after_trays = turn_moves;
  home = λ s. let m = s.arrangement.most in let l = (permuted s).long in first_in_order number_tray number_regular s.arrangement.n s.arrangement.trays (omega arith);
  mirror_base = λ s. refl;
  mirror_trays = λ s. refl;
}
