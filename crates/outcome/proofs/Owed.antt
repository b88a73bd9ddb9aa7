use Rattle.std.proofs.Common.{◌≡◌, ℕ, arith}
use Rattle.estimate.specs.Layers.{look_ahead, dual_lookup}
use Rattle.estimate.specs.Laws.{look_ahead_sound, dual_lookup_sound}
use Rattle.estimate.specs.Meaning.{IsEstimate}
use Rattle.machine.specs.Duals.{Duals}
use Rattle.machine.specs.Meaning.{Meaning}
use Rattle.outcome.specs.declared.estimates.Estimates.{Estimates}
use Rattle.outcome.specs.Completed.{EstimatesOf}

-- the three estimates of a state keep the law of an estimate
pub estimates_of : {S : Type 0} (m : Meaning S) (mirror : S → S) → Duals m mirror → (e : S → ℕ) → IsEstimate m e → (s : S) (numbers : Estimates) → numbers.count ≡ e s → numbers.look_ahead ≡ look_ahead m e s → numbers.dual_lookup ≡ dual_lookup mirror (look_ahead m e) s → EstimatesOf m mirror e s numbers
estimates_of m mirror duals e sound s numbers p q r =
    let ahead = look_ahead_sound m e sound in
    let both = dual_lookup_sound m mirror duals (look_ahead m e) ahead in
    record {
      count_is = p;
      look_ahead_is = q;
      dual_lookup_is = r;
      no_shorter = λ ks b.
          let first = sound.admissible s ks b in
          let second = ahead.admissible s ks b in
          let third = both.admissible s ks b in
          (omega arith, omega arith, omega arith);
    }
