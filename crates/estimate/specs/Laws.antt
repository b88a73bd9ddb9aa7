use Rattle.std.proofs.Common.{◌≡◌, ℕ, zero, suc, ◌+◌, ◌-◌, ◌<◌, ◌≤◌, if◌then◌else◌, min, max, true, false, List, [], ◌∷◌, Option, Some, None, map, reverse, length, sym, refl, ap, ◌∙◌, arith, ⊎_elim}
use Rattle.std.proofs.lemmas.Bool.{cases_lt, true≢false}
use Rattle.std.proofs.lemmas.List.{length-reverse}
use Rattle.std.specs.List.{fold, range_with_len, reduce}
use Rattle.machine.specs.Meaning.{Meaning, Brings}
use Rattle.machine.specs.Duals.{Duals}
use Rattle.estimate.specs.declared.estimate.TheConstants.{HIGHEST_ESTIMATE}
use Rattle.estimate.specs.Meaning.{Admissible, Consistent, IsEstimate}
use Rattle.estimate.specs.Layers.{after_each, ahead, look_ahead, dual_lookup}

-- Where a turn lowers the number by at most 1, and at home it is 0, it is admissible.
pub consistent_admissible : {S : Type 0} (m : Meaning S) (e : S → ℕ) → Consistent m 1 e → Admissible m e
consistent_admissible m e law s [] b = let zero = law.home s b in omega arith
consistent_admissible m e law s (k ∷ ks) b = let one = law.turn s k b.0 in let rest = consistent_admissible m e law (m.after s k) ks b.1 in omega arith

module _ {S : Type 0} (m : Meaning S) (mirror : S → S) (duals : Duals m mirror) (e : S → ℕ) (below : IsEstimate m e) where
  pub dual_lookup_sound : IsEstimate m (dual_lookup mirror e)
  dual_lookup_sound = record {
    to_highest = λ s. let a = below.to_highest s in let b = below.to_highest (mirror s) in omega arith;
    admissible = λ s ks b.
        let here = below.admissible s ks b in
        let there = below.admissible (mirror s) (reverse ks) ((duals s ks).0 b) in
        let long = length-reverse ks in
        omega arith;
  }

-- the least of some numbers is no more than the first, or than the one at k
least_first : (x : ℕ) (xs : List ℕ) → fold min x xs ≤ x
least_first x [] = omega arith
least_first x (y ∷ ys) = let h = least_first (min x y) ys in omega arith

least_at : (f : ℕ → ℕ) (x a n k : ℕ) → a ≤ k → k < a + n → fold min x (map f (range_with_len a n)) ≤ f k
least_at f x a zero k low high = absurd (omega arith)
least_at f x a (suc n) k low high =
    ⊎_elim
    (λ (more : a < k). least_at f (min x (f a)) (a + 1) n k (omega arith) (omega arith))
    (λ (here : k ≤ a).
    let same : f k ≡ f a = let at : k ≡ a = omega arith in ap f at in
    let h = least_first (min x (f a)) (map f (range_with_len (a + 1) n)) in
    omega arith)
    (cases_lt a k)

ahead_to_highest : (here : ℕ) (after : Option ℕ) → here ≤ HIGHEST_ESTIMATE → ahead here after ≤ HIGHEST_ESTIMATE
ahead_to_highest here None le = le
ahead_to_highest here (Some least) le = omega arith

-- the number one turn ahead is at most the number here or 1 more than that after turn k
ahead_at : (here : ℕ) (f : ℕ → ℕ) (a n k : ℕ) → a ≤ k → k < a + n → ahead here (reduce min (map f (range_with_len a n))) ≤ max here (1 + f k)
ahead_at here f a zero k low high = absurd (omega arith)
ahead_at here f a (suc n) k low high =
    ⊎_elim
    (λ (more : a < k). let h = least_at f (f a) (a + 1) n k (omega arith) (omega arith) in omega arith)
    (λ (first : k ≤ a).
    let same : f k ≡ f a = let at : k ≡ a = omega arith in ap f at in
    let h = least_first (f a) (map f (range_with_len (a + 1) n)) in
    omega arith)
    (cases_lt a k)

module _ {S : Type 0} (m : Meaning S) (e : S → ℕ) (below : IsEstimate m e) where
  -- away from home a list has a first turn, and what is left of it brings the state after that turn home
  ahead_admissible : (s : S) (ks : List ℕ) → m.home s ≡ false → Brings m ks s → ahead (e s) (reduce min (after_each m e s)) ≤ length ks
  ahead_admissible s [] away b = absurd (true≢false (sym b ∙ away))
  ahead_admissible s (k ∷ ks) away b =
      let here = below.admissible s (k ∷ ks) b in
      let rest = below.admissible (m.after s k) ks b.1 in
      let low = b.0.low in
      let high = b.0.high in
      let h = ahead_at (e s) (λ k. e (m.after s k)) (m.lowest s) (suc (m.highest s) - m.lowest s) k low (omega arith) in
      omega arith

  pub look_ahead_sound : IsEstimate m (look_ahead m e)
  look_ahead_sound = record {
    to_highest = λ s. elim (m.home s) as (λ b. (if b then 0 else ahead (e s) (reduce min (after_each m e s))) ≤ HIGHEST_ESTIMATE) [
      | true ↦ omega arith
      | false ↦ ahead_to_highest (e s) (reduce min (after_each m e s)) (below.to_highest s)
    ];
    admissible = λ s ks b. elim (m.home s) as (λ t. m.home s ≡ t → (if t then 0 else ahead (e s) (reduce min (after_each m e s))) ≤ length ks) [
      | true ↦ (λ is. omega arith)
      | false ↦ (λ away. ahead_admissible s ks away b)
    ] refl;
  }
