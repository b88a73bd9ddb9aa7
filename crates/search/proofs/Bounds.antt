use Rattle.std.proofs.Common.{◌≡◌, ℕ, zero, suc, ◌+◌, ◌-◌, ◌≤◌, ◌<◌, List, [], length, Option, Some, None, refl, sym, ap, ◌∙◌, arith, nat_lt}
use Rattle.std.proofs.lemmas.Bool.{cond-true, lt-ltb}
use Rattle.machine.specs.Meaning.{Meaning}
use Rattle.search.specs.Search.{Look, followed_by, least_cut, look_and_below, looks_within, looks_from, round, next_threshold, round_and_later, rounds_within, rounds_from}
use Rattle.search.specs.Shortest.{Unbounded}
use Rattle.search.proofs.Rows.{Above}
use Rattle.search.proofs.Thresholds.{allowed_cases}
use Rattle.search.proofs.Searches.{round_above}

-- The bounds in the definitions leave nothing out.

module _ {S : Type 0} (m : Meaning S) (e : S → ℕ) where
  looks_on : (threshold depth : ℕ) (made : List ℕ) (s : S) → suc threshold - length made ≡ depth → looks_within m e threshold depth made s ≡ look_and_below m e threshold (looks_from m e threshold) made s
  looks_on threshold zero made s is = sym (cond-true (nat_lt threshold (length made + e s)) _ _ (lt-ltb threshold (length made + e s) (omega arith)))
  looks_on threshold (suc depth) made s is =
      let deeper : depth ≡ suc threshold - suc (length made) = omega arith in
      ap (λ d. look_and_below m e threshold (looks_within m e threshold d) made s) deeper

  module _ (limit : ℕ) (s : S) where
    -- a round and the later ones, where these are the same from the thresholds that may come
    round_and_later_same : (f g : ℕ → List Look) (t : ℕ) → ((u : ℕ) → t < u → u ≤ limit → f u ≡ g u) → round_and_later m e limit s f t ≡ round_and_later m e limit s g t
    round_and_later_same f g t same = ap (followed_by (round m e t s)) (by_least (least_cut (round m e t s)) (round_above m e limit s t))
      where
        by_least : (c : Option ℕ) → Above t c → ◌≡◌ {A = List Look} (elim (next_threshold limit c) [ None ↦ [] | Some u ↦ f u ]) (elim (next_threshold limit c) [ None ↦ [] | Some u ↦ g u ])
        by_least None high = refl
        by_least (Some u) high =
            allowed_cases (λ o. ◌≡◌ {A = List Look} (elim o [ None ↦ [] | Some u ↦ f u ]) (elim o [ None ↦ [] | Some u ↦ g u ])) limit u (λ over. refl) (same u high)

    rounds_same : (a b t : ℕ) → limit < a + t → limit < b + t → t ≤ limit → rounds_within m e limit s a t ≡ rounds_within m e limit s b t
    rounds_same zero b t p q le = absurd (omega arith)
    rounds_same (suc a) zero t p q le = absurd (omega arith)
    rounds_same (suc a) (suc b) t p q le = round_and_later_same (rounds_within m e limit s a) (rounds_within m e limit s b) t (λ u more. rounds_same a b u (omega arith) (omega arith))

    rounds_on : (t : ℕ) → t ≤ limit → rounds_from m e limit s t ≡ round_and_later m e limit s (rounds_from m e limit s) t
    rounds_on t le =
        let first : suc limit - t ≡ suc (limit - t) = omega arith in
        ap (λ n. rounds_within m e limit s n t) first
        ∙ round_and_later_same (rounds_within m e limit s (limit - t)) (rounds_from m e limit s) t (λ u more le. rounds_same (limit - t) (suc limit - u) u (omega arith) (omega arith) le)

  pub unbounded : Unbounded m e
  unbounded = record { looks = λ threshold made s. looks_on threshold (suc threshold - length made) made s refl; rounds = rounds_on }
