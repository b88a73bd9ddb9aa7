use Rattle.std.proofs.Common.{◌≡◌, ℕ, zero, suc, ◌+◌, ◌-◌, ◌≤◌, ◌<◌, List, [], ◌∷◌, length, Option, Some, None, refl, sym, subst, ap, ◌∙◌, arith}
use Rattle.machine.specs.Meaning.{Meaning, Lawful, Brings}
use Rattle.estimate.specs.Meaning.{Admissible}
use Rattle.search.specs.Search.{Look, cut, home, continued, followed_by, plan, least_cut, round, allowed, next_threshold, rounds_within, rounds_from, all_looks}
use Rattle.search.proofs.Rows.{WhenNone, AtMost, Above}
use Rattle.search.proofs.Thresholds.{allowed_cases}
use Rattle.search.proofs.Searches.{plan_followed_by, round_above, round_at_most}

-- Another limit that allows the plan changes nothing.

followed_same : (xs ys zs : List Look) → (plan xs ≡ None → ys ≡ zs) → followed_by xs ys ≡ followed_by xs zs
followed_same [] ys zs h = h refl
followed_same (cut t ∷ xs) ys zs h = ap (λ l. cut t ∷ l) (followed_same xs ys zs h)
followed_same (home p ∷ xs) ys zs h = refl
followed_same (continued ∷ xs) ys zs h = ap (λ l. continued ∷ l) (followed_same xs ys zs h)

abbrev IsNone : Option (List ℕ) → Type 0
IsNone None = Unit {0}
IsNone (Some p) = ⊥

module _ {S : Type 0} (m : Meaning S) (e : S → ℕ) (limit : ℕ) (s : S) (law : Lawful m) (low : Admissible m e) (other : ℕ) (p : List ℕ) (brings : Brings m p s) (fits : length p ≤ other) where
  -- after a round with the least cut c, the looks that follow are the same: f has those within `other`, g those within `limit`
  abbrev Same : Option ℕ → (ℕ → List Look) → (ℕ → List Look) → Type 0
  Same c f g = ◌≡◌ {A = List Look} (elim (next_threshold other c) [ None ↦ [] | Some u ↦ f u ]) (elim (next_threshold limit c) [ None ↦ [] | Some u ↦ g u ])

  same_next : (t : ℕ) (f g : ℕ → List Look) → ((u : ℕ) → t < u → u ≤ limit → u ≤ length p → plan (g u) ≡ Some p → f u ≡ g u) → (c : Option ℕ) → Above t c → AtMost (length p) c → plan (elim (next_threshold limit c) [ None ↦ [] | Some u ↦ g u ]) ≡ Some p → Same c f g
  same_next t f g later None high few found = absurd few
  same_next t f g later (Some u) high few found =
      allowed_cases (λ o. ◌≡◌ {A = List Look} (elim o [ None ↦ [] | Some u ↦ f u ]) (elim (allowed limit u) [ None ↦ [] | Some u ↦ g u ])) other u
      (λ over. absurd (omega arith))
      (λ _.
      allowed_cases (λ o. plan (elim o [ None ↦ [] | Some u ↦ g u ]) ≡ Some p → f u ≡ elim o [ None ↦ [] | Some u ↦ g u ]) limit u
      (λ over none. absurd (subst IsNone none tt))
      (λ le found. later u high le few found)
      found)

  rounds_limit : (a b t : ℕ) → limit < a + t → other < b + t → t ≤ limit → t ≤ length p → plan (rounds_within m e limit s a t) ≡ Some p → rounds_within m e other s b t ≡ rounds_within m e limit s a t
  rounds_limit zero b t enough enough2 le short found = absurd (omega arith)
  rounds_limit (suc a) zero t enough enough2 le short found = absurd (omega arith)
  rounds_limit (suc a) (suc b) t enough enough2 le short found =
      let xs = round m e t s in
      let c = least_cut xs in
      let ys = elim (next_threshold limit c) as (λ _. List Look) [ None ↦ [] | Some u ↦ rounds_within m e limit s a u ] in
      followed_same xs _ ys
      (λ none.
      same_next t (rounds_within m e other s b) (rounds_within m e limit s a) (λ u high. rounds_limit a b u (omega arith) (omega arith)) c (round_above m e limit s t)
      (subst (WhenNone (AtMost (length p) c)) none (round_at_most m e limit s law low t p brings))
      (ap (λ o. elim o as (λ _. Option (List ℕ)) [ None ↦ plan ys | Some q ↦ Some q ]) (sym none) ∙ sym (plan_followed_by xs ys) ∙ found))

  pub all_looks_limit : plan (all_looks m e limit s) ≡ Some p → all_looks m e other s ≡ all_looks m e limit s
  all_looks_limit =
      let short = low s p brings in
      allowed_cases (λ o. plan (all_looks m e limit s) ≡ Some p → elim o as (λ _. List Look) [ None ↦ cut (e s) ∷ [] | Some t ↦ rounds_from m e other s t ] ≡ all_looks m e limit s) other (e s)
      (λ over. absurd (omega arith))
      (λ fits.
      allowed_cases (λ o. plan (elim o [ None ↦ cut (e s) ∷ [] | Some t ↦ rounds_from m e limit s t ]) ≡ Some p → rounds_from m e other s (e s) ≡ elim o [ None ↦ cut (e s) ∷ [] | Some t ↦ rounds_from m e limit s t ]) limit (e s)
      (λ over none. absurd (subst IsNone none tt))
      (λ le found. rounds_limit (suc limit - e s) (suc other - e s) (e s) (omega arith) (omega arith) le short found))
