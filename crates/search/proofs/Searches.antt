use Rattle.std.proofs.Common.{◌≡◌, ℕ, zero, suc, ◌+◌, ◌-◌, ◌≤◌, ◌<◌, List, [], ◌∷◌, length, Option, Some, None, refl, sym, subst, arith}
use Rattle.machine.specs.Meaning.{Meaning, Lawful, Brings}
use Rattle.estimate.specs.Meaning.{Admissible}
use Rattle.search.specs.Search.{Look, cut, home, continued, followed_by, plan, cuts, least_cut, looks_within, round, next_threshold, rounds_within, rounds_from, all_looks, search}
use Rattle.search.specs.Shortest.{Shortest, AllLonger}
use Rattle.search.proofs.Rows.{WhenFound, WhenNone, AtMost, Above, each_plan, each_cut, covers_cut, at_most, above}
use Rattle.search.proofs.Thresholds.{allowed_cases}
use Rattle.search.proofs.Rounds.{Sound, look_cases, round_sound, round_covers}

pub plan_followed_by : (xs ys : List Look) → plan (followed_by xs ys) ≡ elim (plan xs) [ None ↦ plan ys | Some p ↦ Some p ]
plan_followed_by [] ys = refl
plan_followed_by (cut t ∷ xs) ys = plan_followed_by xs ys
plan_followed_by (home p ∷ xs) ys = refl
plan_followed_by (continued ∷ xs) ys = plan_followed_by xs ys

when_none : {P Q : Type 0} (o : Option (List ℕ)) → (P → Q) → WhenNone P o → WhenNone Q o
when_none None f h = f h
when_none (Some p) f h = tt

-- What the ending of a search owes.
abbrev pub Ends : {S : Type 0} → Meaning S → ℕ → S → Option (List ℕ) → Type 0
Ends m limit s None = AllLonger m limit s
Ends m limit s (Some p) = Shortest m limit s p

module _ {S : Type 0} (m : Meaning S) (e : S → ℕ) (limit : ℕ) (s : S) where
  -- a round cuts no total that is at most its threshold
  pub round_above : (t : ℕ) → Above t (least_cut (round m e t s))
  round_above t = above t (cuts (round m e t s)) (each_cut (Sound m e t s) (round m e t s) (round_sound m e t s))

  module _ (law : Lawful m) (low : Admissible m e) where
    -- where a round does not come home, it cuts a total that is no more than the length of any list that brings the state home
    pub round_at_most : (t : ℕ) (q : List ℕ) → Brings m q s → WhenNone (AtMost (length q) (least_cut (round m e t s))) (plan (round m e t s))
    round_at_most t q b =
        when_none (plan (round m e t s)) (at_most (length q) (cuts (round m e t s)))
        (covers_cut (length q) (round m e t s) (round_covers m e t low law s q b))

    -- from a threshold that is no more than the length of any list that brings the state home
    ends_from : (more t : ℕ) → limit < more + t → t ≤ limit → ((q : List ℕ) → Brings m q s → t ≤ length q) → Ends m limit s (plan (rounds_within m e limit s more t))
    ends_from zero t enough le lower = absurd (omega arith)
    ends_from (suc more) t enough le lower =
        subst (Ends m limit s) (sym (plan_followed_by (round m e t s) _))
        (join (plan (round m e t s)) (least_cut (round m e t s)) (each_plan (Sound m e t s) (round m e t s) (round_sound m e t s)) (round_above t) (round_at_most t) (ends_from more))
      where
        join : (o : Option (List ℕ)) (c : Option ℕ) → WhenFound (λ p. Brings m p s × (length p ≤ t)) o → Above t c → ((q : List ℕ) → Brings m q s → WhenNone (AtMost (length q) c) o) →
            ((u : ℕ) → limit < more + u → u ≤ limit → ((q : List ℕ) → Brings m q s → u ≤ length q) → Ends m limit s (plan (rounds_within m e limit s more u))) →
            Ends m limit s (elim o [ None ↦ plan (elim (next_threshold limit c) [ None ↦ [] | Some u ↦ rounds_within m e limit s more u ]) | Some p ↦ Some p ])
        join (Some p) c found high covered later = let within = found.1 in record { brings = found.0; within = omega arith; least = λ q b. let l = lower q b in omega arith }
        join None None found high covered later = λ q b. absurd (covered q b)
        join None (Some u) found high covered later =
            allowed_cases (λ o. Ends m limit s (plan (elim o [ None ↦ [] | Some u ↦ rounds_within m e limit s more u ]))) limit u
            (λ over q b. let c = covered q b in omega arith)
            (λ le. later u (omega arith) le covered)

    pub ends : Ends m limit s (plan (all_looks m e limit s))
    ends =
        allowed_cases (λ o. Ends m limit s (plan (elim o [ None ↦ cut (e s) ∷ [] | Some t ↦ rounds_from m e limit s t ]))) limit (e s)
        (λ over q b. let l = low s q b in omega arith)
        (λ le. ends_from (suc limit - e s) (e s) (omega arith) le (low s))

    pub none_if : (o : Option (List ℕ)) → Ends m limit s o → AllLonger m limit s → o ≡ None
    none_if None ends far = refl
    none_if (Some p) ends far = absurd (let within = ends.within in let over = far p ends.brings in omega arith)

  -- there is a look

  pub some_followed_by : (xs ys : List Look) → 1 ≤ length xs → 1 ≤ length (followed_by xs ys)
  some_followed_by [] ys some = absurd (omega arith)
  some_followed_by (cut t ∷ xs) ys some = omega arith
  some_followed_by (home p ∷ xs) ys some = omega arith
  some_followed_by (continued ∷ xs) ys some = omega arith

  pub first_look : (t depth : ℕ) (made : List ℕ) → 1 ≤ length (looks_within m e t depth made s)
  first_look t zero made = omega arith
  first_look t (suc depth) made = look_cases m e t (λ xs. 1 ≤ length xs) (looks_within m e t depth) made s (λ _. omega arith) (λ _ _. omega arith) (λ _ _. omega arith)

  first_round : (more t : ℕ) → limit < more + t → t ≤ limit → 1 ≤ length (rounds_within m e limit s more t)
  first_round zero t enough le = absurd (omega arith)
  first_round (suc more) t enough le = some_followed_by (round m e t s) _ (first_look t (suc t - 0) [])

  pub some_looks : 1 ≤ (search m e limit s).looks
  some_looks =
      allowed_cases (λ o. 1 ≤ length {A = Look} (elim o [ None ↦ cut (e s) ∷ [] | Some t ↦ rounds_from m e limit s t ])) limit (e s)
      (λ over. omega arith)
      (λ le. first_round (suc limit - e s) (e s) (omega arith) le)
