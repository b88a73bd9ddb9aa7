use Rattle.std.proofs.Common.{◌≡◌, ℕ, ◌≤◌, ◌<◌, min, List, [], ◌∷◌, Option, Some, None, arith, ⊎_elim}
use mathlib.Core.Logic.{◌⊎◌, inl, inr}
use Rattle.std.specs.List.{AllByRecursion as Each, fold, reduce}
use Rattle.search.specs.Search.{Look, cut, home, continued, followed_by, looks_by, plan, cuts}

-- Rows of looks.

-- P of some item.
abbrev pub AnyOf : {A : Type 0} → (A → Type 0) → List A → Type 0
AnyOf P [] = ⊥
AnyOf P (x ∷ xs) = P x ⊎ AnyOf P xs

-- x is one of the items.
abbrev pub In : {A : Type 0} → A → List A → Type 0
In x xs = AnyOf (λ y. y ≡ x) xs

-- P of the plan that is found, or of nothing.
abbrev pub WhenFound : (List ℕ → Type 0) → Option (List ℕ) → Type 0
WhenFound P None = Unit {0}
WhenFound P (Some p) = P p

abbrev pub WhenNone : Type 0 → Option (List ℕ) → Type 0
WhenNone Q None = Q
WhenNone Q (Some p) = Unit {0}

module _ (P : Look → Type 0) where
  each_followed_by : (xs ys : List Look) → Each P xs → Each P ys → Each P (followed_by xs ys)
  each_followed_by [] ys a b = b
  each_followed_by (cut t ∷ xs) ys a b = (a.0, each_followed_by xs ys a.1 b)
  each_followed_by (home p ∷ xs) ys a b = (a.0, tt)
  each_followed_by (continued ∷ xs) ys a b = (a.0, each_followed_by xs ys a.1 b)

  pub each_of_turns : (Q : ℕ → Type 0) (f : ℕ → List Look) → ((k : ℕ) → Q k → Each P (f k)) → (ks : List ℕ) → Each Q ks → Each P (looks_by f ks)
  each_of_turns Q f h [] a = tt
  each_of_turns Q f h (k ∷ ks) a = each_followed_by (f k) (looks_by f ks) (h k a.0) (each_of_turns Q f h ks a.1)

  pub each_plan : (xs : List Look) → Each P xs → WhenFound (λ p. P (home p)) (plan xs)
  each_plan [] a = tt
  each_plan (cut t ∷ xs) a = each_plan xs a.1
  each_plan (home p ∷ xs) a = a.0
  each_plan (continued ∷ xs) a = each_plan xs a.1

  pub each_cut : (xs : List Look) → Each P xs → Each (λ t. P (cut t)) (cuts xs)
  each_cut [] a = tt
  each_cut (cut t ∷ xs) a = (a.0, each_cut xs a.1)
  each_cut (home p ∷ xs) a = each_cut xs a.1
  each_cut (continued ∷ xs) a = each_cut xs a.1

-- A look that is home, or that cuts a total of at most n.
abbrev pub Covers : ℕ → Look → Type 0
Covers n (cut t) = t ≤ n
Covers n (home p) = Unit {0}
Covers n continued = ⊥

module _ (n : ℕ) where
  covers_followed_by : (xs ys : List Look) → AnyOf (Covers n) xs ⊎ AnyOf (Covers n) ys → AnyOf (Covers n) (followed_by xs ys)
  covers_followed_by [] ys h = ⊎_elim (λ a. absurd a) (λ b. b) h
  covers_followed_by (cut t ∷ xs) ys h = ⊎_elim (λ a. ⊎_elim (λ here. inl here) (λ more. inr (covers_followed_by xs ys (inl more))) a) (λ b. inr (covers_followed_by xs ys (inr b))) h
  covers_followed_by (home p ∷ xs) ys h = inl tt
  covers_followed_by (continued ∷ xs) ys h = ⊎_elim (λ a. ⊎_elim (λ here. absurd here) (λ more. inr (covers_followed_by xs ys (inl more))) a) (λ b. inr (covers_followed_by xs ys (inr b))) h

  pub covers_of_turns : (f : ℕ → List Look) (k : ℕ) (ks : List ℕ) → In k ks → AnyOf (Covers n) (f k) → AnyOf (Covers n) (looks_by f ks)
  covers_of_turns f k [] i h = absurd i
  covers_of_turns f k (x ∷ xs) (inl e) h = covers_followed_by (f x) (looks_by f xs) (inl (rw e h))
  covers_of_turns f k (x ∷ xs) (inr i) h = covers_followed_by (f x) (looks_by f xs) (inr (covers_of_turns f k xs i h))

  -- where no look is home, a total of at most n is cut
  pub covers_cut : (xs : List Look) → AnyOf (Covers n) xs → WhenNone (AnyOf (λ t. t ≤ n) (cuts xs)) (plan xs)
  covers_cut [] h = absurd h
  covers_cut (cut t ∷ xs) h = more (plan xs) (λ a. covers_cut xs a) h
    where
      more : (o : Option (List ℕ)) → (AnyOf (Covers n) xs → WhenNone (AnyOf (λ t. t ≤ n) (cuts xs)) o) → (t ≤ n) ⊎ AnyOf (Covers n) xs → WhenNone ((t ≤ n) ⊎ AnyOf (λ t. t ≤ n) (cuts xs)) o
      more None rest h = ⊎_elim (λ here. inl here) (λ a. inr (rest a)) h
      more (Some p) rest h = tt
  covers_cut (home p ∷ xs) h = tt
  covers_cut (continued ∷ xs) h = ⊎_elim (λ here. absurd here) (λ a. covers_cut xs a) h

-- The least of some totals.

abbrev pub AtMost : ℕ → Option ℕ → Type 0
AtMost n None = ⊥
AtMost n (Some t) = t ≤ n

abbrev pub Above : ℕ → Option ℕ → Type 0
Above n None = Unit {0}
Above n (Some t) = n < t

module _ (n : ℕ) where
  least_at_most : (x : ℕ) (ts : List ℕ) → (x ≤ n) ⊎ AnyOf (λ t. t ≤ n) ts → fold min x ts ≤ n
  least_at_most x [] (inl h) = h
  least_at_most x [] (inr h) = absurd h
  least_at_most x (t ∷ ts) (inl h) = least_at_most (min x t) ts (inl (omega arith))
  least_at_most x (t ∷ ts) (inr (inl h)) = least_at_most (min x t) ts (inl (omega arith))
  least_at_most x (t ∷ ts) (inr (inr h)) = least_at_most (min x t) ts (inr h)

  least_above : (x : ℕ) (ts : List ℕ) → n < x → Each (λ t. n < t) ts → n < fold min x ts
  least_above x [] h a = h
  least_above x (t ∷ ts) h a = let first = a.0 in least_above (min x t) ts (omega arith) a.1

  pub at_most : (ts : List ℕ) → AnyOf (λ t. t ≤ n) ts → AtMost n (reduce min ts)
  at_most [] h = absurd h
  at_most (t ∷ ts) h = least_at_most t ts h

  pub above : (ts : List ℕ) → Each (λ t. n < t) ts → Above n (reduce min ts)
  above [] a = tt
  above (t ∷ ts) a = least_above t ts a.0 a.1
