use Rattle.std.proofs.Common.{◌≡◌, ℕ, zero, suc, ◌+◌, ◌≤◌, ◌<◌, Bool, true, false, cond, ◌&&◌, List, [], ◌∷◌, refl, sym, ap, ◌∙◌, arith, ⊎_elim}
use Rattle.std.proofs.lemmas.Bool.{cases_eq, cond-true, cond-false}
use Rattle.std.specs.List.{filter, range_with_len}

-- What filters keep of a range of numbers.

pub filter_both : (p q : ℕ → Bool) (xs : List ℕ) → filter q (filter p xs) ≡ filter (λ x. p x && q x) xs
filter_both p q [] = refl
filter_both p q (x ∷ xs) = by_first (filter_both p q xs) (p x)
  where
    by_first : filter q (filter p xs) ≡ filter (λ y. p y && q y) xs → (b : Bool) → filter q (cond b (x ∷ filter p xs) (filter p xs)) ≡ cond (b && q x) (x ∷ filter (λ y. p y && q y) xs) (filter (λ y. p y && q y) xs)
    by_first rest true = ap (λ ys. cond (q x) (x ∷ ys) ys) rest
    by_first rest false = rest

pub filter_same : (p q : ℕ → Bool) (a n : ℕ) → ((x : ℕ) → a ≤ x → p x ≡ q x) → filter p (range_with_len a n) ≡ filter q (range_with_len a n)
filter_same p q a zero same = refl
filter_same p q a (suc n) same =
    ap (λ b. cond b (a ∷ filter p (range_with_len (a + 1) n)) (filter p (range_with_len (a + 1) n))) (same a (omega arith))
    ∙ ap (λ ys. cond (q a) (a ∷ ys) ys) (filter_same p q (a + 1) n (λ x low. same x (omega arith)))

module _ (p : ℕ → Bool) where
  keeps_first : (x : ℕ) (xs : List ℕ) → p x ≡ true → filter p (x ∷ xs) ≡ x ∷ filter p xs
  keeps_first x xs t = cond-true (p x) (x ∷ filter p xs) (filter p xs) t

  leaves_first : (x : ℕ) (xs : List ℕ) → p x ≡ false → filter p (x ∷ xs) ≡ filter p xs
  leaves_first x xs f = cond-false (p x) (x ∷ filter p xs) (filter p xs) f

  pub filter_all : (a n : ℕ) → ((x : ℕ) → a ≤ x → p x ≡ true) → filter p (range_with_len a n) ≡ range_with_len a n
  filter_all a zero kept = refl
  filter_all a (suc n) kept = keeps_first a (range_with_len (a + 1) n) (kept a (omega arith)) ∙ ap (λ ys. a ∷ ys) (filter_all (a + 1) n (λ x low. kept x (omega arith)))

  pub filter_none : (a n : ℕ) → ((x : ℕ) → a ≤ x → x < a + n → p x ≡ false) → filter p (range_with_len a n) ≡ []
  filter_none a zero left = refl
  filter_none a (suc n) left = leaves_first a (range_with_len (a + 1) n) (left a (omega arith) (omega arith)) ∙ filter_none (a + 1) n (λ x low high. left x (omega arith) (omega arith))

-- Where p keeps k and nothing below, and q nothing up to k and what p keeps above, p keeps k and then what q keeps.
pub filter_least : (p q : ℕ → Bool) (k a n : ℕ) → a ≤ k → k < a + n → p k ≡ true → ((x : ℕ) → a ≤ x → x < k → p x ≡ false) → ((x : ℕ) → x ≤ k → q x ≡ false) → ((x : ℕ) → k < x → p x ≡ q x) → filter p (range_with_len a n) ≡ k ∷ filter q (range_with_len a n)
filter_least p q k a zero low high first none none_later same = absurd (omega arith)
filter_least p q k a (suc n) low high first none none_later same =
    let rest = range_with_len (a + 1) n in
    ⊎_elim
    (λ (here : a ≡ k).
    keeps_first p a rest (ap p here ∙ first)
    ∙ ap (λ x. x ∷ filter p rest) here
    ∙ ap (λ ys. k ∷ ys) (filter_same p q (a + 1) n (λ x above. same x (omega arith)) ∙ sym (leaves_first q a rest (none_later a (omega arith)))))
    (λ apart.
    leaves_first p a rest (none a (omega arith) (omega arith))
    ∙ filter_least p q k (a + 1) n (omega arith) (omega arith) first (λ x above below. none x (omega arith) below) none_later same
    ∙ ap (λ ys. k ∷ ys) (sym (leaves_first q a rest (none_later a (omega arith)))))
    (cases_eq a k)
