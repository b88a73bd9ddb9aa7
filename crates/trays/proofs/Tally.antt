use Rattle.std.proofs.Common.{◌≡◌, ℕ, zero, suc, ◌+◌, ◌-◌, ◌<◌, ◌≤◌, Bool, true, false, cond, sym, refl, ap, ap₂, ◌∙◌, arith}
use Rattle.trays.specs.Run.{place_on}
use Rattle.trays.proofs.Runs.{on_near, on_far}

-- how many of the numbers below n have p
unfoldable pub tally : ℕ → (ℕ → Bool) → ℕ
tally zero p = 0
tally (suc n) p = cond (p n) 1 0 + tally n p

pub tally_zero : (p : ℕ → Bool) → tally 0 p ≡ 0
unfolding tally
tally_zero p = refl

pub tally_more : (n : ℕ) (p : ℕ → Bool) → tally (suc n) p ≡ cond (p n) 1 0 + tally n p
unfolding tally
tally_more n p = refl

pub tally_same : (n : ℕ) (p q : ℕ → Bool) → ((i : ℕ) → i < n → p i ≡ q i) → tally n p ≡ tally n q
unfolding tally
tally_same zero p q h = refl
tally_same (suc n) p q h = ap₂ (λ (b : Bool) (t : ℕ). cond b 1 0 + t) (h n (omega arith)) (tally_same n p q (λ i lt. h i (omega arith)))

pub tally_none : (n : ℕ) (p : ℕ → Bool) → ((i : ℕ) → i < n → p i ≡ false) → tally n p ≡ 0
unfolding tally
tally_none zero p h = refl
tally_none (suc n) p h = ap₂ (λ (b : Bool) (t : ℕ). cond b 1 0 + t) (h n (omega arith)) (tally_none n p (λ i lt. h i (omega arith)))

pub one_at_most : (b : Bool) → cond b 1 0 ≤ 1
one_at_most true = omega arith
one_at_most false = omega arith

pub tally_le : (n : ℕ) (p : ℕ → Bool) → tally n p ≤ n
unfolding tally
tally_le zero p = omega arith
tally_le (suc n) p = let a = one_at_most (p n) in let rest = tally_le n p in omega arith

-- of m + n numbers: the first m, and the n after them
pub tally_append : (m n : ℕ) (p : ℕ → Bool) → tally (m + n) p ≡ tally m p + tally n (λ i. p (m + i))
unfolding tally
tally_append m zero p = let e : m + 0 ≡ m = omega arith in ap (λ j. tally j p) e ∙ omega arith
tally_append m (suc n) p =
    let e : m + suc n ≡ suc (m + n) = omega arith in
    let rest = tally_append m n p in
    let last : tally (suc (m + n)) p ≡ cond (p (m + n)) 1 0 + tally (m + n) p = refl in
    ap (λ j. tally j p) e ∙ omega arith

-- the first number, and those after it
pub tally_first : (n : ℕ) (p : ℕ → Bool) → tally (suc n) p ≡ cond (p 0) 1 0 + tally n (λ i. p (suc i))
tally_first n p =
    let e : ◌≡◌ {A = ℕ} (suc n) (1 + n) = omega arith in
    let one = tally_more 0 p in
    let none = tally_zero p in
    let rest = tally_same n (λ i. p (1 + i)) (λ i. p (suc i)) (λ i lt. let s : ◌≡◌ {A = ℕ} (1 + i) (suc i) = omega arith in ap p s) in
    ap (λ j. tally j p) e ∙ tally_append 1 n p ∙ omega arith

-- in the other order
pub tally_reverse : (n : ℕ) (p : ℕ → Bool) → tally n (λ i. p (n - 1 - i)) ≡ tally n p
tally_reverse zero p = tally_zero (λ i. p (0 - 1 - i)) ∙ sym (tally_zero p)
tally_reverse (suc n) p =
    let first = tally_append 1 n (λ i. p (suc n - 1 - i)) in
    let one = tally_more 0 (λ i. p (suc n - 1 - i)) in
    let none = tally_zero (λ i. p (suc n - 1 - i)) in
    let head : ◌≡◌ {A = ℕ} (cond (p (suc n - 1 - 0)) 1 0) (cond (p n) 1 0) = let e : suc n - 1 - 0 ≡ n = omega arith in ap (λ j. cond (p j) 1 0) e in
    let tail = tally_same n (λ i. p (suc n - 1 - (1 + i))) (λ i. p (n - 1 - i)) (λ i lt. let e : suc n - 1 - (1 + i) ≡ n - 1 - i = omega arith in ap p e) in
    let rest = tally_reverse n p in
    let last = tally_more n p in
    let e : ◌≡◌ {A = ℕ} (suc n) (1 + n) = omega arith in
    ap (λ j. tally j (λ i. p (suc n - 1 - i))) e ∙ omega arith

-- counted round from place a
pub tally_round : (n a : ℕ) (p : ℕ → Bool) → a < n → tally n p ≡ tally n (λ j. p (place_on n a j))
tally_round n a p lt =
    let e : (n - a) + a ≡ n = omega arith in
    let e' : a + (n - a) ≡ n = omega arith in
    let whole = tally_append a (n - a) p in
    let round = tally_append (n - a) a (λ j. p (place_on n a j)) in
    let near = tally_same (n - a) (λ j. p (place_on n a j)) (λ i. p (a + i)) (λ i li. ap p (on_near n a lt i (omega arith))) in
    let far = tally_same a (λ j. p (place_on n a (n - a + j))) p (λ i li. let q = on_far n a lt (n - a + i) (omega arith) in let s : place_on n a (n - a + i) ≡ i = omega arith in ap p s) in
    sym (ap (λ j. tally j p) e') ∙ whole ∙ omega arith ∙ sym round ∙ ap (λ j. tally j (λ j. p (place_on n a j))) e
