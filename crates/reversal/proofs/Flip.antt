use Rattle.std.proofs.Common.{◌≡◌, ℕ, ◌+◌, ◌-◌, ◌<◌, ◌≤◌, cond, ltb, List, reverse, length, get_or, take, drop, ap, ◌∙◌, ⊎_elim, arith}
use Rattle.std.proofs.lemmas.List.{length-append, length-reverse, length-take-le, length-drop, get_or-reverse, get_or_append_left, get_or-append_right, get_or-take, get_or-drop}
use Rattle.std.proofs.lemmas.Bool.{cases_lt, cond-true, cond-false, lt-ltb, le-ltb}
use Rattle.reversal.specs.Reversed.{flipped}

-- the place that place i changes with when the first k are turned round
unfoldable pub flip : ℕ → ℕ → ℕ
flip k i = cond (ltb i k) (k - 1 - i) i

pub flip_low : (k i : ℕ) → i < k → flip k i ≡ k - 1 - i
unfolding flip
flip_low k i h = cond-true (ltb i k) (k - 1 - i) i (lt-ltb i k h)

pub flip_high : (k i : ℕ) → k ≤ i → flip k i ≡ i
unfolding flip
flip_high k i h = cond-false (ltb i k) (k - 1 - i) i (le-ltb i k h)

pub flip_twice : (k i : ℕ) → flip k (flip k i) ≡ i
flip_twice k i =
    ⊎_elim
    (λ (lt : i < k). let a = flip_low k i lt in let b = flip_low k (flip k i) (omega arith) in omega arith)
    (λ (ge : k ≤ i). let a = flip_high k i ge in let b = flip_high k (flip k i) (omega arith) in omega arith)
    (cases_lt i k)

pub flip_within : (k n i : ℕ) → k ≤ n → i < n → flip k i < n
flip_within k n i le h =
    ⊎_elim
    (λ (lt : i < k). let a = flip_low k i lt in omega arith)
    (λ (ge : k ≤ i). let a = flip_high k i ge in omega arith)
    (cases_lt i k)

pub length-flipped : {A : Type 0} (k : ℕ) (xs : List A) → k ≤ length xs → length (flipped k xs) ≡ length xs
length-flipped k xs le =
    let a = length-append (reverse (take k xs)) (drop k xs) in
    let b = length-reverse (take k xs) in
    let c = length-take-le k xs le in
    let d = length-drop k xs in
    omega arith

pub get_or-flipped : {A : Type 0} (k : ℕ) (xs : List A) (d : A) → k ≤ length xs → (i : ℕ) → get_or (flipped k xs) i d ≡ get_or xs (flip k i) d
get_or-flipped {A} k xs d le i =
    let c = length-take-le k xs le in
    let b = length-reverse (take k xs) in
    ⊎_elim
    (λ (lt : i < k).
    let a = flip_low k i lt in
    let e : length (take k xs) - 1 - i ≡ flip k i = omega arith in
    get_or_append_left (reverse (take k xs)) (drop k xs) d i (omega arith)
    ∙ get_or-reverse (take k xs) i d (omega arith)
    ∙ ap (λ (j : ℕ). get_or (take k xs) j d) e
    ∙ get_or-take k xs (flip k i) d (omega arith))
    (λ (ge : k ≤ i).
    let a = flip_high k i ge in
    let e : k + (i - k) ≡ flip k i = omega arith in
    get_or-append_right (reverse (take k xs)) (drop k xs) k i d (omega arith) ge
    ∙ get_or-drop k xs (i - k) d
    ∙ ap (λ (j : ℕ). get_or xs j d) e)
    (cases_lt i k)
