use Rattle.std.proofs.Common.{◌≡◌, ℕ, zero, suc, ◌+◌, ◌*◌, ◌/◌, ◌%◌, ◌^◌, ◌<◌, max, sym, ap, ◌∙◌, pow-suc, zero-mul, arith}
use lib.Bits.{bit_and, bit_or, or_step, or_zero_r}
use lib.Count.{ones, ones_step, ones-le}
use Rattle.std.specs.Int.{bit_at}
use Rattle.std.proofs.lemmas.Nat.{pow_pos}
use Rattle.std.proofs.lemmas.Nat.Bits.{and_pow, bit_at-suc, bit_at_lowest}

or_half : (a b : ℕ) → bit_or a b / 2 ≡ bit_or (a / 2) (b / 2)
or_half a b = let e = or_step a b in omega arith

or_first : (a b : ℕ) → bit_or a b % 2 ≡ max (a % 2) (b % 2)
or_first a b = let e = or_step a b in omega arith

pow_half : (k : ℕ) → 2 ^ suc k / 2 ≡ 2 ^ k
pow_half k = let e = pow-suc 2 k in omega arith

pow_even : (k : ℕ) → 2 ^ suc k % 2 ≡ 0
pow_even k = let e = pow-suc 2 k in omega arith

-- a mark at k adds one to the count, unless it was there
pub ones_or : (k m : ℕ) → ones (bit_or m (2 ^ k)) + bit_at m k ≡ ones m + 1
ones_or zero m =
    let a = ones_step (bit_or m 1) in
    let b = ones_step m in
    let c : bit_or m 1 % 2 ≡ 1 = let e = or_first m 1 in omega arith in
    let d : ones (bit_or m 1 / 2) ≡ ones (m / 2) = ap ones (or_half m 1 ∙ or_zero_r (m / 2)) in
    let f = bit_at_lowest m in
    omega arith
ones_or (suc k) m =
    let w = bit_or m (2 ^ suc k) in
    let a = ones_step w in
    let b = ones_step m in
    let c : w % 2 ≡ m % 2 = let e = or_first m (2 ^ suc k) in let z = pow_even k in omega arith in
    let d : ones (w / 2) ≡ ones (bit_or (m / 2) (2 ^ k)) = ap ones (or_half m (2 ^ suc k) ∙ ap (λ x. bit_or (m / 2) x) (pow_half k)) in
    let f = bit_at-suc m k in
    let ih = ones_or k (m / 2) in
    omega arith

-- n digits that are all counted are all set
pub full : (n m : ℕ) → m < 2 ^ n → ones m ≡ n → (v : ℕ) → v < n → bit_at m v ≡ 1
full zero m lt e v h = absurd (omega arith)
full (suc n) m lt e zero h =
    let s = ones_step m in
    let p = pow-suc 2 n in
    let half : m / 2 < 2 ^ n = omega arith in
    let le = ones-le n (m / 2) half in
    let f = bit_at_lowest m in
    omega arith
full (suc n) m lt e (suc v) h =
    let s = ones_step m in
    let p = pow-suc 2 n in
    let half : m / 2 < 2 ^ n = omega arith in
    let le = ones-le n (m / 2) half in
    let rest : ones (m / 2) ≡ n = omega arith in
    bit_at-suc m v ∙ full n (m / 2) half rest v (omega arith)

-- and n digits that are all set count n
pub full_count : (n m : ℕ) → m < 2 ^ n → ((v : ℕ) → v < n → bit_at m v ≡ 1) → ones m ≡ n
unfolding ones
full_count zero m lt set = let none : m ≡ 0 = omega arith in ap ones none
full_count (suc n) m lt set =
    let s = ones_step m in
    let p = pow-suc 2 n in
    let f = bit_at_lowest m in
    let first = set 0 (omega arith) in
    let rest = full_count n (m / 2) (omega arith) (λ v h. sym (bit_at-suc m v) ∙ set (suc v) (omega arith)) in
    omega arith

-- the test of one digit, by a mask
pub and_mark : (k m : ℕ) → (bit_and m (2 ^ k) ≡ 0 → bit_at m k ≡ 0) × (bit_at m k ≡ 0 → bit_and m (2 ^ k) ≡ 0)
and_mark k m =
    let p = pow_pos k in
    let a = and_pow m k in
    (λ e. grind arith, λ e. a ∙ ap (λ x. x * 2 ^ k) e ∙ zero-mul (2 ^ k))
