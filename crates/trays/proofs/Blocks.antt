use Rattle.std.proofs.Common.{◌≡◌, ℕ, ◌+◌, ◌-◌, ◌<◌, ◌≤◌, min, Bool, true, ltb, List, map, length, take, drop, set, sym, ap, ◌∙◌, subst, ⊎_elim, arith}
use Rattle.std.proofs.lemmas.Bool.{cases_eq, cases_lt, lt-ltb, le-ltb}
use Rattle.std.proofs.lemmas.List.{ext_get_or, length-append, length-drop, length-map, length-set, length-take-le, get_or_append_left, get_or-append_right, get_or-drop, get_or-map, get_or-set_other, get_or-set_same, get_or-take}
use Rattle.reversal.specs.Reversed.{flipped, reversed_between, reversed_part}
use Rattle.reversal.proofs.Flip.{flip, flip_low, flip_high, flip_twice, flip_within, length-flipped, get_or-flipped}
use Rattle.trays.specs.Form.{TrayForm, Regular, tray_at}
use Rattle.trays.specs.Sides.{turned_over}
use Rattle.trays.proofs.Exchange.{Move, Exchange, Moved}

-- Turn k of a tower of n trays: the first k places are turned round, and their trays turned over; all of them where there are fewer.
abbrev pub block_move : ℕ → ℕ → Move
block_move n k = record { to = flip (min k n); over = λ i. ltb i (min k n) }

flip_inside : (k i : ℕ) → ltb (flip k i) k ≡ ltb i k
flip_inside k i =
    ⊎_elim
    (λ (lt : i < k). let a = flip_low k i lt in lt-ltb (flip k i) k (omega arith) ∙ sym (lt-ltb i k lt))
    (λ (ge : k ≤ i). let a = flip_high k i ge in le-ltb (flip k i) k (omega arith) ∙ sym (le-ltb i k ge))
    (cases_lt i k)

pub block_exchange : (n k : ℕ) → Exchange n (block_move n k)
block_exchange n k = record {
  twice = flip_twice (min k n);
  within = λ i lt. flip_within (min k n) n i (omega arith) lt;
  beyond = λ i ge. flip_high (min k n) i (omega arith);
  over_both = flip_inside (min k n);
  over_none = λ i ge. le-ltb i (min k n) (omega arith);
}

-- the reversal of the first k of n trays leaves the block turned round
pub block_turned : {A : Type 0} (n k : ℕ) (xs ys : List A) → n ≤ length xs → k ≤ n → ys ≡ reversed_part 0 k xs → ys ≡ flipped (min k n) xs
block_turned n k xs ys fits le e =
    let a : min 0 (min k (length xs)) ≡ 0 = omega arith in
    let b : min k (length xs) - 0 ≡ min k n = omega arith in
    e ∙ ap (λ (j : ℕ). reversed_between j (min k (length xs)) xs) a ∙ ap (λ (j : ℕ). flipped j xs) b

module _ {A : Type 0} (f : TrayForm A) (reg : Regular f) where
  length-turned_over : (k : ℕ) (xs : List A) → k ≤ length xs → length (turned_over f k xs) ≡ length xs
  length-turned_over k xs le =
      let a = length-append (map (f.sided true) (take k xs)) (drop k xs) in
      let b = length-map (take k xs) (f.sided true) in
      let c = length-take-le k xs le in
      let d = length-drop k xs in
      omega arith

  turned_over_at : (k : ℕ) (xs : List A) → k ≤ length xs → (i : ℕ) → tray_at f (turned_over f k xs) i ≡ f.sided (ltb i k) (tray_at f xs i)
  turned_over_at k xs le i =
      let d = f.upright 0 in
      let a = length-map (take k xs) (f.sided true) in
      let b = length-take-le k xs le in
      ⊎_elim
      (λ (lt : i < k).
      get_or_append_left (map (f.sided true) (take k xs)) (drop k xs) d i (omega arith)
      ∙ get_or-map (f.sided true) (take k xs) i d d (omega arith)
      ∙ ap (f.sided true) (get_or-take k xs i d lt)
      ∙ ap (λ (b : Bool). f.sided b (tray_at f xs i)) (sym (lt-ltb i k lt)))
      (λ (ge : k ≤ i).
      let e : k + (i - k) ≡ i = omega arith in
      get_or-append_right (map (f.sided true) (take k xs)) (drop k xs) k i d (omega arith) ge
      ∙ get_or-drop k xs (i - k) d
      ∙ ap (tray_at f xs) e
      ∙ sym (reg.sided_not (tray_at f xs i))
      ∙ ap (λ (b : Bool). f.sided b (tray_at f xs i)) (sym (le-ltb i k ge)))
      (cases_lt i k)

  -- one tray more turned over
  pub turned_over_more : (i : ℕ) (xs ys : List A) (t : A) → i < length xs → ys ≡ turned_over f i xs → t ≡ f.sided true (tray_at f ys i) → set ys i t ≡ turned_over f (i + 1) xs
  turned_over_more i xs ys t lt was is =
      let d = f.upright 0 in
      let at : (k : ℕ) → tray_at f ys k ≡ f.sided (ltb k i) (tray_at f xs k) = λ k. ap (λ (l : List A). tray_at f l k) was ∙ turned_over_at i xs (omega arith) k in
      let a : length ys ≡ length xs = ap length was ∙ length-turned_over i xs (omega arith) in
      let b = length-set ys i t in
      let c = length-turned_over (i + 1) xs (omega arith) in
      ext_get_or d (set ys i t) (turned_over f (i + 1) xs) (omega arith)
      (λ k _.
      let then = turned_over_at (i + 1) xs (omega arith) k in
      ⊎_elim
      (λ (e : k ≡ i).
      subst (λ (j : ℕ). tray_at f (set ys i t) j ≡ f.sided true (tray_at f xs j)) (sym e)
      (get_or-set_same ys i t d (omega arith) ∙ is ∙ ap (f.sided true) (at i ∙ ap (λ (b : Bool). f.sided b (tray_at f xs i)) (le-ltb i i (omega arith)) ∙ reg.sided_not (tray_at f xs i)))
      ∙ ap (λ (b : Bool). f.sided b (tray_at f xs k)) (sym (lt-ltb k (i + 1) (omega arith)))
      ∙ sym then)
      (λ (ne : k ≡ i → ⊥).
      get_or-set_other ys i k t d ne ∙ at k
      ∙ ap (λ (b : Bool). f.sided b (tray_at f xs k)) (⊎_elim (λ (low : k < i). lt-ltb k i low ∙ sym (lt-ltb k (i + 1) (omega arith))) (λ (high : i ≤ k). le-ltb k i high ∙ sym (le-ltb k (i + 1) (omega arith))) (cases_lt k i))
      ∙ sym then)
      (cases_eq k i))

  -- the block turned round and over
  pub block_moved : (n k : ℕ) (xs : List A) → n ≤ length xs → Moved f (block_move n k) xs (turned_over f (min k n) (flipped (min k n) xs))
  block_moved n k xs le =
      let j = min k n in
      let a = length-flipped j xs (omega arith) in
      record {
        long = length-turned_over j (flipped j xs) (omega arith) ∙ a;
        at = λ i. turned_over_at j (flipped j xs) (omega arith) i ∙ ap (f.sided (ltb i j)) (get_or-flipped j xs (f.upright 0) (omega arith) i);
      }
