use Rattle.std.proofs.Common.{◌≡◌, ℕ, zero, suc, ◌+◌, ◌-◌, ◌*◌, ◌%◌, ◌^◌, ◌<◌, ◌≤◌, ◌↔◌, IsTrue, nat_eq, List, length, take, get_or, sym, refl, ap, ◌∙◌, subst, ⊎_elim, below_more, add-one, arith}
use lib.Bits.{bit_and, bit_or, or_lt}
use lib.Count.{ones}
use Rattle.std.specs.Int.{bit_at}
use Rattle.std.proofs.lemmas.Nat.Bits.{bit_at_or, bit_at-lt, bit_at-zero, bit_at-pow_same, bit_at-pow_other}
use Rattle.std.proofs.lemmas.Nat.{one_shl, pow_pos, pow_below}
use Rattle.std.proofs.lemmas.Bool.{cases_eq, eqb-true, eq-eqb}
use Rattle.std.proofs.lemmas.List.{length-take-le}
use Rattle.trays.specs.Form.{TrayForm, number_at}
use Rattle.trays.specs.Marks.{marks, MarksCount}
use Rattle.trays.specs.Settable.{Each, EachStands, First, LacksNone, New, Numbered}
use Rattle.trays.proofs.Places.{taken}
use Rattle.trays.proofs.Bit.{ones_or, and_mark, full, full_count}

-- a number among the first i has its mark,
marked : (f : ℕ → ℕ) (i k : ℕ) → k < i → bit_at (marks f i) (f k - 1) ≡ 1
unfolding marks
marked f zero k lt = absurd (omega arith)
marked f (suc i) k lt =
    let v = f k - 1 in
    let b = bit_at_or (marks f i) (2 ^ (f i - 1)) v in
    let x = bit_at-lt (marks f i) v in
    let y = bit_at-lt (2 ^ (f i - 1)) v in
    ⊎_elim
    (λ (e : k ≡ i). let z : bit_at (2 ^ (f i - 1)) v ≡ 1 = subst (λ (j : ℕ). bit_at (2 ^ (f j - 1)) v ≡ 1) e (bit_at-pow_same v) in omega arith)
    (λ (ne : k ≡ i → ⊥). let z = marked f i k (omega arith) in omega arith)
    (cases_eq k i)

-- and a mark has its number
marked_by : (f : ℕ → ℕ) (i v : ℕ) → bit_at (marks f i) v ≡ 1 → (k : ℕ) × (k < i) × (f k - 1 ≡ v)
unfolding marks
marked_by f zero v e = let z = bit_at-zero v in absurd (omega arith)
marked_by f (suc i) v e =
    let b = bit_at_or (marks f i) (2 ^ (f i - 1)) v in
    ⊎_elim
    (λ (here : v ≡ f i - 1). (i, omega arith, omega arith))
    (λ (ne : v ≡ f i - 1 → ⊥).
    let z = bit_at-pow_other (f i - 1) v ne in
    let was : bit_at (marks f i) v ≡ 1 = omega arith in
    let ih = marked_by f i v was in
    (ih.0, (let lt = ih.1 in omega arith), ih.2))
    (cases_eq v (f i - 1))

count_le : (f : ℕ → ℕ) (i : ℕ) → ones (marks f i) ≤ i
unfolding marks ones
count_le f zero = omega arith
count_le f (suc i) = let a = ones_or (f i - 1) (marks f i) in let ih = count_le f i in omega arith

ones_zero : ones 0 ≡ 0
unfolding ones
ones_zero = refl

-- the marks count as many as there are numbers where the numbers differ,
count_apart : (f : ℕ → ℕ) (i : ℕ) → ((j k : ℕ) → k < j → j < i → f k - 1 ≡ f j - 1 → ⊥) → ones (marks f i) ≡ i
unfolding marks
count_apart f zero h = ones_zero
count_apart f (suc i) h =
    let a = ones_or (f i - 1) (marks f i) in
    let ih = count_apart f i (λ j k lt l e. h j k lt (omega arith) e) in
    let below = bit_at-lt (marks f i) (f i - 1) in
    let z : bit_at (marks f i) (f i - 1) ≡ 0 =
    ⊎_elim (λ (e : bit_at (marks f i) (f i - 1) ≡ 0). e)
    (λ (ne : bit_at (marks f i) (f i - 1) ≡ 0 → ⊥).
    let s : bit_at (marks f i) (f i - 1) ≡ 1 = omega arith in
    let m = marked_by f i (f i - 1) s in
    absurd (h i m.0 m.1 (omega arith) m.2))
    (cases_eq (bit_at (marks f i) (f i - 1)) 0) in
    omega arith

-- and only there
apart_count : (f : ℕ → ℕ) (i : ℕ) → ones (marks f i) ≡ i → (j k : ℕ) → k < j → j < i → f k - 1 ≡ f j - 1 → ⊥
unfolding marks
apart_count f zero e j k lt l same = omega arith
apart_count f (suc i) e j k lt l same =
    let a = ones_or (f i - 1) (marks f i) in
    let le = count_le f i in
    let was : ones (marks f i) ≡ i = omega arith in
    ⊎_elim
    (λ (here : j ≡ i).
    let m : bit_at (marks f i) (f k - 1) ≡ 1 = marked f i k (omega arith) in
    let at : f j ≡ f i = ap (λ (x : ℕ). f x) here in
    let to : f k - 1 ≡ f i - 1 = omega arith in
    let m' : bit_at (marks f i) (f i - 1) ≡ 1 = subst (λ (x : ℕ). bit_at (marks f i) x ≡ 1) to m in
    omega arith)
    (λ (ne : j ≡ i → ⊥). apart_count f i was j k lt (omega arith) same)
    (cases_eq j i)

-- the marks of n numbers from 1 to n are among n digits
marks_below : (f : ℕ → ℕ) (n i : ℕ) → ((k : ℕ) → k < i → f k - 1 < n) → marks f i < 2 ^ n
unfolding marks
marks_below f n zero h = pow_pos n
marks_below f n (suc i) h = or_lt n (marks f i) (2 ^ (f i - 1)) (marks_below f n i (λ k lt. h k (omega arith))) (pow_below (f i - 1) n (h i (omega arith)))

-- Of n numbers from 1 to n:
module _ (n : ℕ) (f : ℕ → ℕ) (good : Each (Numbered n f) 0 n) where
  below : marks f n < 2 ^ n
  below = marks_below f n n (λ k kn. let r = good k (omega arith) kn in omega arith)

  -- there are n marks exactly where no number stands twice,
  marks_new : (ones (marks f n) ≡ n) ↔ Each (New f) 0 n
  marks_new = (
    (λ e j _ jn k kj same. apart_count f n e j k kj jn (ap (λ x. x - 1) same)),
    λ new. count_apart f n (λ j k kj jn same.
        let a = good j (omega arith) jn in
        let b = good k (omega arith) (omega arith) in
        new j (omega arith) jn k kj (omega arith)),
  )

  -- and exactly where each number stands at some place
  marks_stand : (ones (marks f n) ≡ n) ↔ EachStands n f
  marks_stand = (
    (λ e v low high.
        let found = marked_by f n (v - 1) (full n (marks f n) below e (v - 1) (omega arith)) in
        let lt = found.1 in
        let r = good found.0 (omega arith) lt in
        let at = found.2 in
        record { place = found.0; within = lt; there = omega arith }),
    λ stands. full_count n (marks f n) below (λ v lt.
        let at = stands (suc v) (omega arith) (omega arith) in
        let e : f at.place - 1 ≡ v = let is = at.there in omega arith in
        ap (bit_at (marks f n)) (sym e) ∙ marked f n at.place at.within),
  )

pub marks_count : MarksCount
marks_count n f good = (marks_new n f good, marks_stand n f good)

-- what is accepted lacks no number
pub lacks_none : {A : Type 0} (f : TrayForm A) → LacksNone f
lacks_none f least n xs a =
    let law = marks_count n (number_at f xs) a.numbered in
    law.1.0 (law.0.1 a.new)

-- ---- the marks as the program sets, tests and counts them

pub marks_none : (f : ℕ → ℕ) → 0 ≡ marks f 0
unfolding marks
marks_none f = refl

-- The first n of 32 trays, whose numbers are from 1 to n.
module _ {A : Type 0} (form : TrayForm A) (n : ℕ) (xs : List A) (long : length xs ≡ 32) (few : n ≤ 32) (good : Each (Numbered n (number_at form xs)) 0 n) where
  abbrev f : ℕ → ℕ
  f = number_at form xs

  -- m is their marks, counted after the last
  pub distinct_counted : (i m : ℕ) → i ≤ length (take n xs) → length (take n xs) ≤ i → m ≡ marks f i → IsTrue (nat_eq (ones m) n) ↔ Each (New f) 0 n
  distinct_counted i m le ge set =
      let short = length-take-le n xs (omega arith) in
      let same : i ≡ n = omega arith in
      let all : m ≡ marks f n = set ∙ ap (marks f) same in
      let law = marks_count n f good in
      (λ t. law.0.0 (ap ones (sym all) ∙ eqb-true (ones m) n t), λ new. eq-eqb (ones m) n (ap ones all ∙ law.0.1 new))

  -- a turn: t stands at place i, v is its number, and m is the marks of those before
  module _ (i m v : ℕ) (t : A) (turn : i < length (take n xs)) (item : t ≡ get_or (take n xs) i t) (number : v ≡ form.number t) (set : m ≡ marks f i) where
    abbrev mark : ℕ
    mark = (1 * 2 ^ (v - 1)) % 4294967296

    here : (i < n) × (v ≡ f i)
    here = let at = taken form n xs i t turn (omega arith) item in (at.0, number ∙ ap form.number at.1)

    -- its mark, made by a shift
    mark_is : mark ≡ 2 ^ (f i - 1)
    mark_is = let a = good i (omega arith) here.0 in let is = here.1 in one_shl (v - 1) 32 (omega arith) ∙ ap (λ (x : ℕ). 2 ^ (x - 1)) is

    pub marks_next : bit_or m mark ≡ marks f (i + 1)
    unfolding marks
    marks_next = ap (λ x. bit_or x mark) set ∙ ap (bit_or (marks f i)) mark_is ∙ ap (marks f) (sym (add-one i))

    test : bit_and m mark ≡ bit_and (marks f i) (2 ^ (f i - 1))
    test = ap (bit_and m) mark_is ∙ ap (λ (x : ℕ). bit_and x (2 ^ (f i - 1))) set

    -- the mark is set: the number stands at an earlier place too
    pub repeated_at : Each (New f) 0 i → (bit_and m mark ≡ 0 → ⊥) → First (New f) 0 n i
    repeated_at before ne = record {
      from = omega arith;
      to = here.0;
      fails = λ new.
          let w = f i - 1 in
          let low = bit_at-lt (marks f i) w in
          let off : bit_at (marks f i) w ≡ 0 → ⊥ = λ e. ne (test ∙ (and_mark w (marks f i)).1 e) in
          let on : bit_at (marks f i) w ≡ 1 = ⊎_elim (λ (e : bit_at (marks f i) w ≡ 0). absurd (off e)) (λ (o : bit_at (marks f i) w ≡ 0 → ⊥). omega arith) (cases_eq (bit_at (marks f i) w) 0) in
          let at = marked_by f i w on in
          let k = at.0 in
          let ki = at.1 in
          let lt = here.0 in
          let a = good i (omega arith) lt in
          let b = good k (omega arith) (omega arith) in
          let same = at.2 in
          new k ki (omega arith);
      before = before;
    }

    -- the mark is not set
    pub new_next : Each (New f) 0 i → bit_and m mark ≡ 0 → Each (New f) 0 (i + 1)
    new_next before e =
        λ j _ lt. below_more (New f) i (λ k ki. before k (omega arith) ki) (λ k ki same.
        let off = (and_mark (f i - 1) (marks f i)).0 (sym test ∙ e) in
        let on = ap (λ (x : ℕ). bit_at (marks f i) (x - 1)) (sym same) ∙ marked f i k ki in
        omega arith) j lt

-- what a function that sets the marks stands on
pub ruleset marking = (marks_none, marks_next, distinct_counted, repeated_at, new_next)

-- n different numbers from 1 to n are all of them
pub covers : (n : ℕ) (f : ℕ → ℕ) → ((i : ℕ) → i < n → Numbered n f i) → ((i j : ℕ) → i < n → j < n → f i ≡ f j → i ≡ j) → (v : ℕ) → v < n → (i : ℕ) × (i < n) × (f i ≡ suc v)
covers n f ranged apart v lt =
    let law = marks_count n f (λ i _ li. ranged i li) in
    let at = law.1.0 (law.0.1 (λ i _ li k ki same. let q = apart k i (omega arith) li same in omega arith)) (suc v) (omega arith) (omega arith) in
    (at.place, at.within, at.there)
