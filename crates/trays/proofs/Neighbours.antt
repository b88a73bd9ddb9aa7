use Rattle.std.proofs.Common.{◌≡◌, ℕ, zero, suc, ◌+◌, ◌-◌, ◌<◌, ◌≤◌, min, Bool, true, cond, ltb, List, sym, ap, ap₂, ◌∙◌, subst, arith, ⊎_elim}
use Rattle.std.proofs.lemmas.Bool.{cases_lt, cond-true, cond-false, lt-ltb, le-ltb}
use Rattle.reversal.proofs.Flip.{flip, flip_low, flip_high}
use Rattle.trays.specs.Apart.{Apart}
use Rattle.trays.specs.Form.{TrayForm, Regular, tray_at}
use Rattle.trays.specs.Run.{RunReversed, place_on, steps_to}
use Rattle.trays.proofs.Exchange.{Moved}
use Rattle.trays.proofs.Permutations.{Ordered}
use Rattle.trays.proofs.Runs.{on_near, on_far, on_within, to_on}
use Rattle.trays.proofs.Tally.{one_at_most, tally, tally_append, tally_first, tally_more, tally_none, tally_reverse, tally_round, tally_same}
use Rattle.trays.proofs.Blocks.{block_move}

-- How many neighbours are apart, and what a turn does to that number.

module _ {A : Type 0} (apart : A → A → Bool) where
  -- what stands at place i is apart from what comes after it
  abbrev pub apart_at : (ℕ → A) → ℕ → Bool
  apart_at z i = apart (z i) (z (suc i))

  -- all but the last agree
  last_differs : (r : ℕ) (p q : ℕ → Bool) → ((i : ℕ) → i < r → p i ≡ q i) → tally (suc r) p + cond (q r) 1 0 ≡ tally (suc r) q + cond (p r) 1 0
  last_differs r p q h =
      let a = tally_more r p in
      let b = tally_more r q in
      let rest = tally_same r p q h in
      omega arith

  module _ (side : A → A) (turned : (x y : A) → apart (side y) (side x) ≡ apart x y) where
    -- The first k of n + 1 items are turned round, and each of them over. Inside the block and after it the same neighbours are apart as before; the first item, turned over, is then above the one after the block, in place of the last.
    pub block_recount : (n m : ℕ) (z w : ℕ → A) → suc m ≤ n → ((i : ℕ) → i < suc m → w i ≡ side (z (suc m - 1 - i))) → ((i : ℕ) → suc m ≤ i → i ≤ n → w i ≡ z i)
        → tally n (apart_at w) + cond (apart_at z m) 1 0 ≡ tally n (apart_at z) + cond (apart (side (z 0)) (z (suc m))) 1 0
    block_recount n m z w le inside outside =
        let r = n - suc m in
        let e : m + suc r ≡ n = omega arith in
        let here : m + 0 ≡ m = omega arith in
        let split : (p : ℕ → Bool) → tally n p ≡ tally m p + (cond (p m) 1 0 + tally r (λ i. p (m + suc i))) =
        λ p.
        ap (λ j. tally j p) (sym e) ∙ tally_append m (suc r) p
        ∙ ap (λ t. tally m p + t) (tally_first r (λ i. p (m + i)) ∙ ap (λ j. cond (p j) 1 0 + tally r (λ i. p (m + suc i))) here) in
        let head = tally_same m (apart_at w) (λ i. apart_at z (m - 1 - i)) (λ i lt.
        let a : suc m - 1 - i ≡ suc (m - 1 - i) = omega arith in
        let b : suc m - 1 - suc i ≡ m - 1 - i = omega arith in
        ap₂ apart (inside i (omega arith) ∙ ap (λ j. side (z j)) a) (inside (suc i) (omega arith) ∙ ap (λ j. side (z j)) b)
        ∙ turned (z (m - 1 - i)) (z (suc (m - 1 - i)))) in
        let round = tally_reverse m (apart_at z) in
        let tail = tally_same r (λ i. apart_at w (m + suc i)) (λ i. apart_at z (m + suc i)) (λ i lt. ap₂ apart (outside (m + suc i) (omega arith) (omega arith)) (outside (suc (m + suc i)) (omega arith) (omega arith))) in
        let joint : ◌≡◌ {A = ℕ} (cond (apart_at w m) 1 0) (cond (apart (side (z 0)) (z (suc m))) 1 0) =
        let first : suc m - 1 - m ≡ 0 = omega arith in
        ap (λ (b : Bool). cond b 1 0) (ap₂ apart (inside m (omega arith) ∙ ap (λ j. side (z j)) first) (outside (suc m) (omega arith) le)) in
        let before = split (apart_at z) in
        let after = split (apart_at w) in
        omega arith

    -- So a block turned round lowers the number by at most 1.
    pub block_apart : (n k : ℕ) (z w : ℕ → A) → k ≤ n → ((i : ℕ) → i < k → w i ≡ side (z (k - 1 - i))) → ((i : ℕ) → k ≤ i → i ≤ n → w i ≡ z i) → tally n (apart_at z) ≤ tally n (apart_at w) + 1
    block_apart n zero z w le inside outside =
        let same = tally_same n (apart_at z) (apart_at w) (λ i lt. sym (ap₂ apart (outside i (omega arith) (omega arith)) (outside (suc i) (omega arith) (omega arith)))) in
        omega arith
    block_apart n (suc m) z w le inside outside =
        let recount = block_recount n m z w le inside outside in
        let one = one_at_most (apart_at z m) in
        omega arith

-- the next place round after the one that lies j steps on
next_on : (n a j : ℕ) → a < n → j < n → place_on n (place_on n a j) 1 ≡ place_on n a (suc j)
next_on n a j lt lj =
    let in' = on_within n a lt j lj in
    ⊎_elim
    (λ (near : a + j < n).
    let e = on_near n a lt j near in
    ⊎_elim
    (λ (more : a + suc j < n). let p = on_near n (place_on n a j) in' 1 (omega arith) in let q = on_near n a lt (suc j) more in omega arith)
    (λ (end : n ≤ a + suc j). let p = on_far n (place_on n a j) in' 1 (omega arith) in let q = on_far n a lt (suc j) end in omega arith)
    (cases_lt (a + suc j) n))
    (λ (far : n ≤ a + j). let e = on_far n a lt j far in let p = on_near n (place_on n a j) in' 1 (omega arith) in let q = on_far n a lt (suc j) (omega arith) in omega arith)
    (cases_lt (a + j) n)

module _ {A : Type 0} (f : TrayForm A) where
  -- what stands at place i of n trays with a plate below them, which counts as tray n + 1
  abbrev pub on_plate : ℕ → List A → ℕ → A
  on_plate n xs i = cond (ltb i n) (tray_at f xs i) (f.upright (n + 1))

  module _ (apart : A → A → Bool) (law : Apart f apart) (reg : Regular f) where
    pub plate_home : (n : ℕ) (xs : List A) → Ordered f reg n xs → tally n (apart_at apart (on_plate n xs)) ≡ 0
    plate_home n xs home =
        let at : (i : ℕ) → i ≤ n → on_plate n xs i ≡ f.upright (suc i) =
        λ i le.
        ⊎_elim
        (λ (lt : i < n). cond-true (ltb i n) (tray_at f xs i) (f.upright (n + 1)) (lt-ltb i n lt) ∙ home i lt)
        (λ (ge : n ≤ i). let e : n + 1 ≡ suc i = omega arith in cond-false (ltb i n) (tray_at f xs i) (f.upright (n + 1)) (le-ltb i n ge) ∙ ap f.upright e)
        (cases_lt i n) in
        tally_none n (apart_at apart (on_plate n xs)) (λ i lt. ap₂ apart (at i (omega arith)) (at (suc i) (omega arith)) ∙ law.risen (suc i))

    module _ (n k : ℕ) (xs ys : List A) (le : k ≤ n) (m : Moved f (block_move n k) xs ys) where
      tray : (zs : List A) (i : ℕ) → i < n → on_plate n zs i ≡ tray_at f zs i
      tray zs i lt = cond-true (ltb i n) (tray_at f zs i) (f.upright (n + 1)) (lt-ltb i n lt)

      at : (i : ℕ) → tray_at f ys i ≡ f.sided (ltb i k) (tray_at f xs (flip k i))
      at i = let same : min k n ≡ k = omega arith in subst (λ j. tray_at f ys i ≡ f.sided (ltb i j) (tray_at f xs (flip j i))) same (m.at i)

      in_block : (i : ℕ) → i < k → on_plate n ys i ≡ f.sided true (on_plate n xs (k - 1 - i))
      in_block i lt =
          tray ys i (omega arith) ∙ at i
          ∙ ap₂ (λ (b : Bool) (j : ℕ). f.sided b (tray_at f xs j)) (lt-ltb i k lt) (flip_low k i lt)
          ∙ ap (f.sided true) (sym (tray xs (k - 1 - i) (omega arith)))

      below_block : (i : ℕ) → k ≤ i → i ≤ n → on_plate n ys i ≡ on_plate n xs i
      below_block i ge le' =
          ⊎_elim
          (λ (lt : i < n).
          tray ys i lt ∙ at i
          ∙ ap₂ (λ (b : Bool) (j : ℕ). f.sided b (tray_at f xs j)) (le-ltb i k ge) (flip_high k i ge)
          ∙ reg.sided_not (tray_at f xs i)
          ∙ sym (tray xs i lt))
          (λ (past : n ≤ i).
          cond-false (ltb i n) (tray_at f ys i) (f.upright (n + 1)) (le-ltb i n past)
          ∙ sym (cond-false (ltb i n) (tray_at f xs i) (f.upright (n + 1)) (le-ltb i n past)))
          (cases_lt i n)

      pub plate_turned : tally n (apart_at apart (on_plate n xs)) ≤ tally n (apart_at apart (on_plate n ys)) + 1
      plate_turned = block_apart apart (f.sided true) law.turned n k (on_plate n xs) (on_plate n ys) le in_block below_block

    -- the number after turn k, by that before it
    pub plate_recount : (n m : ℕ) (xs ys : List A) → suc m ≤ n → Moved f (block_move n (suc m)) xs ys
        → tally n (apart_at apart (on_plate n ys)) + cond (apart (on_plate n xs m) (on_plate n xs (suc m))) 1 0
        ≡ tally n (apart_at apart (on_plate n xs)) + cond (apart (f.sided true (on_plate n xs 0)) (on_plate n xs (suc m))) 1 0
    plate_recount n m xs ys le moved =
        block_recount apart (f.sided true) law.turned n m (on_plate n xs) (on_plate n ys) le (in_block n (suc m) xs ys le moved) (below_block n (suc m) xs ys le moved)

  -- what stands at place i of a ring of n trays is apart from what comes next, place 1 after place n
  abbrev pub apart_round : (A → A → Bool) → ℕ → List A → ℕ → Bool
  apart_round apart n xs i = apart (tray_at f xs i) (tray_at f xs (place_on n i 1))

  module _ (apart : A → A → Bool) (symmetric : (x y : A) → apart y x ≡ apart x y) where
    -- counted round from place a
    ring_round : (n a : ℕ) (xs : List A) → a < n → tally n (apart_round apart n xs) ≡ tally n (apart_at apart (λ j. tray_at f xs (place_on n a j)))
    ring_round n a xs lt =
        tally_round n a (apart_round apart n xs) lt
        ∙ tally_same n (λ j. apart_round apart n xs (place_on n a j)) (apart_at apart (λ j. tray_at f xs (place_on n a j)))
        (λ j lj. ap (λ i. apart (tray_at f xs (place_on n a j)) (tray_at f xs i)) (next_on n a j lt lj))

    module _ (n r m a : ℕ) (xs ys : List A) (lt : a < n) (long : suc r ≡ n) (fits : suc m ≤ n) (run : RunReversed f n (suc m) a xs ys) where
      -- the tray that stands j steps on from the beginning of the run
      abbrev from : List A → ℕ → A
      from zs j = tray_at f zs (place_on n a j)

      -- the row after the turn, with the first tray before it once more at the end
      abbrev row : ℕ → A
      row j = cond (ltb j n) (from ys j) (from xs j)

      row_low : (j : ℕ) → j < n → row j ≡ from ys j
      row_low j lj = cond-true (ltb j n) (from ys j) (from xs j) (lt-ltb j n lj)

      in_run : (j : ℕ) → j < suc m → row j ≡ from xs (suc m - 1 - j)
      in_run j lj = row_low j (omega arith) ∙ run.inside j lj

      past_run : (j : ℕ) → suc m ≤ j → j ≤ n → row j ≡ from xs j
      past_run j ge le =
          ⊎_elim
          (λ (lj : j < n). row_low j lj ∙ run.outside (place_on n a j) (λ i li e. let p = to_on n a lt i (omega arith) in let q = to_on n a lt j lj in let s : steps_to n a (place_on n a j) ≡ steps_to n a (place_on n a i) = ap (steps_to n a) e in absurd (omega arith)))
          (λ (past : n ≤ j). cond-false (ltb j n) (from ys j) (from xs j) (le-ltb j n past))
          (cases_lt j n)

      round_again : (zs : List A) → from zs n ≡ from zs 0
      round_again zs = let p = on_far n a lt n (omega arith) in let q = on_near n a lt 0 (omega arith) in let e : place_on n a n ≡ place_on n a 0 = omega arith in ap (tray_at f zs) e

      -- the ring's number and that of the row, which ends otherwise
      ring_and_row : tally n (apart_at apart row) + cond (apart (row r) (from xs m)) 1 0 ≡ tally n (apart_round apart n ys) + cond (apart (row r) (from xs 0)) 1 0
      ring_and_row =
          let end = last_differs apart r (apart_at apart row) (apart_at apart (from ys)) (λ i li. ap₂ apart (row_low i (omega arith)) (row_low (suc i) (omega arith))) in
          let begin : suc m - 1 - 0 ≡ m = omega arith in
          let here : row r ≡ from ys r = row_low r (omega arith) in
          let after : from ys (suc r) ≡ from xs m = ap (from ys) long ∙ round_again ys ∙ sym (row_low 0 (omega arith)) ∙ in_run 0 (omega arith) ∙ ap (from xs) begin in
          let again : row (suc r) ≡ from xs 0 = ap row long ∙ past_run n fits (omega arith) ∙ round_again xs in
          let one : ◌≡◌ {A = ℕ} (cond (apart_at apart (from ys) r) 1 0) (cond (apart (row r) (from xs m)) 1 0) = ap (λ (b : Bool). cond b 1 0) (ap₂ apart (sym here) after) in
          let two : ◌≡◌ {A = ℕ} (cond (apart_at apart row r) 1 0) (cond (apart (row r) (from xs 0)) 1 0) = ap (λ b. cond (apart (row r) b) 1 0) again in
          let rows = ap (λ k. tally k (apart_at apart row)) long in
          let rings = ap (λ k. tally k (apart_at apart (from ys))) long in
          let round = ring_round n a ys lt in
          omega arith

      block : tally n (apart_at apart row) + cond (apart (from xs m) (from xs (suc m))) 1 0 ≡ tally n (apart_round apart n xs) + cond (apart (from xs 0) (from xs (suc m))) 1 0
      block = let turned = block_recount apart (λ t. t) symmetric n m (from xs) row fits in_run past_run in let round = ring_round n a xs lt in omega arith

      -- A run that is not the whole ring is turned round. Its last tray is then beside the one before it, and its first beside the one after it.
      pub ring_recount : suc m < n
          → tally n (apart_round apart n ys) + (cond (apart (from xs m) (from xs (suc m))) 1 0 + cond (apart (from xs r) (from xs 0)) 1 0)
          ≡ tally n (apart_round apart n xs) + (cond (apart (from xs 0) (from xs (suc m))) 1 0 + cond (apart (from xs r) (from xs m)) 1 0)
      ring_recount part =
          let last : row r ≡ from xs r = past_run r (omega arith) (omega arith) in
          let one : ◌≡◌ {A = ℕ} (cond (apart (row r) (from xs m)) 1 0) (cond (apart (from xs r) (from xs m)) 1 0) = ap (λ t. cond (apart t (from xs m)) 1 0) last in
          let two : ◌≡◌ {A = ℕ} (cond (apart (row r) (from xs 0)) 1 0) (cond (apart (from xs r) (from xs 0)) 1 0) = ap (λ t. cond (apart t (from xs 0)) 1 0) last in
          let first = ring_and_row in
          let second = block in
          omega arith

      -- Turned round as a whole, a ring keeps its neighbours.
      pub ring_whole : suc m ≡ n → tally n (apart_round apart n ys) ≡ tally n (apart_round apart n xs)
      ring_whole all =
          let same : r ≡ m = omega arith in
          let begin : suc m - 1 - r ≡ 0 = omega arith in
          let last : row r ≡ from xs 0 = in_run r (omega arith) ∙ ap (from xs) begin in
          let next : from xs (suc m) ≡ from xs 0 = ap (from xs) all ∙ round_again xs in
          let one : ◌≡◌ {A = ℕ} (cond (apart (row r) (from xs m)) 1 0) (cond (apart (from xs m) (from xs (suc m))) 1 0) =
          ap (λ t. cond (apart t (from xs m)) 1 0) last ∙ ap (λ (b : Bool). cond b 1 0) (symmetric (from xs m) (from xs 0)) ∙ ap (λ t. cond (apart (from xs m) t) 1 0) (sym next) in
          let two : ◌≡◌ {A = ℕ} (cond (apart (row r) (from xs 0)) 1 0) (cond (apart (from xs 0) (from xs (suc m))) 1 0) = ap₂ (λ t u. cond (apart t u) 1 0) last (sym next) in
          let first = ring_and_row in
          let second = block in
          omega arith

      -- So a run of any span turned round lowers the number by at most 2.
      pub ring_turned : tally n (apart_round apart n xs) ≤ tally n (apart_round apart n ys) + 2
      ring_turned =
          let first = one_at_most (apart (from xs m) (from xs (suc m))) in
          let second = one_at_most (apart (from xs r) (from xs 0)) in
          ⊎_elim (λ (part : suc m < n). let e = ring_recount part in omega arith) (λ (whole : n ≤ suc m). let e = ring_whole (omega arith) in omega arith) (cases_lt (suc m) n)
