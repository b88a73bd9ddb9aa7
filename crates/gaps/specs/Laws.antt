use Rattle.std.proofs.Common.{◌≡◌, ℕ, suc, ◌+◌, ◌-◌, ◌<◌, ◌≤◌, Bool, true, false, cond, not, ltb, List, [], ◌∷◌, ◌++◌, length, get_or, take, ◌==◌, ◌||◌, ℤ, neg_ℤ, pos, ◌+ℤ◌, sym, refl, ap, ap₂, ◌∙◌, subst, arith, ⊎_elim}
use Rattle.std.proofs.lemmas.Bool.{cases_lt, cond-true, cond-false, lt-ltb, le-ltb}
use Rattle.std.proofs.lemmas.List.{get_or_default, get_or_past, get_or-take}
use Rattle.std.proofs.lemmas.List.Sums.{sum_by-cons}
use Rattle.std.proofs.lemmas.Bool.Decides.{Decides-eqb, Decides-int_eq, Decides-like, same_from_decides}
use Rattle.std.proofs.lemmas.Int.{ints}
use Rattle.std.proofs.Math.IntN.{neg_ℤ-neg_ℤ}
use Rattle.std.specs.Ordering.{int_eq}
use Rattle.std.specs.Int.{abs_diff}
use Rattle.std.specs.List.{zip}
use Rattle.estimate.specs.Meaning.{Consistent, IsEstimate}
use Rattle.estimate.specs.Laws.{consistent_admissible}
use Rattle.trays.specs.Form.{TrayForm, number_regular, number_tray, tray_at}
use Rattle.trays.specs.Run.{RunReversed, place_on}
use Rattle.trays.specs.declared.tray.Tray.{Ghosts}
use Rattle.trays.proofs.Held.{held_long}
use Rattle.trays.specs.Apart.{Apart}
use Rattle.trays.proofs.Neighbours.{apart_at, on_plate, plate_home, plate_turned, apart_round, ring_turned}
use Rattle.trays.proofs.Permutations.{first_in_order}
use Rattle.trays.proofs.Runs.{on_far, on_near, on_within, run_reversed}
use Rattle.trays.proofs.Tally.{tally, tally_first, tally_le, tally_none, tally_same, tally_zero}
use Rattle.ring.specs.declared.tray_ring.TrayRing.{TrayRing}
use Rattle.ring.specs.Ring as rings
use Rattle.ring.specs.Ring.{ring, start, start_within}
use Rattle.towers.specs.declared.tower.Tower.{Tower}
use Rattle.towers.specs.declared.sided_tray.SidedTray.{SidedTray}
use Rattle.towers.specs.Towers.{permuted, tower, turn_moves}
use Rattle.towers.specs.Tray.{sided_tray}
use Rattle.gaps.specs.Counts.{apart_count, tower_count, gap, gaps, signed, breakpoint, breakpoints, ring_gap, ring_gaps, half_gaps}

-- the count, put by place; past the last item stands `end`
pub apart_count-tally : {A : Type 0} (apart : A → A → Bool) (xs : List A) (end : A) → apart_count apart xs end ≡ tally (length xs) (apart_at apart (λ i. get_or xs i end))
unfolding apart_count
apart_count-tally apart [] end = sym (tally_zero (apart_at apart (λ i. end)))
apart_count-tally apart (x ∷ []) end = sym (let none = tally_zero (λ i. apart_at apart (λ i. get_or (x ∷ []) i end) (suc i)) in tally_first 0 (apart_at apart (λ i. get_or (x ∷ []) i end)) ∙ omega arith)
apart_count-tally apart (x ∷ y ∷ ys) end =
    sum_by-cons (λ p. cond (apart p.0 p.1) 1 0) (x, y) (zip (y ∷ ys) (ys ++ end ∷ []))
    ∙ ap (λ t. cond (apart x y) 1 0 + t) (apart_count-tally apart (y ∷ ys) end)
    ∙ sym (tally_first (suc (length ys)) (apart_at apart (λ i. get_or (x ∷ y ∷ ys) i end)))

-- Towers.

-- what stands at a place of a tower, or the plate past the last tray
pub held_at : {A : Type 0} {b : Ghosts A} (s : Tower A b) (i : ℕ) → i ≤ s.arrangement.n → get_or (take s.arrangement.n s.arrangement.trays) i (b.form.upright (s.arrangement.n + 1)) ≡ on_plate b.form s.arrangement.n s.arrangement.trays i
held_at {b = b} s i le =
    let n = s.arrangement.n in
    let xs = s.arrangement.trays in
    let most = s.arrangement.most in
    let long = (permuted s).long in
    let plate = b.form.upright (n + 1) in
    let first = held_long s.arrangement in
    ⊎_elim
    (λ (lt : i < n).
    get_or-take n xs i plate lt
    ∙ get_or_default xs i plate (b.form.upright 0) (omega arith)
    ∙ sym (cond-true (ltb i n) (tray_at b.form xs i) plate (lt-ltb i n lt)))
    (λ (past : n ≤ i). get_or_past (take n xs) i plate (omega arith) ∙ sym (cond-false (ltb i n) (tray_at b.form xs i) plate (le-ltb i n past)))
    (cases_lt i n)

module _ {A : Type 0} {b : Ghosts A} (apart : A → A → Bool) where
  pub tower_count-tally : (s : Tower A b) → tower_count apart s ≡ tally s.arrangement.n (apart_at apart (on_plate b.form s.arrangement.n s.arrangement.trays))
  unfolding tower_count
  tower_count-tally s =
      let n = s.arrangement.n in
      let xs = s.arrangement.trays in
      let plate = b.form.upright (n + 1) in
      let first = held_long s.arrangement in
      apart_count-tally apart (take n xs) plate
      ∙ ap (λ k. tally k (apart_at apart (λ i. get_or (take n xs) i plate))) first
      ∙ tally_same n (apart_at apart (λ i. get_or (take n xs) i plate)) (apart_at apart (on_plate b.form n xs)) (λ i lt. ap₂ apart (held_at s i (omega arith)) (held_at s (suc i) (omega arith)))

  module _ (law : Apart b.form apart) (low : ℕ) where
    pub tower_consistent : Consistent (tower {b = b} low) 1 (tower_count apart)
    tower_consistent = record {
      home = λ s home.
          let most = s.arrangement.most in
          let long = (permuted s).long in
          tower_count-tally s
          ∙ plate_home b.form apart law b.regular s.arrangement.n s.arrangement.trays ((first_in_order b.form b.regular s.arrangement.n s.arrangement.trays (omega arith)).0 home);
      turn = λ s k r.
          let t = (tower {b = b} low).after s k in
          let high = r.high in
          let before = tower_count-tally s in
          let after = tower_count-tally t in
          let turn = plate_turned b.form apart law b.regular s.arrangement.n k s.arrangement.trays t.arrangement.trays high (turn_moves s k) in
          omega arith;
    }

    pub tower_sound : IsEstimate (tower {b = b} low) (tower_count apart)
    tower_sound = record {
      to_highest = λ s. let most = s.arrangement.most in let count = tower_count-tally s in let few = tally_le s.arrangement.n (apart_at apart (on_plate b.form s.arrangement.n s.arrangement.trays)) in omega arith;
      admissible = consistent_admissible (tower low) (tower_count apart) tower_consistent;
    }

pub gap_apart : Apart number_tray gap
gap_apart = record {
  turned = λ x y. let e : abs_diff y x ≡ abs_diff x y = omega arith in ap (ltb 1) e;
  risen = λ v. le-ltb 1 (abs_diff v (suc v)) (omega arith);
}

pub gaps_consistent : {b : Ghosts ℕ} → b.form ≡ number_tray → Consistent (tower {b = b} 2) 1 gaps
gaps_consistent e = tower_consistent gap (subst (λ (f : TrayForm ℕ). Apart f gap) (sym e) gap_apart) 2

-- the other side of a tray is its opposite
signed_over : (number : ℕ) (away : Bool) → signed (record { number = number; away = not away }) ≡ neg_ℤ (signed (record { number = number; away = away }))
signed_over number true = sym (neg_ℤ-neg_ℤ (pos number))
signed_over number false = refl

-- one more than a number, read from the other side
int_eq_over : (a b : ℤ) → int_eq (neg_ℤ a) (neg_ℤ b +ℤ pos 1) ≡ int_eq b (a +ℤ pos 1)
int_eq_over a b =
    same_from_decides _ _ (Decides-int_eq (neg_ℤ a) (neg_ℤ b +ℤ pos 1))
    (Decides-like (int_eq b (a +ℤ pos 1)) (λ h. omega (arith, ints)) (λ h. omega (arith, ints)) (Decides-int_eq b (a +ℤ pos 1)))

pub breakpoint_apart : Apart sided_tray breakpoint
breakpoint_apart = record {
  turned = λ x y.
      ap₂ (λ (a b : ℤ). not (int_eq a (b +ℤ pos 1))) (signed_over x.number x.away) (signed_over y.number y.away)
      ∙ ap not (int_eq_over (signed x) (signed y));
  risen = λ v. ap not ((Decides-int_eq (pos (suc v)) (pos v +ℤ pos 1)).1 (omega (arith, ints)));
}

pub breakpoints_consistent : {b : Ghosts SidedTray} → b.form ≡ sided_tray → Consistent (tower {b = b} 1) 1 breakpoints
breakpoints_consistent e = tower_consistent breakpoint (subst (λ (f : TrayForm SidedTray). Apart f breakpoint) (sym e) breakpoint_apart) 1

-- The ring.

pub ring_gaps-tally : (s : TrayRing) → ring_gaps s ≡ tally s.arrangement.n (apart_round number_tray (ring_gap s.arrangement.n) s.arrangement.n s.arrangement.trays)
ring_gaps-tally s =
    let n = s.arrangement.n in
    let xs = s.arrangement.trays in
    let least = s.least in
    let most = s.arrangement.most in
    let long = (rings.permuted s).long in
    let end = get_or (take n xs) 0 0 in
    let first = held_long s.arrangement in
    let at : (i : ℕ) → i < n → get_or (take n xs) i end ≡ tray_at number_tray xs i =
    λ i lt. get_or-take n xs i end lt ∙ get_or_default xs i end 0 (omega arith) in
    let next : (i : ℕ) → i < n → get_or (take n xs) (suc i) end ≡ tray_at number_tray xs (place_on n i 1) =
    λ i lt.
    ⊎_elim
    (λ (more : suc i < n). let p = on_near n i lt 1 (omega arith) in let e : suc i ≡ place_on n i 1 = omega arith in at (suc i) more ∙ ap (tray_at number_tray xs) e)
    (λ (past : n ≤ suc i).
    let p = on_far n i lt 1 (omega arith) in
    let e : 0 ≡ place_on n i 1 = omega arith in
    get_or_past (take n xs) (suc i) end (omega arith) ∙ get_or-take n xs 0 0 (omega arith) ∙ ap (tray_at number_tray xs) e)
    (cases_lt (suc i) n) in
    apart_count-tally (ring_gap n) (take n xs) end
    ∙ ap (λ k. tally k (apart_at (ring_gap n) (λ i. get_or (take n xs) i end))) first
    ∙ tally_same n (apart_at (ring_gap n) (λ i. get_or (take n xs) i end)) (apart_round number_tray (ring_gap n) n xs) (λ i lt. ap₂ (ring_gap n) (at i lt) (next i lt))

pub ring_gap_symmetric : (n x y : ℕ) → ring_gap n y x ≡ ring_gap n x y
ring_gap_symmetric n x y = let e : abs_diff y x ≡ abs_diff x y = omega arith in ap (λ d. not (d == 1 || d == n - 1)) e

or_true : (b : Bool) → (b || true) ≡ true
or_true true = refl
or_true false = refl

-- at home the next tray round is one more, or the first after the last
ring_gap_home : (n i : ℕ) → i < n → ring_gap n (suc i) (suc (place_on n i 1)) ≡ false
ring_gap_home n i lt =
    ⊎_elim
    (λ (more : suc i < n).
    let p = on_near n i lt 1 (omega arith) in
    let e : abs_diff (suc i) (suc (place_on n i 1)) ≡ 1 = omega arith in
    ap (λ d. not (d == 1 || d == n - 1)) e)
    (λ (past : n ≤ suc i).
    let p = on_far n i lt 1 (omega arith) in
    let e : abs_diff (suc i) (suc (place_on n i 1)) ≡ n - 1 = omega arith in
    ap (λ d. not (d == 1 || d == n - 1)) e ∙ ap not (ap (λ b. (n - 1) == 1 || b) ((Decides-eqb (n - 1) (n - 1)).1 refl) ∙ or_true ((n - 1) == 1)))
    (cases_lt (suc i) n)

-- the run of turn p, whose span is above 0
pub run_turned : (s : TrayRing) (p : ℕ) → RunReversed number_tray s.arrangement.n (suc (s.span - 1)) (start s.arrangement.n p) s.arrangement.trays (ring.after s p).arrangement.trays
run_turned s p =
    let n = s.arrangement.n in
    let low = s.span_least in
    let e : s.span ≡ suc (s.span - 1) = omega arith in
    subst (λ (span : ℕ). RunReversed number_tray n span (start n p) s.arrangement.trays (ring.after s p).arrangement.trays) e
    (run_reversed n (start n p) (start_within s p) s.span s.span_most number_tray s.arrangement.trays (rings.permuted s).long s.arrangement.most)

pub ring_consistent : Consistent ring 2 ring_gaps
ring_consistent = record {
  home = λ s home.
      let n = s.arrangement.n in
      let xs = s.arrangement.trays in
      let most = s.arrangement.most in
      let long = (rings.permuted s).long in
      let ordered = (first_in_order number_tray number_regular n xs (omega arith)).0 home in
      ring_gaps-tally s
      ∙ tally_none n (apart_round number_tray (ring_gap n) n xs) (λ i lt. ap₂ (ring_gap n) (ordered i lt) (ordered (place_on n i 1) (on_within n i lt 1 (let l = s.least in omega arith))) ∙ ring_gap_home n i lt);
  turn = λ s p r.
      let n = s.arrangement.n in
      let t = ring.after s p in
      let low = s.span_least in
      let before = ring_gaps-tally s in
      let after = ring_gaps-tally t in
      let turn = ring_turned number_tray (ring_gap n) (ring_gap_symmetric n) n (n - 1) (s.span - 1) (start n p) s.arrangement.trays t.arrangement.trays (start_within s p) (omega arith) (let fits = s.span_most in omega arith) (run_turned s p) in
      omega arith;
}

pub half_consistent : Consistent ring 1 half_gaps
half_consistent = record {
  home = λ s home. let zero = ring_consistent.home s home in omega arith;
  turn = λ s p r. let turn = ring_consistent.turn s p r in omega arith;
}

pub half_sound : IsEstimate ring half_gaps
half_sound = record {
  to_highest = λ s.
      let n = s.arrangement.n in
      let most = s.arrangement.most in
      let count = ring_gaps-tally s in
      let few = tally_le n (apart_round number_tray (ring_gap n) n s.arrangement.trays) in
      omega arith;
  admissible = consistent_admissible ring half_gaps half_consistent;
}
