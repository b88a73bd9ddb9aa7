use Rattle.std.proofs.Common.{◌≡◌, ℕ, ◌-◌, ◌≤◌, true, min, List, [], ◌∷◌, ◌++◌, map, reverse, length, take, drop, refl, sym, ap, ap₂, ◌∙◌, subst, take-append-drop, arith}
use Rattle.std.proofs.lemmas.List.{length-reverse, length-take-le, map-id}
use Rattle.std.proofs.Math.Seq.{drop-append_seam, take-append_seam}
use Rattle.gaps.specs.Counts.{tower_count, apart_count}
use Rattle.std.specs.List.{AllByRecursion}
use Rattle.reversal.specs.Reversed.{flipped}
use Rattle.search.specs.Search.{Search}
use Rattle.towers.specs.Laws.{same_tower}
use Rattle.towers.specs.Towers.{mirrored, permuted}
use Rattle.towers.specs.Tray.{sided_tray}
use Rattle.trays.specs.Form.{TrayForm, number_tray}
use Rattle.trays.specs.Permutation.{permutation, every, some, last, in_order, inverse}
use Rattle.ring.specs.declared.tray_ring.TrayRing.{TrayRing}
use Rattle.ring.specs.Ring as rings
use Rattle.ring.specs.Ring.{ring, start, start_within}
use Rattle.trays.specs.Run.{RunReversed, partner, run_turned}
use Rattle.trays.proofs.Runs.{run_reversed}
use Rattle.trays.specs.Sides.{turned_over}
use Rattle.worked.specs.Machines.{three_away_one_two, away_two_three_one}
use Rattle.worked.specs.Worked.{WorkedExamples, worked_searches}

-- Trays without sides are only turned round.
only_turned_round : (k : ℕ) (xs : List ℕ) → turned_over number_tray k (flipped k xs) ≡ flipped k xs
only_turned_round k xs = ap (λ (l : List ℕ). l ++ drop k (flipped k xs)) (map-id (take k (flipped k xs))) ∙ take-append-drop k (flipped k xs)

-- The block is turned round, and then over.
round_and_over : {A : Type 0} (f : TrayForm A) (k : ℕ) (xs : List A) → k ≤ length xs → turned_over f k (flipped k xs) ≡ map (f.sided true) (reverse (take k xs)) ++ drop k xs
round_and_over f k xs le =
    let block = reverse (take k xs) in
    let long : length block ≡ k = length-reverse (take k xs) ∙ length-take-le k xs le in
    ap₂ (λ a b. map (f.sided true) a ++ b)
    (ap (λ n. take n (block ++ drop k xs)) (sym long) ∙ take-append_seam block (drop k xs))
    (ap (λ n. drop n (block ++ drop k xs)) (sym long) ∙ drop-append_seam block (drop k xs))

-- The run of turn p begins at place p.
run_round : (s : TrayRing) (p : ℕ) → 1 ≤ p → p ≤ s.arrangement.n → RunReversed number_tray s.arrangement.n s.span (p - 1) s.arrangement.trays (ring.after s p).arrangement.trays
run_round s p low high =
    let n = s.arrangement.n in
    let begins : start n p ≡ p - 1 = omega arith in
    subst (λ (a : ℕ). RunReversed number_tray n s.span a s.arrangement.trays (ring.after s p).arrangement.trays) begins
    (run_reversed n (start n p) (start_within s p) s.span s.span_most number_tray s.arrangement.trays (rings.permuted s).long s.arrangement.most)

-- Each other fact is shown by computing both its sides.
pub worked_examples : WorkedExamples
unfolding worked_searches permutation every some last in_order inverse partner run_turned tower_count apart_count
worked_examples = record {
  plain_turn = λ s k. only_turned_round (min k s.arrangement.n) s.arrangement.trays;
  sided_turn = λ s k. let most = s.arrangement.most in let long = (permuted s).long in round_and_over sided_tray (min k s.arrangement.n) s.arrangement.trays (omega arith);
  ring_turn = run_round;
  ring_span = λ s p. refl;
  one_gaps = refl;
  two_gaps = refl;
  three_gaps = refl;
  three_look_ahead = refl;
  three_estimate = refl;
  four_gaps = refl;
  away_breakpoints = refl;
  both_away_breakpoints = refl;
  sided_breakpoints = refl;
  one_away_breakpoints = refl;
  sided_dual = same_tower (mirrored three_away_one_two) away_two_three_one refl refl;
  swapped_ring_gaps = refl;
  swapped_half_gaps = refl;
  both_swapped_half_gaps = refl;
  moved_half_gaps = refl;
  moved_not_home = refl;
  searches = (refl, (refl, (refl, (refl, (refl, (refl, (refl, (refl, (refl, (refl, (refl, (refl, (refl, (refl, tt))))))))))))));
}

looks_told : (ws : List (Search × Search)) → AllByRecursion (λ w. w.0 ≡ w.1) ws → map (λ w. w.0.looks) ws ≡ map (λ w. w.1.looks) ws
looks_told [] same = refl
looks_told (w ∷ ws) same = ap₂ (λ x l. x ∷ l) (ap (λ x. x.looks) same.0) (looks_told ws same.1)

pub looks_counted : map (λ w. w.0.looks) worked_searches ≡ 1 ∷ 2 ∷ 1 ∷ 7 ∷ 4 ∷ 3 ∷ 1 ∷ 13 ∷ 2 ∷ 13 ∷ 10 ∷ 11 ∷ 2 ∷ 9 ∷ []
unfolding worked_searches
looks_counted = looks_told worked_searches worked_examples.searches
