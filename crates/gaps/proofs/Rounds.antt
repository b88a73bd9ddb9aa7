use Rattle.std.proofs.Common.{◌≡◌, ℕ, suc, ◌+◌, ◌-◌, ◌<◌, min, cond, List, length, get_or, take, sym, ap, ap₂, ◌∙◌, arith}
use Rattle.std.proofs.lemmas.List.{get_or-take}
use Rattle.trays.specs.Form.{number_tray, tray_at}
use Rattle.trays.specs.Run.{place_on}
use Rattle.trays.proofs.Held.{held_long}
use Rattle.trays.proofs.Neighbours.{apart_round, ring_recount, ring_whole}
use Rattle.trays.proofs.Runs.{on_near, on_within}
use Rattle.trays.proofs.Tally.{one_at_most, tally_le}
use Rattle.ring.specs.declared.tray_ring.TrayRing.{TrayRing}
use Rattle.ring.specs.Ring.{start, start_within, turned}
use Rattle.gaps.specs.Counts.{ring_gap, ring_gaps}
use Rattle.gaps.specs.Laws.{ring_gap_symmetric, ring_gaps-tally, run_turned}

-- The gaps of a ring after a turn, by those before it.
module _ (s : TrayRing) (begin here : ℕ) (trays : List ℕ) (within : begin < length trays) (all : trays ≡ take s.arrangement.n s.arrangement.trays) (is_here : here ≡ ring_gaps s) where
  abbrev p : ℕ
  p = begin + 1

  abbrev from : ℕ → ℕ
  from j = tray_at number_tray s.arrangement.trays (place_on s.arrangement.n (start s.arrangement.n p) j)

  long : length trays ≡ s.arrangement.n
  long = ap length all ∙ held_long s.arrangement

  begins : start s.arrangement.n p ≡ begin
  begins = let long = long in omega arith

  -- a tray j steps on from the beginning of the run
  on_from : (j x : ℕ) → j < s.arrangement.n → x ≡ get_or trays (place_on (length trays) begin j) 0 → x ≡ from j
  on_from j x lt is =
      let n = s.arrangement.n in
      let on = on_within n (start n p) (start_within s p) j lt in
      is
      ∙ ap₂ (λ xs i. get_or xs i 0) all (ap₂ (λ l a. place_on l a j) long (sym begins))
      ∙ get_or-take n s.arrangement.trays (place_on n (start n p) j) 0 on

  pub whole_turned : s.span ≡ length trays → here ≡ ring_gaps (turned s p)
  whole_turned all_of_it =
      let n = s.arrangement.n in
      let t = turned s p in
      let before = ring_gaps-tally s in
      let after = ring_gaps-tally t in
      let long = long in
      let some = s.span_least in
      let turn = ring_whole number_tray (ring_gap n) (ring_gap_symmetric n) n (n - 1) (s.span - 1) (start n p) s.arrangement.trays t.arrangement.trays (start_within s p) (omega arith) (omega arith) (run_turned s p) (omega arith) in
      omega arith

  pub part_turned : (first last next before joined parted result : ℕ) → s.span < length trays → first ≡ get_or trays begin 0
      → last ≡ get_or trays (place_on (length trays) begin (s.span - 1)) 0
      → next ≡ get_or trays (place_on (length trays) begin s.span) 0
      → before ≡ get_or trays (place_on (length trays) begin (length trays - 1)) 0
      → joined ≡ cond (ring_gap (length trays) first next) 1 0 + cond (ring_gap (length trays) before last) 1 0
      → parted ≡ cond (ring_gap (length trays) last next) 1 0 + cond (ring_gap (length trays) before first) 1 0
      → result ≡ min (here + joined) 255 - parted → result ≡ ring_gaps (turned s p)
  part_turned first last next before joined parted result part at_first at_last at_next at_before is_joined is_parted is =
      let n = s.arrangement.n in
      let r = n - 1 in
      let m = s.span - 1 in
      let t = turned s p in
      let count = ring_gaps-tally s in
      let after = ring_gaps-tally t in
      let long = long in
      let some = s.span_least in
      let most = s.arrangement.most in
      let few = tally_le n (apart_round number_tray (ring_gap n) n s.arrangement.trays) in
      let next_place : s.span ≡ suc m = omega arith in
      let last_place : length trays - 1 ≡ r = omega arith in
      let here : begin ≡ place_on (length trays) begin 0 = let e = on_near (length trays) begin (omega arith) 0 (omega arith) in omega arith in
      let one = on_from 0 first (omega arith) (at_first ∙ ap (λ i. get_or trays i 0) here) in
      let two = on_from m last (omega arith) at_last in
      let three = on_from (suc m) next (omega arith) (at_next ∙ ap (λ j. get_or trays (place_on (length trays) begin j) 0) next_place) in
      let four = on_from r before (omega arith) (at_before ∙ ap (λ j. get_or trays (place_on (length trays) begin j) 0) last_place) in
      let pair : (x x' y y' : ℕ) → x ≡ x' → y ≡ y' → ◌≡◌ {A = ℕ} (cond (ring_gap (length trays) x y) 1 0) (cond (ring_gap n x' y') 1 0) = λ x x' y y' e f. ap (λ l. cond (ring_gap l x y) 1 0) long ∙ ap₂ (λ a b. cond (ring_gap n a b) 1 0) e f in
      let a = pair first (from 0) next (from (suc m)) one three in
      let b = pair before (from r) last (from m) four two in
      let c = pair last (from m) next (from (suc m)) two three in
      let d = pair before (from r) first (from 0) four one in
      let a' = one_at_most (ring_gap n (from 0) (from (suc m))) in
      let b' = one_at_most (ring_gap n (from r) (from m)) in
      let turn = ring_recount number_tray (ring_gap n) (ring_gap_symmetric n) n r m (start n p) s.arrangement.trays t.arrangement.trays (start_within s p) (omega arith) (omega arith) (run_turned s p) (omega arith) in
      omega arith
