use Rattle.std.proofs.Common.{◌≡◌, ℕ, ◌+◌, ◌-◌, ◌<◌, ◌≤◌, false, cond, ltb, leb, List, length, set, sym, refl, ap, ◌∙◌, subst, ⊎_elim, arith}
use Rattle.std.proofs.lemmas.Bool.{cases_eq, cases_lt, cond-true, cond-false, lt-ltb, le-ltb, le-leb, lt-leb}
use Rattle.std.proofs.lemmas.List.FromFn.{length-map-range_with_len, get_or-map-range_with_len}
use Rattle.std.proofs.lemmas.List.{ext_get_or, get_or_past, get_or-set_other, get_or-set_same, length-set}
use Rattle.trays.specs.Form.{TrayForm, Regular, tray_at}
use Rattle.trays.specs.Run.{RunReversed, place_on, steps_to, partner, run_turned}
use Rattle.trays.proofs.Exchange.{Move, Exchange, Moved}

module _ (n a : ℕ) (start : a < n) where
  pub on_near : (j : ℕ) → a + j < n → place_on n a j ≡ a + j
  on_near j lt = cond-true (ltb (a + j) n) (a + j) (a + j - n) (lt-ltb (a + j) n lt)

  pub on_far : (j : ℕ) → n ≤ a + j → place_on n a j ≡ a + j - n
  on_far j ge = cond-false (ltb (a + j) n) (a + j) (a + j - n) (le-ltb (a + j) n ge)

  to_near : (i : ℕ) → a ≤ i → steps_to n a i ≡ i - a
  to_near i le = cond-true (leb a i) (i - a) (i + n - a) (le-leb a i le)

  to_far : (i : ℕ) → i < a → steps_to n a i ≡ i + n - a
  to_far i lt = cond-false (leb a i) (i - a) (i + n - a) (lt-leb a i lt)

  pub on_within : (j : ℕ) → j < n → place_on n a j < n
  on_within j lt =
      ⊎_elim (λ (near : a + j < n). let e = on_near j near in omega arith) (λ (far : n ≤ a + j). let e = on_far j far in omega arith) (cases_lt (a + j) n)

  pub to_on : (j : ℕ) → j < n → steps_to n a (place_on n a j) ≡ j
  to_on j lt =
      ⊎_elim
      (λ (near : a + j < n). let e = on_near j near in let q = to_near (place_on n a j) (omega arith) in omega arith)
      (λ (far : n ≤ a + j). let e = on_far j far in let q = to_far (place_on n a j) (omega arith) in omega arith)
      (cases_lt (a + j) n)

  on_to : (i : ℕ) → i < n → place_on n a (steps_to n a i) ≡ i
  on_to i lt =
      ⊎_elim
      (λ (far : i < a). let e = to_far i far in let q = on_far (steps_to n a i) (omega arith) in omega arith)
      (λ (near : a ≤ i). let e = to_near i near in let q = on_near (steps_to n a i) (omega arith) in omega arith)
      (cases_lt i a)

  module _ (span : ℕ) (fits : span ≤ n) where
    -- the places before step j of the run have changed
    unfoldable pub changed : ℕ → ℕ → ℕ
    changed j i = cond (ltb i n) (cond (ltb (steps_to n a i) j) (place_on n a (span - 1 - steps_to n a i)) i) i

    changed_in : (j i : ℕ) → i < n → steps_to n a i < j → changed j i ≡ place_on n a (span - 1 - steps_to n a i)
    unfolding changed
    changed_in j i lt in' = cond-true (ltb i n) _ i (lt-ltb i n lt) ∙ cond-true (ltb (steps_to n a i) j) _ i (lt-ltb (steps_to n a i) j in')

    changed_out : (j i : ℕ) → i < n → j ≤ steps_to n a i → changed j i ≡ i
    unfolding changed
    changed_out j i lt out = cond-true (ltb i n) _ i (lt-ltb i n lt) ∙ cond-false (ltb (steps_to n a i) j) _ i (le-ltb (steps_to n a i) j out)

    changed_past : (j i : ℕ) → n ≤ i → changed j i ≡ i
    unfolding changed
    changed_past j i ge = cond-false (ltb i n) _ i (le-ltb i n ge)

    changed_all : (i : ℕ) → changed span i ≡ partner n span a i
    unfolding changed partner
    changed_all i = refl

    abbrev pub run_move : Move
    run_move = record { to = partner n span a; over = λ i. false }

    pub run_exchange : Exchange n run_move
    run_exchange = record {
      twice = λ i.
          ⊎_elim
          (λ (lt : i < n).
          ⊎_elim
          (λ (in' : steps_to n a i < span).
          let j = span - 1 - steps_to n a i in
          let there = sym (changed_all i) ∙ changed_in span i lt in' in
          let back = to_on j (omega arith) in
          let again = on_to i lt in
          let e : span - 1 - j ≡ steps_to n a i = omega arith in
          ap (partner n span a) there
          ∙ sym (changed_all (place_on n a j))
          ∙ changed_in span (place_on n a j) (on_within j (omega arith)) (omega arith)
          ∙ ap (λ (k : ℕ). place_on n a (span - 1 - k)) back
          ∙ ap (place_on n a) e
          ∙ again)
          (λ (out : span ≤ steps_to n a i). let stays = sym (changed_all i) ∙ changed_out span i lt out in ap (partner n span a) stays ∙ stays)
          (cases_lt (steps_to n a i) span))
          (λ (ge : n ≤ i). let stays = sym (changed_all i) ∙ changed_past span i ge in ap (partner n span a) stays ∙ stays)
          (cases_lt i n);
      within = λ i lt.
          ⊎_elim
          (λ (in' : steps_to n a i < span). let there = sym (changed_all i) ∙ changed_in span i lt in' in let w = on_within (span - 1 - steps_to n a i) (omega arith) in omega arith)
          (λ (out : span ≤ steps_to n a i). let stays = sym (changed_all i) ∙ changed_out span i lt out in omega arith)
          (cases_lt (steps_to n a i) span);
      beyond = λ i ge. sym (changed_all i) ∙ changed_past span i ge;
      over_both = λ i. refl;
      over_none = λ i ge. refl;
    }

    module _ {A : Type 0} (f : TrayForm A) (xs : List A) (long : length xs ≡ 32) (few : n ≤ 32) where
      run_at : (i : ℕ) → i < 32 → tray_at f (run_turned f n span a xs) i ≡ tray_at f xs (partner n span a i)
      unfolding run_turned
      run_at i lt = get_or-map-range_with_len (λ i. tray_at f xs (partner n span a i)) 0 32 i i (f.upright 0) lt (omega arith)

      length_run : length (run_turned f n span a xs) ≡ 32
      unfolding run_turned
      length_run = length-map-range_with_len (λ i. tray_at f xs (partner n span a i)) 0 32

      pub run_moved : Regular f → Moved f run_move xs (run_turned f n span a xs)
      run_moved reg = record {
        long = length_run ∙ sym long;
        at = λ i.
            ⊎_elim
            (λ (lt : i < 32). run_at i lt)
            (λ (ge : 32 ≤ i).
            let l = length_run in
            get_or_past (run_turned f n span a xs) i (f.upright 0) (omega arith)
            ∙ sym (ap (tray_at f xs) (run_exchange.beyond i (omega arith)) ∙ get_or_past xs i (f.upright 0) (omega arith)))
            (cases_lt i 32)
            ∙ sym (reg.sided_not (tray_at f xs (partner n span a i)));
      }

      -- the trays once the places before step j of the run are written
      pub record Spun (j : ℕ) (ts : List A) : Type 0 where
        pub sized : length ts ≡ 32
        pub at : (i : ℕ) → i < 32 → tray_at f ts i ≡ tray_at f xs (changed j i)

      pub spun_none : Spun 0 xs
      spun_none = record {
        sized = long;
        at = λ i lt.
            ap (tray_at f xs) (sym (⊎_elim (λ (in' : i < n). changed_out 0 i in' (omega arith)) (λ (ge : n ≤ i). changed_past 0 i ge) (cases_lt i n)));
      }

      -- a place that is not step j of the run stays as it is
      changed_same : (j i : ℕ) → j < span → (i ≡ place_on n a j → ⊥) → changed j i ≡ changed (j + 1) i
      changed_same j i lt ne =
          ⊎_elim
          (λ (in' : i < n).
          ⊎_elim
          (λ (before : steps_to n a i < j). changed_in j i in' before ∙ sym (changed_in (j + 1) i in' (omega arith)))
          (λ (after : j ≤ steps_to n a i).
          let apart : steps_to n a i ≡ j → ⊥ = λ e. ne (sym (on_to i in') ∙ ap (place_on n a) e) in
          let past : j + 1 ≤ steps_to n a i = ⊎_elim (λ (e : steps_to n a i ≡ j). absurd (apart e)) (λ (o : steps_to n a i ≡ j → ⊥). omega arith) (cases_eq (steps_to n a i) j) in
          changed_out j i in' after ∙ sym (changed_out (j + 1) i in' past))
          (cases_lt (steps_to n a i) j))
          (λ (ge : n ≤ i). changed_past j i ge ∙ sym (changed_past (j + 1) i ge))
          (cases_lt i n)

      pub spun_more : (j at' : ℕ) (ts : List A) (t : A) → j < span → at' ≡ place_on n a j → t ≡ tray_at f xs (place_on n a (span - 1 - j)) → Spun j ts → Spun (j + 1) (set ts at' t)
      spun_more j at' ts t lt place is h =
          let l = h.sized in
          let w = on_within j (omega arith) in
          record {
            sized = length-set ts at' t ∙ l;
            at = λ i li.
                ⊎_elim
                (λ (e : i ≡ at').
                let q = to_on j (omega arith) in
                let step : steps_to n a i ≡ j = ap (steps_to n a) (e ∙ place) ∙ q in
                subst (λ (k : ℕ). tray_at f (set ts at' t) k ≡ t) (sym e) (get_or-set_same ts at' t (f.upright 0) (omega arith))
                ∙ is
                ∙ ap (λ (k : ℕ). tray_at f xs (place_on n a (span - 1 - k))) (sym step)
                ∙ ap (tray_at f xs) (sym (changed_in (j + 1) i (omega arith) (omega arith))))
                (λ (ne : i ≡ at' → ⊥).
                get_or-set_other ts at' i t (f.upright 0) ne ∙ h.at i li ∙ ap (tray_at f xs) (changed_same j i lt (λ e. ne (e ∙ sym place))))
                (cases_eq i at');
          }

      pub spun_all : (ts : List A) → Spun span ts → ts ≡ run_turned f n span a xs
      spun_all ts h =
          let l = h.sized in
          let b = length_run in
          ext_get_or (f.upright 0) ts (run_turned f n span a xs) (omega arith)
          (λ i lt. h.at i (omega arith) ∙ ap (tray_at f xs) (changed_all i) ∙ sym (run_at i (omega arith)))

      -- the run is turned round, and nothing else is moved
      pub run_reversed : RunReversed f n span a xs (run_turned f n span a xs)
      run_reversed = record {
        inside = λ j lt.
            let w = on_within j (omega arith) in
            let e = to_on j (omega arith) in
            run_at (place_on n a j) (omega arith)
            ∙ ap (tray_at f xs) (sym (changed_all (place_on n a j)) ∙ changed_in span (place_on n a j) w (omega arith) ∙ ap (λ (k : ℕ). place_on n a (span - 1 - k)) e);
        outside = λ i off.
            let l = length_run in
            ⊎_elim
            (λ (in' : i < n).
            let past : span ≤ steps_to n a i = ⊎_elim (λ (low : steps_to n a i < span). absurd (off (steps_to n a i) low (sym (on_to i in')))) (λ (high : span ≤ steps_to n a i). high) (cases_lt (steps_to n a i) span) in
            run_at i (omega arith) ∙ ap (tray_at f xs) (sym (changed_all i) ∙ changed_out span i in' past))
            (λ (ge : n ≤ i).
            ⊎_elim
            (λ (lt : i < 32). run_at i lt ∙ ap (tray_at f xs) (run_exchange.beyond i ge))
            (λ (out : 32 ≤ i). get_or_past (run_turned f n span a xs) i (f.upright 0) (omega arith) ∙ sym (get_or_past xs i (f.upright 0) (omega arith)))
            (cases_lt i 32))
            (cases_lt i n);
      }
