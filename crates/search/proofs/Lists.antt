use Rattle.std.proofs.Common.{◌≡◌, ℕ, zero, suc, ◌+◌, ◌-◌, ◌≤◌, ◌<◌, Bool, true, not, List, [], ◌∷◌, length, sym, subst, ap, ◌∙◌, arith, ⊎_elim, ◌==◌}
use mathlib.Core.Logic.{inl, inr}
use Rattle.std.proofs.lemmas.Bool.{cases_eq, both_ways, cond_both, eqb-true, not_from_false, false_from_ne_true}
use Rattle.std.specs.List.{AllByRecursion as Each, filter, range_with_len}
use Rattle.machine.specs.Meaning.{Meaning, InRange, Lawful, Brings}
use Rattle.machine.specs.Turns.{turns}
use Rattle.search.specs.Search.{to_try}
use Rattle.search.proofs.Rows.{In}

-- The turns to try, and lists of turns that bring a state home.

in_range : (a n k : ℕ) → a ≤ k → k < a + n → In k (range_with_len a n)
in_range a zero k low high = absurd (omega arith)
in_range a (suc n) k low high = ⊎_elim (λ (e : a ≡ k). inl e) (λ d. inr (in_range (a + 1) n k (omega arith) (omega arith))) (cases_eq a k)

each_in_range : (Q : ℕ → Type 0) (a n : ℕ) → ((k : ℕ) → a ≤ k → k < a + n → Q k) → Each Q (range_with_len a n)
each_in_range Q a zero h = tt
each_in_range Q a (suc n) h = (h a (omega arith) (omega arith), each_in_range Q (a + 1) n (λ k low high. h k (omega arith) (omega arith)))

module _ (test : ℕ → Bool) where
  in_filter : (k : ℕ) (ks : List ℕ) → test k ≡ true → In k ks → In k (filter test ks)
  in_filter k [] t i = absurd i
  in_filter k (x ∷ ks) t (inl e) = cond_both (test x) (x ∷ filter test ks) (filter test ks) (In k) (λ _. inl e) (λ f. absurd (both_ways (test x) f (subst (λ y. test y ≡ true) (sym e) t)))
  in_filter k (x ∷ ks) t (inr i) = let rest = in_filter k ks t i in cond_both (test x) (x ∷ filter test ks) (filter test ks) (In k) (λ _. inr rest) (λ _. rest)

  each_filter : (Q : ℕ → Type 0) (ks : List ℕ) → Each Q ks → Each Q (filter test ks)
  each_filter Q [] a = tt
  each_filter Q (x ∷ ks) a = let rest = each_filter Q ks a.1 in cond_both (test x) (x ∷ filter test ks) (filter test ks) (Each Q) (λ _. (a.0, rest)) (λ _. rest)

-- The list begins with another turn than k.
abbrev pub BeginsApart : ℕ → List ℕ → Type 0
BeginsApart k [] = Unit {0}
BeginsApart k (x ∷ ks) = x ≡ k → ⊥

-- The list begins with another turn than the one made last.
abbrev pub BeginsNew : List ℕ → List ℕ → Type 0
BeginsNew [] ks = Unit {0}
BeginsNew (led ∷ made) ks = BeginsApart led ks

module _ {S : Type 0} (m : Meaning S) (s : S) where
  in_turns : (k : ℕ) → InRange m s k → In k (turns m s)
  in_turns k r = let high = r.high in in_range (m.lowest s) (suc (m.highest s) - m.lowest s) k r.low (omega arith)

  pub in_to_try : (made : List ℕ) (k : ℕ) (ks : List ℕ) → BeginsNew made (k ∷ ks) → InRange m s k → In k (to_try m made s)
  in_to_try [] k ks new r = in_turns k r
  in_to_try (led ∷ made) k ks new r = in_filter (λ k. not (k == led)) k (turns m s) (not_from_false (k == led) (false_from_ne_true (k == led) (λ t. new (eqb-true k led t)))) (in_turns k r)

  each_turn : Each (InRange m s) (turns m s)
  each_turn = each_in_range (InRange m s) (m.lowest s) (suc (m.highest s) - m.lowest s) (λ k low high. record { low = low; high = omega arith })

  pub each_to_try : (made : List ℕ) → Each (InRange m s) (to_try m made s)
  each_to_try [] = each_turn
  each_to_try (led ∷ made) = each_filter (λ k. not (k == led)) (InRange m s) (turns m s) each_turn

-- No turn of the list comes twice running.
abbrev pub NoneTwice : List ℕ → Type 0
NoneTwice [] = Unit {0}
NoneTwice (k ∷ ks) = BeginsApart k ks × NoneTwice ks

-- A list that brings the state home, is no longer than q, and has no turn twice running.
pub record Shortened {S : Type 0} (m : Meaning S) (q : List ℕ) (s : S) : Type 0 where
  pub list : List ℕ
  pub brings : Brings m list s
  pub short : length list ≤ length q
  pub none_twice : NoneTwice list

module _ {S : Type 0} (m : Meaning S) (law : Lawful m) where
  -- turn k and then such a list: where it begins with k, the two lead back
  after_turn : (q : List ℕ) (s : S) (k : ℕ) → InRange m s k → Shortened m q (m.after s k) → Shortened m (k ∷ q) s
  after_turn q s k r rest = join rest.list rest.brings rest.short rest.none_twice
    where
      join : (p : List ℕ) → Brings m p (m.after s k) → length p ≤ length q → NoneTwice p → Shortened m (k ∷ q) s
      join [] b short new = record { list = k ∷ []; brings = (r, b); short = omega arith; none_twice = (tt, tt) }
      join (x ∷ p) b short new =
          ⊎_elim
          (λ (e : x ≡ k).
          let back : Brings m p s = subst (Brings m p) (ap (m.after (m.after s k)) e ∙ law.twice s k r) b.1 in
          record { list = p; brings = back; short = omega arith; none_twice = new.1 })
          (λ apart. record { list = k ∷ x ∷ p; brings = (r, b); short = omega arith; none_twice = (apart, new) })
          (cases_eq x k)

  pub shortened : (q : List ℕ) (s : S) → Brings m q s → Shortened m q s
  shortened [] s b = record { list = []; brings = b; short = omega arith; none_twice = tt }
  shortened (k ∷ q) s b = after_turn q s k b.0 (shortened q (m.after s k) b.1)
