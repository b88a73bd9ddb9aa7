use Rattle.std.proofs.Common.{◌≡◌, ℕ, zero, suc, ◌+◌, ◌-◌, ◌≤◌, ◌<◌, min, Bool, true, false, if◌then◌else◌, List, [], ◌∷◌, length, reverse, drop, Option, Some, None, refl, sym, ap, ◌∙◌, arith, nat_lt}
use Rattle.std.proofs.lemmas.Bool.{cond-true, cond-false, lt-ltb, le-ltb}
use Rattle.std.proofs.lemmas.List.{length-drop}
use Rattle.std.specs.List.{AllByRecursion as Each, filter, reduce}
use Rattle.machine.specs.Meaning.{Meaning, InRange, Lawful}
use Rattle.search.proofs.Lists.{each_to_try}
use Rattle.search.proofs.Thresholds.{allowed_cases}
use Rattle.search.proofs.Searches.{some_followed_by, first_look}
use Rattle.search.specs.Search.{Look, cut, home, continued, followed_by, looks_by, cuts, to_try, look_and_below, looks_from, round, rounds_from}
use Rattle.search.specs.Shortest.{Unbounded}
use Rattle.walk.specs.Left.{later, looks_later, and_above, left_at, left_after}
use Rattle.planner.specs.ToCome.{with_least, with_cut, later_rounds, to_come}

-- The looks still to come, as one of them is made.

module _ {S : Type 0} (m : Meaning S) (e : S → ℕ) (threshold : ℕ) where
  and_above_cut : (made : List ℕ) (s : S) (t : ℕ) (xs : List Look) → and_above m e threshold made s (cut t ∷ xs) ≡ cut t ∷ and_above m e threshold made s xs
  and_above_cut [] s t xs = refl
  and_above_cut (k ∷ made) s t xs = and_above_cut made (m.after s k) t (followed_by xs (looks_later m e threshold made (m.after s k) k))

  and_above_continued : (made : List ℕ) (s : S) (xs : List Look) → and_above m e threshold made s (continued ∷ xs) ≡ continued ∷ and_above m e threshold made s xs
  and_above_continued [] s xs = refl
  and_above_continued (k ∷ made) s xs = and_above_continued made (m.after s k) (followed_by xs (looks_later m e threshold made (m.after s k) k))

  and_above_home : (made : List ℕ) (s : S) (p : List ℕ) → and_above m e threshold made s (home p ∷ []) ≡ home p ∷ []
  and_above_home [] s p = refl
  and_above_home (k ∷ made) s p = and_above_home made (m.after s k) p

lesser_then : (least : Option ℕ) (t : ℕ) (ts : List ℕ) → reduce min (with_least least (t ∷ ts)) ≡ reduce min (with_least (with_cut least t) ts)
lesser_then None t ts = refl
lesser_then (Some a) t ts = refl

least_alone : (least : Option ℕ) → reduce min (with_least least []) ≡ least
least_alone None = refl
least_alone (Some t) = refl

module _ {S : Type 0} (m : Meaning S) (e : S → ℕ) (limit : ℕ) (s : S) where
  to_come_cut : (least : Option ℕ) (t : ℕ) (xs : List Look) → to_come m e limit s least (cut t ∷ xs) ≡ cut t ∷ to_come m e limit s (with_cut least t) xs
  to_come_cut least t xs = ap (λ c. cut t ∷ followed_by xs (later_rounds m e limit s c)) (lesser_then least t (cuts xs))

  to_come_none : (least : Option ℕ) → to_come m e limit s least [] ≡ later_rounds m e limit s least
  to_come_none least = ap (later_rounds m e limit s) (least_alone least)

-- No turn was tried: all turns to try are later ones.
module _ {S : Type 0} (m : Meaning S) (law : Lawful m) (s : S) where
  filter_all : (test : ℕ → Bool) (ks : List ℕ) → Each (λ k. test k ≡ true) ks → filter test ks ≡ ks
  filter_all test [] a = refl
  filter_all test (k ∷ ks) a = cond-true (test k) (k ∷ filter test ks) (filter test ks) a.0 ∙ ap (λ l. k ∷ l) (filter_all test ks a.1)

  each_later : (ks : List ℕ) → Each (InRange m s) ks → Each (λ k. nat_lt 0 k ≡ true) ks
  each_later [] a = tt
  each_later (k ∷ ks) a = let low = a.0.low in let one = law.from_one s in (lt-ltb 0 k (omega arith), each_later ks a.1)

  pub later_all : (made : List ℕ) → later m made s 0 ≡ to_try m made s
  later_all made = filter_all (λ k. nat_lt 0 k) (to_try m made s) (each_later (to_try m made s) (each_to_try m s made))

-- The three cases of a look.
module _ {S : Type 0} (m : Meaning S) (e : S → ℕ) (limit : ℕ) (root : S) (bounds : Unbounded m e) (threshold : ℕ) (least : Option ℕ) (made : List ℕ) (s : S) where
  look_is : left_at m e threshold made s ≡ and_above m e threshold made s (look_and_below m e threshold (looks_from m e threshold) made s)
  look_is = ap (and_above m e threshold made s) (bounds.looks threshold made s)

  pub look_cut : (total : ℕ) → total ≡ length made + e s → threshold < total →
      to_come m e limit root least (left_at m e threshold made s) ≡ cut total ∷ to_come m e limit root (with_cut least total) (and_above m e threshold made s [])
  look_cut total is above =
      let is_above : nat_lt threshold (length made + e s) ≡ true = lt-ltb threshold (length made + e s) (omega arith) in
      ap (to_come m e limit root least)
      (look_is
      ∙ ap (and_above m e threshold made s) (cond-true (nat_lt threshold (length made + e s)) _ _ is_above ∙ ap (λ t. cut t ∷ []) (sym is))
      ∙ and_above_cut m e threshold made s total [])
      ∙ to_come_cut m e limit root least total (and_above m e threshold made s [])

  module _ (fits : length made + e s ≤ threshold) where
    kept_is : left_at m e threshold made s ≡ and_above m e threshold made s (if m.home s then home (reverse made) ∷ [] else continued ∷ looks_by (λ k. looks_from m e threshold (k ∷ made) (m.after s k)) (to_try m made s))
    kept_is = look_is ∙ ap (and_above m e threshold made s) (cond-false (nat_lt threshold (length made + e s)) _ _ (le-ltb threshold (length made + e s) fits))

    pub look_home : m.home s ≡ true → to_come m e limit root least (left_at m e threshold made s) ≡ home (reverse made) ∷ []
    look_home here =
        ap (to_come m e limit root least)
        (kept_is ∙ ap (and_above m e threshold made s) (cond-true (m.home s) _ _ here) ∙ and_above_home m e threshold made s (reverse made))

    pub look_continued : Lawful m → m.home s ≡ false → to_come m e limit root least (left_at m e threshold made s) ≡ continued ∷ to_come m e limit root least (left_after m e threshold made s 0)
    look_continued law away =
        ap (to_come m e limit root least)
        (kept_is
        ∙ ap (and_above m e threshold made s) (cond-false (m.home s) _ _ away ∙ ap (λ ks. continued ∷ looks_by (λ k. looks_from m e threshold (k ∷ made) (m.after s k)) ks) (sym (later_all m law s made)))
        ∙ and_above_continued m e threshold made s (looks_later m e threshold made s 0))

-- A search that is under way has a look to make.
module _ {S : Type 0} (m : Meaning S) (e : S → ℕ) (limit : ℕ) (root : S) where
  some_above : (threshold : ℕ) (made : List ℕ) (s : S) (xs : List Look) → 1 ≤ length xs → 1 ≤ length (and_above m e threshold made s xs)
  some_above threshold [] s xs some = some
  some_above threshold (k ∷ made) s xs some =
      let rest = looks_later m e threshold made (m.after s k) k in
      some_above threshold made (m.after s k) (followed_by xs rest) (some_followed_by m e limit root xs rest some)

  pub some_to_come : (threshold : ℕ) (least : Option ℕ) (made : List ℕ) (s : S) → 1 ≤ length (to_come m e limit root least (left_at m e threshold made s))
  some_to_come threshold least made s =
      let left = left_at m e threshold made s in
      some_followed_by m e limit root left _
      (some_above threshold made s (looks_from m e threshold made s) (first_look m e limit s threshold (suc threshold - length made) made))

-- The looks after the next one.
drop_more : (xs : List Look) (n : ℕ) → drop (suc n) xs ≡ drop 1 (drop n xs)
drop_more xs zero = refl
drop_more [] (suc n) = refl
drop_more (x ∷ xs) (suc n) = drop_more xs n

module _ (xs : List Look) (n : ℕ) (look : Look) (rest : List Look) (is : drop n xs ≡ look ∷ rest) where
  pub drop_next : drop (n + 1) xs ≡ rest
  drop_next = let more : n + 1 ≡ suc n = omega arith in ap (λ i. drop i xs) more ∙ drop_more xs n ∙ ap (drop 1) is

  pub length_next : length xs ≡ n + 1 + length rest
  length_next =
      let long = length-drop n xs in
      let same : length (drop n xs) ≡ suc (length rest) = ap length is in
      omega arith

-- The next round begins with the least total cut, where the limit allows it.
pub next_begins : {S : Type 0} (m : Meaning S) (e : S → ℕ) (limit : ℕ) (root : S) → Unbounded m e → (t : ℕ) → t ≤ limit → to_come m e limit root (Some t) [] ≡ to_come m e limit root None (round m e t root)
next_begins m e limit root bounds t le =
    to_come_none m e limit root (Some t)
    ∙ allowed_cases (λ o. ◌≡◌ {A = List Look} (elim o [ None ↦ [] | Some u ↦ rounds_from m e limit root u ]) (rounds_from m e limit root t)) limit t (λ over. absurd (omega arith)) (λ _. refl)
    ∙ bounds.rounds limit root t le
