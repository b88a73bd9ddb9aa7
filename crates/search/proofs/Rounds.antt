use Rattle.std.proofs.Common.{◌≡◌, ℕ, zero, suc, ◌+◌, ◌-◌, ◌≤◌, ◌<◌, true, false, List, [], ◌∷◌, length, reverse, arith, nat_lt}
use mathlib.Core.List.{reverse_aux}
use mathlib.Core.Logic.{inl, inr}
use Rattle.std.proofs.lemmas.Bool.{both_ways, cond_both, ltb-true, ltb-false}
use Rattle.std.proofs.lemmas.List.{length-reverse}
use Rattle.std.specs.List.{AllByRecursion as Each}
use Rattle.machine.specs.Meaning.{Meaning, InRange, Lawful, Brings}
use Rattle.estimate.specs.Meaning.{Admissible}
use Rattle.search.specs.Search.{Look, cut, home, continued, looks_by, to_try, look_and_below, looks_within, round}
use Rattle.search.proofs.Rows.{AnyOf, Covers, each_of_turns, covers_of_turns}
use Rattle.search.proofs.Lists.{BeginsNew, NoneTwice, in_to_try, each_to_try, shortened}

module _ {S : Type 0} (m : Meaning S) (e : S → ℕ) (threshold : ℕ) where
  -- a look at a state, by its three cases
  pub look_cases : (P : List Look → Type 0) (below : List ℕ → S → List Look) (made : List ℕ) (s : S) →
      (threshold < length made + e s → P (cut (length made + e s) ∷ [])) →
      (length made + e s ≤ threshold → m.home s ≡ true → P (home (reverse made) ∷ [])) →
      (length made + e s ≤ threshold → m.home s ≡ false → P (continued ∷ looks_by (λ k. below (k ∷ made) (m.after s k)) (to_try m made s))) →
      P (look_and_below m e threshold below made s)
  look_cases P below made s cuts here goes =
      cond_both (nat_lt threshold (length made + e s)) _ _ P (λ t. cuts (ltb-true threshold (length made + e s) t))
      (λ f. let le = ltb-false threshold (length made + e s) f in cond_both (m.home s) _ _ P (here le) (goes le))

  -- What a look of a round from the state `root` owes: a total that was cut is above the threshold, and what came home brings the root home within it.
  abbrev pub Sound : S → Look → Type 0
  Sound root (cut t) = threshold < t
  Sound root (home p) = Brings m p root × (length p ≤ threshold)
  Sound root continued = Unit {0}

  -- by `leads`, the turns made and then what brings s home bring the root home
  sound : (depth : ℕ) (root : S) (made : List ℕ) (s : S) → threshold < depth + length made → ((q : List ℕ) → Brings m q s → Brings m (reverse_aux made q) root) → Each (Sound root) (looks_within m e threshold depth made s)
  sound zero root made s deep leads = (omega arith, tt)
  sound (suc depth) root made s deep leads =
      look_cases (Each (Sound root)) (looks_within m e threshold depth) made s
      (λ above. (above, tt))
      (λ le here. let long = length-reverse made in ((leads [] here, omega arith), tt))
      (λ le away. (
        tt,
        each_of_turns (Sound root) (InRange m s) (λ k. looks_within m e threshold depth (k ∷ made) (m.after s k))
            (λ k r. sound depth root (k ∷ made) (m.after s k) (omega arith) (λ q b. leads (k ∷ q) (r, b))) (to_try m made s) (each_to_try m s made),
      ))

  pub round_sound : (root : S) → Each (Sound root) (round m e threshold root)
  round_sound root = sound (suc threshold - 0) root [] root (omega arith) (λ q b. b)

  module _ (low : Admissible m e) where
    -- where a list q brings the state home, a look is home, or a total is cut that is no more than the length of the whole list
    covers : (depth n : ℕ) (made : List ℕ) (s : S) (q : List ℕ) → length made + length q ≤ n → Brings m q s → NoneTwice q → BeginsNew made q → AnyOf (Covers n) (looks_within m e threshold depth made s)
    covers zero n made s q le b new first = let h = low s q b in inl (omega arith)
    covers (suc depth) n made s [] le b new first =
        look_cases (AnyOf (Covers n)) (looks_within m e threshold depth) made s
        (λ above. let h = low s [] b in inl (omega arith))
        (λ _ here. inl tt)
        (λ _ away. absurd (both_ways (m.home s) away b))
    covers (suc depth) n made s (k ∷ q) le b new first =
        look_cases (AnyOf (Covers n)) (looks_within m e threshold depth) made s
        (λ above. let h = low s (k ∷ q) b in inl (omega arith))
        (λ _ here. inl tt)
        (λ _ away.
        inr (covers_of_turns n (λ k. looks_within m e threshold depth (k ∷ made) (m.after s k)) k (to_try m made s) (in_to_try m s made k q first b.0)
        (covers depth n (k ∷ made) (m.after s k) q (omega arith) b.1 new.1 new.0)))

    pub round_covers : Lawful m → (root : S) (q : List ℕ) → Brings m q root → AnyOf (Covers (length q)) (round m e threshold root)
    round_covers law root q b =
        let p = shortened m law q root b in
        let short = p.short in
        covers (suc threshold - 0) (length q) [] root p.list (omega arith) p.brings p.none_twice tt
