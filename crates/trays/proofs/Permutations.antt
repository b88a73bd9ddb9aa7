use Rattle.std.proofs.Common.{◌≡◌, ℕ, suc, ◌+◌, ◌-◌, ◌<◌, ◌≤◌, Bool, MatchBool, true, false, not, eqb, leb, List, length, take, Decides, IsTrue, sym, refl, ◌∙◌, subst, ⊎_elim, arith}
use Rattle.std.proofs.lemmas.Bool.Decides.{same_from_decides, Decides-eqb, Decides-and, Decides-like, Decides-not, Decides-below_and, Decides-below_or}
use Rattle.std.proofs.lemmas.Bool.{cases_lt, cases_order, leb-true, le-leb, true≢false}
use Rattle.std.proofs.lemmas.List.{get_or_past, get_or-take, length-take-le}
use Rattle.trays.specs.Form.{TrayForm, Regular, number_at, tray_at}
use Rattle.trays.specs.Settable.{Accepted, Blank, New, Numbered}
use Rattle.trays.specs.Permutation.{every, some, numbered, repeats, permutation, in_order}

-- What the test `permutation` says, by places.
pub record Permutation {A : Type 0} (f : TrayForm A) (n : ℕ) (xs : List A) : Type 0 where
  pub long : length xs ≡ 32
  pub ranged : (i : ℕ) → i < n → Numbered n (number_at f xs) i
  pub apart : (i j : ℕ) → i < n → j < n → number_at f xs i ≡ number_at f xs j → i ≡ j
  pub blank : (i : ℕ) → n ≤ i → Blank f xs i

pub every_decides : (n : ℕ) (p : ℕ → Bool) (P : ℕ → Type 0) → ((k : ℕ) → Decides (p k) (P k)) → Decides (every n p) ((k : ℕ) → k < n → P k)
unfolding every
every_decides n p P each = Decides-below_and p P (λ k. every k p) each refl (λ _. refl) n

some_decides : (n : ℕ) (p : ℕ → Bool) (P : ℕ → Type 0) → ((k : ℕ) → Decides (p k) (P k)) → Decides (some n p) ((k : ℕ) × (k < n) × P k)
unfolding some
some_decides n p P each = Decides-below_or p P (λ k. some k p) each refl (λ _. refl) n

decides_leb : (a b : ℕ) → Decides (leb a b) (a ≤ b)
decides_leb a b = (leb-true a b, le-leb a b)

abbrev Repeats : (ℕ → ℕ) → ℕ → Type 0
Repeats f i = (k : ℕ) × (k < i) × (f k ≡ f i)

repeats_decides : (f : ℕ → ℕ) (i : ℕ) → Decides (repeats f i) (Repeats f i)
repeats_decides f i = some_decides i (λ k. eqb (f k) (f i)) (λ k. f k ≡ f i) (λ k. Decides-eqb (f k) (f i))

numbered_decides : (n : ℕ) (f : ℕ → ℕ) (i : ℕ) → Decides (numbered n (f i)) (Numbered n f i)
numbered_decides n f i = Decides-and (leb 1 (f i)) (leb (f i) n) (decides_leb 1 (f i)) (decides_leb (f i) n)

-- no number twice, put two ways
new_apart : (n : ℕ) (f : ℕ → ℕ) → ((i : ℕ) → i < n → New f i) → (i j : ℕ) → i < n → j < n → f i ≡ f j → i ≡ j
new_apart n f new i j li lj e =
    ⊎_elim (λ (q : i ≡ j). q)
    (⊎_elim (λ (lt : i < j). absurd (new j lj i lt e)) (λ (gt : j < i). absurd (new i li j gt (sym e))))
    (cases_order i j)

module _ {A : Type 0} (f : TrayForm A) (reg : Regular f) where
  abbrev Rules : ℕ → List A → Type 0
  Rules n xs = (length xs ≡ 32) × (((i : ℕ) → i < n → Numbered n (number_at f xs) i) × (((i : ℕ) → i < n → Repeats (number_at f xs) i → ⊥) × ((i : ℕ) → i < 32 - n → Blank f xs (n + i))))

  permutation_decides : (n : ℕ) (xs : List A) → Decides (permutation f n xs) (Rules n xs)
  unfolding permutation
  permutation_decides n xs =
      Decides-and _ _ (Decides-eqb (length xs) 32)
      (Decides-and _ _ (every_decides n (λ i. numbered n (number_at f xs i)) (Numbered n (number_at f xs)) (numbered_decides n (number_at f xs)))
      (Decides-and _ _ (every_decides n (λ i. not (repeats (number_at f xs) i)) (λ i. Repeats (number_at f xs) i → ⊥) (λ i. Decides-not (repeats (number_at f xs) i) (repeats_decides (number_at f xs) i)))
      (every_decides (32 - n) (λ i. f.stands 0 (tray_at f xs (n + i))) (λ i. Blank f xs (n + i)) (λ i. reg.stands-upright 0 (tray_at f xs (n + i))))))

  pub from_test : (n : ℕ) (xs : List A) → IsTrue (permutation f n xs) → Permutation f n xs
  from_test n xs t =
      let h = (permutation_decides n xs).0 t in
      record {
        long = h.0;
        ranged = h.1.0;
        apart = new_apart n (number_at f xs) (λ i li k lt e. h.1.1.0 i li (k, lt, e));
        blank = λ i le.
            ⊎_elim
            (λ (lt : i < 32). let q : n + (i - n) ≡ i = omega arith in subst (λ (x : ℕ). Blank f xs x) q (h.1.1.1 (i - n) (omega arith)))
            (λ (ge : 32 ≤ i). get_or_past xs i (f.upright 0) (let e = h.0 in omega arith))
            (cases_lt i 32);
      }

  pub to_test : (n : ℕ) (xs : List A) → Permutation f n xs → IsTrue (permutation f n xs)
  to_test n xs s =
      (permutation_decides n xs).1 (
        s.long,
        (
          s.ranged,
          (
            (λ i li (k, lt, e). let q = s.apart k i (omega arith) li e in omega arith),
            (λ i li. s.blank (n + i) (omega arith)),
          ),
        ),
      )

  -- trays that are accepted are a permutation
  pub from_accepted : (least n : ℕ) (xs : List A) → length xs ≡ 32 → Accepted f least n xs → IsTrue (permutation f n xs)
  from_accepted least n xs long h =
      to_test n xs (record {
        long = long;
        ranged = λ i li. h.numbered i (omega arith) li;
        apart = new_apart n (number_at f xs) (λ i li. h.new i (omega arith) li);
        blank = λ i ge. ⊎_elim (λ (lt : i < 32). h.blank i ge lt) (λ (past : 32 ≤ i). get_or_past xs i (f.upright 0) (omega arith)) (cases_lt i 32);
      })

  -- the first n trays stand as at home
  abbrev pub Ordered : ℕ → List A → Type 0
  Ordered n xs = (i : ℕ) → i < n → tray_at f xs i ≡ f.upright (suc i)

  pub in_order_decides : (xs : List A) → Decides (in_order f xs) (Ordered (length xs) xs)
  unfolding in_order
  in_order_decides xs = every_decides (length xs) (λ i. f.stands (suc i) (tray_at f xs i)) (λ i. tray_at f xs i ≡ f.upright (suc i)) (λ i. reg.stands-upright (suc i) (tray_at f xs i))

  pub first_in_order : (n : ℕ) (xs : List A) → n ≤ length xs → Decides (in_order f (take n xs)) (Ordered n xs)
  first_in_order n xs le =
      let long = length-take-le n xs le in
      Decides-like (in_order f (take n xs))
      (λ h i lt. sym (get_or-take n xs i (f.upright 0) lt) ∙ h i (omega arith))
      (λ h i lt. get_or-take n xs i (f.upright 0) (omega arith) ∙ h i (omega arith))
      (in_order_decides (take n xs))

  -- the answer of a test of each place
  pub in_order_is : (xs : List A) (r : Bool) → MatchBool r ((k : ℕ) → k < length xs → f.stands (suc k) (tray_at f xs k) ≡ true) ((k : ℕ) × (k < length xs) × (f.stands (suc k) (tray_at f xs k) ≡ false)) → r ≡ in_order f xs
  in_order_is xs r h =
      same_from_decides r (in_order f xs)
      (elim r as (λ b. MatchBool b ((k : ℕ) → k < length xs → f.stands (suc k) (tray_at f xs k) ≡ true) ((k : ℕ) × (k < length xs) × (f.stands (suc k) (tray_at f xs k) ≡ false)) → Decides b (Ordered (length xs) xs)) [
        | true ↦ λ all. (λ _ k lt. (reg.stands-upright (suc k) (tray_at f xs k)).0 (all k lt), λ _. refl)
        | false ↦ λ one. (λ e. absurd (true≢false (sym e)), λ all. sym one.2 ∙ (reg.stands-upright (suc one.0) (tray_at f xs one.0)).1 (all one.0 one.1))
      ] h)
      (in_order_decides xs)
