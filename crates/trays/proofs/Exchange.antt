use Rattle.std.proofs.Common.{◌≡◌, ℕ, ◌<◌, ◌≤◌, Bool, false, List, length, sym, ap, ◌∙◌, ap₂, arith}
use Rattle.std.proofs.lemmas.List.{ext_get_or}
use Rattle.trays.specs.Form.{TrayForm, Regular, tray_at}
use Rattle.trays.proofs.Permutations.{Permutation}

-- What a turn does with the places: which place each one changes with, and whether the tray that comes there is turned over.
pub record Move : Type 0 where
  pub to : ℕ → ℕ
  pub over : ℕ → Bool

-- A move of the first n places that undoes itself.
pub record Exchange (n : ℕ) (v : Move) : Type 0 where
  pub twice : (i : ℕ) → v.to (v.to i) ≡ i
  pub within : (i : ℕ) → i < n → v.to i < n
  pub beyond : (i : ℕ) → n ≤ i → v.to i ≡ i
  pub over_both : (i : ℕ) → v.over (v.to i) ≡ v.over i
  pub over_none : (i : ℕ) → n ≤ i → v.over i ≡ false

module _ {A : Type 0} (f : TrayForm A) where
  -- ys is xs after the move
  pub record Moved (v : Move) (xs ys : List A) : Type 0 where
    pub long : length ys ≡ length xs
    pub at : (i : ℕ) → tray_at f ys i ≡ f.sided (v.over i) (tray_at f xs (v.to i))

module _ {A : Type 0} (f : TrayForm A) (reg : Regular f) (n : ℕ) (v : Move) (x : Exchange n v) where
  -- what stood at place i stands, turned over or not, at the place that i changes with
  pub moved_from : (xs ys : List A) → Moved f v xs ys → (i : ℕ) → tray_at f ys (v.to i) ≡ f.sided (v.over i) (tray_at f xs i)
  moved_from xs ys m i = m.at (v.to i) ∙ ap₂ (λ (b : Bool) (j : ℕ). f.sided b (tray_at f xs j)) (x.over_both i) (x.twice i)

  -- the same move twice leads back
  pub moved_back : (xs ys zs : List A) → Moved f v xs ys → Moved f v ys zs → zs ≡ xs
  moved_back xs ys zs m w =
      ext_get_or (f.upright 0) zs xs (w.long ∙ m.long)
      (λ i _. w.at i ∙ ap (f.sided (v.over i)) (moved_from xs ys m i) ∙ reg.sided_twice (v.over i) (tray_at f xs i))

  -- a move keeps a permutation one
  pub moved_permutation : (xs ys : List A) → Moved f v xs ys → Permutation f n xs → Permutation f n ys
  moved_permutation xs ys m s =
      let number : (i : ℕ) → f.number (tray_at f ys i) ≡ f.number (tray_at f xs (v.to i)) = λ i. ap f.number (m.at i) ∙ reg.number-sided (v.over i) (tray_at f xs (v.to i)) in
      record {
        long = m.long ∙ s.long;
        ranged = λ i li.
            let r = s.ranged (v.to i) (x.within i li) in
            let e = number i in
            (omega arith, omega arith);
        apart = λ i j li lj e.
            let q = s.apart (v.to i) (v.to j) (x.within i li) (x.within j lj) (sym (number i) ∙ e ∙ number j) in
            sym (x.twice i) ∙ ap v.to q ∙ x.twice j;
        blank = λ i ge.
            m.at i ∙ ap₂ (λ (b : Bool) (j : ℕ). f.sided b (tray_at f xs j)) (x.over_none i ge) (x.beyond i ge)
            ∙ reg.sided_not (tray_at f xs i)
            ∙ s.blank i ge;
      }
