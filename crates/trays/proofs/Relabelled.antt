use Rattle.std.proofs.Common.{◌≡◌, ℕ, zero, suc, ◌-◌, ◌<◌, ◌≤◌, Bool, List, map, get_or, sym, refl, ap, ◌∙◌, ap₂, ⊎_elim, arith}
use lib.ListN.{get_or-map}
use Rattle.std.proofs.lemmas.Bool.{cases_lt}
use Rattle.std.proofs.lemmas.List.{ext_get_or, length-map}
use Rattle.trays.specs.Form.{TrayForm, Regular, number_at, tray_at}
use Rattle.trays.specs.Permutation.{inverse}
use Rattle.trays.proofs.Exchange.{Move, Exchange, Moved, moved_from, moved_permutation}
use Rattle.trays.proofs.Inverses.{place_of, length-inverse, inverse_at, inverse_past}
use Rattle.trays.proofs.Permutations.{Permutation, Ordered}

-- A move made on the numbers of trays in place of their places: number i + 1 belongs to place i.
module _ {A : Type 0} (f : TrayForm A) (v : Move) where
  abbrev relabelled_as : A → ℕ → A
  relabelled_as t zero = t
  relabelled_as t (suc i) = f.sided (v.over i) (f.renumbered (suc (v.to i)) t)

  abbrev pub relabelled : A → A
  relabelled t = relabelled_as t (f.number t)

  relabelled-number : (t : A) (i : ℕ) → f.number t ≡ suc i → relabelled t ≡ f.sided (v.over i) (f.renumbered (suc (v.to i)) t)
  relabelled-number t i e = ap (relabelled_as t) e

  relabelled_none : (t : A) → f.number t ≡ 0 → relabelled t ≡ t
  relabelled_none t e = ap (relabelled_as t) e

  module _ (reg : Regular f) where
    blank_stays : relabelled (f.upright 0) ≡ f.upright 0
    blank_stays = relabelled_none (f.upright 0) (reg.number-upright 0)

    tray_at-relabelled : (xs : List A) (i : ℕ) → tray_at f (map relabelled xs) i ≡ relabelled (tray_at f xs i)
    tray_at-relabelled xs i = ap (get_or (map relabelled xs) i) (sym blank_stays) ∙ get_or-map relabelled xs i (f.upright 0)

    -- relabelling and turning over do not mind the order
    sided_first : (b : Bool) (t : A) (w : ℕ) → f.number t ≡ w → relabelled (f.sided b t) ≡ f.sided b (relabelled t)
    sided_first b t zero e = relabelled_none (f.sided b t) (reg.number-sided b t ∙ e) ∙ ap (f.sided b) (sym (relabelled_none t e))
    sided_first b t (suc i) e =
        relabelled-number (f.sided b t) i (reg.number-sided b t ∙ e)
        ∙ ap (f.sided (v.over i)) (reg.renumbered-sided (suc (v.to i)) b t)
        ∙ reg.sided_swap (v.over i) b (f.renumbered (suc (v.to i)) t)
        ∙ ap (f.sided b) (sym (relabelled-number t i e))

    relabelled-sided : (b : Bool) (t : A) → relabelled (f.sided b t) ≡ f.sided b (relabelled t)
    relabelled-sided b t = sided_first b t (f.number t) refl

    number-relabelled : (t : A) (i : ℕ) → f.number t ≡ suc i → f.number (relabelled t) ≡ suc (v.to i)
    number-relabelled t i e =
        ap f.number (relabelled-number t i e) ∙ reg.number-sided (v.over i) (f.renumbered (suc (v.to i)) t) ∙ reg.number-renumbered (suc (v.to i)) t

    module _ (n : ℕ) (x : Exchange n v) where
      twice_by : (t : A) (w : ℕ) → f.number t ≡ w → relabelled (relabelled t) ≡ t
      twice_by t zero e = ap relabelled (relabelled_none t e) ∙ relabelled_none t e
      twice_by t (suc i) e =
          relabelled-number (relabelled t) (v.to i) (number-relabelled t i e)
          ∙ ap₂ (λ (b : Bool) (j : ℕ). f.sided b (f.renumbered (suc j) (relabelled t))) (x.over_both i) (x.twice i)
          ∙ ap (λ (u : A). f.sided (v.over i) (f.renumbered (suc i) u)) (relabelled-number t i e)
          ∙ ap (f.sided (v.over i)) (reg.renumbered-sided (suc i) (v.over i) (f.renumbered (suc (v.to i)) t))
          ∙ reg.sided_twice (v.over i) (f.renumbered (suc i) (f.renumbered (suc (v.to i)) t))
          ∙ reg.renumbered_again (suc i) (suc (v.to i)) t
          ∙ ap (λ (w : ℕ). f.renumbered w t) (sym e)
          ∙ reg.renumbered_same t

      relabelled_twice : (t : A) → relabelled (relabelled t) ≡ t
      relabelled_twice t = twice_by t (f.number t) refl

      -- the tray at home, relabelled
      relabelled-upright : (i : ℕ) → relabelled (f.upright (suc i)) ≡ f.sided (v.over i) (f.upright (suc (v.to i)))
      relabelled-upright i = relabelled-number (f.upright (suc i)) i (reg.number-upright (suc i)) ∙ ap (f.sided (v.over i)) (reg.renumbered-upright (suc (v.to i)) (suc i))

      module _ (xs : List A) (s : Permutation f n xs) where
        number_at-relabelled : (i : ℕ) → i < n → number_at f (map relabelled xs) i ≡ suc (v.to (number_at f xs i - 1))
        number_at-relabelled i lt =
            let r = s.ranged i lt in
            ap f.number (tray_at-relabelled xs i) ∙ number-relabelled (tray_at f xs i) (number_at f xs i - 1) (omega arith)

        pub relabelled_permutation : Permutation f n (map relabelled xs)
        relabelled_permutation =
            record {
              long = length-map xs relabelled ∙ s.long;
              ranged = λ i li.
                  let r = s.ranged i li in
                  let e = number_at-relabelled i li in
                  let b = x.within (number_at f xs i - 1) (omega arith) in
                  (omega arith, omega arith);
              apart = λ i j li lj e.
                  let a = number_at-relabelled i li in
                  let b = number_at-relabelled j lj in
                  let p = s.ranged i li in
                  let q = s.ranged j lj in
                  let same : v.to (number_at f xs i - 1) ≡ v.to (number_at f xs j - 1) = omega arith in
                  let back : number_at f xs i - 1 ≡ number_at f xs j - 1 = sym (x.twice (number_at f xs i - 1)) ∙ ap v.to same ∙ x.twice (number_at f xs j - 1) in
                  s.apart i j li lj (omega arith);
              blank = λ i ge. tray_at-relabelled xs i ∙ ap relabelled (s.blank i ge) ∙ blank_stays;
            }

        module _ (ys : List A) (m : Moved f v xs ys) where
          -- the inverse of a moved list is the inverse relabelled
          pub inverse_moved : n ≤ 32 → inverse f n ys ≡ map relabelled (inverse f n xs)
          inverse_moved most =
              let t = moved_permutation f reg n v x xs ys m s in
              let a = length-inverse f reg n ys in
              let c = length-inverse f reg n xs in
              let d = length-map (inverse f n xs) relabelled in
              ext_get_or (f.upright 0) (inverse f n ys) (map relabelled (inverse f n xs)) (omega arith)
              (λ j _.
              ⊎_elim
              (λ (lt : j < n).
              let at = place_of f reg n xs s most j lt in
              let i = at.0 in
              let from = moved_from f reg n v x xs ys m i in
              inverse_at f reg n ys t most (v.to i) j (x.within i at.1) (ap f.number from ∙ reg.number-sided (v.over i) (tray_at f xs i) ∙ at.2)
              ∙ ap (f.renumbered (suc (v.to i))) from
              ∙ reg.renumbered-sided (suc (v.to i)) (v.over i) (tray_at f xs i)
              ∙ ap (f.sided (v.over i)) (sym (reg.renumbered_again (suc (v.to i)) (suc i) (tray_at f xs i)))
              ∙ sym (tray_at-relabelled (inverse f n xs) j
              ∙ ap relabelled (inverse_at f reg n xs s most i j at.1 at.2)
              ∙ relabelled-number (f.renumbered (suc i) (tray_at f xs i)) i (reg.number-renumbered (suc i) (tray_at f xs i))))
              (λ (ge : n ≤ j).
              inverse_past f reg n ys t most j ge
              ∙ sym (tray_at-relabelled (inverse f n xs) j ∙ ap relabelled (inverse_past f reg n xs s most j ge) ∙ blank_stays))
              (cases_lt j n))

          -- the relabelled list stands as at home exactly where the moved one does
          pub ordered_moved : Ordered f reg n (map relabelled xs) → Ordered f reg n ys
          ordered_moved h i lt =
              let j = v.to i in
              let e : tray_at f xs j ≡ f.sided (v.over i) (f.upright (suc i)) =
              sym (relabelled_twice (tray_at f xs j))
              ∙ ap relabelled (sym (tray_at-relabelled xs j) ∙ h j (x.within i lt))
              ∙ relabelled-upright j
              ∙ ap₂ (λ (b : Bool) (k : ℕ). f.sided b (f.upright (suc k))) (x.over_both i) (x.twice i) in
              m.at i ∙ ap (f.sided (v.over i)) e ∙ reg.sided_twice (v.over i) (f.upright (suc i))

          pub ordered_relabelled : Ordered f reg n ys → Ordered f reg n (map relabelled xs)
          ordered_relabelled h i lt =
              let j = v.to i in
              let e : tray_at f xs i ≡ f.sided (v.over i) (f.upright (suc j)) =
              sym (reg.sided_twice (v.over i) (tray_at f xs i)) ∙ ap (f.sided (v.over i)) (sym (moved_from f reg n v x xs ys m i) ∙ h j (x.within i lt)) in
              tray_at-relabelled xs i
              ∙ ap relabelled e
              ∙ relabelled-sided (v.over i) (f.upright (suc j))
              ∙ ap (f.sided (v.over i)) (relabelled-upright j ∙ ap₂ (λ (b : Bool) (k : ℕ). f.sided b (f.upright (suc k))) (x.over_both i) (x.twice i))
              ∙ reg.sided_twice (v.over i) (f.upright (suc i))

-- a move of the numbers and one of the places do not mind the order
module _ {A : Type 0} (f : TrayForm A) (reg : Regular f) (v w : Move) where
  pub moved_relabelled : (xs ys zs : List A) → Moved f v xs ys → Moved f v (map (relabelled f w) xs) zs → zs ≡ map (relabelled f w) ys
  moved_relabelled xs ys zs m z =
      let a = z.long in
      let b = m.long in
      let c = length-map xs (relabelled f w) in
      let d = length-map ys (relabelled f w) in
      ext_get_or (f.upright 0) zs (map (relabelled f w) ys) (omega arith)
      (λ i _.
      z.at i
      ∙ ap (f.sided (v.over i)) (tray_at-relabelled f w reg xs (v.to i))
      ∙ sym (tray_at-relabelled f w reg ys i ∙ ap (relabelled f w) (m.at i) ∙ relabelled-sided f w reg (v.over i) (tray_at f xs (v.to i))))
