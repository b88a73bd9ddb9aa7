use Rattle.std.specs.Prelude.{◌≡◌, ℕ, ◌<◌, Bool, false, ◌↔◌, IsTrue, List, ◌==◌, slice_index_or, refl}
use Rattle.std.proofs.lemmas.Bool.Decides.{Decides-eqb}

-- What a type of trays means. A tray has a number, and in some kinds a side; number 0 stands for no tray.
pub record TrayForm (A : Type 0) : Type 0 where
  pub number : A → ℕ
  -- the tray of this number as it stands at home
  pub upright : ℕ → A
  -- it is that tray
  pub stands : ℕ → A → Bool
  -- with this number in place of its own, on the same side
  pub renumbered : ℕ → A → A
  -- the tray on its other side where the flag is true, and as it is where the flag is false or the kind has no sides
  pub sided : Bool → A → A
  -- the tray that a byte stands for, and the byte of a tray
  pub read : ℕ → A
  pub byte : A → ℕ

-- What every type of trays owes.
pub record Regular {A : Type 0} (f : TrayForm A) : Type 0 where
  -- the tray at home of a number has that number
  pub number-upright : (v : ℕ) → f.number (f.upright v) ≡ v
  -- a renumbered tray has the new number
  pub number-renumbered : (v : ℕ) (t : A) → f.number (f.renumbered v t) ≡ v
  -- a change of side keeps the number
  pub number-sided : (b : Bool) (t : A) → f.number (f.sided b t) ≡ f.number t
  -- `stands` holds of the tray at home of the number, and of no other
  pub stands-upright : (v : ℕ) (t : A) → IsTrue (f.stands v t) ↔ (t ≡ f.upright v)
  -- its own number changes nothing
  pub renumbered_same : (t : A) → f.renumbered (f.number t) t ≡ t
  -- of two new numbers the later one counts
  pub renumbered_again : (v w : ℕ) (t : A) → f.renumbered v (f.renumbered w t) ≡ f.renumbered v t
  -- the tray at home of one number, renumbered, is the one of the other
  pub renumbered-upright : (v w : ℕ) → f.renumbered v (f.upright w) ≡ f.upright v
  -- a new number and a change of side may be given in either order
  pub renumbered-sided : (v : ℕ) (b : Bool) (t : A) → f.renumbered v (f.sided b t) ≡ f.sided b (f.renumbered v t)
  -- the same change of side twice leads back
  pub sided_twice : (b : Bool) (t : A) → f.sided b (f.sided b t) ≡ t
  -- two changes of side may be made in either order
  pub sided_swap : (a b : Bool) (t : A) → f.sided a (f.sided b t) ≡ f.sided b (f.sided a t)
  -- the flag false changes nothing
  pub sided_not : (t : A) → f.sided false t ≡ t
  -- the byte 0 stands for no tray
  pub read_none : f.read 0 ≡ f.upright 0
  -- the byte of the tray that a byte stands for is that byte
  pub byte-read : (b : ℕ) → b < 256 → f.byte (f.read b) ≡ b

-- The tray at place i, counted from 0; past the end there is none.
abbrev pub tray_at : {A : Type 0} → TrayForm A → List A → ℕ → A
tray_at f xs i = slice_index_or xs i (f.upright 0)

-- The number at place i.
abbrev pub number_at : {A : Type 0} → TrayForm A → List A → ℕ → ℕ
number_at f xs i = f.number (tray_at f xs i)

-- A tray that is its number and has no side.
abbrev pub number_tray : TrayForm ℕ
number_tray = record { number = λ t. t; upright = λ v. v; stands = λ v t. (t == v); renumbered = λ v t. v; sided = λ b t. t; read = λ b. b; byte = λ t. t }

pub number_regular : Regular number_tray
number_regular = record {
  number-upright = λ v. refl;
  number-renumbered = λ v t. refl;
  number-sided = λ b t. refl;
  stands-upright = λ v t. Decides-eqb t v;
  renumbered_same = λ t. refl;
  renumbered_again = λ v w t. refl;
  renumbered-upright = λ v w. refl;
  renumbered-sided = λ v b t. refl;
  sided_twice = λ b t. refl;
  sided_swap = λ a b t. refl;
  sided_not = λ t. refl;
  read_none = refl;
  byte-read = λ b lt. refl;
}
