use Rattle.std.specs.Prelude.{◌≡◌, ℕ, suc, Bool, true, false}
use Rattle.trays.specs.Form.{TrayForm}

-- When two trays of a tower are apart, the one right above the other. Where both are turned over and change places they are apart as before; those that follow each other at home are not apart.
pub record Apart {A : Type 0} (f : TrayForm A) (apart : A → A → Bool) : Type 0 where
  pub turned : (x y : A) → apart (f.sided true y) (f.sided true x) ≡ apart x y
  pub risen : (v : ℕ) → apart (f.upright v) (f.upright (suc v)) ≡ false
