use Rattle.std.specs.Prelude.{◌≡◌, ℕ, true, List, take}
use Rattle.trays.specs.Form.{TrayForm}
use Rattle.trays.specs.Permutation.{in_order}
use Rattle.trays.specs.Settable.{Accepted}

-- The first n trays stand as at home, and there are no others.
pub record AtHome {A : Type 0} (f : TrayForm A) (n : ℕ) (xs : List A) : Type 0 where
  pub accepted : Accepted f n n xs
  pub home : in_order f (take n xs) ≡ true
