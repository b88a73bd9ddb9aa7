use Rattle.std.specs.Prelude.{ℕ, true, List, ◌++◌, map, take, drop}
use Rattle.trays.specs.Form.{TrayForm}

-- The first k trays with their sides changed.
abbrev pub turned_over : {A : Type 0} → TrayForm A → ℕ → List A → List A
turned_over f k xs = map (f.sided true) (take k xs) ++ drop k xs
