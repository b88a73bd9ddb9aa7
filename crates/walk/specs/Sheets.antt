use Rattle.std.specs.Prelude.{ℕ, ◌-◌, List, ◌++◌, length, replicate}
use Rattle.walk.specs.declared.sheet.TheConstants.{SHEET_PLACES}

-- A sheet with these turns: 0 stands after the last.
abbrev pub padded : List ℕ → List ℕ
padded ks = ks ++ replicate (SHEET_PLACES - length ks) 0
