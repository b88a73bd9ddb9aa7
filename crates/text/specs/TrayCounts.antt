use Rattle.std.specs.Prelude.{ℕ, min, if◌then◌else◌, List, length, Option, nat_lt}
use Rattle.std.specs.Option.{unwrap_or}
use Rattle.trays.specs.declared.arrangement.TheConstants.{MOST_TRAYS}

-- The number of trays of a line: more than `MOST_TRAYS` are as many as stand there, up to 255; else it is the count that the line gives, or as many as stand there.
abbrev pub tray_count : List ℕ → Option ℕ → ℕ
tray_count trays count = if nat_lt MOST_TRAYS (length trays) then min (length trays) 255 else unwrap_or count (length trays)
