use Rattle.std.specs.Prelude.{ℕ, suc, ◌-◌, List}
use Rattle.std.specs.List.{range_with_len}
use Rattle.machine.specs.Meaning.{Meaning}

-- The turns of a machine at this state, in rising order.
abbrev pub turns : {S : Type 0} → Meaning S → S → List ℕ
turns m s = range_with_len (m.lowest s) (suc (m.highest s) - m.lowest s)
