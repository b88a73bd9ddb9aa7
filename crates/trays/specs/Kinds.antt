use Rattle.std.specs.Prelude.{ℕ, List, codes}
use Rattle.trays.specs.declared.kind.Kind.{Kind}
use Rattle.trays.specs.declared.kind.Kind.TheVariants.{Plain, Sided, Ring}

-- The name of a kind of machine.
abbrev pub kind_name : Kind → List ℕ
kind_name Plain = codes "plain"
kind_name Sided = codes "sided"
kind_name Ring = codes "ring"
