use Rattle.std.specs.Prelude.{◌≡◌, ℕ, List, [], ◌∷◌, get_or, Some, None, Option}
use Rattle.walk.specs.declared.trail.Trail.{Trail}
use Rattle.walk.specs.Records.{blank, turns_to}

-- The turns made, the last one first.
abbrev pub made : Trail → List ℕ
made t = turns_to t.table.records t.depth

-- The turn tried last at the present depth.
abbrev pub tried : Trail → ℕ
tried t = (get_or t.table.records t.depth blank).tried

-- The turn made last is taken back, and is the one tried last; or no turn was made, and nothing is changed.
abbrev pub Popped : Trail → Option ℕ → Trail → Type 0
Popped t None u = (made t ≡ []) × (u ≡ t)
Popped t (Some k) u = (made t ≡ k ∷ made u) × (tried u ≡ k)
