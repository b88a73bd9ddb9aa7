use Rattle.std.specs.Prelude.{◌≡◌, ℕ, ◌<◌, ◌≤◌, Some, None, Option}
use Rattle.machine.specs.declared.turn_range.TurnRange.{TurnRange}
use Rattle.walk.specs.declared.depth_record.DepthRecord.{DepthRecord}

-- Turn k may be tried from here: it is in range, comes after the one tried last, and is not the one that led here.
pub record MayTry (range : TurnRange) (here : DepthRecord) (k : ℕ) : Type 0 where
  pub low : range.lowest ≤ k
  pub high : k ≤ range.highest
  pub later : here.tried < k
  pub other : k ≡ here.led → ⊥

-- The least turn that may be tried, or none where there is none.
abbrev pub Next : TurnRange → DepthRecord → Option ℕ → Type 0
Next range here (Some k) = MayTry range here k × ((j : ℕ) → MayTry range here j → k ≤ j)
Next range here None = (j : ℕ) → MayTry range here j → ⊥
