use Rattle.std.specs.Prelude.{◌≡◌, ℕ, zero, suc, ◌≤◌, List, [], ◌∷◌, get_or}
use Rattle.walk.specs.declared.depth_record.DepthRecord.{DepthRecord}

abbrev pub blank : DepthRecord
blank = record { led = 0; tried = 0 }

-- The turns that led to a depth, the last one first: at each depth above, the one tried last.
abbrev pub turns_to : List DepthRecord → ℕ → List ℕ
turns_to rs zero = []
turns_to rs (suc depth) = (get_or rs depth blank).tried ∷ turns_to rs depth

-- The first turn of a list, or 0.
abbrev pub first_or_none : List ℕ → ℕ
first_or_none [] = 0
first_or_none (k ∷ ks) = k

-- Each record down to a depth has the turn that led there.
abbrev pub Linked : List DepthRecord → ℕ → Type 0
Linked rs depth = (i : ℕ) → i ≤ depth → (get_or rs i blank).led ≡ first_or_none (turns_to rs i)
