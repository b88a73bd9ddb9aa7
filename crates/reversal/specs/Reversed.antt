use Rattle.std.specs.Prelude.{ℕ, ◌-◌, min, List, ◌++◌, reverse, length, take, drop}

-- The first k items in the other order, then the rest as it stands.
abbrev pub flipped : {A : Type 0} → ℕ → List A → List A
flipped k xs = reverse (take k xs) ++ drop k xs

-- The items from place a on and before place e in the other order; all others stay.
abbrev pub reversed_between : {A : Type 0} → ℕ → ℕ → List A → List A
reversed_between a e xs = take a xs ++ flipped (e - a) (drop a xs)

-- The same for any two places: one past the end counts as the end, and a part that would end before it begins is empty.
abbrev pub reversed_part : {A : Type 0} → ℕ → ℕ → List A → List A
reversed_part from to xs = reversed_between (min from (min to (length xs))) (min to (length xs)) xs
