use Rattle.std.specs.Prelude.{◌≡◌, ℕ, zero, suc, Bool, true, false, ◌==◌}
use Rattle.std.proofs.Common.{refl, le_refl, le-add_right}
use Rattle.machine.specs.Meaning.{Meaning, Lawful}

-- The ends after one is carried over, if any lies there.
abbrev pub carried : ℕ → ℕ → ℕ × ℕ
carried here zero = (here, zero)
carried here (suc there) = (there, suc here)

-- The ends exchanged, or one carried over.
abbrev pub moved : Bool → ℕ × ℕ → ℕ × ℕ
moved true s = (s.1, s.0)
moved false s = carried s.0 s.1

abbrev pub shuttle : Meaning (ℕ × ℕ)
shuttle = record { lowest = λ _. 1; highest = λ _. 2; after = λ s k. moved (k == 1) s; home = λ s. s.1 == 0 }

carried_back : (here there : ℕ) → carried (carried here there).0 (carried here there).1 ≡ (here, there)
carried_back here zero = refl
carried_back here (suc there) = refl

moved_back : (b : Bool) (s : ℕ × ℕ) → moved b (moved b s) ≡ s
moved_back true s = refl
moved_back false s = carried_back s.0 s.1

pub shuttle_lawful : Lawful shuttle
shuttle_lawful = record { from_one = λ _. le_refl 1; to_highest = λ _. le-add_right 2 248; twice = λ s k _. moved_back (k == 1) s; same_lowest = λ _ _ _. refl; same_highest = λ _ _ _. refl }
