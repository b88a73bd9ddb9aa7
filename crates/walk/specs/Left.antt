use Rattle.std.specs.Prelude.{◌≡◌, ℕ, List, [], ◌∷◌, length, if◌then◌else◌, nat_lt}
use Rattle.std.specs.List.{filter}
use Rattle.machine.specs.Meaning.{Meaning, InRange}
use Rattle.search.specs.declared.limit.TheConstants.{HIGHEST_LIMIT}
use Rattle.search.specs.Search.{Look, followed_by, looks_by, to_try, looks_from}

-- These turns, the last one first, lead from the root to the state s: the same turns made again lead back.
abbrev pub Leads : {S : Type 0} → Meaning S → S → List ℕ → S → Type 0
Leads m root [] s = s ≡ root
Leads m root (k ∷ made) s = InRange m s k × Leads m root made (m.after s k)

-- The turns to try at a state that come after this one.
abbrev pub later : {S : Type 0} → Meaning S → List ℕ → S → ℕ → List ℕ
later m made s tried = filter (λ k. nat_lt tried k) (to_try m made s)

-- What is left of a round that was left off at a state.
module _ {S : Type 0} (m : Meaning S) (e : S → ℕ) (threshold : ℕ) where
  -- the looks by its later turns
  abbrev pub looks_later : List ℕ → S → ℕ → List Look
  looks_later made s tried = looks_by (λ k. looks_from m e threshold (k ∷ made) (m.after s k)) (later m made s tried)

  -- these looks, and then those by the later turns of each state on the way back
  abbrev pub and_above : List ℕ → S → List Look → List Look
  and_above [] s xs = xs
  and_above (k ∷ made) s xs = and_above made (m.after s k) (followed_by xs (looks_later made (m.after s k) k))

  -- where the state is yet to be looked at
  abbrev pub left_at : List ℕ → S → List Look
  left_at made s = and_above made s (looks_from m e threshold made s)

  -- where it was looked at, and its turns up to this one were tried
  abbrev pub left_after : List ℕ → S → ℕ → List Look
  left_after made s tried = and_above made s (looks_later made s tried)

  -- the same; but so deep that there is no room for one turn more, no other is tried
  abbrev pub left_here : List ℕ → S → ℕ → List Look
  left_here made s tried = if nat_lt HIGHEST_LIMIT (length made) then and_above made s [] else left_after made s tried
