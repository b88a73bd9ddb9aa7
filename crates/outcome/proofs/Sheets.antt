use Rattle.std.proofs.Common.{◌≡◌, ℕ, suc, ◌-◌, List, [], ◌∷◌, length, Option, Some, None, refl, sym, ap, ◌∙◌, arith}
use Rattle.std.specs.List.{slice_get}
use Rattle.planner.specs.declared.played.Played.{Played}
use Rattle.outcome.specs.Verdicts.{sheet_after}

-- The sheet after the last call.

abbrev sheet_or : List ℕ → Option Played → List ℕ
sheet_or blank o = elim o [ None ↦ blank | Some r ↦ r.sheet ]

last_one : (blank : List ℕ) (rs : List Played) → sheet_or blank (slice_get rs (length rs - 1)) ≡ sheet_after blank rs
last_one blank [] = refl
last_one blank (r ∷ []) = refl
last_one blank (r ∷ q ∷ rs) =
    let more : length (r ∷ q ∷ rs) - 1 ≡ suc (length (q ∷ rs) - 1) = omega arith in
    ap (λ n. sheet_or blank (slice_get (r ∷ q ∷ rs) n)) more ∙ last_one blank (q ∷ rs)

pub sheet_read : (blank : List ℕ) (rs : List Played) (o : Option Played) → slice_get rs (length rs - 1) ≡ o → sheet_after blank rs ≡ sheet_or blank o
sheet_read blank rs o is = sym (last_one blank rs) ∙ ap (sheet_or blank) is
