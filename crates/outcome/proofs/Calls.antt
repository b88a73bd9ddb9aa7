use Rattle.std.proofs.Common.{◌≡◌, ℕ, zero, suc, ◌/◌, ◌%◌, ◌<◌, ◌≤◌, List, [], ◌∷◌, ◌++◌, map, replicate, sum, refl, sym, ap, ◌∙◌, arith}
use Rattle.std.specs.Bool.{⊤}
use Rattle.std.proofs.lemmas.Bool.{ne_eqb}
use Rattle.std.proofs.lemmas.List.{map-append}
use Rattle.std.proofs.lemmas.List.Folds.{sum_by-replicate}
use Rattle.std.proofs.lemmas.List.Sums.{sum_by-append}
use Rattle.planner.specs.Calls.{on_state}
use Rattle.planner.specs.declared.call.Call.{Call}
use Rattle.planner.specs.declared.call.Call.TheVariants.{Load, Work, Fetch}
use Rattle.planner.specs.declared.planner.TheConstants.{HIGHEST_GRANT}
use Rattle.outcome.specs.Verdicts.{calls_within, grants, one_grant}

-- The calls of a search.

-- a load, and so many grants of a million looks, and nothing else yet
abbrev pub calls_so_far : {S : Type 0} → S → ℕ → ℕ → List (Call S)
calls_so_far s limit n = Load s limit ∷ map Work (replicate n HIGHEST_GRANT)

-- with the grant of what is left, and the fetch, these are all
pub all_calls : {S : Type 0} (s : S) (limit looks n : ℕ) (before granted after : List (Call S)) → n ≡ looks / HIGHEST_GRANT → before ≡ calls_so_far s limit n → granted ≡ before ++ map Work (one_grant (looks % HIGHEST_GRANT)) → after ≡ granted ++ Fetch ∷ [] → after ≡ calls_within s limit looks
unfolding calls_within
all_calls s limit looks n before granted after all was rest more =
    more
    ∙ ap (λ cs. cs ++ Fetch ∷ []) (rest ∙ ap (λ cs. cs ++ map Work (one_grant (looks % HIGHEST_GRANT))) (was ∙ ap (calls_so_far s limit) all))
    ∙ ap (λ cs. Load s limit ∷ (cs ++ Fetch ∷ [])) (sym (map-append Work (replicate (looks / HIGHEST_GRANT) HIGHEST_GRANT) (one_grant (looks % HIGHEST_GRANT))))

map_grants : {S M : Type 0} (state : M → S) (gs : List ℕ) → map (on_state state) (map Work gs ++ Fetch ∷ []) ≡ map Work gs ++ Fetch ∷ []
map_grants state [] = refl
map_grants state (g ∷ gs) = ap (λ cs. Work g ∷ cs) (map_grants state gs)

-- on the state that the machine is in
pub map_calls : {S M : Type 0} (state : M → S) (x : M) (limit looks : ℕ) → map (on_state state) (calls_within x limit looks) ≡ Load (state x) limit ∷ (map Work (grants looks) ++ Fetch ∷ [])
unfolding calls_within
map_calls state x limit looks = ap (λ cs. Load (state x) limit ∷ cs) (map_grants state (grants looks))

-- Each of these grants is of 1 to a million looks.
abbrev pub Accepted : List ℕ → Type 0
Accepted [] = ⊤
Accepted (g ∷ gs) = (0 < g) × (g ≤ HIGHEST_GRANT) × Accepted gs

one_accepted : (looks : ℕ) → looks ≤ HIGHEST_GRANT → Accepted (one_grant looks)
one_accepted zero le = tt
one_accepted (suc n) le = rw (ne_eqb (suc n) 0 (omega arith)) (omega arith, le, tt)

full_accepted : (n : ℕ) (gs : List ℕ) → Accepted gs → Accepted (replicate n HIGHEST_GRANT ++ gs)
full_accepted zero gs h = h
full_accepted (suc n) gs h = (omega arith, omega arith, full_accepted n gs h)

pub grants_accepted : (looks : ℕ) → Accepted (grants looks)
grants_accepted looks = full_accepted (looks / HIGHEST_GRANT) (one_grant (looks % HIGHEST_GRANT)) (one_accepted (looks % HIGHEST_GRANT) (omega arith))

one_sum : (looks : ℕ) → sum (one_grant looks) ≡ looks
one_sum zero = refl
one_sum (suc n) = rw (ne_eqb (suc n) 0 (omega arith)) (omega arith)

-- they come to so many looks
pub grants_sum : (looks : ℕ) → sum (grants looks) ≡ looks
grants_sum looks =
    let parts = sum_by-append (λ x. x) (replicate (looks / HIGHEST_GRANT) HIGHEST_GRANT) (one_grant (looks % HIGHEST_GRANT)) in
    let full = sum_by-replicate (λ x. x) (looks / HIGHEST_GRANT) HIGHEST_GRANT in
    let rest = one_sum (looks % HIGHEST_GRANT) in
    omega arith
