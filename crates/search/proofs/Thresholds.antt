use Rattle.std.proofs.Common.{ℕ, ◌≤◌, ◌<◌, Option, Some, None, nat_lt}
use Rattle.std.proofs.lemmas.Bool.{cond_both, ltb-true, ltb-false}
use Rattle.search.specs.Search.{allowed}

-- a threshold is above the limit, or it is allowed
pub allowed_cases : (P : Option ℕ → Type 0) (limit t : ℕ) → (limit < t → P None) → (t ≤ limit → P (Some t)) → P (allowed limit t)
allowed_cases P limit t over under = cond_both (nat_lt limit t) None (Some t) P (λ is. over (ltb-true limit t is)) (λ is. under (ltb-false limit t is))
