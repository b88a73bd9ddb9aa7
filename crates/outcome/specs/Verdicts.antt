use Rattle.std.specs.Prelude.{ℕ, ◌/◌, ◌%◌, ◌==◌, if◌then◌else◌, List, [], ◌∷◌, ◌++◌, map, replicate, None, Option, Ok, Result}
use Rattle.std.specs.List.{fold}
use Rattle.std.specs.Result.{result_err}
use Rattle.planner.specs.declared.answer.Answer.{Answer}
use Rattle.planner.specs.declared.answer.Answer.TheVariants as answer
use Rattle.planner.specs.declared.call.Call.{Call}
use Rattle.planner.specs.declared.call.Call.TheVariants.{Load, Work, Fetch}
use Rattle.planner.specs.declared.fault.Fault.{Fault}
use Rattle.planner.specs.declared.planner.TheConstants.{HIGHEST_GRANT}
use Rattle.planner.specs.declared.played.Played.{Played}
use Rattle.outcome.specs.declared.verdict.Verdict.{Verdict}
use Rattle.outcome.specs.declared.verdict.Verdict.TheVariants.{Unfinished, Found, NoPlan}

-- One grant of so many looks, or none of 0.
abbrev pub one_grant : ℕ → List ℕ
one_grant looks = if looks == 0 then [] else looks ∷ []

-- The grants that come to so many looks: as many of the highest as fit, and one of what is left.
abbrev pub grants : ℕ → List ℕ
grants looks = replicate (looks / HIGHEST_GRANT) HIGHEST_GRANT ++ one_grant (looks % HIGHEST_GRANT)

-- The calls of a search by at most so many looks: a load, the grants, and a fetch.
unfoldable pub calls_within : {S : Type 0} → S → ℕ → ℕ → List (Call S)
calls_within s limit looks = Load s limit ∷ (map Work (grants looks) ++ Fetch ∷ [])

-- The verdict after one more reply: only an accepted grant changes it.
abbrev pub heard : Verdict → Result Answer Fault → Verdict
heard v (Ok (answer.Working looks)) = Unfinished looks
heard v (Ok (answer.Found length looks)) = Found length looks
heard v (Ok (answer.NoPlan looks)) = NoPlan looks
heard v r = v

-- The verdict after these replies, and the sheet.
abbrev pub verdict_after : Verdict → List Played → Verdict
verdict_after v rs = fold (λ u r. heard u r.reply) v rs

abbrev pub sheet_after : List ℕ → List Played → List ℕ
sheet_after sheet rs = fold (λ old r. r.sheet) sheet rs

-- Why the first call, the load, was refused, if it was.
abbrev pub load_fault : List Played → Option Fault
load_fault [] = None
load_fault (r ∷ rs) = result_err r.reply
