use Rattle.std.specs.Prelude.{◌≡◌, ⊤, ℕ, ◌+◌, ◌↔◌, List, [], ◌∷◌, ◌++◌, length, Some, None, Option, IsOk, IsOkAnd, slice_get}
use Rattle.machine.specs.Meaning.{Meaning}
use Rattle.planner.specs.Calls.{Task, refused, after_all}
use Rattle.planner.specs.Promise.{Granted, Yields}
use Rattle.planner.specs.declared.call.Call.{Call}
use Rattle.planner.specs.declared.call.Call.TheVariants.{Load, Work, Fetch, Drop}
use Rattle.planner.specs.declared.played.Played.{Played}

-- What a planner promises of a list of calls, in the words of the list: by the latest accepted load before a call, and the accepted grants since.

abbrev pub IsLoad : {S : Type 0} → Call S → Type 0
IsLoad (Load s limit) = ⊤
IsLoad call = ⊥

-- A call of a list, with the calls before it and those after it, and what was replied to it.
pub record Replied {S : Type 0} (calls : List (Call S)) (replies : List Played) : Type 0 where
  pub before : List (Call S)
  pub call : Call S
  pub rest : List (Call S)
  pub split : calls ≡ before ++ call ∷ rest
  pub played : Played
  pub at_its_place : slice_get replies (length before) ≡ Some played

-- The first of the calls goes to a planner with this task, or none.
module _ {S : Type 0} (m : Meaning S) (e : S → ℕ) (first : Option (Task S)) where
  -- A call that comes after these is accepted: no fault applies to it.
  abbrev pub IsAccepted : List (Call S) → Call S → Type 0
  IsAccepted before call = refused m e (after_all m e first before) call ≡ None

  -- None of the calls, which come after those before, is an accepted load.
  abbrev pub NoLoad : List (Call S) → List (Call S) → Type 0
  NoLoad before [] = ⊤
  NoLoad before (c ∷ cs) = (IsLoad c → IsAccepted before c → ⊥) × NoLoad (before ++ c ∷ []) cs

  -- The looks that a call grants which comes after these: none where it is not an accepted grant.
  abbrev pub looks_of : List (Call S) → Call S → ℕ
  looks_of before (Load s limit) = 0
  looks_of before (Work grant) = elim (refused m e (after_all m e first before) (Work grant)) [ None ↦ grant | Some f ↦ 0 ]
  looks_of before Fetch = 0
  looks_of before Drop = 0

  -- The sum of the accepted grants among the calls, which come after those before.
  abbrev pub grants_in : List (Call S) → List (Call S) → ℕ
  grants_in before [] = 0
  grants_in before (c ∷ cs) = looks_of before c + grants_in (before ++ c ∷ []) cs

  -- The latest accepted load among these calls: those before it, and those since, none of which is an accepted load.
  pub record LatestLoad (calls : List (Call S)) : Type 0 where
    pub before : List (Call S)
    pub start : S
    pub limit : ℕ
    pub since : List (Call S)
    pub split : calls ≡ before ++ Load start limit ∷ since
    pub accepted : IsAccepted before (Load start limit)
    pub no_other : NoLoad (before ++ Load start limit ∷ []) since

  -- The sum of the accepted grants since that load.
  abbrev pub grants_since : {calls : List (Call S)} → LatestLoad calls → ℕ
  grants_since l = grants_in (l.before ++ Load l.start l.limit ∷ []) l.since

  -- What was replied keeps the promise.
  pub record KeepsPromise (calls : List (Call S)) (replies : List Played) : Type 0 where
    -- a call is accepted exactly when it is not answered by a refusal
    pub accepted : (x : Replied calls replies) → (IsAccepted x.before x.call) ↔ (IsOk x.played.reply)
    -- an accepted fetch yields the plan of the latest accepted load, which is a shortest one within its limit
    pub fetch : (x : Replied calls replies) → x.call ≡ Fetch → IsAccepted x.before Fetch → (l : LatestLoad x.before) →
        IsOkAnd x.played.reply (λ a. Yields m e (record { start = l.start; limit = l.limit; granted = grants_since l }) a x.played.sheet)
    -- an accepted grant is told what its search has come to by the grants since that load, with this one
    pub grant : (x : Replied calls replies) (n : ℕ) → x.call ≡ Work n → IsAccepted x.before (Work n) → (l : LatestLoad x.before) →
        IsOkAnd x.played.reply (λ a. Granted m e (record { start = l.start; limit = l.limit; granted = grants_since l + n }) a)
