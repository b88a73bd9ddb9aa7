use Rattle.std.proofs.Common.{◌≡◌, ℕ, ◌+◌, List, [], ◌∷◌, ◌++◌, length, Option, Some, None, Result, Ok, Err, refl, sym, subst, ap, ◌∙◌, arith, slice_get}
use Rattle.std.specs.Result.{IsOk, IsOkAnd}
use mathlib.Core.List.{append_assoc, append-nil}
use Rattle.machine.specs.Meaning.{Meaning}
use Rattle.planner.specs.Calls.{Task, accept, refused, after, after_all}
use Rattle.planner.specs.Promise.{Granted, Yields, OwedIf, Kept, Run}
use Rattle.planner.specs.Since.{IsLoad, Replied, IsAccepted, NoLoad, looks_of, grants_in, LatestLoad, grants_since, KeepsPromise}
use Rattle.planner.specs.declared.answer.Answer.{Answer}
use Rattle.planner.specs.declared.call.Call.{Call}
use Rattle.planner.specs.declared.call.Call.TheVariants.{Load, Work, Fetch, Drop}
use Rattle.planner.specs.declared.fault.Fault.{Fault}
use Rattle.planner.specs.declared.played.Played.{Played}

-- From the law that goes along the calls to the promise in the words of the list.

abbrev IsSome : {A : Type 0} → Option A → Type 0
IsSome None = ⊥
IsSome (Some a) = Unit {0}

module _ {S : Type 0} (m : Meaning S) (e : S → ℕ) where
  pub after_append : (task : Option (Task S)) (cs ds : List (Call S)) → after_all m e task (cs ++ ds) ≡ after_all m e (after_all m e task cs) ds
  after_append task [] ds = refl
  after_append task (c ∷ cs) ds = after_append (after m e task c) cs ds

  -- what was owed to a call of a run
  pub record Owing (task : Option (Task S)) (c : Call S) (r : Played) : Type 0 where
    pub sheet : List ℕ
    pub kept : Kept m e task c sheet r.reply r.sheet

  owing_in : (task : Option (Task S)) (sheet : List ℕ) (before : List (Call S)) (c : Call S) (rest : List (Call S)) (replies : List Played) (r : Played) → Run m e task sheet (before ++ c ∷ rest) replies → slice_get replies (length before) ≡ Some r → Owing (after_all m e task before) c r
  owing_in task sheet [] c rest [] r run is = absurd run
  owing_in task sheet [] c rest (q ∷ replies) r run is = let same : q ≡ r = cc in record { sheet = sheet; kept = subst (λ p. Kept m e task c sheet p.reply p.sheet) same run.0 }
  owing_in task sheet (b ∷ before) c rest [] r run is = absurd run
  owing_in task sheet (b ∷ before) c rest (q ∷ replies) r run is = owing_in (after m e task b) q.sheet before c rest replies r run.1 is

  -- accepted is not answered by a refusal
  ok_if : (o : Option Fault) (task : Option (Task S)) (c : Call S) (old new : List ℕ) (r : Result Answer Fault) → OwedIf m e o task c old r new → o ≡ None → IsOk r
  ok_if None task c old new (Ok a) owed is = refl
  ok_if None task c old new (Err f) owed is = absurd owed
  ok_if (Some f) task c old new r owed is = absurd (subst IsSome is tt)

  none_if : (o : Option Fault) (task : Option (Task S)) (c : Call S) (old new : List ℕ) (r : Result Answer Fault) → OwedIf m e o task c old r new → IsOk r → o ≡ None
  none_if None task c old new r owed ok = refl
  none_if (Some f) task c old new (Ok a) owed ok = let is : Ok a ≡ Err f = owed.0 in cc
  none_if (Some f) task c old new (Err g) owed ok = cc

  -- The task is none, or that of a load with these grants since.
  abbrev Since : Task S → ℕ → Option (Task S) → Type 0
  Since t granted None = Unit {0}
  Since t granted (Some u) = u ≡ record { start = t.start; limit = t.limit; granted = granted }

  module _ (t : Task S) (granted : ℕ) where
    load_next : (task : Option (Task S)) (s : S) (limit : ℕ) (o : Option Fault) → (o ≡ None → ⊥) → Since t granted task → Since t granted (elim o [ None ↦ accept task (Load s limit) | Some f ↦ task ])
    load_next task s limit None not h = absurd (not refl)
    load_next task s limit (Some f) not h = h

    work_next : (task : Option (Task S)) (n : ℕ) (o : Option Fault) → Since t granted task → Since t (granted + elim o [ None ↦ n | Some f ↦ 0 ]) (elim o [ None ↦ accept task (Work n) | Some f ↦ task ])
    work_next None n None h = tt
    work_next (Some u) n None h = ap (λ v. record { start = v.start; limit = v.limit; granted = v.granted + n }) h
    work_next None n (Some f) h = tt
    work_next (Some u) n (Some f) h = let same : granted ≡ granted + 0 = omega arith in subst (λ g. Since t g (Some u)) same h

    fetch_next : (task : Option (Task S)) (o : Option Fault) → Since t granted task → Since t granted (elim o [ None ↦ accept task Fetch | Some f ↦ task ])
    fetch_next task None h = h
    fetch_next task (Some f) h = h

    drop_next : (task : Option (Task S)) (o : Option Fault) → Since t granted task → Since t granted (elim o [ None ↦ accept task Drop | Some f ↦ task ])
    drop_next task None h = tt
    drop_next task (Some f) h = h

  module _ (first : Option (Task S)) where
    one_next : (t : Task S) (granted : ℕ) (before : List (Call S)) (c : Call S) → (IsLoad c → IsAccepted m e first before c → ⊥) → Since t granted (after_all m e first before) → Since t (granted + looks_of m e first before c) (after m e (after_all m e first before) c)
    one_next t granted before (Load s limit) not h =
        let task = after_all m e first before in
        let same : granted ≡ granted + 0 = omega arith in
        subst (λ g. Since t g (after m e task (Load s limit))) same (load_next t granted task s limit (refused m e task (Load s limit)) (not tt) h)
    one_next t granted before (Work n) not h = let task = after_all m e first before in work_next t granted task n (refused m e task (Work n)) h
    one_next t granted before Fetch not h =
        let task = after_all m e first before in
        let same : granted ≡ granted + 0 = omega arith in
        subst (λ g. Since t g (after m e task Fetch)) same (fetch_next t granted task (refused m e task Fetch) h)
    one_next t granted before Drop not h =
        let task = after_all m e first before in
        let same : granted ≡ granted + 0 = omega arith in
        subst (λ g. Since t g (after m e task Drop)) same (drop_next t granted task (refused m e task Drop) h)

    all_next : (t : Task S) (granted : ℕ) (before cs : List (Call S)) → NoLoad m e first before cs → Since t granted (after_all m e first before) → Since t (granted + grants_in m e first before cs) (after_all m e first (before ++ cs))
    all_next t granted before [] none h =
        let same : granted ≡ granted + 0 = omega arith in
        subst (Since t (granted + 0)) (ap (after_all m e first) (sym (append-nil before))) (subst (λ g. Since t g (after_all m e first before)) same h)
    all_next t granted before (c ∷ cs) none h =
        let more = looks_of m e first before c in
        let later = grants_in m e first (before ++ c ∷ []) cs in
        let sum : (granted + more) + later ≡ granted + (more + later) = omega arith in
        let one = subst (Since t (granted + more)) (sym (after_append first before (c ∷ []))) (one_next t granted before c none.0 h) in
        subst (λ g. Since t g (after_all m e first (before ++ c ∷ cs))) sum
        (subst (Since t (granted + more + later)) (ap (after_all m e first) (append_assoc before (c ∷ []) cs)) (all_next t (granted + more) (before ++ c ∷ []) cs none.1 one))

    loaded : (before : List (Call S)) (s : S) (limit : ℕ) → IsAccepted m e first before (Load s limit) → after_all m e first (before ++ Load s limit ∷ []) ≡ Some (record { start = s; limit = limit; granted = 0 })
    loaded before s limit is =
        let task = after_all m e first before in
        after_append first before (Load s limit ∷ []) ∙ ap (λ o. elim o as (λ _. Option (Task S)) [ None ↦ accept task (Load s limit) | Some f ↦ task ]) is

    -- the task by the latest accepted load
    since_load : (calls : List (Call S)) (l : LatestLoad m e first calls) → Since (record { start = l.start; limit = l.limit; granted = 0 }) (grants_since m e first l) (after_all m e first calls)
    since_load calls l =
        let load : Call S = Load l.start l.limit in
        let t : Task S = record { start = l.start; limit = l.limit; granted = 0 } in
        let begun = subst (Since t 0) (sym (loaded l.before l.start l.limit l.accepted)) refl in
        let base = l.before ++ load ∷ [] in
        let sum : 0 + grants_in m e first base l.since ≡ grants_since m e first l = omega arith in
        subst (Since t (grants_since m e first l)) (ap (after_all m e first) (append_assoc l.before (load ∷ []) l.since ∙ sym l.split))
        (subst (λ g. Since t g (after_all m e first (base ++ l.since))) sum (all_next t 0 base l.since l.no_other begun))

    module _ (t : Task S) (granted : ℕ) (task : Option (Task S)) (old : List ℕ) (r : Played) where
      yields_by : Since t granted task → OwedIf m e None task Fetch old r.reply r.sheet → IsOkAnd r.reply (λ a. Yields m e (record { start = t.start; limit = t.limit; granted = granted }) a r.sheet)
      yields_by h owed = by_reply task r.reply h owed
        where
          by_reply : (task : Option (Task S)) (reply : Result Answer Fault) → Since t granted task → OwedIf m e None task Fetch old reply r.sheet → IsOkAnd reply (λ a. Yields m e (record { start = t.start; limit = t.limit; granted = granted }) a r.sheet)
          by_reply None (Ok a) h owed = absurd owed
          by_reply (Some u) (Ok a) h owed = subst (λ v. Yields m e v a r.sheet) h owed
          by_reply None (Err f) h owed = absurd owed
          by_reply (Some u) (Err f) h owed = absurd owed

      granted_by : (n : ℕ) → Since t granted task → OwedIf m e None task (Work n) old r.reply r.sheet → IsOkAnd r.reply (λ a. Granted m e (record { start = t.start; limit = t.limit; granted = granted + n }) a)
      granted_by n h owed = by_reply task r.reply h owed
        where
          by_reply : (task : Option (Task S)) (reply : Result Answer Fault) → Since t granted task → OwedIf m e None task (Work n) old reply r.sheet → IsOkAnd reply (λ a. Granted m e (record { start = t.start; limit = t.limit; granted = granted + n }) a)
          by_reply None (Ok a) h owed = absurd owed
          by_reply (Some u) (Ok a) h owed = subst (λ v. Granted m e (record { start = v.start; limit = v.limit; granted = v.granted + n }) a) h owed.0
          by_reply None (Err f) h owed = absurd owed
          by_reply (Some u) (Err f) h owed = absurd owed

    module _ (sheet : List ℕ) (calls : List (Call S)) (replies : List Played) (run : Run m e first sheet calls replies) where
      owing : (x : Replied calls replies) → Owing (after_all m e first x.before) x.call x.played
      owing x = owing_in first sheet x.before x.call x.rest replies x.played (subst (λ cs. Run m e first sheet cs replies) x.split run) x.at_its_place

      owing_to : (x : Replied calls replies) (c : Call S) → x.call ≡ c → Owing (after_all m e first x.before) c x.played
      owing_to x c is = subst (λ d. Owing (after_all m e first x.before) d x.played) is (owing x)

      pub keeps_promise : KeepsPromise m e first calls replies
      keeps_promise = record {
        accepted = λ x. let o = owing x in let task = after_all m e first x.before in (
          λ is. ok_if (refused m e task x.call) task x.call o.sheet x.played.sheet x.played.reply o.kept is,
          λ ok. none_if (refused m e task x.call) task x.call o.sheet x.played.sheet x.played.reply o.kept ok,
        );
        fetch = λ x is accepted l. let o = owing_to x Fetch is in let task = after_all m e first x.before in
            yields_by (record { start = l.start; limit = l.limit; granted = 0 }) (grants_since m e first l) task o.sheet x.played (since_load x.before l)
            (subst (λ f. OwedIf m e f task Fetch o.sheet x.played.reply x.played.sheet) accepted o.kept);
        grant = λ x n is accepted l. let o = owing_to x (Work n) is in let task = after_all m e first x.before in
            granted_by (record { start = l.start; limit = l.limit; granted = 0 }) (grants_since m e first l) task o.sheet x.played n (since_load x.before l)
            (subst (λ f. OwedIf m e f task (Work n) o.sheet x.played.reply x.played.sheet) accepted o.kept);
      }
