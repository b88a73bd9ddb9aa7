use Rattle.std.proofs.Common.{◌≡◌, ℕ, ◌+◌, ◌≤◌, ◌<◌, min, List, length, reverse, take, Option, Some, None, Ok, Err, refl, sym, subst, ap, ap₂, ◌∙◌, arith, ⊎_elim, nat_lt}
use Rattle.std.proofs.lemmas.Bool.{cases_lt, cond-false, le-ltb}
use Rattle.std.proofs.lemmas.List.{length-reverse, take_all}
use Rattle.machine.specs.Meaning.{Meaning}
use Rattle.search.specs.Shortest.{FindsShortest}
use Rattle.walk.specs.Sheets.{padded}
use Rattle.walk.specs.declared.sheet.TheConstants.{SHEET_PLACES}
use Rattle.walk.specs.Walks.{made}
use Rattle.planner.specs.Calls.{Task, first_fault, accept, search_of, doing, refused}
use Rattle.planner.specs.Promise.{Granted, Yields, Owed, OwedIf}
use Rattle.planner.specs.Holds.{report, Searching, HasPlan, Standing, HoldsTask, Holds, Answers}
use Rattle.planner.specs.declared.answer.Answer.{Answer}
use Rattle.planner.specs.declared.answer.Answer.TheVariants.{Fetched}
use Rattle.planner.specs.declared.call.Call.{Call}
use Rattle.planner.specs.declared.call.Call.TheVariants.{Load, Work, Fetch, Drop}
use Rattle.planner.specs.declared.fault.Fault.{Fault}
use Rattle.planner.specs.declared.phase.Phase.{Phase}
use Rattle.planner.specs.declared.phase.Phase.TheVariants as phase
use Rattle.planner.specs.declared.planner.Planner.{Planner}
use Rattle.planner.specs.declared.progress.Progress.{Progress}

-- What is told and written, by how a planner stands.

abbrev IsAtWork : Phase → Type 0
IsAtWork phase.AtWork = Unit {0}
IsAtWork ph = ⊥

abbrev IsFound : Phase → Type 0
IsFound phase.Found = Unit {0}
IsFound ph = ⊥

abbrev IsSome : {A : Type 0} → Option A → Type 0
IsSome None = ⊥
IsSome (Some a) = Unit {0}

module _ {S : Type 0} (m : Meaning S) (e : S → ℕ) (t : Task S) (owes : FindsShortest m e t.limit t.start) where
  -- a search that is at work has fewer looks granted than it makes in all
  working_less : phase.AtWork ≡ doing m e (Some t) → t.granted < (search_of m e t).looks
  working_less is =
      ⊎_elim (λ less. less)
      (λ (all : (search_of m e t).looks ≤ t.granted).
      absurd (not_working (search_of m e t).plan (is ∙ cond-false (nat_lt t.granted (search_of m e t).looks) _ _ (le-ltb t.granted (search_of m e t).looks all))))
      (cases_lt t.granted (search_of m e t).looks)
    where
      not_working : (o : Option (List ℕ)) → phase.AtWork ≡ elim o [ None ↦ phase.NoPlan | Some p ↦ phase.Found ] → ⊥
      not_working None is = subst IsAtWork is tt
      not_working (Some p) is = subst IsAtWork is tt

  module _ {M : Type 0} (state : M → S) (looks : ℕ) (p : Progress M) where
    -- the report that a grant is told
    pub granted_is : (ph : Phase) → ph ≡ doing m e (Some t) → looks ≡ min t.granted (search_of m e t).looks → Standing m state e t.limit t.start ph looks p → Granted m e t (report ph (length (made p.walk)) looks)
    granted_is phase.Empty is spent x = absurd x
    granted_is phase.AtWork is spent x = record {
      working = (λ _. working_less is, λ _. tt);
      looks = ap Some spent;
      none = λ not. absurd (not tt);
      found = λ not. absurd (not tt);
    }
    granted_is phase.Found is spent x =
        let all = x.all_made in
        record {
          working = (λ w. absurd w, λ less. absurd (omega arith));
          looks = ap Some spent;
          none = λ _. (λ n. absurd n, λ longer. absurd (subst IsSome (sym x.plan_is ∙ owes.none.1 longer) tt));
          found = λ _ _. (tt, (reverse (made p.walk), x.plan_is, ap Some (sym (length-reverse (made p.walk)))));
        }
    granted_is phase.NoPlan is spent x =
        let all = x.all_made in
        record {
          working = (λ w. absurd w, λ less. absurd (omega arith));
          looks = ap Some spent;
          none = λ _. (λ _. owes.none.0 x.none, λ _. tt);
          found = λ _ not. absurd (not tt);
        }

    -- the plan that a fetch yields
    pub yields : HasPlan m state e t.limit t.start looks p → (sheet : List ℕ) → sheet ≡ padded (reverse (made p.walk)) → Yields m e t (Fetched (length (made p.walk))) sheet
    yields x sheet is = record {
      turns = reverse (made p.walk);
      fetched = tt;
      length_is = ap Some (sym (length-reverse (made p.walk)));
      sheet_is = is;
      searched = x.plan_is;
      shortest = owes.found (reverse (made p.walk)) x.plan_is;
    }

module _ {S M E : Type 0} (m : Meaning S) (state : M → S) (e : S → ℕ) where
  -- what is refused, by what the planner itself keeps
  pub refused_is : (task : Option (Task S)) (p : Planner M E) (c : Call S) → Holds m state e task p → refused m e task c ≡ first_fault p.phase p.granted c
  refused_is None p c x = subst (λ ph. first_fault phase.Empty 0 c ≡ first_fault ph p.granted c) (sym x) (by_call c)
    where
      by_call : (c : Call S) → first_fault phase.Empty 0 c ≡ first_fault phase.Empty p.granted c
      by_call (Load s limit) = refl
      by_call (Work grant) = refl
      by_call Fetch = refl
      by_call Drop = refl
  refused_is (Some t) p c x = ap₂ (λ ph n. first_fault ph n c) (sym x.phase) (sym x.granted)

  -- a call that is refused, and one that is accepted
  pub turned_down : (task : Option (Task S)) (p : Planner M E) (c : Call S) (sheet : List ℕ) (f : Fault) → Holds m state e task p → first_fault p.phase p.granted c ≡ Some f → Answers m state e task c sheet (Err f) sheet p
  turned_down task p c sheet f x is =
      subst (λ o. Holds m state e (elim o [ None ↦ accept task c | Some f ↦ task ]) p × OwedIf m e o task c sheet (Err f) sheet) (sym (refused_is task p c x ∙ is)) (x, (refl, refl))

  pub accepted : (task : Option (Task S)) (p q : Planner M E) (c : Call S) (old new : List ℕ) (a : Answer) → Holds m state e task p → first_fault p.phase p.granted c ≡ None → Holds m state e (accept task c) q → Owed m e task c old a new → Answers m state e task c old (Ok a) new q
  accepted task p q c old new a x is y owed =
      subst (λ o. Holds m state e (elim o [ None ↦ accept task c | Some f ↦ task ]) q × OwedIf m e o task c old (Ok a) new) (sym (refused_is task p c x ∙ is)) (y, owed)

  module _ (owes : (limit : ℕ) (s : S) → FindsShortest m e limit s) where
    pub worked : (task : Option (Task S)) (p q : Planner M E) (n : ℕ) (sheet : List ℕ) (a : Answer) → p.phase ≡ phase.AtWork → Holds m state e task p → first_fault {S = S} phase.AtWork p.granted (Work n) ≡ None →
        ((limit : ℕ) (s : S) → Searching m state e limit s p.looks p.progress → HoldsTask m state e (record { start = s; limit = limit; granted = p.granted + n }) q) →
        a ≡ report q.phase (length (made q.progress.walk)) q.looks → Answers m state e task (Work n) sheet (Ok a) sheet q
    worked None p q n sheet a working x fine on is = absurd (subst IsAtWork (sym working ∙ x) tt)
    worked (Some t) p q n sheet a working x fine on is =
        let u : Task S = record { start = t.start; limit = t.limit; granted = t.granted + n } in
        let y = subst (λ k. HoldsTask m state e (record { start = t.start; limit = t.limit; granted = k + n }) q) x.granted (on t.limit t.start (subst (λ ph. Standing m state e t.limit t.start ph p.looks p.progress) working x.standing)) in
        accepted (Some t) p q (Work n) sheet sheet a x (ap (λ ph. first_fault {S = S} ph p.granted (Work n)) working ∙ fine) y
        (subst (Granted m e u) (sym is) (granted_is m e u (owes t.limit t.start) state q.looks q.progress q.phase y.phase y.looks y.standing), refl)

    pub fetched : (task : Option (Task S)) (p : Planner M E) (old new : List ℕ) (a : Answer) → p.phase ≡ phase.Found → Holds m state e task p → a ≡ Fetched (length (made p.progress.walk)) → new ≡ padded (take SHEET_PLACES (reverse (made p.progress.walk))) → Answers m state e task Fetch old (Ok a) new p
    fetched None p old new a found x is written = absurd (subst IsFound (sym found ∙ x) tt)
    fetched (Some t) p old new a found x is written =
        let y = subst (λ ph. Standing m state e t.limit t.start ph p.looks p.progress) found x.standing in
        accepted (Some t) p p Fetch old new a x (ap (λ ph. first_fault {S = S} ph p.granted Fetch) found) x
        (subst (λ b. Yields m e t b new) (sym is) (yields m e t (owes t.limit t.start) state p.looks p.progress y new (written ∙ ap padded (take_all SHEET_PLACES (reverse (made p.progress.walk)) (let within = y.within in let long = length-reverse (made p.progress.walk) in omega arith)))))
