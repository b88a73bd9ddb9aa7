use Rattle.std.proofs.Common.{◌≡◌, ℕ, ◌+◌, ◌≤◌, ◌<◌, min, List, [], ◌∷◌, length, reverse, drop, Some, None, refl, sym, subst, ap, ◌∙◌, arith, nat_lt}
use Rattle.std.proofs.lemmas.Bool.{cond-true, cond-false, lt-ltb, le-ltb}
use Rattle.std.proofs.lemmas.List.{length-drop}
use Rattle.machine.specs.Meaning.{Meaning}
use Rattle.search.specs.Search.{Look, cut, home, continued, plan, all_looks}
use Rattle.walk.specs.Walks.{made}
use Rattle.planner.specs.Calls.{Task, search_of, doing}
use Rattle.planner.specs.UnderWay.{NotHome, UnderWay, Looked}
use Rattle.planner.specs.Holds.{Searching, Standing, HoldsTask}
use Rattle.planner.specs.declared.phase.Phase.{Phase}
use Rattle.planner.specs.declared.phase.Phase.TheVariants as phase
use Rattle.planner.specs.declared.planner.Planner.{Planner}
use Rattle.planner.specs.declared.progress.Progress.{Progress}
use Rattle.planner.specs.declared.seen.Seen.{Seen}
use Rattle.planner.specs.declared.seen.Seen.TheVariants.{GoesOn, Home, Ended}
use Rattle.planner.proofs.LookCases.{drop_next, length_next}
use Rattle.planner.proofs.LookMade.{some_under_way}

module _ {S M : Type 0} (m : Meaning S) (state : M → S) (e : S → ℕ) where
  -- What a planner is doing, by how its search stands.
  abbrev Doing : Task S → Phase → ℕ → Type 0
  Doing t ph looks = (ph ≡ doing m e (Some t)) × (looks ≡ min t.granted (search_of m e t).looks)

  ended : (t : Task S) → (search_of m e t).looks ≤ t.granted → doing m e (Some t) ≡ elim (search_of m e t).plan [ None ↦ phase.NoPlan | Some p ↦ phase.Found ]
  ended t le = cond-false (nat_lt t.granted (search_of m e t).looks) _ _ (le-ltb t.granted (search_of m e t).looks le)

  pub doing_by : (t : Task S) (ph : Phase) (looks : ℕ) (p : Progress M) → Standing m state e t.limit t.start ph looks p → looks ≤ t.granted → (ph ≡ phase.AtWork → looks ≡ t.granted) → Doing t ph looks
  doing_by t phase.Empty looks p x le all = absurd x
  doing_by t phase.AtWork looks p x le all =
      let same = all refl in
      let long = length-drop looks (all_looks m e t.limit t.start) in
      let some = some_under_way m state e t.limit t.start p (drop looks (all_looks m e t.limit t.start)) x.to_come in
      let less : t.granted < (search_of m e t).looks = omega arith in
      (sym (cond-true (nat_lt t.granted (search_of m e t).looks) _ _ (lt-ltb t.granted (search_of m e t).looks less)), omega arith)
  doing_by t phase.Found looks p x le all =
      let made = x.all_made in
      (sym (ended t (omega arith) ∙ ap (λ o. elim o [ None ↦ phase.NoPlan | Some q ↦ phase.Found ]) x.plan_is), omega arith)
  doing_by t phase.NoPlan looks p x le all =
      let made = x.all_made in
      (sym (ended t (omega arith) ∙ ap (λ o. elim o [ None ↦ phase.NoPlan | Some q ↦ phase.Found ]) x.none), omega arith)

-- What a planner is doing after a look.
abbrev pub phase_after : Seen → Phase
phase_after GoesOn = phase.AtWork
phase_after Home = phase.Found
phase_after Ended = phase.NoPlan

plan_not_home : (look : Look) (rest : List Look) → NotHome look → plan (look ∷ rest) ≡ plan rest
plan_not_home (cut t) rest h = refl
plan_not_home (home p) rest h = absurd h
plan_not_home continued rest h = refl

module _ {S M : Type 0} (m : Meaning S) (state : M → S) (e : S → ℕ) (limit : ℕ) (s : S) where
  -- one look more is made
  pub looked : (looks : ℕ) (p q : Progress M) (seen : Seen) → Searching m state e limit s looks p → Looked m state e limit s seen q (drop looks (all_looks m e limit s)) → Standing m state e limit s (phase_after seen) (looks + 1) q
  looked looks p q GoesOn x y =
      let all = all_looks m e limit s in
      let next = drop_next all looks y.look y.rest y.is in
      record {
        to_come = subst (UnderWay m state e limit s q) (sym next) y.gone_on;
        not_yet = x.not_yet ∙ ap plan y.is ∙ plan_not_home y.look y.rest y.not_home ∙ sym (ap plan next);
      }
  looked looks p q Home x y =
      let all = all_looks m e limit s in
      let long = length_next all looks (home (reverse (made q.walk))) [] y.is in
      record { all_made = omega arith; plan_is = x.not_yet ∙ ap plan y.is; within = y.within }
  looked looks p q Ended x y =
      let all = all_looks m e limit s in
      let long = length_next all looks y.look y.rest y.is in
      let last : length y.rest ≡ 0 = ap length y.gone_on in
      record { all_made = omega arith; none = x.not_yet ∙ ap plan y.is ∙ plan_not_home y.look y.rest y.not_home ∙ ap plan y.gone_on }

  -- a task that is accepted begins with no look made
  pub begins : (p : Progress M) → UnderWay m state e limit s p (all_looks m e limit s) → Searching m state e limit s 0 p
  begins p x = record { to_come = x; not_yet = refl }

module _ {S M E : Type 0} (m : Meaning S) (state : M → S) (e : S → ℕ) where
  -- the looks granted are made, as far as the search goes
  pub holds_task : (t : Task S) (p : Planner M E) → p.granted ≡ t.granted → Standing m state e t.limit t.start p.phase p.looks p.progress → (p.phase ≡ phase.AtWork → p.granted ≤ p.looks) → HoldsTask m state e t p
  holds_task t p same standing all =
      let few = p.spent in
      let d = doing_by m state e t p.phase p.looks p.progress standing (omega arith) (λ working. let made = all working in omega arith) in
      record { phase = d.0; granted = same; looks = d.1; standing = standing }
