use Rattle.std.proofs.Common.{◌≡◌, ℕ, ◌+◌, ◌≤◌, ◌<◌, ◌-◌, min, ◌==◌, ◌||◌, List, [], ◌∷◌, ◌++◌, length, map, replicate, take, vec_items, Option, Some, None, Result, Ok, Err, sum, refl, sym, ap, ◌∙◌, subst, arith, ⊎_elim, nat_lt}
use Rattle.std.proofs.lemmas.Bool.{cases_lt, cond-true, cond-false, lt-ltb, le-ltb, ne_eqb}
use Rattle.std.proofs.lemmas.List.{take_all, take-append-le}
use Rattle.std.proofs.lemmas.List.Sums.{sum_by-cons}
use Rattle.std.specs.Result.{result_err}
use Rattle.machine.specs.Follows.{Follows}
use Rattle.machine.specs.declared.trace.Trace.{Trace}
use Rattle.machine.specs.Meaning.{Meaning}
use Rattle.search.specs.Search.{search}
use Rattle.search.specs.Shortest.{Shortest, AllLonger}
use Rattle.search.proofs.Searches.{some_looks}
use Rattle.walk.specs.Sheets.{padded}
use Rattle.planner.specs.Calls.{Task, on_state, search_of, doing, first_fault, refused, accept}
use Rattle.planner.specs.Promise.{OwedIf, Run}
use Rattle.planner.specs.declared.answer.Answer.{Answer}
use Rattle.planner.specs.declared.answer.Answer.TheVariants as answer
use Rattle.planner.specs.declared.call.Call.{Call}
use Rattle.planner.specs.declared.call.Call.TheVariants.{Load, Work, Fetch}
use Rattle.planner.specs.declared.fault.Fault.{Fault}
use Rattle.planner.specs.declared.fault.Fault.TheVariants.{Limit, NoTask, NotFound}
use Rattle.planner.specs.declared.phase.Phase.{Phase}
use Rattle.planner.specs.declared.phase.Phase.TheVariants as phase
use Rattle.planner.specs.declared.played.Played.{Played}
use Rattle.planner.specs.declared.planner.TheConstants.{HIGHEST_GRANT, HIGHEST_GRANT_SUM}
use Rattle.search.specs.declared.limit.TheConstants.{HIGHEST_LIMIT}
use Rattle.walk.specs.declared.sheet.TheConstants.{SHEET_PLACES}
use Rattle.outcome.specs.declared.verdict.Verdict.{Verdict}
use Rattle.outcome.specs.declared.verdict.Verdict.TheVariants.{Unfinished, Found, NoPlan}
use Rattle.outcome.proofs.Calls.{Accepted, grants_accepted, grants_sum, map_calls}
use Rattle.outcome.specs.Plans.{FoundPlan}
use Rattle.outcome.specs.Verdicts.{calls_within, grants, heard, verdict_after, sheet_after, load_fault}

-- What the replies to the calls of a whole search tell.

module _ {S : Type 0} (m : Meaning S) (e : S → ℕ) where
  -- All looks of the search are granted, and made.
  record Ended (t : Task S) (looks : ℕ) : Type 0 where
    pub all_granted : (search_of m e t).looks ≤ t.granted
    pub all_made : looks ≡ (search_of m e t).looks

  -- What a verdict says of a task, once a part of the grants is made.
  abbrev Known : Task S → Verdict → Type 0
  Known t (Unfinished looks) = (looks ≡ t.granted) × (t.granted < (search_of m e t).looks)
  Known t (Found n looks) = Ended t looks × ((p : List ℕ) × (n ≡ length p) × ((search_of m e t).plan ≡ Some p))
  Known t (NoPlan looks) = Ended t looks × AllLonger m t.limit t.start

  -- What is owed to a call that is refused so, or accepted, and how the run goes on after it.
  by_refusal : (task : Option (Task S)) (c : Call S) (old : List ℕ) (cs : List (Call S)) (r : Played) (rs : List Played) (o : Option Fault) → refused m e task c ≡ o → Run m e task old (c ∷ cs) (r ∷ rs) →
      OwedIf m e o task c old r.reply r.sheet × Run m e (elim o [ None ↦ accept task c | Some f ↦ task ]) r.sheet cs rs
  by_refusal task c old cs r rs o is run = subst (λ x. OwedIf m e x task c old r.reply r.sheet × Run m e (elim x [ None ↦ accept task c | Some f ↦ task ]) r.sheet cs rs) is run

  at_work : (t : Task S) → t.granted < (search_of m e t).looks → doing m e (Some t) ≡ phase.AtWork
  at_work t less = cond-true (nat_lt t.granted (search_of m e t).looks) _ _ (lt-ltb t.granted (search_of m e t).looks less)

  -- What a planner is doing once the search has ended.
  abbrev ending : Option (List ℕ) → Phase
  ending None = phase.NoPlan
  ending (Some p) = phase.Found

  over : (t : Task S) → (search_of m e t).looks ≤ t.granted → doing m e (Some t) ≡ ending (search_of m e t).plan
  over t le = cond-false (nat_lt t.granted (search_of m e t).looks) _ _ (le-ltb t.granted (search_of m e t).looks le)

  -- A grant is accepted while the search goes on, and refused when it has ended.
  accepted : (t : Task S) (g : ℕ) → 0 < g → g ≤ HIGHEST_GRANT → t.granted < (search_of m e t).looks → t.granted + g ≤ HIGHEST_GRANT_SUM → refused m e (Some t) (Work g) ≡ None
  accepted t g some small less room =
      ap (λ ph. first_fault {S = S} ph t.granted (Work g)) (at_work t less)
      ∙ cond-false ((g == 0) || nat_lt HIGHEST_GRANT g) _ _ (rw (ne_eqb g 0 (omega arith), le-ltb HIGHEST_GRANT g small) refl)
      ∙ cond-false (nat_lt HIGHEST_GRANT_SUM (t.granted + g)) _ _ (le-ltb HIGHEST_GRANT_SUM (t.granted + g) room)

  no_task : (o : Option (List ℕ)) (granted g : ℕ) → first_fault {S = S} (ending o) granted (Work g) ≡ Some NoTask
  no_task None granted g = refl
  no_task (Some p) granted g = refl

  turned_down : (t : Task S) (g : ℕ) → (search_of m e t).looks ≤ t.granted → refused m e (Some t) (Work g) ≡ Some NoTask
  turned_down t g le = ap (λ ph. first_fault {S = S} ph t.granted (Work g)) (over t le) ∙ no_task (search_of m e t).plan t.granted g

  -- The task with one grant more, and what that grant is told.
  abbrev more : Task S → ℕ → Task S
  more t g = record { start = t.start; limit = t.limit; granted = t.granted + g }

  all_told : (t : Task S) (g : ℕ) → ((more t g).granted < (search_of m e t).looks → ⊥) → (search_of m e t).looks ≤ (more t g).granted
  all_told t g not_less = ⊎_elim (λ less. absurd (not_less less)) (λ le. le) (cases_lt (more t g).granted (search_of m e t).looks)

  told_more : (t : Task S) (g : ℕ) (v : Verdict) (old new : List ℕ) (reply : Result Answer Fault) → OwedIf m e None (Some t) (Work g) old reply new → Known (more t g) (heard v reply)
  told_more t g v old new (Ok (answer.Working looks)) h =
      let told = h.0 in
      let less = told.working.0 tt in
      let made : looks ≡ min (t.granted + g) (search_of m e t).looks = cc (told.looks) in
      (omega arith, less)
  told_more t g v old new (Ok (answer.Found n looks)) h =
      let told = h.0 in
      let made : looks ≡ min (t.granted + g) (search_of m e t).looks = cc (told.looks) in
      let all = all_told t g told.working.1 in
      let found = (told.found (λ w. w) (λ w. w)).1 in
      let long : n ≡ length found.0 = cc (found.2) in
      (record { all_granted = all; all_made = omega arith }, (found.0, long, found.1))
  told_more t g v old new (Ok (answer.NoPlan looks)) h =
      let told = h.0 in
      let made : looks ≡ min (t.granted + g) (search_of m e t).looks = cc (told.looks) in
      let all = all_told t g told.working.1 in
      (record { all_granted = all; all_made = omega arith }, (told.none (λ w. w)).0 tt)
  told_more t g v old new (Ok answer.Accepted) h = let told = h.0 in absurd (cc (told.looks))
  told_more t g v old new (Ok (answer.Fetched n)) h = let told = h.0 in absurd (cc (told.looks))
  told_more t g v old new (Err f) h = absurd h

  -- The plan that stands in a sheet.
  pub record Written (limit : ℕ) (s : S) (n : ℕ) (sheet : List ℕ) : Type 0 where
    pub turns : List ℕ
    pub long : n ≡ length turns
    pub sheet_is : sheet ≡ padded turns
    pub searched : (search m e limit s).plan ≡ Some turns
    pub shortest : Shortest m limit s turns

  -- What the last verdict and the last sheet tell, where so many looks are granted in all.
  abbrev pub Tells : ℕ → S → ℕ → Verdict → List ℕ → Type 0
  Tells limit s total (Unfinished looks) sheet = (looks ≡ total) × (total < (search m e limit s).looks)
  Tells limit s total (Found n looks) sheet = (looks ≤ total) × (looks ≡ (search m e limit s).looks) × Written limit s n sheet
  Tells limit s total (NoPlan looks) sheet = (looks ≤ total) × AllLonger m limit s × (looks ≡ (search m e limit s).looks)

  -- The fetch at the end changes no verdict: it is refused, or yields the plan.
  not_fetched : (t : Task S) (v : Verdict) (old : List ℕ) (r : Played) (P : Verdict → Type 0) → refused m e (Some t) Fetch ≡ Some NotFound → Run m e (Some t) old (Fetch ∷ []) (r ∷ []) → P v → P (heard v r.reply)
  not_fetched t v old r P is run known =
      subst (λ reply. P (heard v reply)) (sym (by_refusal (Some t) Fetch old [] r [] (Some NotFound) is run).0.0) known

  yields_plan : (t : Task S) (n looks total : ℕ) (p old new : List ℕ) (reply : Result Answer Fault) → looks ≤ total → looks ≡ (search_of m e t).looks → n ≡ length p → (search_of m e t).plan ≡ Some p →
      OwedIf m e None (Some t) Fetch old reply new → Tells t.limit t.start total (heard (Found n looks) reply) new
  yields_plan t n looks total p old new (Ok (answer.Fetched k)) within made long is h =
      let same : p ≡ h.turns = cc (is, h.searched) in
      (within, made, record { turns = h.turns; long = long ∙ ap length same; sheet_is = h.sheet_is; searched = h.searched; shortest = h.shortest })
  yields_plan t n looks total p old new (Ok answer.Accepted) within made long is h = absurd h.fetched
  yields_plan t n looks total p old new (Ok (answer.Working k)) within made long is h = absurd h.fetched
  yields_plan t n looks total p old new (Ok (answer.Found k l)) within made long is h = absurd h.fetched
  yields_plan t n looks total p old new (Ok (answer.NoPlan k)) within made long is h = absurd h.fetched
  yields_plan t n looks total p old new (Err f) within made long is h = absurd h

  no_other : (t : Task S) (old new : List ℕ) (reply : Result Answer Fault) → AllLonger m t.limit t.start → OwedIf m e None (Some t) Fetch old reply new → ⊥
  no_other t old new (Ok a) far h = let within = h.shortest.within in let long = far h.turns h.shortest.brings in omega arith
  no_other t old new (Err f) far h = h

  no_plan : (t : Task S) (looks : ℕ) (old : List ℕ) (r : Played) (o : Option (List ℕ)) → (search_of m e t).plan ≡ o → Known t (NoPlan looks) → Run m e (Some t) old (Fetch ∷ []) (r ∷ []) → Tells t.limit t.start t.granted (heard (NoPlan looks) r.reply) r.sheet
  no_plan t looks old r None is known run =
      not_fetched t (NoPlan looks) old r (λ v. Tells t.limit t.start t.granted v r.sheet)
      (ap (λ ph. first_fault {S = S} ph t.granted Fetch) (over t known.0.all_granted ∙ ap ending is)) run
      (let made = known.0.all_made in let all = known.0.all_granted in omega arith, known.1, known.0.all_made)
  no_plan t looks old r (Some p) is known run =
      absurd (no_other t old r.sheet r.reply known.1
      (by_refusal (Some t) Fetch old [] r [] None (ap (λ ph. first_fault {S = S} ph t.granted Fetch) (over t known.0.all_granted ∙ ap ending is)) run).0)

  fetched : (t : Task S) (v : Verdict) (old : List ℕ) (r : Played) → Known t v → Run m e (Some t) old (Fetch ∷ []) (r ∷ []) → Tells t.limit t.start t.granted (heard v r.reply) r.sheet
  fetched t (Unfinished looks) old r known run =
      not_fetched t (Unfinished looks) old r (λ v. Tells t.limit t.start t.granted v r.sheet) (ap (λ ph. first_fault {S = S} ph t.granted Fetch) (at_work t known.1)) run known
  fetched t (Found n looks) old r known run =
      yields_plan t n looks t.granted known.1.0 old r.sheet r.reply (let made = known.0.all_made in let all = known.0.all_granted in omega arith) known.0.all_made known.1.1 known.1.2
      (by_refusal (Some t) Fetch old [] r [] None (ap (λ ph. first_fault {S = S} ph t.granted Fetch) (over t known.0.all_granted ∙ ap ending known.1.2)) run).0
  fetched t (NoPlan looks) old r known run = no_plan t looks old r (search_of m e t).plan refl known run

  -- how many looks are granted in all matters only where the search has not ended
  by_total : (limit : ℕ) (s : S) (total all : ℕ) (v : Verdict) (sheet : List ℕ) → total ≤ all → (total < (search m e limit s).looks → total ≡ all) → Tells limit s total v sheet → Tells limit s all v sheet
  by_total limit s total all (Unfinished looks) sheet within same h = let is = same h.1 in let less = h.1 in (omega arith, omega arith)
  by_total limit s total all (Found n looks) sheet within same h = (omega (arith, h.0), h.1, h.2)
  by_total limit s total all (NoPlan looks) sheet within same h = (omega (arith, h.0), h.1, h.2)

  -- These grants are still to come, and then the fetch. Once the search has ended the grants are refused.
  all_granted : (gs : List ℕ) (t : Task S) (v : Verdict) (all : ℕ) (old : List ℕ) (rs : List Played) → Known t v → Accepted gs → all ≤ HIGHEST_GRANT_SUM → t.granted ≤ all → (t.granted < (search_of m e t).looks → t.granted + sum gs ≡ all) →
      Run m e (Some t) old (map Work gs ++ Fetch ∷ []) rs → Tells t.limit t.start all (verdict_after v rs) (sheet_after old rs)
  all_granted [] t v all old [] known small room within same run = absurd run
  all_granted [] t v all old (r ∷ []) known small room within same run =
      by_total t.limit t.start t.granted all (heard v r.reply) r.sheet within (λ less. let is = same less in omega arith) (fetched t v old r known run)
  all_granted [] t v all old (r ∷ q ∷ rs) known small room within same run = absurd run.1
  all_granted (g ∷ gs) t v all old [] known small room within same run = absurd run
  all_granted (g ∷ gs) t v all old (r ∷ rs) known small room within same run =
      ⊎_elim
      (λ (less : t.granted < (search_of m e t).looks).
      let is = same less in
      let first = sum_by-cons (λ x. x) g gs in
      let next = by_refusal (Some t) (Work g) old (map Work gs ++ Fetch ∷ []) r rs None (accepted t g small.0 small.1 less (omega arith)) run in
      all_granted gs (more t g) (heard v r.reply) all r.sheet rs (told_more t g v old r.sheet r.reply next.0) small.2 room (omega arith) (λ _. omega arith) next.1)
      (λ (le : (search_of m e t).looks ≤ t.granted).
      let next = by_refusal (Some t) (Work g) old (map Work gs ++ Fetch ∷ []) r rs (Some NoTask) (turned_down t g le) run in
      all_granted gs t (heard v r.reply) all r.sheet rs (subst (λ reply. Known t (heard v reply)) (sym next.0.0) known) small.2 room within (λ less. absurd (omega arith)) next.1)
      (cases_lt t.granted (search_of m e t).looks)

  -- What comes of a search by so many looks: the load is refused, or they are all granted.
  abbrev pub Comes : ℕ → ℕ → S → Option Fault → Verdict → List ℕ → Type 0
  Comes looks limit s (Some f) v sheet = (f ≡ Limit) × (HIGHEST_LIMIT < limit)
  Comes looks limit s None v sheet = (limit ≤ HIGHEST_LIMIT) × Tells limit s looks v sheet

  loaded : (limit : ℕ) (s : S) (old new : List ℕ) (reply : Result Answer Fault) → OwedIf m e None None (Load s limit) old reply new → reply ≡ Ok answer.Accepted
  loaded limit s old new (Ok a) h = ap Ok h.0
  loaded limit s old new (Err f) h = absurd h

  whole_run : (looks limit : ℕ) (s : S) (blank : List ℕ) (rs : List Played) → looks ≤ HIGHEST_GRANT_SUM → Run m e None blank (Load s limit ∷ (map Work (grants looks) ++ Fetch ∷ [])) rs → Comes looks limit s (load_fault rs) (verdict_after (Unfinished 0) rs) (sheet_after blank rs)
  whole_run looks limit s blank [] room run = absurd run
  whole_run looks limit s blank (r ∷ rs) room run =
      ⊎_elim
      (λ (high : HIGHEST_LIMIT < limit).
      let next = by_refusal None (Load s limit) blank (map Work (grants looks) ++ Fetch ∷ []) r rs (Some Limit) (cond-true (nat_lt HIGHEST_LIMIT limit) _ _ (lt-ltb HIGHEST_LIMIT limit high)) run in
      subst (λ reply. Comes looks limit s (result_err reply) (verdict_after (heard (Unfinished 0) reply) rs) (sheet_after r.sheet rs)) (sym next.0.0) (refl, high))
      (λ (low : limit ≤ HIGHEST_LIMIT).
      let next = by_refusal None (Load s limit) blank (map Work (grants looks) ++ Fetch ∷ []) r rs None (cond-false (nat_lt HIGHEST_LIMIT limit) _ _ (le-ltb HIGHEST_LIMIT limit low)) run in
      let some = some_looks m e limit s in
      let whole = grants_sum looks in
      subst (λ reply. Comes looks limit s (result_err reply) (verdict_after (heard (Unfinished 0) reply) rs) (sheet_after r.sheet rs)) (sym (loaded limit s blank r.sheet r.reply next.0))
      (low, all_granted (grants looks) (record { start = s; limit = limit; granted = 0 }) (Unfinished 0) looks r.sheet rs (refl, omega arith) (grants_accepted looks) room (omega arith) (λ _. omega arith) next.1))
      (cases_lt HIGHEST_LIMIT limit)

  pub comes : {M : Type 0} (state : M → S) (x : M) (limit looks : ℕ) (rs : List Played) (o : Option Fault) (v : Verdict) → load_fault rs ≡ o → verdict_after (Unfinished 0) rs ≡ v → looks ≤ HIGHEST_GRANT_SUM →
      Run m e None (replicate SHEET_PLACES 0) (map (on_state state) (calls_within x limit looks)) rs → Comes looks limit (state x) o v (sheet_after (replicate SHEET_PLACES 0) rs)
  comes state x limit looks rs o v first last room run =
      subst (λ u. Comes looks limit (state x) o u (sheet_after (replicate SHEET_PLACES 0) rs)) last
      (subst (λ o. Comes looks limit (state x) o (verdict_after (Unfinished 0) rs) (sheet_after (replicate SHEET_PLACES 0) rs)) first
      (whole_run looks limit (state x) (replicate SHEET_PLACES 0) rs room (subst (λ cs. Run m e None (replicate SHEET_PLACES 0) cs rs) (map_calls state x limit looks) run)))

  -- the first turns of the sheet are the plan, and following them ends at home
  pub found_plan : {M : Type 0} (state : M → S) (limit : ℕ) (s : S) (n looks : ℕ) (sheet read turns : List ℕ) (trace : Trace M) → looks ≡ (search m e limit s).looks → Written limit s n sheet → read ≡ sheet → turns ≡ take n read →
      Follows m s turns (map state (vec_items trace.states)) trace.ending → FoundPlan m e state limit s turns trace looks
  found_plan state limit s n looks sheet read turns trace made w is first follows =
      let same : w.turns ≡ turns =
      sym (first ∙ ap (take n) (is ∙ w.sheet_is) ∙ take-append-le n w.turns (replicate (SHEET_PLACES - length w.turns) 0) (let long = w.long in omega arith) ∙ take_all n w.turns (let long = w.long in omega arith)) in
      let shortest = subst (Shortest m limit s) same w.shortest in
      record {
        shortest = shortest;
        searched = w.searched ∙ ap Some same;
        all_looks = made;
        followed = follows;
        ends_home = follows.ends_home shortest.brings;
      }
