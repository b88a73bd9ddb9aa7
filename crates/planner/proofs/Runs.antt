use Rattle.std.proofs.Common.{◌≡◌, ℕ, zero, suc, ◌+◌, ◌<◌, List, [], ◌∷◌, ◌++◌, length, map, replicate, take, drop, get_or, set, Option, refl, sym, subst, ap, ◌∙◌, arith, drop-cons}
use Rattle.std.proofs.Math.Seq.{take-suc}
use Rattle.std.proofs.lemmas.List.{map-append, take_more_set, drop-set-lt}
use Rattle.machine.specs.Meaning.{Meaning}
use Rattle.planner.specs.Calls.{Task, on_state, after, after_all}
use Rattle.planner.specs.Holds.{Holds, Answers, Plays}
use Rattle.planner.specs.Promise.{Kept, Run, sheet_after}
use Rattle.planner.specs.declared.call.Call.{Call}
use Rattle.planner.specs.declared.call.Call.TheVariants.{Fetch}
use Rattle.planner.specs.declared.planner.Planner.{Planner}
use Rattle.planner.specs.declared.played.Played.{Played}
use Rattle.planner.proofs.Since.{after_append, keeps_promise}

-- A run, call by call.

-- the items after the next one are the same where those from it on are
drop_more : {A : Type 0} (xs ys : List A) (i : ℕ) (d : A) → i < length xs → i < length ys → drop i xs ≡ drop i ys → (get_or xs i d ≡ get_or ys i d) × (drop (i + 1) xs ≡ drop (i + 1) ys)
drop_more xs ys i d in_xs in_ys same =
    let next : suc i ≡ i + 1 = omega arith in
    let parts : get_or xs i d ∷ drop (suc i) xs ≡ get_or ys i d ∷ drop (suc i) ys = sym (drop-cons xs i d in_xs) ∙ same ∙ drop-cons ys i d in_ys in
    let firsts : get_or xs i d ≡ get_or ys i d = cc in
    let rest : drop (suc i) xs ≡ drop (suc i) ys = cc in
    (firsts, ap (λ n. drop n xs) (sym next) ∙ rest ∙ ap (λ n. drop n ys) next)

drop_set : {A : Type 0} (xs ys : List A) (i : ℕ) (y d : A) → i < length xs → i < length ys → drop i xs ≡ drop i ys → drop (i + 1) (set xs i y) ≡ drop (i + 1) ys
drop_set xs ys i y d in_xs in_ys same = drop-set-lt (i + 1) xs i y (omega arith) ∙ (drop_more xs ys i d in_xs in_ys same).1

take_one_more : {A : Type 0} (xs : List A) (i : ℕ) (d : A) → i < length xs → take (i + 1) xs ≡ take i xs ++ get_or xs i d ∷ []
take_one_more xs i d within =
    let next : i + 1 ≡ suc i = omega arith in
    ap (λ n. take n xs) next ∙ take-suc xs i d within

replicate_more : {A : Type 0} (x : A) (n : ℕ) → replicate n x ++ x ∷ [] ≡ replicate (n + 1) x
replicate_more x n = let next : suc n ≡ n + 1 = omega arith in last n ∙ ap (λ k. replicate k x) next
  where
    last : (k : ℕ) → replicate k x ++ x ∷ [] ≡ x ∷ replicate k x
    last zero = refl
    last (suc k) = ap (λ ys. x ∷ ys) (last k)

sheet_append : (sheet : List ℕ) (rs : List Played) (r : Played) → sheet_after sheet (rs ++ r ∷ []) ≡ r.sheet
sheet_append sheet [] r = refl
sheet_append sheet (q ∷ rs) r = sheet_append q.sheet rs r

module _ {S : Type 0} (m : Meaning S) (e : S → ℕ) where
  run_append : (task : Option (Task S)) (sheet : List ℕ) (cs : List (Call S)) (rs : List Played) (c : Call S) (r : Played) → Run m e task sheet cs rs → Kept m e (after_all m e task cs) c (sheet_after sheet rs) r.reply r.sheet → Run m e task sheet (cs ++ c ∷ []) (rs ++ r ∷ [])
  run_append task sheet [] [] c r run kept = (kept, tt)
  run_append task sheet [] (q ∷ rs) c r run kept = absurd run
  run_append task sheet (b ∷ cs) [] c r run kept = absurd run
  run_append task sheet (b ∷ cs) (q ∷ rs) c r run kept = (run.0, run_append (after m e task b) q.sheet cs rs c r run.1 kept)

module _ {S M E : Type 0} (m : Meaning S) (state : M → S) (value : E → S → ℕ) (first : Planner M E) (all : List (Call M)) (start : List ℕ) (room : List Played) where
  abbrev e : S → ℕ
  e = value first.estimate

  -- so many calls, on the states of their machines
  abbrev some_calls : ℕ → List (Call S)
  some_calls i = map (on_state state) (take i all)

  -- The first i calls are played.
  pub record Halfway (i : ℕ) (p : Planner M E) (calls : List (Call M)) (sheet : List ℕ) (replies : List Played) : Type 0 where
    pub same_estimate : p.estimate ≡ first.estimate
    pub other_calls : drop i calls ≡ drop i all
    pub fetches : take i calls ≡ replicate i Fetch
    pub other_replies : drop i replies ≡ drop i room
    pub sheet_is : sheet ≡ sheet_after start (take i replies)
    pub holds : (task : Option (Task S)) → Holds m state e task first → Holds m state e (after_all m e task (some_calls i)) p
    pub run : (task : Option (Task S)) → Holds m state e task first → Run m e task start (some_calls i) (take i replies)

  module _ (i : ℕ) (p q : Planner M E) (calls : List (Call M)) (sheet : List ℕ) (replies : List Played) (call : Call M) (r : Played) (in_all : i < length all) (in_calls : i < length calls) (in_room : i < length room) (in_replies : i < length replies)
      (call_is : get_or calls i call ≡ call) (same : q.estimate ≡ p.estimate) (answered : (task : Option (Task S)) → Holds m state (value p.estimate) task p → Answers m state (value p.estimate) task (on_state state call) sheet r.reply r.sheet q) (h : Halfway i p calls sheet replies) where
    one_more_call : some_calls (i + 1) ≡ some_calls i ++ on_state state call ∷ []
    one_more_call =
        let next : get_or all i call ≡ call = sym (drop_more calls all i call in_calls in_all h.other_calls).0 ∙ call_is in
        ap (map (on_state state)) (take_one_more all i call in_all ∙ ap (λ c. take i all ++ c ∷ []) next) ∙ map-append (on_state state) (take i all) (call ∷ [])

    one_more_reply : take (i + 1) (set replies i r) ≡ take i replies ++ r ∷ []
    one_more_reply = take_more_set replies i r in_replies

    answers : (task : Option (Task S)) → Holds m state e task first → Answers m state e (after_all m e task (some_calls i)) (on_state state call) sheet r.reply r.sheet q
    answers task x =
        let before = after_all m e task (some_calls i) in
        subst (λ est. Answers m state (value est) before (on_state state call) sheet r.reply r.sheet q) h.same_estimate
        (answered before (subst (λ est. Holds m state (value est) before p) (sym h.same_estimate) (h.holds task x)))

    pub one_more : Halfway (i + 1) q (set calls i Fetch) r.sheet (set replies i r)
    one_more = record {
      same_estimate = same ∙ h.same_estimate;
      other_calls = drop_set calls all i Fetch call in_calls in_all h.other_calls;
      fetches = take_more_set calls i Fetch in_calls ∙ ap (λ cs. cs ++ Fetch ∷ []) h.fetches ∙ replicate_more Fetch i;
      other_replies = drop_set replies room i r r in_replies in_room h.other_replies;
      sheet_is = sym (ap (sheet_after start) one_more_reply ∙ sheet_append start (take i replies) r);
      holds = λ task x.
          subst (λ o. Holds m state e o q) (sym (ap (after_all m e task) one_more_call ∙ after_append m e task (some_calls i) (on_state state call ∷ []))) (answers task x).0;
      run = λ task x.
          subst (λ cs. Run m e task start cs (take (i + 1) (set replies i r))) (sym one_more_call)
          (subst (Run m e task start (some_calls i ++ on_state state call ∷ [])) (sym one_more_reply)
          (run_append m e task start (some_calls i) (take i replies) (on_state state call) r (h.run task x)
          (subst (λ s. Kept m e (after_all m e task (some_calls i)) (on_state state call) s r.reply r.sheet) h.sheet_is (answers task x).1)));
    }

  pub plays : (i : ℕ) (p : Planner M E) (calls : List (Call M)) (sheet : List ℕ) (replies : List Played) → Halfway i p calls sheet replies → (task : Option (Task S)) → Holds m state e task first → Plays m state e task start (some_calls i) (take i replies) p
  plays i p calls sheet replies h task x = record {
    holds = h.holds task x;
    run = h.run task x;
    promise = keeps_promise m e task start (some_calls i) (take i replies) (h.run task x);
  }
