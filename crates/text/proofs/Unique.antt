use Rattle.std.proofs.Common.{◌≡◌, ℕ, zero, suc, ◌<◌, ◌≤◌, List, [], ◌∷◌, length, take, get_or, Some, None, Option, IsTrue, IsFalse, map, sym, refl, ap, ap₂, ◌++◌, ◌∙◌, subst, arith, ⊎_elim, get_or-take, length-take}
use Rattle.std.specs.Option.{unwrap_or}
use Rattle.std.proofs.lemmas.Bool.{cases_lt}
use Rattle.std.proofs.lemmas.List.{take-take, take_all}
use Rattle.planner.specs.declared.planner.TheConstants.{HIGHEST_GRANT_SUM}
use Rattle.search.specs.declared.limit.TheConstants.{HIGHEST_LIMIT}
use Rattle.trays.specs.declared.kind.Kind.{Kind}
use Rattle.trays.specs.declared.kind.Kind.TheVariants.{Plain, Sided, Ring}
use Rattle.text.specs.declared.word.Word.{Word}
use Rattle.text.specs.declared.word.Word.TheVariants as word
use Rattle.text.specs.declared.expected.Expected.{Expected}
use Rattle.text.specs.declared.expected.Expected.TheVariants as place
use Rattle.text.specs.Expected.{after_kind, may_end, may_stand}
use Rattle.text.specs.Lines.{Asked, turns, dual, estimate, plan, Line, Begun, HasSpan, LastWords, OneFault, OneReading, OneRequest, PlanWords, Reached, Stuck, ActionWords, limit_words, number_word}
use Rattle.text.proofs.Walks.{Reading, Walks, after, has_span_fits, reading, start, walks_line, walks_plan, walks_action, walks_turns}

-- A line has one reading: what begins a line is what its words lead to.

count_stands : (kind : Kind) → IsTrue (may_stand (after_kind kind) word.Count)
count_stands Plain = refl
count_stands Sided = refl
count_stands Ring = refl

looks_begun : (ws : List Word) (kind : Kind) (trays : List ℕ) (count span l : Option ℕ) (action : Asked) → HasSpan kind span → action ≡ plan (unwrap_or l HIGHEST_LIMIT) HIGHEST_GRANT_SUM → Line ws kind trays count span (word.Plan ∷ (limit_words l ++ word.Looks ∷ [])) → Walks (start kind) ws (reading place.LooksNumber kind trays count span action)
looks_begun ws kind trays count span None action has is line =
    rw is (walks_action ws kind trays count span word.Plan (word.Looks ∷ []) (reading place.LooksNumber kind trays count span (plan HIGHEST_LIMIT HIGHEST_GRANT_SUM)) has line refl (refl, refl))
looks_begun ws kind trays count span (Some n) action has is line =
    rw is (walks_action ws kind trays count span word.Plan (word.Limit ∷ word.Number n ∷ word.Looks ∷ []) (reading place.LooksNumber kind trays count span (plan n HIGHEST_GRANT_SUM)) has line refl (refl, (refl, (refl, refl))))

ended_walks : (ws : List Word) (kind : Kind) (trays : List ℕ) (count span : Option ℕ) (action : Asked) (rest : List Word) → HasSpan kind span → LastWords action rest → Line ws kind trays count span rest → Walks (start kind) ws (reading place.End kind trays count span action)
ended_walks ws kind trays count span (turns ks) rest has last line = absurd last
ended_walks ws kind trays count span dual rest has last line =
    walks_action ws kind trays count span word.Dual [] (reading place.End kind trays count span dual) has (subst (Line ws kind trays count span) last line) refl refl
ended_walks ws kind trays count span estimate rest has last line =
    walks_action ws kind trays count span word.Estimate [] (reading place.End kind trays count span estimate) has (subst (Line ws kind trays count span) last line) refl refl
ended_walks ws kind trays count span (plan limit looks) rest has last line =
    walks_action ws kind trays count span word.Plan (limit_words last.0 ++ word.Looks ∷ number_word looks ∷ []) (reading place.End kind trays count span (plan limit looks)) has (subst (Line ws kind trays count span) last.1.0 line) refl (walks_plan kind trays count span last.0 limit looks last.1.1 last.1.3 last.1.4)

begun_walks : (e : Expected) (kind : Kind) (trays : List ℕ) (count span : Option ℕ) (action : Asked) (ws : List Word) → Begun e kind trays count span action ws → Walks (start kind) ws (reading e kind trays count span action)
begun_walks place.Kind kind trays count span action ws h = rw (h.4, h.0, h.1, h.2, h.3) refl
begun_walks place.Tray Plain trays count span action ws h =
    rw (h.1, h.2, h.3) (walks_line ws Plain trays None None [] (reading place.Tray Plain trays None None (turns [])) tt h.4 refl)
begun_walks place.Tray Sided trays count span action ws h =
    rw (h.1, h.2, h.3) (walks_line ws Sided trays None None [] (reading place.Tray Sided trays None None (turns [])) tt h.4 refl)
begun_walks place.RingTray Ring trays count span action ws h =
    rw (h.1, h.2, h.3) (walks_line ws Ring trays None None [] (reading place.RingTray Ring trays None None (turns [])) tt h.4 refl)
begun_walks place.CountNumber kind trays count span action ws h =
    rw (h.0, h.1, h.2) (walks_line ws kind trays None None (word.Count ∷ []) (reading place.CountNumber kind trays None None (turns [])) tt h.3 (count_stands kind, refl))
begun_walks place.SpanWord Ring trays (Some n) span action ws h =
    rw (h.2, h.3) (walks_line ws Ring trays (Some n) None [] (reading place.SpanWord Ring trays (Some n) None (turns [])) tt h.4 refl)
begun_walks place.SpanNumber Ring trays None span action ws h =
    rw (h.1, h.2) (walks_line ws Ring trays None None (word.Span ∷ []) (reading place.SpanNumber Ring trays None None (turns [])) tt h.3 (refl, refl))
begun_walks place.SpanNumber Ring trays (Some n) span action ws h =
    rw (h.1, h.2) (walks_line ws Ring trays (Some n) None (word.Span ∷ []) (reading place.SpanNumber Ring trays (Some n) None (turns [])) tt h.3 (refl, refl))
begun_walks place.ActionWord kind trays count (Some m) action ws h =
    rw h.2 (walks_line ws kind trays count (Some m) [] (reading place.ActionWord kind trays count (Some m) (turns [])) (has_span_fits kind (Some m) h.0) h.3 refl)
begun_walks place.ActionWord Plain trays (Some n) None action ws h =
    rw h.2 (walks_line ws Plain trays (Some n) None [] (reading place.ActionWord Plain trays (Some n) None (turns [])) tt h.3 refl)
begun_walks place.ActionWord Sided trays (Some n) None action ws h =
    rw h.2 (walks_line ws Sided trays (Some n) None [] (reading place.ActionWord Sided trays (Some n) None (turns [])) tt h.3 refl)
begun_walks place.Turn kind trays count span action ws h =
    rw h.1.1 (walks_action ws kind trays count span word.Turns (map word.Number h.1.0) (reading place.Turn kind trays count span (turns h.1.0)) h.0 h.1.2 refl (walks_turns kind trays count span [] h.1.0))
begun_walks place.LimitWord kind trays count span action ws h =
    rw h.1 (walks_action ws kind trays count span word.Plan [] (reading place.LimitWord kind trays count span (plan HIGHEST_LIMIT HIGHEST_GRANT_SUM)) h.0 h.2 refl refl)
begun_walks place.LimitNumber kind trays count span action ws h =
    rw h.1 (walks_action ws kind trays count span word.Plan (word.Limit ∷ []) (reading place.LimitNumber kind trays count span (plan HIGHEST_LIMIT HIGHEST_GRANT_SUM)) h.0 h.2 refl (refl, refl))
begun_walks place.LooksWord kind trays count span action ws h =
    rw h.1.1 (walks_action ws kind trays count span word.Plan (word.Limit ∷ word.Number h.1.0 ∷ []) (reading place.LooksWord kind trays count span (plan h.1.0 HIGHEST_GRANT_SUM)) h.0 h.1.2 refl (refl, (refl, refl)))
begun_walks place.LooksNumber kind trays count span action ws h = looks_begun ws kind trays count span h.1.0 action h.0 h.1.1 h.1.2
begun_walks place.End kind trays count span action ws h = ended_walks ws kind trays count span action h.1.0 h.0 h.1.1 h.1.2
begun_walks e kind trays count span action ws h = absurd (grind arith)

-- A line that asks this has begun, and may end.
plan_begun : (ws : List Word) (kind : Kind) (trays : List ℕ) (count span l b : Option ℕ) (limit looks : ℕ) (rest : List Word) → HasSpan kind span → PlanWords l b limit looks rest → Line ws kind trays count span rest → (e : Expected) × IsTrue (may_end e) × Begun e kind trays count span (plan limit looks) ws
plan_begun ws kind trays count span None None limit looks rest has words line =
    (place.LimitWord, refl, (has, ap₂ plan words.1 words.2, subst (Line ws kind trays count span) words.0 line))
plan_begun ws kind trays count span (Some l) None limit looks rest has words line =
    (place.LooksWord, refl, (has, (l, ap₂ plan words.1 words.2, subst (Line ws kind trays count span) words.0 line)))
plan_begun ws kind trays count span l (Some b) limit looks rest has words line =
    (place.End, refl, (has, (rest, (l, subst (λ (n : ℕ). PlanWords l (Some n) limit looks rest) (sym words.2) words), line)))

written_begun : (ws : List Word) (kind : Kind) (trays : List ℕ) (count span : Option ℕ) (action : Asked) (rest : List Word) → HasSpan kind span → ActionWords action rest → Line ws kind trays count span rest → (e : Expected) × IsTrue (may_end e) × Begun e kind trays count span action ws
written_begun ws kind trays count span (turns ks) rest has words line = (place.Turn, refl, (has, (ks, refl, subst (Line ws kind trays count span) words line)))
written_begun ws kind trays count span dual rest has words line = (place.End, refl, (has, (rest, words, line)))
written_begun ws kind trays count span estimate rest has words line = (place.End, refl, (has, (rest, words, line)))
written_begun ws kind trays count span (plan limit looks) rest has words line = plan_begun ws kind trays count span words.0 words.1 limit looks rest has words.2 line

-- Words lead to one reading, whatever kind stands for none.
any_start : (k kind : Kind) (w : Word) (ws : List Word) (t : Reading) → Walks (start k) (w ∷ ws) t → Walks (start kind) (w ∷ ws) t
any_start k kind (word.Kind given) ws t h = h
any_start k kind w ws t h = absurd (grind arith)

walks_same : (r s t : Reading) (ws : List Word) → Walks r ws s → Walks r ws t → s ≡ t
walks_same r s t [] f g = sym f ∙ g
walks_same r s t (w ∷ ws) f g = walks_same (after r w) s t ws f.1 g.1

same_expected : (k kind : Kind) (s t : Reading) (ws : List Word) → Walks (start k) ws s → Walks (start kind) ws t → s.expected ≡ t.expected
same_expected k kind s t [] f g = sym (ap (λ (r : Reading). r.expected) f) ∙ ap (λ (r : Reading). r.expected) g
same_expected k kind s t (w ∷ ws) f g = ap (λ (r : Reading). r.expected) (walks_same (start k) s t (w ∷ ws) f (any_start kind k w ws t g))

same_reading : (k kind : Kind) (s t : Reading) (ws : List Word) → IsTrue (may_end s.expected) → Walks (start k) ws s → Walks (start kind) ws t → s ≡ t
same_reading k kind s t [] end f g =
    let no : IsTrue (may_end place.Kind) = subst (λ (r : Reading). IsTrue (may_end r.expected)) (sym f) end in absurd (grind arith)
same_reading k kind s t (w ∷ ws) end f g = walks_same (start k) s t (w ∷ ws) f (any_start kind k w ws t g)

-- a word of a line that has begun may stand where the words before it lead to
stands : (r s t : Reading) (ws : List Word) (at : ℕ) → at < length ws → Walks r (take at ws) s → Walks r ws t → IsTrue (may_stand s.expected (get_or ws at word.Other))
stands r s t [] at within f g = absurd (omega arith)
stands r s t (w ∷ ws) zero within f g = subst (λ (u : Reading). IsTrue (may_stand u.expected w)) f g.0
stands r s t (w ∷ ws) (suc at) within f g = stands (after r w) s t ws at (omega arith) f.1 g.1

word_stands : (k kind : Kind) (s t : Reading) (ws : List Word) (at : ℕ) → at < length ws → Walks (start k) (take at ws) s → Walks (start kind) ws t → IsTrue (may_stand s.expected (get_or ws at word.Other))
word_stands k kind s t [] at within f g = absurd (omega arith)
word_stands k kind s t (w ∷ ws) at within f g = stands (start k) s t (w ∷ ws) at within f (any_start kind k w ws t g)

reached_walks : (ws : List Word) (at : ℕ) (e : Expected) (r : Reached ws at e) → Walks (start r.kind) (take at ws) (reading e r.kind r.trays r.count r.span r.action)
reached_walks ws at e r = begun_walks e r.kind r.trays r.count r.span r.action (take at ws) r.begun

-- no line has begun that goes on after a fault
not_after : (ws : List Word) (at : ℕ) (e : Expected) (kind : Kind) (t : Reading) (more : ℕ) → Stuck ws at e → at < more → more ≤ length ws → Walks (start kind) (take more ws) t → ⊥
not_after ws at e kind t more stuck before within h =
    let r = stuck.reached in
    let cut : Walks (start r.kind) (take at (take more ws)) (reading e r.kind r.trays r.count r.span r.action) = rw (take-take at more ws (omega arith)) (reached_walks ws at e r) in
    let inside : at < length (take more ws) = omega (arith, length-take more ws) in
    let may : IsTrue (may_stand e (get_or ws at word.Other)) = rw (get_or-take more ws at word.Other before) at (word_stands r.kind kind (reading e r.kind r.trays r.count r.span r.action) t (take more ws) at inside cut h) in
    ⊎_elim (λ w. grind arith) (λ w. omega arith) stuck.wrong

stuck_within : (ws : List Word) (at : ℕ) (e : Expected) → Stuck ws at e → at ≤ length ws
stuck_within ws at e stuck = ⊎_elim (λ w. omega arith) (λ w. omega arith) stuck.wrong

pub one_reading : OneReading
one_reading ws at e stuck kind trays count span action written =
    let b = written_begun ws kind trays count span action written.1.0 written.0 written.1.1 written.1.2 in
    let all : Walks (start kind) (take (length ws) ws) (reading b.0 kind trays count span action) = rw (take_all (length ws) ws (omega arith)) (begun_walks b.0 kind trays count span action ws b.2) in
    let end = b.1 in
    ⊎_elim
    (λ (w : (at < length ws) × IsFalse (may_stand e (get_or ws at word.Other))). not_after ws at e kind (reading b.0 kind trays count span action) (length ws) stuck w.0 (omega arith) all)
    (λ (w : (at ≡ length ws) × IsFalse (may_end e)).
    let r = stuck.reached in
    let whole : Walks (start r.kind) (take (length ws) ws) (reading e r.kind r.trays r.count r.span r.action) = subst (λ (n : ℕ). Walks (start r.kind) (take n ws) (reading e r.kind r.trays r.count r.span r.action)) w.0 (reached_walks ws at e r) in
    let same : e ≡ b.0 = same_expected r.kind kind (reading e r.kind r.trays r.count r.span r.action) (reading b.0 kind trays count span action) (take (length ws) ws) whole all in
    grind arith)
    stuck.wrong

pub one_request : OneRequest
one_request ws kind kind' trays trays' count count' span span' action action' f g =
    let b = written_begun ws kind trays count span action f.1.0 f.0 f.1.1 f.1.2 in
    let d = written_begun ws kind' trays' count' span' action' g.1.0 g.0 g.1.1 g.1.2 in
    let same = same_reading kind kind' (reading b.0 kind trays count span action) (reading d.0 kind' trays' count' span' action') ws b.1 (begun_walks b.0 kind trays count span action ws b.2) (begun_walks d.0 kind' trays' count' span' action' ws d.2) in
    (ap (λ (r : Reading). r.kind) same, ap (λ (r : Reading). r.trays) same, ap (λ (r : Reading). r.count) same, ap (λ (r : Reading). r.span) same, ap (λ (r : Reading). r.action) same)

pub one_fault : OneFault
one_fault ws at at' e e' f g =
    let r = f.reached in
    let s = g.reached in
    let here : at ≡ at' = ⊎_elim
    (λ (low : at < at'). absurd (not_after ws at e s.kind (reading e' s.kind s.trays s.count s.span s.action) at' f low (stuck_within ws at' e' g) (reached_walks ws at' e' s)))
    (λ (up : at' ≤ at). ⊎_elim
    (λ (high : at' < at). absurd (not_after ws at' e' r.kind (reading e r.kind r.trays r.count r.span r.action) at g high (stuck_within ws at e f) (reached_walks ws at e r)))
    (λ (down : at ≤ at'). omega arith)
    (cases_lt at' at))
    (cases_lt at at') in
    let moved : Walks (start r.kind) (take at' ws) (reading e r.kind r.trays r.count r.span r.action) = subst (λ (n : ℕ). Walks (start r.kind) (take n ws) (reading e r.kind r.trays r.count r.span r.action)) here (reached_walks ws at e r) in
    (here, same_expected r.kind s.kind (reading e r.kind r.trays r.count r.span r.action) (reading e' s.kind s.trays s.count s.span s.action) (take at' ws) moved (reached_walks ws at' e' s))
