use Rattle.std.proofs.Common.{◌≡◌, ℕ, ◌+◌, ◌<◌, ◌≤◌, Bool, true, false, if◌then◌else◌, nat_lt, List, [], ◌∷◌, ◌++◌, Some, None, Option, IsTrue, map, sym, refl, ap, subst, arith, append_assoc, append-nil}
use Rattle.std.specs.Option.{unwrap_or}
use Rattle.planner.specs.declared.planner.TheConstants.{HIGHEST_GRANT_SUM}
use Rattle.search.specs.declared.limit.TheConstants.{HIGHEST_LIMIT}
use Rattle.trays.specs.declared.kind.Kind.{Kind}
use Rattle.trays.specs.declared.kind.Kind.TheVariants.{Plain, Sided, Ring}
use Rattle.text.specs.declared.word.Word.{Word}
use Rattle.text.specs.declared.word.Word.TheVariants as word
use Rattle.text.specs.declared.expected.Expected.{Expected}
use Rattle.text.specs.declared.expected.Expected.TheVariants as place
use Rattle.text.specs.Expected.{after_count, after_kind, may_stand}
use Rattle.text.specs.Lines.{Asked, turns, dual, estimate, plan, TrayWord, TrayWords, Line, HasSpan, count_words, span_words, limit_words, number_word, is_ring}

-- A line is read word by word, and what has been read depends on the words alone.

-- What has been read of a line, and what is expected next.
pub record Reading : Type 0 where
  pub expected : Expected
  pub kind : Kind
  pub trays : List ℕ
  pub count : Option ℕ
  pub span : Option ℕ
  pub action : Asked

abbrev pub reading : Expected → Kind → List ℕ → Option ℕ → Option ℕ → Asked → Reading
reading e kind trays count span action = record { expected = e; kind = kind; trays = trays; count = count; span = span; action = action }

-- Before the first word, when the kind says nothing.
abbrev pub start : Kind → Reading
start kind = reading place.Kind kind [] None None (turns [])

abbrev with_turn : Asked → ℕ → Asked
with_turn (turns ks) k = turns (ks ++ k ∷ [])
with_turn action k = action

abbrev with_looks : Asked → ℕ → Asked
with_looks (plan limit looks) n = plan limit n
with_looks action n = action

-- A number has been read where this is expected.
abbrev after_number : Expected → Reading → ℕ → Reading
after_number place.Tray r n = record r { trays = r.trays ++ n ∷ [] }
after_number place.RingTray r n = record r { trays = r.trays ++ n ∷ [] }
after_number place.CountNumber r n = record r { expected = after_count r.kind; count = Some n }
after_number place.SpanNumber r n = record r { expected = place.ActionWord; span = Some n }
after_number place.Turn r n = record r { action = with_turn r.action n }
after_number place.LimitNumber r n = record r { expected = place.LooksWord; action = plan n HIGHEST_GRANT_SUM }
after_number place.LooksNumber r n = record r { expected = place.End; action = with_looks r.action n }
after_number e r n = r

-- One word more has been read.
abbrev pub after : Reading → Word → Reading
after r (word.Kind kind) = record r { expected = after_kind kind; kind = kind }
after r word.Count = record r { expected = place.CountNumber }
after r word.Span = record r { expected = place.SpanNumber }
after r word.Turns = record r { expected = place.Turn }
after r word.Dual = record r { expected = place.End; action = dual }
after r word.Estimate = record r { expected = place.End; action = estimate }
after r word.Plan = record r { expected = place.LimitWord; action = plan HIGHEST_LIMIT HIGHEST_GRANT_SUM }
after r word.Limit = record r { expected = place.LimitNumber }
after r word.Looks = record r { expected = place.LooksNumber }
after r (word.Number n) = after_number r.expected r n
after r (word.Large n) = record r { expected = place.End; action = with_looks r.action n }
after r (word.Away n) = record r { trays = r.trays ++ (128 + n) ∷ [] }
after r word.Other = r

-- The words, each where it may stand, lead from one reading to the other.
abbrev pub Walks : Reading → List Word → Reading → Type 0
Walks r [] t = r ≡ t
Walks r (w ∷ ws) t = IsTrue (may_stand r.expected w) × Walks (after r w) ws t

walks_append : (r s t : Reading) (vs ws : List Word) → Walks r vs s → Walks s ws t → Walks r (vs ++ ws) t
walks_append r s t [] ws f g = subst (λ (u : Reading). Walks u ws t) (sym f) g
walks_append r s t (v ∷ vs) ws f g = (f.0, walks_append (after r v) s t vs ws f.1 g)

-- the trays
abbrev in_trays : Kind → List ℕ → Reading
in_trays kind trays = reading (after_kind kind) kind trays None None (turns [])

tray_stands : (kind : Kind) (w : Word) (tray : ℕ) → TrayWord w tray → IsTrue (may_stand (after_kind kind) w)
tray_stands Plain (word.Number n) tray h = refl
tray_stands Sided (word.Number n) tray h = refl
tray_stands Ring (word.Number n) tray h = refl
tray_stands Plain (word.Away n) tray h = grind arith
tray_stands Sided (word.Away n) tray h = grind arith
tray_stands Ring (word.Away n) tray h = grind arith
tray_stands kind w tray h = absurd h

tray_read : (kind : Kind) (trays : List ℕ) (w : Word) (tray : ℕ) → TrayWord w tray → after (in_trays kind trays) w ≡ in_trays kind (trays ++ tray ∷ [])
tray_read Plain trays (word.Number n) tray h = ap (λ (k : ℕ). in_trays Plain (trays ++ k ∷ [])) (sym h)
tray_read Sided trays (word.Number n) tray h = ap (λ (k : ℕ). in_trays Sided (trays ++ k ∷ [])) (sym h)
tray_read Ring trays (word.Number n) tray h = ap (λ (k : ℕ). in_trays Ring (trays ++ k ∷ [])) (sym h)
tray_read kind trays (word.Away n) tray h = ap (λ (k : ℕ). in_trays kind (trays ++ k ∷ [])) (sym h.1)
tray_read kind trays w tray h = absurd h

walks_trays : (kind : Kind) (ts : List Word) (before trays : List ℕ) → TrayWords ts trays → Walks (in_trays kind before) ts (in_trays kind (before ++ trays))
walks_trays kind [] before [] h = ap (in_trays kind) (sym (append-nil before))
walks_trays kind (w ∷ ts) before (tray ∷ trays) h =
    let more : Walks (in_trays kind (before ++ tray ∷ [])) ts (in_trays kind (before ++ tray ∷ trays)) = subst (λ (l : List ℕ). Walks (in_trays kind (before ++ tray ∷ [])) ts (in_trays kind l)) (append_assoc before (tray ∷ []) trays) (walks_trays kind ts (before ++ tray ∷ []) trays h.1) in
    (tray_stands kind w tray h.0, subst (λ (r : Reading). Walks r ts (in_trays kind (before ++ tray ∷ trays))) (sym (tray_read kind before w tray h.0)) more)
walks_trays kind ts before trays h = absurd h

-- the kind, the trays, the count and the span
abbrev after_span : Kind → Option ℕ → Option ℕ → Expected
after_span kind count (Some n) = place.ActionWord
after_span kind (Some m) None = after_count kind
after_span kind None None = after_kind kind

abbrev before_action : Kind → List ℕ → Option ℕ → Option ℕ → Reading
before_action kind trays count span = reading (after_span kind count span) kind trays count span (turns [])

-- where a span is given, this is a ring
abbrev SpanFits : Kind → Option ℕ → Type 0
SpanFits kind None = Unit {0}
SpanFits kind (Some n) = IsTrue (is_ring kind)

walks_count : (kind : Kind) (trays : List ℕ) (count span : Option ℕ) (rest : List Word) (t : Reading) → SpanFits kind span → Walks (before_action kind trays count span) rest t → Walks (in_trays kind trays) (count_words count ++ (span_words span ++ rest)) t
walks_count kind trays None None rest t fits h = h
walks_count Plain trays (Some n) None rest t fits h = (refl, (refl, h))
walks_count Sided trays (Some n) None rest t fits h = (refl, (refl, h))
walks_count Ring trays (Some n) None rest t fits h = (refl, (refl, h))
walks_count Ring trays None (Some m) rest t fits h = (refl, (refl, h))
walks_count Ring trays (Some n) (Some m) rest t fits h = (refl, (refl, (refl, (refl, h))))
walks_count kind trays count span rest t fits h = absurd (grind arith)

pub walks_line : (ws : List Word) (kind : Kind) (trays : List ℕ) (count span : Option ℕ) (rest : List Word) (t : Reading) → SpanFits kind span → Line ws kind trays count span rest → Walks (before_action kind trays count span) rest t → Walks (start kind) ws t
walks_line ws kind trays count span rest t fits line h =
    subst
    (λ (l : List Word). Walks (start kind) l t)
    (sym line.2)
    (refl, walks_append (in_trays kind []) (in_trays kind trays) t line.0 (count_words count ++ (span_words span ++ rest)) (walks_trays kind line.0 [] trays line.1) (walks_count kind trays count span rest t fits h))

-- the action
pub has_span_fits : (kind : Kind) (span : Option ℕ) → HasSpan kind span → SpanFits kind span
has_span_fits kind None h = tt
has_span_fits kind (Some n) h = sym h

tray_action : (w : Word) → IsTrue (may_stand place.ActionWord w) → IsTrue (may_stand place.Tray w)
tray_action word.Turns h = refl
tray_action word.Dual h = refl
tray_action word.Estimate h = refl
tray_action word.Plan h = refl
tray_action w h = absurd (grind arith)

action_stands : (kind : Kind) (count span : Option ℕ) (w : Word) → HasSpan kind span → IsTrue (may_stand place.ActionWord w) → IsTrue (may_stand (after_span kind count span) w)
action_stands kind count (Some n) w has h = h
action_stands Plain None None w has h = tray_action w h
action_stands Sided None None w has h = tray_action w h
action_stands Plain (Some n) None w has h = h
action_stands Sided (Some n) None w has h = h
action_stands kind count span w has h = absurd (grind arith)

-- a line whose action begins with this word
pub walks_action : (ws : List Word) (kind : Kind) (trays : List ℕ) (count span : Option ℕ) (w : Word) (rest : List Word) (t : Reading) → HasSpan kind span → Line ws kind trays count span (w ∷ rest) → IsTrue (may_stand place.ActionWord w) → Walks (after (before_action kind trays count span) w) rest t → Walks (start kind) ws t
walks_action ws kind trays count span w rest t has line may h =
    walks_line ws kind trays count span (w ∷ rest) t (has_span_fits kind span has) line (action_stands kind count span w has may, h)

pub walks_turns : (kind : Kind) (trays : List ℕ) (count span : Option ℕ) (before ks : List ℕ) → Walks (reading place.Turn kind trays count span (turns before)) (map word.Number ks) (reading place.Turn kind trays count span (turns (before ++ ks)))
walks_turns kind trays count span before [] = ap (λ (l : List ℕ). reading place.Turn kind trays count span (turns l)) (sym (append-nil before))
walks_turns kind trays count span before (k ∷ ks) =
    (refl, subst (λ (l : List ℕ). Walks (reading place.Turn kind trays count span (turns (before ++ k ∷ []))) (map word.Number ks) (reading place.Turn kind trays count span (turns l))) (append_assoc before (k ∷ []) ks) (walks_turns kind trays count span (before ++ k ∷ []) ks))

looks_read : (b : Bool) (kind : Kind) (trays : List ℕ) (count span : Option ℕ) (limit looks : ℕ) → b ≡ nat_lt looks 256 → 0 < looks → looks ≤ HIGHEST_GRANT_SUM → Walks (reading place.LooksNumber kind trays count span (plan limit HIGHEST_GRANT_SUM)) ((if b then word.Number looks else word.Large looks) ∷ []) (reading place.End kind trays count span (plan limit looks))
looks_read true kind trays count span limit looks is least most = (grind arith, refl)
looks_read false kind trays count span limit looks is least most = (grind arith, refl)

walks_looks : (kind : Kind) (trays : List ℕ) (count span : Option ℕ) (limit looks : ℕ) → 0 < looks → looks ≤ HIGHEST_GRANT_SUM → Walks (reading place.LooksNumber kind trays count span (plan limit HIGHEST_GRANT_SUM)) (number_word looks ∷ []) (reading place.End kind trays count span (plan limit looks))
walks_looks kind trays count span limit looks least most = looks_read (nat_lt looks 256) kind trays count span limit looks refl least most

-- the end of the line, after a plan with its looks
pub walks_plan : (kind : Kind) (trays : List ℕ) (count span l : Option ℕ) (limit looks : ℕ) → limit ≡ unwrap_or l HIGHEST_LIMIT → 0 < looks → looks ≤ HIGHEST_GRANT_SUM → Walks (reading place.LimitWord kind trays count span (plan HIGHEST_LIMIT HIGHEST_GRANT_SUM)) (limit_words l ++ word.Looks ∷ number_word looks ∷ []) (reading place.End kind trays count span (plan limit looks))
walks_plan kind trays count span None limit looks is least most =
    (refl, subst (λ (n : ℕ). Walks (reading place.LooksNumber kind trays count span (plan HIGHEST_LIMIT HIGHEST_GRANT_SUM)) (number_word looks ∷ []) (reading place.End kind trays count span (plan n looks))) (sym is) (walks_looks kind trays count span HIGHEST_LIMIT looks least most))
walks_plan kind trays count span (Some n) limit looks is least most =
    (refl, (refl, (refl, subst (λ (m : ℕ). Walks (reading place.LooksNumber kind trays count span (plan n HIGHEST_GRANT_SUM)) (number_word looks ∷ []) (reading place.End kind trays count span (plan m looks))) (sym is) (walks_looks kind trays count span n looks least most))))
