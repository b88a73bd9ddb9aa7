use Rattle.std.specs.Prelude.{◌≡◌, ℕ, ◌+◌, ◌<◌, ◌≤◌, Bool, true, false, ◌||◌, ◌⊎◌, if◌then◌else◌, List, [], ◌∷◌, ◌++◌, map, length, take, is_some, Some, None, vec_items, Option, nat_lt, slice_index_or, IsFalse, IsSome, IsTrue, ⊤}
use Rattle.std.specs.Option.{unwrap_or}
use Rattle.planner.specs.declared.planner.TheConstants.{HIGHEST_GRANT_SUM}
use Rattle.search.specs.declared.limit.TheConstants.{HIGHEST_LIMIT}
use Rattle.trays.specs.declared.kind.Kind.{Kind}
use Rattle.trays.specs.declared.kind.Kind.TheVariants.{Ring}
use Rattle.text.specs.declared.word.Word.{Word}
use Rattle.text.specs.declared.word.Word.TheVariants.{Kind as Machine, Count, Span, Turns, Dual, Estimate, Plan, Limit, Looks, Number, Large, Away, Other}
use Rattle.text.specs.declared.action.Action.{Action}
use Rattle.text.specs.declared.action.Action.TheVariants as action
use Rattle.text.specs.declared.expected.Expected.{Expected}
use Rattle.text.specs.declared.expected.Expected.TheVariants as place
use Rattle.text.specs.declared.misread.Misread.{Misread}
use Rattle.text.specs.declared.misread.Misread.TheVariants.{Unexpected, NoMemory}
use Rattle.text.specs.Expected.{is_listed, may_end, may_stand}

-- The word writes this tray: a number is the byte itself, and n after a minus sign, where it is below 128, is the byte 128 + n.
abbrev pub TrayWord : Word → ℕ → Type 0
TrayWord (Number n) tray = tray ≡ n
TrayWord (Away n) tray = (n < 128) × (tray ≡ 128 + n)
TrayWord w tray = ⊥

-- The words write these trays, each its own.
abbrev pub TrayWords : List Word → List ℕ → Type 0
TrayWords [] [] = ⊤
TrayWords (w ∷ ws) (tray ∷ trays) = TrayWord w tray × TrayWords ws trays
TrayWords ws trays = ⊥

-- The count of the trays, where a line gives one.
abbrev pub count_words : Option ℕ → List Word
count_words None = []
count_words (Some n) = Count ∷ Number n ∷ []

-- The span, where a line gives one.
abbrev pub span_words : Option ℕ → List Word
span_words None = []
span_words (Some n) = Span ∷ Number n ∷ []

-- The limit of a plan, where a line gives one.
abbrev pub limit_words : Option ℕ → List Word
limit_words None = []
limit_words (Some n) = Limit ∷ Number n ∷ []

-- The word of a number.
abbrev pub number_word : ℕ → Word
number_word n = if nat_lt n 256 then Number n else Large n

-- The looks of a plan, where a line gives them.
abbrev pub looks_words : Option ℕ → List Word
looks_words None = []
looks_words (Some n) = Looks ∷ number_word n ∷ []

-- What a line asks for: turns to make, the dual, an estimate of the turns still needed, or a plan within this limit, by at most so many looks.
pub data Asked : Type 0 where
  turns : List ℕ → Asked
  dual : Asked
  estimate : Asked
  plan : ℕ → ℕ → Asked

-- The words ask for a plan, and give this limit and these looks. A limit that is not given is the highest, and looks that are not given are the most that a planner makes; no more may be given, and not 0.
abbrev pub PlanWords : Option ℕ → Option ℕ → ℕ → ℕ → List Word → Type 0
PlanWords l b limit looks ws =
    (ws ≡ Plan ∷ (limit_words l ++ looks_words b)) × (limit ≡ unwrap_or l HIGHEST_LIMIT) × (looks ≡ unwrap_or b HIGHEST_GRANT_SUM) × (0 < looks) × (looks ≤ HIGHEST_GRANT_SUM)

-- The words write this action.
abbrev pub ActionWords : Asked → List Word → Type 0
ActionWords (turns ks) ws = ws ≡ Turns ∷ map Number ks
ActionWords dual ws = ws ≡ Dual ∷ []
ActionWords estimate ws = ws ≡ Estimate ∷ []
ActionWords (plan limit looks) ws = (l : Option ℕ) × (b : Option ℕ) × PlanWords l b limit looks ws

-- The words write this action, and no word may follow.
abbrev pub LastWords : Asked → List Word → Type 0
LastWords (turns ks) ws = ⊥
LastWords (plan limit looks) ws = (l : Option ℕ) × PlanWords l (Some looks) limit looks ws
LastWords action ws = ActionWords action ws

-- The action of a request.
abbrev pub asked : Action → Asked
asked (action.Turns ks) = turns (vec_items ks)
asked action.Dual = dual
asked action.Estimate = estimate
asked (action.Plan limit looks) = plan limit looks

abbrev pub is_ring : Kind → Bool
is_ring Ring = true
is_ring kind = false

-- A ring has a span, and a tower has none.
abbrev pub HasSpan : Kind → Option ℕ → Type 0
HasSpan kind span = is_some span ≡ is_ring kind

-- The words ws are this kind, these trays, this count, this span and then `rest`.
abbrev pub Line : List Word → Kind → List ℕ → Option ℕ → Option ℕ → List Word → Type 0
Line ws kind trays count span rest =
    (ts : List Word) × TrayWords ts trays × (ws ≡ Machine kind ∷ (ts ++ (count_words count ++ (span_words span ++ rest))))

-- The words ws are a line that asks this.
abbrev pub Written : List Word → Kind → List ℕ → Option ℕ → Option ℕ → Asked → Type 0
Written ws kind trays count span action = HasSpan kind span × ((rest : List Word) × ActionWords action rest × Line ws kind trays count span rest)

-- The words ws begin a line, with this kind, these trays, this count, this span and this action, and this is expected next. Before its word is read, the action is to make no turns; a limit and looks that are not read are as if the line gave none.
abbrev pub Begun : Expected → Kind → List ℕ → Option ℕ → Option ℕ → Asked → List Word → Type 0
Begun place.Kind kind trays count span action ws = (trays ≡ []) × (count ≡ None) × (span ≡ None) × (action ≡ turns []) × (ws ≡ [])
Begun place.Tray kind trays count span action ws = IsFalse (is_ring kind) × (count ≡ None) × (span ≡ None) × (action ≡ turns []) × Line ws kind trays None None []
Begun place.RingTray kind trays count span action ws = IsTrue (is_ring kind) × (count ≡ None) × (span ≡ None) × (action ≡ turns []) × Line ws kind trays None None []
Begun place.CountNumber kind trays count span action ws = (count ≡ None) × (span ≡ None) × (action ≡ turns []) × Line ws kind trays None None (Count ∷ [])
Begun place.SpanWord kind trays count span action ws = IsTrue (is_ring kind) × IsSome count × (span ≡ None) × (action ≡ turns []) × Line ws kind trays count None []
Begun place.SpanNumber kind trays count span action ws = IsTrue (is_ring kind) × (span ≡ None) × (action ≡ turns []) × Line ws kind trays count None (Span ∷ [])
Begun place.ActionWord kind trays count span action ws = HasSpan kind span × IsTrue (is_some span || is_some count) × (action ≡ turns []) × Line ws kind trays count span []
Begun place.Turn kind trays count span action ws = HasSpan kind span × ((ks : List ℕ) × (action ≡ turns ks) × Line ws kind trays count span (Turns ∷ map Number ks))
Begun place.LimitWord kind trays count span action ws = HasSpan kind span × (action ≡ plan HIGHEST_LIMIT HIGHEST_GRANT_SUM) × Line ws kind trays count span (Plan ∷ [])
Begun place.LimitNumber kind trays count span action ws = HasSpan kind span × (action ≡ plan HIGHEST_LIMIT HIGHEST_GRANT_SUM) × Line ws kind trays count span (Plan ∷ Limit ∷ [])
Begun place.LooksWord kind trays count span action ws = HasSpan kind span × ((l : ℕ) × (action ≡ plan l HIGHEST_GRANT_SUM) × Line ws kind trays count span (Plan ∷ limit_words (Some l)))
Begun place.LooksNumber kind trays count span action ws = HasSpan kind span × ((l : Option ℕ) × (action ≡ plan (unwrap_or l HIGHEST_LIMIT) HIGHEST_GRANT_SUM) × Line ws kind trays count span (Plan ∷ (limit_words l ++ Looks ∷ [])))
Begun place.End kind trays count span action ws = HasSpan kind span × ((rest : List Word) × LastWords action rest × Line ws kind trays count span rest)

-- The words before `at` begin a line, and this is expected next.
pub record Reached (ws : List Word) (at : ℕ) (expected : Expected) : Type 0 where
  pub kind : Kind
  pub trays : List ℕ
  pub count : Option ℕ
  pub span : Option ℕ
  pub action : Asked
  pub begun : Begun expected kind trays count span action (take at ws)

-- The words before `at` begin a line, and what stands at `at` may not stand there, or the line ends there and may not.
pub record Stuck (ws : List Word) (at : ℕ) (expected : Expected) : Type 0 where
  pub reached : Reached ws at expected
  pub wrong : ((at < length ws) × IsFalse (may_stand expected (slice_index_or ws at Other))) ⊎ ((at ≡ length ws) × IsFalse (may_end expected))

-- The words before `at` begin a line, and what stands at `at` is a tray or a turn that may stand there.
pub record Unkept (ws : List Word) : Type 0 where
  pub at : ℕ
  pub expected : Expected
  pub reached : Reached ws at expected
  pub within : at < length ws
  pub listed : IsTrue (is_listed expected (slice_index_or ws at Other))

abbrev pub Misreads : List Word → Misread → Type 0
Misreads ws (Unexpected at expected) = Stuck ws at expected
Misreads ws NoMemory = Unkept ws

-- No line is both understood and not.
abbrev pub OneReading : Type 0
OneReading = (ws : List Word) (at : ℕ) (expected : Expected) → Stuck ws at expected → (kind : Kind) (trays : List ℕ) (count span : Option ℕ) (action : Asked) → Written ws kind trays count span action → ⊥

-- What is understood asks one thing.
abbrev pub OneRequest : Type 0
OneRequest = (ws : List Word) (kind kind' : Kind) (trays trays' : List ℕ) (count count' span span' : Option ℕ) (action action' : Asked) → Written ws kind trays count span action → Written ws kind' trays' count' span' action' → (kind ≡ kind') × (trays ≡ trays') × (count ≡ count') × (span ≡ span') × (action ≡ action')

-- What is not understood has one place where it is wrong.
abbrev pub OneFault : Type 0
OneFault = (ws : List Word) (at at' : ℕ) (expected expected' : Expected) → Stuck ws at expected → Stuck ws at' expected' → (at ≡ at') × (expected ≡ expected')
