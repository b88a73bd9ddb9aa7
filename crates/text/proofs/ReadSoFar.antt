use Rattle.std.proofs.Common.{◌≡◌, ℕ, ◌<◌, ◌⊎◌, List, [], ◌∷◌, ◌++◌, Some, None, Option, IsTrue, map, sym, refl, ap, ◌∙◌, subst, inl, inr, arith, append_assoc, append-nil}
use Rattle.std.specs.Option.{unwrap_or}
use Rattle.planner.specs.declared.planner.TheConstants.{HIGHEST_GRANT_SUM}
use Rattle.search.specs.declared.limit.TheConstants.{HIGHEST_LIMIT}
use Rattle.trays.specs.declared.kind.Kind.{Kind}
use Rattle.text.specs.declared.word.Word.{Word}
use Rattle.text.specs.declared.word.Word.TheVariants.{Turns, Dual, Estimate, Plan, Looks, Number, Away}
use Rattle.text.specs.declared.expected.Expected.{Expected}
use Rattle.text.specs.declared.expected.Expected.TheVariants as place
use Rattle.text.specs.Expected.{may_end, may_stand}
use Rattle.text.specs.Lines.{Asked, turns, dual, estimate, plan, TrayWord, TrayWords, Line, Begun, Written, ActionWords, LastWords, HasSpan, limit_words}

-- One word more of a line that has begun.

trays_more : (ts : List Word) (trays : List ℕ) (w : Word) (tray : ℕ) → TrayWord w tray → TrayWords ts trays → TrayWords (ts ++ w ∷ []) (trays ++ tray ∷ [])
trays_more [] [] w tray is h = (is, tt)
trays_more (v ∷ ts) (u ∷ trays) w tray is h = (h.0, trays_more ts trays w tray is h.1)
trays_more ts trays w tray is h = absurd h

line_tray : (ws : List Word) (kind : Kind) (trays longer : List ℕ) (w : Word) (tray : ℕ) → TrayWord w tray → longer ≡ trays ++ tray ∷ [] → Line ws kind trays None None [] → Line (ws ++ w ∷ []) kind longer None None []
line_tray ws kind trays longer w tray is more h =
    (h.0 ++ w ∷ [], subst (TrayWords (h.0 ++ w ∷ [])) (sym more) (trays_more h.0 trays w tray is h.1), ap (λ (l : List Word). l ++ w ∷ []) h.2 ∙ simp append-nil)

pub tray_more : (e : Expected) (kind : Kind) (trays : List ℕ) (count span : Option ℕ) (action : Asked) (ws : List Word) (longer : List ℕ) (w : Word) (tray : ℕ) → (e ≡ place.Tray) ⊎ (e ≡ place.RingTray) → TrayWord w tray → longer ≡ trays ++ tray ∷ [] → Begun e kind trays count span action ws → Begun e kind longer count span action (ws ++ w ∷ [])
tray_more place.Tray kind trays count span action ws longer w tray at is more h = (h.0, h.1, h.2, h.3, line_tray ws kind trays longer w tray is more h.4)
tray_more place.RingTray kind trays count span action ws longer w tray at is more h = (h.0, h.1, h.2, h.3, line_tray ws kind trays longer w tray is more h.4)
tray_more e kind trays count span action ws longer w tray at is more h = absurd (grind arith)

-- a number after a minus sign is below 128 wherever it may stand
pub away_below : (e : Expected) (n : ℕ) → IsTrue (may_stand e (Away n)) → n < 128
away_below place.Tray n t = grind arith
away_below place.RingTray n t = grind arith
away_below e n t = absurd (grind arith)

-- where a number after a minus sign may stand
pub away_place : (e : Expected) (n : ℕ) → IsTrue (may_stand e (Away n)) → (e ≡ place.Tray) ⊎ (e ≡ place.RingTray)
away_place place.Tray n t = inl refl
away_place place.RingTray n t = inr refl
away_place e n t = absurd (grind arith)

-- One word more of the action.
line_more : (ws rest : List Word) (kind : Kind) (trays : List ℕ) (count span : Option ℕ) (w : Word) → Line ws kind trays count span rest → Line (ws ++ w ∷ []) kind trays count span (rest ++ w ∷ [])
line_more ws rest kind trays count span w h =
    (h.0, h.1, ap (λ (l : List Word). l ++ w ∷ []) h.2 ∙ simp append_assoc)

-- where the word of a action may stand
dual_place : (e : Expected) → IsTrue (may_stand e Dual) → (e ≡ place.Tray) ⊎ (e ≡ place.ActionWord)
dual_place place.Tray t = inl refl
dual_place place.ActionWord t = inr refl
dual_place e t = absurd (grind arith)

estimate_place : (e : Expected) → IsTrue (may_stand e Estimate) → (e ≡ place.Tray) ⊎ (e ≡ place.ActionWord)
estimate_place place.Tray t = inl refl
estimate_place place.ActionWord t = inr refl
estimate_place e t = absurd (grind arith)

before_action : (e : Expected) (kind : Kind) (trays : List ℕ) (count span : Option ℕ) (action : Asked) (ws : List Word) → (e ≡ place.Tray) ⊎ (e ≡ place.ActionWord) → Begun e kind trays count span action ws → HasSpan kind span × Line ws kind trays count span []
before_action place.Tray kind trays count span action ws at h = grind arith
before_action place.ActionWord kind trays count span action ws at h = (h.0, h.3)
before_action e kind trays count span action ws at h = absurd (grind arith)

-- a action of one word, after which the line ends
pub dual_more : (e : Expected) (kind : Kind) (trays : List ℕ) (count span : Option ℕ) (action : Asked) (ws : List Word) → IsTrue (may_stand e Dual) → Begun e kind trays count span action ws → Begun place.End kind trays count span dual (ws ++ Dual ∷ [])
dual_more e kind trays count span action ws at h =
    let b = before_action e kind trays count span action ws (dual_place e at) h in
    (b.0, (Dual ∷ [], refl, line_more ws [] kind trays count span Dual b.1))

pub estimate_more : (e : Expected) (kind : Kind) (trays : List ℕ) (count span : Option ℕ) (action : Asked) (ws : List Word) → IsTrue (may_stand e Estimate) → Begun e kind trays count span action ws → Begun place.End kind trays count span estimate (ws ++ Estimate ∷ [])
estimate_more e kind trays count span action ws at h =
    let b = before_action e kind trays count span action ws (estimate_place e at) h in
    (b.0, (Estimate ∷ [], refl, line_more ws [] kind trays count span Estimate b.1))

-- `looks`, after a plan with a limit or with none
pub looks_more : (e : Expected) (kind : Kind) (trays : List ℕ) (count span : Option ℕ) (action : Asked) (ws : List Word) → IsTrue (may_stand e Looks) → Begun e kind trays count span action ws → Begun place.LooksNumber kind trays count span action (ws ++ Looks ∷ [])
looks_more place.LimitWord kind trays count span action ws at h = (h.0, (None, h.1, line_more ws (Plan ∷ []) kind trays count span Looks h.2))
looks_more place.LooksWord kind trays count span action ws at h =
    (h.0, (Some h.1.0, h.1.1, line_more ws (Plan ∷ limit_words (Some h.1.0)) kind trays count span Looks h.1.2))
looks_more e kind trays count span action ws at h = absurd (grind arith)

-- A line that may end is one that asks this.
last_action : (action : Asked) (rest : List Word) → LastWords action rest → ActionWords action rest
last_action (turns ks) rest h = absurd h
last_action dual rest h = h
last_action estimate rest h = h
last_action (plan limit looks) rest h = (h.0, Some looks, h.1)

plan_action : (l : Option ℕ) (action : Asked) → action ≡ plan (unwrap_or l HIGHEST_LIMIT) HIGHEST_GRANT_SUM → ActionWords action (Plan ∷ (limit_words l ++ []))
plan_action l action is = subst (λ (t : Asked). ActionWords t (Plan ∷ (limit_words l ++ []))) (sym is) (l, None, (refl, refl, refl, omega arith, omega arith))

pub written : (e : Expected) (kind : Kind) (trays : List ℕ) (count span : Option ℕ) (action : Asked) (ws : List Word) → IsTrue (may_end e) → Begun e kind trays count span action ws → Written ws kind trays count span action
written place.Turn kind trays count span action ws end h =
    (h.0, (Turns ∷ map Number h.1.0, subst (λ (t : Asked). ActionWords t (Turns ∷ map Number h.1.0)) (sym h.1.1) refl, h.1.2))
written place.LimitWord kind trays count span action ws end h = (h.0, (Plan ∷ [], plan_action None action h.1, h.2))
written place.LooksWord kind trays count span action ws end h =
    (h.0, (Plan ∷ limit_words (Some h.1.0), plan_action (Some h.1.0) action h.1.1, h.1.2))
written place.End kind trays count span action ws end h = (h.0, (h.1.0, last_action action h.1.0 h.1.1, h.1.2))
written e kind trays count span action ws end h = absurd (grind arith)
