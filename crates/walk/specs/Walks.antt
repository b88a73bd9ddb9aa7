use Rattle.std.specs.Prelude.{◌≡◌, ℕ, ◌≤◌, List, [], ◌∷◌, length}
use Rattle.machine.specs.Meaning.{Meaning, InRange}
use Rattle.search.specs.Search.{Look}
use Rattle.search.specs.declared.limit.TheConstants.{HIGHEST_LIMIT}
use Rattle.walk.specs.Left.{Leads, later, left_at}
use Rattle.walk.specs.Trails as trails
use Rattle.walk.specs.declared.moved.Moved.{Moved}
use Rattle.walk.specs.declared.moved.Moved.TheVariants.{ByTurn, NoneLeft as NoTurn}
use Rattle.walk.specs.declared.step.Step.{Step}
use Rattle.walk.specs.declared.step.Step.TheVariants.{Reached, RoundOver}
use Rattle.walk.specs.declared.walk.Walk.{Walk}

-- The turns that led here, the last one first.
abbrev pub made : {M : Type 0} → Walk M → List ℕ
made w = trails.made w.trail

-- The turn tried last here, or 0.
abbrev pub tried : {M : Type 0} → Walk M → ℕ
tried w = trails.tried w.trail

-- The machine as it stands here.
abbrev pub machine : {M : Type 0} → Walk M → M
machine w = w.here

-- A walk at its start, which is this machine.
pub record IsAtStart {M : Type 0} (start : M) (w : Walk M) : Type 0 where
  pub none_made : made w ≡ []
  pub none_tried : tried w ≡ 0
  pub at_start : machine w ≡ start

module _ {S M : Type 0} (m : Meaning S) (state : M → S) where
  -- One turn further: the next one to try.
  pub record Down (p : Walk M) (q : Walk M) : Type 0 where
    pub room : length (made p) ≤ HIGHEST_LIMIT
    pub turn : ℕ
    pub in_range : InRange m (state p.here) turn
    pub next : later m (made p) (state p.here) (tried p) ≡ turn ∷ later m (made p) (state p.here) turn
    pub made_more : made q ≡ turn ∷ made p
    pub none_tried : tried q ≡ 0
    pub leads : state q.here ≡ m.after (state p.here) turn

  -- No turn is left to try, if there is room for one more.
  pub record NoneLeft (p : Walk M) (q : Walk M) : Type 0 where
    pub none : length (made p) ≤ HIGHEST_LIMIT → later m (made p) (state p.here) (tried p) ≡ []
    pub same : q ≡ p

  -- What going one turn further answers and leaves.
  abbrev pub WentDown : Walk M → Moved → Walk M → Type 0
  WentDown p ByTurn q = Down p q
  WentDown p NoTurn q = NoneLeft p q

  -- One turn back: that is the one tried last.
  pub record Back (p : Walk M) (q : Walk M) : Type 0 where
    pub turn : ℕ
    pub made_less : made p ≡ turn ∷ made q
    pub tried_last : tried q ≡ turn
    pub leads : state q.here ≡ m.after (state p.here) turn

  -- It is at its start, and stays; each turn there is yet to be tried.
  pub record StaysAtStart (p : Walk M) (q : Walk M) : Type 0 where
    pub was_there : made p ≡ []
    pub none_made : made q ≡ []
    pub none_tried : tried q ≡ 0
    pub same : q.here ≡ p.here

  -- What going one turn back answers and leaves.
  abbrev pub WentBack : Walk M → Moved → Walk M → Type 0
  WentBack p ByTurn q = Back p q
  WentBack p NoTurn q = (root : S) → Leads m root (made p) (state p.here) → StaysAtStart p q

  -- The walk is at a state that is yet to be looked at, and these looks are left of the round.
  pub record Stands (e : S → ℕ) (threshold : ℕ) (root : S) (xs : List Look) (q : Walk M) : Type 0 where
    pub leads : Leads m root (made q) (state q.here)
    pub none_tried : tried q ≡ 0
    pub left : xs ≡ left_at m e threshold (made q) (state q.here)

  -- The walk is back at its start, and no look is left of the round.
  pub record Over (root : S) (xs : List Look) (q : Walk M) : Type 0 where
    pub none_made : made q ≡ []
    pub none_tried : tried q ≡ 0
    pub at_root : state q.here ≡ root
    pub none_left : xs ≡ []

  -- Where the walk is once it has gone on: at the next look of the round, or the round is over.
  abbrev pub Went : (S → ℕ) → ℕ → S → List Look → Step → Walk M → Type 0
  Went e threshold root xs Reached q = Stands e threshold root xs q
  Went e threshold root xs RoundOver q = Over root xs q

  -- The walk goes on from where it is, whatever the estimate and the threshold: `row` is what is left of the round.
  abbrev pub GoesOn : Walk M → ((S → ℕ) → ℕ → List Look) → Step → Walk M → Type 0
  GoesOn p row r q = (e : S → ℕ) (threshold : ℕ) (root : S) → Leads m root (made p) (state p.here) → Went e threshold root (row e threshold) r q
