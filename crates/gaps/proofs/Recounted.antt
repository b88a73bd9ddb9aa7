use Rattle.std.proofs.Common.{◌≡◌, ℕ, zero, suc, ◌+◌, ◌-◌, ◌<◌, ◌≤◌, min, Bool, true, cond, List, length, get_or, take, ap, ap₂, ◌∙◌, arith}
use Rattle.std.proofs.lemmas.List.{get_or_default}
use Rattle.trays.specs.declared.tray.Tray.{Ghosts}
use Rattle.trays.specs.Apart.{Apart}
use Rattle.trays.proofs.Neighbours.{apart_at, on_plate, plate_recount}
use Rattle.trays.proofs.Tally.{one_at_most, tally_le}
use Rattle.towers.specs.declared.tower.Tower.{Tower}
use Rattle.towers.specs.Towers.{turn_moves, turned}
use Rattle.gaps.specs.Counts.{apart_count, tower_count}
use Rattle.gaps.specs.Laws.{held_at, tower_count-tally}
use Rattle.gaps.proofs.Held.{tower_long}

-- The number of a tower after a turn, by that before it.
module _ {A : Type 0} {b : Ghosts A} (apart : A → A → Bool) (law : Apart b.form apart) (s : Tower A b) where
  abbrev on : ℕ → A
  on = on_plate b.form s.arrangement.n s.arrangement.trays

  -- the number of a tower, by the trays and the plate that it tells
  pub counted_on : (count : ℕ) (trays : List A) (plate : A) → trays ≡ take s.arrangement.n s.arrangement.trays → plate ≡ b.form.upright (s.arrangement.n + 1) → count ≡ apart_count apart trays plate → count ≡ tower_count apart s
  unfolding tower_count
  counted_on count trays plate all is_plate is = is ∙ ap₂ (apart_count apart) all is_plate

  recount : (m : ℕ) → suc m ≤ s.arrangement.n → tower_count apart (turned s (suc m)) + cond (apart (on m) (on (suc m))) 1 0 ≡ tower_count apart s + cond (apart (b.form.sided true (on 0)) (on (suc m))) 1 0
  recount m le =
      let t = turned s (suc m) in
      let before = tower_count-tally apart s in
      let after = tower_count-tally apart t in
      let turn = plate_recount b.form apart law b.regular s.arrangement.n m s.arrangement.trays t.arrangement.trays le (turn_moves s (suc m)) in
      omega arith

  -- an item that the trays have at a place
  held : (trays : List A) (i : ℕ) (x : A) → trays ≡ take s.arrangement.n s.arrangement.trays → i < s.arrangement.n → x ≡ get_or trays i x → x ≡ on i
  held trays i x all lt is =
      let long = tower_long s trays all in
      is ∙ ap (λ xs. get_or xs i x) all
      ∙ get_or_default (take s.arrangement.n s.arrangement.trays) i x (b.form.upright (s.arrangement.n + 1)) (let same = ap length all in omega arith)
      ∙ held_at s i (omega arith)

  pub recounted : (k here joined parted result : ℕ) (joins parts : Bool) (trays : List A) (first over last below plate : A) → 1 ≤ k → k ≤ length trays → trays ≡ take s.arrangement.n s.arrangement.trays
      → first ≡ get_or trays 0 first → over ≡ b.form.sided true first → last ≡ get_or trays (k - 1) last → below ≡ get_or trays k plate → plate ≡ b.form.upright (s.arrangement.n + 1)
      → joins ≡ apart over below → joined ≡ cond joins 1 0 → parts ≡ apart last below → parted ≡ cond parts 1 0
      → here ≡ tower_count apart s → result ≡ min (here + joined) 255 - parted → result ≡ tower_count apart (turned s k)
  recounted zero here joined parted result joins parts trays first over last below plate low high all at_first is_over at_last at_below is_plate is_joins is_joined is_parts is_parted is_here is_result =
      absurd (omega arith)
  recounted (suc m) here joined parted result joins parts trays first over last below plate low high all at_first is_over at_last at_below is_plate is_joins is_joined is_parts is_parted is_here is_result =
      let most = s.arrangement.most in
      let long = tower_long s trays all in
      let top = held trays 0 first all (omega arith) at_first in
      let bottom = held trays m last all (omega arith) (at_last ∙ (let e : suc m - 1 ≡ m = omega arith in ap (λ i. get_or trays i last) e)) in
      let under : below ≡ on (suc m) = at_below ∙ ap₂ (λ xs p. get_or xs (suc m) p) all is_plate ∙ held_at s (suc m) (omega arith) in
      let join : joined ≡ cond (apart (b.form.sided true (on 0)) (on (suc m))) 1 0 = is_joined ∙ ap (λ j. cond j 1 0) (is_joins ∙ ap₂ apart (is_over ∙ ap (b.form.sided true) top) under) in
      let part : parted ≡ cond (apart (on m) (on (suc m))) 1 0 = is_parted ∙ ap (λ j. cond j 1 0) (is_parts ∙ ap₂ apart bottom under) in
      let count = tower_count-tally apart s in
      let few = tally_le s.arrangement.n (apart_at apart on) in
      let one = one_at_most (apart (b.form.sided true (on 0)) (on (suc m))) in
      let turn = recount m (omega arith) in
      omega arith
