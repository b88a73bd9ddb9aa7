use Rattle.std.proofs.Common.{◌≡◌, ℕ, ◌+◌, ◌-◌, ◌<◌, List, get_or, set, sym, ap, subst}
use Rattle.trays.specs.Form.{number_tray}
use Rattle.trays.specs.Run.{RunReversed, place_on}
use Rattle.trays.proofs.Runs.{Spun, spun_none, spun_more, spun_all, run_reversed}
use Rattle.ring.specs.declared.tray_ring.TrayRing.{TrayRing}
use Rattle.ring.specs.Ring.{permuted, run_of}

-- the places before step j of the run are written
abbrev pub SpunTo : TrayRing → ℕ → ℕ → List ℕ → Type 0
SpunTo s from j ts = (lt : from < s.arrangement.n) → Spun s.arrangement.n from lt s.span s.span_most number_tray s.arrangement.trays (permuted s).long s.arrangement.most j ts

pub none_spun : (s : TrayRing) (from : ℕ) → SpunTo s from 0 s.arrangement.trays
none_spun s from lt = spun_none s.arrangement.n from lt s.span s.span_most number_tray s.arrangement.trays (permuted s).long s.arrangement.most

pub more_spun : (s : TrayRing) (from j at w : ℕ) (ts : List ℕ) → j < s.span → at ≡ place_on s.arrangement.n from j → w ≡ place_on s.arrangement.n from (s.span - 1 - j) → SpunTo s from j ts → SpunTo s from (j + 1) (set ts at (get_or s.arrangement.trays w 0))
more_spun s from j at w ts lt place other h le =
    spun_more s.arrangement.n from le s.span s.span_most number_tray s.arrangement.trays (permuted s).long s.arrangement.most j at ts (get_or s.arrangement.trays w 0) lt place (ap (λ (k : ℕ). get_or s.arrangement.trays k 0) other) (h le)

pub all_spun : (s : TrayRing) (from : ℕ) (ts : List ℕ) → from < s.arrangement.n → SpunTo s from s.span ts → ts ≡ run_of s from
all_spun s from ts lt h = spun_all s.arrangement.n from lt s.span s.span_most number_tray s.arrangement.trays (permuted s).long s.arrangement.most ts (h lt)

pub all_reversed : (s : TrayRing) (from : ℕ) (ts : List ℕ) → from < s.arrangement.n → ts ≡ run_of s from → RunReversed number_tray s.arrangement.n s.span from s.arrangement.trays ts
all_reversed s from ts lt e =
    subst (RunReversed number_tray s.arrangement.n s.span from s.arrangement.trays) (sym e) (run_reversed s.arrangement.n from lt s.span s.span_most number_tray s.arrangement.trays (permuted s).long s.arrangement.most)
