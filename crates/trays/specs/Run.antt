use Rattle.std.specs.Prelude.{◌≡◌, ℕ, ◌+◌, ◌-◌, ◌<◌, if◌then◌else◌, List, map, ◌≢◌, nat_le, nat_lt}
use Rattle.std.specs.List.{range_with_len}
use Rattle.trays.specs.declared.arrangement.TheConstants.{MOST_TRAYS}
use Rattle.trays.specs.Form.{TrayForm, tray_at}

-- Places counted round a ring of n: the first follows the last.

-- the place that lies j steps on from place a, where both a and j are below n
abbrev pub place_on : ℕ → ℕ → ℕ → ℕ
place_on n a j = if nat_lt (a + j) n then a + j else a + j - n

-- how many steps on from place a place i lies
abbrev pub steps_to : ℕ → ℕ → ℕ → ℕ
steps_to n a i = if nat_le a i then i - a else i + n - a

-- the place that place i changes with where the run of `span` places from place a on is turned round
unfoldable pub partner : ℕ → ℕ → ℕ → ℕ → ℕ
partner n span a i =
    if nat_lt i n
    then (if nat_lt (steps_to n a i) span then place_on n a (span - 1 - steps_to n a i) else i)
    else i

-- all places, of which the first n are a ring, with that run turned round
unfoldable pub run_turned : {A : Type 0} → TrayForm A → ℕ → ℕ → ℕ → List A → List A
run_turned f n span a xs = map (λ i. tray_at f xs (partner n span a i)) (range_with_len 0 MOST_TRAYS)

-- The tray that comes j steps on in the run stood as many steps before its end; every other stays.
pub record RunReversed {A : Type 0} (f : TrayForm A) (n span a : ℕ) (xs ys : List A) : Type 0 where
  pub inside : (j : ℕ) → j < span → tray_at f ys (place_on n a j) ≡ tray_at f xs (place_on n a (span - 1 - j))
  pub outside : (i : ℕ) → ((j : ℕ) → j < span → i ≢ place_on n a j) → tray_at f ys i ≡ tray_at f xs i
