use Rattle.std.specs.Prelude.{◌≡◌, ℕ, zero, suc, ◌+◌, ◌-◌, ◌<◌, ◌≤◌, Bool, true, false, if◌then◌else◌, IsTrue, not, ◌&&◌, ◌||◌, List, map, length, ◌==◌, nat_eq, nat_le}
use Rattle.std.specs.List.{range_with_len}
use Rattle.trays.specs.declared.arrangement.TheConstants.{MOST_TRAYS}
use Rattle.trays.specs.Form.{TrayForm, number_at, tray_at}

-- p of each number below n
unfoldable pub every : ℕ → (ℕ → Bool) → Bool
every zero p = true
every (suc n) p = p n && every n p

-- p of some number below n
unfoldable pub some : ℕ → (ℕ → Bool) → Bool
some zero p = false
some (suc n) p = p n || some n p

-- one more than the last number below n that has p, or 0
unfoldable pub last : ℕ → (ℕ → Bool) → ℕ
last zero p = 0
last (suc n) p = if p n then suc n else last n p

-- x is a number from 1 to n
abbrev pub numbered : ℕ → ℕ → Bool
numbered n x = nat_le 1 x && nat_le x n

-- the number at place i stands at an earlier place too
abbrev pub repeats : (ℕ → ℕ) → ℕ → Bool
repeats f i = some i (λ k. nat_eq (f k) (f i))

-- all places: the first n have the numbers 1 to n, each once, and the rest no tray
unfoldable pub permutation : {A : Type 0} → TrayForm A → ℕ → List A → Bool
permutation f n xs =
    (length xs == MOST_TRAYS)
    && (every n (λ i. numbered n (number_at f xs i)) && (every n (λ i. not (repeats (number_at f xs) i)) && every (MOST_TRAYS - n) (λ i. f.stands 0 (tray_at f xs (n + i)))))

-- the trays 1, 2, 3 and so on, each as it stands at home
unfoldable pub in_order : {A : Type 0} → TrayForm A → List A → Bool
in_order f xs = every (length xs) (λ i. f.stands (suc i) (tray_at f xs i))

-- what a place of the inverse holds that answers to place p, counted from 1: the tray there with p as its number, and no tray where p is 0
abbrev pub answering : {A : Type 0} → TrayForm A → List A → ℕ → A
answering f xs zero = f.upright 0
answering f xs (suc i) = f.renumbered (suc i) (tray_at f xs i)

-- all places: tray j at place i, one of the first n, gives tray i at place j of the inverse, on the same side
unfoldable pub inverse : {A : Type 0} → TrayForm A → ℕ → List A → List A
inverse f n xs = map (λ j. answering f xs (last n (λ i. nat_eq (number_at f xs i) (suc j)))) (range_with_len 0 MOST_TRAYS)

-- Of a permutation: tray j + 1 at place i gives tray i + 1 at place j of the inverse, on the same side. Places count from 0.
abbrev pub Inverts : {A : Type 0} → TrayForm A → Type 0
Inverts {A} f = (n : ℕ) (xs : List A) → n ≤ MOST_TRAYS → IsTrue (permutation f n xs) → (i j : ℕ) → i < n → number_at f xs i ≡ suc j → tray_at f (inverse f n xs) j ≡ f.renumbered (suc i) (tray_at f xs i)
