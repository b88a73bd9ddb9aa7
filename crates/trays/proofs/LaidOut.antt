use Rattle.std.proofs.Common.{◌≡◌, ℕ, suc, ◌+◌, ◌-◌, ◌<◌, ◌≤◌, ◌++◌, if◌then◌else◌, nat_lt, List, length, drop, replicate, sym, ap, ◌∙◌, ⊎_elim, add-one, arith}
use Rattle.std.proofs.lemmas.Bool.{cases_lt, cond-true, cond-false, lt-ltb, le-ltb}
use Rattle.std.proofs.lemmas.List.{get_or_append_left, get_or-append_right, get_or-drop, get_or-replicate, length-append, length-drop, length-replicate}
use Rattle.trays.specs.AtHome.{AtHome}
use Rattle.trays.specs.Form.{TrayForm, Regular, number_at, tray_at}
use Rattle.trays.proofs.Permutations.{Ordered, first_in_order}

-- the number of the tray at place k where the trays 1 to n are laid out, or 0
abbrev pub number_laid : ℕ → ℕ → ℕ
number_laid n k = if nat_lt k n then k + 1 else 0

-- trays that are laid out so are at home
pub laid_home : {A : Type 0} (f : TrayForm A) → Regular f → (n m : ℕ) (xs : List A) → m ≡ n → n ≤ 32 → length xs ≡ 32 → ((k : ℕ) → k < 32 → tray_at f xs k ≡ f.upright (number_laid m k)) → AtHome f n xs
laid_home f reg n m xs same high long each =
    let done : Ordered f reg n xs = λ k lt. each k (omega arith) ∙ ap f.upright (cond-true (nat_lt k m) (k + 1) 0 (lt-ltb k m (omega arith)) ∙ add-one k) in
    let number : (k : ℕ) → k < n → number_at f xs k ≡ suc k = λ k lt. ap f.number (done k lt) ∙ reg.number-upright (suc k) in
    record {
      accepted = record {
        counted = (omega arith, high);
        numbered = λ k _ lt. let e = number k lt in (omega arith, omega arith);
        new = λ k _ lt j lj e. let a = number k lt in let b = number j (omega arith) in omega arith;
        blank = λ k ge lt. each k lt ∙ ap f.upright (cond-false (nat_lt k m) (k + 1) 0 (le-ltb k m (omega arith)));
      };
      home = (first_in_order f reg n xs (omega arith)).1 done;
    }

-- Trays that are laid out up to place n stand at home with no trays after them.
pub laid_then_none : {A : Type 0} (f : TrayForm A) → Regular f → (n m : ℕ) (xs : List A) (none : A) → m ≡ n → n ≤ 32 → length xs ≡ m → none ≡ f.upright 0 → ((k : ℕ) → k < m → tray_at f xs k ≡ f.upright (k + 1)) → AtHome f n (xs ++ drop m (replicate 32 none))
laid_then_none f reg n m xs none same high long is each =
    let rest = drop m (replicate 32 none) in
    let tail = length-drop m (replicate 32 none) in
    let both = length-append xs rest in
    laid_home f reg n m (xs ++ rest) same high (omega (arith, length-replicate 32 none)) (λ k lt.
    ⊎_elim
    (λ (within : k < m). get_or_append_left xs rest (f.upright 0) k (omega arith) ∙ each k within ∙ ap f.upright (sym (cond-true (nat_lt k m) (k + 1) 0 (lt-ltb k m within))))
    (λ (past : m ≤ k).
    get_or-append_right xs rest m k (f.upright 0) long past
    ∙ get_or-drop m (replicate 32 none) (k - m) (f.upright 0)
    ∙ get_or-replicate 32 (m + (k - m)) none (f.upright 0) (omega arith)
    ∙ is
    ∙ ap f.upright (sym (cond-false (nat_lt k m) (k + 1) 0 (le-ltb k m past))))
    (cases_lt k m))
