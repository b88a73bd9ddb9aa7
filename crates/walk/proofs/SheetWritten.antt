use Rattle.std.proofs.Common.{◌≡◌, ℕ, zero, suc, ◌+◌, ◌-◌, ◌<◌, min, List, ◌∷◌, [], ◌++◌, length, reverse, replicate, take, get_or, set, sym, ap, ◌∙◌, ap₂, arith, ⊎_elim}
use Rattle.std.proofs.lemmas.List.{set_at, length-reverse, take_all, take-append-le}
use Rattle.std.proofs.lemmas.Bool.{cases_lt}
use mathlib.Core.List.{append_assoc, reverse-cons}
use Rattle.walk.specs.declared.sheet.TheConstants.{SHEET_PLACES}
use Rattle.walk.specs.declared.depth_record.DepthRecord.{DepthRecord}
use Rattle.walk.specs.Records.{blank, turns_to}
use Rattle.walk.specs.Sheets.{padded}
use Rattle.walk.proofs.Trails.{length_turns_to}

-- The turns to a depth, in their order, with 0 after them.
abbrev pub written : List DepthRecord → ℕ → List ℕ
written rs depth = reverse (turns_to rs depth) ++ replicate (SHEET_PLACES - depth) 0

pub written_more : (rs : List DepthRecord) (depth : ℕ) (sheet : List ℕ) → depth < SHEET_PLACES → sheet ≡ written rs depth → set sheet depth (get_or rs depth blank).tried ≡ written rs (depth + 1)
written_more rs depth sheet small is =
    let ks = turns_to rs depth in
    let k = (get_or rs depth blank).tried in
    let zeros : List ℕ = replicate (SHEET_PLACES - (depth + 1)) 0 in
    let fewer : SHEET_PLACES - depth ≡ suc (SHEET_PLACES - (depth + 1)) = omega arith in
    let next : suc depth ≡ depth + 1 = omega arith in
    ap (λ ys. set ys depth k) (is ∙ ap (λ n. reverse ks ++ replicate n 0) fewer)
    ∙ set_at (reverse ks) 0 zeros k depth (length-reverse ks ∙ length_turns_to rs depth)
    ∙ sym (append_assoc (reverse ks) (k ∷ []) zeros)
    ∙ ap (λ ys. ys ++ zeros) (sym (reverse-cons k ks))
    ∙ ap (λ n. reverse (turns_to rs n) ++ zeros) next

-- the turns to a depth are the first of those to a deeper one
first_turns : (rs : List DepthRecord) (n more : ℕ) → take n (reverse (turns_to rs (more + n))) ≡ reverse (turns_to rs n)
first_turns rs n zero =
    let same : 0 + n ≡ n = omega arith in
    let long = length-reverse (turns_to rs n) in
    let depth = length_turns_to rs n in
    ap (λ d. take n (reverse (turns_to rs d))) same ∙ take_all n (reverse (turns_to rs n)) (omega arith)
first_turns rs n (suc more) =
    let next : suc more + n ≡ suc (more + n) = omega arith in
    let ks = turns_to rs (more + n) in
    let k = (get_or rs (more + n) blank).tried in
    let long = length-reverse ks in
    let depth = length_turns_to rs (more + n) in
    ap (λ d. take n (reverse (turns_to rs d))) next ∙ ap (take n) (reverse-cons k ks) ∙ take-append-le n (reverse ks) (k ∷ []) (omega arith) ∙ first_turns rs n more

pub written_all : (rs : List DepthRecord) (i depth : ℕ) → i ≡ min depth SHEET_PLACES → written rs i ≡ padded (take SHEET_PLACES (reverse (turns_to rs depth)))
written_all rs i depth is = whole (take SHEET_PLACES (reverse (turns_to rs depth))) shown
  where
    shown : take SHEET_PLACES (reverse (turns_to rs depth)) ≡ reverse (turns_to rs i)
    shown =
        ⊎_elim
        (λ many.
        let deep : depth ≡ depth - SHEET_PLACES + SHEET_PLACES = omega arith in
        let last : SHEET_PLACES ≡ i = omega arith in
        ap (λ d. take SHEET_PLACES (reverse (turns_to rs d))) deep ∙ first_turns rs SHEET_PLACES (depth - SHEET_PLACES) ∙ ap (λ d. reverse (turns_to rs d)) last)
        (λ few.
        let same : depth ≡ i = omega arith in
        let long = length-reverse (turns_to rs depth) in
        let deep = length_turns_to rs depth in
        take_all SHEET_PLACES (reverse (turns_to rs depth)) (omega arith) ∙ ap (λ d. reverse (turns_to rs d)) same)
        (cases_lt SHEET_PLACES depth)

    whole : (ks : List ℕ) → ks ≡ reverse (turns_to rs i) → written rs i ≡ padded ks
    whole ks same =
        let long : i ≡ length ks = sym (ap length same ∙ length-reverse (turns_to rs i) ∙ length_turns_to rs i) in
        ap₂ (λ xs n. xs ++ replicate (SHEET_PLACES - n) 0) (sym same) long
