use Rattle.std.proofs.Common.{◌≡◌, ◌≢◌, ℕ, ◌<◌, Bool, true, false, nat_lt, Bor, List, [], ◌∷◌, ◌++◌, length, drop, Option, Some, None, refl, sym, ap, ◌∙◌, subst, arith, MatchOption}
use Rattle.std.specs.Str.Parse.{digits_value}
use Rattle.std.specs.Bool.{then_some}
use Rattle.std.specs.Char.{is_not_whitespace, is_whitespace}
use Rattle.std.specs.Str.{EmptyOrStartsWithPassing, NoCharPasses}
use Rattle.text.specs.declared.word.Word.{Word}
use Rattle.text.specs.Words.{Cut, HasWord, IsAway, IsUnsigned, Spells, Words}

-- The number that digits with no sign write, or none.
abbrev pub Unsigned : List ℕ → Option ℕ → Type 0
Unsigned bs o = MatchOption o ((n : ℕ) → n < 256 → ¬ IsUnsigned bs n) (IsUnsigned bs)

-- the number n after a minus sign is kept where it is below 128
away_below : (bs ds : List ℕ) (n : ℕ) (b : Bool) → b ≡ nat_lt n 128 → bs ≡ 45 ∷ ds → IsUnsigned ds n → MatchOption (then_some b n) ((m : ℕ) → ¬ IsAway bs m) (IsAway bs)
away_below bs ds n true below split is = (ds, split, is, grind arith)
away_below bs ds n false below split is =
    λ m h. let same : h.0 ≡ ds = ap (drop 1) (sym h.1 ∙ split) in let value : m ≡ n = sym h.2.1 ∙ (ap (digits_value 10) same ∙ is.1) in let less = h.3 in grind arith

-- what stands after a minus sign, the number that it writes, and that number again where it is below 128
pub away_read : (bs : List ℕ) (digits : Option (Bor (List ℕ))) (number small : Option ℕ) (Keeps : ℕ → Bool → Type 0) → ((n : ℕ) (b : Bool) → Keeps n b → b ≡ nat_lt n 128) → MatchOption digits ((rest : List ℕ) → bs ≢ 45 ∷ rest) (λ ds. bs ≡ 45 ∷ ds.now) → MatchOption digits (number ≡ None) (λ ds. Unsigned ds.now number) → MatchOption number (small ≡ None) (λ n. (b : Bool) × Keeps n b × (small ≡ then_some b n)) → MatchOption small ((n : ℕ) → ¬ IsAway bs n) (IsAway bs)
away_read bs None None small Keeps keeps minus none kept = rw kept (λ n h. minus h.0 h.1)
away_read bs None (Some n) small Keeps keeps minus none kept = absurd (grind arith)
away_read bs (Some ds) None small Keeps keeps minus none kept =
    rw kept (λ n h. let same : h.0 ≡ ds.now = ap (drop 1) (sym h.1 ∙ minus) in none n (omega (arith, h.3)) (subst (λ (l : List ℕ). IsUnsigned l n) same h.2))
away_read bs (Some ds) (Some n) small Keeps keeps minus is kept = rw kept.2 (away_below bs ds.now n kept.0 (keeps n kept.0 kept.1) minus is)

-- These are the words of the line bs that stand before `rest`.
abbrev pub WordsBefore : List ℕ → List Word → List ℕ → Type 0
WordsBefore bs [] rest = bs ≡ rest
WordsBefore bs (w ∷ ws) rest = (piece : List ℕ) × (after : List ℕ) × Cut bs piece after × Spells piece w × WordsBefore after ws rest

-- what `split_whitespace` says of a piece
pub cut_of : (bs piece rest : List ℕ) → (gap : List ℕ) × (bs ≡ gap ++ (piece ++ rest)) × (0 < length piece) × NoCharPasses is_not_whitespace gap × NoCharPasses is_whitespace piece × ((more : List ℕ) × EmptyOrStartsWithPassing is_whitespace rest more) → Cut bs piece rest
cut_of bs piece rest c = record { gap = c.0; whole = c.1; blank = c.3; some = c.2; solid = c.4; ends = c.5 }

-- one word more
pub words_more : (bs : List ℕ) (ws : List Word) (rest piece after : List ℕ) (w : Word) → WordsBefore bs ws rest → Cut rest piece after → Spells piece w → WordsBefore bs (ws ++ w ∷ []) after
words_more bs [] rest piece after w h cut spells = (piece, after, subst (λ (l : List ℕ). Cut l piece after) (sym h) cut, spells, refl)
words_more bs (v ∷ ws) rest piece after w h cut spells = (h.0, h.1, h.2, h.3, words_more h.1 ws rest piece after w h.4 cut spells)

-- where nothing but white space is left, these are all words
pub words_all : (bs : List ℕ) (ws : List Word) (rest : List ℕ) → WordsBefore bs ws rest → NoCharPasses is_not_whitespace rest → Words bs ws
words_all bs [] rest h blank = subst (NoCharPasses is_not_whitespace) (sym h) blank
words_all bs (w ∷ ws) rest h blank = (h.0, h.1, h.2, h.3, words_all h.1 ws rest h.4 blank)

-- where a word more stands, the line has a word
pub has_word : (bs : List ℕ) (ws : List Word) (rest piece after : List ℕ) → WordsBefore bs ws rest → Cut rest piece after → HasWord bs
has_word bs [] rest piece after h cut = (piece, after, subst (λ (l : List ℕ). Cut l piece after) (sym h) cut)
has_word bs (w ∷ ws) rest piece after h cut = (h.0, h.1, h.2)
