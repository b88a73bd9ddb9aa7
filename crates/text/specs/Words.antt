use Rattle.std.specs.Prelude.{◌≡◌, ℕ, ◌<◌, ◌≤◌, List, [], ◌∷◌, ◌++◌, length, codes, ◌≢◌}
use Rattle.std.specs.Str.Parse.{IsNumeral, without_leading_plus, digits_value}
use Rattle.std.specs.Char.{is_whitespace, is_not_whitespace}
use Rattle.std.specs.Str.{NoCharPasses, EmptyOrStartsWithPassing}
use Rattle.trays.specs.Kinds.{kind_name}
use Rattle.trays.specs.declared.kind.Kind.TheVariants.{Plain, Sided, Ring}
use Rattle.text.specs.declared.word.Word.{Word}
use Rattle.text.specs.declared.word.Word.TheVariants.{Kind as Machine, Count, Span, Turns, Dual, Estimate, Plan, Limit, Looks, Number, Large, Away, Other}

-- decimal digits, after a plus sign or none, that write n, a number below this bound
abbrev pub IsNumber : ℕ → List ℕ → ℕ → Type 0
IsNumber bound bs n = IsNumeral 10 (without_leading_plus bs) × (digits_value 10 (without_leading_plus bs) ≡ n) × (n < bound)

-- decimal digits, with no sign before them, that write n
abbrev pub IsUnsigned : List ℕ → ℕ → Type 0
IsUnsigned bs n = IsNumeral 10 bs × (digits_value 10 bs ≡ n)

-- a minus sign, the byte 45, and right after it decimal digits that write n, a number from 0 to 127
abbrev pub IsAway : List ℕ → ℕ → Type 0
IsAway bs n = (ds : List ℕ) × (bs ≡ 45 ∷ ds) × IsUnsigned ds n × (n < 128)

-- the text bs means this word
abbrev pub Spells : List ℕ → Word → Type 0
Spells bs (Machine kind) = bs ≡ kind_name kind
Spells bs Count = bs ≡ codes "count"
Spells bs Span = bs ≡ codes "span"
Spells bs Turns = bs ≡ codes "turns"
Spells bs Dual = bs ≡ codes "dual"
Spells bs Estimate = bs ≡ codes "estimate"
Spells bs Plan = bs ≡ codes "plan"
Spells bs Limit = bs ≡ codes "limit"
Spells bs Looks = bs ≡ codes "looks"
Spells bs (Number n) = IsNumber 256 bs n
Spells bs (Large n) = IsNumber 4294967296 bs n × (256 ≤ n)
Spells bs (Away n) = IsAway bs n
Spells bs Other =
    (bs ≢ kind_name Plain)
    × (bs ≢ kind_name Sided)
    × (bs ≢ kind_name Ring)
    × (bs ≢ codes "count")
    × (bs ≢ codes "span")
    × (bs ≢ codes "turns")
    × (bs ≢ codes "dual")
    × (bs ≢ codes "estimate")
    × (bs ≢ codes "plan")
    × (bs ≢ codes "limit")
    × (bs ≢ codes "looks")
    × ((n : ℕ) → ¬ IsNumber 4294967296 bs n)
    × ((n : ℕ) → ¬ IsAway bs n)

-- bs is white space, then the piece, then `rest`, which is empty or begins with white space
pub record Cut (bs piece rest : List ℕ) : Type 0 where
  pub gap : List ℕ
  pub whole : bs ≡ gap ++ (piece ++ rest)
  pub blank : NoCharPasses is_not_whitespace gap
  pub some : 0 < length piece
  pub solid : NoCharPasses is_whitespace piece
  pub ends : (more : List ℕ) × EmptyOrStartsWithPassing is_whitespace rest more

-- ws are the words of the line bs
abbrev pub Words : List ℕ → List Word → Type 0
Words bs [] = NoCharPasses is_not_whitespace bs
Words bs (w ∷ ws) = (piece : List ℕ) × (rest : List ℕ) × Cut bs piece rest × Spells piece w × Words rest ws

-- the line has a word
abbrev pub HasWord : List ℕ → Type 0
HasWord bs = (piece : List ℕ) × (rest : List ℕ) × Cut bs piece rest
