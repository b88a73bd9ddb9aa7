use Rattle.std.proofs.Common.{◌≢◌, ℕ, List, [], ◌∷◌, Option, Result, Ok, Err, inr, refl}
use Rattle.text.specs.declared.word.Word.{Word}
use Rattle.text.specs.Words.{HasWord, Words}
use Rattle.outcome.specs.declared.failure.Failure.{Failure}
use Rattle.outcome.specs.declared.failure.Failure.TheVariants.{Unexpected, Refused, NoMemory}
use Rattle.outcome.specs.declared.outcome.Outcome.{Outcome}
use Rattle.outcome.specs.Outcomes.{Answers, Replies, Requested}

-- what is refused for a request comes of its words
pub replies_failed : (ws : List Word) (f : Failure) → ws ≢ [] → Requested ws (Err f) → Replies ws (Err f)
replies_failed ws (Unexpected at expected) some r = absurd r.settled
replies_failed ws (Refused kind fault) some r = r
replies_failed ws NoMemory some r = (some, inr r)

-- a line with words has a word
has_word : (line : List ℕ) (ws : List Word) → ws ≢ [] → Words line ws → HasWord line
has_word line [] some h = absurd (some refl)
has_word line (w ∷ ws) some h = (h.0, h.1, h.2)

-- what comes of the words of a line comes of the line
pub answers : (line : List ℕ) (ws : List Word) (r : Result (Option Outcome) Failure) → Words line ws → Replies ws r → Answers line r
answers line ws (Ok o) words h = (ws, words, h)
answers line ws (Err (Unexpected at expected)) words h = (ws, words, h)
answers line ws (Err (Refused kind fault)) words h = (ws, words, h)
answers line ws (Err NoMemory) words h = has_word line ws h.0 words
