use Rattle.std.proofs.Common.{◌≡◌, ℕ, suc, ◌<◌, ◌≤◌, List, ◌++◌, length, take, drop, None, ap, refl, subst, ◌∙◌, arith, [], Some, ap₂}
use Rattle.std.proofs.Math.Seq.{take-append_seam}
use Rattle.console.specs.declared.console.Console.{Console}
use Rattle.console.specs.declared.console.TheConstants.{LONGEST_TAPE}
use Rattle.console.specs.Histories.{History}
use Rattle.console.specs.Holds.{Stands}
use Rattle.console.specs.Tapes.{After, AllReplies, Step, Whole, call_fault, written}
use Rattle.tape.specs.Replies.{refusal_bytes}
use Rattle.tape.specs.declared.fault.Fault.{Fault}
use Rattle.tape.specs.declared.fault.Fault.TheVariants.{TapeLength}
use Rattle.tape.specs.declared.refusal.Refusal.{Refusal}
use Rattle.tape.specs.declared.reply.TheConstants.{LONGEST_REPLY}

-- The console has run the tape up to this place, and its replies, so many bytes in all, are written into a room that held old bytes. A tape that is too long is never begun.
pub record SoFar (tape : List ℕ) (place : ℕ) (old : List ℕ) (told : ℕ) (room : List ℕ) (c : Console) : Type 0 where
  pub count : ℕ
  pub history : History
  pub replies : List ℕ
  pub after : After tape count place history replies
  pub stands : Stands history c
  pub told_is : told ≡ length replies
  pub room_is : room ≡ written old replies
  pub not_begun : LONGEST_TAPE < length tape → (place ≡ 0) × (replies ≡ [])

-- All replies to the tape are so many bytes, and written into the room as far as it goes.
abbrev pub Replied : List ℕ → List ℕ → ℕ → List ℕ → Type 0
Replied tape old told room = (bytes : List ℕ) × AllReplies tape bytes × (told ≡ length bytes) × (room ≡ written old bytes)

-- What is written of a reply buffer is the reply.
pub reply_part : (bytes written old : List ℕ) (count : ℕ) → count ≡ length bytes → written ≡ bytes ++ drop (length bytes) old → take count written ≡ bytes
reply_part bytes written old count count_is written_is = ap (λ (k : ℕ). take k written) count_is ∙ ap (take (length bytes)) written_is ∙ take-append_seam bytes (drop (length bytes) old)

-- One command further.
pub one_more : (tape : List ℕ) (place next : ℕ) (h after : History) (so_far bytes : List ℕ) (n : ℕ) → After tape n place h so_far → place < length tape → Step tape place h bytes next after → After tape (suc n) next after (so_far ++ bytes)
one_more tape place next h after so_far bytes n before on_tape step = record { place = place; history = h; so_far = so_far; before = before; on_tape = on_tape; bytes = bytes; step = step; replies_are = refl }

-- Where a command was run the tape is not too long.
pub fits_on_tape : (tape : List ℕ) (place : ℕ) → call_fault tape place LONGEST_REPLY ≡ None → length tape ≤ LONGEST_TAPE
fits_on_tape tape place is = grind arith

pub not_long : (tape : List ℕ) (place : ℕ) → call_fault tape place LONGEST_REPLY ≡ None → LONGEST_TAPE < length tape → ⊥
not_long tape place is long = grind arith

-- At a place on the tape, and with room enough, a call is refused where the tape is too long.
long : (tape : List ℕ) (place : ℕ) (f : Fault) → place < length tape → call_fault tape place LONGEST_REPLY ≡ Some f → (LONGEST_TAPE < length tape) × (f ≡ TapeLength)
long tape place f on_tape is = grind arith

-- A fault ends the replies.
pub refused_whole : (tape : List ℕ) (place : ℕ) (replies bytes : List ℕ) (r : Refusal) → place < length tape → (LONGEST_TAPE < length tape → (place ≡ 0) × (replies ≡ [])) → Whole tape place LONGEST_REPLY r → bytes ≡ refusal_bytes r → AllReplies tape (replies ++ bytes)
refused_whole tape place replies bytes r on_tape not_begun whole is =
    let one = long tape place r.fault on_tape whole.0 in
    record {
      too_long = λ _. ap (λ (xs : List ℕ). xs ++ bytes) (not_begun one.0).1 ∙ is ∙ ap₂ (λ f p. refusal_bytes (record { fault = f; place = p })) one.1 whole.1;
      to_end = λ le. let more = one.0 in absurd (omega arith);
    }

-- At the end of the tape these are all replies.
pub all_replied : (tape : List ℕ) (place : ℕ) (old : List ℕ) (told : ℕ) (room : List ℕ) (c : Console) → place ≡ length tape → SoFar tape place old told room c → Replied tape old told room
all_replied tape place old told room c is half = (
  half.replies,
  record {
    too_long = λ more. let begun = (half.not_begun more).0 in absurd (omega arith);
    to_end = λ _. (half.count, half.history, subst (λ (p : ℕ). After tape half.count p half.history half.replies) is half.after);
  },
  half.told_is,
  half.room_is,
)
