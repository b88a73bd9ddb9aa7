use Rattle.std.specs.Prelude.{◌≡◌, ℕ, zero, suc, ◌+◌, ◌<◌, ◌≤◌, if◌then◌else◌, nat_lt, List, [], ◌++◌, length, take, drop, Some, None, Option, Ok, Err, Result}
use Rattle.planner.specs.declared.answer.Answer.{Answer}
use Rattle.tape.specs.Commands.{Reads, width}
use Rattle.tape.specs.Places.{refused_for}
use Rattle.tape.specs.Replies.{refusal_bytes, reply_bytes}
use Rattle.tape.specs.declared.command.Command.{Command}
use Rattle.tape.specs.declared.fault.Fault.{Fault}
use Rattle.tape.specs.declared.fault.Fault.TheVariants.{TapeLength, Place, ReplyRoom}
use Rattle.tape.specs.declared.refusal.Refusal.{Refusal}
use Rattle.tape.specs.declared.reply.TheConstants.{LONGEST_REPLY}
use Rattle.tape.specs.declared.placed.Placed.{Placed}
use Rattle.console.specs.declared.console.TheConstants.{LONGEST_TAPE}
use Rattle.console.specs.declared.ran.Ran.{Ran}
use Rattle.console.specs.Commanded.{Answered}
use Rattle.console.specs.Histories.{History, none}

-- Why a call of the console is refused as a whole, by the tape, the place and the room for the reply.
abbrev pub call_fault : List ℕ → ℕ → ℕ → Option Fault
call_fault tape place room =
    if nat_lt LONGEST_TAPE (length tape) then Some TapeLength
    else (if nat_lt (length tape) place then Some Place
    else (if nat_lt room LONGEST_REPLY then Some ReplyRoom else None))

-- The reply to a command, with the place of the byte at fault.
abbrev pub placed_reply : Placed → Result Answer Fault → Result Answer Refusal
placed_reply p (Ok a) = Ok a
placed_reply p (Err f) = Err (refused_for p f)

-- A command at this place is answered.
pub record Replied (place : ℕ) (h : History) (c : Command) (bytes : List ℕ) (next : ℕ) (after : History) : Type 0 where
  pub reply : Result Answer Fault
  pub sheet : List ℕ
  pub answered : Answered h c reply sheet after
  pub bytes_are : bytes ≡ reply_bytes (placed_reply (record { command = c; place = place }) reply) sheet
  pub next_is : next ≡ place + 1 + width c

-- What comes of what is read at a place of the tape: the bytes of the reply, the next place and the history after it.
abbrev pub ComesOf : List ℕ → ℕ → History → Result (Option Command) Fault → List ℕ → ℕ → History → Type 0
ComesOf tape place h (Ok None) bytes next after = (bytes ≡ []) × (next ≡ place) × (after ≡ h)
ComesOf tape place h (Ok (Some c)) bytes next after = Replied place h c bytes next after
ComesOf tape place h (Err f) bytes next after = (bytes ≡ refusal_bytes (record { fault = f; place = place })) × (next ≡ length tape) × (after ≡ h)

-- What comes of the tape at this place.
pub record Step (tape : List ℕ) (place : ℕ) (h : History) (bytes : List ℕ) (next : ℕ) (after : History) : Type 0 where
  pub read : Result (Option Command) Fault
  pub reads : Reads (drop place tape) read
  pub comes : ComesOf tape place h read bytes next after

-- The rules leave no more than one reply, one next place and one history to each place of a tape.
abbrev pub OneStep : Type 0
OneStep = (tape : List ℕ) (place : ℕ) (h : History) (bytes others : List ℕ) (next end : ℕ) (after later : History) → Step tape place h bytes next after → Step tape place h others end later → (bytes ≡ others) × (next ≡ end) × (after ≡ later)

-- A call is refused as a whole, with place 0.
abbrev pub Whole : List ℕ → ℕ → ℕ → Refusal → Type 0
Whole tape place room r = (call_fault tape place room ≡ Some r.fault) × (r.place ≡ 0)

-- What stands at the place is run, after this history: the reply is written, and the bytes past it stay.
pub record Runs (tape : List ℕ) (place : ℕ) (h : History) (old : List ℕ) (ran : Ran) (new : List ℕ) (after : History) : Type 0 where
  pub bytes : List ℕ
  pub step : Step tape place h bytes ran.next after
  pub count_is : ran.count ≡ length bytes
  pub written : new ≡ bytes ++ drop (length bytes) old

-- One command further than a place, a history and replies for which `Before` holds.
pub record Further (tape : List ℕ) (Before : ℕ → History → List ℕ → Type 0) (next : ℕ) (after : History) (replies : List ℕ) : Type 0 where
  pub place : ℕ
  pub history : History
  pub so_far : List ℕ
  pub before : Before place history so_far
  pub on_tape : place < length tape
  pub bytes : List ℕ
  pub step : Step tape place history bytes next after
  pub replies_are : replies ≡ so_far ++ bytes

-- After n commands from the beginning of the tape, this place is next, with this history and these replies.
abbrev pub After : List ℕ → ℕ → ℕ → History → List ℕ → Type 0
After tape zero place h replies = (place ≡ 0) × (h ≡ none) × (replies ≡ [])
After tape (suc n) place h replies = Further tape (After tape n) place h replies

-- A room that held old bytes, once these are written into it from its beginning, as far as it goes: those past them stay.
abbrev pub written : List ℕ → List ℕ → List ℕ
written old bytes = take (length old) bytes ++ drop (length bytes) old

-- All replies to a tape, by a new console: its refusal where it is too long, else the replies to its commands, from its beginning to its end.
pub record AllReplies (tape replies : List ℕ) : Type 0 where
  pub too_long : LONGEST_TAPE < length tape → replies ≡ refusal_bytes (record { fault = TapeLength; place = 0 })
  pub to_end : length tape ≤ LONGEST_TAPE → (n : ℕ) × (h : History) × After tape n (length tape) h replies

-- A tape that is too long is answered the same, whatever follows.
abbrev pub LongAlike : Type 0
LongAlike = (tape more replies : List ℕ) → LONGEST_TAPE < length tape → AllReplies tape replies → AllReplies (tape ++ more) replies

-- The rules leave no more than one row of replies to a tape.
abbrev pub OneReply : Type 0
OneReply = (tape replies others : List ℕ) → AllReplies tape replies → AllReplies tape others → replies ≡ others
