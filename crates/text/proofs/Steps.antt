use Rattle.std.proofs.Common.{◌≡◌, ℕ, ◌≤◌, false, List, length, take, vec_items, refl, inr, arith}
use Rattle.std.proofs.lemmas.List.{take_all}
use Rattle.text.specs.declared.reader.Reader.{Reader}
use Rattle.text.specs.declared.word.Word.{Word}
use Rattle.text.specs.Expected.{may_end}
use Rattle.text.specs.Lines.{Stuck, asked}
use Rattle.text.specs.Readers.{HasRead}

-- the line ends too early
pub stuck_end : (r : Reader) (words : List Word) (at : ℕ) → length words ≤ at → HasRead r (take at words) → may_end r.expected ≡ false → Stuck words (length words) r.expected
stuck_end r words at end h not' = record {
  reached = record {
    kind = r.kind;
    trays = vec_items r.trays;
    count = r.count;
    span = r.span;
    action = asked r.action;
    begun = rw (take_all (length words) words (omega arith)) (rw (take_all at words end) at h);
  };
  wrong = inr (refl, not');
}
