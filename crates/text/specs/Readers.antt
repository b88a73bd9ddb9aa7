use Rattle.std.specs.Prelude.{◌≡◌, ℕ, List, [], ◌∷◌, ◌++◌, vec_items, IsTrue, IsFalse}
use Rattle.text.specs.declared.reader.Reader.{Reader}
use Rattle.text.specs.declared.misread.Misread.{Misread}
use Rattle.text.specs.declared.misread.Misread.TheVariants.{Unexpected, NoMemory}
use Rattle.text.specs.declared.request.Request.{Request}
use Rattle.text.specs.declared.word.Word.{Word}
use Rattle.text.specs.Expected.{is_listed, may_end, may_stand}
use Rattle.text.specs.Lines.{Begun, Written, asked}

-- The reader has read these words.
abbrev pub HasRead : Reader → List Word → Type 0
HasRead r ws = Begun r.expected r.kind (vec_items r.trays) r.count r.span (asked r.action) ws

-- The reader has read one word more.
abbrev pub Stepped : Reader → Word → Reader → Type 0
Stepped before w after = (ws : List Word) → HasRead before ws → HasRead after (ws ++ w ∷ [])

-- The word may not stand at this index, where the reader has come to, and nothing has changed; or there was no memory to keep it.
abbrev pub Refuses : Reader → ℕ → Word → Reader → Misread → Type 0
Refuses before at w after (Unexpected i expected) = (i ≡ at) × (expected ≡ before.expected) × IsFalse (may_stand expected w) × (after ≡ before)
Refuses before at w after NoMemory = IsTrue (is_listed before.expected w)

-- The reader has read these words, and the line may end after them.
abbrev pub IsRead : List Word → Reader → Type 0
IsRead ws r = HasRead r ws × IsTrue (may_end r.expected)

-- These words ask this.
abbrev pub Asks : List Word → Request → Type 0
Asks ws q = Written ws q.kind (vec_items q.trays) q.count q.span (asked q.action)
