use Rattle.std.specs.Prelude.{ℕ, Bool, true, false, ◌&&◌, List, ◌++◌, codes, nat_le, nat_lt}
use Rattle.std.specs.Fmt.{decimal}
use Rattle.planner.specs.declared.planner.TheConstants.{HIGHEST_GRANT_SUM}
use Rattle.search.specs.declared.limit.TheConstants.{HIGHEST_LIMIT}
use Rattle.trays.specs.declared.arrangement.TheConstants.{MOST_TRAYS}
use Rattle.trays.specs.declared.kind.Kind.{Kind}
use Rattle.trays.specs.declared.kind.Kind.TheVariants.{Plain, Sided, Ring}
use Rattle.text.specs.declared.expected.Expected.{Expected}
use Rattle.text.specs.declared.expected.Expected.TheVariants as place
use Rattle.text.specs.declared.word.Word.{Word}
use Rattle.text.specs.declared.word.Word.TheVariants.{Kind as Machine, Count, Span, Turns, Dual, Estimate, Plan, Limit, Looks, Number, Large, Away}

-- What may stand where this is expected. No line has a number above 127 after a minus sign, nor a large number below 256, so none may stand anywhere.
abbrev pub may_stand : Expected → Word → Bool
may_stand place.Kind (Machine kind) = true
may_stand place.Tray (Number n) = true
may_stand place.Tray (Away n) = nat_lt n 128
may_stand place.Tray Count = true
may_stand place.Tray Turns = true
may_stand place.Tray Dual = true
may_stand place.Tray Estimate = true
may_stand place.Tray Plan = true
may_stand place.RingTray (Number n) = true
may_stand place.RingTray (Away n) = nat_lt n 128
may_stand place.RingTray Count = true
may_stand place.RingTray Span = true
may_stand place.CountNumber (Number n) = true
may_stand place.SpanWord Span = true
may_stand place.SpanNumber (Number n) = true
may_stand place.ActionWord Turns = true
may_stand place.ActionWord Dual = true
may_stand place.ActionWord Estimate = true
may_stand place.ActionWord Plan = true
may_stand place.Turn (Number n) = true
may_stand place.LimitWord Limit = true
may_stand place.LimitWord Looks = true
may_stand place.LimitNumber (Number n) = true
may_stand place.LooksWord Looks = true
may_stand place.LooksNumber (Number n) = nat_le 1 n
may_stand place.LooksNumber (Large n) = nat_le 256 n && nat_le n HIGHEST_GRANT_SUM
may_stand e w = false

-- Whether the line may end where this is expected.
abbrev pub may_end : Expected → Bool
may_end place.Turn = true
may_end place.LimitWord = true
may_end place.LooksWord = true
may_end place.End = true
may_end e = false

-- Whether the word is a tray or a turn that may stand where this is expected. These are kept in lists, and all else needs no memory.
abbrev pub is_listed : Expected → Word → Bool
is_listed place.Tray (Number n) = true
is_listed place.Tray (Away n) = nat_lt n 128
is_listed place.RingTray (Number n) = true
is_listed place.RingTray (Away n) = nat_lt n 128
is_listed place.Turn (Number n) = true
is_listed e w = false

-- What is expected after the kind.
abbrev pub after_kind : Kind → Expected
after_kind Plain = place.Tray
after_kind Sided = place.Tray
after_kind Ring = place.RingTray

-- What is expected after the count.
abbrev pub after_count : Kind → Expected
after_count Plain = place.ActionWord
after_count Sided = place.ActionWord
after_count Ring = place.SpanWord

-- How what is expected is told.
abbrev pub expected_text : Expected → List ℕ
expected_text place.Kind = codes "`plain`, `sided` or `ring`"
expected_text place.Tray = codes "a tray (as 3, or -3 in a sided tower), `count`, `turns`, `dual`, `estimate` or `plan`"
expected_text place.RingTray = codes "a tray (as 3), `count` or `span`"
expected_text place.CountNumber = codes "the number of trays, from 1 to " ++ decimal MOST_TRAYS
expected_text place.SpanWord = codes "`span`"
expected_text place.SpanNumber = codes "the span, from 2 to the number of trays"
expected_text place.ActionWord = codes "`turns`, `dual`, `estimate` or `plan`"
expected_text place.Turn = codes "a turn number or the end of the line"
expected_text place.LimitWord = codes "`limit`, `looks` or the end of the line"
expected_text place.LimitNumber = codes "the limit, from 0 to " ++ decimal HIGHEST_LIMIT
expected_text place.LooksWord = codes "`looks` or the end of the line"
expected_text place.LooksNumber = codes "the number of looks, from 1 to " ++ decimal HIGHEST_GRANT_SUM
expected_text place.End = codes "the end of the line"
