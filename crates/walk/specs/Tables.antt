use Rattle.std.specs.Prelude.{ℕ, slice_set}
use Rattle.std.specs.Borrow.{Lends, MutBor, Fml}
use Rattle.walk.specs.declared.depth_record.DepthRecord.{DepthRecord}
use Rattle.walk.specs.declared.table.Table.{Table}
use Rattle.walk.specs.contracts.table.Table.{the_row}
use Rattle.walk.specs.contracts.depth_record.DepthRecord.{the_row as record_row}
pub use Rattle.walk.specs.Records.{blank}

-- The table with this record at this depth.
abbrev pub with_record : Table → ℕ → DepthRecord → Table
with_record t depth r = record t { records = slice_set t.records depth r }

-- The table ends with the last record that was written through r.
abbrev pub LendsRecord : MutBor Table → ℕ → MutBor DepthRecord → Fml
LendsRecord t depth r = Lends the_row record_row t r (with_record t.now depth)
