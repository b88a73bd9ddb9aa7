use Rattle.console.proofs.Written.{filled_is}
use Rattle.console.proofs.replies.fill.Goals as goal

pub returns : goal.returns
returns c = filled_is c.args.room.now c.args.bytes.now c.copy_from_slice.new.self c.min-count.result c.min-count.ensures c.copy_from_slice.ensures.after
