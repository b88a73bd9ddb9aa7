use Rattle.std.proofs.Common.{◌≡◌, ◌<◌, min, ◌∙◌, arith}
use Rattle.walk.specs.declared.sheet.TheConstants.{SHEET_PLACES}
use Rattle.walk.proofs.SheetWritten.{written_more, written_all}
use Rattle.walk.proofs.trail.Trail.write.Goals as goal

pub loop-depth-preserved : goal.loop-depth-preserved
loop-depth-preserved c =
    let small : c.loop-depth.depth < SHEET_PLACES = omega arith in
    written_more c.args.self.now.table.records c.loop-depth.depth c.loop-depth.sheet small c.loop-depth.invariant

pub returns : goal.returns
returns c =
    let t = c.args.self.now in
    let end : c.loop-depth.depth ≡ min t.depth SHEET_PLACES = omega arith in
    c.loop-depth.invariant ∙ written_all t.table.records c.loop-depth.depth t.depth end
