use Rattle.std.proofs.Common.{None, refl}
use Rattle.gaps.specs.Kinds.{plain_estimate, sided_estimate, ring_estimate}
use Rattle.console.proofs.console.Console.new.Goals as goal

pub returns : goal.returns
returns c =
    let plain = c.empty_planner.ensures plain_estimate in
    let sided = c.empty_planner-2.ensures sided_estimate in
    let ring = c.empty_planner-3.ensures ring_estimate in
    (plain, (None, plain, refl), (None, sided, refl), (None, ring, refl))
