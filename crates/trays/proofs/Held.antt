use Rattle.std.proofs.Common.{◌≡◌, length, take, arith}
use Rattle.std.proofs.lemmas.List.{length-take-le}
use Rattle.trays.specs.declared.arrangement.Arrangement.{Arrangement}
use Rattle.trays.specs.declared.tray.Tray.{Ghosts}
use Rattle.trays.proofs.Permutations.{from_test}

-- an arrangement of n trays holds n
pub held_long : {A : Type 0} {b : Ghosts A} (a : Arrangement A b) → length (take a.n a.trays) ≡ a.n
held_long {b = b} a = let most = a.most in let long = (from_test b.form b.regular a.n a.trays a.each_once).long in length-take-le a.n a.trays (omega arith)
