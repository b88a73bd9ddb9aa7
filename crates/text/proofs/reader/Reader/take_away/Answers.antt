use Rattle.std.proofs.Common.{refl}
use Rattle.text.proofs.ReadSoFar.{away_below, away_place, tray_more}
use Rattle.text.proofs.reader.Reader.take_away.Goals as goal

pub returns : goal.returns
returns c ws = tray_more _ _ _ _ _ _ ws _ _ _ (away_place _ _ c.requires) (away_below _ _ c.requires, refl) c.in_ok-push.ensures.items
