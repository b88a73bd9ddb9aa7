use Rattle.std.proofs.Common.{refl}
use Rattle.text.proofs.ReadSoFar.{tray_more}
use Rattle.text.proofs.reader.Reader.take.Goals as goal

pub returns-in_ok-push-in-Tray-clause-ok : goal.returns-in_ok-push-in-Tray-clause-ok
returns-in_ok-push-in-Tray-clause-ok c ws = tray_more _ _ _ _ _ _ ws _ _ _ c.in-Tray.is refl c.in_ok-push-in-Tray.ensures.items
