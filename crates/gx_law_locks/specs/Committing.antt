-- Who waits isn't on its way to a commit.
use Rattle.std.specs.Prelude.{◌≡◌, false, List}
use Rattle.gx_ids.specs.declared.ids.Gxid.{Gxid}
use Rattle.gx_ids.specs.declared.ids.Node.{Node}
use Rattle.gx_msg.specs.declared.message.Message.TheVariants as message
use Rattle.gx_store.specs.declared.mark.Mark.{Mark}
use Rattle.gx_store.specs.declared.mark.Mark.TheVariants.{Commit, Sent}
use Rattle.gx_store.specs.Marks.{is_aborted}
use Rattle.gx_law_locks.specs.Waiting.{is_waiting}

abbrev pub WaitsNowhere : List Mark → Gxid → Type 0
WaitsNowhere marks g = (node : Node) → is_waiting marks node g ≡ false

-- a transaction that commits waits at no node, nor does one for which PREPARE or COMMIT is sent, unless it has aborted
abbrev pub CommitsUnlessWaiting : List Mark → Mark → Type 0
CommitsUnlessWaiting before (Commit g) = WaitsNowhere before g
CommitsUnlessWaiting before (Sent to number (message.Prepare g)) = is_aborted before g ≡ false → WaitsNowhere before g
CommitsUnlessWaiting before (Sent to number (message.Commit g)) = is_aborted before g ≡ false → WaitsNowhere before g
CommitsUnlessWaiting before _ = Unit {0}
