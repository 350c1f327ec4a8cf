-- The live snapshot of a transaction.
use Rattle.std.specs.Prelude.{Option, None, Some}
use Rattle.gx_ids.specs.declared.ids.Gxid.{Gxid}
use Rattle.gx_dtx.specs.declared.txn.Txn.{Txn}

abbrev pub live_of : Option Txn → Option Gxid
live_of None = None
live_of (Some t) = t.live
