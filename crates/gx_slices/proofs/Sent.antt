-- What a segment holds may go to another thread.
use denote.Param.Send.{IsSend, sendable}
use Rattle.std.proofs.Crossing.{frees}
use Rattle.std.proofs.alloc.Global.TheSendSync as heap
use Rattle.std.proofs.collections.BTreeMap.TheSendSync as map
use Rattle.std.proofs.collections.BTreeSet.TheSendSync as set
use Rattle.gx_ids.proofs.ids.Gxid.TheSendSync as gxid
use Rattle.gx_locks.proofs.table.LockTable.TheSendSync as locks
use Rattle.gx_node.proofs.Sent.{local_field_send}
use Rattle.gx_slices.proofs.kept.KeptRows.TheSendSync as kept
use Rattle.gx_slices.proofs.store.LocalStore.TheSendSync as store
use Rattle.gx_slices.specs.contracts.held.Entry as Entry
use Rattle.gx_slices.specs.contracts.held.Held as Held

pub entry_field_send : IsSend Entry.the_field.row
entry_field_send = search (sendable, local_field_send, kept.the_send) depth 20

pub held_field_send : IsSend Held.the_field.row
held_field_send = search (sendable, store.the_send, map.the_send, set.the_send, locks.the_send, heap.the_field_send, heap.the_field_sync, frees, gxid.the_field_send, entry_field_send) depth 20

pub held_send : IsSend Held.the_row
held_send = search (sendable, held_field_send)
