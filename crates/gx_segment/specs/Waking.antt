-- A segment where what a transaction has waited for is granted, and its slice waits no more.
use Rattle.std.specs.Prelude.{None}
use Rattle.gx_ids.specs.declared.ids.Gxid.{Gxid}
use Rattle.gx_locks.specs.Locks.{wait_of}
use Rattle.gx_node.specs.Locking.{granted_locks}
use Rattle.gx_rules.specs.Segments.{Seg, local_of, with_local}

abbrev pub awakened : Seg → Gxid → Seg
awakened s g = record (with_local s g (record (local_of s g) { suspended = None })) { locks = granted_locks s.locks g (wait_of s.locks g) }
