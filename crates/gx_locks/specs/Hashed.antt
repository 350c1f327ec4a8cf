-- What a hash of a key reads.
use Rattle.std.specs.Prelude.{◌++◌}
use Rattle.std.specs.Hash as fed
use Rattle.gx_locks.specs.declared.key.Key.{Key}
use Rattle.gx_locks.specs.declared.key.Key.TheVariants.{On, Of}
use Rattle.gx_waits.specs.declared.object.Object.TheVariants.{Relation, Tuple, Transaction}

abbrev pub key_writes : Key → fed.HashWrites
key_writes (On (Relation table)) = fed.u8 table.0
key_writes (On (Tuple rid)) = fed.u64 rid.gxid.0 ++ fed.u32 rid.cid.0 ++ fed.u32 rid.ordinal
key_writes (On (Transaction gxid)) = fed.u64 gxid.0
key_writes (Of gxid) = fed.u64 gxid.0
