-- What a hash of a place reads.
use Rattle.std.specs.Prelude.{◌++◌}
use Rattle.std.specs.Hash as fed
use Rattle.gx_tree.specs.declared.value.Value.{Value}
use Rattle.gx_tree.specs.declared.value.Value.TheVariants.{Int, Text}
use Rattle.gx_sweep.specs.declared.table_key.TableKey.{TableKey}

abbrev pub value_writes : Value → fed.HashWrites
value_writes (Int number) = fed.i64 number
value_writes (Text text) = fed.slice fed.u8 text

-- its table, and then its value
abbrev pub place_writes : TableKey → fed.HashWrites
place_writes at = fed.u8 at.table.0 ++ value_writes at.key
