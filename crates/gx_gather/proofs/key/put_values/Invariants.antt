use Rattle.std.proofs.Common.{◌≡◌, take}
use Rattle.gx_meaning.specs.Groups.{key_of}
use Rattle.gx_gather.proofs.key.put_values.Given as goal

abbrev pub invariant-loop-column : goal.invariant-loop-column
invariant-loop-column l = l.values.items ≡ key_of (take l.column-index l.group) l.row
