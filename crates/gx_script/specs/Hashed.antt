-- What a hash of a link's fault reads.
use Rattle.std.specs.Prelude.{◌++◌}
use Rattle.std.specs.Hash as fed
use Rattle.gx_script.specs.declared.LinkFault.{LinkFault}

abbrev pub fault_writes : LinkFault → fed.HashWrites
fault_writes fault = fed.bool fault.to_segment ++ fed.u8 fault.segment.0 ++ fed.u64 fault.number ++ fed.bool fault.repeat
