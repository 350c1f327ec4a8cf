use Rattle.std.proofs.Common.{◌≡◌, ◌≤◌, ◌+◌, drop}
use Rattle.gx_explain.specs.Windows.{chars}
use Rattle.gx_explain.proofs.windows.chars.Given as goal

abbrev pub invariant-loop-byte : goal.invariant-loop-byte
invariant-loop-byte l = record {
  few : l.count ≤ l.byte-index;
  rest : l.count + chars (drop l.byte-index l.bytes) ≡ chars l.bytes;
}
