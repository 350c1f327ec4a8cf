use Rattle.std.proofs.Common.{◌≡◌, ◌≤◌, length}
use Rattle.std.specs.Io.KnownBytes.{Consumes}
use Rattle.gx_outside.proofs.whole.read_up_to.Given as goal

abbrev pub invariant-loop-turn : goal.invariant-loop-turn
invariant-loop-turn g l = record {
  bytes : Consumes (g.S.Source.left l.fn.source) (g.S.Source.left l.source) l.bytes.items;
  turns : l._turn ≤ length l.bytes.items;
  limit : length l.bytes.items ≤ l.limit;
  calm : g.S.Source.fault_count l.source ≡ g.S.Source.fault_count l.fn.source;
}
