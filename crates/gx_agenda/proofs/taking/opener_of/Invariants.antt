use Rattle.std.specs.Prelude.{◌≡◌, drop}
use Rattle.gx_store.specs.Groups.{opener}
use Rattle.gx_agenda.proofs.taking.opener_of.Given as goal

abbrev pub invariant-loop-opened : goal.invariant-loop-opened
invariant-loop-opened l = opener (drop l.opened-index l.begun) l.gxid ≡ opener l.begun l.gxid
