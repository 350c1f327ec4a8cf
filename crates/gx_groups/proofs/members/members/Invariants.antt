use Rattle.std.proofs.Common.{◌≡◌, ◌++◌, drop}
use Rattle.gx_groups.specs.Table.{members_of}
use Rattle.gx_groups.proofs.members.members.Given as goal

abbrev pub invariant-loop-session : goal.invariant-loop-session
invariant-loop-session l = l.members.items ++ members_of l.place l.session (drop l.session l.of) ≡ members_of l.place 0 l.of
