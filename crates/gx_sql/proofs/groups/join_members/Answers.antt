use Rattle.std.proofs.Common.{ℕ, List, Err, Ok, subst}
use Rattle.gx_sql.specs.Groups.{with_member, with_members}
use Rattle.gx_sql.specs.Held.{Ends, named}
use Rattle.gx_sql.proofs.Members.{member-ends}
use Rattle.gx_sql.proofs.groups.join_members.Goals as goal

pub returns-in-Err : goal.returns-in-Err
returns-in-Err c =
    member-ends c.args.place c.loop-name.name-index c.args.names.now c.name-item.result (named c.loop-name.members.entries) (with_members c.args.place c.args.names.now (Ok (named c.args.members.now.entries)))
    c.in-Err.error (named c.add_member.new.members.entries) c.loop-name-test.true c.name-item.is c.loop-name.invariant
    (subst (λ (name : List ℕ). Ends (Err c.in-Err.error) (named c.add_member.new.members.entries) (with_member c.args.place name (named c.loop-name.members.entries))) c.as_slice.ensures c.in-Err.ensures)
