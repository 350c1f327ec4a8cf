use Rattle.std.proofs.Common.{◌≡◌, Ok, arith}
use Rattle.gx_sql.specs.Groups.{with_members}
use Rattle.gx_sql.specs.Held.{named}
use Rattle.gx_sql.proofs.Members.{all-right, never-faulty, wrong-one}
use Rattle.gx_sql.proofs.groups.add_members.Goals as goal

pub returns-then-free-names-clause-said : goal.returns-then-free-names-clause-said
returns-then-free-names-clause-said c =
    let free = c.in_ok-free.ensures in
    let less = c.if-free-names.true in
    wrong-one c.args.place (named c.args.members.now.entries) c.args.names.now (omega (arith, free, less))

pub returns-clause-kept : goal.returns-clause-kept
returns-clause-kept c =
    let free = c.in_ok-free.ensures in
    let all = c.if-free-names.false in
    never-faulty c.join_members.result (named c.join_members.new.members.entries) (with_members c.args.place c.args.names.now (Ok (named c.args.members.now.entries))) (c.join_members.new.members ≡ c.args.members.now) c.join_members.ensures
    (all-right c.args.place (named c.args.members.now.entries) c.args.names.now (omega (arith, free, all)))
