use Rattle.std.proofs.Common.{subst, arith}
use Rattle.std.proofs.lemmas.Bool.Decides.{nat_tests}
use Rattle.gx_rows.specs.Truncated.{IsTruncated}
use Rattle.gx_rows.specs.Xids.{Xids}
use Rattle.gx_rows.proofs.XidEntries.{IsTruncated-left, IsTruncated-same, IsWhole-truncated}
use Rattle.gx_rows.proofs.map.XidMap.truncate.Goals as goal

pub invariant_of-self : goal.invariant_of-self
invariant_of-self c =
    let left = c.drop_entries.new in
    IsWhole-truncated c.self.inside.horizon c.args.horizon c.self.inside.lxids left.lxids c.self.inside.entries left.entries c.self.inside.given c.self.invariant c.drop_entries.ensures.left c.drop_entries.ensures.high (grind (arith, nat_tests, c.lt.ensures, c.if-lt.true))

pub returns-then-lt : goal.returns-then-lt
returns-then-lt c =
    let left = c.drop_entries.new in
    subst
    (λ (x : Xids). IsTruncated x c.args.horizon (record { horizon = c.args.horizon; lxids = left.lxids.entries; entries = left.entries.entries; given = c.self.inside.given }))
    c.self.view_is
    (IsTruncated-left c.self.inside.horizon c.args.horizon c.self.inside.lxids left.lxids c.self.inside.entries left.entries c.self.inside.given c.self.invariant c.drop_entries.ensures.left c.drop_entries.ensures.high (grind (arith, nat_tests, c.lt.ensures, c.if-lt.true)))

pub returns-else-lt : goal.returns-else-lt
returns-else-lt c =
    subst
    (λ (x : Xids). IsTruncated x c.args.horizon x)
    c.self.view_is
    (IsTruncated-same c.self.inside.horizon c.args.horizon c.self.inside.lxids c.self.inside.entries c.self.inside.given c.self.invariant (grind (arith, nat_tests, c.lt.ensures, c.if-lt.false)))
