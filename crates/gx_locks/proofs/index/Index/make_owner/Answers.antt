use Rattle.std.proofs.Common.{◌∙◌, position, is_some, ap, sym}
use Rattle.gx_locks.specs.Owners.{is_owner}
use Rattle.gx_locks.proofs.Owned.{found, no_owner, unfound}
use Rattle.gx_locks.proofs.index.Index.make_owner.Goals as goal

pub returns-in-Some-clause-there : goal.returns-in-Some-clause-there
returns-in-Some-clause-there c =
    let g = c.args.gxid in
    ap is_some (found c.args.self.now.owners.items g _ (sym (c.in-Some.ensures ∙ ap (position (is_owner g)) c.as_slice.ensures.value)) (no_owner g))

pub start_owner-requires : goal.start_owner-requires
start_owner-requires c = unfound c.args.self.now.owners.items c.args.gxid (sym (c.in-None.ensures ∙ ap (position (is_owner c.args.gxid)) c.as_slice.ensures.value))
