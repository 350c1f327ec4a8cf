use Rattle.std.proofs.Common.{◌≡◌, ◌∙◌, Some, None, position, ap, sym}
use Rattle.gx_locks.specs.declared.owner.Owner.{Owner}
use Rattle.gx_locks.specs.Owners.{end_of, is_owner}
use Rattle.gx_locks.proofs.Owned.{found, unfound}
use Rattle.gx_locks.proofs.index.Index.end.Goals as goal

pub returns-in-Some-clause-found : goal.returns-in-Some-clause-found
returns-in-Some-clause-found c =
    let os = c.args.self.now.owners.items in
    let i = c.in-Some.place in
    let at : position (is_owner c.args.gxid) os ≡ Some i = sym (c.in-Some.ensures ∙ ap (position (is_owner c.args.gxid)) c.as_slice.ensures.value) in
    let o = c.index.result.now in
    ap (λ (p : Owner). p.end) c.index.ensures ∙ sym (ap end_of (found os c.args.gxid i at o))

pub returns-in-None-clause-missing : goal.returns-in-None-clause-missing
returns-in-None-clause-missing c =
    let at : position (is_owner c.args.gxid) c.args.self.now.owners.items ≡ None = sym (c.in-None.ensures ∙ ap (position (is_owner c.args.gxid)) c.as_slice.ensures.value) in
    unfound c.args.self.now.owners.items c.args.gxid at
