use Rattle.std.proofs.Common.{◌≡◌, ◌∙◌, Some, None, position, slice_set, ap, sym, refl}
use Rattle.gx_locks.specs.declared.owner.Owner.{Owner}
use Rattle.gx_locks.specs.Owners.{holds_of, is_owner}
use Rattle.gx_locks.proofs.Owned.{found, unfound}
use Rattle.gx_locks.proofs.Written.{written_holds}
use Rattle.gx_locks.proofs.index.Index.holds_mut.Goals as goal

pub returns-in-Some : goal.returns-in-Some
returns-in-Some c =
    let os = c.args.self.now.owners.items in
    let i = c.in-Some.place in
    let at : position (is_owner c.args.gxid) os ≡ Some i = sym (c.in-Some.ensures ∙ ap (position (is_owner c.args.gxid)) c.as_slice.ensures.value) in
    let o = c.index_mut-owner.result.now in
    let value = c.index_mut-owner.ensures.value in (
      (refl, λ w. written_holds c.args.gxid c.args.self.now _ i o w at refl refl (ap (λ (p : Owner). slice_set os i (record p { holds = w })) value), refl),
      record { follows = tt; found = ap (λ (p : Owner). p.holds) value ∙ sym (ap holds_of (found os c.args.gxid i at o)); missing = tt },
    )

pub returns-in-None : goal.returns-in-None
returns-in-None c =
    let at : position (is_owner c.args.gxid) c.args.self.now.owners.items ≡ None = sym (c.in-None.ensures ∙ ap (position (is_owner c.args.gxid)) c.as_slice.ensures.value) in
    ((refl, λ w. tt, refl), record { follows = tt; found = tt; missing = unfound c.args.self.now.owners.items c.args.gxid at })
