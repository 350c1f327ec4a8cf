use Rattle.std.proofs.Common.{◌≡◌, ◌∙◌, sym, ap, subst, true}
use Rattle.std.specs.Prelude.{Some, find}
use Rattle.gx_locks.specs.Book.{claims_in}
use Rattle.gx_waits.specs.Claims.{is_free, is_of}
use Rattle.gx_locks.specs.Locks.{Locks, may_take}
use Rattle.gx_locks.proofs.Whole.{IsWhole-dropped, IsWhole-resumed, HasPlace-found, ready_is_free}
use Rattle.gx_locks.proofs.table.LockTable.resume.Goals as goal

pub invariant_of-self : goal.invariant_of-self
invariant_of-self c =
    let found : find (is_of c.args.gxid) c.self.inside.waits.items ≡ Some c.in-Some.wait = sym (c.in-Some.ensures ∙ ap (find (is_of c.args.gxid)) c.as_slice.ensures.value) in
    IsWhole-dropped c.self.inside.book c.forget.new.self c.self.inside.waits.items c.take_out.new.claims.items c.args.gxid c.in-Some.wait c.self.invariant c.take_out.ensures found c.forget.ensures.places c.forget.ensures.tidy c.forget.ensures.holds

pub hold-requires-clause-place : goal.hold-requires-clause-place
hold-requires-clause-place c =
    let found : find (is_of c.args.gxid) c.self.inside.waits.items ≡ Some c.in-Some.wait = sym (c.in-Some.ensures ∙ ap (find (is_of c.args.gxid)) c.as_slice.ensures.value) in
    HasPlace-found c.self.inside.book c.self.inside.waits.items c.args.gxid c.in-Some.wait c.self.invariant found

pub invariant_of-self-else-is_held : goal.invariant_of-self-else-is_held
invariant_of-self-else-is_held c =
    let found : find (is_of c.args.gxid) c.self.inside.waits.items ≡ Some c.in-Some.wait = sym (c.in-Some.ensures ∙ ap (find (is_of c.args.gxid)) c.as_slice.ensures.value) in
    let ready = subst (λ (locks : Locks). may_take locks c.args.gxid ≡ true) (sym c.self.view_is) c.requires in
    let free : is_free (claims_in c.self.inside.book) c.in-Some.wait ≡ true = ready_is_free (record { node = c.self.inside.node; holds = claims_in c.self.inside.book; waits = c.self.inside.waits.items }) (find (is_of c.args.gxid) c.self.inside.waits.items) c.in-Some.wait ready found in
    IsWhole-resumed c.self.inside.book c.hold.new.self c.self.inside.waits.items c.take_out.new.claims.items c.args.gxid c.in-Some.wait c.self.invariant c.take_out.ensures found c.hold.ensures.places c.hold.ensures.tidy free (sym c.is_held.ensures ∙ c.if-is_held.false) c.hold.ensures.filed c.hold.ensures.claims
