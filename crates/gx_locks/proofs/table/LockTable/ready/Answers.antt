use Rattle.std.proofs.Common.{◌≡◌, ◌∙◌, ap, subst, sym, true}
use Rattle.std.specs.Prelude.{None, Option, IfSome, List, map, filter}
use Rattle.gx_ids.specs.declared.ids.Gxid.{Gxid}
use Rattle.gx_waits.specs.declared.claim.Claim.{Claim}
use Rattle.gx_locks.specs.Book.{claims_in}
use Rattle.gx_locks.specs.Locks.{IsLeast, Locks, least_with, may_take, ready_ones}
use Rattle.gx_waits.specs.Claims.{is_clear}
use Rattle.gx_locks.proofs.Least.{IsLeast-least_with}
use Rattle.gx_locks.proofs.Ready.{is_ready-least}
use Rattle.gx_locks.proofs.table.LockTable.ready.Goals as goal

least : (c : goal.After-least_ready) → IsLeast c.least_ready.result (map (λ wait. wait.gxid) (filter (is_clear (claims_in c.self.inside.book) c.self.inside.waits.items) c.self.inside.waits.items))
least c =
    let value = c.least_ready.ensures ∙ ap (λ (waits : List Claim). least_with None (map (λ wait. wait.gxid) (filter (is_clear (claims_in c.self.inside.book) waits) waits))) c.as_slice.ensures.value in
    subst (λ (o : Option Gxid). IsLeast o (map (λ wait. wait.gxid) (filter (is_clear (claims_in c.self.inside.book) c.self.inside.waits.items) c.self.inside.waits.items))) (sym value) (IsLeast-least_with (map (λ wait. wait.gxid) (filter (is_clear (claims_in c.self.inside.book) c.self.inside.waits.items) c.self.inside.waits.items)))

pub returns-clause-least : goal.returns-clause-least
returns-clause-least c = subst (λ (locks : Locks). IsLeast c.least_ready.result (ready_ones locks)) c.self.view_is (least c)

pub returns-clause-ready : goal.returns-clause-ready
returns-clause-ready c =
    subst (λ (locks : Locks). IfSome c.least_ready.result (λ g. may_take locks g ≡ true)) c.self.view_is (is_ready-least (record { node = c.self.inside.node; holds = claims_in c.self.inside.book; waits = c.self.inside.waits.items }) c.self.inside.waits.items c.least_ready.result c.self.invariant.once (least c))
