use Rattle.std.proofs.Common.{List, ap, subst, sym, ◌∙◌, ◌++◌}
use Rattle.std.specs.Prelude.{IfOk}
use Rattle.gx_ids.specs.declared.ids.Gxid.{Gxid}
use Rattle.gx_locks.specs.Book.{claims_in}
use Rattle.gx_locks.specs.Locks.{AreRisen, blockers}
use Rattle.gx_locks.specs.Queue.{queue_of}
use Rattle.gx_locks.proofs.Ways.{blockers-way}
use Rattle.gx_locks.proofs.queue.blockers_of.Goals as goal

pub returns : goal.returns
returns c =
    subst
    (λ (all : List Gxid). IfOk c.risen.result (λ gxids. AreRisen gxids.items all))
    (c.in_ok-push_queue.ensures
    ∙ ap (λ (l : List Gxid). l ++ blockers (queue_of (claims_in c.args.book.now) c.args.waits.now c.args.claim.now) c.args.claim.now) c.in_ok-gxids.ensures
    ∙ sym (blockers-way (claims_in c.args.book.now) c.args.waits.now c.args.claim.now))
    c.risen.ensures
