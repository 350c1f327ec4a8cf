use Rattle.std.proofs.Common.{List, ap, sym, ◌∙◌, ◌++◌, ◌∷◌, [], ◌+◌, drop}
use Rattle.std.proofs.lemmas.List.{append_assoc}
use Rattle.gx_ids.specs.declared.ids.Gxid.{Gxid}
use Rattle.gx_locks.specs.Book.{claims_in}
use Rattle.gx_locks.specs.Locks.{blockers}
use Rattle.gx_locks.specs.Queue.{queue_of}
use Rattle.gx_locks.proofs.Ways.{blockers-step}
use Rattle.gx_locks.proofs.queue.push_queue.Goals as goal
use Rattle.gx_locks.proofs.queue.push_queue.Goals.{then-holds_up+in_ok-push, else-holds_up}

pub loop-wait-preserved : goal.loop-wait-preserved
loop-wait-preserved c =
    let i = c.loop-wait.wait-index in
    let rest : List Gxid = blockers (queue_of (claims_in c.args.book.now) (drop (i + 1) c.args.waits.now) c.args.claim.now) c.args.claim.now in
    let old : List Gxid = c.loop-wait.gxids.items in
    elim c.if-holds_up.branch [
      | then-holds_up+in_ok-push w ↦
          ap (λ (l : List Gxid). l ++ rest) (ap (λ v. v.items) w.gxids-is ∙ w.in_ok-push.ensures.items)
          ∙ append_assoc old (_ ∷ []) rest
          ∙ ap (λ (l : List Gxid). old ++ l) (sym (blockers-step (claims_in c.args.book.now) c.args.waits.now c.args.claim.now i _ c.loop-wait-test.true (sym c.if-is_same_claim.ensures) _ (sym w.if-holds_up.ensures)))
          ∙ c.loop-wait.invariant
      | else-holds_up w ↦
          ap (λ (l : List Gxid). l ++ rest) (ap (λ v. v.items) w.gxids-is)
          ∙ ap (λ (l : List Gxid). old ++ l) (sym (blockers-step (claims_in c.args.book.now) c.args.waits.now c.args.claim.now i _ c.loop-wait-test.true (sym c.if-is_same_claim.ensures) _ (sym w.if-holds_up.ensures)))
          ∙ c.loop-wait.invariant
    ]
