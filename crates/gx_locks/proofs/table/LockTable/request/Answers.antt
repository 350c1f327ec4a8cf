use Rattle.std.proofs.Common.{◌≡◌, ◌∙◌, ◌++◌, ◌∷◌, [], List, Bool, true, false, sym, ap, subst, cond}
use Rattle.std.specs.List.{list_any}
use Rattle.gx_waits.specs.declared.claim.Claim.{Claim}
use Rattle.gx_waits.specs.Claim.{ahead, same_claim}
use Rattle.gx_waits.specs.Claims.{is_clear, is_free, with_claim}
use Rattle.gx_locks.specs.Book.{claims_in}
use Rattle.gx_locks.specs.Locks.{Locks}
use Rattle.gx_locks.specs.Queue.{holds_up}
use Rattle.gx_locks.proofs.Ways.{clear-from, held-clear, unclear-met, unclear-up}
use Rattle.gx_locks.proofs.Whole.{IsWhole-added, free_is, not_false}
use Rattle.gx_locks.proofs.table.LockTable.request.Goals as goal
use Rattle.gx_locks.proofs.table.LockTable.request.Goals.{then-not-standing-via-then-not-standing, then-not-standing-via-else-not-standing+then-is_behind}

pub returns-then-standing-clause-ok : goal.returns-then-standing-clause-ok
returns-then-standing-clause-ok c =
    let claim : Claim = record { gxid = c.args.gxid; object = c.args.object; mode = c.args.mode } in
    let holds : List Claim = claims_in c.self.inside.book in
    let waits : List Claim = c.self.inside.waits.items in
    let held : list_any (same_claim claim) holds ≡ true = sym c.standing-standing.ensures.held ∙ c.if-standing.true in
    subst (λ (locks : Locks). (is_clear locks.holds locks.waits claim ≡ true) × (locks ≡ record locks { holds = with_claim claim locks.holds })) c.self.view_is (
      held-clear holds waits claim c.self.invariant.exclusive held,
      ap (λ (b : Bool). let l : Locks = record { node = c.self.inside.node; holds = cond b holds (holds ++ claim ∷ []); waits = waits } in l) (sym held),
    )

pub wait-requires-clause-met : goal.wait-requires-clause-met
wait-requires-clause-met c =
    let claim : Claim = record { gxid = c.args.gxid; object = c.args.object; mode = c.args.mode } in
    elim c.then-not-standing.branch [
      | then-not-standing-via-then-not-standing w ↦
          subst (λ (locks : Locks). is_clear locks.holds locks.waits claim ≡ false) c.self.view_is
          (unclear-met (claims_in c.self.inside.book) c.self.inside.waits.items claim (sym c.standing-standing.ensures.free ∙ free_is c.standing-standing.result.is_free w.if-not-standing.true))
      | then-not-standing-via-else-not-standing+then-is_behind w ↦
          unclear-up c.args.self.now.holds c.args.self.now.waits claim (sym w.if-is_behind.ensures)
    ]

pub invariant_of-self-2 : goal.invariant_of-self-2
invariant_of-self-2 c =
    let claim : Claim = record { gxid = c.args.gxid; object = c.args.object; mode = c.args.mode } in
    let e = c.in_ok-add.ensures in
    IsWhole-added c.self.inside.book c.add.new.self c.self.inside.waits.items claim c.self.invariant (sym c.standing-standing.ensures.free ∙ not_false c.standing-standing.result.is_free c.if-not-standing.false) (sym c.standing-standing.ensures.held ∙ c.if-standing.false) e.filed e.ok e.places e.tidy

pub returns-clause-ok : goal.returns-clause-ok
returns-clause-ok c =
    let claim : Claim = record { gxid = c.args.gxid; object = c.args.object; mode = c.args.mode } in
    let holds : List Claim = claims_in c.self.inside.book in
    let waits : List Claim = c.self.inside.waits.items in
    let unheld : list_any (same_claim claim) holds ≡ false = sym c.standing-standing.ensures.held ∙ c.if-standing.false in
    let free : is_free holds claim ≡ true = sym c.standing-standing.ensures.free ∙ not_false c.standing-standing.result.is_free c.if-not-standing.false in
    let none : list_any (holds_up holds claim) (ahead claim waits) ≡ false = subst (λ (locks : Locks). list_any (holds_up locks.holds claim) (ahead claim locks.waits) ≡ false) (sym c.self.view_is) (sym c.if-is_behind.ensures) in (
      subst (λ (locks : Locks). is_clear locks.holds locks.waits claim ≡ true) c.self.view_is (clear-from holds waits claim free none),
      subst (λ (locks : Locks). (let l : Locks = record { node = c.self.inside.node; holds = claims_in c.add.new.self; waits = waits } in l) ≡ record locks { holds = with_claim claim locks.holds }) c.self.view_is
          (ap (λ (hs : List Claim). let l : Locks = record { node = c.self.inside.node; holds = hs; waits = waits } in l) (c.in_ok-add.ensures.ok ∙ sym (ap (λ (b : Bool). cond b holds (holds ++ claim ∷ [])) unheld))),
    )
