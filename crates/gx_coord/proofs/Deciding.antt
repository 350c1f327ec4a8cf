-- Which item an answer may leave in the coordinator's journal.
use Rattle.std.proofs.Common.{◌≡◌, ◌∙◌, Bool, true, false, if◌then◌else◌, None, Some, Result, Ok, Err, IfOk, OnErr, append-nil, inl, inr, refl, subst, sym}
use Rattle.gx_ids.specs.declared.ids.Gxid.{Gxid}
use Rattle.gx_msg.specs.declared.item.JournalItem.TheVariants as item
use Rattle.gx_dtx.specs.Deciding.{HasDecided}
use Rattle.gx_dtx.specs.declared.outcome.DtxOut.{DtxOut}
use Rattle.gx_dtx.specs.declared.outcome.Outcome.{Outcome}
use Rattle.gx_dtx.specs.declared.outcome.Outcome.TheVariants as outcome
use Rattle.gx_outside.specs.Shelves.{Shelf, HasKept}
use Rattle.gx_node.specs.Orders.{IsLaterBy}
use Rattle.gx_node.proofs.Later.{later-kept, later-same}

module _ {before after : Shelf} (g : Gxid) where
  by-outcome : (o : Outcome) → HasDecided before after g true o → IsLaterBy before after (Some (item.Decide g))
  by-outcome outcome.Decided h = record { later = h.later; which = inr h.items }
  by-outcome outcome.Pending h = record { later = h.later; which = inl (h.items ∙ append-nil before.items) }
  by-outcome outcome.Committed h = record { later = h.later; which = inl (h.items ∙ append-nil before.items) }
  by-outcome (outcome.Refused i) h = record { later = h.later; which = inl (h.items ∙ append-nil before.items) }
  by-outcome outcome.Ended h = record { later = h.later; which = inl (h.items ∙ append-nil before.items) }

  -- an answer that doesn't decide leaves the journal alone
  pub later-decided : {E : Type 0} (result : Result DtxOut E) (decides : Bool) → IfOk result (λ out. HasDecided before after g decides out.outcome) → (decides ≡ false → after ≡ before) → OnErr result (HasKept before after)
      → IsLaterBy before after (if decides then Some (item.Decide g) else None)
  later-decided result false done same kept = subst (λ (now : Shelf). IsLaterBy before now None) (sym (same refl)) (later-same before None)
  later-decided (Ok out) true done same kept = by-outcome out.outcome done
  later-decided (Err e) true done same kept = later-kept (Some (item.Decide g)) kept
