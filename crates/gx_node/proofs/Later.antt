-- Which item a journal may have more, from what an append came to.
use Rattle.std.proofs.Common.{◌≡◌, ◌∙◌, Bool, true, false, Option, Result, Ok, Err, IfOk, OnErr, append-nil, arith, inl, inr, refl, subst}
use Rattle.gx_msg.specs.declared.item.JournalItem.{JournalItem}
use Rattle.gx_outside.specs.Shelves.{Shelf, HasKept}
use Rattle.gx_node.specs.Orders.{IsLaterBy, Took}

pub later-same : (shelf : Shelf) (it : Option JournalItem) → IsLaterBy shelf shelf it
later-same shelf it = record { later = record { faults = omega arith; items = inl refl }; which = inl refl }

module _ {before after : Shelf} where
  pub later-kept : (it : Option JournalItem) → HasKept before after → IsLaterBy before after it
  later-kept it h = record { later = h.later; which = inl h.items }

  -- by what the rule says for either end of the append
  pub later-took : (item : Bool → Option JournalItem) (fails : Bool) → Took before after fails (item fails) → IsLaterBy before after (item false)
  later-took item true h = record { later = h.later; which = inl (h.items ∙ append-nil before.items) }
  later-took item false h = record { later = h.later; which = inr h.items }

  -- the same where it may have ended in want of memory
  pub later-either : {A E : Type 0} (result : Result A E) (fails : A → Bool) (item : Bool → Option JournalItem) → IfOk result (λ x. Took before after (fails x) (item (fails x))) → OnErr result (HasKept before after)
      → IsLaterBy before after (item false)
  later-either (Ok x) fails item took kept = later-took item (fails x) took
  later-either (Err e) fails item took kept = later-kept (item false) kept

  pub later-alike : {A : Type 0} (item : A → Option JournalItem) {x y : A} → x ≡ y → IsLaterBy before after (item x) → IsLaterBy before after (item y)
  later-alike item same later = subst (λ z. IsLaterBy before after (item z)) same later
