-- A coordinator apart to which more has come.
use Rattle.std.proofs.Common.{◌≡◌, ◌≤◌, ◌<◌, ℕ, ◌+◌, ◌&&◌, List, [], ◌++◌, Option, Some, true, false, sym, subst, ap, ◌∙◌, arith, append-nil, length}
use Rattle.std.specs.Prelude.{nat_le, slice_get}
use Rattle.std.specs.Option.{option_to_list}
use Rattle.std.proofs.lemmas.Bool.Decides.{nat_tests}
use Rattle.gx_lemmas.proofs.Lists.{length-set}
use Rattle.gx_ids.specs.declared.ids.Node.{Node}
use Rattle.gx_coord.specs.Steps.{IsCoord}
use Rattle.gx_coord.specs.declared.coord.Coord.{Coord as CoordNode}
use Rattle.gx_links.specs.Ends.{InEnd, OutEnd}
use Rattle.gx_msg.specs.declared.message.Envelope.{Envelope}
use Rattle.gx_outside.specs.Shelves.{Shelf}
use Rattle.gx_script.specs.declared.Script.{Script}
use Rattle.gx_agenda.specs.OwnSlots.{AreOwnSlots}
use Rattle.gx_store.specs.Groups.{AreStartsLet}
use Rattle.gx_store.specs.Refusals.{the_coordinator}
use Rattle.gx_store.specs.declared.node.NodeEvent.TheVariants.{Deliver}
use Rattle.gx_rules.specs.AtCoordinator.{coord_can}
use Rattle.gx_rules.specs.Coordinators.{Coord, new_coordinator}
use Rattle.gx_law_merge.specs.Apart.{coordinators_rule, sent_to}
use Rattle.gx_cells.specs.Acts.{HasTaken}
use Rattle.gx_cells.specs.CoordKept.{IsCoordApart, coordinator_apart, coordinator_by, post_at_coordinator}
use Rattle.gx_cells.specs.CoordReceipts.{Among, AreBlank, CoordSight, HasHeard, HasHeardFrom, inboxes_with}
use Rattle.gx_cells.specs.Kept.{IsHistory, IsToCome}
use Rattle.gx_cells.specs.declared.coord_history.CoordHistory.{CoordHistory}
use Rattle.gx_cells.specs.declared.inbox.Inbox.{Inbox}
use Rattle.gx_cells.specs.declared.looked.Looked.{Looked}
use Rattle.gx_cells.proofs.Inboxes.{each-put, inbox-there, length-put, post-more}
use Rattle.gx_cells.proofs.Longer.{history-more}

-- MORE HAS COME
put-more : (history : CoordHistory) (there : Among) (old new : Inbox) (more : List Envelope) (held : CoordNode) (shelf : Shelf) → new.source.received ≡ old.source.received ++ more → IsToCome new.source.received new.again
    → IsCoordApart history (inboxes_with there old) held shelf → (IsCoordApart history (inboxes_with there new) held shelf) × (coordinator_apart history (inboxes_with there new) ≡ coordinator_apart history (inboxes_with there old))
put-more history there old new more held shelf is last a =
    let longer = history-more (coordinators_rule history.script.value) the_coordinator new_coordinator (post_at_coordinator (inboxes_with there old)) (post_at_coordinator (inboxes_with there new)) history.first history.steps shelf
    (post-more there.inboxes there.place old new more is) a.steps in (
      record {
        of = a.of;
        usable = a.usable;
        holds = subst (IsCoord held) (sym longer.1) a.holds;
        next = subst (λ (x : Coord). x.table.next.0 ≤ x.clock + 1) (sym longer.1) a.next;
        steps = longer.0;
        outs = a.outs;
        ins = length-put there.inboxes there.place old new ∙ a.ins;
        sent = a.sent;
        again = each-put (λ x. IsToCome x.source.received x.again) there.inboxes there.place old new a.again last;
        starts = a.starts;
        slots = a.slots;
      },
      longer.1,
    )

pub hears-more : (history : CoordHistory) (there : Among) (old new : Inbox) (held : CoordNode) (shelf : Shelf) (given : Option Envelope) → HasTaken old new given
    → IsCoordApart history (inboxes_with there old) held shelf → (IsCoordApart history (inboxes_with there new) held shelf) × (coordinator_apart history (inboxes_with there new) ≡ coordinator_apart history (inboxes_with there old))
hears-more history there old new held shelf given taken a = put-more history there old new (option_to_list taken.came) held shelf taken.received (subst (IsToCome new.source.received) (sym taken.again) tt) a

-- what is to come once more is kept
pub hears-kept : (history : CoordHistory) (there : Among) (inbox inbox' : Inbox) (held : CoordNode) (shelf : Shelf) → inbox'.source ≡ inbox.source → IsToCome inbox.source.received inbox'.again
    → IsCoordApart history (inboxes_with there inbox) held shelf → IsCoordApart history (inboxes_with there inbox') held shelf
hears-kept history there inbox inbox' held shelf same last a =
    let is = ap (λ (x : InEnd). x.received) same in
    (put-more history there inbox inbox' [] held shelf (is ∙ sym (append-nil inbox.source.received)) (subst (λ es. IsToCome es inbox'.again) (sym is) last) a).0

-- WHAT IT ADMITS
pub among-all : (there : Among) (inbox : Inbox) → length there.inboxes ≡ length (inboxes_with there inbox)
among-all there inbox = sym (length-set there.inboxes there.place inbox)

-- a delivery from a segment
pub may-hear : (script : Script) (c : Coord) (from : Node) (e : Envelope) (place n : ℕ) → from.0 ≡ place + 1 → place < n → n ≡ script.segments → coord_can script c (Deliver from e) ≡ true
may-hear script c from e place n number inside count = within from.0 script.segments place n number inside count
  where
    within : (a b p n : ℕ) → a ≡ p + 1 → p < n → n ≡ b → (nat_le 1 a && nat_le a b) ≡ true
    within a b p n h i e = grind (arith, nat_tests, h, i, e)

-- HOW IT ANSWERS
pub heard-by : (script : Script) (c : Coord) (from : Node) (old new : CoordSight) (looked : Looked) (place : ℕ) (was : Inbox) → from.0 ≡ place + 1 → slice_get old.inboxes place ≡ Some was
    → HasHeard script c from old new looked (Some was) → HasHeardFrom script c from old new looked
heard-by script c from old new looked place was number at h = subst (HasHeard script c from old new looked) (sym (inbox-there old.inboxes place from.0 was number at)) h

-- AT THE BEGINNING
pub new-coord : (history : CoordHistory) (inboxes : List Inbox) (held : CoordNode) (shelf : Shelf) → held.script.value ≡ history.script.value → held.spent ≡ false → IsCoord held new_coordinator → history.steps ≡ [] → shelf.items ≡ [] → history.first ≡ shelf.faults
    → length history.outs.items ≡ history.script.value.segments → length inboxes ≡ history.script.value.segments → ((k : ℕ) (out : OutEnd) → slice_get history.outs.items k ≡ Some out → out.sent ≡ []) → AreBlank inboxes
    → AreOwnSlots history.script.value [] history.slots → IsCoordApart history inboxes held shelf
new-coord history inboxes held shelf of usable is none blank first outs ins sent blanks slots =
    record {
      of = of;
      usable = usable;
      holds = subst (IsCoord held) (sym new) is;
      next = subst (λ (x : Coord). x.table.next.0 ≤ x.clock + 1) (sym new) early;
      steps = subst (λ ss. IsHistory (coordinators_rule history.script.value) the_coordinator new_coordinator (post_at_coordinator inboxes) history.first ss shelf) (sym none)
          (record { follows = tt; items = blank; failures = least history.first shelf.faults first });
      outs = outs;
      ins = ins;
      sent = λ k out at. sent k out at ∙ sym (ap (sent_to (record { 0 = k + 1 })) none);
      again = λ k inbox at. subst (IsToCome inbox.source.received) (sym (blanks k inbox at).1) tt;
      starts = subst (AreStartsLet history.script.value) (sym none) tt;
      slots = subst (λ ss. AreOwnSlots history.script.value ss history.slots) (sym none) slots;
    }
  where
    new : coordinator_apart history inboxes ≡ new_coordinator
    new = ap (λ ss. coordinator_by history.script.value ss inboxes) none

    early : new_coordinator.table.next.0 ≤ new_coordinator.clock + 1
    early = omega arith

    least : (a b : ℕ) → a ≡ b → a + 0 ≤ b
    least a b e = omega (arith, e)
