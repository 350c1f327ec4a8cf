-- A step: the event's turn, and behind it its victims'.
use Rattle.std.proofs.Common.{◌≡◌, ◌≤◌, ◌∙◌, ℕ, List, [], ◌++◌, Bool, true, false, None, sym, subst, ap, length, slice_index}
use Rattle.gx_ids.specs.declared.ids.Gxid.{Gxid}
use Rattle.gx_msg.specs.declared.message.Out.{Out}
use Rattle.gx_node.specs.Orders.{IsLaterBy, Took}
use Rattle.gx_outside.specs.Shelves.{Shelf}
use Rattle.gx_script.specs.declared.Script.{Script}
use Rattle.gx_store.specs.declared.mark.Mark.{Mark}
use Rattle.gx_store.specs.declared.node.NodeEvent.{NodeEvent}
use Rattle.gx_rules.specs.AtCoordinator.{and_cancels_all, coord_can, coord_rule, coord_sends, coord_turn, on_event}
use Rattle.gx_rules.specs.Coordinators as rule
use Rattle.gx_rules.specs.Rounds.{victims_at}
use Rattle.gx_rules.specs.Sending.{clock_after, counted_all, numbered}
use Rattle.gx_coord.specs.Books.{IsFramed, coord_of}
use Rattle.gx_coord.specs.Sound.{IsSmall, IsSound}
use Rattle.gx_coord.specs.Steps.{HasStayed}
use Rattle.gx_coord.specs.Turns.{IsTurn, so_far, untold}
use Rattle.gx_coord.specs.declared.coord.Coord.{Coord}
use Rattle.gx_coord.proofs.Cancelled.{item-stays, without-item, without-outs}
use Rattle.gx_coord.proofs.Stays.{sent-sound, turn-sound}
use Rattle.gx_coord.proofs.Turned.{script-same}

pub step-is : (old mid new : Coord) (p : Script) (x : NodeEvent) (fails : Bool) (clock : ℕ) (before marks after : List Mark) (more : List Out) (victims : List Gxid)
    → p ≡ old.script.value → before ≡ [] → clock ≡ clock_after old.clock x
    → IsTurn old mid before marks (on_event p (coord_of old) x fails) → more ≡ (on_event p (coord_of old) x fails).outs → victims ≡ victims_at (coord_of old) x
    → so_far (coord_of new) after [] ≡ untold (and_cancels_all victims (coord_sends clock (so_far (coord_of mid) marks more)))
    → so_far (coord_of new) after [] ≡ record (coord_rule old.script.value (coord_of old) x fails) { outs = []; item = None }
step-is old mid new p x fails clock before marks after more victims same none now turn is named e =
    e
    ∙ ap (λ gs. untold (and_cancels_all gs (coord_sends clock (so_far (coord_of mid) marks more)))) named
    ∙ ap (λ k. all (coord_sends k (so_far (coord_of mid) marks more))) now
    ∙ ap (λ c. all (coord_sends at (so_far c marks more))) turn.coord
    ∙ ap (λ ms. all (coord_sends at (so_far u.coord ms more))) (turn.marks ∙ ap (λ ms. ms ++ u.marks) none)
    ∙ ap (λ os. all (coord_sends at (so_far u.coord u.marks os))) is
    ∙ ap untold (without-item (victims_at (coord_of old) x) (coord_turn p (coord_of old) x fails))
    ∙ ap (λ (s : Script). record (coord_rule s (coord_of old) x fails) { outs = []; item = None }) same
  where
    u : rule.CoordTurn
    u = on_event p (coord_of old) x fails

    at : ℕ
    at = clock_after old.clock x

    all : rule.CoordTurn → rule.CoordTurn
    all turn = untold (and_cancels_all (victims_at (coord_of old) x) turn)

-- the victims' turns leave the journal alone
pub took-is : (k : Coord) (p : Script) (x : NodeEvent) (fails : Bool) {before after : Shelf} → p ≡ k.script.value → Took before after fails (on_event p (coord_of k) x fails).item → Took before after fails (coord_rule k.script.value (coord_of k) x fails).item
took-is k p x fails {before = before} {after = after} same took =
    subst (λ item. Took before after fails item) (sym (item-stays (victims_at (coord_of k) x) (coord_turn k.script.value (coord_of k) x fails)))
    (subst (λ (s : Script). Took before after fails (on_event s (coord_of k) x fails).item) same took)

pub framed-stayed : (old mid : Coord) → IsFramed old mid → HasStayed old mid
framed-stayed old mid f = record { script = f.script; places = f.places; count = f.count; links = ap (λ v. length v.items) f.sent; segments = f.segments }

-- what the event leaves is sound
pub turned-sound : (old mid : Coord) (p : Script) (x : NodeEvent) (fails : Bool) (before marks : List Mark) → p ≡ old.script.value → IsTurn old mid before marks (on_event p (coord_of old) x fails)
    → 1 ≤ old.script.value.segments → IsSound old.script.value (coord_of old) → IsSmall x → coord_can old.script.value (coord_of old) x ≡ true → IsSound mid.script.value (coord_of mid)
turned-sound old mid p x fails before marks same turn some h small ok =
    subst (λ (s : Script). IsSound s (coord_of mid)) (sym (script-same old mid turn.framed))
    (subst (λ (c : rule.Coord). IsSound old.script.value c) (sym (turn.coord ∙ ap (λ (s : Script). (on_event s (coord_of old) x fails).coord) same))
    (turn-sound old.script.value (coord_of old) some h x fails small ok))

-- what is sent keeps it so
pub sent-on : (old mid : Coord) (clock : ℕ) (outs : List Out) → HasStayed old mid → coord_of mid ≡ record (coord_of old) { sent = counted_all (slice_index old.sent.items) outs; clock = clock } → IsSound old.script.value (coord_of old) → IsSound mid.script.value (coord_of mid)
sent-on old mid clock outs stayed e h =
    subst (λ (s : Script). IsSound s (coord_of mid)) (sym (ap (λ a. a.value) stayed.script))
    (subst (λ (c : rule.Coord). IsSound old.script.value c) (sym e) (sent-sound old.script.value (so_far (coord_of old) [] outs) clock h))

-- messages are sent, and then the victims' turns come
pub finish-is : (old mid new : Coord) (clock : ℕ) (marks sent after told : List Mark) (items more : List Out) (gs victims : List Gxid)
    → items ≡ more → gs ≡ victims → told ≡ after
    → coord_of mid ≡ record (coord_of old) { sent = counted_all (slice_index old.sent.items) items; clock = clock }
    → sent ≡ marks ++ numbered (slice_index old.sent.items) items
    → so_far (coord_of new) after [] ≡ untold (and_cancels_all gs (so_far (coord_of mid) sent []))
    → so_far (coord_of new) told [] ≡ untold (and_cancels_all victims (coord_sends clock (so_far (coord_of old) marks more)))
finish-is old mid new clock marks sent after told items more gs victims v g m c n e =
    ap (λ ms. so_far (coord_of new) ms []) m
    ∙ e
    ∙ ap (λ (xs : List Gxid). untold (and_cancels_all xs (so_far (coord_of mid) sent []))) g
    ∙ ap (λ k. untold (and_cancels_all victims (so_far k sent []))) (c ∙ ap (λ os. record (coord_of old) { sent = counted_all (slice_index old.sent.items) os; clock = clock }) v)
    ∙ ap (λ ms. untold (and_cancels_all victims (so_far mid_coord ms []))) (n ∙ ap (λ os. marks ++ numbered (slice_index old.sent.items) os) v)
    ∙ without-outs victims (coord_sends clock (so_far (coord_of old) marks more)) []
  where
    mid_coord : rule.Coord
    mid_coord = record (coord_of old) { sent = counted_all (slice_index old.sent.items) more; clock = clock }

pub later-is : (k : Coord) (p : Script) (x : NodeEvent) {before after : Shelf} → p ≡ k.script.value → IsLaterBy before after (on_event p (coord_of k) x false).item → IsLaterBy before after (coord_rule k.script.value (coord_of k) x false).item
later-is k p x {before = before} {after = after} same later =
    subst (λ item. IsLaterBy before after item) (sym (item-stays (victims_at (coord_of k) x) (coord_turn k.script.value (coord_of k) x false)))
    (subst (λ (s : Script). IsLaterBy before after (on_event s (coord_of k) x false).item) same later)
