-- Victims one behind the other, and what each makes of the coordinator.
use Rattle.std.proofs.Common.{◌≡◌, ◌≤◌, ◌<◌, ◌^◌, ◌∙◌, ℕ, zero, suc, ◌+◌, List, [], ◌∷◌, ◌++◌, All, None, refl, sym, subst, ap, arith, drop, get_or, length, slice_index}
use Rattle.std.proofs.lemmas.List.{append_assoc, length-append}
use Rattle.std.specs.Global.{Vec}
use Rattle.gx_ids.specs.declared.ids.Gxid.{Gxid}
use Rattle.gx_msg.specs.declared.message.Out.{Out}
use Rattle.gx_script.specs.declared.Script.{Script}
use Rattle.gx_store.specs.declared.mark.Mark.{Mark}
use Rattle.gx_rules.specs.AtCoordinator.{and_cancels, and_cancels_all, cancel_turn, cancels}
use Rattle.gx_rules.specs.Coordinators as rule
use Rattle.gx_rules.specs.Sending.{counted_all, numbered}
use Rattle.gx_coord.specs.Books.{coord_of}
use Rattle.gx_coord.specs.Sound.{IsSound}
use Rattle.gx_coord.specs.Steps.{HasStayed}
use Rattle.gx_coord.specs.Turns.{IsTurn, so_far, untold}
use Rattle.gx_coord.specs.declared.coord.Coord.{Coord}
use Rattle.gx_coord.proofs.Stays.{cancel-sound, sent-sound}

-- what was few before stays few behind more marks
pub few-behind : (sent : List ℕ) (before more after : List Mark) → after ≡ before ++ more → All (λ n. n < 2 ^ 62 + length before) sent → All (λ n. n < 2 ^ 62 + length after) sent
few-behind sent before more after e h i d b = less (get_or sent i d) (length before) (length more) (length after) (ap length e ∙ length-append before more) (h i d b)
  where
    less : (n a b m : ℕ) → m ≡ a + b → n < 2 ^ 62 + a → n < 2 ^ 62 + m
    less n a b m e f = omega (arith, e, f)

-- A VICTIM
module _ (old mid : Coord) (sent : Vec ℕ) (g : Gxid) (before marks after : List Mark) (more : List Out) (turn : IsTurn old mid before marks (cancels (coord_of old) g)) (is : more ≡ (cancels (coord_of old) g).outs)
    (counts : slice_index sent.items ≡ counted_all (slice_index mid.sent.items) more) (says : after ≡ marks ++ numbered (slice_index mid.sent.items) more) where
  abbrev t : rule.CoordTurn
  t = cancels (coord_of old) g

  abbrev new : Coord
  new = record mid { sent = sent }

  coord-is : coord_of new ≡ (cancel_turn (coord_of old) g).coord
  coord-is =
      ap (λ f. record (coord_of mid) { sent = f }) counts
      ∙ ap (λ k. record (coord_of mid) { sent = counted_all (slice_index mid.sent.items) more; clock = k }) turn.framed.clock
      ∙ ap (λ (x : rule.Coord). record x { sent = counted_all x.sent more; clock = old.clock }) turn.coord
      ∙ ap (λ os. record t.coord { sent = counted_all t.coord.sent os; clock = old.clock }) is

  marks-are : after ≡ before ++ (cancel_turn (coord_of old) g).marks
  marks-are =
      says
      ∙ ap (λ ms. ms ++ numbered (slice_index mid.sent.items) more) turn.marks
      ∙ ap (λ (x : rule.Coord). (before ++ t.marks) ++ numbered x.sent more) turn.coord
      ∙ ap (λ os. (before ++ t.marks) ++ numbered t.coord.sent os) is
      ∙ append_assoc before t.marks (numbered t.coord.sent t.outs)

  pub victim-turn : so_far (coord_of new) after [] ≡ untold (and_cancels (so_far (coord_of old) before []) g)
  victim-turn = ap (λ c. so_far c after []) coord-is ∙ ap (λ ms. so_far (cancel_turn (coord_of old) g).coord ms []) marks-are

  pub victim-stayed : length sent.items ≡ length mid.sent.items → HasStayed old new
  victim-stayed l =
      record { script = turn.framed.script; places = turn.framed.places; count = turn.framed.count; links = l ∙ ap (λ v. length v.items) turn.framed.sent; segments = turn.framed.segments }

-- ALL VICTIMS
pub stayed-trans : (old mid late : Coord) → HasStayed old mid → HasStayed mid late → HasStayed old late
stayed-trans old mid late a b = record { script = b.script ∙ a.script; places = b.places ∙ a.places; count = b.count ∙ a.count; links = b.links ∙ a.links; segments = b.segments ∙ a.segments }

pub stayed-refl : (k : Coord) → HasStayed k k
stayed-refl k = record { script = refl; places = refl; count = refl; links = refl; segments = refl }

pub cancels-step : (turn : rule.CoordTurn) (gs : List Gxid) (i : ℕ) (x : Gxid) → i < length gs → and_cancels_all (drop (i + 1) gs) (and_cancels turn (get_or gs i x)) ≡ and_cancels_all (drop i gs) turn
cancels-step turn [] i x l = absurd (omega (arith, l))
cancels-step turn (g ∷ gs) zero x l = refl
cancels-step turn (g ∷ gs) (suc i) x l = ap (λ k. and_cancels_all (drop k (g ∷ gs)) (and_cancels turn (get_or gs i x))) (next i) ∙ cancels-step turn gs i x (omega (arith, l))
  where
    next : (i : ℕ) → suc i + 1 ≡ suc (i + 1)
    next i = omega arith

-- the item of a step is the event's, and plays no part in what the victims do
pub without-item : (gs : List Gxid) (turn : rule.CoordTurn) → and_cancels_all gs (record turn { item = None }) ≡ record (and_cancels_all gs turn) { item = None }
without-item [] turn = refl
without-item (g ∷ gs) turn = without-item gs (and_cancels turn g)

-- nor do the messages that were sent before
pub without-outs : (gs : List Gxid) (turn : rule.CoordTurn) (outs : List Out) → untold (and_cancels_all gs (record turn { outs = outs })) ≡ untold (and_cancels_all gs turn)
without-outs [] turn outs = refl
without-outs (g ∷ gs) turn outs = without-outs gs (and_cancels turn g) (outs ++ (cancel_turn turn.coord g).outs)

pub item-stays : (gs : List Gxid) (turn : rule.CoordTurn) → (and_cancels_all gs turn).item ≡ turn.item
item-stays [] turn = refl
item-stays (g ∷ gs) turn = item-stays gs (and_cancels turn g)

-- a victim's turn keeps what is known
pub victim-sound : (k new : Coord) (g : Gxid) (before after : List Mark) → HasStayed k new → so_far (coord_of new) after [] ≡ untold (and_cancels (so_far (coord_of k) before []) g) → 1 ≤ k.script.value.segments
    → IsSound k.script.value (coord_of k) → IsSound new.script.value (coord_of new)
victim-sound k new g before after stayed e some h =
    subst (λ (s : Script). IsSound s (coord_of new)) (sym (ap (λ a. a.value) stayed.script))
    (subst (λ (c : rule.Coord). IsSound k.script.value c) (sym (ap (λ (t : rule.CoordTurn). t.coord) e)) (sent-sound k.script.value (cancels (coord_of k) g) k.clock (cancel-sound k.script.value (coord_of k) some h g)))
