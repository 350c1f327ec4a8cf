-- What is known of a message that has come to a segment, now or before.
use Rattle.std.proofs.Common.{◌≡◌, ◌≤◌, inl, inr, ℕ, List, [], ◌∷◌, Some, sym, subst, ap, ◌∙◌}
use Rattle.gx_lemmas.proofs.Numbers.{one-le-zero}
use Rattle.gx_ids.specs.declared.ids.Node.{Node}
use Rattle.gx_msg.specs.declared.message.Envelope.{Envelope}
use Rattle.gx_msg.specs.declared.message.Message.{Message}
use Rattle.gx_script.specs.declared.Script.{Script}
use Rattle.gx_store.specs.Ordered.{IsLink, IsSegment}
use Rattle.gx_store.specs.Points.{marks_in}
use Rattle.gx_store.specs.Refusals.{the_coordinator}
use Rattle.gx_rules.specs.Machine.{Letter, World, found, world_of}
use Rattle.gx_law_order.proofs.Letters.{IsFound, IsLetter, found_is}
use Rattle.gx_law_order.specs.Lists.{Each}
use Rattle.gx_law_order.proofs.Waiting.{HasCome, each-among}
use Rattle.gx_law_order.specs.Alive.{AreAlive, HasRun, HaveRun, IsAlive}
use Rattle.gx_law_order.proofs.Outs.{MessageIs}
use Rattle.gx_law_order.proofs.Legality as histories
use Rattle.gx_law_order.proofs.Legality.{orders-alive, orders-ran}
use Rattle.gx_law_order.proofs.Whole.{world-both}
use Rattle.gx_law_locks.specs.Orders.{IsLockedOrder}
use Rattle.gx_law_locks.proofs.Orders.{LetterLocked, world-orders}
use Rattle.gx_law_reads.specs.Sights.{AreShownViews, IsShownView}
use Rattle.gx_law_reads.proofs.Seeing.{world-views}
use Rattle.gx_law_answers.specs.Earned.{Events}

-- it is of the coordinator's orders; its command is alive, and was under way, and went out with its table's lock; and who has still
-- to run it is shown what it sees
pub record Came (script : Script) (es : Events) (to : Node) (m : Message) : Type 0 where
  pub order_is : MessageIs script (marks_in (world_of script es).steps) to m
  pub view_is : IsShownView (world_of script es) to m
  pub alive : IsAlive script (world_of script es) to m
  pub was : HasRun script (world_of script es).steps m
  pub locked : IsLockedOrder script (marks_in (world_of script es).steps) m

module _ (script : Script) (some : 1 ≤ script.segments) (es : Events) where
  abbrev w : World
  w = world_of script es

  -- what is known of a letter
  abbrev pub IsPost : Letter → Type 0
  IsPost l = IsLetter script (world_of script es).steps l × (l.from ≡ the_coordinator → Came script es l.to l.envelope.message)

  each-post : (ls : List Letter) → Each (IsLetter script (world_of script es).steps) ls → Each (λ l. l.from ≡ the_coordinator → MessageIs script (marks_in (world_of script es).steps) l.to l.envelope.message) ls → AreShownViews (world_of script es) ls → AreAlive script (world_of script es) ls → HaveRun script (world_of script es).steps ls → Each (LetterLocked script (marks_in (world_of script es).steps)) ls → Each IsPost ls
  each-post [] a b c d e f = tt
  each-post (l ∷ ls) a b c d e f = ((a.0, λ q. record { order_is = b.0 q; view_is = c.0; alive = d.0 q; was = e.0 q; locked = f.0 q }), each-post ls a.1 b.1 c.1 d.1 e.1 f.1)

  pub posts : Each IsPost (world_of script es).sent
  posts =
      each-post (world_of script es).sent (world-both script some es).knows.well.letters (histories.world-holds script some es).orders (world-views script some es) (orders-alive script some es) (orders-ran script some es) (world-orders script some es).letters

  its : (l : Letter) (to : Node) (m : Message) → l.to ≡ to → l.envelope.message ≡ m → Came script es l.to l.envelope.message → Came script es to m
  its l to m a b c = subst (λ n. Came script es n m) a (subst (λ k. Came script es l.to k) b c)

  -- what comes to a segment comes from the coordinator
  pub came-now : (from to : Node) (number : ℕ) (envelope : Envelope) → IsSegment script to → found from to number (world_of script es).sent ≡ Some envelope → Came script es to envelope.message
  came-now from to number envelope place f = by_link d.is.0.link
    where
      d : IsFound IsPost from to number envelope
      d = found_is IsPost from to number (world_of script es).sent envelope posts f

      not-here : (n : Node) → 1 ≤ n.0 → n ≡ the_coordinator → ⊥
      not-here n one q = one-le-zero n.0 one (ap (λ (m : Node). m.0) q)

      by_link : IsLink script d.letter.from d.letter.to → Came script es to envelope.message
      by_link (inl l) = its d.letter to envelope.message d.target (ap (λ (a : Envelope). a.message) d.told) (d.is.1 l.0)
      by_link (inr l) = absurd (not-here to place.0 (sym d.target ∙ l.1))

  -- so does what has come before
  pub came-before : (to : Node) (m : Message) → HasCome (world_of script es) to.0 m → Came script es to m
  came-before to m h = its h.letter to m h.target h.told ((each-among IsPost (world_of script es).sent h.letter posts h.among).1 h.source)
