-- What was sent is among the letters, so a command whose number wasn't given yet was sent to nobody.
use Rattle.std.proofs.Common.{◌≡◌, ◌≤◌, ◌<◌, inl, inr, ℕ, List, [], ◌∷◌, ◌++◌, Bool, refl, sym, subst, ap, arith}
use Rattle.std.specs.Prelude.{nat_le}
use Rattle.gx_ids.specs.declared.ids.Cid.{Cid}
use Rattle.gx_ids.specs.declared.ids.Gxid.{Gxid}
use Rattle.gx_ids.specs.declared.ids.Node.{Node}
use Rattle.gx_msg.specs.declared.message.Message.{Message}
use Rattle.gx_msg.specs.declared.message.Message.TheVariants as message
use Rattle.gx_script.specs.declared.Script.{Script}
use Rattle.gx_store.specs.declared.event.Event.{Event}
use Rattle.gx_store.specs.declared.mark.Mark.{Mark}
use Rattle.gx_store.specs.declared.mark.Mark.TheVariants as mark
use Rattle.gx_store.specs.declared.run.Step.{Step}
use Rattle.gx_store.specs.Points.{marks_in}
use Rattle.gx_store.specs.Refusals.{the_coordinator}
use Rattle.gx_rules.specs.AtCoordinator.{cancel_turn, coord_turn}
use Rattle.gx_rules.specs.AtSegment.{seg_rule}
use Rattle.gx_rules.specs.Machine.{Letter, World, and_cancelled, coord_did, new_world, posted, seg_did, world_of}
use Rattle.gx_rules.specs.Sending.{clock_after}
use Rattle.gx_law_order.specs.Moves.{Move, world_by}
use Rattle.gx_law_order.proofs.Induction.{marks-by-event, marks-by-victim}
use Rattle.gx_law_order.proofs.Moves.{moves_after, world-moves}
use Rattle.gx_law_order.proofs.Lists.{each_append, each_weaker}
use Rattle.gx_law_order.specs.Lists.{Each}
use Rattle.gx_law_order.specs.Stages.{stage_of}
use Rattle.gx_law_order.specs.Stages.Stage.{Live}
use Rattle.gx_law_order.proofs.Waiting.{IsAmong, each-among}
use Rattle.gx_law_order.proofs.More.{marks-last}
use Rattle.gx_law_order.proofs.World.{Knows}
use Rattle.gx_law_order.specs.Said.{SaidAt, SaidIn, segment_of}
use Rattle.gx_law_order.specs.Standings.{at}
use Rattle.gx_law_order.proofs.Everywhere.{Holds}
use Rattle.gx_law_reads.proofs.Low.{drawn-is, live-standing}
use Rattle.gx_law_order.proofs.Steps.{moves-keep}
use Rattle.gx_law_writes.specs.Commands.{AreUnsent, IsOther}

-- a message that is sent is among these letters
abbrev pub HasLetter : List Letter → Mark → Type 0
HasLetter ls (mark.Sent to number m) = (l : Letter) × (IsAmong l ls) × (l.envelope.message ≡ m)
HasLetter ls _ = Unit {0}

module _ (from : Node) (clock : ℕ) where
  among-posted : (ms : List Mark) (sent : List Letter) (l : Letter) → IsAmong l sent → IsAmong l (posted from clock ms sent)
  among-posted [] sent l i = i
  among-posted (mark.Sent to number m ∷ ms) sent l i = among-posted ms _ l (inr i)
  among-posted (m ∷ ms) sent l i = among-posted ms sent l i

  posted-has : (ms : List Mark) (sent : List Letter) → Each (HasLetter (posted from clock ms sent)) ms
  posted-has [] sent = tt
  posted-has (mark.Sent to number m ∷ ms) sent =
      let l : Letter = record { from = from; to = to; envelope = record { number = number; clock = clock; incarnation = 1; message = m } } in
      ((l, among-posted ms (l ∷ sent) l (inl refl), refl), posted-has ms (l ∷ sent))
  posted-has (m ∷ ms) sent = (tt, posted-has ms sent)

  still-has : (ms : List Mark) (sent : List Letter) (m : Mark) → HasLetter sent m → HasLetter (posted from clock ms sent) m
  still-has ms sent (mark.Sent to number m) h = (h.0, among-posted ms sent h.0 h.1, h.2)
  still-has ms sent m h = tt

abbrev HasAll : World → Type 0
HasAll w = Each (HasLetter w.sent) (marks_in w.steps)

one-more : (w : World) (from : Node) (clock : ℕ) (steps : List Step) (ms : List Mark) → marks_in steps ≡ marks_in w.steps ++ ms → HasAll w → Each (HasLetter (posted from clock ms w.sent)) (marks_in steps)
one-more w from clock steps ms e h =
    subst (Each (HasLetter (posted from clock ms w.sent))) (sym e)
    (each_append (HasLetter (posted from clock ms w.sent)) (marks_in w.steps) ms (each_weaker (HasLetter w.sent) (HasLetter (posted from clock ms w.sent)) (still-has from clock ms w.sent) (marks_in w.steps) h) (posted-has from clock ms w.sent))

module _ (script : Script) (some : 1 ≤ script.segments) where
  pub moves-have : (moves : List Move) → Each (HasLetter (world_by script moves).sent) (marks_in (world_by script moves).steps)
  moves-have =
      moves-keep script some HasAll
      (λ w k v q e x fails ok said. one-more w the_coordinator (clock_after w.coord.clock x) (coord_did w e (coord_turn script w.coord x fails)).steps (coord_turn script w.coord x fails).marks (marks-by-event script w e x fails) q)
      (λ w k v q g h. one-more w the_coordinator w.coord.clock (and_cancelled w g).steps (cancel_turn w.coord g).marks (marks-by-victim w g h) q)
      (λ w k v q e x fails i place h. one-more w (at i) (clock_after (w.segs i).clock x) (seg_did w (at i) e (seg_rule script (w.segs i) x fails)).steps (seg_rule script (w.segs i) x fails).marks (marks-last w.steps _) q)
      tt

  pub world-has : (es : List (Event × Bool)) → Each (HasLetter (world_of script es).sent) (marks_in (world_of script es).steps)
  world-has es = subst HasAll (sym (world-moves script es)) (moves-have (moves_after script new_world es))

-- none of the messages is the command's
pub unsent-by : (w : World) (g : Gxid) (c : Cid) → Each (SaidIn w) w.sent → ((l : Letter) → SaidIn w l → (m : Message) → l.envelope.message ≡ m → IsOther g c m) → (ms : List Mark) → Each (HasLetter w.sent) ms → AreUnsent g c ms
unsent-by w g c said other [] h = tt
unsent-by w g c said other (mark.Sent to number m ∷ ms) h = (other h.0.0 (each-among (SaidIn w) w.sent h.0.0 said h.0.1) m h.0.2, unsent-by w g c said other ms h.1)
unsent-by w g c said other (m ∷ ms) h = (tt, unsent-by w g c said other ms h.1)

-- of a live transaction, the command after its last
module _ (script : Script) (w : World) (k : Knows script w) (v : Holds script w) (g : Gxid) (c : Cid) (live : stage_of w.coord g.0 ≡ Live) (next : (w.coord.works g.0).last < c.0) where
  other : (l : Letter) → SaidIn w l → (m : Message) → l.envelope.message ≡ m → IsOther g c m
  other l s (message.Exec h d level x y z) e =
      λ its. let said = subst (SaidAt w.coord w.segs (marks_in w.steps) (segment_of l)) e s in
      over d.0 c.0 (w.coord.works h.0).last (said.last (live-standing script w k h.0 (segment_of l) (subst (λ (j : Gxid). stage_of w.coord j.0 ≡ Live) (sym its.0) live) (nat_le w.coord.table.next.0 h.0)))
      (subst (λ (j : Gxid). (w.coord.works j.0).last < c.0) (sym its.0) next) (ap (λ (x : Cid). x.0) its.1)
    where
      over : (d c n : ℕ) → d ≤ n → n < c → d ≡ c → ⊥
      over d c n l m e = omega arith
  other l s (message.Prepare h) e = tt
  other l s (message.Commit h) e = tt
  other l s (message.CommitPrepared h) e = tt
  other l s (message.Abort h) e = tt
  other l s (message.Forget h) e = tt
  other l s (message.Collect round) e = tt
  other l s (message.Answer h r) e = tt
  other l s (message.Graph round graph) e = tt
  other l s message.Up e = tt

  pub next-unsent : Each (HasLetter w.sent) (marks_in w.steps) → AreUnsent g c (marks_in w.steps)
  next-unsent h = unsent-by w g c v.said other (marks_in w.steps) h

-- of a transaction that isn't drawn yet, any command
module _ (script : Script) (w : World) (k : Knows script w) (v : Holds script w) (g : Gxid) (c : Cid) (undrawn : w.coord.table.next.0 ≤ g.0) where
  other-drawn : (l : Letter) → SaidIn w l → (m : Message) → l.envelope.message ≡ m → IsOther g c m
  other-drawn l s (message.Exec h d level x y z) e =
      λ its. let said = subst (SaidAt w.coord w.segs (marks_in w.steps) (segment_of l)) e s in
      over h.0 g.0 w.coord.table.next.0 (drawn-is script w k h.0 (segment_of l) said.drawn) undrawn (ap (λ (x : Gxid). x.0) its.0)
    where
      over : (h g n : ℕ) → h < n → n ≤ g → h ≡ g → ⊥
      over h g n l m e = omega arith
  other-drawn l s (message.Prepare h) e = tt
  other-drawn l s (message.Commit h) e = tt
  other-drawn l s (message.CommitPrepared h) e = tt
  other-drawn l s (message.Abort h) e = tt
  other-drawn l s (message.Forget h) e = tt
  other-drawn l s (message.Collect round) e = tt
  other-drawn l s (message.Answer h r) e = tt
  other-drawn l s (message.Graph round graph) e = tt
  other-drawn l s message.Up e = tt

  pub new-unsent : Each (HasLetter w.sent) (marks_in w.steps) → AreUnsent g c (marks_in w.steps)
  new-unsent h = unsent-by w g c v.said other-drawn (marks_in w.steps) h
