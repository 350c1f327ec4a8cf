-- Over every run of the machine: writes are placed and legal, and what segments tell of commands is so.
use Rattle.std.proofs.Common.{◌≡◌, ◌≤◌, inl, inr, ℕ, ◌+◌, List, [], ◌∷◌, ◌++◌, None, Some, Bool, true, false, refl, sym, subst, ap, ◌∙◌}
use Rattle.gx_lemmas.proofs.Numbers.{one-le-zero}
use Rattle.gx_ids.specs.declared.ids.Gxid.{Gxid}
use Rattle.gx_ids.specs.declared.ids.Node.{Node}
use Rattle.gx_ids.specs.declared.ids.SessionId.{SessionId}
use Rattle.gx_ids.specs.declared.rid.Rid.{Rid}
use Rattle.gx_waits.specs.declared.claim.Claim.{Claim}
use Rattle.gx_msg.specs.declared.message.Envelope.{Envelope}
use Rattle.gx_msg.specs.declared.message.Message.{Message}
use Rattle.gx_msg.specs.declared.message.Message.TheVariants as message
use Rattle.gx_script.specs.declared.Script.{Script}
use Rattle.gx_store.specs.declared.event.Event.{Event}
use Rattle.gx_store.specs.declared.event.Event.TheVariants as event
use Rattle.gx_store.specs.declared.mark.Mark.TheVariants as mark
use Rattle.gx_store.specs.declared.node.NodeEvent.{NodeEvent}
use Rattle.gx_store.specs.declared.node.NodeEvent.TheVariants as here
use Rattle.gx_store.specs.Messages.{IsSending}
use Rattle.gx_store.specs.Ordered.{IsLink, IsSegment}
use Rattle.gx_store.specs.Points.{marks_in, starts_by}
use Rattle.gx_store.specs.Refusals.{the_coordinator}
use Rattle.gx_rules.specs.AtSegment as segment
use Rattle.gx_rules.specs.AtSegment.{seg_rule}
use Rattle.gx_rules.specs.Changes.{Change, change_of, changes_rows, goes_through, selected, shown_to}
use Rattle.gx_rules.specs.Locks.{hold_mark, with_hold}
use Rattle.gx_rules.specs.Running.{is_granted}
use Rattle.gx_rules.specs.Machine.{Letter, World, after, found, happens, new_world, seg_did, world_of, seg_can}
use Rattle.gx_rules.specs.Segments.{Seg, SegTurn}
use Rattle.gx_rules.specs.Slices.{starts_from}
use Rattle.gx_rules.specs.Sending.{counted}
use Rattle.gx_law_order.proofs.Letters.{IsFound, IsLetter, found_is}
use Rattle.gx_law_order.specs.Lists.{Each}
use Rattle.gx_law_order.proofs.Journals.{Hold}
use Rattle.gx_law_order.proofs.Waiting.{GoesOn, each-among, freed, going-on}
use Rattle.gx_law_reads.specs.Horizons.{IsNobodyDropped, IsSeenBelow}
use Rattle.gx_law_reads.specs.Sights.{AreShownViews, DoViewsStay, IsShownView}
use Rattle.gx_law_reads.proofs.Below.{nobody-dropped}
use Rattle.gx_law_reads.proofs.Ends.{Facts}
use Rattle.gx_law_reads.proofs.Seeing.{shown-views}
use Rattle.gx_law_locks.proofs.HoldsInRuns.{Locked}
use Rattle.gx_store.specs.Language.{AreLinesNumbered}
use Rattle.gx_law_order.specs.Alive.{HasRun}
use Rattle.gx_law_order.proofs.Outs.{MessageIs}
use Rattle.gx_law_order.proofs.Ran.{LetterRan, has-run}
use Rattle.gx_law_order.proofs.Stepping as stepping
use Rattle.gx_law_order.proofs.Legality as histories
use Rattle.gx_law_order.specs.Standings.{at}
use Rattle.gx_law_order.proofs.Complete.{SentBack, StepBack}
use Rattle.gx_law_order.proofs.Whole.{Both}
use Rattle.gx_law_writes.specs.Changes.{IsTrueTurn}
use Rattle.gx_law_writes.specs.Homes.{IsPlacedMark}
use Rattle.gx_law_writes.proofs.Homes.{homes-placed}
use Rattle.gx_law_writes.proofs.Told.{each-get}
use Rattle.gx_law_writes.proofs.Turns.{ChangeGoesOn, Changed, RowGoesOn, base, message-turns, resumption-turns}
use Rattle.gx_law_order.specs.Moves.{Move, moved, world_by}
use Rattle.gx_law_order.proofs.Induction.{IsThere, is-there, place-of}
use Rattle.gx_law_order.proofs.Moves.{all-keep, happens-keeps, moved-ways, moves_after, next-move, world-moves}
use Rattle.gx_law_order.proofs.Journals.{moves-hold}
use Rattle.gx_law_order.proofs.Whole.{moves-both}
use Rattle.gx_law_reads.proofs.Ends.{moves-facts}
use Rattle.gx_law_reads.proofs.Staying.{moved-views-stay}
use Rattle.gx_law_locks.proofs.HoldsInRuns.{moves-locked}
use Rattle.gx_law_writes.proofs.Steps.{CountsStay, Leads, cancel-leads, coord-leads}
use Rattle.gx_law_writes.proofs.AtSegments.{at-row-all, at-row-says, at-row-stops, changes-faults, exec-all, exec-says, exec-stops, message-goes, resumption-goes, seg-leads, table-all, table-says, table-stops}
use Rattle.gx_law_writes.proofs.NeedsRows.{Stops}
pub use Rattle.gx_law_writes.proofs.Steps.{Holds, locals_in, nexts_in}

module _ (script : Script) (some : 1 ≤ script.segments) (numbered_lines : AreLinesNumbered [] script.lines) where
  module _ (w : World) (b : Both script some w) (k : stepping.Holds script w) (hold : Hold w) (facts : Facts w) (locked : Locked script w) (h : Holds script w.segs w.steps) where
    abbrev IsPost : Letter → Type 0
    IsPost l = IsLetter script w.steps l × (l.from ≡ the_coordinator → MessageIs script (marks_in w.steps) l.to l.envelope.message) × (l.from ≡ the_coordinator → HasRun script w.steps l.envelope.message) × IsSeenBelow w l.to l.envelope.message × IsShownView w l.to l.envelope.message

    each-post : (ls : List Letter) → Each (IsLetter script w.steps) ls → Each (λ l. l.from ≡ the_coordinator → MessageIs script (marks_in w.steps) l.to l.envelope.message) ls → Each (LetterRan script w.coord w.steps) ls → IsNobodyDropped w ls → AreShownViews w ls → Each IsPost ls
    each-post [] e f r n v = tt
    each-post (l ∷ ls) e f r n v = ((e.0, f.0, (λ same. has-run script w.coord w.steps b.knows.kept k.sessions k.gathers l.to l.envelope.message (r.0 same)), n.0, v.0), each-post ls e.1 f.1 r.1 n.1 v.1)

    posts : Each IsPost w.sent
    posts = each-post w.sent b.knows.well.letters k.orders k.ran (nobody-dropped script w b.knows b.holds facts) (shown-views script w b.knows b.holds facts hold)

    -- what is known of a letter that comes to a segment
    module _ (from to : Node) (number : ℕ) (envelope : Envelope) (d : IsFound IsPost from to number envelope) where
      comes-there : 1 ≤ to.0 → IsLink script d.letter.from d.letter.to → IsSegment script to × (d.letter.from ≡ the_coordinator)
      comes-there one (inl l) = (subst (IsSegment script) d.target l.1, l.0)
      comes-there one (inr l) = absurd (one-le-zero to.0 one (ap (λ (n : Node). n.0) (sym d.target ∙ l.1)))

      its-sending : IsSending w.steps d.is.0.step d.is.0.mark d.letter.from to number envelope.message
      its-sending =
          subst (λ a. IsSending w.steps d.is.0.step d.is.0.mark d.letter.from a number envelope.message) d.target
          (subst (λ a. IsSending w.steps d.is.0.step d.is.0.mark d.letter.from d.letter.to a envelope.message) d.counted
          (subst (λ (a : Envelope). IsSending w.steps d.is.0.step d.is.0.mark d.letter.from d.letter.to d.letter.envelope.number a.message) d.told d.is.0.sending))

      its-back : d.letter.from ≡ the_coordinator → SentBack w.coord w.steps the_coordinator (mark.Sent to number envelope.message)
      its-back it = subst (λ n. SentBack w.coord w.steps n (mark.Sent to number envelope.message)) (its-sending.node ∙ it) (each-get (SentBack w.coord w.steps its-sending.sender.stamp.node) its-sending.sender.marks d.is.0.mark _ (each-get (StepBack w.coord w.steps) w.steps d.is.0.step its-sending.sender b.replied.back its-sending.at) its-sending.sent)

      its-order-is : d.letter.from ≡ the_coordinator → MessageIs script (marks_in w.steps) to envelope.message
      its-order-is it = subst (λ n. MessageIs script (marks_in w.steps) n envelope.message) d.target (subst (λ (a : Envelope). MessageIs script (marks_in w.steps) d.letter.to a.message) d.told (d.is.1 it))

      its-run : d.letter.from ≡ the_coordinator → HasRun script w.steps envelope.message
      its-run it = subst (λ (a : Envelope). HasRun script w.steps a.message) d.told (d.is.2 it)

      its-sight : IsSeenBelow w to envelope.message × IsShownView w to envelope.message
      its-sight = subst (λ n. IsSeenBelow w n envelope.message × IsShownView w n envelope.message) d.target (subst (λ (a : Envelope). IsSeenBelow w d.letter.to a.message × IsShownView w d.letter.to a.message) d.told (d.is.3, d.is.4))

    delivers : (e : Event) (from : Node) (envelope : Envelope) (fails : Bool) (i : ℕ) → IsSegment script (at i) → IsThere script w e (at i) (here.Deliver from envelope)
        → let v : World = seg_did w (at i) e (seg_rule script (w.segs i) (here.Deliver from envelope) fails) in DoViewsStay w v → Leads script w v
    delivers e from envelope fails i place r stay =
        let d = found_is IsPost from (at i) r.number w.sent envelope posts r.found in
        let p = comes-there from (at i) r.number envelope d place.0 d.is.0.link in
        let quiet : (t : SessionId) → starts_by t e ≡ 0 = λ t. ap (starts_by t) r.event in
        seg-leads script some numbered_lines w b k hold facts locked h e quiet (here.Deliver from envelope) fails i place
        (message-goes script some numbered_lines w b k hold facts locked h e quiet (here.Deliver from envelope) fails i place envelope.message r.number (its-order-is from (at i) r.number envelope d p.1) (its-run from (at i) r.number envelope d p.1)
        (its-back from (at i) r.number envelope d p.1) (its-sight from (at i) r.number envelope d) (segment.on_message script (w.segs i) fails envelope.message) (message-turns script (w.segs i) fails envelope.message))
        stay

    -- AN UPDATE OR DELETE THAT COMES TO A SEGMENT, OR WHOSE WAIT ENDS THERE
    pub exec-true : (from to : Node) (number : ℕ) (envelope : Envelope) (fails : Bool) → IsSegment script to → found from to number w.sent ≡ Some envelope → (m : Message) → envelope.message ≡ m → (y : SegTurn) (z : Changed script (w.segs to.0) m y) → IsTrueTurn script w (event.Receive from to number) to z.g z.change y
    exec-true from to number envelope fails place f m is y z =
        record {
          faults = λ later. changes-faults script w.steps e [] y.marks later (exec-all script some numbered_lines w b k hold facts locked h e (λ t. refl) x fails to.0 place m number order run back sight y z later);
          says = exec-says script some numbered_lines w b k hold facts locked h e (λ t. refl) x fails to.0 place m number order run back sight y z;
        }
      where
        e : Event
        e = event.Receive from to number

        x : NodeEvent
        x = here.Deliver from envelope

        d : IsFound IsPost from to number envelope
        d = found_is IsPost from to number w.sent envelope posts f

        p : IsSegment script to × (d.letter.from ≡ the_coordinator)
        p = comes-there from to number envelope d place.0 d.is.0.link

        order : MessageIs script (marks_in w.steps) to m
        order = subst (MessageIs script (marks_in w.steps) to) is (its-order-is from to number envelope d p.1)

        run : HasRun script w.steps m
        run = subst (HasRun script w.steps) is (its-run from to number envelope d p.1)

        back : SentBack w.coord w.steps the_coordinator (mark.Sent to number m)
        back = subst (λ (a : Message). SentBack w.coord w.steps the_coordinator (mark.Sent to number a)) is (its-back from to number envelope d p.1)

        sight : IsSeenBelow w to m × IsShownView w to m
        sight = subst (λ (a : Message). IsSeenBelow w to a × IsShownView w to a) is (its-sight from to number envelope d)

    -- where it stops it needs what it asks for
    pub new-needs : (i : ℕ) → IsSegment script (at i) → (from : Node) (number : ℕ) (envelope : Envelope) → found from (at i) number w.sent ≡ Some envelope → (y : SegTurn) (z : Changed script (w.segs i) envelope.message y)
        → let c : Seg = base (w.segs i) z.horizon (with_hold (w.segs i).locks z.wanted) in Stops (marks_in w.steps ++ hold_mark (w.segs i).node z.wanted ∷ []) c.node z.g z.change (selected z.change.cond (shown_to c z.g z.change)) (starts_from c)
    new-needs i place from number envelope f y z =
        let d = found_is IsPost from (at i) number w.sent envelope posts f in
        let p = comes-there from (at i) number envelope d place.0 d.is.0.link in
        exec-stops script some numbered_lines w b k hold facts locked h (event.Receive from (at i) number) (λ t. refl) (here.Deliver from envelope) false i place envelope.message number (its-order-is from (at i) number envelope d p.1) (its-run from (at i) number envelope d p.1)
        (its-back from (at i) number envelope d p.1) (its-sight from (at i) number envelope d) y z

    -- what is known of a letter of the coordinator
    known-letter : (l : Letter) (i : ℕ) (m : Message) → IsPost l → l.from ≡ the_coordinator → l.to ≡ at i → l.envelope.message ≡ m → MessageIs script (marks_in w.steps) (at i) m × HasRun script w.steps m × SentBack w.coord w.steps the_coordinator (mark.Sent (at i) l.envelope.number m) × IsSeenBelow w (at i) m × IsShownView w (at i) m
    known-letter l i m p source target told =
        subst (λ a. MessageIs script (marks_in w.steps) (at i) a × HasRun script w.steps a × SentBack w.coord w.steps the_coordinator (mark.Sent (at i) l.envelope.number a) × IsSeenBelow w (at i) a × IsShownView w (at i) a) told
        (subst (λ n. MessageIs script (marks_in w.steps) n l.envelope.message × HasRun script w.steps l.envelope.message × SentBack w.coord w.steps the_coordinator (mark.Sent n l.envelope.number l.envelope.message) × IsSeenBelow w n l.envelope.message × IsShownView w n l.envelope.message) target
        (p.1 source, p.2 source, back, p.3, p.4))
      where
        sending : IsSending w.steps p.0.step p.0.mark l.from l.to l.envelope.number l.envelope.message
        sending = p.0.sending

        back : SentBack w.coord w.steps the_coordinator (mark.Sent l.to l.envelope.number l.envelope.message)
        back =
            subst (λ n. SentBack w.coord w.steps n (mark.Sent l.to l.envelope.number l.envelope.message)) (sending.node ∙ source)
            (each-get (SentBack w.coord w.steps sending.sender.stamp.node) sending.sender.marks p.0.mark _ (each-get (StepBack w.coord w.steps) w.steps p.0.step sending.sender b.replied.back sending.at) sending.sent)

    -- of the one with which a slice came that waits
    came-so : (i : ℕ) (g : Gxid) (o : GoesOn script w i g)
        → let m : Message = message.Exec g o.slice.cid o.slice.level o.slice.snapshot o.waits.horizon o.slice.slice in MessageIs script (marks_in w.steps) (at i) m × HasRun script w.steps m × SentBack w.coord w.steps the_coordinator (mark.Sent (at i) o.waits.come.letter.envelope.number m) × IsSeenBelow w (at i) m × IsShownView w (at i) m
    came-so i g o = known-letter o.waits.come.letter i _ (each-among IsPost w.sent o.waits.come.letter posts o.waits.come.among) o.waits.come.source o.waits.come.target o.waits.come.told

    pub table-needs : (i : ℕ) (g : Gxid) (place : IsSegment script (at i)) (o : GoesOn script w i g) (q : Change) → change_of o.slice.cid o.slice.level o.slice.snapshot o.slice.slice ≡ Some q → o.slice.row ≡ None → (wanted : Claim) → wanted.gxid ≡ g
        → Stops (marks_in w.steps ++ hold_mark (w.segs i).node wanted ∷ []) (freed (w.segs i) g wanted).node g q (selected q.cond (shown_to (freed (w.segs i) g wanted) g q)) (starts_from (freed (w.segs i) g wanted))
    table-needs i g place o q changes row wanted owner = table-stops script some numbered_lines w b k hold facts locked h (event.Resume (at i) g) (λ t. refl) (here.Resume g) false i place g o q changes (came-so i g o) wanted owner row

    pub row-needs : (i : ℕ) (g : Gxid) (place : IsSegment script (at i)) (o : GoesOn script w i g) (q : Change) → change_of o.slice.cid o.slice.level o.slice.snapshot o.slice.slice ≡ Some q → (rid : Rid) → o.slice.row ≡ Some rid → (wanted : Claim) → wanted.gxid ≡ g
        → Stops (marks_in w.steps ++ []) (w.segs i).node g q (rid ∷ o.slice.rows) (is_granted (w.segs i) g wanted)
    row-needs i g place o q changes rid row wanted owner = at-row-stops script some numbered_lines w b k hold facts locked h (event.Resume (at i) g) (λ t. refl) (here.Resume g) false i place g o q changes (came-so i g o) wanted owner rid row

    pub table-true : (i : ℕ) (g : Gxid) (place : IsSegment script (at i)) (o : GoesOn script w i g) (y : SegTurn) (q : ChangeGoesOn (w.segs i) g o.slice y) → IsTrueTurn script w (event.Resume (at i) g) (at i) g q.change y
    table-true i g place o y q =
        subst (IsTrueTurn script w (event.Resume (at i) g) (at i) g q.change) (sym q.ran)
        (record {
          faults = λ later. changes-faults script w.steps (event.Resume (at i) g) [] (hold_mark (w.segs i).node q.wanted ∷ (changes_rows (freed (w.segs i) g q.wanted) g (Some q.change)).marks) later
              (table-all script some numbered_lines w b k hold facts locked h (event.Resume (at i) g) (λ t. refl) (here.Resume g) false i place g o q.change q.changes (came-so i g o) q.wanted q.owner q.row later);
          says = table-says script some numbered_lines w b k hold facts locked h (event.Resume (at i) g) (λ t. refl) (here.Resume g) false i place g o q.change q.changes (came-so i g o) q.wanted q.owner q.row;
        })

    pub row-true : (i : ℕ) (g : Gxid) (place : IsSegment script (at i)) (o : GoesOn script w i g) (y : SegTurn) (q : RowGoesOn (w.segs i) g o.slice y) → IsTrueTurn script w (event.Resume (at i) g) (at i) g q.goes.at.change y
    row-true i g place o y q =
        subst (IsTrueTurn script w (event.Resume (at i) g) (at i) g q.goes.at.change) (sym q.goes.is)
        (record {
          faults = λ later. changes-faults script w.steps (event.Resume (at i) g) [] (goes_through g q.goes.at.change (q.goes.at.rid ∷ o.slice.rows) (is_granted (w.segs i) g q.wanted) o.slice.count).marks later
              (at-row-all script some numbered_lines w b k hold facts locked h (event.Resume (at i) g) (λ t. refl) (here.Resume g) false i place g o q.goes.at.change q.goes.at.changes (came-so i g o) q.wanted q.owner q.goes.at.rid q.goes.at.row later);
          says = at-row-says script some numbered_lines w b k hold facts locked h (event.Resume (at i) g) (λ t. refl) (here.Resume g) false i place g o q.goes.at.change q.goes.at.changes (came-so i g o) q.wanted q.owner q.goes.at.rid q.goes.at.row;
        })

    goes-on : (e : Event) (fails : Bool) (i : ℕ) (g : Gxid) → IsSegment script (at i) → IsThere script w e (at i) (here.Resume g) → GoesOn script w i g
        → let v : World = seg_did w (at i) e (seg_rule script (w.segs i) (here.Resume g) fails) in DoViewsStay w v → Leads script w v
    goes-on e fails i g place r o stay =
        let quiet : (t : SessionId) → starts_by t e ≡ 0 = λ t. ap (starts_by t) r in
        seg-leads script some numbered_lines w b k hold facts locked h e quiet (here.Resume g) fails i place
        (resumption-goes script some numbered_lines w b k hold facts locked h e quiet (here.Resume g) fails i place g o (came-so i g o) (segment.on_event script (w.segs i) (here.Resume g) fails) (resumption-turns script w i g o))
        stay

    serve-leads : (e : Event) (x : NodeEvent) (fails : Bool) (i : ℕ) → IsSegment script (at i) → IsThere script w e (at i) x → seg_can script (w.segs i) x ≡ true
        → let v : World = seg_did w (at i) e (seg_rule script (w.segs i) x fails) in DoViewsStay w v → Leads script w v
    serve-leads e (here.Deliver from envelope) fails i place r ok stay = delivers e from envelope fails i place r stay
    serve-leads e (here.Resume g) fails i place r ok stay = goes-on e fails i g place r (going-on script w b.knows.well i g ok) stay
    serve-leads e (here.Start t) fails i place r ok stay = absurd (cc)
    serve-leads e (here.End t) fails i place r ok stay = absurd (cc)
    serve-leads e (here.Resend j g) fails i place r ok stay = absurd (cc)
    serve-leads e here.Round fails i place r ok stay = absurd (cc)

    move-leads : (m : Move) → DoViewsStay w (moved script w m) → Leads script w (moved script w m)
    move-leads m =
        moved-ways script w (λ move v. DoViewsStay w v → Leads script w v) (λ move stay. (h, λ node g c ran. (refl, ran)))
        (λ e x fails c ok stay. coord-leads script some numbered_lines w b.knows.well h e x fails stay) (λ g a stay. cancel-leads script some numbered_lines w b.knows.well h g a stay)
        (λ e x fails n away c ok stay. serve-leads e x fails n.0 (place-of script w b.knows.well e x n away c ok) (is-there script w b.knows.well e n x c) ok stay)
        m

  -- ALL MOVES
  abbrev HoldsIn : World → Type 0
  HoldsIn w = Holds script w.segs w.steps

  next-leads : (done : List Move) (m : Move) → HoldsIn (world_by script done) → Leads script (world_by script done) (moved script (world_by script done) m)
  next-leads done m h =
      move-leads (world_by script done) (moves-both script some done) (histories.moves-holds script some done) (moves-hold script some done) (moves-facts script some done) (moves-locked script some done) h m
      (moved-views-stay script some done (m ∷ []))

  -- a world that moves lead to, also from an older one
  record IsFrom (old w : World) : Type 0 where
    moves : List Move
    is : w ≡ world_by script moves
    holds : HoldsIn w
    counts : CountsStay old w

  one-move : (old : World) (m : Move) (w : World) → IsFrom old w → IsFrom old (moved script w m)
  one-move old m w p =
      let q = subst (λ v. Leads script v (moved script v m)) (sym p.is) (next-leads p.moves m (subst HoldsIn p.is p.holds)) in
      record {
        moves = p.moves ++ m ∷ [];
        is = ap (λ v. moved script v m) p.is ∙ sym (next-move script p.moves m);
        holds = q.0;
        counts = λ node g c ran. let one = p.counts node g c ran in let more = q.1 node g c one.1 in (more.0 ∙ one.0, more.1);
      }

  itself : (done : List Move) (w : World) → w ≡ world_by script done → HoldsIn w → IsFrom w w
  itself done w is h = record { moves = done; is = is; holds = h; counts = λ node g c ran. (refl, ran) }

  new-holds : HoldsIn new_world
  new-holds = record { homes = tt; past = tt; told = tt; kept = λ i h. tt; legal = tt; begun = tt; halves = λ i g one. tt }

  pub moves-holds : (ms : List Move) → Holds script (world_by script ms).segs (world_by script ms).steps
  moves-holds ms = (all-keep script (IsFrom new_world) (one-move new_world) ms new_world (itself [] new_world refl new-holds)).holds

  -- ALL EVENTS
  pub world-holds : (es : List (Event × Bool)) → Holds script (world_of script es).segs (world_of script es).steps
  world-holds es = subst HoldsIn (sym (world-moves script es)) (moves-holds (moves_after script new_world es))

  pub world-placed : (es : List (Event × Bool)) → Each (IsPlacedMark script (marks_in (world_of script es).steps)) (marks_in (world_of script es).steps)
  world-placed es = homes-placed script (marks_in (world_of script es).steps) [] (marks_in (world_of script es).steps) (world-holds es).homes

  -- from a world on
  events-keep : (old : World) (es : List (Event × Bool)) (w : World) → IsFrom old w → IsFrom old (after script w es)
  events-keep old [] w p = p
  events-keep old (e ∷ es) w p = events-keep old es (happens script w e.0 e.1) (happens-keeps script (IsFrom old) (one-move old) w e.0 e.1 p)

  pub counts-stay : (done es : List (Event × Bool)) → CountsStay (world_of script done) (after script (world_of script done) es)
  counts-stay done es = (events-keep (world_of script done) es (world_of script done) (itself (moves_after script new_world done) (world_of script done) (world-moves script done) (world-holds done))).counts
