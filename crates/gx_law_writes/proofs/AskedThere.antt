-- What is asked for at a segment: what a command at work there needs.
use Rattle.std.proofs.Common.{◌≡◌, ◌≤◌, ◌<◌, ◌⊎◌, ◌&&◌, ◌||◌, ◌==◌, inl, inr, ℕ, List, [], ◌∷◌, ◌++◌, Option, Some, Bool, true, false, refl, sym, subst, ap, ◌∙◌, if◌then◌else◌, arith, append_assoc, append-nil}
use Rattle.std.proofs.lemmas.Bool.{or_left}
use Rattle.std.proofs.lemmas.Bool.Decides.{nat_tests}
use Rattle.std.specs.List.{list_any}
use Rattle.gx_lemmas.proofs.Options.{some-same}
use Rattle.gx_lemmas.proofs.Tests.{true-false}
use Rattle.gx_ids.specs.declared.ids.Cid.{Cid}
use Rattle.gx_ids.specs.declared.ids.Gxid.{Gxid}
use Rattle.gx_ids.specs.declared.ids.Node.{Node}
use Rattle.gx_ids.specs.declared.ids.SessionId.{SessionId}
use Rattle.gx_tree.specs.declared.slice.Slice.{Slice}
use Rattle.gx_tree.specs.declared.slice.Slice.TheVariants as slice
use Rattle.gx_tree.specs.declared.stmt.Level.{Level}
use Rattle.gx_tree.specs.declared.stmt.Stmt.{Stmt}
use Rattle.gx_dsnap.specs.declared.snapshot.Snapshot.{Snapshot}
use Rattle.gx_modes.specs.declared.modes.Mode.{Mode}
use Rattle.gx_waits.specs.Claim.{same_claim}
use Rattle.gx_waits.specs.declared.claim.Claim.{Claim}
use Rattle.gx_waits.specs.declared.object.Object.{Object}
use Rattle.gx_waits.specs.declared.object.Object.TheVariants.{Relation}
use Rattle.gx_msg.specs.declared.message.Message.{Message}
use Rattle.gx_msg.specs.declared.message.Message.TheVariants as message
use Rattle.gx_msg.specs.declared.reply.Reply.TheVariants as reply
use Rattle.gx_script.specs.declared.Script.{Script}
use Rattle.gx_store.specs.Asking.{Asks, GrantsWait, IsAsked, IsAtWork, IsOrWasUnderWay, Needs, NeedsTable, WritesAtWork, has_told, tells, GoesThroughRows}
use Rattle.gx_store.specs.Journals.{is_same_node}
use Rattle.gx_store.specs.Language.{AreLinesNumbered}
use Rattle.gx_store.specs.Marks.{is_aborted, is_command_of, is_ended}
use Rattle.gx_store.specs.Messages.{HasReceived}
use Rattle.gx_store.specs.Ordered.{IsSegment}
use Rattle.gx_store.specs.Points.{marks_in, starts_by}
use Rattle.gx_store.specs.Refusals.{the_coordinator}
use Rattle.gx_store.specs.Waits.{holds_at, is_held, waits_at}
use Rattle.gx_waits.specs.Claims.{claim, with_claim}
use Rattle.gx_store.proofs.Exclusive.{holds_from-append}
use Rattle.gx_store.proofs.Marks.{is_aborted-append}
use Rattle.gx_store.specs.declared.event.Event.{Event}
use Rattle.gx_store.specs.declared.mark.Mark.{Mark}
use Rattle.gx_store.specs.declared.mark.Mark.TheVariants as mark
use Rattle.gx_store.specs.declared.run.Step.{Step}
use Rattle.gx_rules.specs.Changes.{Change, change_of, goes_through, selected, shown_to}
use Rattle.gx_rules.specs.Locks.{hold_mark, wait_mark}
use Rattle.gx_rules.specs.Machine.{Letter, World}
use Rattle.gx_rules.specs.Running.{is_granted, runs_slice}
use Rattle.gx_store.specs.Locks.{slice_lock}
use Rattle.gx_rules.specs.Segments.{Local, Seg}
use Rattle.gx_rules.specs.Slices.{starts_from}
use Rattle.gx_law_order.specs.Alive.{AreSilent, HasAnswered, HasRun, IsAlive, IsHeard, IsUnderWayBehind, WasUnderWay}
use Rattle.gx_law_order.specs.Orders.{IsOrder}
use Rattle.gx_law_order.specs.Rest.{EachMark}
use Rattle.gx_law_order.specs.Standings.{at}
use Rattle.gx_law_order.proofs.Alive.{alive-now}
use Rattle.gx_law_order.proofs.Letters.{same_node}
use Rattle.gx_law_order.proofs.Lists.{each_append, each_weaker}
use Rattle.gx_law_order.specs.Lists.{Each}
use Rattle.gx_law_order.proofs.Outs.{MessageIs}
use Rattle.gx_law_order.proofs.Ran.{LetterRan, has-run}
use Rattle.gx_law_order.proofs.Sendings.{IsOrderLetter, LetterState}
use Rattle.gx_law_order.proofs.Stepping as stepping
use Rattle.gx_law_order.proofs.Suspended.{each-both}
use Rattle.gx_law_order.proofs.World.{Knows}
use Rattle.gx_law_locks.specs.Late.{AreReleasesLate}
use Rattle.gx_law_locks.specs.Waiting.{EachBehind}
use Rattle.gx_law_locks.specs.Marked.{IsMarked}
use Rattle.gx_law_locks.proofs.Lasting.{IsIn, in-new, late-behind, late-front, still-held}
use Rattle.gx_law_locks.proofs.Tables.{own-gxid, slice-lasts}
use Rattle.gx_law_writes.proofs.AskedSlices.{Changing, IsInsertOf, Right, change-changing, change-goes, granted, lock-object, slice-needs, slice-right, table_in, went-on}
use Rattle.gx_law_writes.proofs.NeedsRows.{Stops}
use Rattle.gx_law_writes.proofs.Next.{next_command}
use Rattle.gx_law_writes.proofs.Pieces.{IsSliceOf, order-slice}
use Rattle.gx_law_writes.proofs.Plans.{row-piece}
use Rattle.gx_law_writes.proofs.Told.{SentTold, StepTold, taken-told}
use Rattle.gx_store.specs.Commands.{IsUnderWay}
use Rattle.gx_store.specs.Writes.{IsLate}
use Rattle.gx_law_order.proofs.Changing.{IsAtRow}
use Rattle.gx_ids.specs.declared.rid.Rid.{Rid}
use Rattle.gx_ids.specs.declared.ids.Table.{Table}

-- WHAT A SEGMENT HASN'T TOLD YET
le-less : {a b : ℕ} → a ≤ b → b < a → ⊥
le-less l m = omega arith

both-false : (a b : Bool) → a ≡ false → b ≡ false → (a || b) ≡ false
both-false a b e f = grind arith

module _ (script : Script) (ms : List Mark) (locals : ℕ → ℕ → Local) (node : Node) (g : Gxid) (c : Cid) (fresh : next_command (locals node.0 g.0) ≤ c.0) where
  -- a reply to a command that has still to run there is none of this one
  not-its : (h : Gxid) (d : Cid) → d.0 < next_command (locals node.0 h.0) → is_command_of g c h d ≡ false
  not-its h d less = by_test (is_command_of g c h d) refl
    where
      same : (a b i j : ℕ) → ((a == b) && (i == j)) ≡ true → (a ≡ b) × (i ≡ j)
      same a b i j e = (grind (arith, nat_tests), grind (arith, nat_tests))

      by_test : (b : Bool) → is_command_of g c h d ≡ b → b ≡ false
      by_test false e = refl
      by_test true e =
          let z = same h.0 g.0 d.0 c.0 e in
          absurd (le-less (subst (λ a. next_command (locals node.0 a) ≤ c.0) (sym z.0) fresh) (subst (λ i. i < next_command (locals node.0 h.0)) z.1 less))

  untold-marks : (xs : List Mark) → Each (SentTold script ms locals node) xs → tells xs g c ≡ false
  untold-marks [] e = refl
  untold-marks (mark.Sent to number (message.Answer h (reply.Done d w k p)) ∷ xs) e = both-false (is_command_of g c h d) (tells xs g c) (not-its h d e.0.0) (untold-marks xs e.1)
  untold-marks (mark.Sent to number (message.Answer h (reply.Failed d x)) ∷ xs) e = both-false (is_command_of g c h d) (tells xs g c) (not-its h d e.0.0) (untold-marks xs e.1)
  untold-marks (mark.Sent to number (message.Answer h reply.Prepared) ∷ xs) e = untold-marks xs e.1
  untold-marks (mark.Sent to number (message.Answer h reply.Committed) ∷ xs) e = untold-marks xs e.1
  untold-marks (mark.Sent to number (message.Answer h reply.Jfault) ∷ xs) e = untold-marks xs e.1
  untold-marks (mark.Sent to number (message.Answer h reply.Again) ∷ xs) e = untold-marks xs e.1
  untold-marks (mark.Sent to number (message.Answer h reply.Restarted) ∷ xs) e = untold-marks xs e.1
  untold-marks (mark.Sent to number (message.Answer h reply.Aborted) ∷ xs) e = untold-marks xs e.1
  untold-marks (mark.Sent to number (message.Answer h reply.Forgotten) ∷ xs) e = untold-marks xs e.1
  untold-marks (mark.Sent to number (message.Exec h d l x y z) ∷ xs) e = untold-marks xs e.1
  untold-marks (mark.Sent to number (message.Prepare h) ∷ xs) e = untold-marks xs e.1
  untold-marks (mark.Sent to number (message.Commit h) ∷ xs) e = untold-marks xs e.1
  untold-marks (mark.Sent to number (message.CommitPrepared h) ∷ xs) e = untold-marks xs e.1
  untold-marks (mark.Sent to number (message.Abort h) ∷ xs) e = untold-marks xs e.1
  untold-marks (mark.Sent to number (message.Forget h) ∷ xs) e = untold-marks xs e.1
  untold-marks (mark.Sent to number (message.Collect r) ∷ xs) e = untold-marks xs e.1
  untold-marks (mark.Sent to number (message.Graph r x) ∷ xs) e = untold-marks xs e.1
  untold-marks (mark.Sent to number message.Up ∷ xs) e = untold-marks xs e.1
  untold-marks (mark.Start h s ∷ xs) e = untold-marks xs e.1
  untold-marks (mark.Snap h d x ∷ xs) e = untold-marks xs e.1
  untold-marks (mark.Write h d n t r x ∷ xs) e = untold-marks xs e.1
  untold-marks (mark.Skip h d r ∷ xs) e = untold-marks xs e.1
  untold-marks (mark.Fault h d r x ∷ xs) e = untold-marks xs e.1
  untold-marks (mark.Commit h ∷ xs) e = untold-marks xs e.1
  untold-marks (mark.Abort h ∷ xs) e = untold-marks xs e.1
  untold-marks (mark.Answer s n a ∷ xs) e = untold-marks xs e.1
  untold-marks (mark.Hold n h x m ∷ xs) e = untold-marks xs e.1
  untold-marks (mark.Wait n h x m ∷ xs) e = untold-marks xs e.1
  untold-marks (mark.Release n h x m ∷ xs) e = untold-marks xs e.1
  untold-marks (mark.Prepared n h ∷ xs) e = untold-marks xs e.1
  untold-marks (mark.LocalCommit n h ∷ xs) e = untold-marks xs e.1
  untold-marks (mark.Decided h ∷ xs) e = untold-marks xs e.1
  untold-marks (mark.JournalFailed n h ∷ xs) e = untold-marks xs e.1
  untold-marks (mark.Restart n ∷ xs) e = untold-marks xs e.1
  untold-marks (mark.Report n x y ∷ xs) e = untold-marks xs e.1
  untold-marks (mark.Recheck x y z ∷ xs) e = untold-marks xs e.1

  pub untold-steps : 1 ≤ node.0 → (steps : List Step) → Each (StepTold script ms locals) steps → has_told steps node g c ≡ false
  untold-steps one [] e = refl
  untold-steps one (s ∷ ss) e = both-false (is_same_node s.stamp.node node && tells s.marks g c) (has_told ss node g c) (by_node (is_same_node s.stamp.node node) refl) (untold-steps one ss e.1)
    where
      by_node : (b : Bool) → is_same_node s.stamp.node node ≡ b → (b && tells s.marks g c) ≡ false
      by_node false q = refl
      by_node true q =
          let n : s.stamp.node ≡ node = same_node s.stamp.node node q in
          untold-marks s.marks (subst (λ m. Each (SentTold script ms locals m) s.marks) n (e.0 (subst (λ (m : Node). 1 ≤ m.0) (sym n) one)))

-- MARKS THAT TELL NOTHING
abbrev pub Calm : Mark → Type 0
Calm (mark.Hold n g object mode) = Unit {0}
Calm (mark.Wait n g object mode) = Unit {0}
Calm (mark.Release n g object mode) = Unit {0}
Calm (mark.Write g c n table rid image) = Unit {0}
Calm (mark.Skip g c rid) = Unit {0}
Calm (mark.Fault g c rid image) = Unit {0}
Calm _ = ⊥

calm-silent : (xs : List Mark) → Each Calm xs → AreSilent xs
calm-silent [] e = tt
calm-silent (mark.Start h s ∷ xs) e = absurd e.0
calm-silent (mark.Snap h d x ∷ xs) e = absurd e.0
calm-silent (mark.Commit h ∷ xs) e = absurd e.0
calm-silent (mark.Abort h ∷ xs) e = absurd e.0
calm-silent (mark.Answer s n a ∷ xs) e = absurd e.0
calm-silent (m ∷ xs) e = (tt, calm-silent xs e.1)

calm-untold : (g : Gxid) (c : Cid) (xs : List Mark) → Each Calm xs → tells xs g c ≡ false
calm-untold g c [] e = refl
calm-untold g c (mark.Sent to number told ∷ xs) e = absurd e.0
calm-untold g c (m ∷ xs) e = calm-untold g c xs e.1

right-calm : (script : Script) (ms : List Mark) (node : Node) (level : Level) (g : Gxid) (c : Cid) (line : Stmt) (t : Table) (earlier : List Mark) (m : Mark) → Right script ms node level g c line t earlier m → Calm m
right-calm script ms node level g c line t earlier (mark.Hold n h object mode) r = tt
right-calm script ms node level g c line t earlier (mark.Wait n h object mode) r = tt
right-calm script ms node level g c line t earlier (mark.Release n h object mode) r = tt
right-calm script ms node level g c line t earlier (mark.Write h d n table rid image) r = tt
right-calm script ms node level g c line t earlier (mark.Skip h d rid) r = tt
right-calm script ms node level g c line t earlier (mark.Fault h d rid image) r = tt
right-calm script ms node level g c line t earlier (mark.Start h s) r = absurd r
right-calm script ms node level g c line t earlier (mark.Snap h d x) r = absurd r
right-calm script ms node level g c line t earlier (mark.Commit h) r = absurd r
right-calm script ms node level g c line t earlier (mark.Abort h) r = absurd r
right-calm script ms node level g c line t earlier (mark.Answer s n a) r = absurd r
right-calm script ms node level g c line t earlier (mark.Sent to number told) r = absurd r
right-calm script ms node level g c line t earlier (mark.Prepared n h) r = absurd r
right-calm script ms node level g c line t earlier (mark.LocalCommit n h) r = absurd r
right-calm script ms node level g c line t earlier (mark.Decided h) r = absurd r
right-calm script ms node level g c line t earlier (mark.JournalFailed n h) r = absurd r
right-calm script ms node level g c line t earlier (mark.Restart n) r = absurd r
right-calm script ms node level g c line t earlier (mark.Report n x y) r = absurd r
right-calm script ms node level g c line t earlier (mark.Recheck x y z) r = absurd r

-- WHAT IS KNOWN OF A MESSAGE OF THE COORDINATOR
abbrev pub Posted : Script → World → Node → Message → Type 0
Posted script w node m = IsAlive script w node m × MessageIs script (marks_in w.steps) node m × HasRun script w.steps m

abbrev pub IsPost : Script → World → Letter → Type 0
IsPost script w l = l.from ≡ the_coordinator → Posted script w l.to l.envelope.message

pub all-posts : (script : Script) (w : World) → Knows script w → stepping.Holds script w → Each (IsPost script w) w.sent
all-posts script w n k =
    each_weaker (λ l. LetterState w.coord w.steps l × (IsOrderLetter script (marks_in w.steps) l × LetterRan script w.coord w.steps l)) (IsPost script w)
    (λ l p same. (alive-now script w n.kept k.sessions k.gathers l.to l.envelope.message (p.0 same), p.1.0 same, has-run script w.coord w.steps n.kept k.sessions k.gathers l.to l.envelope.message (p.1.1 same))) w.sent
    (each-both (LetterState w.coord w.steps) (λ l. IsOrderLetter script (marks_in w.steps) l × LetterRan script w.coord w.steps l) w.sent k.alive
    (each-both (IsOrderLetter script (marks_in w.steps)) (LetterRan script w.coord w.steps) w.sent k.orders k.ran))

-- A STEP OF A SEGMENT
module _ (script : Script) (numbered_lines : AreLinesNumbered [] script.lines) (w : World) (n : Knows script w) (k : stepping.Holds script w) (i : ℕ) (place : IsSegment script (at i)) (marked : IsMarked (marks_in w.steps) (at i) (w.segs i).locks)
    (told : Each (StepTold script (marks_in w.steps) (λ j g. (w.segs j).locals g)) w.steps) (e : Event) (quiet-event : (t : SessionId) → starts_by t e ≡ 0) (whole : List Mark) (late : AreReleasesLate [] (marks_in w.steps ++ whole)) where
  abbrev ms : List Mark
  ms = marks_in w.steps

  abbrev s : Seg
  s = w.segs i

  abbrev Goes : List Mark → Type 0
  Goes xs = (later : List Mark) → EachMark (IsAsked script) w.steps e [] xs later

  -- A COMMAND AT WORK
  module _ (g : Gxid) (c : Cid) (level : Level) (snapshot : Option Snapshot) (horizon : Gxid) (x : Slice) (post : Posted script w (at i) (message.Exec g c level snapshot horizon x)) (fresh : next_command (s.locals g.0) ≤ c.0)
      (came : (earlier later : List Mark) → HasReceived (record { steps = w.steps; event = e; earlier = earlier; later = later }) the_coordinator (at i) (message.Exec g c level snapshot horizon x)) where
    order : IsOrder script ms (at i) g c level snapshot x
    order = post.1 numbered_lines

    abbrev line : Stmt
    line = order.line

    was : WasUnderWay script w.steps g c
    was = post.2

    -- it is under way at its level, or its transaction has aborted
    stands-at : (earlier later : List Mark) → Each Calm earlier → ((session : SessionId) × IsUnderWay script (record { steps = w.steps; event = e; earlier = earlier; later = later }) session order.line level g c) ⊎ IsLate script (record { steps = w.steps; event = e; earlier = earlier; later = later }) g c order.line
    stands-at earlier later calm = by_state post.0
      where
        by_state : IsUnderWayBehind script w.steps level g c ⊎ HasAnswered (IsHeard w.steps) (at i) g c ⊎ (is_aborted ms g ≡ true)
            → ((session : SessionId) × IsUnderWay script (record { steps = w.steps; event = e; earlier = earlier; later = later }) session order.line level g c) ⊎ IsLate script (record { steps = w.steps; event = e; earlier = earlier; later = later }) g c order.line
        by_state (inl u) =
            inl (
              u.session,
              subst (λ l. IsUnderWay script (record { steps = w.steps; event = e; earlier = earlier; later = later }) u.session l level g c) (some-same u.line order.line (sym (u.of numbered_lines) ∙ order.of))
                  (u.runs e earlier later (quiet-event u.session) (calm-silent earlier calm)),
            )
        by_state (inr (inl a)) =
            let y = a.1.1.1 in
            absurd (le-less fresh (taken-told script ms (λ j g. (w.segs j).locals g) w.steps y.place y.is.sent.step y.is.sent.mark (at i) the_coordinator y.is.number (message.Answer g (reply.Done c a.0 a.1.0 a.1.1.0)) place.0 told y.is.sent.sending).0)
        by_state (inr (inr a)) =
            inr (record {
              aborted = is_aborted-append ms earlier g ∙ or_left (is_aborted ms g) (is_aborted earlier g) a;
              early = was.point;
              earlier = inl was.among;
              session = was.session;
              level = was.level;
              ran = subst (λ l. IsUnderWay script was.point was.session l was.level g c) (some-same was.line order.line (sym (was.of numbered_lines) ∙ order.of)) was.ran;
            })

    at-point : (earlier later : List Mark) → Each Calm earlier → IsOrWasUnderWay script (record { steps = w.steps; event = e; earlier = earlier; later = later }) g c order.line
    at-point earlier later calm = by_way (stands-at earlier later calm)
      where
        by_way : ((session : SessionId) × IsUnderWay script (record { steps = w.steps; event = e; earlier = earlier; later = later }) session order.line level g c) ⊎ IsLate script (record { steps = w.steps; event = e; earlier = earlier; later = later }) g c order.line
            → IsOrWasUnderWay script (record { steps = w.steps; event = e; earlier = earlier; later = later }) g c order.line
        by_way (inl u) = inl (u.0, level, u.1)
        by_way (inr l) = inr l

    runs-at : (earlier later : List Mark) → Each Calm earlier → is_aborted (ms ++ earlier) g ≡ false → (session : SessionId) × IsUnderWay script (record { steps = w.steps; event = e; earlier = earlier; later = later }) session order.line level g c
    runs-at earlier later calm unaborted = by_way (stands-at earlier later calm)
      where
        by_way : ((session : SessionId) × IsUnderWay script (record { steps = w.steps; event = e; earlier = earlier; later = later }) session order.line level g c) ⊎ IsLate script (record { steps = w.steps; event = e; earlier = earlier; later = later }) g c order.line
            → (session : SessionId) × IsUnderWay script (record { steps = w.steps; event = e; earlier = earlier; later = later }) session order.line level g c
        by_way (inl u) = u
        by_way (inr l) = absurd (true-false (is_aborted (ms ++ earlier) g) l.aborted unaborted)

    at-work : (earlier later : List Mark) → Each Calm earlier → IsAtWork script (record { steps = w.steps; event = e; earlier = earlier; later = later }) (at i) g c order.line
    at-work earlier later calm =
        record {
          level = level;
          snapshot = snapshot;
          horizon = horizon;
          slice = x;
          received = came earlier later;
          untold = untold-steps script ms (λ j g. (w.segs j).locals g) (at i) g c fresh place.0 w.steps told;
          untold_here = calm-untold g c earlier calm;
          under_way = at-point earlier later calm;
        }

    -- its slice's lock
    abbrev wanted : Claim
    wanted = slice_lock script g x

    its-slice : IsSliceOf order.line x
    its-slice = order-slice script ms (at i) g c level snapshot x order

    its-insert : IsInsertOf order.line x
    its-insert = by_slice x order
      where
        by_slice : (y : Slice) (o : IsOrder script ms (at i) g c level snapshot y) → IsInsertOf o.line y
        by_slice (slice.Insert t rows) o =
            let r = row-piece script ms (at i) g c level snapshot t rows o in
            (r.tuples, some-same o.line _ (sym o.of ∙ r.of))
        by_slice (slice.Select q) o = tt
        by_slice (slice.Update t a d) o = tt
        by_slice (slice.Delete t d) o = tt
        by_slice (slice.Lock t m) o = tt

    table-needs : NeedsTable script g order.line (slice_lock script g x).object (slice_lock script g x).mode
    table-needs = slice-needs script g order.line x its-slice its-insert

    locks-table : NeedsTable script g order.line (Relation (table_in x)) (slice_lock script g x).mode
    locks-table = subst (λ o. NeedsTable script g order.line o (slice_lock script g x).mode) (lock-object script g x) table-needs

    changes : (q : Change) → change_of c level snapshot x ≡ Some q → GoesThroughRows order.line q.table q.cond × ((q.level ≡ level) × (q.cid ≡ c) × (q.table ≡ table_in x))
    changes q is = (change-goes order.line c level snapshot x q is its-slice, change-changing c level snapshot x q is)

    abbrev Rightly : List Mark → Mark → Type 0
    Rightly earlier m = Right script ms (at i) level g c order.line (table_in x) earlier m

    -- ITS MARKS
    -- of the command's own transaction, at the node
    owned : (P : Node → Gxid → Type 0) (node : Node) (owner : Gxid) → node ≡ at i → owner ≡ g → P (at i) g → P node owner
    owned P node owner there its p = subst (λ q. P q owner) (sym there) (subst (λ q. P (at i) q) (sym its) p)

    asks : (earlier later : List Mark) → Each Calm earlier → (node : Node) (owner : Gxid) (object : Object) (mode : Mode) → node ≡ at i → owner ≡ g → Needs script (ms ++ earlier) (at i) level g c order.line object mode
        → Asks script (record { steps = w.steps; event = e; earlier = earlier; later = later }) node owner object mode
    asks earlier later calm node owner object mode there its needs =
        owned (λ a b. Asks script (record { steps = w.steps; event = e; earlier = earlier; later = later }) a b object mode) node owner there its
        (inr (record { cid = c; line = order.line; at_work = at-work earlier later calm; level = level; runs = runs-at earlier later calm; needs = needs }))

    grants : (earlier later : List Mark) → Each Calm earlier → (node : Node) (owner : Gxid) (object : Object) (mode : Mode) → node ≡ at i → owner ≡ g → list_any (same_claim (claim g object mode)) (waits_at (ms ++ earlier) (at i)) ≡ true
        → GrantsWait script (record { steps = w.steps; event = e; earlier = earlier; later = later }) node owner object mode
    grants earlier later calm node owner object mode there its waited =
        owned (λ a b. GrantsWait script (record { steps = w.steps; event = e; earlier = earlier; later = later }) a b object mode) node owner there its
        (record { cid = c; line = order.line; at_work = at-work earlier later calm; waited = waited })

    -- behind marks behind which it holds its table
    module _ (lead : List Mark) (base : IsIn (holds_at (marks_in w.steps ++ lead) (at i)) (slice_lock script g x)) where
      holds-on : (more rest : List Mark) → whole ≡ lead ++ (more ++ rest) → is_ended (ms ++ (lead ++ more)) g ≡ false → is_held (ms ++ (lead ++ more)) (at i) g (Relation (table_in x)) (slice_lock script g x).mode ≡ true
      holds-on more rest split running =
          subst (λ (y : Claim). IsIn (holds_at (ms ++ (lead ++ more)) (at i)) y) lock-is
          (subst (λ b. IsIn (holds_at b (at i)) (slice_lock script g x)) (append_assoc ms lead more)
          (still-held (at i) (slice_lock script g x) (slice-lasts script (at i) g x) (ms ++ lead) more
          (late-behind [] (ms ++ lead) more (late-front [] ((ms ++ lead) ++ more) rest (subst (AreReleasesLate []) parts late)))
          (subst (λ (q : Gxid). is_ended ((ms ++ lead) ++ more) q ≡ false) (sym (own-gxid script g x)) (subst (λ b. is_ended b g ≡ false) (sym (append_assoc ms lead more)) running)) base))
        where
          parts : ms ++ whole ≡ ((ms ++ lead) ++ more) ++ rest
          parts = ap (λ q. ms ++ q) split ∙ sym (append_assoc ms lead (more ++ rest)) ∙ sym (append_assoc (ms ++ lead) more rest)

          by_slice : (y : Slice) → slice_lock script g y ≡ claim g (Relation (table_in y)) (slice_lock script g y).mode
          by_slice (slice.Select q) = refl
          by_slice (slice.Insert t rows) = refl
          by_slice (slice.Update t a d) = refl
          by_slice (slice.Delete t d) = refl
          by_slice (slice.Lock t m) = refl

          lock-is : slice_lock script g x ≡ claim g (Relation (table_in x)) (slice_lock script g x).mode
          lock-is = by_slice x

      writes : (more later rest : List Mark) → Each Calm (lead ++ more) → whole ≡ lead ++ (more ++ rest) → WritesAtWork script (record { steps = w.steps; event = e; earlier = lead ++ more; later = later }) (at i) g c (table_in x)
      writes more later rest calm split =
          record { line = order.line; at_work = at-work (lead ++ more) later calm; mode = (slice_lock script g x).mode; locks = locks-table; held = λ unaborted. by_way unaborted (at-point (lead ++ more) later calm) }
        where
          by_way : is_aborted (ms ++ (lead ++ more)) g ≡ false → IsOrWasUnderWay script (record { steps = w.steps; event = e; earlier = lead ++ more; later = later }) g c order.line
              → is_held (ms ++ (lead ++ more)) (at i) g (Relation (table_in x)) (slice_lock script g x).mode ≡ true
          by_way unaborted (inl u) = holds-on more rest split u.2.running
          by_way unaborted (inr l) = absurd (true-false (is_aborted (ms ++ (lead ++ more)) g) l.aborted unaborted)

      one : (more later rest : List Mark) (m : Mark) → Each Calm (lead ++ more) → whole ≡ lead ++ (more ++ rest) → Rightly (lead ++ more) m → IsAsked script (record { steps = w.steps; event = e; earlier = lead ++ more; later = later }) m
      one more later rest (mark.Hold node owner object mode) calm split (there, its, inl needs) = inl (asks (lead ++ more) later calm node owner object mode there its needs)
      one more later rest (mark.Hold node owner object mode) calm split (there, its, inr (inl waited)) = inr (inl (grants (lead ++ more) later calm node owner object mode there its waited))
      one more later rest (mark.Hold node owner object mode) calm split (there, its, inr (inr own)) = inr (inr own)
      one more later rest (mark.Wait node owner object mode) calm split r = asks (lead ++ more) later calm node owner object mode r.0 r.1 r.2
      one more later rest (mark.Write owner d node table rid image) calm split r =
          subst (λ q. WritesAtWork script (record { steps = w.steps; event = e; earlier = lead ++ more; later = later }) q owner d table) (sym r.0)
          (subst (λ q. WritesAtWork script (record { steps = w.steps; event = e; earlier = lead ++ more; later = later }) (at i) q d table) (sym r.1)
          (subst (λ q. WritesAtWork script (record { steps = w.steps; event = e; earlier = lead ++ more; later = later }) (at i) g q table) (sym r.2)
          (subst (λ q. WritesAtWork script (record { steps = w.steps; event = e; earlier = lead ++ more; later = later }) (at i) g c q) (sym r.3) (writes more later rest calm split))))
      one more later rest (mark.Release node owner object mode) calm split r = tt
      one more later rest (mark.Skip owner d rid) calm split r = tt
      one more later rest (mark.Fault owner d rid image) calm split r = tt
      one more later rest (mark.Start a b) calm split r = absurd r
      one more later rest (mark.Snap a b d) calm split r = absurd r
      one more later rest (mark.Commit a) calm split r = absurd r
      one more later rest (mark.Abort a) calm split r = absurd r
      one more later rest (mark.Answer a b d) calm split r = absurd r
      one more later rest (mark.Sent a b d) calm split r = absurd r
      one more later rest (mark.Prepared a b) calm split r = absurd r
      one more later rest (mark.LocalCommit a b) calm split r = absurd r
      one more later rest (mark.Decided a) calm split r = absurd r
      one more later rest (mark.JournalFailed a b) calm split r = absurd r
      one more later rest (mark.Restart a) calm split r = absurd r
      one more later rest (mark.Report a b d) calm split r = absurd r
      one more later rest (mark.Recheck a b d) calm split r = absurd r

      all : (more xs later rest : List Mark) → Each Calm (lead ++ more) → whole ≡ lead ++ (more ++ (xs ++ rest)) → EachBehind (Right script ms (at i) level g c order.line (table_in x)) (lead ++ more) xs → EachMark (IsAsked script) w.steps e (lead ++ more) xs later
      all more [] later rest calm split r = tt
      all more (m ∷ xs) later rest calm split r = (
        one more (xs ++ later) ((m ∷ xs) ++ rest) m calm split r.0,
        subst (λ q. EachMark (IsAsked script) w.steps e q xs later) (sym (append_assoc lead more (m ∷ [])))
            (all (more ++ m ∷ []) xs later rest (subst (Each Calm) (append_assoc lead more (m ∷ [])) (each_append Calm (lead ++ more) (m ∷ []) calm (right-calm script ms (at i) level g c order.line (table_in x) (lead ++ more) m r.0, tt)))
            (split ∙ ap (λ q. lead ++ q) (sym (append_assoc more (m ∷ []) (xs ++ rest)))) (subst (λ q. EachBehind (Right script ms (at i) level g c order.line (table_in x)) q xs) (append_assoc lead more (m ∷ [])) r.1)),
      )

    -- FROM THE START
    -- with its table's lock it runs
    pub runs : (base : Seg) → base.node ≡ at i → (node : Node) → node ≡ at i → ((q : Change) → change_of c level snapshot x ≡ Some q → Stops (ms ++ hold_mark node (slice_lock script g x) ∷ []) (at i) g q (selected q.cond (shown_to base g q)) (starts_from base))
        → (rest : List Mark) → whole ≡ hold_mark node (slice_lock script g x) ∷ ((runs_slice base g c level snapshot x).marks ++ rest) → Goes (hold_mark node (slice_lock script g x) ∷ (runs_slice base g c level snapshot x).marks)
    runs base there node at_node stops rest split later = (
      inl (asks [] ((runs_slice base g c level snapshot x).marks ++ later) tt node (slice_lock script g x).gxid (slice_lock script g x).object (slice_lock script g x).mode at_node (own-gxid script g x) (inl table-needs)),
      subst (λ q. EachMark (IsAsked script) w.steps e q (runs_slice base g c level snapshot x).marks later) (append-nil (hold_mark node (slice_lock script g x) ∷ []))
          (all (hold_mark node (slice_lock script g x) ∷ []) held [] (runs_slice base g c level snapshot x).marks later rest (tt, tt) split
          (slice-right script ms (at i) level g c order.line (table_in x) (hold_mark node (slice_lock script g x) ∷ []) base there snapshot x refl changing)),
    )
      where
        changing : (q : Change) → change_of c level snapshot x ≡ Some q → Changing script ms (at i) level g c order.line (table_in x) (hold_mark node (slice_lock script g x) ∷ []) base q
        changing q is = let z = changes q is in record { through = z.0; isolation = z.1.0; number = z.1.1; on = z.1.2; stops = stops q is }

        itself : (a : ℕ) → (a == a) ≡ true
        itself a = grind (arith, nat_tests)

        held : IsIn (holds_at (ms ++ hold_mark node (slice_lock script g x) ∷ []) (at i)) (slice_lock script g x)
        held =
            subst (λ q. IsIn q (slice_lock script g x)) (sym (holds_from-append (at i) [] ms (hold_mark node (slice_lock script g x) ∷ [])))
            (subst (λ b. IsIn (if b then with_claim (slice_lock script g x) (holds_at ms (at i)) else holds_at ms (at i)) (slice_lock script g x)) (sym (ap (λ (q : Node). q.0 == i) at_node ∙ itself i)) (in-new (slice_lock script g x) (holds_at ms (at i))))

    -- or it waits for it
    pub waits : (node : Node) → node ≡ at i → Goes (wait_mark node (slice_lock script g x) ∷ [])
    waits node at_node later = (asks [] later tt node (slice_lock script g x).gxid (slice_lock script g x).object (slice_lock script g x).mode at_node (own-gxid script g x) (inl table-needs), tt)

    -- FROM A ROW ON
    pub row-on : (q : Change) → change_of c level snapshot x ≡ Some q → (rid : Rid) (rids : List Rid) (count : ℕ) (wanted_there : Claim) → list_any (same_claim wanted_there) (w.segs i).locks.waits ≡ true → IsAtRow g rid wanted_there → IsIn (w.segs i).locks.holds (slice_lock script g x) → s.node ≡ at i
        → Stops (ms ++ []) (at i) g q (rid ∷ rids) (is_granted s g wanted_there) → (rest : List Mark)
        → whole ≡ (goes_through g q (rid ∷ rids) (is_granted s g wanted_there) count).marks ++ rest → Goes (goes_through g q (rid ∷ rids) (is_granted s g wanted_there) count).marks
    row-on q is rid rids count wanted_there waited lock has there stops rest split later =
        let z = changes q is in
        all [] (subst (λ b. IsIn (holds_at b (at i)) (slice_lock script g x)) (sym (append-nil ms)) (subst (λ b. IsIn b (slice_lock script g x)) marked.holds has))
        [] _ later rest tt split
        (went-on script ms (at i) level g c order.line (table_in x) [] q z.0 z.1.0 z.1.1 z.1.2 (rid ∷ rids) count (is_granted s g wanted_there) stops
        (granted script ms (at i) level g c order.line (table_in x) s rid wanted_there there
        (subst (λ q. list_any (same_claim wanted_there) (waits_at q (at i)) ≡ true) (sym (append-nil ms)) (subst (λ q. list_any (same_claim wanted_there) q ≡ true) marked.waits waited)) lock))
