-- A command that waits at a row: which of the rows that it has selected it has done, and which are left; and one that is done with all.
use Rattle.std.proofs.Common.{◌≡◌, ◌∙◌, ◌⊎◌, inl, inr, ℕ, ◌==◌, List, [], ◌∷◌, ◌++◌, Option, Some, None, Bool, true, false, refl, ap, sym, subst, if◌then◌else◌, ◌&&◌, ◌||◌, arith, take}
use Rattle.std.proofs.lemmas.Bool.{or_left}
use Rattle.std.proofs.lemmas.List.{append-nil, append_assoc}
use Rattle.gx_lemmas.proofs.Lists.{get-append}
use Rattle.gx_lemmas.proofs.Numbers.{eqb-self}
use Rattle.gx_lemmas.proofs.Tests.{or-false}
use Rattle.gx_ids.specs.declared.ids.Cid.{Cid}
use Rattle.gx_ids.specs.declared.ids.Gxid.{Gxid}
use Rattle.gx_ids.specs.declared.ids.Node.{Node}
use Rattle.gx_ids.specs.declared.ids.Table.{Table}
use Rattle.gx_ids.specs.declared.rid.Rid.{Rid}
use Rattle.gx_tree.specs.declared.row.KeyedRow.{KeyedRow}
use Rattle.gx_tree.specs.declared.stmt.Level.{Level}
use Rattle.gx_tree.specs.declared.value.Value.{Value}
use Rattle.gx_dsnap.specs.declared.snapshot.Snapshot.{Snapshot}
use Rattle.gx_script.specs.declared.Script.{Script}
use Rattle.gx_store.proofs.Marks.{image_after-append, is_processed-append}
use Rattle.gx_store.specs.declared.event.Event.{Event}
use Rattle.gx_store.specs.declared.mark.Mark.{Mark}
use Rattle.gx_store.specs.declared.mark.Mark.TheVariants as mark
use Rattle.gx_store.specs.declared.run.Step.{Step}
use Rattle.gx_store.specs.Answers.{FaultsOnNone}
use Rattle.gx_store.specs.Commands.{IsSnapshotAt}
use Rattle.gx_store.specs.Marks.{is_aborted, is_processed, is_same_rid, node_of}
use Rattle.gx_store.specs.View.{image, image_after, is_shown_to}
use Rattle.gx_rules.specs.Changes.{Change, change_of, selected, suspended_at, suspends_at}
use Rattle.gx_rules.specs.Segments.{Seg, SegTurn, Suspended, Version}
use Rattle.gx_rules.specs.Slices.{Moved}
use Rattle.gx_rules.specs.Visits.{DidStop, Visit, WaitsAt, visited}
use Rattle.gx_law_order.proofs.Lists.{each_append, each_weaker}
use Rattle.gx_law_order.specs.Lists.{Each}
use Rattle.gx_law_order.specs.Orders.{IsServed}
use Rattle.gx_law_reads.specs.Sights.{IsOnlyAt}
use Rattle.gx_law_writes.specs.Parts.{IsPartOf}
use Rattle.gx_law_writes.proofs.Comes.{stop-locks}
use Rattle.gx_law_writes.proofs.Frames.{Inv}
use Rattle.gx_law_writes.proofs.Parts.{part-later}
use Rattle.gx_law_writes.proofs.Path.{IsLock, locks-process-none}
use Rattle.gx_law_writes.proofs.Turn.{HasFinished, HasHalted}
use Rattle.gx_law_writes.proofs.RowWalk.{Done, Free, Rules, own_count}

-- by these marks, with these versions at the node
abbrev pub AreDone : List Mark → Gxid → Change → List Rid → Type 0
AreDone ms g k rids = Each (λ rid. is_processed ms g k.cid rid ≡ true) rids

abbrev pub AreLeft : List Mark → Gxid → Change → List Rid → Type 0
AreLeft ms g k rids = Each (λ rid. is_processed ms g k.cid rid ≡ false) rids

-- the node's part of what it sees, on none of whose rows its condition faults
pub record HasPart (ms : List Mark) (node : Node) (g : Gxid) (k : Change) : Type 0 where
  pub served : IsServed ms k.level g k.cid k.snapshot
  pub part : List KeyedRow
  pub its : IsPartOf ms (take served.place ms) node g k.cid k.table part
  pub whole : FaultsOnNone k.cond part

pub record IsHalfDone (ms : List Mark) (versions : List Version) (node : Node) (g : Gxid) (k : Change) (left : List Rid) (count : ℕ) : Type 0 where
  pub has : HasPart ms node g k
  pub done : List Rid
  pub split : selected k.cond has.part ≡ done ++ left
  pub ready : AreDone ms g k done
  pub free : AreLeft ms g k left
  pub counted : count ≡ own_count g k.cid versions

pub record IsAllDone (ms : List Mark) (versions : List Version) (node : Node) (g : Gxid) (k : Change) (count : ℕ) : Type 0 where
  pub has : HasPart ms node g k
  pub ready : AreDone ms g k (selected k.cond has.part)
  pub counted : count ≡ own_count g k.cid versions

-- a slice that waits there at a row, unless its transaction has aborted
abbrev pub IsHalfAt : List Mark → List Version → Node → Gxid → Suspended → Option Rid → Type 0
IsHalfAt ms versions node g x None = Unit {0}
IsHalfAt ms versions node g x (Some rid) = (k : Change) → change_of x.cid x.level x.snapshot x.slice ≡ Some k → is_aborted ms g ≡ false → IsHalfDone ms versions node g k (rid ∷ x.rows) x.count

abbrev pub IsHalf : List Mark → List Version → Node → Gxid → Option Suspended → Type 0
IsHalf ms versions node g None = Unit {0}
IsHalf ms versions node g (Some x) = IsHalfAt ms versions node g x x.row

-- LATER
-- Behind more marks, none of which does anything to the rows left, while the command's view stays.
module _ (ms more : List Mark) (nodes : (rid : Rid) (first : Node) → node_of (ms ++ more) rid ≡ Some first → IsOnlyAt first rid (ms ++ more)) (node : Node) (g : Gxid) (k : Change) where
  abbrev pub ViewStays : ℕ → Type 0
  ViewStays place = (rid : Rid) → IsOnlyAt node rid (ms ++ more) → image (ms ++ more) (take place (ms ++ more)) (Some (g, k.cid)) k.table rid ≡ image ms (take place ms) (Some (g, k.cid)) k.table rid

  pub has-later : (h : HasPart ms node g k) → ViewStays h.served.place → HasPart (ms ++ more) node g k
  has-later h stays =
      record {
        served = record { place = h.served.place; d = h.served.d; taken = get-append ms more h.served.place _ h.served.taken; serves = h.served.serves };
        part = h.part;
        its = part-later ms more nodes node k.level g k.cid h.served.place (record { d = h.served.d; snapshot = k.snapshot; taken = h.served.taken; serves = h.served.serves }) k.table stays h.part h.its;
        whole = h.whole;
      }

  pub done-later : (rids : List Rid) → AreDone ms g k rids → AreDone (ms ++ more) g k rids
  done-later rids e =
      each_weaker (λ rid. is_processed ms g k.cid rid ≡ true) (λ rid. is_processed (ms ++ more) g k.cid rid ≡ true)
      (λ rid h. is_processed-append ms more g k.cid rid ∙ or_left (is_processed ms g k.cid rid) (is_processed more g k.cid rid) h) rids e

  pub left-later : (rids : List Rid) → AreLeft ms g k rids → AreLeft more g k rids → AreLeft (ms ++ more) g k rids
  left-later [] e f = tt
  left-later (r ∷ rs) e f = (is_processed-append ms more g k.cid r ∙ ap (λ b. b || is_processed more g k.cid r) e.0 ∙ f.0, left-later rs e.1 f.1)

  pub half-later : (old new : List Version) (left : List Rid) (count : ℕ) (h : IsHalfDone ms old node g k left count) → ViewStays h.has.served.place → AreLeft more g k left → own_count g k.cid new ≡ own_count g k.cid old
      → IsHalfDone (ms ++ more) new node g k left count
  unfolding has-later
  half-later old new left count h stays free same =
      record {
        has = has-later h.has stays;
        done = h.done;
        split = h.split;
        ready = done-later h.done h.ready;
        free = left-later left h.free free;
        counted = h.counted ∙ sym same;
      }

-- A TURN OF ITS LOOP
each-two : (P : Rid → Type 0) (xs ys : List Rid) → Each P xs → Each P ys → Each P (xs ++ ys)
each-two P xs ys e f = each_append P xs ys e f

module _ (old pre : List Mark) (s : Seg) (g : Gxid) (k : Change) (Chosen : Rid → Type 0) (Ok : List Mark → Mark → Type 0) (rules : Rules old pre s g k Chosen Ok) (m : Moved) (rids : List Rid) (turn : SegTurn) where
  abbrev before : List Mark
  before = old ++ pre

  -- what was done is done behind it
  still-done : (last : Moved) → ((q : Rid) → Done old pre s g k Chosen Ok rules m q → Done old pre s g k Chosen Ok rules last q) → (done : List Rid) → AreDone (before ++ m.marks) g k done → AreDone (before ++ last.marks) g k done
  still-done last stays done e = each_weaker (λ q. is_processed (before ++ m.marks) g k.cid q ≡ true) (λ q. is_processed (before ++ last.marks) g k.cid q ≡ true) stays done e

  -- it waits at a row: what is left there
  pub record HasLeft (done : List Rid) : Type 0 where
    pub rid : Rid
    pub rest : List Rid
    pub now : List Rid
    pub split : done ++ rids ≡ now ++ (rid ∷ rest)
    pub ready : AreDone ((old ++ pre) ++ turn.marks) g k now
    pub free : AreLeft ((old ++ pre) ++ turn.marks) g k (rid ∷ rest)
    pub suspended : (turn.seg.locals g.0).suspended ≡ Some (suspended_at k rid rest (own_count g k.cid turn.seg.versions))

  stop-versions : (last : Moved) (rid : Rid) (writer : Gxid) (stopped : Moved) → WaitsAt last g rid writer stopped → stopped.seg.versions ≡ last.seg.versions
  stop-versions last rid writer stopped (inl h) = ap (λ (n : Moved). n.seg.versions) h.1
  stop-versions last rid writer stopped (inr (inl h)) = ap (λ (n : Moved). n.seg.versions) h.1
  stop-versions last rid writer stopped (inr (inr h)) = ap (λ (n : Moved). n.seg.versions) h.1

  locks-same : (ms locks : List Mark) (rid : Rid) → Each IsLock locks → is_processed (ms ++ locks) g k.cid rid ≡ is_processed ms g k.cid rid
  locks-same ms locks rid e = is_processed-append ms locks g k.cid rid ∙ ap (λ b. is_processed ms g k.cid rid || b) (locks-process-none g k.cid rid locks e) ∙ or-false (is_processed ms g k.cid rid)

  pub halted-left : (done : List Rid) → AreDone (before ++ m.marks) g k done → HasHalted old pre s g k Chosen Ok rules m rids turn → HasLeft done
  halted-left done ready h =
      record {
        rid = h.rid;
        rest = h.rest;
        now = done ++ visited h.visits;
        split = ap (λ rs. done ++ rs) h.split ∙ sym (append_assoc done (visited h.visits) (h.rid ∷ h.rest));
        ready = subst (λ ms. AreDone ms g k (done ++ visited h.visits)) (sym marks-are)
            (each_weaker (λ q. is_processed (before ++ h.last.marks) g k.cid q ≡ true) (λ q. is_processed ((before ++ h.last.marks) ++ locks.0) g k.cid q ≡ true) (λ q e. locks-same (before ++ h.last.marks) locks.0 q locks.2 ∙ e) (done ++ visited h.visits)
            (each-two (λ q. is_processed (before ++ h.last.marks) g k.cid q ≡ true) done (visited h.visits) (still-done h.last h.gone.stays done ready) h.gone.done));
        free = subst (λ ms. AreLeft ms g k (h.rid ∷ h.rest)) (sym marks-are)
            (each_weaker (λ q. is_processed (before ++ h.last.marks) g k.cid q ≡ false) (λ q. is_processed ((before ++ h.last.marks) ++ locks.0) g k.cid q ≡ false) (λ q e. locks-same (before ++ h.last.marks) locks.0 q locks.2 ∙ e) (h.rid ∷ h.rest) h.gone.left);
        suspended = ap (λ (t : SegTurn). (t.seg.locals g.0).suspended) h.is ∙ here ∙ ap (λ vs. Some (suspended_at k h.rid h.rest (own_count g k.cid vs))) (sym versions-are);
      }
    where
      locks : (locks : List Mark) × (h.stop.stopped.marks ≡ h.last.marks ++ locks) × Each IsLock locks
      locks = stop-locks g k h.last h.rid h.row h.stop

      marks-are : before ++ turn.marks ≡ (before ++ h.last.marks) ++ locks.0
      marks-are = ap (λ (t : SegTurn). before ++ t.marks) h.is ∙ ap (λ ms. before ++ ms) locks.1 ∙ sym (append_assoc before h.last.marks locks.0)

      versions-are : turn.seg.versions ≡ h.last.seg.versions
      versions-are = ap (λ (t : SegTurn). t.seg.versions) h.is ∙ stop-versions h.last h.rid h.stop.version.gxid h.stop.stopped h.stop.how

      here : ((suspends_at h.stop.stopped g k (suspended_at k h.rid h.rest (own_count g k.cid h.last.seg.versions))).seg.locals g.0).suspended
          ≡ Some (suspended_at k h.rid h.rest (own_count g k.cid h.last.seg.versions))
      here = ap (λ (b : Bool). (if b then record (h.stop.stopped.seg.locals g.0) { last = k.cid.0; answer = None; suspended = Some (suspended_at k h.rid h.rest (own_count g k.cid h.last.seg.versions)) } else h.stop.stopped.seg.locals g.0).suspended) (eqb-self g.0)

  -- it is done with all
  pub finished-done : (done : List Rid) → AreDone (before ++ m.marks) g k done → HasFinished old pre s g k Chosen Ok rules m rids turn → AreDone (before ++ turn.marks) g k (done ++ rids)
  finished-done done ready h =
      subst (λ (t : SegTurn). AreDone (before ++ t.marks) g k (done ++ rids)) (sym h.is)
      (each-two (λ q. is_processed (before ++ h.last.marks) g k.cid q ≡ true) done rids (still-done h.last h.gone.stays done ready) (subst (AreDone (before ++ h.last.marks) g k) h.all h.gone.done))
