-- What a segment does in a turn: a slice takes its lock and runs, at once or behind a wait, or goes on at its row; or it rests, or
-- begins to wait.
use Rattle.std.proofs.Common.{◌≡◌, ◌≤◌, ◌⊎◌, ℕ, List, [], ◌∷◌, ◌++◌, Option, Some, None, Bool, true, false, refl, ◌||◌}
use Rattle.std.specs.Prelude.{is_some, slice_get, take}
use Rattle.gx_ids.specs.declared.ids.Cid.{Cid}
use Rattle.gx_ids.specs.declared.ids.Gxid.{Gxid}
use Rattle.gx_ids.specs.declared.ids.Node.{Node}
use Rattle.gx_ids.specs.declared.ids.Table.{Table}
use Rattle.gx_ids.specs.declared.rid.Rid.{Rid}
use Rattle.gx_tree.specs.declared.part.Part.{Part}
use Rattle.gx_tree.specs.declared.slice.Slice.{Slice}
use Rattle.gx_tree.specs.declared.stmt.Level.{Level}
use Rattle.gx_dsnap.specs.declared.snapshot.Snapshot.{Snapshot}
use Rattle.gx_waits.specs.declared.claim.Claim.{Claim}
use Rattle.gx_locks.specs.Locks.{Locks}
use Rattle.gx_msg.specs.declared.message.Message.TheVariants as message
use Rattle.gx_msg.specs.declared.reply.Reply.{Reply}
use Rattle.gx_msg.specs.declared.reply.Reply.TheVariants as reply
use Rattle.gx_script.specs.declared.Script.{Script}
use Rattle.gx_store.specs.declared.event.Event.{Event}
use Rattle.gx_store.specs.declared.mark.Mark.{Mark}
use Rattle.gx_store.specs.declared.mark.Mark.TheVariants as mark
use Rattle.gx_store.specs.declared.node.NodeEvent.{NodeEvent}
use Rattle.gx_store.specs.Marks.{is_aborted}
use Rattle.gx_store.specs.Messages.{IsSent}
use Rattle.gx_store.specs.Points.{marks_in}
use Rattle.gx_store.specs.Rows.{row_at}
use Rattle.gx_store.specs.View.{image}
use Rattle.gx_rules.specs.AtSegment.{on_event, raised, seg_rule}
use Rattle.gx_rules.specs.Changes.{Change, change_of}
use Rattle.gx_rules.specs.Fits.{reads_nothing}
use Rattle.gx_rules.specs.Locks.{hold_mark}
use Rattle.gx_rules.specs.Machine.{World, seg_did, world_of}
use Rattle.gx_rules.specs.Segments.{Seg, SegTurn, after_marks, local_of, reply as reply_out}
use Rattle.gx_rules.specs.Shown.{shown}
use Rattle.gx_rules.specs.Running.{runs_slice}
use Rattle.gx_store.specs.Locks.{slice_lock}
use Rattle.gx_law_order.specs.Lists.{Each}
use Rattle.gx_law_order.proofs.Waiting.{GoesOn, GoesOnAtRow}
use Rattle.gx_law_reads.specs.Sights.{IsOnlyAt}
use Rattle.gx_law_writes.specs.Changes.{IsTrueTurn}
use Rattle.gx_law_writes.proofs.Next.{next_command}
use Rattle.gx_law_writes.proofs.Turns.{NoRow, Quiet, base}
use Rattle.gx_law_answers.specs.Earned.{Events, RunsAtOnce, RunsBehindWait}
use Rattle.gx_law_answers.proofs.Posts.{Came}

-- who reads or adds rows has a snapshot
pub snapshot-of : (o : Option Snapshot) → (is_some o || false) ≡ true → (v : Snapshot) × (o ≡ Some v)
snapshot-of None e = absurd (cc)
snapshot-of (Some v) e = (v, refl)

module _ (script : Script) (es : Events) (to : Node) (e : Event) (fails : Bool) (x : NodeEvent) where
  abbrev w : World
  w = world_of script es

  abbrev ms : List Mark
  ms = marks_in (world_of script es).steps

  abbrev s : Seg
  s = (world_of script es).segs to.0

  abbrev turn : SegTurn
  turn = on_event script ((world_of script es).segs to.0) x fails

  -- A slice runs with its lock, of a command that has come and isn't answered there; on a segment that is this one but for the
  -- slice's own wait.
  pub record Runs (y : Slice) : Type 0 where
    pub g : Gxid
    pub c : Cid
    pub level : Level
    pub snapshot : Option Snapshot
    pub reads : (is_some snapshot || reads_nothing y) ≡ true
    pub horizon : Gxid
    pub came : Came script es to (message.Exec g c level snapshot horizon y)
    pub untold : (n : Node) (number : ℕ) (wrote : Bool) (count : ℕ) (part : Part) → IsSent (world_of script es).steps to n number (message.Answer g (reply.Done c wrote count part)) → ⊥
    pub next : next_command (local_of ((world_of script es).segs to.0) g) ≤ c.0
    pub like : Seg
    pub named : like.node ≡ ((world_of script es).segs to.0).node
    pub versions : like.versions ≡ ((world_of script es).segs to.0).versions
    pub answers : (h : ℕ) → (like.locals h).answer ≡ (((world_of script es).segs to.0).locals h).answer
    pub sight : is_aborted (marks_in (world_of script es).steps) g ≡ false → (v : Snapshot) → snapshot ≡ Some v → (k : ℕ) (d : Cid) → slice_get (marks_in (world_of script es).steps) k ≡ Some (mark.Snap g d v) → (table : Table) (rid : Rid) → IsOnlyAt to rid (marks_in (world_of script es).steps)
        → row_at (shown (raised like horizon) v g c table) rid ≡ image (marks_in (world_of script es).steps) (take k (marks_in (world_of script es).steps)) (Some (g, c)) table rid
    pub locks : Locks
    pub wanted : Claim
    pub lock : slice_lock script g y ≡ wanted
    pub ran : on_event script ((world_of script es).segs to.0) x fails ≡ after_marks (hold_mark ((world_of script es).segs to.0).node wanted ∷ []) (runs_slice (base like horizon locks) g c level snapshot y)
    pub turned : (k : Change) → change_of c level snapshot y ≡ Some k → IsTrueTurn script (world_of script es) e to g k (on_event script ((world_of script es).segs to.0) x fails)
    pub given : (r : Reply) → (on_event script ((world_of script es).segs to.0) x fails).outs ≡ reply_out g r ∷ [] → RunsAtOnce script (world_of script es) e fails to g c level snapshot y r ⊎ RunsBehindWait script (world_of script es) e to g c level snapshot y r

  -- Behind its wait at a row, where its command has come and isn't answered, it goes on at that row and through those left.
  pub record AtItsRow : Type 0 where
    pub g : Gxid
    pub on : GoesOn script (world_of script es) to.0 g
    pub goes : GoesOnAtRow ((world_of script es).segs to.0) g on.slice on.wanted (on_event script ((world_of script es).segs to.0) x fails)
    pub came : Came script es to (message.Exec g on.slice.cid on.slice.level on.slice.snapshot on.waits.horizon on.slice.slice)
    pub next : next_command (local_of ((world_of script es).segs to.0) g) ≤ on.slice.cid.0
    pub turned : (k : Change) → change_of on.slice.cid on.slice.level on.slice.snapshot on.slice.slice ≡ Some k → IsTrueTurn script (world_of script es) e to g k (on_event script ((world_of script es).segs to.0) x fails)
    pub given : (r : Reply) → (on_event script ((world_of script es).segs to.0) x fails).outs ≡ reply_out g r ∷ [] → RunsBehindWait script (world_of script es) e to g on.slice.cid on.slice.level on.slice.snapshot on.slice.slice r

  -- it tells nothing, and no row
  pub record Idle : Type 0 where
    pub marks : Each NoRow turn.marks
    pub kept : (h : ℕ) → ((turn.seg.locals h).answer ≡ None) ⊎ ((turn.seg.locals h).answer ≡ (s.locals h).answer)
    pub outs : turn.outs ≡ []

  abbrev pub Doings : Type 0
  Doings = Quiet s turn ⊎ Idle ⊎ ((y : Slice) × Runs y) ⊎ AtItsRow

  -- the world behind it
  abbrev pub IsLate : Type 0
  IsLate = world_of script (es ++ (e, fails) ∷ []) ≡ seg_did (world_of script es) to e (seg_rule script ((world_of script es).segs to.0) x fails)
