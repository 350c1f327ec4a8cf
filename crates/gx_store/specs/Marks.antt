-- What is counted and looked up in a list of marks. "Marks" are always those of a run from its beginning, up to a point.
use Rattle.std.specs.Prelude.{ℕ, ◌+◌, ◌==◌, Bool, false, if◌then◌else◌, ◌&&◌, ◌||◌, List, [], ◌∷◌, Some, None}
use Rattle.std.specs.declared.option.Option.{Option}
use Rattle.gx_ids.specs.declared.ids.Gxid.{Gxid}
use Rattle.gx_ids.specs.declared.ids.Cid.{Cid}
use Rattle.gx_ids.specs.declared.ids.Node.{Node}
use Rattle.gx_ids.specs.declared.ids.SessionId.{SessionId}
use Rattle.gx_ids.specs.declared.ids.Table.{Table}
use Rattle.gx_ids.specs.declared.rid.Rid.{Rid}
use Rattle.gx_msg.specs.declared.message.Message.{Message}
use Rattle.gx_msg.specs.declared.message.Message.TheVariants as message
use Rattle.gx_msg.specs.declared.message.Message.TheVariants.{Exec}
use Rattle.gx_store.specs.declared.mark.Mark.{Mark}
use Rattle.gx_store.specs.declared.mark.Mark.TheVariants.{Start, Snap, Write, Skip, Commit, Abort, Answer, Sent}

abbrev pub is_same_session : SessionId → SessionId → Bool
is_same_session s t = s.0 == t.0

abbrev pub is_same_gxid : Gxid → Gxid → Bool
is_same_gxid g h = g.0 == h.0

abbrev pub is_same_rid : Rid → Rid → Bool
is_same_rid a b = (a.gxid.0 == b.gxid.0) && ((a.cid.0 == b.cid.0) && (a.ordinal == b.ordinal))

-- the command of this transaction
abbrev pub is_command_of : Gxid → Cid → Gxid → Cid → Bool
is_command_of g c h d = is_same_gxid h g && (d.0 == c.0)

-- THE ENDS OF TRANSACTIONS
abbrev pub is_committed : List Mark → Gxid → Bool
is_committed [] g = false
is_committed (Commit h ∷ ms) g = is_same_gxid h g || is_committed ms g
is_committed (_ ∷ ms) g = is_committed ms g

abbrev pub is_aborted : List Mark → Gxid → Bool
is_aborted [] g = false
is_aborted (Abort h ∷ ms) g = is_same_gxid h g || is_aborted ms g
is_aborted (_ ∷ ms) g = is_aborted ms g

abbrev pub is_ended : List Mark → Gxid → Bool
is_ended marks g = is_committed marks g || is_aborted marks g

-- THEIR BEGINNINGS
-- how many transactions were started
abbrev pub start_count : List Mark → ℕ
start_count [] = 0
start_count (Start g s ∷ ms) = start_count ms + 1
start_count (_ ∷ ms) = start_count ms

-- the transaction that the session started last, or the one given where it started none
abbrev pub started_after : SessionId → Option Gxid → List Mark → Option Gxid
started_after session g [] = g
started_after session g (Start h s ∷ ms) = started_after session (if is_same_session s session then Some h else g) ms
started_after session g (_ ∷ ms) = started_after session g ms

-- the session that started the transaction
abbrev pub session_of : List Mark → Gxid → Option SessionId
session_of [] g = None
session_of (Start h s ∷ ms) g = if is_same_gxid h g then Some s else session_of ms g
session_of (_ ∷ ms) g = session_of ms g

-- whether the session has started a transaction since its last answer; what it was before these marks is given
abbrev pub is_begun_after : SessionId → Bool → List Mark → Bool
is_begun_after session begun [] = begun
is_begun_after session begun (Start g s ∷ ms) = is_begun_after session (is_same_session s session || begun) ms
is_begun_after session begun (Answer s n a ∷ ms) = is_begun_after session (if is_same_session s session then false else begun) ms
is_begun_after session begun (_ ∷ ms) = is_begun_after session begun ms

abbrev pub is_begun : SessionId → List Mark → Bool
is_begun session marks = is_begun_after session false marks

-- COMMANDS
-- the command's own snapshot was taken
abbrev pub is_snapped : List Mark → Gxid → Cid → Bool
is_snapped [] g c = false
is_snapped (Snap h d s ∷ ms) g c = is_command_of g c h d || is_snapped ms g c
is_snapped (_ ∷ ms) g c = is_snapped ms g c

-- a snapshot was taken for the transaction
abbrev pub has_snapshot : List Mark → Gxid → Bool
has_snapshot [] g = false
has_snapshot (Snap h d s ∷ ms) g = is_same_gxid h g || has_snapshot ms g
has_snapshot (_ ∷ ms) g = has_snapshot ms g

-- the message is an order to carry out the command
abbrev pub is_order_of : Gxid → Cid → Message → Bool
is_order_of g c (Exec h d level snapshot horizon slice) = is_command_of g c h d
is_order_of g c _ = false

-- the command was sent to some segment
abbrev pub is_sent : List Mark → Gxid → Cid → Bool
is_sent [] g c = false
is_sent (Sent to number told ∷ ms) g c = is_order_of g c told || is_sent ms g c
is_sent (_ ∷ ms) g c = is_sent ms g c

-- some segment was asked to prepare the transaction, or to commit it at once
abbrev pub is_committing : List Mark → Gxid → Bool
is_committing [] g = false
is_committing (Sent to number (message.Prepare h) ∷ ms) g = is_same_gxid h g || is_committing ms g
is_committing (Sent to number (message.Commit h) ∷ ms) g = is_same_gxid h g || is_committing ms g
is_committing (_ ∷ ms) g = is_committing ms g

-- the row was written
abbrev pub is_written : List Mark → Rid → Bool
is_written [] rid = false
is_written (Write g c node t r image ∷ ms) rid = is_same_rid r rid || is_written ms rid
is_written (_ ∷ ms) rid = is_written ms rid

-- the command has written the row, or skipped it
abbrev pub is_processed : List Mark → Gxid → Cid → Rid → Bool
is_processed [] g c rid = false
is_processed (Write h d node t r image ∷ ms) g c rid = (is_command_of g c h d && is_same_rid r rid) || is_processed ms g c rid
is_processed (Skip h d r ∷ ms) g c rid = (is_command_of g c h d && is_same_rid r rid) || is_processed ms g c rid
is_processed (_ ∷ ms) g c rid = is_processed ms g c rid

-- how many rows the command has written
abbrev pub write_count : List Mark → Gxid → Cid → ℕ
write_count [] g c = 0
write_count (Write h d node t r image ∷ ms) g c = if is_command_of g c h d then write_count ms g c + 1 else write_count ms g c
write_count (_ ∷ ms) g c = write_count ms g c

-- the node of the row's first write
abbrev pub node_of : List Mark → Rid → Option Node
node_of [] rid = None
node_of (Write g c node t r image ∷ ms) rid = if is_same_rid r rid then Some node else node_of ms rid
node_of (_ ∷ ms) rid = node_of ms rid

-- the table of the row's first write
abbrev pub row_table : List Mark → Rid → Option Table
row_table [] rid = None
row_table (Write g c node t r image ∷ ms) rid = if is_same_rid r rid then Some t else row_table ms rid
row_table (_ ∷ ms) rid = row_table ms rid

-- ANSWERS
-- how many lines of the session were answered
abbrev pub answer_count : SessionId → List Mark → ℕ
answer_count session [] = 0
answer_count session (Answer s n a ∷ ms) = if is_same_session s session then answer_count session ms + 1 else answer_count session ms
answer_count session (_ ∷ ms) = answer_count session ms

-- a line of the session was answered
abbrev pub is_answered : SessionId → List Mark → Bool
is_answered session [] = false
is_answered session (Answer s n a ∷ ms) = is_same_session s session || is_answered session ms
is_answered session (_ ∷ ms) = is_answered session ms
