-- The text of a mark.
use Rattle.std.specs.Prelude.{ℕ, List, [], ◌∷◌, ◌++◌, codes}
use Rattle.std.specs.List.{flat_map}
use Rattle.std.specs.Fmt.{decimal}
use Rattle.gx_dsnap.specs.declared.snapshot.Snapshot.{Snapshot}
use Rattle.gx_ids.specs.Rid.{text_of as rid_text}
use Rattle.gx_ids.specs.declared.ids.Cid.{Cid}
use Rattle.gx_ids.specs.declared.ids.Gxid.{Gxid}
use Rattle.gx_ids.specs.declared.ids.SessionId.{SessionId}
use Rattle.gx_msg.specs.MessageText.{text_of_message}
use Rattle.gx_script.specs.declared.Script.{Script}
use Rattle.gx_store.specs.declared.mark.Mark.{Mark}
use Rattle.gx_store.specs.declared.mark.Mark.TheVariants.{Start, Snap, Write, Skip, Fault, Commit, Abort, Answer, Hold, Wait, Release, Prepared, LocalCommit, Decided, JournalFailed, Restart, Sent, Report, Recheck}
use Rattle.gx_report.specs.LockText.{lock_text, recheck_text, report_text}
use Rattle.gx_report.specs.Words.{at_node_text, gxid_text, image_text, session_name, table_name, word_text, words_text}

abbrev pub begin_text : Script → Gxid → SessionId → List ℕ
begin_text script gxid session = words_text (codes "begin") (gxid.0 ∷ []) ++ word_text (session_name script session)

-- a command's snapshot: its bounds, and who is running between them
abbrev pub snap_text : Gxid → Cid → Snapshot → List ℕ
snap_text gxid cid snapshot =
    words_text (codes "snap") (gxid.0 ∷ cid.0 ∷ []) ++ words_text (codes " xmin") (snapshot.xmin.0 ∷ [])
    ++ words_text (codes " xmax") (snapshot.xmax.0 ∷ []) ++ codes " running" ++ flat_map gxid_text snapshot.running

-- that a line is answered; what it is answered stands in the run's own text
abbrev pub answered_text : Script → SessionId → ℕ → List ℕ
answered_text script session number = codes "answer" ++ word_text (session_name script session) ++ codes "." ++ decimal number

-- of locks and of the detector
abbrev pub lock_mark_text : Script → Mark → List ℕ
lock_mark_text script (Hold node gxid object mode) = at_node_text (codes "hold") node gxid ++ lock_text script object mode
lock_mark_text script (Wait node gxid object mode) = at_node_text (codes "wait") node gxid ++ lock_text script object mode
lock_mark_text script (Release node gxid object mode) = at_node_text (codes "release") node gxid ++ lock_text script object mode
lock_mark_text script (Report node round graph) = report_text node round graph
lock_mark_text script (Recheck round own verdict) = recheck_text round own verdict
lock_mark_text script mark = []

-- of rows
abbrev pub row_mark_text : Script → Mark → List ℕ
row_mark_text script (Write gxid cid node table rid image) = words_text (codes "write") (gxid.0 ∷ cid.0 ∷ node.0 ∷ []) ++ word_text (table_name script table) ++ image_text rid image
row_mark_text script (Skip gxid cid rid) = words_text (codes "skip") (gxid.0 ∷ cid.0 ∷ []) ++ word_text (rid_text rid)
row_mark_text script (Fault gxid cid rid image) = words_text (codes "fault") (gxid.0 ∷ cid.0 ∷ []) ++ image_text rid image
row_mark_text script mark = lock_mark_text script mark

abbrev pub mark_text : Script → Mark → List ℕ
mark_text script (Start gxid session) = begin_text script gxid session
mark_text script (Snap gxid cid snapshot) = snap_text gxid cid snapshot
mark_text script (Answer session number said) = answered_text script session number
mark_text script (Sent to number message) = words_text (codes "send") (to.0 ∷ number ∷ []) ++ word_text (text_of_message message)
mark_text script (Prepared node gxid) = at_node_text (codes "prepared") node gxid
mark_text script (Decided gxid) = words_text (codes "decided") (gxid.0 ∷ [])
mark_text script (LocalCommit node gxid) = at_node_text (codes "local") node gxid
mark_text script (Commit gxid) = words_text (codes "commit") (gxid.0 ∷ [])
mark_text script (Abort gxid) = words_text (codes "abort") (gxid.0 ∷ [])
mark_text script (JournalFailed node gxid) = at_node_text (codes "journal") node gxid
mark_text script (Restart node) = words_text (codes "restart") (node.0 ∷ [])
mark_text script mark = row_mark_text script mark
