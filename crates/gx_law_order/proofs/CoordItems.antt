-- What the coordinator's journal takes is what its marks stand for.
use Rattle.std.proofs.Common.{◌≡◌, ◌⊎◌, inl, inr, ℕ, List, [], ◌∷◌, ◌++◌, Option, Some, None, Result, Ok, Err, Bool, true, false, refl, sym, subst, ap, ◌∙◌, if◌then◌else◌, ◌==◌, ◌&&◌}
use Rattle.gx_ids.specs.declared.ids.Cid.{Cid}
use Rattle.gx_ids.specs.declared.ids.Gxid.{Gxid}
use Rattle.gx_ids.specs.declared.ids.Node.{Node}
use Rattle.gx_ids.specs.declared.ids.SessionId.{SessionId}
use Rattle.gx_tree.specs.declared.part.Part.{Part}
use Rattle.gx_tree.specs.declared.stmt.Level.TheVariants.{ReadCommitted}
use Rattle.gx_tree.specs.declared.stmt.Stmt.{Stmt}
use Rattle.gx_tree.specs.declared.stmt.Stmt.TheVariants as stmt
use Rattle.gx_dsnap.specs.declared.snapshot.Snapshot.{Snapshot}
use Rattle.gx_dtx.specs.Nodes.{without}
use Rattle.gx_dtx.specs.Rules.{Turn, commit_found, commits as commits_txn, decides, decides_found, decides_in, ends_committed, finishes, forgets, gives_up, is_awaited as is_awaited_in, is_deciding, is_last, on_abort, on_commit, on_reply, prepares, reply_found, stays, takes}
use Rattle.gx_dtx.specs.Table.{find_txn}
use Rattle.gx_dtx.specs.declared.outcome.Outcome.{Outcome}
use Rattle.gx_dtx.specs.declared.outcome.Outcome.TheVariants as outcome
use Rattle.gx_dtx.specs.declared.phase.Phase.{Phase}
use Rattle.gx_dtx.specs.declared.phase.Phase.TheVariants.{Preparing, CommittingOne, CommittingTwo, Ended, Aborting}
use Rattle.gx_dtx.specs.declared.txn.Txn.{Txn}
use Rattle.gx_meaning.specs.declared.fault.ArithFault.{ArithFault}
use Rattle.gx_msg.specs.declared.item.JournalItem.TheVariants as item
use Rattle.gx_msg.specs.declared.message.Message.{Message}
use Rattle.gx_msg.specs.declared.message.Message.TheVariants as message
use Rattle.gx_msg.specs.declared.reply.Cause.{Cause}
use Rattle.gx_msg.specs.declared.reply.Reply.{Reply}
use Rattle.gx_msg.specs.declared.reply.Reply.TheVariants as reply
use Rattle.gx_meaning.specs.Plan.{plan_of}
use Rattle.gx_meaning.specs.declared.piece.Piece.{Piece}
use Rattle.gx_script.specs.declared.Script.{Script}
use Rattle.gx_script.specs.Session.{line_step}
use Rattle.gx_script.specs.declared.line_step.LineStep.{LineStep}
use Rattle.gx_script.specs.declared.line_step.LineStep.TheVariants as step
use Rattle.gx_script.specs.declared.state.Block.{Block}
use Rattle.gx_script.specs.declared.state.Block.TheVariants.{Outside, Open, Failed}
use Rattle.gx_store.specs.declared.answer.Refused.{Refused}
use Rattle.gx_store.specs.declared.answer.Refused.TheVariants.{Victim}
use Rattle.gx_store.specs.declared.mark.Mark.{Mark}
use Rattle.gx_store.specs.declared.mark.Mark.TheVariants as mark
use Rattle.gx_store.specs.declared.node.NodeEvent.{NodeEvent}
use Rattle.gx_store.specs.declared.node.NodeEvent.TheVariants as event
use Rattle.gx_store.specs.Journals.{items_from}
use Rattle.gx_store.specs.Refusals.{the_coordinator}
use Rattle.gx_store.specs.Writes.{dist_of}
use Rattle.gx_rules.specs.AtCoordinator.{Reading, awaited, awaited_collect, begins, cancels, commits, completes, dispatches, ends_in, failure_marks, fault_mark, follows, goes, goes_on, is_awaited, is_refused, next_cid, next_line, on_answer, on_done, on_event, on_failed, on_line, on_message, on_status, reason_of, reads_by, reads_for, refusal_of, resends, starts, starts_line, table_of, takes_done, with_done, writers_with, behind, goes_on_locked, if_granted, requests, resumes}
use Rattle.gx_store.specs.Locks.{table_lock}
use Rattle.gx_rules.specs.Coordinators.{Command, Coord, CoordTurn, Work, rests, session_of, with_work, work_of}
use Rattle.gx_rules.specs.Fits.{fits_part}
use Rattle.gx_rules.specs.Machine.{kept_item}
use Rattle.gx_law_order.proofs.Lists.{each_append}
use Rattle.gx_law_order.specs.Lists.{Each}
use Rattle.gx_law_order.proofs.SegItems.{Dull, dull-items}
use Rattle.gx_rules.specs.Locks.{hold_mark, release_marks, with_hold}
use Rattle.gx_locks.specs.Locks.{Locks, wait_of, resumed}
use Rattle.gx_waits.specs.Claims.{is_clear}
use Rattle.gx_waits.specs.declared.claim.Claim.{Claim}
use Rattle.gx_waits.specs.declared.graph.LocalGraph.{LocalGraph}
use Rattle.gx_rules.specs.Rounds.{begins_round, on_graph, with_report}
use Rattle.gx_rules.proofs.Rounds.{cancel-ways, graph-ways}
use Rattle.gx_law_order.proofs.Releases.{each-released}

-- a turn that appends nothing and whose marks stand for no item
pub record IsDull (turn : CoordTurn) : Type 0 where
  pub marks : Each Dull turn.marks
  pub item : turn.item ≡ None

abbrev NotDecided : Outcome → Type 0
NotDecided outcome.Decided = ⊥
NotDecided _ = Unit {0}

failure-dull : (i : Node) (g : Gxid) → Each Dull (failure_marks i g)
failure-dull i g = by_test (i.0 == 0)
  where
    by_test : (b : Bool) → Each Dull (if b then mark.JournalFailed the_coordinator g ∷ [] else [])
    by_test true = (tt, tt)
    by_test false = tt

back-dull : (locks : Locks) (g : Gxid) → Each Dull (release_marks the_coordinator locks g)
back-dull locks g = each-released Dull the_coordinator locks g (λ claim. tt)

refused-dull : (c : Coord) (g : Gxid) (turn : Turn) (why : List Mark) (reason : Refused) → Each Dull why → IsDull (is_refused c g turn why reason)
refused-dull c g turn why reason e = record { marks = each_append Dull why _ e (tt, (tt, back-dull c.locks g)); item = refl }

follow-dull : (c : Coord) (g : Gxid) (turn : Turn) (o : Outcome) → NotDecided o → IsDull (follows c g turn o)
follow-dull c g turn outcome.Pending n = record { marks = tt; item = refl }
follow-dull c g turn outcome.Decided n = absurd n
follow-dull c g turn outcome.Committed n = record { marks = (tt, (tt, back-dull c.locks g)); item = refl }
follow-dull c g turn (outcome.Refused i) n = refused-dull c g turn (failure_marks i g) _ (failure-dull i g)
follow-dull c g turn outcome.Ended n = record { marks = tt; item = refl }

alone-not : (g : Gxid) (is : List Node) → NotDecided (ends_committed g is).out.outcome
alone-not g [] = tt
alone-not g (i ∷ is) = tt

commit-not : (g : Gxid) (writers : List Node) (t : Txn) → NotDecided (commits_txn g writers t).out.outcome
commit-not g [] t = alone-not g t.participants
commit-not g (i ∷ []) t = tt
commit-not g (i ∷ j ∷ is) t = tt

found-not : (g : Gxid) (writers : List Node) (t : Option Txn) → NotDecided (commit_found g writers t).out.outcome
found-not g writers None = tt
found-not g writers (Some t) = commit-not g writers t

commit-dull : (c : Coord) (g : Gxid) → IsDull (commits c g)
commit-dull c g = follow-dull c g (on_commit c.table g (work_of c g).writers) (on_commit c.table g (work_of c g).writers).out.outcome (found-not g (work_of c g).writers (find_txn c.table g))

rest-dull : (c : Coord) → IsDull (rests c)
rest-dull c = record { marks = tt; item = refl }

-- commands
by-dull : (c : Coord) (g : Gxid) (cid : Cid) (w : Work) (x : Option Snapshot) → Each Dull (reads_by c g cid w x).marks
by-dull c g cid w None = (tt, tt)
by-dull c g cid w (Some x) = tt

for-dull : (c : Coord) (g : Gxid) (cid : Cid) (w : Work) (line : Stmt) → Each Dull (reads_for c g cid w line).marks
for-dull c g cid w (stmt.Lock t m) = tt
for-dull c g cid w (stmt.Begin level) = by-dull c g cid w w.snapshot
for-dull c g cid w stmt.Commit = by-dull c g cid w w.snapshot
for-dull c g cid w stmt.Rollback = by-dull c g cid w w.snapshot
for-dull c g cid w (stmt.Select q) = by-dull c g cid w w.snapshot
for-dull c g cid w (stmt.Insert t x) = by-dull c g cid w w.snapshot
for-dull c g cid w (stmt.Update t x y) = by-dull c g cid w w.snapshot
for-dull c g cid w (stmt.Delete t x) = by-dull c g cid w w.snapshot

fault-dull : (g : Gxid) (cid : Cid) (line : Stmt) → Each Dull (fault_mark g cid line)
fault-dull g cid (stmt.Insert t x) = (tt, tt)
fault-dull g cid (stmt.Begin level) = tt
fault-dull g cid stmt.Commit = tt
fault-dull g cid stmt.Rollback = tt
fault-dull g cid (stmt.Select q) = tt
fault-dull g cid (stmt.Update t x y) = tt
fault-dull g cid (stmt.Delete t x) = tt
fault-dull g cid (stmt.Lock t m) = tt

goes-dull : (g : Gxid) (cid : Cid) (line : Stmt) (r : Reading) (plan : Result (List Piece) ArithFault) → Each Dull r.marks → IsDull (goes g cid line r plan)
goes-dull g cid line r (Ok pieces) e = record { marks = e; item = refl }
goes-dull g cid line r (Err fault) e = refused-dull r.coord g (on_abort r.coord.table g) (r.marks ++ fault_mark g cid line) (refusal_of fault) (each_append Dull r.marks (fault_mark g cid line) e (fault-dull g cid line))

locked-dull : (script : Script) (c : Coord) (g : Gxid) (line : Stmt) → IsDull (goes_on_locked script c g line)
locked-dull script c g line =
    goes-dull g (next_cid (work_of c g)) line (reads_for c g (next_cid (work_of c g)) (work_of c g) line) (plan_of script.segments (dist_of script.tables (table_of line)) g (next_cid (work_of c g)) line) (for-dull c g (next_cid (work_of c g)) (work_of c g) line)

held-dull : (script : Script) (c : Coord) (g : Gxid) (line : Stmt) (wanted : Claim) → IsDull (behind (hold_mark the_coordinator wanted ∷ []) (goes_on_locked script c g line))
held-dull script c g line wanted = let x = locked-dull script c g line in record { marks = (tt, x.marks); item = x.item }

request-dull : (script : Script) (c : Coord) (g : Gxid) (line : Stmt) (o : Option Claim) → IsDull (requests script c g line o)
request-dull script c g line None = locked-dull script c g line
request-dull script c g line (Some wanted) = by_test (is_clear c.locks.holds c.locks.waits wanted)
  where
    by_test : (b : Bool) → IsDull (if_granted script c g line wanted b)
    by_test true = held-dull script (record c { locks = with_hold c.locks wanted }) g line wanted
    by_test false = record { marks = (tt, tt); item = refl }

dispatch-dull : (script : Script) (c : Coord) (g : Gxid) (line : Stmt) → IsDull (dispatches script c g line)
dispatch-dull script c g line = request-dull script c g line (table_lock script g line)

resume-dull : (script : Script) (c : Coord) (g : Gxid) (o : Option Claim) (line : Option Stmt) → IsDull (resumes script c g o line)
resume-dull script c g None line = rest-dull c
resume-dull script c g (Some wanted) None = rest-dull c
resume-dull script c g (Some wanted) (Some line) = held-dull script (with_work (record c { locks = resumed c.locks g (Some wanted) }) g (record (work_of c g) { waiting = None })) g line wanted

-- lines
line-dull : (script : Script) (c : Coord) (s : SessionId) (line : Stmt) (asked : LineStep) → IsDull (on_line script c s line asked)
line-dull script c s line (step.Answer plain) = record { marks = (tt, tt); item = refl }
line-dull script c s line step.InFailedBlock = record { marks = (tt, tt); item = refl }
line-dull script c s line step.NotInBlock = record { marks = (tt, tt); item = refl }
line-dull script c s line (step.BeginBlock level) = record { marks = (tt, (tt, tt)); item = refl }
line-dull script c s line step.CommitBlock = commit-dull c (session_of c s).transaction
line-dull script c s line step.RollbackBlock = record { marks = (tt, (tt, back-dull c.locks (session_of c s).transaction)); item = refl }
line-dull script c s line (step.Command true) = let x = dispatch-dull script (begins c s ReadCommitted) c.table.next line in record { marks = (tt, x.marks); item = x.item }
line-dull script c s line (step.Command false) = dispatch-dull script c (session_of c s).transaction line

start-dull : (script : Script) (c : Coord) (s : SessionId) (line : Option Stmt) → IsDull (starts script c s line)
start-dull script c s None = rest-dull c
start-dull script c s (Some line) = line-dull script (starts_line c s (line_step (session_of c s).state.block line)) s line (line_step (session_of c s).state.block line)

end-dull : (c : Coord) (s : SessionId) (b : Block) → IsDull (ends_in c s b)
end-dull c s (Open level) = record { marks = (tt, back-dull c.locks (session_of c s).transaction); item = refl }
end-dull c s Failed = record { marks = tt; item = refl }
end-dull c s Outside = rest-dull c

-- answers
complete-dull : (c : Coord) (g : Gxid) (b : Block) → IsDull (completes c g b)
complete-dull c g Outside = commit-dull c g
complete-dull c g (Open level) = record { marks = (tt, tt); item = refl }
complete-dull c g Failed = record { marks = (tt, tt); item = refl }

go-dull : (c : Coord) (g : Gxid) (left : List Node) → IsDull (goes_on c g left)
go-dull c g [] = complete-dull c g (session_of c (work_of c g).session).state.block
go-dull c g (i ∷ is) = rest-dull c

take-dull : (c : Coord) (g : Gxid) (i : Node) (wrote : Bool) (count : ℕ) (part : Part) (k : Command) → IsDull (takes_done c g i wrote count part k)
take-dull c g i wrote count part k =
    go-dull (with_work c g (record (work_of c g) { writers = writers_with wrote i (work_of c g).writers; command = Some (with_done k i count part) })) g (with_done k i count part).awaited

done-dull : (c : Coord) (g : Gxid) (i : Node) (cid : Cid) (wrote : Bool) (count : ℕ) (part : Part) (k : Option Command) → IsDull (on_done c g i cid wrote count part k)
done-dull c g i cid wrote count part None = rest-dull c
done-dull c g i cid wrote count part (Some k) = by_test (is_awaited k i cid && fits_part k.stmt part)
  where
    by_test : (b : Bool) → IsDull (if b then takes_done c g i wrote count part k else rests c)
    by_test true = take-dull c g i wrote count part k
    by_test false = rest-dull c

failed-dull : (c : Coord) (g : Gxid) (i : Node) (cid : Cid) (cause : Cause) (k : Option Command) → IsDull (on_failed c g i cid cause k)
failed-dull c g i cid cause None = rest-dull c
failed-dull c g i cid cause (Some k) = by_test (is_awaited k i cid)
  where
    by_test : (b : Bool) → IsDull (if b then is_refused c g (on_abort c.table g) [] (reason_of cause) else rests c)
    by_test true = refused-dull c g (on_abort c.table g) [] (reason_of cause) tt
    by_test false = rest-dull c

-- THE DECISION
-- what the marks of an outcome stand for
abbrev Agrees : Outcome → Bool → Bool → Type 0
Agrees outcome.Decided deciding fails = (deciding ≡ true) × (fails ≡ false)
Agrees _ deciding fails = (deciding ≡ false) ⊎ (fails ≡ true)

decides-agrees : (g : Gxid) (ws ps : List Node) (fails : Bool) → Agrees (decides g ws ps fails).out.outcome true fails
decides-agrees g ws ps false = (refl, refl)
decides-agrees g ws ps true = inr refl

prepares-agrees : (g : Gxid) (ws ps rest : List Node) (fails : Bool) → Agrees (prepares g ws ps rest fails).out.outcome (is_last rest) fails
prepares-agrees g ws ps [] fails = decides-agrees g ws ps fails
prepares-agrees g ws ps (x ∷ xs) fails = inl refl

alone-agrees : (g : Gxid) (ps : List Node) (fails : Bool) → Agrees (ends_committed g ps).out.outcome false fails
alone-agrees g [] fails = inl refl
alone-agrees g (i ∷ is) fails = inl refl

finishes-agrees : (g : Gxid) (ps rest : List Node) (fails : Bool) → Agrees (finishes g ps rest).out.outcome false fails
finishes-agrees g ps [] fails = alone-agrees g ps fails
finishes-agrees g ps (x ∷ xs) fails = inl refl

forgets-agrees : (rest : List Node) (fails : Bool) → Agrees (forgets rest).out.outcome false fails
forgets-agrees [] fails = inl refl
forgets-agrees (x ∷ xs) fails = inl refl

gives_up-agrees : (rest : List Node) (fails : Bool) → Agrees (gives_up rest).out.outcome false fails
gives_up-agrees [] fails = inl refl
gives_up-agrees (x ∷ xs) fails = inl refl

-- an awaited answer, and one that isn't
taken-agrees : (g : Gxid) (ps : List Node) (i : Node) (fails : Bool) (p : Phase) (r : Reply) → is_awaited_in p i r ≡ true → Agrees (takes g ps i fails p r).out.outcome (decides_in p i r) fails
taken-agrees g ps i fails (Preparing ws a) reply.Prepared e = subst (λ b. Agrees (prepares g ws ps (without i a) fails).out.outcome (if b then is_last (without i a) else false) fails) (sym e) (prepares-agrees g ws ps (without i a) fails)
taken-agrees g ps i fails (Preparing ws a) reply.Jfault e = inl refl
taken-agrees g ps i fails (CommittingOne w) reply.Committed e = alone-agrees g ps fails
taken-agrees g ps i fails (CommittingOne w) reply.Jfault e = inl refl
taken-agrees g ps i fails (CommittingTwo a) reply.Committed e = finishes-agrees g ps (without i a) fails
taken-agrees g ps i fails (Ended a) reply.Forgotten e = forgets-agrees (without i a) fails
taken-agrees g ps i fails (Aborting a) reply.Aborted e = gives_up-agrees (without i a) fails
taken-agrees g ps i fails p r e = inl refl

left-agrees : (p : Phase) (i : Node) (r : Reply) (fails : Bool) → is_awaited_in p i r ≡ false → Agrees outcome.Pending (decides_in p i r) fails
left-agrees (Preparing ws a) i reply.Prepared fails e = inl (ap (λ b. if b then is_last (without i a) else false) e)
left-agrees p i r fails e = inl refl

found-agrees : (g : Gxid) (i : Node) (r : Reply) (fails : Bool) (t : Option Txn) → Agrees (reply_found g i r fails t).out.outcome (decides_found t i r) fails
found-agrees g i r fails None = inl refl
found-agrees g i r fails (Some t) = by_test (is_awaited_in t.phase i r) refl
  where
    by_test : (b : Bool) → is_awaited_in t.phase i r ≡ b → Agrees (if b then takes g t.participants i fails t.phase r else stays).out.outcome (decides_in t.phase i r) fails
    by_test true e = taken-agrees g t.participants i fails t.phase r e
    by_test false e = left-agrees t.phase i r fails e

-- the marks of a turn stand for what the journal takes
abbrev pub Stands : List Mark → Bool → CoordTurn → Type 0
Stands before fails turn = items_from the_coordinator before turn.marks ≡ kept_item fails turn.item

none-kept : (fails : Bool) → kept_item fails None ≡ []
none-kept true = refl
none-kept false = refl

dull-stands : (before : List Mark) (fails : Bool) (turn : CoordTurn) → IsDull turn → Stands before fails turn
dull-stands before fails turn d = dull-items the_coordinator before turn.marks d.marks ∙ sym (ap (kept_item fails) d.item ∙ none-kept fails)

no-item : (g : Gxid) (deciding fails : Bool) → (deciding ≡ false) ⊎ (fails ≡ true) → kept_item fails (if deciding then Some (item.Decide g) else None) ≡ []
no-item g deciding true e = refl
no-item g false false e = refl
no-item g true false (inl e) = absurd (cc)
no-item g true false (inr e) = absurd (cc)

outcome-stands : (c : Coord) (before : List Mark) (g : Gxid) (turn : Turn) (o : Outcome) (deciding fails : Bool) → Agrees o deciding fails → items_from the_coordinator before (follows c g turn o).marks ≡ kept_item fails (if deciding then Some (item.Decide g) else None)
outcome-stands c before g turn outcome.Decided deciding fails e = subst (λ d. item.Decide g ∷ [] ≡ kept_item fails (if d then Some (item.Decide g) else None)) (sym e.0) (subst (λ f. item.Decide g ∷ [] ≡ kept_item f (Some (item.Decide g))) (sym e.1) refl)
outcome-stands c before g turn outcome.Pending deciding fails e = sym (no-item g deciding fails e)
outcome-stands c before g turn outcome.Committed deciding fails e = dull-items the_coordinator before (follows c g turn outcome.Committed).marks (tt, (tt, back-dull c.locks g)) ∙ sym (no-item g deciding fails e)
outcome-stands c before g turn (outcome.Refused i) deciding fails e = dull-items the_coordinator before (follows c g turn (outcome.Refused i)).marks (follow-dull c g turn (outcome.Refused i) tt).marks ∙ sym (no-item g deciding fails e)
outcome-stands c before g turn outcome.Ended deciding fails e = sym (no-item g deciding fails e)

status-stands : (c : Coord) (before : List Mark) (g : Gxid) (i : Node) (r : Reply) (fails : Bool) → Stands before fails (on_status c g i r fails)
status-stands c before g i r fails = outcome-stands c before g (on_reply c.table g i r fails) (on_reply c.table g i r fails).out.outcome (is_deciding c.table g i r) fails (found-agrees g i r fails (find_txn c.table g))

answer-stands : (c : Coord) (before : List Mark) (g : Gxid) (i : Node) (fails : Bool) (r : Reply) → Stands before fails (on_answer c g i fails r)
answer-stands c before g i fails (reply.Done cid wrote count part) = dull-stands before fails _ (done-dull c g i cid wrote count part _)
answer-stands c before g i fails (reply.Failed cid cause) = dull-stands before fails _ (failed-dull c g i cid cause _)
answer-stands c before g i fails reply.Prepared = status-stands c before g i reply.Prepared fails
answer-stands c before g i fails reply.Committed = status-stands c before g i reply.Committed fails
answer-stands c before g i fails reply.Jfault = status-stands c before g i reply.Jfault fails
answer-stands c before g i fails reply.Again = status-stands c before g i reply.Again fails
answer-stands c before g i fails reply.Restarted = status-stands c before g i reply.Restarted fails
answer-stands c before g i fails reply.Aborted = status-stands c before g i reply.Aborted fails
answer-stands c before g i fails reply.Forgotten = status-stands c before g i reply.Forgotten fails

graph-dull : (c : Coord) (from : Node) (round : ℕ) (graph : LocalGraph) → IsDull (on_graph c from round graph)
graph-dull c from round graph = graph-ways IsDull c from round graph (rest-dull c) (λ e. rest-dull (with_report c graph)) (λ e f. record { marks = (tt, tt); item = refl })

message-stands : (c : Coord) (before : List Mark) (from : Node) (fails : Bool) (m : Message) → Stands before fails (on_message c from fails m)
message-stands c before from fails (message.Answer g r) = answer-stands c before g from fails r
message-stands c before from fails (message.Exec g cid level x h y) = dull-stands before fails _ (rest-dull c)
message-stands c before from fails (message.Prepare g) = dull-stands before fails _ (rest-dull c)
message-stands c before from fails (message.Commit g) = dull-stands before fails _ (rest-dull c)
message-stands c before from fails (message.CommitPrepared g) = dull-stands before fails _ (rest-dull c)
message-stands c before from fails (message.Abort g) = dull-stands before fails _ (rest-dull c)
message-stands c before from fails (message.Forget g) = dull-stands before fails _ (rest-dull c)
message-stands c before from fails (message.Collect round) = dull-stands before fails _ (rest-dull c)
message-stands c before from fails (message.Graph round graph) = dull-stands before fails _ (graph-dull c from round graph)
message-stands c before from fails message.Up = dull-stands before fails _ (rest-dull c)

again-dull : (c : Coord) (i : Node) (m : Option Message) → IsDull (resends c i m)
again-dull c i None = rest-dull c
again-dull c i (Some m) = record { marks = tt; item = refl }

pub event-stands : (script : Script) (c : Coord) (before : List Mark) (x : NodeEvent) (fails : Bool) → Stands before fails (on_event script c x fails)
event-stands script c before (event.Deliver from envelope) fails = message-stands c before from fails envelope.message
event-stands script c before (event.Start s) fails = dull-stands before fails _ (start-dull script c s (next_line script c s))
event-stands script c before (event.End s) fails = dull-stands before fails _ (end-dull c s _)
event-stands script c before (event.Resend i (Some g)) fails = dull-stands before fails _ (again-dull c i (awaited c g i))
event-stands script c before (event.Resend i None) fails = dull-stands before fails _ (again-dull c i (awaited_collect c i))
event-stands script c before (event.Resume g) fails = dull-stands before fails _ (resume-dull script c g (wait_of c.locks g) (work_of c g).waiting)
event-stands script c before event.Round fails = dull-stands before fails (begins_round script c) (record { marks = tt; item = refl })

-- a victim's turn appends nothing
pub cancel-dull : (c : Coord) (g : Gxid) → IsDull (cancels c g)
cancel-dull c g = cancel-ways IsDull c g (rest-dull c) (λ live busy. refused-dull c g (on_abort c.table g) [] (Victim c.rounds) tt)

-- WHO DECIDES DOES NOTHING ELSE
-- its marks stand for no item, or are the decision alone
abbrev pub DecidesAlone : List Mark → Type 0
DecidesAlone marks = Each Dull marks ⊎ ((g : Gxid) × (marks ≡ mark.Decided g ∷ []))

outcome-alone : (c : Coord) (g : Gxid) (turn : Turn) (o : Outcome) → DecidesAlone (follows c g turn o).marks
outcome-alone c g turn outcome.Decided = inr (g, refl)
outcome-alone c g turn outcome.Pending = inl tt
outcome-alone c g turn outcome.Committed = inl (follow-dull c g turn outcome.Committed tt).marks
outcome-alone c g turn (outcome.Refused i) = inl (follow-dull c g turn (outcome.Refused i) tt).marks
outcome-alone c g turn outcome.Ended = inl tt

answer-alone : (c : Coord) (g : Gxid) (i : Node) (fails : Bool) (r : Reply) → DecidesAlone (on_answer c g i fails r).marks
answer-alone c g i fails (reply.Done cid wrote count part) = inl (done-dull c g i cid wrote count part _).marks
answer-alone c g i fails (reply.Failed cid cause) = inl (failed-dull c g i cid cause _).marks
answer-alone c g i fails reply.Prepared = outcome-alone c g (on_reply c.table g i reply.Prepared fails) (on_reply c.table g i reply.Prepared fails).out.outcome
answer-alone c g i fails reply.Committed = outcome-alone c g (on_reply c.table g i reply.Committed fails) (on_reply c.table g i reply.Committed fails).out.outcome
answer-alone c g i fails reply.Jfault = outcome-alone c g (on_reply c.table g i reply.Jfault fails) (on_reply c.table g i reply.Jfault fails).out.outcome
answer-alone c g i fails reply.Again = outcome-alone c g (on_reply c.table g i reply.Again fails) (on_reply c.table g i reply.Again fails).out.outcome
answer-alone c g i fails reply.Restarted = outcome-alone c g (on_reply c.table g i reply.Restarted fails) (on_reply c.table g i reply.Restarted fails).out.outcome
answer-alone c g i fails reply.Aborted = outcome-alone c g (on_reply c.table g i reply.Aborted fails) (on_reply c.table g i reply.Aborted fails).out.outcome
answer-alone c g i fails reply.Forgotten = outcome-alone c g (on_reply c.table g i reply.Forgotten fails) (on_reply c.table g i reply.Forgotten fails).out.outcome

message-alone : (c : Coord) (from : Node) (fails : Bool) (m : Message) → DecidesAlone (on_message c from fails m).marks
message-alone c from fails (message.Answer g r) = answer-alone c g from fails r
message-alone c from fails (message.Graph round graph) = inl (graph-dull c from round graph).marks
message-alone c from fails message.Up = inl tt
message-alone c from fails (message.Exec g cid level x h y) = inl tt
message-alone c from fails (message.Prepare g) = inl tt
message-alone c from fails (message.Commit g) = inl tt
message-alone c from fails (message.CommitPrepared g) = inl tt
message-alone c from fails (message.Abort g) = inl tt
message-alone c from fails (message.Forget g) = inl tt
message-alone c from fails (message.Collect round) = inl tt

pub event-alone : (script : Script) (c : Coord) (x : NodeEvent) (fails : Bool) → DecidesAlone (on_event script c x fails).marks
event-alone script c (event.Deliver from envelope) fails = message-alone c from fails envelope.message
event-alone script c (event.Start s) fails = inl (start-dull script c s (next_line script c s)).marks
event-alone script c (event.End s) fails = inl (end-dull c s _).marks
event-alone script c (event.Resend i (Some g)) fails = inl (again-dull c i (awaited c g i)).marks
event-alone script c (event.Resend i None) fails = inl (again-dull c i (awaited_collect c i)).marks
event-alone script c (event.Resume g) fails = inl (resume-dull script c g (wait_of c.locks g) (work_of c g).waiting).marks
event-alone script c event.Round fails = inl tt
