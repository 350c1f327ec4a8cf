-- What leaves the journal alone: an answer for a command, and what comes by itself.
use Rattle.std.proofs.Common.{◌≡◌, ◌&&◌, ◌+◌, ℕ, List, [], ◌∷◌, Option, Some, None, Result, Ok, Err, Bool, true, false, if◌then◌else◌, ap, append-nil, arith, inl, nat_lt, refl, sym, subst}
use Rattle.std.proofs.lemmas.Bool.Decides.{nat_tests}
use Rattle.gx_ids.specs.declared.ids.Cid.{Cid}
use Rattle.gx_ids.specs.declared.ids.Gxid.{Gxid}
use Rattle.gx_ids.specs.declared.ids.Node.{Node}
use Rattle.gx_tree.specs.declared.part.Part.{Part}
use Rattle.gx_dtx.specs.Rules.{Turn, on_abort, on_commit}
use Rattle.gx_dtx.specs.declared.outcome.Outcome.{Outcome}
use Rattle.gx_dtx.specs.declared.outcome.Outcome.TheVariants as outcome
use Rattle.gx_msg.specs.declared.reply.Cause.{Cause}
use Rattle.gx_msg.specs.declared.reply.Reply.{Reply}
use Rattle.gx_msg.specs.declared.reply.Reply.TheVariants as reply
use Rattle.gx_node.specs.Orders.{Took}
use Rattle.gx_outside.specs.Shelves.{Shelf}
use Rattle.gx_script.specs.declared.state.Block.{Block}
use Rattle.gx_script.specs.declared.state.Block.TheVariants as block
use Rattle.gx_store.specs.Locks.{table_lock}
use Rattle.gx_rules.specs.AtCoordinator as turns
use Rattle.gx_rules.specs.Coordinators.{Command, Coord, CoordTurn, rests, session_of, with_work, work_of}
use Rattle.gx_rules.specs.Fits.{fits_part}
use Rattle.gx_rules.specs.Locks.{with_hold}
use Rattle.gx_rules.specs.Rounds.{victims_at}
use Rattle.gx_rules.specs.Sending.{clock_after}
use Rattle.gx_locks.specs.Locks.{resumed, wait_of}
use Rattle.gx_waits.specs.Claims.{is_clear}
use Rattle.gx_meaning.specs.Plan.{plan_of}
use Rattle.gx_meaning.specs.declared.fault.ArithFault.{ArithFault}
use Rattle.gx_meaning.specs.declared.piece.Piece.{Piece}
use Rattle.gx_msg.specs.declared.message.Message.{Message}
use Rattle.gx_ids.specs.declared.ids.SessionId.{SessionId}
use Rattle.gx_script.specs.Session.{line_step}
use Rattle.gx_script.specs.declared.Script.{Script}
use Rattle.gx_script.specs.declared.line_step.LineStep.{LineStep}
use Rattle.gx_script.specs.declared.line_step.LineStep.TheVariants as step
use Rattle.gx_store.specs.Writes.{dist_of}
use Rattle.gx_store.specs.declared.node.NodeEvent.{NodeEvent}
use Rattle.gx_store.specs.declared.node.NodeEvent.TheVariants as event
use Rattle.gx_tree.specs.declared.stmt.Level.TheVariants.{ReadCommitted}
use Rattle.gx_tree.specs.declared.stmt.Stmt.{Stmt}
use Rattle.gx_waits.specs.declared.claim.Claim.{Claim}
use Rattle.gx_coord.specs.Own.{IsOwn}
use Rattle.gx_coord.specs.Sound.{IsSmall}

abbrev IsQuiet : CoordTurn → Type 0
IsQuiet turn = turn.item ≡ None

follows-quiet : (c : Coord) (g : Gxid) (turn : Turn) (o : Outcome) → IsQuiet (turns.follows c g turn o)
follows-quiet c g turn outcome.Pending = refl
follows-quiet c g turn outcome.Decided = refl
follows-quiet c g turn outcome.Committed = refl
follows-quiet c g turn (outcome.Refused i) = refl
follows-quiet c g turn outcome.Ended = refl

took-nothing : (shelf : Shelf) → Took shelf shelf false None
took-nothing shelf = record { items = sym (append-nil shelf.items); later = record { faults = omega arith; items = inl refl }; caused = λ e. absurd (cc); calm = λ e. refl }

if-quiet : (b : Bool) (t u : CoordTurn) → IsQuiet t → IsQuiet u → IsQuiet (if b then t else u)
if-quiet true t u h k = h
if-quiet false t u h k = k

completes-quiet : (c : Coord) (g : Gxid) (b : Block) → IsQuiet (turns.completes c g b)
completes-quiet c g block.Outside = follows-quiet c g (on_commit c.table g (work_of c g).writers) (on_commit c.table g (work_of c g).writers).out.outcome
completes-quiet c g block.Failed = refl
completes-quiet c g (block.Open level) = refl

goes_on-quiet : (c : Coord) (g : Gxid) (left : List Node) → IsQuiet (turns.goes_on c g left)
goes_on-quiet c g [] = completes-quiet c g (session_of c (work_of c g).session).state.block
goes_on-quiet c g (i ∷ is) = refl

done-quiet : (c : Coord) (g : Gxid) (i : Node) (cid : Cid) (wrote : Bool) (count : ℕ) (part : Part) (command : Option Command) → IsQuiet (turns.on_done c g i cid wrote count part command)
done-quiet c g i cid wrote count part None = refl
done-quiet c g i cid wrote count part (Some k) =
    let done = turns.with_done k i count part in
    let after = with_work c g (record (work_of c g) { writers = turns.writers_with wrote i (work_of c g).writers; command = Some done }) in
    if-quiet (turns.is_awaited k i cid && fits_part k.stmt part) (turns.takes_done c g i wrote count part k) (rests c) (goes_on-quiet after g done.awaited) refl

failed-quiet : (c : Coord) (g : Gxid) (i : Node) (cid : Cid) (cause : Cause) (command : Option Command) → IsQuiet (turns.on_failed c g i cid cause command)
failed-quiet c g i cid cause None = refl
failed-quiet c g i cid cause (Some k) =
    if-quiet (turns.is_awaited k i cid) (turns.is_refused c g (on_abort c.table g) [] (turns.reason_of cause)) (rests c) refl refl

-- whether an answer is for a command
abbrev pub IsForCommand : Reply → Type 0
IsForCommand (reply.Done cid wrote count part) = Unit {0}
IsForCommand (reply.Failed cid cause) = Unit {0}
IsForCommand _ = ⊥

answer-quiet : (c : Coord) (g : Gxid) (i : Node) (r : Reply) (fails : Bool) → IsForCommand r → IsQuiet (turns.on_answer c g i fails r)
answer-quiet c g i (reply.Done cid wrote count part) fails own = done-quiet c g i cid wrote count part _
answer-quiet c g i (reply.Failed cid cause) fails own = failed-quiet c g i cid cause _
answer-quiet c g i reply.Prepared fails own = absurd own
answer-quiet c g i reply.Committed fails own = absurd own
answer-quiet c g i reply.Jfault fails own = absurd own
answer-quiet c g i reply.Again fails own = absurd own
answer-quiet c g i reply.Restarted fails own = absurd own
answer-quiet c g i reply.Aborted fails own = absurd own
answer-quiet c g i reply.Forgotten fails own = absurd own

pub answer-took : (c : Coord) (g : Gxid) (i : Node) (r : Reply) (fails : Bool) (shelf : Shelf) → IsForCommand r → fails ≡ false → Took shelf shelf fails (turns.on_answer c g i fails r).item
answer-took c g i r fails shelf own e = subst (λ b. Took shelf shelf b (turns.on_answer c g i b r).item) (sym e) (subst (λ it. Took shelf shelf false it) (sym (answer-quiet c g i r false own)) (took-nothing shelf))

-- any other answer is for the transaction's status
abbrev IsForStatus : Reply → Type 0
IsForStatus (reply.Done cid wrote count part) = ⊥
IsForStatus (reply.Failed cid cause) = ⊥
IsForStatus _ = Unit {0}

pub for-status : (r : Reply) → ((cid : Cid) (wrote : Bool) (count : ℕ) (part : Part) → r ≡ reply.Done cid wrote count part → ⊥) → ((cid : Cid) (cause : Cause) → r ≡ reply.Failed cid cause → ⊥) → IsForStatus r
for-status (reply.Done cid wrote count part) a b = a cid wrote count part refl
for-status (reply.Failed cid cause) a b = b cid cause refl
for-status reply.Prepared a b = tt
for-status reply.Committed a b = tt
for-status reply.Jfault a b = tt
for-status reply.Again a b = tt
for-status reply.Restarted a b = tt
for-status reply.Aborted a b = tt
for-status reply.Forgotten a b = tt

pub status-turn : (c : Coord) (g : Gxid) (i : Node) (r : Reply) (fails : Bool) → IsForStatus r → turns.on_status c g i r fails ≡ turns.on_answer c g i fails r
status-turn c g i (reply.Done cid wrote count part) fails own = absurd own
status-turn c g i (reply.Failed cid cause) fails own = absurd own
status-turn c g i reply.Prepared fails own = refl
status-turn c g i reply.Committed fails own = refl
status-turn c g i reply.Jfault fails own = refl
status-turn c g i reply.Again fails own = refl
status-turn c g i reply.Restarted fails own = refl
status-turn c g i reply.Aborted fails own = refl
status-turn c g i reply.Forgotten fails own = refl

-- EVENTS THAT DON'T COME IN AN ENVELOPE
goes-quiet : (g : Gxid) (cid : Cid) (line : Stmt) (r : turns.Reading) (plan : Result (List Piece) ArithFault) → IsQuiet (turns.goes g cid line r plan)
goes-quiet g cid line r (Ok pieces) = refl
goes-quiet g cid line r (Err fault) = refl

locked-quiet : (script : Script) (c : Coord) (g : Gxid) (line : Stmt) → IsQuiet (turns.goes_on_locked script c g line)
locked-quiet script c g line =
    let cid = turns.next_cid (work_of c g) in
    goes-quiet g cid line (turns.reads_for c g cid (work_of c g) line) (plan_of script.segments (dist_of script.tables (turns.table_of line)) g cid line)

request-quiet : (script : Script) (c : Coord) (g : Gxid) (line : Stmt) (lock : Option Claim) → IsQuiet (turns.requests script c g line lock)
request-quiet script c g line None = locked-quiet script c g line
request-quiet script c g line (Some wanted) = by_test (is_clear c.locks.holds c.locks.waits wanted)
  where
    by_test : (b : Bool) → IsQuiet (turns.if_granted script c g line wanted b)
    by_test true = locked-quiet script (record c { locks = with_hold c.locks wanted }) g line
    by_test false = refl

line-quiet : (script : Script) (c : Coord) (s : SessionId) (line : Stmt) (asked : LineStep) → IsQuiet (turns.on_line script c s line asked)
line-quiet script c s line (step.Answer plain) = refl
line-quiet script c s line step.InFailedBlock = refl
line-quiet script c s line step.NotInBlock = refl
line-quiet script c s line (step.BeginBlock level) = refl
line-quiet script c s line step.CommitBlock =
    let g = (session_of c s).transaction in
    let turn = on_commit c.table g (work_of c g).writers in
    follows-quiet c g turn turn.out.outcome
line-quiet script c s line step.RollbackBlock = refl
line-quiet script c s line (step.Command true) = request-quiet script (turns.begins c s ReadCommitted) c.table.next line (table_lock script c.table.next line)
line-quiet script c s line (step.Command false) = request-quiet script c (session_of c s).transaction line (table_lock script (session_of c s).transaction line)

start-quiet : (script : Script) (c : Coord) (s : SessionId) (line : Option Stmt) → IsQuiet (turns.starts script c s line)
start-quiet script c s None = refl
start-quiet script c s (Some line) = line-quiet script (turns.starts_line c s (line_step (session_of c s).state.block line)) s line (line_step (session_of c s).state.block line)

end-quiet : (c : Coord) (s : SessionId) (b : Block) → IsQuiet (turns.ends_in c s b)
end-quiet c s (block.Open level) = refl
end-quiet c s block.Failed = refl
end-quiet c s block.Outside = refl

again-quiet : (c : Coord) (i : Node) (told : Option Message) → IsQuiet (turns.resends c i told)
again-quiet c i None = refl
again-quiet c i (Some told) = refl

resume-quiet : (script : Script) (c : Coord) (g : Gxid) (wait : Option Claim) (line : Option Stmt) → IsQuiet (turns.resumes script c g wait line)
resume-quiet script c g None line = refl
resume-quiet script c g (Some wanted) None = refl
resume-quiet script c g (Some wanted) (Some line) = locked-quiet script (with_work (record c { locks = resumed c.locks g (Some wanted) }) g (record (work_of c g) { waiting = None })) g line

pub own-quiet : (script : Script) (c : Coord) (x : NodeEvent) (fails : Bool) → IsOwn x → IsQuiet (turns.on_event script c x fails)
own-quiet script c (event.Deliver from envelope) fails own = absurd own
own-quiet script c (event.Start s) fails own = start-quiet script c s (turns.next_line script c s)
own-quiet script c (event.End s) fails own = end-quiet c s (session_of c s).state.block
own-quiet script c (event.Resend i (Some g)) fails own = again-quiet c i (turns.awaited c g i)
own-quiet script c (event.Resend i None) fails own = again-quiet c i (turns.awaited_collect c i)
own-quiet script c (event.Resume g) fails own = resume-quiet script c g (wait_of c.locks g) (work_of c g).waiting
own-quiet script c event.Round fails own = refl

pub own-nobody : (c : Coord) (x : NodeEvent) → IsOwn x → victims_at c x ≡ []
own-nobody c (event.Deliver from envelope) own = absurd own
own-nobody c (event.Start s) own = refl
own-nobody c (event.End s) own = refl
own-nobody c (event.Resend i (Some g)) own = refl
own-nobody c (event.Resend i None) own = refl
own-nobody c (event.Resume g) own = refl
own-nobody c event.Round own = refl

pub own-took : (script : Script) (c : Coord) (x : NodeEvent) (fails : Bool) (shelf : Shelf) → IsOwn x → fails ≡ false → Took shelf shelf fails (turns.on_event script c x fails).item
own-took script c x fails shelf own e = subst (λ b. Took shelf shelf b (turns.on_event script c x b).item) (sym e) (subst (λ it. Took shelf shelf false it) (sym (own-quiet script c x false own)) (took-nothing shelf))

pub own-small : (x : NodeEvent) → IsOwn x → IsSmall x
own-small (event.Deliver from envelope) own = absurd own
own-small (event.Start s) own = tt
own-small (event.End s) own = tt
own-small (event.Resend i g) own = tt
own-small (event.Resume g) own = tt
own-small event.Round own = tt

none-below : (n : ℕ) → nat_lt n 0 ≡ false
none-below n = grind (arith, nat_tests)

later-clock : (n : ℕ) → n + 1 ≡ (if nat_lt n 0 then 0 else n) + 1
later-clock n = ap (λ b. (if b then 0 else n) + 1) (sym (none-below n))

-- such an event brings no clock
pub own-clock : (n : ℕ) (x : NodeEvent) → IsOwn x → n + 1 ≡ clock_after n x
own-clock n (event.Deliver from envelope) own = absurd own
own-clock n (event.Start s) own = later-clock n
own-clock n (event.End s) own = later-clock n
own-clock n (event.Resend i g) own = later-clock n
own-clock n (event.Resume g) own = later-clock n
own-clock n event.Round own = later-clock n
