-- What each call makes of the coordinator's transactions: statuses, one-phase and two-phase commit, and aborts
-- (Lyu et al., SIGMOD 2021).
use Rattle.std.specs.Prelude.{ℕ, ◌+◌, Bool, true, false, List, [], ◌∷◌, ◌++◌, ◌==◌, nat_lt, All, IsTrue, Option, None, Some, if◌then◌else◌}
use Rattle.std.specs.Map.{lookup, set_value, remove_entry}
use Rattle.std.specs.BTreeMap.{is_at}
use Rattle.gx_ids.specs.declared.ids.Gxid.{Gxid}
use Rattle.gx_ids.specs.declared.ids.Node.{Node}
use Rattle.gx_dsnap.specs.Gxids.{gxid_cmp}
use Rattle.gx_msg.specs.ItemBytes.{bytes_of_item}
use Rattle.gx_msg.specs.declared.item.JournalItem.TheVariants as item
use Rattle.gx_msg.specs.declared.message.Message.TheVariants as message
use Rattle.gx_msg.specs.declared.message.Out.{Out}
use Rattle.gx_msg.specs.declared.reply.Reply.{Reply}
use Rattle.gx_msg.specs.declared.reply.Reply.TheVariants as reply
use Rattle.gx_dtx.specs.Nodes.{has, without, with_node, to_each, AreRising}
use Rattle.gx_dtx.specs.Table.{Table, new_txn, find_txn, participants_of}
use Rattle.gx_dtx.specs.declared.change.Change.{Change}
use Rattle.gx_dtx.specs.declared.change.Step.{Step}
use Rattle.gx_dtx.specs.declared.change.Step.TheVariants.{Stays, GoesTo, Leaves}
use Rattle.gx_dtx.specs.declared.order.Order.{Order}
use Rattle.gx_dtx.specs.declared.order.Order.TheVariants as order
use Rattle.gx_dtx.specs.declared.outcome.DtxOut.{DtxOut}
use Rattle.gx_dtx.specs.declared.outcome.Outcome.{Outcome}
use Rattle.gx_dtx.specs.declared.outcome.Outcome.TheVariants as outcome
use Rattle.gx_dtx.specs.declared.phase.Phase.{Phase}
use Rattle.gx_dtx.specs.declared.phase.Phase.TheVariants.{Active, Preparing, CommittingOne, CommittingTwo, Ended, Aborting}
use Rattle.gx_dtx.specs.declared.txn.Txn.{Txn}

-- ---- the table

abbrev pub with_found : List (Gxid × Txn) → Gxid → (Txn → Txn) → Option Txn → List (Gxid × Txn)
with_found txns g f None = txns
with_found txns g f (Some t) = set_value (is_at (gxid_cmp g)) txns (f t)

-- the transactions, with f's of the one of this gxid in its place
abbrev pub with_txn : List (Gxid × Txn) → Gxid → (Txn → Txn) → List (Gxid × Txn)
with_txn txns g f = with_found txns g f (lookup (is_at (gxid_cmp g)) txns)

-- a transaction begins
abbrev pub begun : Table → Table
begun d = record d { next = record { 0 = d.next.0 + 1 }; txns = d.txns ++ (d.next, new_txn) ∷ [] }

-- the transaction's live snapshot is this one's, or none
abbrev pub with_live : Table → Gxid → Option Gxid → Table
with_live d g live = record d { txns = with_txn d.txns g (λ t. record t { live = live }) }

-- a command of the transaction goes to the node
abbrev pub enlisted : Table → Gxid → Node → Table
enlisted d g i = record d { txns = with_txn d.txns g (λ t. record t { participants = with_node i t.participants }) }

-- a snapshot lives until its transaction's commit or abort at the latest
abbrev pub live_in : Phase → Option Gxid → Option Gxid
live_in (Ended _) live = None
live_in (Aborting _) live = None
live_in _ live = live

abbrev pub moved : Phase → Txn → Txn
moved p t = record t { phase = p; live = live_in p t.live }

-- the transactions after a step of this one
abbrev pub with_step : List (Gxid × Txn) → Gxid → Step → List (Gxid × Txn)
with_step txns g Stays = txns
with_step txns g (GoesTo p) = with_txn txns g (moved p)
with_step txns g Leaves = remove_entry (is_at (gxid_cmp g)) txns

-- whether the transaction has ended by this call
abbrev pub ends : Outcome → Bool
ends outcome.Committed = true
ends outcome.Ended = true
ends _ = false

abbrev pub greater_of : Gxid → Option Gxid → Gxid
greater_of g None = g
greater_of g (Some h) = if nat_lt h.0 g.0 then g else h

abbrev pub with_ended : Bool → Gxid → Option Gxid → Option Gxid
with_ended true g latest = Some (greater_of g latest)
with_ended false g latest = latest

-- the table after a change of the transaction
abbrev pub changed : Table → Gxid → Change → Table
changed d g c = record d { latest_ended = with_ended (ends c.out.outcome) g d.latest_ended; txns = with_step d.txns g c.step }

-- ---- one transaction

abbrev pub nothing : DtxOut
nothing = record { outs = []; outcome = outcome.Pending }

-- nothing changes
abbrev pub stays : Change
stays = record { step = Stays; out = nothing }

-- it goes on to a phase, and this is sent
abbrev pub goes_to : Phase → List Out → Outcome → Change
goes_to p outs o = record { step = GoesTo p; out = record { outs = outs; outcome = o } }

-- it leaves the table
abbrev pub leaves : Outcome → Change
leaves o = record { step = Leaves; out = record { outs = []; outcome = o } }

-- it has ended by a commit: every participant may forget it
abbrev pub ends_committed : Gxid → List Node → Change
ends_committed g [] = leaves outcome.Committed
ends_committed g (i ∷ is) = goes_to (Ended (i ∷ is)) (to_each (message.Forget g) (i ∷ is)) outcome.Committed

-- a journal has failed, which aborts it at every participant
abbrev pub refuses : Gxid → List Node → Node → Change
refuses g participants i = goes_to (Aborting participants) (to_each (message.Abort g) participants) (outcome.Refused i)

-- commit: without a writer it has ended; one writer is told to commit; more are asked to prepare
abbrev pub commits : Gxid → List Node → Txn → Change
commits g [] t = ends_committed g t.participants
commits g (i ∷ []) t = goes_to (CommittingOne i) (to_each (message.Commit g) (i ∷ [])) outcome.Pending
commits g (i ∷ j ∷ is) t = goes_to (Preparing (i ∷ j ∷ is) (i ∷ j ∷ is)) (to_each (message.Prepare g) (i ∷ j ∷ is)) outcome.Pending

-- abort: without a participant it has ended; every participant is told to abort
abbrev pub aborts : Gxid → List Node → Change
aborts g [] = leaves outcome.Ended
aborts g (i ∷ is) = goes_to (Aborting (i ∷ is)) (to_each (message.Abort g) (i ∷ is)) outcome.Pending

-- whether this answer of the node is awaited
abbrev pub is_awaited : Phase → Node → Reply → Bool
is_awaited (Preparing _ awaited) i reply.Prepared = has i awaited
is_awaited (Preparing _ awaited) i reply.Jfault = has i awaited
is_awaited (CommittingOne w) i reply.Committed = w.0 == i.0
is_awaited (CommittingOne w) i reply.Jfault = w.0 == i.0
is_awaited (CommittingTwo awaited) i reply.Committed = has i awaited
is_awaited (Ended awaited) i reply.Forgotten = has i awaited
is_awaited (Aborting awaited) i reply.Aborted = has i awaited
is_awaited _ _ _ = false

-- when all writers are prepared, the coordinator appends the decide item: then they commit, or its journal has failed
abbrev pub decides : Gxid → List Node → List Node → Bool → Change
decides g writers participants false = goes_to (CommittingTwo writers) (to_each (message.CommitPrepared g) writers) outcome.Decided
decides g writers participants true = refuses g participants (record { 0 = 0 })

-- a writer has prepared; these haven't yet
abbrev pub prepares : Gxid → List Node → List Node → List Node → Bool → Change
prepares g writers participants [] refused = decides g writers participants refused
prepares g writers participants (i ∷ is) refused = goes_to (Preparing writers (i ∷ is)) [] outcome.Pending

-- a writer has committed as promised; these haven't yet
abbrev pub finishes : Gxid → List Node → List Node → Change
finishes g participants [] = ends_committed g participants
finishes g participants (i ∷ is) = goes_to (CommittingTwo (i ∷ is)) [] outcome.Pending

-- a participant has forgotten it; these haven't yet
abbrev pub forgets : List Node → Change
forgets [] = leaves outcome.Pending
forgets (i ∷ is) = goes_to (Ended (i ∷ is)) [] outcome.Pending

-- a participant has aborted it; these haven't yet
abbrev pub gives_up : List Node → Change
gives_up [] = leaves outcome.Ended
gives_up (i ∷ is) = goes_to (Aborting (i ∷ is)) [] outcome.Pending

-- an awaited answer is taken; `refused` says whether the coordinator's journal fails where it has to append
abbrev pub takes : Gxid → List Node → Node → Bool → Phase → Reply → Change
takes g participants i refused (Preparing writers awaited) reply.Prepared = prepares g writers participants (without i awaited) refused
takes g participants i refused (Preparing writers awaited) reply.Jfault = refuses g participants i
takes g participants i refused (CommittingOne w) reply.Committed = ends_committed g participants
takes g participants i refused (CommittingOne w) reply.Jfault = refuses g participants i
takes g participants i refused (CommittingTwo awaited) reply.Committed = finishes g participants (without i awaited)
takes g participants i refused (Ended awaited) reply.Forgotten = forgets (without i awaited)
takes g participants i refused (Aborting awaited) reply.Aborted = gives_up (without i awaited)
takes g participants i refused _ _ = stays

-- ---- calls

-- what is known after a call, and what it has come to
pub record Turn : Type 0 where
  pub table : Table
  pub out : DtxOut

abbrev pub turns : Table → Gxid → Change → Turn
turns d g c = record { table = changed d g c; out = c.out }

abbrev pub commit_found : Gxid → List Node → Option Txn → Change
commit_found g writers None = stays
commit_found g writers (Some t) = commits g writers t

abbrev pub on_commit : Table → Gxid → List Node → Turn
on_commit d g writers = turns d g (commit_found g writers (find_txn d g))

abbrev pub abort_found : Gxid → Option Txn → Change
abort_found g None = stays
abort_found g (Some t) = aborts g t.participants

abbrev pub on_abort : Table → Gxid → Turn
on_abort d g = turns d g (abort_found g (find_txn d g))

-- an answer that isn't awaited changes nothing
abbrev pub reply_found : Gxid → Node → Reply → Bool → Option Txn → Change
reply_found g i answer refused None = stays
reply_found g i answer refused (Some t) = if is_awaited t.phase i answer then takes g t.participants i refused t.phase answer else stays

abbrev pub on_reply : Table → Gxid → Node → Reply → Bool → Turn
on_reply d g i answer refused = turns d g (reply_found g i answer refused (find_txn d g))

abbrev pub awaits_found : Node → Reply → Option Txn → Bool
awaits_found i answer None = false
awaits_found i answer (Some t) = is_awaited t.phase i answer

-- whether this answer of the node about the transaction is awaited
abbrev pub awaits : Table → Gxid → Node → Reply → Bool
awaits d g i answer = awaits_found i answer (find_txn d g)

-- whether a transaction of this phase is decided by this answer, if the journal takes the item
abbrev pub is_last : List Node → Bool
is_last [] = true
is_last (_ ∷ _) = false

abbrev pub decides_in : Phase → Node → Reply → Bool
decides_in (Preparing writers awaited) i reply.Prepared = if has i awaited then is_last (without i awaited) else false
decides_in _ _ _ = false

abbrev pub decides_found : Option Txn → Node → Reply → Bool
decides_found None i answer = false
decides_found (Some t) i answer = decides_in t.phase i answer

-- whether this answer is the last that the coordinator needs to decide, so that it appends the decide item
abbrev pub is_deciding : Table → Gxid → Node → Reply → Bool
is_deciding d g i answer = decides_found (find_txn d g) i answer

-- the order whose answer from the node is awaited in this phase
abbrev pub order_in : Phase → Node → Option Order
order_in Active i = None
order_in (Preparing _ awaited) i = if has i awaited then Some order.Prepare else None
order_in (CommittingOne w) i = if w.0 == i.0 then Some order.Commit else None
order_in (CommittingTwo awaited) i = if has i awaited then Some order.CommitPrepared else None
order_in (Ended awaited) i = if has i awaited then Some order.Forget else None
order_in (Aborting awaited) i = if has i awaited then Some order.Abort else None

abbrev pub order_found : Node → Option Txn → Option Order
order_found i None = None
order_found i (Some t) = order_in t.phase i

-- the order to the node whose answer is awaited
abbrev pub awaited_order : Table → Gxid → Node → Option Order
awaited_order d g i = order_found i (find_txn d g)

-- whether the coordinator's own journal has failed, in the outcome of an answer that decides
abbrev pub is_refused : Outcome → Bool
is_refused (outcome.Refused _) = true
is_refused _ = false

-- the writers are enlisted, and rise
pub record AreWriters (d : Table) (g : Gxid) (writers : List Node) : Type 0 where
  pub rising : AreRising writers
  pub among : All (λ w. IsTrue (has w (participants_of d g))) writers

-- ---- a transaction without participants

-- the table without a transaction that has ended and that nobody has to forget
abbrev pub ended_alone : Table → Gxid → Table
ended_alone d g = record d { latest_ended = Some (greater_of g d.latest_ended); txns = remove_entry (is_at (gxid_cmp g)) d.txns }

-- nothing is sent
abbrev pub silently : Outcome → DtxOut
silently o = record { outs = []; outcome = o }

-- ---- the journal

-- the items that the coordinator appends for this outcome of an answer
abbrev pub decide_items : Gxid → Outcome → List (List ℕ)
decide_items g outcome.Decided = bytes_of_item (item.Decide g) ∷ []
decide_items g _ = []
