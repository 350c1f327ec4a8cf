-- Where nothing but a round is enabled, whoever holds a row's lock at a segment waits there, at that row.
use Rattle.std.proofs.Common.{◌≡◌, ◌⊎◌, inl, inr, ◌≤◌, ◌<◌, ℕ, List, [], ◌∷◌, Option, Some, None, Bool, true, false, not, refl, sym, subst, ap, ◌∙◌, if◌then◌else◌, ◌&&◌, ◌||◌, nat_lt, ◌==◌, arith, length, All, Contains}
use Rattle.std.proofs.lemmas.Bool.{and_parts}
use Rattle.std.proofs.lemmas.Bool.Decides.{nat_tests}
use Rattle.std.specs.List.{list_all}
use Rattle.std.specs.Prelude.{is_some, nat_le}
use Rattle.gx_lemmas.proofs.Numbers.{le-of, lt-of}
use Rattle.gx_lemmas.proofs.Tests.{true-false}
use Rattle.gx_ids.specs.declared.ids.Cid.{Cid}
use Rattle.gx_ids.specs.declared.ids.Gxid.{Gxid}
use Rattle.gx_ids.specs.declared.ids.Node.{Node}
use Rattle.gx_ids.specs.declared.rid.Rid.{Rid}
use Rattle.gx_dtx.specs.Nodes.{has}
use Rattle.gx_dtx.specs.Table.{find_txn, participants_in}
use Rattle.gx_dtx.specs.declared.phase.Phase.{Phase as Status}
use Rattle.gx_dtx.specs.declared.phase.Phase.TheVariants as status
use Rattle.gx_dtx.specs.declared.order.Order.TheVariants as order
use Rattle.gx_dtx.specs.declared.txn.Txn.{Txn}
use Rattle.gx_msg.specs.declared.message.Message.{Message}
use Rattle.gx_msg.specs.declared.message.Message.TheVariants as message
use Rattle.gx_msg.specs.declared.reply.Reply.{Reply}
use Rattle.gx_ids.specs.declared.ids.SessionId.{SessionId}
use Rattle.gx_script.specs.declared.Script.{Script}
use Rattle.gx_script.specs.declared.state.Block.{Block}
use Rattle.gx_script.specs.declared.state.Block.TheVariants as block
use Rattle.gx_script.specs.declared.state.Pending.{Pending}
use Rattle.gx_script.specs.declared.state.Pending.TheVariants as pending
use Rattle.gx_store.specs.Language.{AreLinesNumbered}
use Rattle.gx_store.specs.Marks.{is_aborted}
use Rattle.gx_store.specs.Points.{marks_in}
use Rattle.gx_store.specs.Refusals.{the_coordinator}
use Rattle.gx_store.specs.Schedule.{enabled, is_exec}
use Rattle.gx_store.specs.Whole.{AreInsertsWhole}
use Rattle.gx_store.specs.declared.event.Event.{Event}
use Rattle.gx_store.specs.declared.run.Step.{Step}
use Rattle.gx_waits.specs.declared.claim.Claim.{Claim}
use Rattle.gx_waits.specs.declared.object.Object.TheVariants.{Tuple}
use Rattle.gx_locks.specs.Locks.{Locks, may_take, wait_of}
use Rattle.gx_rules.specs.AtCoordinator.{is_idle, is_in_block, is_left, is_nothing, is_unfinished_there, next_line, awaited, command_order, order_to, status_order}
use Rattle.gx_dtx.specs.Rules.{order_found, order_in}
use Rattle.gx_rules.specs.Coordinators.{Command, Coord, session_of, work_of}
use Rattle.gx_rules.specs.Machine.{World, world_of}
use Rattle.gx_rules.specs.Rounds.{active_in, is_live}
use Rattle.gx_store.specs.Rounds.{is_active}
use Rattle.gx_waits.proofs.Members.{contains_from_has}
use Rattle.gx_rules.specs.Segments.{Local, Seg, has_ended, local_of, Suspended}
use Rattle.gx_law_order.proofs.Above.{world-waits}
use Rattle.gx_law_order.proofs.Always.{world-holds}
use Rattle.gx_law_order.proofs.Held.{held_in, is_awaited_at, is_held}
use Rattle.gx_law_order.proofs.Past.{there-drawn}
use Rattle.gx_law_order.proofs.Waiting.{HasSlice, has-slice, has-statement, holds-there, waiting}
use Rattle.gx_law_order.proofs.World.{Knows, world_knows}
use Rattle.gx_law_order.specs.Stages.{Stage, stage, stage_in, stage_of}
use Rattle.gx_law_order.specs.Sessions.{is_closing_in, is_live_in, is_said}
use Rattle.gx_law_order.specs.Stages.Stage.{Absent, Closing, Dropped, Finished, Live as LiveStage}
use Rattle.gx_law_order.specs.Standings.{at, gx, standing, standing_in, waits_in}
use Rattle.gx_law_order.specs.Standings.Standing.{Live, Over}
use Rattle.gx_law_locks.proofs.Active.{world-active}
use Rattle.gx_law_locks.proofs.Listed.{live-listed}
use Rattle.gx_law_runs.proofs.Awaited.{world-asks}
use Rattle.gx_law_runs.proofs.Finishing.{alike, beyond-finished}
use Rattle.gx_law_runs.proofs.Going.{all-blocked, drawn-waits, inside-blocked, locks-alike, no-resumption, none-due, none-there, not-ready, of-drawn}
use Rattle.gx_law_runs.proofs.Nothing.{nil-left}
use Rattle.gx_law_runs.specs.Awaiting.{IsBlocked, locks_at}
use Rattle.gx_law_runs.proofs.Neat.{IsExecOf, NeatCommand}
use Rattle.gx_law_runs.proofs.Reaching.{replayed}
use Rattle.gx_law_runs.specs.Enabled.{is_due}
use Rattle.gx_law_runs.specs.Openings.{is_round_or_opening}
use Rattle.gx_law_runs.specs.Reached.{IsReached}
use Rattle.gx_law_runs.specs.Replays.{coordinator_after, segment_after, world_behind}
use Rattle.gx_law_lone.specs.Alone.{WaitsSomewhere}
use Rattle.gx_law_lone.specs.Rows.{HasFailedThere, WaitsAtRow, has_failed}
use Rattle.gx_law_lone.proofs.Held.{world-rows, world-runs}
use Rattle.gx_law_lone.proofs.Holders.{holder-runs}

-- an EXEC is a message
exec-some : (g : ℕ) (c : Cid) (o : Option Message) → IsExecOf g c o → is_some o ≡ true
exec-some g c None e = absurd e
exec-some g c (Some m) e = refl

unanswered : (o : Option Reply) → o ≡ None → has_failed o ≡ true → ⊥
unanswered o e q = cc

some-there : (i : Node) (ns : List Node) → has i ns ≡ true → ns ≡ [] → ⊥
some-there i [] x y = absurd (cc)
some-there i (n ∷ ns) x y = absurd (cc)

finished : Finished ≡ LiveStage → ⊥
finished e = cc

dropped : Dropped ≡ LiveStage → ⊥
dropped e = cc

-- who waits for nobody's commit is over
no-active : (i : ℕ) → standing_in status.Active i ≡ Over → ⊥
no-active i e = cc

no-preparing : (i : ℕ) (xs aw : List Node) → standing_in (status.Preparing xs aw) i ≡ Over → ⊥
no-preparing i xs aw e = cc

no-one : (i : ℕ) (x : Node) → standing_in (status.CommittingOne x) i ≡ Over → ⊥
no-one i x e = cc

no-two : (i : ℕ) (aw : List Node) → standing_in (status.CommittingTwo aw) i ≡ Over → ⊥
no-two i aw e = cc

none-held : (i : ℕ) → is_held None i ≡ true → ⊥
none-held i e = cc

open-live : (b : Block) (p : Pending) → is_live_in b p ≡ true → is_nothing p ≡ true → is_in_block b ≡ true
open-live (block.Open level) p l e = refl
open-live block.Failed p l e = refl
open-live block.Outside pending.Nothing l e = absurd (cc)
open-live block.Outside pending.Command l e = absurd (cc)
open-live block.Outside pending.Commit l e = absurd (cc)

closing-busy : (b : Block) (p : Pending) → is_closing_in b p ≡ true → is_nothing p ≡ true → ⊥
closing-busy (block.Open level) pending.Nothing l e = absurd (cc)
closing-busy block.Failed pending.Nothing l e = absurd (cc)
closing-busy block.Outside pending.Nothing l e = absurd (cc)
closing-busy b pending.Command l e = absurd (cc)
closing-busy b pending.Commit l e = absurd (cc)

unfinished-by : (i b l : Bool) → b ≡ true → (not i || (b || l)) ≡ true
unfinished-by true true l e = refl
unfinished-by false b l e = refl
unfinished-by true false l e = absurd (cc)

slice-some : (o : Option Suspended) (x : Suspended) → o ≡ Some x → is_some o ≡ true
slice-some o x e = cc

live-standing : (b : Bool) (o : Option Txn) (i : ℕ) → standing b o i ≡ Live → is_live o ≡ true
live-standing true None i e = absurd (cc)
live-standing false None i e = absurd (cc)
live-standing b (Some t) i e = by_phase t.phase e
  where
    by_phase : (p : Status) → standing_in p i ≡ Live → is_live (Some (record t { phase = p })) ≡ true
    by_phase status.Active q = refl
    by_phase (status.Preparing xs aw) q = absurd (cc)
    by_phase (status.CommittingOne x) q = absurd (cc)
    by_phase (status.CommittingTwo aw) q = absurd (cc)
    by_phase (status.Ended aw) q = absurd (cc)
    by_phase (status.Aborting aw) q = absurd (cc)

live-stage-is : (o : Option Txn) → stage o ≡ LiveStage → is_live o ≡ true
live-stage-is None e = absurd (cc)
live-stage-is (Some t) e = by_phase t.phase e
  where
    by_phase : (p : Status) → stage_in p ≡ LiveStage → is_live (Some (record t { phase = p })) ≡ true
    by_phase status.Active q = refl
    by_phase (status.Preparing xs aw) q = absurd (cc)
    by_phase (status.CommittingOne x) q = absurd (cc)
    by_phase (status.CommittingTwo aw) q = absurd (cc)
    by_phase (status.Ended aw) q = absurd (cc)
    by_phase (status.Aborting aw) q = absurd (cc)

due : (a b d : Bool) → a ≡ true → (b ≡ false) ⊎ (d ≡ false) → (a && (not b || not d)) ≡ false → ⊥
due true true true e (inl f) h = absurd (cc)
due true true true e (inr f) h = absurd (cc)
due true true false e f h = absurd (cc)
due true false d e f h = absurd (cc)
due false b d e f h = absurd (cc)

split : (a b : Bool) → (a && not b) ≡ true → (a ≡ true) × (b ≡ false)
split true true e = absurd (cc)
split true false e = (refl, refl)
split false b e = absurd (cc)

module _ (script : Script) (some : 1 ≤ script.segments) (inserts : AreInsertsWhole script.tables script.lines) (es : List (Event × Bool)) (nothing : list_all (is_round_or_opening script (world_of script es).steps) (enabled script (world_of script es).steps) ≡ true) (i : ℕ) (there : (1 ≤ i) × (i ≤ script.segments)) (g : Gxid) (held : held_in (world_of script es).coord.table i g.0 ≡ true) where
  abbrev w : World
  w = world_of script es

  abbrev c : Coord
  c = (world_of script es).coord

  abbrev its : Local
  its = local_of ((world_of script es).segs i) g

  knows : Knows script w
  knows = world_knows script some es

  -- it was drawn
  drawn : (1 ≤ g.0) × (g.0 < c.table.next.0)
  drawn = by_found (find_txn c.table g) refl held
    where
      by_found : (o : Option Txn) → find_txn c.table g ≡ o → is_held o i ≡ true → (1 ≤ g.0) × (g.0 < c.table.next.0)
      by_found None e h = absurd (none-held i h)
      by_found (Some t) e h = there-drawn c.table.next.0 g.0 c.table.txns t knows.kept.whole.drawn e

  not-due : is_due w (at i) g ≡ false
  not-due = of-drawn script some inserts es nothing (is_due w (at i)) (none-due script some inserts es nothing (at i) there) g drawn

  -- WHO HAS FAILED
  fails : HasFailedThere w (at i) g → ⊥
  fails f = due (is_some (awaited c g (at i))) (is_exec (awaited c g (at i))) (is_some (wait_of (w.segs i).locks g)) asked (inr idle) not-due
    where
      asked : is_some (awaited c g (at i)) ≡ true
      asked = by_command (work_of c g).command refl f.awaited
        where
          by_command : (o : Option Command) → (work_of c g).command ≡ o → waits_in o i ≡ true → is_some (awaited c g (at i)) ≡ true
          by_command None e q = absurd (cc)
          by_command (Some k) e q =
              let n = subst (λ o. NeatCommand g.0 (participants_in (find_txn c.table g)) o) e ((world-asks script some es).neat g.0).command (at i) q in
              ap (λ o. is_some (command_order o (at i) (status_order g (order_found (at i) (find_txn c.table g))))) e
              ∙ ap (λ b. is_some (if b then order_to (at i) k.orders else status_order g (order_found (at i) (find_txn c.table g)))) q
              ∙ exec-some g.0 k.cid _ n.1

      idle : is_some (wait_of (w.segs i).locks g) ≡ false
      idle = by_wait (wait_of (w.segs i).locks g) refl
        where
          by_wait : (o : Option Claim) → wait_of (w.segs i).locks g ≡ o → is_some o ≡ false
          by_wait None e = refl
          by_wait (Some wanted) e =
              let s : HasSlice script (w.segs i) g wanted = has-slice script w knows.well i g wanted e in
              absurd (unanswered its.answer (waiting script w knows.well i g s.slice s.is).unanswered f.failed)

  -- what is over and waits for the segment asks it
  told : (t : Txn) → find_txn c.table g ≡ Some t → (o : Option Message) → is_some o ≡ true → is_exec o ≡ false → status_order g (order_in t.phase (at i)) ≡ o → (stage_of c g.0 ≡ LiveStage → ⊥) → ⊥
  told t e o some_one plain so off = by_command (work_of c g).command refl
    where
      its-order : status_order g (order_found (at i) (find_txn c.table g)) ≡ o
      its-order = ap (λ t. status_order g (order_found (at i) t)) e ∙ so

      asks : awaited c g (at i) ≡ o → ⊥
      asks q = due (is_some (awaited c g (at i))) (is_exec (awaited c g (at i))) (is_some (wait_of (w.segs i).locks g)) (ap is_some q ∙ some_one) (inl (ap is_exec q ∙ plain)) not-due

      by_has : (k : Command) → (work_of c g).command ≡ Some k → (b : Bool) → has (at i) k.awaited ≡ b → ⊥
      by_has k f true q = off ((knows.kept.tied g.0).awaits k f (some-there (at i) k.awaited q)).0
      by_has k f false q =
          asks (ap (λ x. command_order x (at i) (status_order g (order_found (at i) (find_txn c.table g)))) f
          ∙ ap (λ b. if b then order_to (at i) k.orders else status_order g (order_found (at i) (find_txn c.table g))) q ∙ its-order)

      by_command : (x : Option Command) → (work_of c g).command ≡ x → ⊥
      by_command None f = asks (ap (λ x. command_order x (at i) (status_order g (order_found (at i) (find_txn c.table g)))) f ∙ its-order)
      by_command (Some k) f = by_has k f (has (at i) k.awaited) refl

  no-stage : (t : Txn) → find_txn c.table g ≡ Some t → (s : Stage) → stage_in t.phase ≡ s → (s ≡ LiveStage → ⊥) → stage_of c g.0 ≡ LiveStage → ⊥
  no-stage t e s f n l = n (sym f ∙ sym (ap stage e) ∙ l)

  ended-asks : (t : Txn) → find_txn c.table g ≡ Some t → (aw : List Node) → t.phase ≡ status.Ended aw → has (at i) aw ≡ true → ⊥
  ended-asks t e aw f h =
      told t e (Some (message.Forget g)) refl refl (ap (λ p. status_order g (order_in p (at i))) f ∙ ap (λ b. status_order g (if b then Some order.Forget else None)) h) (no-stage t e Finished (ap stage_in f) finished)

  dropped-asks : (t : Txn) → find_txn c.table g ≡ Some t → (aw : List Node) → t.phase ≡ status.Aborting aw → has (at i) aw ≡ true → ⊥
  dropped-asks t e aw f h =
      told t e (Some (message.Abort g)) refl refl (ap (λ p. status_order g (order_in p (at i))) f ∙ ap (λ b. status_order g (if b then Some order.Abort else None)) h) (no-stage t e Dropped (ap stage_in f) dropped)

  -- WHO HAS ABORTED
  aborts : is_aborted (marks_in w.steps) g ≡ true → ⊥
  aborts a = by_found (find_txn c.table g) refl held
    where
      over : standing (nat_le c.table.next.0 g.0) (find_txn c.table g) i ≡ Over
      over = ((world-holds script some es).stands.pairs i g.0).aborts a

      by_phase : (t : Txn) → find_txn c.table g ≡ Some t → (p : Status) → t.phase ≡ p → standing_in p i ≡ Over → is_awaited_at p i ≡ true → ⊥
      by_phase t e (status.Ended aw) f o h = ended-asks t e aw f h
      by_phase t e (status.Aborting aw) f o h = dropped-asks t e aw f h
      by_phase t e status.Active f o h = no-active i o
      by_phase t e (status.Preparing xs aw) f o h = no-preparing i xs aw o
      by_phase t e (status.CommittingOne x) f o h = no-one i x o
      by_phase t e (status.CommittingTwo aw) f o h = no-two i aw o

      by_found : (o : Option Txn) → find_txn c.table g ≡ o → is_held o i ≡ true → ⊥
      by_found None e h = none-held i h
      by_found (Some t) e h = by_phase t e t.phase refl (sym (ap (λ x. standing (nat_le c.table.next.0 g.0) x i) e) ∙ over) (and_parts (has (at i) t.participants) (is_awaited_at t.phase i) h).1

  -- WHO RUNS
  runs-in : (t : Txn) → find_txn c.table g ≡ Some t → (p : Status) → t.phase ≡ p → is_awaited_at p i ≡ true → (stage_of c g.0 ≡ LiveStage) ⊎ (stage_of c g.0 ≡ Closing)
  runs-in t e status.Active f h = inl (ap stage e ∙ ap stage_in f)
  runs-in t e (status.Preparing xs aw) f h = inr (ap stage e ∙ ap stage_in f)
  runs-in t e (status.CommittingOne x) f h = inr (ap stage e ∙ ap stage_in f)
  runs-in t e (status.CommittingTwo aw) f h = inr (ap stage e ∙ ap stage_in f)
  runs-in t e (status.Ended aw) f h = absurd (ended-asks t e aw f h)
  runs-in t e (status.Aborting aw) f h = absurd (dropped-asks t e aw f h)

  runs : (stage_of c g.0 ≡ LiveStage) ⊎ (stage_of c g.0 ≡ Closing)
  runs = by_found (find_txn c.table g) refl held
    where
      by_found : (o : Option Txn) → find_txn c.table g ≡ o → is_held o i ≡ true → (stage_of c g.0 ≡ LiveStage) ⊎ (stage_of c g.0 ≡ Closing)
      by_found None e h = absurd (none-held i h)
      by_found (Some t) e h = runs-in t e t.phase refl (and_parts (has (at i) t.participants) (is_awaited_at t.phase i) h).1

-- WHO RUNS WAITS
-- the session of a transaction that runs, or is on its way to a commit, has something left to do, so it is blocked
module _ (script : Script) (some : 1 ≤ script.segments) (inserts : AreInsertsWhole script.tables script.lines) (es : List (Event × Bool)) (nothing : list_all (is_round_or_opening script (world_of script es).steps) (enabled script (world_of script es).steps) ≡ true) (numbered : AreLinesNumbered [] script.lines) (sessions : All (λ line. line.session.0 < length script.sessions) script.lines) (g : Gxid) where
  abbrev x : World
  x = world_of script es

  abbrev d : Coord
  d = (world_of script es).coord

  abbrev k : SessionId
  k = ((world_of script es).coord.works g.0).session

  waits-for : (session_of d k).transaction.0 ≡ g.0 → IsBlocked script x k → WaitsSomewhere script x g
  waits-for same b = record { at = b.at; within = b.node; waits = subst (λ (n : ℕ). is_some (wait_of (locks_at x b.at) (gx n)) ≡ true) same b.waits }

  there-session : is_unfinished_there script d k ≡ true → k.0 < length script.sessions
  there-session u = by_test (nat_lt k.0 (length script.sessions)) refl
    where
      by_test : (b : Bool) → nat_lt k.0 (length script.sessions) ≡ b → k.0 < length script.sessions
      by_test true e = lt-of k.0 (length script.sessions) e
      by_test false e = absurd (true-false (is_unfinished_there script d k) u (sym (alike script some numbered k es) ∙ beyond-finished script some numbered sessions es k (le-of k.0 (length script.sessions) e)))

  live-blocked : is_live_in (session_of d k).state.block (session_of d k).state.pending ≡ true → (b : Bool) → is_idle (session_of d k) ≡ b → IsBlocked script x k
  live-blocked l false e = all-blocked script some inserts es nothing k e
  live-blocked l true e =
      let inside : is_in_block (session_of d k).state.block ≡ true = open-live (session_of d k).state.block (session_of d k).state.pending l e in
      inside-blocked script some inserts es nothing k (there-session (unfinished-by (is_idle (session_of d k)) (is_in_block (session_of d k).state.block) (is_left (next_line script d k)) inside)) inside

  closing-blocked : is_closing_in (session_of d k).state.block (session_of d k).state.pending ≡ true → (b : Bool) → is_idle (session_of d k) ≡ b → IsBlocked script x k
  closing-blocked l false e = all-blocked script some inserts es nothing k e
  closing-blocked l true e = absurd (closing-busy (session_of d k).state.block (session_of d k).state.pending l e)

  pub runner-waits : (stage_of d g.0 ≡ LiveStage) ⊎ (stage_of d g.0 ≡ Closing) → WaitsSomewhere script x g
  runner-waits (inl l) = let t = ((world_knows script some es).kept.tied g.0).live l in waits-for t.0 (live-blocked t.1 (is_idle (session_of d k)) refl)
  runner-waits (inr l) = let t = ((world_knows script some es).kept.tied g.0).closing l in waits-for t.0 (closing-blocked t.1 (is_idle (session_of d k)) refl)

-- whose stage says so
said-runs : (a : Stage) → is_said a ≡ true → (a ≡ LiveStage) ⊎ (a ≡ Closing)
said-runs LiveStage e = inl refl
said-runs Closing e = inr refl
said-runs Absent e = absurd (cc)
said-runs Finished e = absurd (cc)
said-runs Dropped e = absurd (cc)

-- WHO HOLDS A ROW'S LOCK
-- the coordinator waits for the segment of a holder
held-by : (script : Script) (some : 1 ≤ script.segments) (es : List (Event × Bool)) (i : ℕ) (hold : Claim) → Contains ((world_of script es).segs i).locks.holds hold → held_in (world_of script es).coord.table i hold.gxid.0 ≡ true
held-by script some es i hold inside =
    let its : Local = local_of ((world_of script es).segs i) hold.gxid in
    let a = split (nat_lt 0 its.last) (has_ended its.phase) (world-runs script some es i hold inside) in (world-waits script some es).locals i hold.gxid.0 a.0 a.1

pub row-waits : (script : Script) (some : 1 ≤ script.segments) (inserts : AreInsertsWhole script.tables script.lines) (es : List (Event × Bool)) → list_all (is_round_or_opening script (world_of script es).steps) (enabled script (world_of script es).steps) ≡ true → (i : ℕ) → (1 ≤ i) × (i ≤ script.segments) → (hold : Claim) (rid : Rid)
    → Contains ((world_of script es).segs i).locks.holds hold → hold.object ≡ Tuple rid → WaitsAtRow (world_of script es) (at i) hold.gxid rid
row-waits script some inserts es nothing i there hold rid inside is = by_way (world-rows script some es i hold rid inside is)
  where
    held : held_in (world_of script es).coord.table i hold.gxid.0 ≡ true
    held = held-by script some es i hold inside

    by_way : WaitsAtRow (world_of script es) (at i) hold.gxid rid ⊎ HasFailedThere (world_of script es) (at i) hold.gxid ⊎ (is_aborted (marks_in (world_of script es).steps) hold.gxid ≡ true) → WaitsAtRow (world_of script es) (at i) hold.gxid rid
    by_way (inl x) = x
    by_way (inr (inl f)) = absurd (fails script some inserts es nothing i there hold.gxid held f)
    by_way (inr (inr a)) = absurd (aborts script some inserts es nothing i there hold.gxid held a)

-- whoever holds a lock at a segment waits somewhere
pub segment-holder-waits : (script : Script) (some : 1 ≤ script.segments) (inserts : AreInsertsWhole script.tables script.lines) (es : List (Event × Bool)) → list_all (is_round_or_opening script (world_of script es).steps) (enabled script (world_of script es).steps) ≡ true
    → AreLinesNumbered [] script.lines → All (λ line. line.session.0 < length script.sessions) script.lines → (i : ℕ) → (1 ≤ i) × (i ≤ script.segments) → (hold : Claim) → Contains ((world_of script es).segs i).locks.holds hold → WaitsSomewhere script (world_of script es) hold.gxid
segment-holder-waits script some inserts es nothing numbered sessions i there hold inside =
    runner-waits script some inserts es nothing numbered sessions hold.gxid (runs script some inserts es nothing i there hold.gxid (held-by script some es i hold inside))

-- and so does whoever holds one at the coordinator
pub coordinator-holder-waits : (script : Script) (some : 1 ≤ script.segments) (inserts : AreInsertsWhole script.tables script.lines) (es : List (Event × Bool)) → list_all (is_round_or_opening script (world_of script es).steps) (enabled script (world_of script es).steps) ≡ true
    → AreLinesNumbered [] script.lines → All (λ line. line.session.0 < length script.sessions) script.lines → (hold : Claim) → Contains (world_of script es).coord.locks.holds hold → WaitsSomewhere script (world_of script es) hold.gxid
coordinator-holder-waits script some inserts es nothing numbered sessions hold inside =
    runner-waits script some inserts es nothing numbered sessions hold.gxid (said-runs (stage_of (world_of script es).coord hold.gxid.0) (holder-runs script some es hold inside))

-- WHO WAITS
module _ (script : Script) (some : 1 ≤ script.segments) (inserts : AreInsertsWhole script.tables script.lines) (es : List (Event × Bool)) (nothing : list_all (is_round_or_opening script (world_of script es).steps) (enabled script (world_of script es).steps) ≡ true) where
  abbrev v : World
  v = world_of script es

  -- of who has a wait at a segment the coordinator waits for that
  slice-held : (i : ℕ) (g : Gxid) (wanted : Claim) → wait_of (v.segs i).locks g ≡ Some wanted → held_in v.coord.table i g.0 ≡ true
  slice-held i g wanted e =
      let s : HasSlice script (v.segs i) g wanted = has-slice script v (world_knows script some es).well i g wanted e in
      let a = split (nat_lt 0 (local_of (v.segs i) g).last) (has_ended (local_of (v.segs i) g).phase) (holds-there script v i g s.slice (waiting script v (world_knows script some es).well i g s.slice s.is)) in
      (world-waits script some es).locals i g.0 a.0 a.1

  -- it was drawn
  drawn-there : (i : ℕ) (g : Gxid) (wanted : Claim) → wait_of (v.segs i).locks g ≡ Some wanted → (1 ≤ g.0) × (g.0 < v.coord.table.next.0)
  drawn-there i g wanted e = by_found (find_txn v.coord.table g) refl (slice-held i g wanted e)
    where
      by_found : (o : Option Txn) → find_txn v.coord.table g ≡ o → is_held o i ≡ true → (1 ≤ g.0) × (g.0 < v.coord.table.next.0)
      by_found None f h = absurd (none-held i h)
      by_found (Some t) f h = there-drawn v.coord.table.next.0 g.0 v.coord.table.txns t (world_knows script some es).kept.whole.drawn f

  meets-there : (i : ℕ) → (1 ≤ i) × (i ≤ script.segments) → (g : Gxid) (o : Option Claim) → wait_of (v.segs i).locks g ≡ o → is_some o ≡ true → may_take (v.segs i).locks g ≡ false
  meets-there i there g (Some wanted) e h = not-ready script some inserts es nothing (at i) (v.segs i).locks (nil-left _ _ (none-there script some inserts es nothing (at i) there)) g (drawn-there i g wanted e)
  meets-there i there g None e h = absurd (cc)

  meets-here : (g : Gxid) → is_some (wait_of v.coord.locks g) ≡ true → may_take v.coord.locks g ≡ false
  meets-here g e = not-ready script some inserts es nothing the_coordinator v.coord.locks (no-resumption script some inserts es nothing) g (drawn-waits script some inserts es nothing g e)

  pub wait-meets : (node : Node) → node.0 ≤ script.segments → (g : Gxid) → is_some (wait_of (locks_at v node) g) ≡ true → may_take (locks_at v node) g ≡ false
  wait-meets node within g = by_node (node.0 == 0) refl
    where
      one : (i : ℕ) → (i == 0) ≡ false → 1 ≤ i
      one i e = grind (arith, nat_tests)

      by_node : (b : Bool) → (node.0 == 0) ≡ b → is_some (wait_of (if b then v.coord.locks else (v.segs node.0).locks) g) ≡ true → may_take (if b then v.coord.locks else (v.segs node.0).locks) g ≡ false
      by_node true e = meets-here g
      by_node false e = meets-there node.0 (one node.0 e, within) g (wait_of (v.segs node.0).locks g) refl

  -- and may still be cancelled
  live-there : (i : ℕ) → (1 ≤ i) × (i ≤ script.segments) → (g : Gxid) (wanted : Claim) → wait_of (v.segs i).locks g ≡ Some wanted → is_live (find_txn v.coord.table g) ≡ true
  live-there i there g wanted e = by_way ((((world-holds script some es).stands.pairs i g.0).waits (slice-some (local_of (v.segs i) g).suspended s.slice s.is)).2)
    where
      s : HasSlice script (v.segs i) g wanted
      s = has-slice script v (world_knows script some es).well i g wanted e

      by_way : (standing (nat_le v.coord.table.next.0 g.0) (find_txn v.coord.table g) i ≡ Live) ⊎ (is_aborted (marks_in v.steps) g ≡ true) → is_live (find_txn v.coord.table g) ≡ true
      by_way (inl l) = live-standing (nat_le v.coord.table.next.0 g.0) (find_txn v.coord.table g) i l
      by_way (inr a) = absurd (aborts script some inserts es nothing i there g (slice-held i g wanted e) a)

  wait-live : (node : Node) → node.0 ≤ script.segments → (g : Gxid) → is_some (wait_of (locks_at v node) g) ≡ true → is_live (find_txn v.coord.table g) ≡ true
  wait-live node within g = by_node (node.0 == 0) refl
    where
      one : (i : ℕ) → (i == 0) ≡ false → 1 ≤ i
      one i e = grind (arith, nat_tests)

      here : (o : Option Claim) → wait_of v.coord.locks g ≡ o → is_some o ≡ true → is_live (find_txn v.coord.table g) ≡ true
      here (Some wanted) e h = live-stage-is (find_txn v.coord.table g) (has-statement script v (world_knows script some es) g wanted e).live
      here None e h = absurd (cc)

      away : (b : (1 ≤ node.0) × (node.0 ≤ script.segments)) (o : Option Claim) → wait_of (v.segs node.0).locks g ≡ o → is_some o ≡ true → is_live (find_txn v.coord.table g) ≡ true
      away b (Some wanted) e h = live-there node.0 b g wanted e
      away b None e h = absurd (cc)

      by_node : (b : Bool) → (node.0 == 0) ≡ b → is_some (wait_of (if b then v.coord.locks else (v.segs node.0).locks) g) ≡ true → is_live (find_txn v.coord.table g) ≡ true
      by_node true e = here (wait_of v.coord.locks g) refl
      by_node false e = away (one node.0 e, within) (wait_of (v.segs node.0).locks g) refl

  pub wait-active : (node : Node) → node.0 ≤ script.segments → (g : Gxid) → is_some (wait_of (locks_at v node) g) ≡ true → is_active (marks_in v.steps) g ≡ true
  wait-active node within g e =
      (world-active script some es (world_knows script some es) (world-holds script some es)).listed g
      (contains_from_has g (active_in v.coord.table) (live-listed v.coord.table.txns g (wait-live node within g e)))

-- IN EVERY RUN THAT IS REACHED
pub alone-meets : (script : Script) (steps : List Step) (node : Node) (g : Gxid) → 1 ≤ script.segments → AreInsertsWhole script.tables script.lines → (is : IsReached script steps) → list_all (is_round_or_opening script steps) (enabled script steps) ≡ true
    → node.0 ≤ script.segments → is_some (wait_of (locks_at (world_behind script steps) node) g) ≡ true → may_take (locks_at (world_behind script steps) node) g ≡ false
alone-meets script steps node g some inserts is nothing within waits =
    subst (λ (l : Locks). may_take l g ≡ false) same
    (wait-meets script some inserts is.events (subst (λ ss. list_all (is_round_or_opening script ss) (enabled script ss) ≡ true) (sym is.is) nothing) node within g (subst (λ (l : Locks). is_some (wait_of l g) ≡ true) (sym same) waits))
  where
    same : locks_at (world_of script is.events) node ≡ locks_at (world_behind script steps) node
    same = locks-alike script steps (world_of script is.events) (replayed script steps is) node

pub alone-waits : (script : Script) (steps : List Step) (node : Node) (hold : Claim) (rid : Rid) → 1 ≤ script.segments → AreInsertsWhole script.tables script.lines → (is : IsReached script steps) → list_all (is_round_or_opening script steps) (enabled script steps) ≡ true
    → (1 ≤ node.0) × (node.0 ≤ script.segments) → Contains (segment_after script node steps).locks.holds hold → hold.object ≡ Tuple rid → WaitsAtRow (world_behind script steps) node hold.gxid rid
alone-waits script steps node hold rid some inserts is nothing there inside tuple =
    record { slice = x.slice; waits = ap (λ (s : Seg). (local_of s hold.gxid).suspended) (sym same) ∙ x.waits; row = x.row }
  where
    same : (world_of script is.events).segs node.0 ≡ segment_after script node steps
    same = (replayed script steps is).segments node.0 there.0

    x : WaitsAtRow (world_of script is.events) node hold.gxid rid
    x =
        row-waits script some inserts is.events (subst (λ ss. list_all (is_round_or_opening script ss) (enabled script ss) ≡ true) (sym is.is) nothing) node.0 there hold rid
        (subst (λ (s : Seg). Contains s.locks.holds hold) (sym same) inside) tuple

pub alone-holders : (script : Script) (steps : List Step) (node : Node) (hold : Claim) → 1 ≤ script.segments → AreLinesNumbered [] script.lines → All (λ line. line.session.0 < length script.sessions) script.lines
    → AreInsertsWhole script.tables script.lines → (is : IsReached script steps) → list_all (is_round_or_opening script steps) (enabled script steps) ≡ true
    → (1 ≤ node.0) × (node.0 ≤ script.segments) → Contains (segment_after script node steps).locks.holds hold → WaitsSomewhere script (world_behind script steps) hold.gxid
alone-holders script steps node hold some numbered sessions inserts is nothing there inside =
    record { at = x.at; within = x.within; waits = subst (λ (l : Locks). is_some (wait_of l hold.gxid) ≡ true) (locks-alike script steps (world_of script is.events) (replayed script steps is) x.at) x.waits }
  where
    same : (world_of script is.events).segs node.0 ≡ segment_after script node steps
    same = (replayed script steps is).segments node.0 there.0

    x : WaitsSomewhere script (world_of script is.events) hold.gxid
    x =
        segment-holder-waits script some inserts is.events (subst (λ ss. list_all (is_round_or_opening script ss) (enabled script ss) ≡ true) (sym is.is) nothing) numbered sessions node.0 there hold
        (subst (λ (s : Seg). Contains s.locks.holds hold) (sym same) inside)

pub alone-active : (script : Script) (steps : List Step) (node : Node) (g : Gxid) → 1 ≤ script.segments → AreInsertsWhole script.tables script.lines → (is : IsReached script steps) → list_all (is_round_or_opening script steps) (enabled script steps) ≡ true
    → node.0 ≤ script.segments → is_some (wait_of (locks_at (world_behind script steps) node) g) ≡ true → is_active (marks_in steps) g ≡ true
alone-active script steps node g some inserts is nothing within waits =
    subst (λ ss. is_active (marks_in ss) g ≡ true) is.is
    (wait-active script some inserts is.events (subst (λ ss. list_all (is_round_or_opening script ss) (enabled script ss) ≡ true) (sym is.is) nothing) node within g (subst (λ (l : Locks). is_some (wait_of l g) ≡ true) (sym (locks-alike script steps (world_of script is.events) (replayed script steps is) node)) waits))

pub alone-here : (script : Script) (steps : List Step) (hold : Claim) → 1 ≤ script.segments → AreLinesNumbered [] script.lines → All (λ line. line.session.0 < length script.sessions) script.lines
    → AreInsertsWhole script.tables script.lines → (is : IsReached script steps) → list_all (is_round_or_opening script steps) (enabled script steps) ≡ true
    → Contains (coordinator_after script steps).locks.holds hold → WaitsSomewhere script (world_behind script steps) hold.gxid
alone-here script steps hold some numbered sessions inserts is nothing inside =
    record { at = x.at; within = x.within; waits = subst (λ (l : Locks). is_some (wait_of l hold.gxid) ≡ true) (locks-alike script steps (world_of script is.events) (replayed script steps is) x.at) x.waits }
  where
    x : WaitsSomewhere script (world_of script is.events) hold.gxid
    x =
        coordinator-holder-waits script some inserts is.events (subst (λ ss. list_all (is_round_or_opening script ss) (enabled script ss) ≡ true) (sym is.is) nothing) numbered sessions hold
        (subst (λ (c : Coord). Contains c.locks.holds hold) (sym (replayed script steps is).coordinator) inside)
