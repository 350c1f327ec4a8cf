-- What soundness gives where a transaction is called on.
use Rattle.std.proofs.Common.{◌≡◌, ℕ, List, [], ◌∷◌, Option, Some, None, Bool, true, refl, ap, ◌||◌, arith, eqb, All, IsTrue}
use Rattle.std.proofs.lemmas.Bool.Decides.{nat_tests}
use Rattle.std.proofs.lemmas.List.Elements.{All-nil, All-cons}
use Rattle.std.specs.Prelude.{is_some, option_map}
use Rattle.std.proofs.lemmas.Bool.{and_parts, or_right}
use Rattle.gx_ids.specs.declared.ids.Cid.{Cid}
use Rattle.gx_ids.specs.declared.ids.Node.{Node}
use Rattle.gx_dtx.specs.Nodes.{has}
use Rattle.gx_dtx.specs.Rules.{AreWriters}
use Rattle.gx_dtx.specs.Table.{IsActive, find_txn, participants_in, participants_of, status_in}
use Rattle.gx_dtx.specs.declared.outcome.Outcome.{Outcome}
use Rattle.gx_dtx.specs.declared.outcome.Outcome.TheVariants as outcome
use Rattle.gx_dtx.specs.declared.phase.Phase.{Phase}
use Rattle.gx_dtx.specs.declared.phase.Phase.TheVariants.{Active, Preparing, CommittingOne, CommittingTwo, Ended, Aborting}
use Rattle.gx_dtx.specs.declared.status.Status.TheVariants as status
use Rattle.gx_dtx.specs.declared.txn.Txn.{Txn}
use Rattle.gx_tree.specs.declared.stmt.Stmt.{Stmt}
use Rattle.gx_script.specs.declared.Script.{Script}
use Rattle.gx_script.specs.declared.state.Block.{Block}
use Rattle.gx_script.specs.declared.state.Pending.{Pending}
use Rattle.gx_script.specs.declared.state.Pending.TheVariants as pending
use Rattle.gx_rules.specs.AtCoordinator.{is_under_way}
use Rattle.gx_rules.specs.Coordinators.{Command, Coord, Work}
use Rattle.gx_rules.specs.Rounds.{is_active as is_active_phase, is_live}
use Rattle.gx_law_order.specs.Sessions.{Kept, is_closing_in, is_working_in}
use Rattle.gx_law_order.specs.Stages.{Stage, stage, stage_in, stage_of}
use Rattle.gx_law_order.specs.Standings.{gx}
use Rattle.gx_law_order.proofs.Statuses.{Moves}
use Rattle.gx_law_order.specs.Stages.Stage.{Closing, Live}
use Rattle.gx_coord.specs.Sound.{AreSoundIn, IsSoundWork}
use Rattle.gx_coord.specs.Turns.{IsBusy, IsFit, answers_line, asks, is_active}

-- a transaction whose commands run
phase-active : (p : Phase) → stage_in p ≡ Live → status_in p ≡ status.Active
phase-active Active e = refl
phase-active (Preparing a b) e = absurd (cc)
phase-active (CommittingOne a) e = absurd (cc)
phase-active (CommittingTwo a) e = absurd (cc)
phase-active (Ended a) e = absurd (cc)
phase-active (Aborting a) e = absurd (cc)

found-active : (t : Option Txn) → stage t ≡ Live → option_map (λ t. status_in t.phase) t ≡ Some status.Active
found-active None e = absurd (cc)
found-active (Some t) e = ap Some (phase-active t.phase e)

pub live-active : (c : Coord) (g : ℕ) → stage_of c g ≡ Live → IsActive c.table (gx g)
live-active c g e = found-active (find_txn c.table (gx g)) e

-- its phase and its status say the same
pub live-status : (t : Option Txn) → is_active (option_map (λ (u : Txn). status_in u.phase) t) ≡ is_live t
live-status None = refl
live-status (Some t) = by_phase t.phase
  where
    by_phase : (p : Phase) → is_active (Some (status_in p)) ≡ is_active_phase p
    by_phase Active = refl
    by_phase (Preparing a b) = refl
    by_phase (CommittingOne a) = refl
    by_phase (CommittingTwo a) = refl
    by_phase (Ended a) = refl
    by_phase (Aborting a) = refl

pub live-is-active : (t : Option Txn) → is_live t ≡ true → option_map (λ (u : Txn). status_in u.phase) t ≡ Some status.Active
live-is-active None e = absurd (cc)
live-is-active (Some t) e = ap Some (by_phase t.phase e)
  where
    by_phase : (p : Phase) → is_active_phase p ≡ true → status_in p ≡ status.Active
    by_phase Active e = refl
    by_phase (Preparing a b) e = absurd (cc)
    by_phase (CommittingOne a) e = absurd (cc)
    by_phase (CommittingTwo a) e = absurd (cc)
    by_phase (Ended a) e = absurd (cc)
    by_phase (Aborting a) e = absurd (cc)

-- a session that waits
pub working-busy : (p : Pending) → is_working_in p ≡ true → p ≡ pending.Nothing → ⊥
working-busy p e n = grind arith

closing-busy : (b : Block) (p : Pending) → is_closing_in b p ≡ true → p ≡ pending.Nothing → ⊥
closing-busy b p e n = grind arith

some-awaited : (i : Node) (nodes : List Node) → has i nodes ≡ true → nodes ≡ [] → ⊥
some-awaited i [] h e = absurd (cc)
some-awaited i (j ∷ js) h e = absurd (cc)

module _ {script : Script} (c : Coord) (kept : Kept script c) (g : ℕ) where
  -- an answer to its command is awaited
  asked : (i : Node) (cid : Cid) (k : Option Command) → (c.works g).command ≡ k → asks k i cid ≡ true → (stage_of c g ≡ Live) × (is_working_in (c.sessions (c.works g).session.0).state.pending ≡ true)
  asked i cid None q e = absurd (cc)
  asked i cid (Some k) q e = (kept.tied g).awaits k q (some-awaited i k.awaited (and_parts (eqb k.cid.0 cid.0) _ e).1)

  pub asked-live : (i : Node) (cid : Cid) → asks (c.works g).command i cid ≡ true → stage_of c g ≡ Live
  asked-live i cid e = (asked i cid _ refl e).0

  pub asked-active : (i : Node) (cid : Cid) → asks (c.works g).command i cid ≡ true → IsActive c.table (gx g)
  asked-active i cid e = live-active c g (asked i cid _ refl e).0

  pub asked-busy : (i : Node) (cid : Cid) → asks (c.works g).command i cid ≡ true → IsBusy c g
  asked-busy i cid e idle = working-busy _ (asked i cid _ refl e).1 idle

  -- a statement of it is under way, or waits
  working : (k : Option Command) (line : Option Stmt) → (c.works g).command ≡ k → (c.works g).waiting ≡ line → (is_some k || is_some line) ≡ true → is_working_in (c.sessions (c.works g).session.0).state.pending ≡ true
  working (Some k) line q w e = ((kept.tied g).busy k q).1
  working None (Some line) q w e = ((kept.tied g).waits line w).2
  working None None q w e = absurd (cc)

  pub under_way-busy : is_under_way (c.works g) ≡ true → IsBusy c g
  under_way-busy e idle = working-busy _ (working (c.works g).command (c.works g).waiting refl refl e) idle

  -- an answer for its status comes to an end of its line
  closing : (o : Outcome) (b : Stage) → Moves (stage_of c g) b o → answers_line o ≡ true → stage_of c g ≡ Closing
  closing outcome.Pending b m e = absurd (cc)
  closing outcome.Decided b m e = absurd (cc)
  closing outcome.Committed b m e = m.0
  closing (outcome.Refused i) b m e = m.0
  closing outcome.Ended b m e = absurd (cc)

-- writers that rise and are participants
all-has : (ws all : List Node) → ((j : Node) → has j ws ≡ true → has j all ≡ true) → All (λ w. IsTrue (has w all)) ws
all-has [] all f = All-nil (λ w. IsTrue (has w all))
all-has (w ∷ ws) all f = All-cons (λ w. IsTrue (has w all)) w ws (f w (first w.0 (has w ws))) (all-has ws all (λ j e. f j (or_right (eqb w.0 j.0) (has j ws) e)))
  where
    first : (n : ℕ) (b : Bool) → (eqb n n || b) ≡ true
    first n b = grind (arith, nat_tests)

fit-of : (k : Option Command) (participants : List Node) (now : Stage) → AreSoundIn k participants now → IsFit k
fit-of None p s h = tt
fit-of (Some k) p s h = h.fits

pub sound-fit : (w : Work) (lines : ℕ) (t : Option Txn) → IsSoundWork w lines t → IsFit w.command
sound-fit w lines t h = fit-of w.command (participants_in t) (stage t) h.command

pub sound-writers : (c : Coord) (g lines : ℕ) (w : Work) → IsSoundWork w lines (find_txn c.table (gx g)) → stage_of c g ≡ Live → AreWriters c.table (gx g) w.writers
sound-writers c g lines w h l = record { rising = h.writers; among = all-has w.writers (participants_of c.table (gx g)) (h.among l) }
