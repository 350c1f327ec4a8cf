-- The stages of a transaction at the coordinator, and how a call moves it.
use Rattle.std.proofs.Common.{◌≡◌, ◌⊎◌, inl, inr, ℕ, List, [], ◌∷◌, Option, Some, None, Bool, true, false, refl, sym, subst, ap, if◌then◌else◌}
use Rattle.gx_ids.specs.declared.ids.Gxid.{Gxid}
use Rattle.gx_ids.specs.declared.ids.Node.{Node}
use Rattle.gx_dtx.specs.Nodes.{without}
use Rattle.gx_dtx.specs.Rules.{Turn, abort_found, aborts, commit_found, commits, decides, ends, ends_committed, finishes, forgets, gives_up, is_awaited, on_abort, on_commit, on_reply, prepares, reply_found, stays, takes, with_ended}
use Rattle.gx_dtx.specs.Table.{Table, find_txn, runs}
use Rattle.gx_dtx.specs.declared.outcome.Outcome.{Outcome}
use Rattle.gx_dtx.specs.declared.outcome.Outcome.TheVariants as outcome
use Rattle.gx_dtx.specs.declared.phase.Phase.{Phase}
use Rattle.gx_dtx.specs.declared.phase.Phase.TheVariants.{Active, Preparing, CommittingOne, CommittingTwo, Ended, Aborting}
use Rattle.gx_dtx.specs.declared.txn.Txn.{Txn}
use Rattle.gx_msg.specs.declared.reply.Reply.{Reply}
use Rattle.gx_msg.specs.declared.reply.Reply.TheVariants as reply
use Rattle.gx_law_order.proofs.Stages.{At, changed-at, left_of}
use Rattle.gx_law_order.specs.Stages.{IsWhole}
use Rattle.gx_law_order.specs.Standings.{gx}
use Rattle.gx_law_order.specs.Stages.{IsWhole, Stage, is_running, stage, stage_in}
use Rattle.gx_law_order.specs.Stages.Stage.{Absent, Live, Closing, Finished, Dropped}

pub runs-stage : (t : Option Txn) → runs t ≡ is_running (stage t)
runs-stage None = refl
runs-stage (Some t) = by_phase t.phase
  where
    by_phase : (p : Phase) → Rattle.gx_dtx.specs.Table.is_running p ≡ is_running (stage_in p)
    by_phase Active = refl
    by_phase (Preparing a b) = refl
    by_phase (CommittingOne a) = refl
    by_phase (CommittingTwo a) = refl
    by_phase (Ended a) = refl
    by_phase (Aborting a) = refl

-- how an answer moves a transaction, by the outcome
abbrev pub Moves : Stage → Stage → Outcome → Type 0
Moves a b outcome.Pending = (b ≡ a) ⊎ ((a ≡ Finished) × (b ≡ Absent))
Moves a b outcome.Decided = (a ≡ Closing) × (b ≡ Closing)
Moves a b outcome.Committed = (a ≡ Closing) × ((b ≡ Finished) ⊎ (b ≡ Absent))
Moves a b (outcome.Refused i) = (a ≡ Closing) × (b ≡ Dropped)
Moves a b outcome.Ended = (a ≡ Dropped) × (b ≡ Absent)

-- how an abort moves it
abbrev pub Falls : Stage → Outcome → Type 0
Falls b outcome.Pending = b ≡ Dropped
Falls b outcome.Ended = b ≡ Absent
Falls b _ = ⊥

pub record Turned (d : Table) (g : ℕ) (turn : Turn) (How : Stage → Stage → Outcome → Type 0) : Type 0 where
  pub now : Option Txn
  pub at : At d turn.table g now
  pub how : How (stage (find_txn d (gx g))) (stage now) turn.out.outcome
  pub latest : turn.table.latest_ended ≡ with_ended (ends turn.out.outcome) (gx g) d.latest_ended

-- A COMMIT
committed-moves : (g : Gxid) (is : List Node) (t : Txn) (a : Stage) → a ≡ Closing → Moves a (stage (left_of (ends_committed g is).step (Some t))) (ends_committed g is).out.outcome
committed-moves g [] t a h = (h, inr refl)
committed-moves g (i ∷ is) t a h = (h, inl refl)

-- how a commit moves it
abbrev pub Closes : Stage → Outcome → Type 0
Closes b outcome.Pending = b ≡ Closing
Closes b outcome.Committed = (b ≡ Finished) ⊎ (b ≡ Absent)
Closes b _ = ⊥

alone-closes : (g : Gxid) (is : List Node) (t : Txn) → Closes (stage (left_of (ends_committed g is).step (Some t))) (ends_committed g is).out.outcome
alone-closes g [] t = inr refl
alone-closes g (i ∷ is) t = inl refl

commits-closes : (g : Gxid) (writers : List Node) (t : Txn) → Closes (stage (left_of (commits g writers t).step (Some t))) (commits g writers t).out.outcome
commits-closes g [] t = alone-closes g t.participants t
commits-closes g (i ∷ []) t = refl
commits-closes g (i ∷ j ∷ is) t = refl

pub commit-turns : (d : Table) (g : ℕ) (writers : List Node) → IsWhole d → stage (find_txn d (gx g)) ≡ Live → Turned d g (on_commit d (gx g) writers) (λ a b o. Closes b o)
commit-turns d g writers w e = by_found (find_txn d (gx g)) refl e
  where
    by_found : (t : Option Txn) → find_txn d (gx g) ≡ t → stage t ≡ Live → Turned d g (on_commit d (gx g) writers) (λ a b o. Closes b o)
    by_found None f s = absurd (cc)
    by_found (Some t) f s =
        record {
          now = left_of (commit_found (gx g) writers (find_txn d (gx g))).step (find_txn d (gx g));
          at = changed-at d g (commit_found (gx g) writers (find_txn d (gx g))) w;
          how = subst (λ o. Closes (stage (left_of (commit_found (gx g) writers o).step o)) (commit_found (gx g) writers o).out.outcome) (sym f) (commits-closes (gx g) writers t);
          latest = refl;
        }

-- AN ABORT
aborts-falls : (g : Gxid) (is : List Node) (t : Txn) → Falls (stage (left_of (aborts g is).step (Some t))) (aborts g is).out.outcome
aborts-falls g [] t = refl
aborts-falls g (i ∷ is) t = refl

pub abort-turns : (d : Table) (g : ℕ) → IsWhole d → stage (find_txn d (gx g)) ≡ Live → Turned d g (on_abort d (gx g)) (λ a b o. Falls b o)
abort-turns d g w e = by_found (find_txn d (gx g)) refl e
  where
    by_found : (t : Option Txn) → find_txn d (gx g) ≡ t → stage t ≡ Live → Turned d g (on_abort d (gx g)) (λ a b o. Falls b o)
    by_found None f s = absurd (cc)
    by_found (Some t) f s =
        record {
          now = left_of (abort_found (gx g) (find_txn d (gx g))).step (find_txn d (gx g));
          at = changed-at d g (abort_found (gx g) (find_txn d (gx g))) w;
          how = subst (λ o. Falls (stage (left_of (abort_found (gx g) o).step o)) (abort_found (gx g) o).out.outcome) (sym f) (aborts-falls (gx g) t.participants t);
          latest = refl;
        }

-- AN ANSWER
decides-moves : (g : Gxid) (ws ps : List Node) (b : Bool) (t : Txn) → stage_in t.phase ≡ Closing → Moves (stage_in t.phase) (stage (left_of (decides g ws ps b).step (Some t))) (decides g ws ps b).out.outcome
decides-moves g ws ps false t e = (e, refl)
decides-moves g ws ps true t e = (e, refl)

prepares-moves : (g : Gxid) (ws ps rest : List Node) (b : Bool) (t : Txn) → stage_in t.phase ≡ Closing → Moves (stage_in t.phase) (stage (left_of (prepares g ws ps rest b).step (Some t))) (prepares g ws ps rest b).out.outcome
prepares-moves g ws ps [] b t e = decides-moves g ws ps b t e
prepares-moves g ws ps (i ∷ is) b t e = inl (sym e)

finishes-moves : (g : Gxid) (ps rest : List Node) (t : Txn) → stage_in t.phase ≡ Closing → Moves (stage_in t.phase) (stage (left_of (finishes g ps rest).step (Some t))) (finishes g ps rest).out.outcome
finishes-moves g ps [] t e = committed-moves g ps t (stage_in t.phase) e
finishes-moves g ps (i ∷ is) t e = inl (sym e)

forgets-moves : (rest : List Node) (t : Txn) → stage_in t.phase ≡ Finished → Moves (stage_in t.phase) (stage (left_of (forgets rest).step (Some t))) (forgets rest).out.outcome
forgets-moves [] t e = inr (e, refl)
forgets-moves (i ∷ is) t e = inl (sym e)

gives_up-moves : (rest : List Node) (t : Txn) → stage_in t.phase ≡ Dropped → Moves (stage_in t.phase) (stage (left_of (gives_up rest).step (Some t))) (gives_up rest).out.outcome
gives_up-moves [] t e = (e, refl)
gives_up-moves (i ∷ is) t e = inl (sym e)

takes-moves : (g : Gxid) (ps : List Node) (i : Node) (b : Bool) (p : Phase) (r : Reply) (t : Txn) → t.phase ≡ p → Moves (stage_in t.phase) (stage (left_of (takes g ps i b p r).step (Some t))) (takes g ps i b p r).out.outcome
takes-moves g ps i b (Preparing ws a) reply.Prepared t e = prepares-moves g ws ps (without i a) b t (ap stage_in e)
takes-moves g ps i b (Preparing ws a) reply.Jfault t e = (ap stage_in e, refl)
takes-moves g ps i b (CommittingOne w) reply.Committed t e = committed-moves g ps t (stage_in t.phase) (ap stage_in e)
takes-moves g ps i b (CommittingOne w) reply.Jfault t e = (ap stage_in e, refl)
takes-moves g ps i b (CommittingTwo a) reply.Committed t e = finishes-moves g ps (without i a) t (ap stage_in e)
takes-moves g ps i b (Ended a) reply.Forgotten t e = forgets-moves (without i a) t (ap stage_in e)
takes-moves g ps i b (Aborting a) reply.Aborted t e = gives_up-moves (without i a) t (ap stage_in e)
takes-moves g ps i b p r t e = inl refl

found-moves : (g : Gxid) (i : Node) (r : Reply) (b : Bool) (t : Option Txn) → Moves (stage t) (stage (left_of (reply_found g i r b t).step t)) (reply_found g i r b t).out.outcome
found-moves g i r b None = inl refl
found-moves g i r b (Some t) = by_test (is_awaited t.phase i r)
  where
    by_test : (c : Bool) → Moves (stage (Some t)) (stage (left_of (if c then takes g t.participants i b t.phase r else stays).step (Some t))) (if c then takes g t.participants i b t.phase r else stays).out.outcome
    by_test true = takes-moves g t.participants i b t.phase r t refl
    by_test false = inl refl

pub reply-turns : (d : Table) (g : ℕ) (i : Node) (r : Reply) (b : Bool) → IsWhole d → Turned d g (on_reply d (gx g) i r b) Moves
reply-turns d g i r b w =
    record {
      now = left_of (reply_found (gx g) i r b (find_txn d (gx g))).step (find_txn d (gx g));
      at = changed-at d g (reply_found (gx g) i r b (find_txn d (gx g))) w;
      how = found-moves (gx g) i r b (find_txn d (gx g));
      latest = refl;
    }
