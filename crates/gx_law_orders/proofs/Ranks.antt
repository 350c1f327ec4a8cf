-- How far a transaction is from its end at the coordinator; what a call on its status makes of that.
use Rattle.std.proofs.Common.{◌≡◌, ◌⊎◌, inl, inr, ◌≤◌, ℕ, ◌+◌, List, [], ◌∷◌, Option, Some, None, Bool, true, false, if◌then◌else◌, refl, sym, subst, arith}
use Rattle.gx_ids.specs.declared.ids.Gxid.{Gxid}
use Rattle.gx_ids.specs.declared.ids.Node.{Node}
use Rattle.gx_tree.specs.declared.stmt.Stmt.{Stmt}
use Rattle.gx_dtx.specs.Nodes.{without}
use Rattle.gx_dtx.specs.Rules.{abort_found, aborts, commit_found, commits, ends_committed, is_awaited, prepares, refuses, reply_found, stays, takes}
use Rattle.gx_dtx.specs.Table.{find_txn}
use Rattle.gx_dtx.specs.declared.change.Change.{Change}
use Rattle.gx_dtx.specs.declared.phase.Phase.{Phase}
use Rattle.gx_dtx.specs.declared.phase.Phase.TheVariants.{Aborting, Active, CommittingOne, CommittingTwo, Ended, Preparing}
use Rattle.gx_dtx.specs.declared.txn.Txn.{Txn}
use Rattle.gx_msg.specs.declared.reply.Reply.{Reply}
use Rattle.gx_msg.specs.declared.reply.Reply.TheVariants as reply
use Rattle.gx_rules.specs.Coordinators.{Command, Coord, Work}
use Rattle.gx_law_order.proofs.Stages.{left_of}
use Rattle.gx_law_order.specs.Standings.{gx}

-- RANKS
abbrev pub phase_rank : Phase → ℕ
phase_rank Active = 4
phase_rank (Preparing writers awaited) = 3
phase_rank (CommittingOne w) = 3
phase_rank (CommittingTwo awaited) = 2
phase_rank (Ended awaited) = 1
phase_rank (Aborting awaited) = 1

abbrev pub txn_rank : Option Txn → ℕ
txn_rank None = 0
txn_rank (Some t) = phase_rank t.phase

-- answers of a command are awaited
abbrev pub some_left : List Node → ℕ
some_left [] = 0
some_left (i ∷ is) = 1

abbrev pub command_rank : Option Command → ℕ
command_rank None = 0
command_rank (Some k) = some_left k.awaited

-- a statement waits to go out
abbrev pub waiting_rank : Option Stmt → ℕ
waiting_rank None = 0
waiting_rank (Some line) = 2

abbrev pub work_rank : Work → ℕ
work_rank w = command_rank w.command + waiting_rank w.waiting

abbrev pub rank : Coord → ℕ → ℕ
rank c g = txn_rank (find_txn c.table (gx g)) + work_rank (c.works g)

pub rank-most : (c : Coord) (g : ℕ) → rank c g ≤ 7
rank-most c g = all (txn_rank (find_txn c.table (gx g))) (command_rank (c.works g).command) (waiting_rank (c.works g).waiting) (of_txn (find_txn c.table (gx g))) (of_command (c.works g).command) (of_waiting (c.works g).waiting)
  where
    all : (a b d : ℕ) → a ≤ 4 → b ≤ 1 → d ≤ 2 → a + (b + d) ≤ 7
    all a b d x y z = omega arith

    of_phase : (p : Phase) → phase_rank p ≤ 4
    of_phase Active = omega arith
    of_phase (Preparing writers awaited) = omega arith
    of_phase (CommittingOne w) = omega arith
    of_phase (CommittingTwo awaited) = omega arith
    of_phase (Ended awaited) = omega arith
    of_phase (Aborting awaited) = omega arith

    of_txn : (t : Option Txn) → txn_rank t ≤ 4
    of_txn None = omega arith
    of_txn (Some t) = of_phase t.phase

    of_list : (is : List Node) → some_left is ≤ 1
    of_list [] = omega arith
    of_list (i ∷ is) = omega arith

    of_command : (k : Option Command) → command_rank k ≤ 1
    of_command None = omega arith
    of_command (Some k) = of_list k.awaited

    of_waiting : (line : Option Stmt) → waiting_rank line ≤ 2
    of_waiting None = omega arith
    of_waiting (Some line) = omega arith

-- CALLS
-- nothing is sent and it is no further from its end, or it is nearer
abbrev pub Falls : {A : Type 0} → List A → ℕ → ℕ → Type 0
Falls outs before behind = ((outs ≡ []) × (behind ≤ before)) ⊎ (behind + 1 ≤ before)

abbrev pub FallsBy : Option Txn → Change → Type 0
FallsBy t ch = Falls ch.out.outs (txn_rank t) (txn_rank (left_of ch.step t))

pub no-more : (a : ℕ) → a ≤ a
no-more a = omega arith

stays-falls : (t : Option Txn) → FallsBy t stays
stays-falls t = inl (refl, no-more (txn_rank t))

-- an answer
module _ (g : Gxid) (i : Node) (b : Bool) (t : Txn) where
  abbrev FallsFrom : Phase → Change → Type 0
  FallsFrom p ch = Falls ch.out.outs (phase_rank p) (txn_rank (left_of ch.step (Some t)))

  still : (p : Phase) → t.phase ≡ p → FallsFrom p stays
  still p e = inl (refl, subst (λ q. phase_rank q ≤ phase_rank p) (sym e) (no-more (phase_rank p)))

  ended-from-three : (parts : List Node) → txn_rank (left_of (ends_committed g parts).step (Some t)) + 1 ≤ 2
  ended-from-three [] = omega arith
  ended-from-three (x ∷ xs) = omega arith

  more : (a : ℕ) → a + 1 ≤ 2 → a + 1 ≤ 3
  more a l = omega arith

  of_prepared : (ws aw left : List Node) (c : Bool) → Falls (prepares g ws t.participants left c).out.outs 3 (txn_rank (left_of (prepares g ws t.participants left c).step (Some t)))
  of_prepared ws aw [] false = inr (omega arith)
  of_prepared ws aw [] true = inr (omega arith)
  of_prepared ws aw (x ∷ xs) c = inl (refl, no-more 3)

  of_finished : (left : List Node) → Falls (Rattle.gx_dtx.specs.Rules.finishes g t.participants left).out.outs 2 (txn_rank (left_of (Rattle.gx_dtx.specs.Rules.finishes g t.participants left).step (Some t)))
  of_finished [] = inr (ended-from-three t.participants)
  of_finished (x ∷ xs) = inl (refl, no-more 2)

  of_forgotten : (left : List Node) → Falls (Rattle.gx_dtx.specs.Rules.forgets left).out.outs 1 (txn_rank (left_of (Rattle.gx_dtx.specs.Rules.forgets left).step (Some t)))
  of_forgotten [] = inr (omega arith)
  of_forgotten (x ∷ xs) = inl (refl, no-more 1)

  of_given : (left : List Node) → Falls (Rattle.gx_dtx.specs.Rules.gives_up left).out.outs 1 (txn_rank (left_of (Rattle.gx_dtx.specs.Rules.gives_up left).step (Some t)))
  of_given [] = inr (omega arith)
  of_given (x ∷ xs) = inl (refl, no-more 1)

  taken : (p : Phase) (r : Reply) → t.phase ≡ p → FallsFrom p (takes g t.participants i b p r)
  taken (Preparing ws aw) reply.Prepared e = of_prepared ws aw (without i aw) b
  taken (Preparing ws aw) reply.Jfault e = inr (omega arith)
  taken (CommittingOne w) reply.Committed e = inr (more _ (ended-from-three t.participants))
  taken (CommittingOne w) reply.Jfault e = inr (omega arith)
  taken (CommittingTwo aw) reply.Committed e = of_finished (without i aw)
  taken (Ended aw) reply.Forgotten e = of_forgotten (without i aw)
  taken (Aborting aw) reply.Aborted e = of_given (without i aw)
  taken p r e = still p e

  replied : (r : Reply) (a : Bool) → FallsFrom t.phase (if a then takes g t.participants i b t.phase r else stays)
  replied r true = taken t.phase r refl
  replied r false = still t.phase refl

pub reply-falls : (g : Gxid) (i : Node) (r : Reply) (b : Bool) (t : Option Txn) → FallsBy t (reply_found g i r b t)
reply-falls g i r b None = stays-falls None
reply-falls g i r b (Some t) = replied g i b t r (is_awaited t.phase i r)

-- a commit of one that runs
pub commit-falls : (g : Gxid) (ws : List Node) (t : Txn) → t.phase ≡ Active → FallsBy (Some t) (commit_found g ws (Some t))
commit-falls g ws t e = subst (λ p. Falls (commits g ws t).out.outs (phase_rank p) (txn_rank (left_of (commits g ws t).step (Some t)))) (sym e) (by_writers ws)
  where
    ended : (parts : List Node) → txn_rank (left_of (ends_committed g parts).step (Some t)) + 1 ≤ 4
    ended [] = omega arith
    ended (x ∷ xs) = omega arith

    by_writers : (xs : List Node) → Falls (commits g xs t).out.outs 4 (txn_rank (left_of (commits g xs t).step (Some t)))
    by_writers [] = inr (ended t.participants)
    by_writers (x ∷ []) = inr (omega arith)
    by_writers (x ∷ y ∷ xs) = inr (omega arith)

-- an abort
pub abort-rank : (g : Gxid) (t : Option Txn) → txn_rank (left_of (abort_found g t).step t) ≤ 1
abort-rank g None = omega arith
abort-rank g (Some t) = by_parts t.participants
  where
    by_parts : (parts : List Node) → txn_rank (left_of (aborts g parts).step (Some t)) ≤ 1
    by_parts [] = omega arith
    by_parts (x ∷ xs) = omega arith
