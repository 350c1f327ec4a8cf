-- A transaction that hasn't ended is that of a session that is unfinished.
use Rattle.std.proofs.Common.{◌≡◌, ◌≤◌, ◌<◌, ℕ, List, Bool, true, false, refl, ap, ◌||◌, not, arith}
use Rattle.std.proofs.lemmas.Bool.{or_right}
use Rattle.gx_lemmas.proofs.Tests.{true-false}
use Rattle.gx_ids.specs.declared.ids.SessionId.{SessionId}
use Rattle.gx_script.specs.declared.Script.{Script}
use Rattle.gx_script.specs.declared.state.Block.{Block}
use Rattle.gx_script.specs.declared.state.Pending.{Pending}
use Rattle.gx_store.specs.declared.mark.Mark.{Mark}
use Rattle.gx_store.specs.Marks.{is_committed, is_ended}
use Rattle.gx_rules.specs.AtCoordinator.{is_in_block, is_left, is_nothing, next_line, is_unfinished_there}
use Rattle.gx_rules.specs.Coordinators.{Coord, Session, session_of, work_of}
use Rattle.gx_law_order.specs.Past.{Past}
use Rattle.gx_law_order.specs.Sessions.{Kept, is_closing_in, is_live_in}
use Rattle.gx_law_order.specs.Stages.{Stage, is_running, stage_of}
use Rattle.gx_law_order.specs.Standings.{gx}
use Rattle.gx_law_order.specs.Stages.Stage.{Absent, Closing, Dropped, Finished, Live}

live-unfinished : (b : Block) (p : Pending) (x : Bool) → is_live_in b p ≡ true → (not (is_nothing p) || (is_in_block b || x)) ≡ true
live-unfinished b p x e = grind arith

closing-unfinished : (b : Block) (p : Pending) (x : Bool) → is_closing_in b p ≡ true → (not (is_nothing p) || (is_in_block b || x)) ≡ true
closing-unfinished b p x e = grind arith

module _ (script : Script) (c : Coord) (ms : List Mark) (kept : Kept script c) (past : Past c ms) (finished : (s : SessionId) → is_unfinished_there script c s ≡ false) where
  module _ (g : ℕ) where
    abbrev s : SessionId
    s = (work_of c (gx g)).session

    abbrev x : Session
    x = session_of c s

    not-live : stage_of c g ≡ Live → ⊥
    not-live e = true-false (is_unfinished_there script c s) (live-unfinished x.state.block x.state.pending (is_left (next_line script c s)) ((kept.tied g).live e).1) (finished s)

    not-closing : stage_of c g ≡ Closing → ⊥
    not-closing e = true-false (is_unfinished_there script c s) (closing-unfinished x.state.block x.state.pending (is_left (next_line script c s)) ((kept.tied g).closing e).1) (finished s)

    pub all-ended : 1 ≤ g → g < c.table.next.0 → is_ended ms (gx g) ≡ true
    all-ended one drawn = by_stage (stage_of c g) refl
      where
        by_stage : (a : Stage) → stage_of c g ≡ a → is_ended ms (gx g) ≡ true
        by_stage Absent e = past.ended g one drawn (ap is_running e)
        by_stage Live e = absurd (not-live e)
        by_stage Closing e = absurd (not-closing e)
        by_stage Finished e = past.ended g one drawn (ap is_running e)
        by_stage Dropped e = or_right (is_committed ms (gx g)) _ (past.dropped g e)
