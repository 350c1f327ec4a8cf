-- The rounds that begin where nothing else is left to choose, and the transactions that rounds have cancelled.
use Rattle.std.specs.Prelude.{◌≤◌, ℕ, ◌+◌, Bool, false, if◌then◌else◌, ◌&&◌, ◌||◌, List, [], ◌∷◌, ◌++◌, filter, length}
use Rattle.std.specs.List.{list_all, list_any}
use Rattle.gx_ids.specs.declared.ids.Gxid.{Gxid}
use Rattle.gx_script.specs.declared.Script.{Script}
use Rattle.gx_store.specs.Marks.{is_aborted, is_same_gxid, start_count}
use Rattle.gx_store.specs.Points.{marks_in}
use Rattle.gx_store.specs.Schedule.{gxids_of, is_recheck, is_round}
use Rattle.gx_store.specs.declared.event.Event.{Event}
use Rattle.gx_store.specs.declared.mark.Mark.{Mark}
use Rattle.gx_store.specs.declared.mark.Mark.TheVariants.{Recheck}
use Rattle.gx_store.specs.declared.run.Step.{Step}
use Rattle.gx_waits.specs.declared.verdict.Verdict.TheVariants.{Victims}
use Rattle.gx_law_lone.specs.Victims.{let_in}

-- LONE ROUNDS
-- the step begins a round where nothing else was left to choose
abbrev pub begins_lone_round : Script → (List Step → Event → Bool) → List Step → Step → Bool
begins_lone_round script lets before step = is_round step.event && list_all is_round (let_in script lets before)

-- some round is decided in these steps: the first behind a round's beginning is that round, since one runs at a time
abbrev pub is_rechecked : List Step → Bool
is_rechecked steps = list_any is_recheck (marks_in steps)

-- how many of the steps begin a lone round that comes to its recheck
abbrev pub lone_rounds_from : Script → (List Step → Event → Bool) → List Step → List Step → ℕ
lone_rounds_from script lets before [] = 0
lone_rounds_from script lets before (s ∷ ss) =
    if begins_lone_round script lets before s && is_rechecked ss
    then lone_rounds_from script lets (before ++ s ∷ []) ss + 1
    else lone_rounds_from script lets (before ++ s ∷ []) ss

abbrev pub lone_rounds : Script → (List Step → Event → Bool) → List Step → ℕ
lone_rounds script lets steps = lone_rounds_from script lets [] steps

-- WHO IS CANCELLED
-- a round that these marks end has named the transaction
abbrev pub is_victim : List Mark → Gxid → Bool
is_victim [] g = false
is_victim (Recheck round own (Victims victims) ∷ ms) g = list_any (is_same_gxid g) victims || is_victim ms g
is_victim (_ ∷ ms) g = is_victim ms g

-- the transactions that have begun, that a round has named and that have aborted
abbrev pub cancelled : List Mark → List Gxid
cancelled marks = filter (λ g. is_victim marks g && is_aborted marks g) (gxids_of marks)

-- There are no more lone rounds that came to their recheck than cancelled transactions, no more of these than transactions that began, and
-- no more of those than lines of the script.
pub record AreLoneRoundsFew (script : Script) (lets : List Step → Event → Bool) (steps : List Step) : Type 0 where
  pub cancelling : lone_rounds script lets steps ≤ length (cancelled (marks_in steps))
  pub begun : length (cancelled (marks_in steps)) ≤ start_count (marks_in steps)
  pub lines : start_count (marks_in steps) ≤ length script.lines
