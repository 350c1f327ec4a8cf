-- What becomes of a command that comes, by its transaction's record here.
use Rattle.std.specs.Prelude.{◌≡◌, ◌≤◌, ℕ, ◌==◌, nat_le, nat_lt, Bool, not, ◌&&◌, ◌||◌, is_some, List, if◌then◌else◌}
use Rattle.gx_ids.specs.declared.ids.Cid.{Cid}
use Rattle.gx_ids.specs.declared.ids.Gxid.{Gxid}
use Rattle.gx_tree.specs.declared.schema.Schema.{Schema}
use Rattle.gx_script.specs.declared.Script.{Script}
use Rattle.gx_rules.specs.AtSegment.{if_fits, on_exec, raised, unless_below}
use Rattle.gx_rules.specs.Fits.{fits_exec, holds_locks, is_right_slice, is_waiting, reads_nothing}
use Rattle.gx_rules.specs.Maps.{each_below}
use Rattle.gx_rules.specs.Segments.{Local, Phase, Reading, Writing, Prepared, Committed, Seg, SegTurn, local_of, stays, tells_kept}
use Rattle.gx_rules.specs.Running.{starts_slice}
use Rattle.gx_node.specs.declared.local.Suspended.{Suspended}
use Rattle.gx_slices.specs.Agrees.{AreWriters}
use Rattle.gx_slices.specs.Ran.{MayRun}
use Rattle.gx_slices.specs.Waiting.{AreWaits}
use Rattle.gx_segment.specs.declared.commands.Way.{Way}
use Rattle.gx_segment.specs.declared.commands.Way.TheVariants.{Runs, Repeats, Nothing}

-- the rule of EXEC
abbrev pub exec_turn : Script → Seg → Gxid → Suspended → Gxid → SegTurn
exec_turn script s g w h =
    unless_below s g
    (if_fits s (fits_exec script s g w.cid w.snapshot h w.slice) (on_exec script s g w.cid w.level w.snapshot h w.slice (local_of s g) (local_of s g).phase))

abbrev pub fits_here : Script → Seg → Gxid → Suspended → Gxid → Bool
fits_here script s g w h =
    nat_le h.0 g.0
    && (each_below h.0 (λ n. not (holds_locks (s.locals n)))
    && ((is_some w.snapshot || reads_nothing w.slice) && (is_right_slice script g w.cid w.slice && not (nat_lt (local_of s g).last w.cid.0 && is_waiting (local_of s g)))))

-- the slice of a new command
abbrev pub starts : Script → Seg → Gxid → Suspended → SegTurn
starts script s g w = starts_slice script s g w.cid w.level w.snapshot w.slice

-- the last command comes again
abbrev pub again_at : ℕ → Cid → Way
again_at last c = if c.0 == last then Repeats else Nothing

abbrev pub way_in : ℕ → Cid → Phase → Way
way_in last c Reading = if nat_lt last c.0 then Runs else again_at last c
way_in last c Writing = if nat_lt last c.0 then Runs else again_at last c
way_in last c Prepared = again_at last c
way_in last c Committed = again_at last c
way_in last c _ = Nothing

abbrev pub way_of : Local → Cid → Way
way_of l c = way_in l.last c l.phase

abbrev pub turn_by : Way → Script → Seg → Gxid → Suspended → Gxid → SegTurn
turn_by Runs script s g w h = starts script (raised s h) g w
turn_by Repeats script s g w h = tells_kept s g (local_of s g).answer
turn_by Nothing script s g w h = stays s

-- a new command, whose transaction waits for nothing; who has written and is below the horizon has ended
pub record MayStart (tables : List Schema) (s : Seg) (g : Gxid) (w : Suspended) : Type 0 where
  pub may : MayRun tables s g w.cid w.snapshot w.slice
  pub waits : AreWaits tables s
  pub writers : AreWriters s

-- what holds besides where it goes that way
abbrev pub Goes : Script → Seg → Gxid → Suspended → Gxid → Way → Type 0
Goes script s g w h Runs = MayStart script.tables (raised s h) g w
Goes script s g w h Repeats = s.horizon.0 ≤ g.0
Goes script s g w h Nothing = Unit

pub record IsWay (script : Script) (s : Seg) (g : Gxid) (w : Suspended) (h : Gxid) (way : Way) : Type 0 where
  pub turn : exec_turn script s g w h ≡ turn_by way script s g w h
  pub goes : Goes script s g w h way
