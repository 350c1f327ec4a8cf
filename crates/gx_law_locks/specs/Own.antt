-- Whoever writes at a segment holds its own lock there.
use Rattle.std.specs.Prelude.{◌≡◌, true, false, List, [], ◌∷◌, ◌++◌}
use Rattle.std.specs.declared.option.Option.{Option}
use Rattle.gx_ids.specs.declared.ids.Cid.{Cid}
use Rattle.gx_ids.specs.declared.ids.Gxid.{Gxid}
use Rattle.gx_ids.specs.declared.ids.Node.{Node}
use Rattle.gx_ids.specs.declared.ids.Table.{Table}
use Rattle.gx_ids.specs.declared.rid.Rid.{Rid}
use Rattle.gx_tree.specs.declared.value.Value.{Value}
use Rattle.gx_modes.specs.declared.modes.Mode.TheVariants.{Exclusive}
use Rattle.gx_waits.specs.declared.object.Object.TheVariants.{Transaction}
use Rattle.gx_store.specs.declared.mark.Mark.{Mark}
use Rattle.gx_store.specs.declared.mark.Mark.TheVariants.{Write}
use Rattle.gx_store.specs.declared.run.Step.{Step}
use Rattle.gx_store.specs.Locks.{HoldOwn}
use Rattle.gx_store.specs.Points.{marks_in}
use Rattle.gx_store.specs.Waits.{is_held}
use Rattle.gx_rules.specs.Machine.{World}
use Rattle.gx_rules.specs.Segments.{has_ended, local_of}

-- at the end of each step in which it has written
abbrev pub DoHoldOwn : List Step → List Step → Type 0
DoHoldOwn before [] = Unit {0}
DoHoldOwn before (s ∷ ss) = HoldOwn (marks_in before) (marks_in before ++ s.marks) s.marks × DoHoldOwn (before ++ s ∷ []) ss

-- and behind each later step, until it has ended there
abbrev pub DoWritersHold : World → Type 0
DoWritersHold w =
    (earlier later : List Mark) (g : Gxid) (c : Cid) (node : Node) (table : Table) (rid : Rid) (image : Option (List Value))
    → marks_in w.steps ≡ earlier ++ Write g c node table rid image ∷ later
    → has_ended (local_of (w.segs node.0) g).phase ≡ false → is_held (marks_in w.steps) node g (Transaction g) Exclusive ≡ true
