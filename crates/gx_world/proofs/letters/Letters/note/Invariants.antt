use Rattle.std.proofs.Common.{◌≡◌, ◌++◌, [], take, if◌then◌else◌}
use Rattle.gx_ids.specs.declared.ids.Node.{Node}
use Rattle.gx_store.specs.Journals.{is_same_node}
use Rattle.gx_world.specs.Links.{IsLong, link_in, places_from}
use Rattle.gx_world.proofs.letters.Letters.note.Given as goal

abbrev pub ghost-note_mark : goal.ghost-note_mark
ghost-note_mark g a = g.segments

abbrev pub invariant-loop-mark : goal.invariant-loop-mark
invariant-loop-mark g l =
    IsLong g.segments l.self
    × ((f t : Node) → link_in l.self f t ≡ link_in l.initial.self f t ++ (if is_same_node f l.node then places_from l.step 0 t (take l.mark l.marks) else []))
