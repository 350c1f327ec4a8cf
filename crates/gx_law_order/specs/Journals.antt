-- What the journals take in a run: the items that turns append, where the append doesn't fail.
use Rattle.std.specs.Prelude.{Bool, if◌then◌else◌, List, [], ◌∷◌, ◌++◌, None, Some}
use Rattle.std.specs.declared.option.Option.{Option}
use Rattle.gx_ids.specs.declared.ids.Node.{Node}
use Rattle.gx_msg.specs.declared.item.JournalItem.{JournalItem}
use Rattle.gx_script.specs.declared.Script.{Script}
use Rattle.gx_store.specs.declared.event.Event.{Event}
use Rattle.gx_store.specs.declared.node.NodeEvent.{NodeEvent}
use Rattle.gx_store.specs.Journals.{is_same_node}
use Rattle.gx_store.specs.Refusals.{the_coordinator}
use Rattle.gx_rules.specs.AtCoordinator.{coord_rule}
use Rattle.gx_rules.specs.AtSegment.{seg_rule}
use Rattle.gx_rules.specs.Machine.{World, at_node, can, happens, kept_item, new_world, node_of}

-- the item of a node's turn
abbrev pub item_at : Script → World → Node → Bool → Option NodeEvent → Option JournalItem
item_at script w at fails None = None
item_at script w at fails (Some here) =
    if is_same_node at the_coordinator then (coord_rule script w.coord here fails).item else (seg_rule script (w.segs at.0) here fails).item

-- what an event adds to a node's journal
abbrev pub takes : Script → World → Event → Bool → Node → List JournalItem
takes script w e fails node =
    if can script w e then (if is_same_node (node_of e) node then kept_item fails (item_at script w (node_of e) fails (at_node w e)) else []) else []

-- a node's journal after the events, from what it held before them
abbrev pub journal_from : Script → World → Node → List JournalItem → List (Event × Bool) → List JournalItem
journal_from script w node held [] = held
journal_from script w node held (e ∷ es) = journal_from script (happens script w e.0 e.1) node (held ++ takes script w e.0 e.1 node) es

abbrev pub journal_after : Script → Node → List (Event × Bool) → List JournalItem
journal_after script node events = journal_from script new_world node [] events
