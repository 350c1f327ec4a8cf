-- The items that the journals hold after a run.
use Rattle.std.specs.Prelude.{◌==◌, Bool, false, if◌then◌else◌, ◌&&◌, ◌||◌, List, [], ◌∷◌, ◌++◌}
use Rattle.std.specs.Ordering.{is_lt}
use Rattle.gx_ids.specs.declared.ids.Gxid.{Gxid}
use Rattle.gx_ids.specs.declared.ids.Node.{Node}
use Rattle.gx_meaning.specs.Order.{rid_order}
use Rattle.gx_msg.specs.declared.item.JournalItem.{JournalItem}
use Rattle.gx_msg.specs.declared.item.JournalItem.TheVariants as item
use Rattle.gx_msg.specs.declared.item.Kept.{Kept}
use Rattle.gx_store.specs.declared.mark.Mark.{Mark}
use Rattle.gx_store.specs.declared.mark.Mark.TheVariants.{Write, Prepared, LocalCommit, Decided}
use Rattle.gx_store.specs.Marks.{is_same_gxid, is_same_rid}

abbrev pub is_same_node : Node → Node → Bool
is_same_node a b = a.0 == b.0

-- a row among others that rise by their identities, in the place of the one that has its identity
abbrev pub kept_with : Kept → List Kept → List Kept
kept_with new [] = new ∷ []
kept_with new (k ∷ ks) =
    if is_same_rid k.rid new.rid then new ∷ ks else (if is_lt (rid_order new.rid k.rid) then new ∷ k ∷ ks else k ∷ kept_with new ks)

-- the last that the transaction wrote of each row at a node, by the rows' identities; what it was before these marks is given
abbrev pub kept_from : Node → Gxid → List Kept → List Mark → List Kept
kept_from node g kept [] = kept
kept_from node g kept (Write h c n table rid image ∷ ms) =
    kept_from node g (if is_same_gxid h g && is_same_node n node then kept_with (record { rid = rid; table = table; image = image }) kept else kept) ms
kept_from node g kept (_ ∷ ms) = kept_from node g kept ms

abbrev pub kept_at : Node → Gxid → List Mark → List Kept
kept_at node g marks = kept_from node g [] marks

-- the node has promised to commit the transaction
abbrev pub is_prepared : List Mark → Node → Gxid → Bool
is_prepared [] node g = false
is_prepared (Prepared n h ∷ ms) node g = (is_same_node n node && is_same_gxid h g) || is_prepared ms node g
is_prepared (_ ∷ ms) node g = is_prepared ms node g

-- the item that a mark stands for in a node's journal, if it stands for one
abbrev pub item_of : Node → List Mark → Mark → List JournalItem
item_of node before (Prepared n g) = if is_same_node n node then item.Prepare g (kept_at node g before) ∷ [] else []
item_of node before (LocalCommit n g) =
    if is_same_node n node then (if is_prepared before node g then item.Finish g ∷ [] else item.Commit g (kept_at node g before) ∷ []) else []
item_of node before (Decided g) = if node.0 == 0 then item.Decide g ∷ [] else []
item_of node before _ = []

-- a node's items, in the order of the marks that they stand for
abbrev pub items_from : Node → List Mark → List Mark → List JournalItem
items_from node before [] = []
items_from node before (m ∷ ms) = item_of node before m ++ items_from node (before ++ m ∷ []) ms

abbrev pub items_of : Node → List Mark → List JournalItem
items_of node marks = items_from node [] marks
