-- The item of a promise or a commitment.
use Rattle.std.specs.Prelude.{ℕ, List, codes}
use Rattle.gx_ids.specs.declared.ids.Gxid.{Gxid}
use Rattle.gx_msg.specs.declared.item.JournalItem.{JournalItem}
use Rattle.gx_msg.specs.declared.item.JournalItem.TheVariants as item
use Rattle.gx_msg.specs.declared.item.Kept.{Kept}
use Rattle.gx_node.specs.declared.appending.Heading.{Heading}
use Rattle.gx_node.specs.declared.appending.Heading.TheVariants as heading

abbrev pub word_of : Heading → List ℕ
word_of heading.Prepare = codes "prepare "
word_of heading.Commit = codes "commit "

abbrev pub item_of : Heading → Gxid → List Kept → JournalItem
item_of heading.Prepare g rows = item.Prepare g rows
item_of heading.Commit g rows = item.Commit g rows
