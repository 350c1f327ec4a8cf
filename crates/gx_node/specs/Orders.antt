-- What an order leaves in the journal.
use Rattle.std.specs.Prelude.{◌≡◌, ◌⊎◌, ◌++◌, Bool, false, map}
use Rattle.std.specs.declared.option.Option.{Option}
use Rattle.gx_msg.specs.ItemBytes.{bytes_of_item}
use Rattle.gx_msg.specs.declared.item.JournalItem.{JournalItem}
use Rattle.gx_outside.specs.Shelves.{Shelf, HasAdded, IsLater}
use Rattle.gx_rules.specs.Machine.{kept_item}

-- the journal took this item, or it failed to, and its count rose
abbrev pub Took : Shelf → Shelf → Bool → Option JournalItem → Type 0
Took before after fails it = HasAdded before after (map bytes_of_item (kept_item fails it)) fails

-- The journal may be as it was, or hold one item more, and then it is this one, whole: the one that is kept where the append doesn't fail.
pub record IsLaterBy (before after : Shelf) (it : Option JournalItem) : Type 0 where
  pub later : IsLater before after
  pub which : (after.items ≡ before.items) ⊎ (after.items ≡ before.items ++ map bytes_of_item (kept_item false it))
