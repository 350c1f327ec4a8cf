-- A row is added to the aggregates of a group, item by item.
use Rattle.std.proofs.Common.{ℕ, zero, suc, ◌<◌, ◌≤◌, ◌≡◌, List, [], ◌∷◌, map, take, length, get_or, refl, ap, arith}
use Rattle.std.specs.Prelude.{slice_set}
use Rattle.gx_tree.specs.declared.cell.Cell.{Cell}
use Rattle.gx_tree.specs.declared.query.Item.{Item}
use Rattle.gx_meaning.specs.Cells.{combine, combine_all}
use Rattle.gx_gather.specs.Added.{added_at}

pub added-there : (item : Item) (more : Cell) (p : ℕ) (cells : List Cell) (cell : Cell) → p < length cells → cell ≡ get_or cells p cell → slice_set cells p (combine item cell more) ≡ added_at item more p cells
added-there item more p [] cell low is = absurd (omega (arith, low))
added-there item more zero (c ∷ cells) cell low is = ap (λ d. combine item d more ∷ cells) is
added-there item more (suc p) (c ∷ cells) cell low is = ap (λ l. c ∷ l) (added-there item more p cells cell (omega (arith, low)) is)

pub added-nowhere : (item : Item) (more : Cell) (p : ℕ) (cells : List Cell) → length cells ≤ p → cells ≡ added_at item more p cells
added-nowhere item more p [] past = refl
added-nowhere item more zero (c ∷ cells) past = absurd (omega (arith, past))
added-nowhere item more (suc p) (c ∷ cells) past = ap (λ l. c ∷ l) (added-nowhere item more p cells (omega (arith, past)))

-- what comes out when the items from a place on are still to be added
abbrev pub still : (Item → Cell) → ℕ → List Item → List Cell → List Cell
still f zero items cells = combine_all items cells (map f items)
still f (suc i) items [] = []
still f (suc i) [] (cell ∷ cells) = []
still f (suc i) (item ∷ items) (cell ∷ cells) = cell ∷ still f i items cells

pub item-added : (f : Item → Cell) (i : ℕ) (items : List Item) (cells : List Cell) (d : Item) → i < length items → still f (suc i) items (added_at (get_or items i d) (f (get_or items i d)) i cells) ≡ still f i items cells
item-added f i [] cells d low = absurd (omega (arith, low))
item-added f zero (x ∷ items) [] d low = refl
item-added f zero (x ∷ items) (c ∷ cells) d low = refl
item-added f (suc i) (x ∷ items) [] d low = refl
item-added f (suc i) (x ∷ items) (c ∷ cells) d low = ap (λ l. c ∷ l) (item-added f i items cells d (omega (arith, low)))

pub all-added : (f : Item → Cell) (i : ℕ) (items : List Item) (cells : List Cell) → i ≡ length items → take i cells ≡ still f i items cells
all-added f zero [] cells end = refl
all-added f zero (x ∷ items) cells end = absurd (omega (arith, end))
all-added f (suc i) [] cells end = absurd (omega (arith, end))
all-added f (suc i) (x ∷ items) [] end = refl
all-added f (suc i) (x ∷ items) (c ∷ cells) end = ap (λ l. c ∷ l) (all-added f i items cells (omega (arith, end)))
