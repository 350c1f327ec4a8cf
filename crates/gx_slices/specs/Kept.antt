-- The rows that a transaction wrote, as they stand in a journal's item.
use Rattle.std.specs.Prelude.{◌≡◌, false, List, [], ◌∷◌, map}
use Rattle.std.specs.List.{AllByRecursion}
use Rattle.std.specs.Ordering.{is_lt}
use Rattle.gx_ids.specs.declared.rid.Rid.{Rid}
use Rattle.gx_meaning.specs.Order.{rid_order}
use Rattle.gx_msg.specs.declared.item.Kept.{Kept}
use Rattle.gx_store.specs.Journals.{kept_with}
use Rattle.gx_slices.specs.declared.kept.Last.{Last}
use Rattle.gx_slices.specs.declared.kept.Rows.{Rows}
use Rattle.gx_slices.specs.declared.kept.Rows.TheVariants.{Empty, One, Rising, Many}

abbrev pub kept_in : Rid × Last → Kept
kept_in e = record { rid = e.0; table = e.1.table; image = e.1.image }

abbrev pub listed : List (Rid × Last) → List Kept
listed rows = map kept_in rows

-- however many
abbrev pub kept_rows : Rows → List Kept
kept_rows Empty = []
kept_rows (One rid last) = kept_in (rid, last) ∷ []
kept_rows (Rising top rows) = listed rows.items
kept_rows (Many rows) = listed rows.entries

-- these rows put among the others, one after the other
abbrev pub put_all : List Kept → List (Rid × Last) → List Kept
put_all kept [] = kept
put_all kept (e ∷ es) = put_all (kept_with (kept_in e) kept) es

-- none is above the top one, and each went behind those before it
pub record IsRising (top : Rid) (rows : List (Rid × Last)) : Type 0 where
  pub below : AllByRecursion (λ e. is_lt (rid_order top e.0) ≡ false) rows
  pub put : put_all [] rows ≡ listed rows

abbrev pub AreSound : Rows → Type 0
AreSound (Rising top rows) = IsRising top rows.items
AreSound _ = Unit {0}
