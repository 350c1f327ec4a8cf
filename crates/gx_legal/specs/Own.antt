-- The marks that tell of a transaction's rows, and where they begin.
use Rattle.std.specs.Prelude.{◌≡◌, ◌≤◌, ◌-◌, ◌||◌, ℕ, Bool, true, false, List, drop, length, take, Some, unwrap_or}
use Rattle.std.specs.BTreeMap.{BTreeMap, get}
use Rattle.std.specs.List.{list_any}
use Rattle.std.specs.declared.option.Option.{Option}
use Rattle.gx_dsnap.specs.Gxids.{gxid_cmp}
use Rattle.gx_ids.specs.declared.ids.Gxid.{Gxid}
use Rattle.gx_store.specs.declared.mark.Mark.{Mark}
use Rattle.gx_store.specs.declared.mark.Mark.TheVariants.{Skip, Write}
use Rattle.gx_store.specs.Marks.{is_same_gxid}

-- the transaction has written or skipped a row by this mark, or inserted the row that is written
abbrev pub is_of : Gxid → Mark → Bool
is_of g (Write h c node t rid image) = is_same_gxid h g || is_same_gxid rid.gxid g
is_of g (Skip h c rid) = is_same_gxid h g
is_of g _ = false

-- all of these marks that tell of its rows are among its own, which are the last of them
pub record IsOwn (g : Gxid) (marks own : List Mark) : Type 0 where
  pub last : own ≡ drop (length marks - length own) marks
  pub none : list_any (is_of g) (take (length marks - length own) marks) ≡ false

-- before the place, or before all where there is none, nothing tells of its rows
pub record IsFirst (g : Gxid) (marks : List Mark) (first : Option ℕ) : Type 0 where
  pub inside : unwrap_or first (length marks) ≤ length marks
  pub none : list_any (is_of g) (take (unwrap_or first (length marks)) marks) ≡ false

abbrev pub AreFirsts : List Mark → BTreeMap Gxid ℕ → Type 0
AreFirsts marks firsts = (g : Gxid) → IsFirst g marks (get gxid_cmp firsts g)

-- this place, if there is none yet and the test holds
abbrev pub noted : ℕ → Bool → Option ℕ → Option ℕ
noted place true first = Some (unwrap_or first place)
noted place false first = first

-- the place of the first with a mark more, which stands at this place
abbrev pub first_with : Gxid → Mark → ℕ → Option ℕ → Option ℕ
first_with g mark place first = noted place (is_of g mark) first
