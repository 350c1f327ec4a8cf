-- Whether a command has done what it says of rows, as tests.
use Rattle.std.specs.Prelude.{ℕ, ◌==◌, Bool, not, ◌&&◌, ◌||◌, List, take, Some}
use Rattle.std.specs.BTreeSet.{BTreeSet, contains}
use Rattle.std.specs.List.{list_all, list_any}
use Rattle.std.specs.declared.option.Option.{Option}
use Rattle.gx_ids.specs.declared.ids.Gxid.{Gxid}
use Rattle.gx_ids.specs.declared.ids.Cid.{Cid}
use Rattle.gx_ids.specs.declared.ids.Table.{Table}
use Rattle.gx_ids.specs.declared.rid.Rid.{Rid}
use Rattle.gx_meaning.specs.Order.{rid_order}
use Rattle.gx_tree.specs.declared.cond.Cond.{Cond}
use Rattle.gx_tree.specs.declared.row.KeyedRow.{KeyedRow}
use Rattle.gx_tree.specs.declared.stmt.Level.{Level}
use Rattle.gx_store.specs.declared.mark.Mark.{Mark}
use Rattle.gx_store.specs.Commands.{condition_on}
use Rattle.gx_store.specs.Marks.{is_processed, write_count}
use Rattle.gx_legal.specs.Faulted.{is_whole}
use Rattle.gx_legal.specs.Places.{snapshots}
use Rattle.gx_legal.specs.Selected.{is_met}
use Rattle.gx_legal.specs.Viewed.{view_rows}

-- the condition faults on none of the rows
abbrev pub faults_on_none : Option Cond → List KeyedRow → Bool
faults_on_none cond rows = list_all (λ row. is_whole (condition_on cond row.row)) rows

-- the command has written or skipped each of the rows on which the condition is true
abbrev pub are_done : List Mark → Gxid → Cid → Option Cond → List KeyedRow → Bool
are_done marks g c cond rows = list_all (λ row. not (is_met (condition_on cond row.row)) || is_processed marks g c row.rid) rows

-- each of them is in the set
abbrev pub are_done_in : BTreeSet Rid → Option Cond → List KeyedRow → Bool
are_done_in done cond rows = list_all (λ row. not (is_met (condition_on cond row.row)) || contains rid_order done row.rid) rows

abbrev pub is_done_by : List Mark → Gxid → Cid → Option Cond → List KeyedRow → Bool
is_done_by marks g c cond rows = faults_on_none cond rows && are_done marks g c cond rows

-- the same of the rows that the command sees by the snapshot at this place
abbrev pub is_done_at : List Mark → Gxid → Cid → Table → Option Cond → ℕ → Bool
is_done_at marks g c table cond place = is_done_by marks g c cond (view_rows marks (take place marks) (Some (g, c)) table)

-- an UPDATE or DELETE has written so many rows, and by one of its snapshots it is done
abbrev pub has_changed : List Mark → Level → Gxid → Cid → Table → Option Cond → ℕ → Bool
has_changed marks level g c table cond n =
    (n == write_count marks g c) && list_any (is_done_at marks g c table cond) (snapshots marks level g c)
