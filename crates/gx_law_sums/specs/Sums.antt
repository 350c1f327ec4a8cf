-- The sum of the balances: transfers move money between the accounts, and make and lose none.
use Rattle.std.specs.Prelude.{◌≡◌, ◌≤◌, pos, true, List, [], ◌++◌, length, Some, None, Contains}
use Rattle.std.specs.declared.alloc.Global.{Global}
use Rattle.std.specs.declared.option.Option.{Option}
use Rattle.std.specs.declared.vec.Vec.{Vec}
use Rattle.gx_ids.specs.declared.ids.Cid.{Cid}
use Rattle.gx_ids.specs.declared.ids.Gxid.{Gxid}
use Rattle.gx_ids.specs.declared.ids.Node.{Node}
use Rattle.gx_ids.specs.declared.ids.Table.{Table}
use Rattle.gx_ids.specs.declared.rid.Rid.{Rid}
use Rattle.gx_script.specs.declared.Script.{Script}
use Rattle.gx_tree.specs.declared.row.KeyedRow.{KeyedRow}
use Rattle.gx_tree.specs.declared.value.Value.{Value}
use Rattle.gx_report.specs.Summary.{accounts_in, total_balance}
use Rattle.gx_store.specs.declared.mark.Mark.{Mark}
use Rattle.gx_store.specs.declared.mark.Mark.TheVariants.{Write}
use Rattle.gx_store.specs.declared.run.Run.{Run}
use Rattle.gx_store.specs.declared.run.Step.{Step}
use Rattle.gx_store.specs.Legal.{AreLegalSteps}
use Rattle.gx_store.specs.Marks.{is_committed, started_after}
use Rattle.gx_store.specs.Points.{marks_in, marks_of}
use Rattle.gx_store.specs.View.{AreFinalFrom, IsView, Reader}
use Rattle.gx_law_sums.specs.Transfers.{loader}

-- generated work has one table
abbrev pub the_accounts : Table
the_accounts = record { 0 = 0 }

-- the transaction that loads the accounts has committed
pub record IsLoaded (marks : List Mark) : Type 0 where
  pub gxid : Gxid
  pub started : started_after loader None marks ≡ Some gxid
  pub committed : is_committed marks gxid ≡ true

-- once the accounts are loaded there are 64, whose balances sum to 6400, and before there is none
pub record IsSumKept (marks : List Mark) (rows : List KeyedRow) : Type 0 where
  pub loaded : IsLoaded marks → (length rows ≡ 64) × (total_balance rows ≡ pos 6400)
  pub empty : (IsLoaded marks → ⊥) → rows ≡ []

-- the reader is in no transaction, or in one whose earlier commands have written no row
abbrev pub HasWrittenNothing : List Mark → Reader → Type 0
HasWrittenNothing marks None = Unit {0}
HasWrittenNothing marks (Some own) = (c : Cid) (node : Node) (table : Table) (rid : Rid) (image : Option (List Value)) → Contains marks (Write own.0 c node table rid image) → own.1.0 ≤ c.0

-- So it is in every legal history of the script, which may be one that goes on, for each reader at each point that has written nothing;
-- and at the end, with no marks behind the point, for whoever is in no transaction.
abbrev pub KeepsTheSum : Script → Type 0
KeepsTheSum script = (steps : List Step) → AreLegalSteps script [] steps
    → (before after : List Mark) → marks_in steps ≡ before ++ after
    → (reader : Reader) → HasWrittenNothing (marks_in steps) reader
    → (rows : List KeyedRow) → IsView (marks_in steps) before reader the_accounts rows → IsSumKept before rows

-- and so it is of the tables that a run ends with
abbrev pub EndsWithTheSum : Script → Type 0
EndsWithTheSum script = (run : Run) → AreLegalSteps script [] run.steps → (tables : List (Vec KeyedRow Global)) → length tables ≡ length script.tables → AreFinalFrom 0 (marks_of run) tables
    → IsSumKept (marks_of run) (accounts_in tables)
