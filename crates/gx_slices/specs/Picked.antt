-- The rows on which a condition is true, or its first fault on one.
use Rattle.std.specs.Prelude.{◌≡◌, ◌++◌, Bool, if◌then◌else◌, List, [], ◌∷◌, filter, Some, None}
use Rattle.std.specs.declared.option.Option.{Option}
use Rattle.std.specs.List.{AllByRecursion}
use Rattle.gx_ids.specs.declared.ids.Cid.{Cid}
use Rattle.gx_ids.specs.declared.ids.Gxid.{Gxid}
use Rattle.gx_tree.specs.declared.cond.Cond.{Cond}
use Rattle.gx_tree.specs.declared.query.Query.{Query}
use Rattle.gx_tree.specs.declared.row.KeyedRow.{KeyedRow}
use Rattle.gx_meaning.specs.Kinds.{IsTyped, kinds_of}
use Rattle.gx_meaning.specs.declared.fault.ArithFault.{ArithFault}
use Rattle.gx_meaning.specs.Answer.{keeps, part_of}
use Rattle.gx_msg.specs.declared.reply.Reply.{Reply}
use Rattle.gx_msg.specs.declared.reply.Reply.TheVariants.{Done, Failed}
use Rattle.gx_store.specs.declared.mark.Mark.{Mark}
use Rattle.gx_store.specs.declared.mark.Mark.TheVariants.{Fault}
use Rattle.gx_rules.specs.Slices.{cause_of, first_fault}
use Rattle.gx_slices.specs.declared.picking.Picked.{Picked}
use Rattle.gx_slices.specs.declared.picking.Picked.TheVariants as picked
use Rattle.gx_slices.specs.declared.running.Ran.{Ran}

-- the condition has a meaning on the row
abbrev pub IsTypedOn : Cond → KeyedRow → Type 0
IsTypedOn cond row = IsTyped (kinds_of row.row) cond

abbrev pub AreTypedOn : Option Cond → List KeyedRow → Type 0
AreTypedOn None rows = Unit {0}
AreTypedOn (Some cond) rows = AllByRecursion (IsTypedOn cond) rows

-- a row put behind others where it is kept
abbrev pub kept_if : Bool → List KeyedRow → KeyedRow → List KeyedRow
kept_if truth kept row = if truth then kept ++ row ∷ [] else kept

abbrev pub IsPicked : Option Cond → List KeyedRow → Picked → Type 0
IsPicked cond rows (picked.Rows kept) = (first_fault cond rows ≡ None) × (kept.items ≡ filter (keeps cond) rows)
IsPicked cond rows (picked.Fault row fault) = first_fault cond rows ≡ Some (row, fault)

-- the condition makes of these rows what it makes of all
pub record AreEnough (cond : Option Cond) (all rows : List KeyedRow) : Type 0 where
  pub typed : AreTypedOn cond rows
  pub faults : first_fault cond rows ≡ first_fault cond all
  pub kept : filter (keeps cond) rows ≡ filter (keeps cond) all

-- a SELECT's mark and answer
abbrev pub select_marks : Gxid → Cid → Option (KeyedRow × ArithFault) → List Mark
select_marks g c None = []
select_marks g c (Some fault) = Fault g c fault.0.rid (Some fault.0.row) ∷ []

abbrev pub select_reply : Cid → Bool → Query → List KeyedRow → Option (KeyedRow × ArithFault) → Reply
select_reply c wrote query rows None = Done c wrote 0 (part_of query (filter (keeps query.cond) rows))
select_reply c wrote query rows (Some fault) = Failed c (cause_of fault.1)

-- what it comes to where the condition faults on a row
pub record IsFaulted (g : Gxid) (c : Cid) (row : KeyedRow) (fault : ArithFault) (ran : Ran) : Type 0 where
  pub marks : ran.marks ≡ select_marks g c (Some (row, fault))
  pub reply : ran.reply ≡ Failed c (cause_of fault)

-- what a SELECT comes to by what its condition made of rows
abbrev pub IsToldOf : Gxid → Cid → Bool → Query → Picked → Ran → Type 0
IsToldOf g c wrote query (picked.Rows kept) ran = (ran.marks ≡ []) × (ran.reply ≡ Done c wrote 0 (part_of query kept.items))
IsToldOf g c wrote query (picked.Fault row fault) ran = IsFaulted g c row fault ran

-- what a SELECT comes to on these rows
pub record IsSelected (g : Gxid) (c : Cid) (wrote : Bool) (query : Query) (rows : List KeyedRow) (ran : Ran) : Type 0 where
  pub marks : ran.marks ≡ select_marks g c (first_fault query.cond rows)
  pub reply : ran.reply ≡ select_reply c wrote query rows (first_fault query.cond rows)
