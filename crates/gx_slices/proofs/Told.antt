-- What a SELECT comes to by what its condition made of the rows.
use Rattle.std.proofs.Common.{◌≡◌, ◌∙◌, List, ◌∷◌, Bool, Some, sym, ap}
use Rattle.std.specs.Prelude.{Result, Err}
use Rattle.gx_ids.specs.declared.ids.Cid.{Cid}
use Rattle.gx_ids.specs.declared.ids.Gxid.{Gxid}
use Rattle.gx_tree.specs.declared.query.Query.{Query}
use Rattle.gx_tree.specs.declared.row.KeyedRow.{KeyedRow}
use Rattle.gx_tree.specs.declared.cond.Cond.{Cond}
use Rattle.gx_meaning.specs.Answer.{part_of}
use Rattle.gx_meaning.specs.Expressions.{truth_of}
use Rattle.gx_meaning.specs.declared.fault.ArithFault.{ArithFault}
use Rattle.gx_msg.specs.declared.reply.Reply.TheVariants.{Done}
use Rattle.gx_rules.specs.Slices.{first_fault, or_fault}
use Rattle.gx_slices.specs.Picked.{IsPicked, IsSelected, IsToldOf, select_marks, select_reply}
use Rattle.gx_slices.specs.declared.picking.Picked.{Picked}
use Rattle.gx_slices.specs.declared.picking.Picked.TheVariants as picked
use Rattle.gx_slices.specs.declared.running.Ran.{Ran}

module _ (g : Gxid) (c : Cid) (wrote : Bool) (query : Query) (rows : List KeyedRow) where
  pub IsSelected-picked : (p : Picked) (ran : Ran) → IsPicked query.cond rows p → IsToldOf g c wrote query p ran → IsSelected g c wrote query rows ran
  IsSelected-picked (picked.Rows kept) ran is told = record {
    marks = told.0 ∙ sym (ap (select_marks g c) is.0);
    reply = told.1 ∙ ap (λ (rows : List KeyedRow). Done c wrote 0 (part_of query rows)) is.1 ∙ sym (ap (select_reply c wrote query rows) is.0);
  }
  IsSelected-picked (picked.Fault row fault) ran is told = record {
    marks = told.marks ∙ sym (ap (select_marks g c) is);
    reply = told.reply ∙ sym (ap (select_reply c wrote query rows) is);
  }

-- the first of the rows that are left is the first on which the condition faults
pub first_faults : (cond : Cond) (row at : KeyedRow) (rest rows : List KeyedRow) (fault : ArithFault) → first_fault (Some cond) (row ∷ rest) ≡ first_fault (Some cond) rows → truth_of row.row cond ≡ Err fault → at ≡ row → first_fault (Some cond) rows ≡ Some (at, fault)
first_faults cond row at rest rows fault same is here =
    sym same ∙ ap (λ (r : Result Bool ArithFault). or_fault row r (first_fault (Some cond) rest)) is ∙ ap (λ (x : KeyedRow). Some (x, fault)) (sym here)
