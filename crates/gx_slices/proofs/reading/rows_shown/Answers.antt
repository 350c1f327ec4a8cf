use Rattle.std.proofs.Common.{◌∙◌, List, ap, sym, subst}
use Rattle.std.proofs.lemmas.Result.{IfOk-weaker}
use Rattle.gx_ids.specs.declared.rid.Rid.{Rid}
use Rattle.gx_meaning.specs.Answer.{AreRising}
use Rattle.gx_rows.specs.Rids.{rid_cmp}
use Rattle.gx_rows.specs.Rows.{is_of_table, rids_of}
use Rattle.gx_rows.specs.declared.version.Version.{Version}
use Rattle.gx_rows.proofs.Rising.{IsStrictlySortedBy-keys_filter}
use Rattle.gx_slices.specs.Filed.{image_at, rows_at}
use Rattle.gx_slices.proofs.Listed.{listed_rows-rows_at}
use Rattle.gx_slices.proofs.Shown.{AreRising-keyed}
use Rattle.gx_slices.proofs.reading.rows_shown.Goals as goal

pub returns-clause-whole : goal.returns-clause-whole
returns-clause-whole c =
    let a = c.args in
    IfOk-weaker c.rows_listed.result _ _
    (λ rows whole.
    whole
    ∙ listed_rows-rows_at c.lists.result.now.entries a.xids.now a.table a.snap.now a.own a.cid c.rows_listed.ensures.ordered
    ∙ ap (λ (es : List (Rid × List Version)). rows_at es a.xids.now a.table a.snap.now a.own a.cid) c.lists.ensures)
    c.rows_listed.ensures.whole

pub returns-clause-rising : goal.returns-clause-rising
returns-clause-rising c =
    let a = c.args in
    let es = c.lists.result.now.entries in
    IfOk-weaker c.rows_listed.result _ _
    (λ rows whole.
    subst AreRising (sym (whole ∙ listed_rows-rows_at es a.xids.now a.table a.snap.now a.own a.cid c.rows_listed.ensures.ordered))
    (AreRising-keyed (image_at es a.xids.now a.snap.now a.own a.cid) (rids_of es a.table) (IsStrictlySortedBy-keys_filter rid_cmp (is_of_table a.table) es c.rows_listed.ensures.ordered)))
    c.rows_listed.ensures.whole
