use Rattle.std.proofs.Common.{subst, sym}
use Rattle.std.proofs.lemmas.Result.{IfOk-weaker}
use Rattle.std.specs.List.Sorted.{IsStrictlySortedBy}
use Rattle.gx_rows.specs.Rids.{rid_cmp}
use Rattle.gx_rows.specs.Rows.{is_of_table}
use Rattle.gx_rows.proofs.Rising.{IsStrictlySortedBy-keys_filter}
use Rattle.gx_rows.proofs.versions.Versions.rids.Goals as goal

pub returns-clause-rising : goal.returns-clause-rising
returns-clause-rising c =
    IfOk-weaker c.table_rids.result _ _ (λ rids whole. subst (IsStrictlySortedBy rid_cmp) (sym whole) (IsStrictlySortedBy-keys_filter rid_cmp (is_of_table c.args.table) c.self.inside.lists.entries c.table_rids.ensures.ordered)) c.table_rids.ensures.whole
