use Rattle.std.proofs.Common.{◌≡◌, ◌∙◌, [], rules, sym, subst}
use Rattle.std.proofs.lemmas.Result.{IfOk-weaker}
use Rattle.std.specs.List.Sorted.{IsStrictlySortedBy}
use Rattle.gx_meaning.specs.Answer.{AreRising}
use Rattle.gx_rows.specs.Rids.{rid_cmp}
use Rattle.gx_slices.specs.Filed.{image_at, versions_in}
use Rattle.gx_slices.proofs.Keyed.{keyed-none}
use Rattle.gx_slices.proofs.Shown.{AreRising-keyed, AreRising-nil}
use Rattle.gx_slices.proofs.finding.rows_under_key.Goals as goal

pub returns-in-Some-clause-rising : goal.returns-in-Some-clause-rising
returns-in-Some-clause-rising c =
    IfOk-weaker
    c.rows_of.result
    _
    _
    (λ rows whole. subst AreRising (sym whole) (AreRising-keyed (image_at c.in-Some.versions.now c.args.xids.now c.args.snap.now c.args.own c.args.cid) c.as_slice.result.now (subst (IsStrictlySortedBy rid_cmp) (sym c.as_slice.ensures.value) c.in_ok-rids.ensures.rising)))
    c.rows_of.ensures

pub returns-clause-whole : goal.returns-clause-whole
returns-clause-whole c =
    let none : versions_in c.args.tables.now.entries c.args.table ≡ [] = search rules in
    c.new.ensures.items ∙ sym (keyed-none (versions_in c.args.tables.now.entries c.args.table) c.args.xids.now c.args.snap.now c.args.own c.args.cid none _)

pub returns-clause-rising : goal.returns-clause-rising
returns-clause-rising c = AreRising-nil c.new.result.items c.new.ensures.items
