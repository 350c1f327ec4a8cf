use Rattle.gx_slices.proofs.AddingVersions.{filed_from_add, same_from_add}
use Rattle.gx_slices.proofs.writing.add_version.Goals as goal

pub returns-in-Some-clause-ok : goal.returns-in-Some-clause-ok
returns-in-Some-clause-ok c =
    filed_from_add _ _ c.args.table c.args.rid _ c.in-Some.versions.now c.add.new.self c.add.result c.in-Some.ensures.ordered c.in-Some.ensures.value c.add.ensures.ok (c.get_mut.follows.holds c.add.new.self).0

pub returns-in-Some-clause-err : goal.returns-in-Some-clause-err
returns-in-Some-clause-err c = same_from_add _ _ c.args.table c.in-Some.versions.now c.add.new.self c.add.result c.in-Some.ensures.value c.add.ensures.err (c.get_mut.follows.holds c.add.new.self).0
