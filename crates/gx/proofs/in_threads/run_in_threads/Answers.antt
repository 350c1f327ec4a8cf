use Rattle.std.proofs.Common.{◌≡◌, [], rules}
use Rattle.gx.proofs.Lent.{kept-told, none-kept}
use Rattle.gx.proofs.in_threads.run_in_threads.Goals as goal

pub returns-in_default-clause-kept : goal.returns-in_default-clause-kept
returns-in_default-clause-kept g c =
    let none : c.replace-lent.new.dest.items ≡ [] = search rules in
    none-kept g.J.Journal.shelf c.args.journals.now.items c.replace-lent.new.dest.items c.new-in_default.result c.new-in_default.ensures none

pub returns-in-Ok-run_lent-clause-kept : goal.returns-in-Ok-run_lent-clause-kept
returns-in-Ok-run_lent-clause-kept g c =
    let lent : c.replace-lent.result.items ≡ c.args.journals.now.items = search rules in
    kept-told g.J.Journal.shelf c.args.journals.now.items c.replace-lent.result.items _ _ _ _ lent c.told.ensures.run c.in-Ok-run_lent.ensures.kept

pub returns-clause-kept : goal.returns-clause-kept
returns-clause-kept g c =
    let none : c.replace-lent.new.dest.items ≡ [] = search rules in
    none-kept g.J.Journal.shelf c.args.journals.now.items c.replace-lent.new.dest.items c.new-in-Err.result c.new-in-Err.ensures none
