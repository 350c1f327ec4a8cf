use Rattle.std.proofs.Common.{◌≡◌, true, subst}
use Rattle.std.specs.Prelude.{OnOk}
use Rattle.gx_tree.specs.declared.value.Value.{Value}
use Rattle.gx_sweep.specs.Index.{has_under, key_at}
use Rattle.gx_sweep.proofs.Inserted.{has-added, kept-added}
use Rattle.gx_sweep.proofs.index.KeyIndex.add.Goals as goal

pub returns-clause-has : goal.returns-clause-has
returns-clause-has c =
    subst
    (λ (key : Value). OnOk c.add_at.result (has_under c.add_at.new.self (key_at c.args.table key) c.args.rid ≡ true))
    c.in_ok-key.ensures
    (has-added c.args.self.now c.add_at.new.self (key_at c.args.table c.in_ok-key.key) c.args.rid c.add_at.result c.add_at.ensures.there)

pub returns-clause-kept : goal.returns-clause-kept
returns-clause-kept c =
    kept-added c.args.self.now c.add_at.new.self (key_at c.args.table c.in_ok-key.key) c.args.rid c.add_at.result c.add_at.ensures.there c.add_at.ensures.err c.add_at.ensures.elsewhere
