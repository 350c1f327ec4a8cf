use Rattle.std.proofs.Common.{subst}
use Rattle.gx_slices.specs.Filed.{store_of}
use Rattle.gx_slices.specs.Store.{IsRaised, Store}
use Rattle.gx_slices.proofs.Truncated.{IsSound-truncated, status_of-truncated, writes_of-truncated}
use Rattle.gx_slices.proofs.store.LocalStore.raise_horizon.Goals as goal

pub invariant_of-self : goal.invariant_of-self
invariant_of-self c =
    record { sound = IsSound-truncated c.self.inside.tables.entries c.self.inside.xids c.truncate.new.self c.args.horizon c.self.invariant.sound c.truncate.ensures; indexed = c.self.invariant.indexed }

pub returns : goal.returns
returns c =
    let tables = c.self.inside.tables.entries in
    let x = c.self.inside.xids in
    subst
    (λ (s : Store). IsRaised s c.args.horizon (store_of tables c.truncate.new.self))
    c.self.view_is
    (record {
      horizon_is = c.truncate.ensures.horizon;
      writes = writes_of-truncated tables x c.truncate.new.self c.args.horizon c.self.invariant.sound c.truncate.ensures;
      status = status_of-truncated tables x c.truncate.new.self c.args.horizon c.self.invariant.sound c.truncate.ensures;
    })
