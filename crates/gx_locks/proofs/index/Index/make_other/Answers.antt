use Rattle.std.proofs.Common.{◌∙◌, refl, sym}
use Rattle.gx_locks.proofs.Owned.{none_of}
use Rattle.gx_locks.proofs.Written.{other_made, other_made_left}
use Rattle.gx_locks.proofs.index.Index.make_other.Goals as goal

pub returns-in_ok-insert-clause-same : goal.returns-in_ok-insert-clause-same
returns-in_ok-insert-clause-same c =
    other_made c.args.self.now (record { alloc = c.args.self.now.alloc; tables = c.args.self.now.tables; owners = c.args.self.now.owners; others = c.insert.new.self }) refl refl c.args.key c.new.result c.new.ensures c.in_ok-insert.ensures.updates.0
    (none_of _ (sym c.contains_key.ensures ∙ c.if-not-contains_key.true))

pub returns-in_ok-insert-clause-left : goal.returns-in_ok-insert-clause-left
returns-in_ok-insert-clause-left c =
    other_made_left c.args.key c.new.result c.args.self.now (record { alloc = c.args.self.now.alloc; tables = c.args.self.now.tables; owners = c.args.self.now.owners; others = c.insert.new.self }) refl c.in_ok-insert.ensures.updates.0
