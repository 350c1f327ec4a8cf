use Rattle.std.proofs.Common.{◌∙◌, length, refl, sym}
use Rattle.gx_locks.specs.Index.{holds_at, places_at}
use Rattle.gx_locks.specs.declared.key.Key.{Key}
use Rattle.gx_locks.specs.declared.key.Key.TheVariants.{On}
use Rattle.gx_waits.specs.declared.object.Object.TheVariants.{Tuple}
use Rattle.gx_locks.proofs.Tidy.{tidy_used}
use Rattle.gx_locks.proofs.Written.{dropped, dropped_tidy, idle_holds, idle_places}
use Rattle.gx_locks.proofs.index.Index.drop_idle.Goals as goal

pub returns-then-is_idle-clause-holds : goal.returns-then-is_idle-clause-holds
returns-then-is_idle-clause-holds c =
    let old = c.args.self.now in
    let key : Key = On (Tuple c.args.rid) in
    dropped (λ rack. rack.holds) old (record { alloc = old.alloc; tables = old.tables; owners = old.owners; others = c.remove.new.self }) refl refl key c.remove.ensures.updates.0 (idle_holds (holds_at old key) (places_at old key) (sym c.is_idle.ensures ∙ c.if-is_idle.true))

pub returns-then-is_idle-clause-places : goal.returns-then-is_idle-clause-places
returns-then-is_idle-clause-places c =
    let old = c.args.self.now in
    let key : Key = On (Tuple c.args.rid) in
    dropped (λ rack. rack.places) old (record { alloc = old.alloc; tables = old.tables; owners = old.owners; others = c.remove.new.self }) refl refl key c.remove.ensures.updates.0 (idle_places (length (holds_at old key)) (places_at old key) (sym c.is_idle.ensures ∙ c.if-is_idle.true))

pub returns-then-is_idle-clause-tidy : goal.returns-then-is_idle-clause-tidy
returns-then-is_idle-clause-tidy c = λ was.
    let old = c.args.self.now in
    dropped_tidy c.args.rid old (record { alloc = old.alloc; tables = old.tables; owners = old.owners; others = c.remove.new.self }) refl c.remove.ensures.updates.0 was

pub returns-else-is_idle-clause-tidy : goal.returns-else-is_idle-clause-tidy
returns-else-is_idle-clause-tidy c = λ was.
    tidy_used (On (Tuple c.args.rid)) c.args.self.now was (sym c.is_idle.ensures ∙ c.if-is_idle.false)
