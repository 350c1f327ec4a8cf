use Rattle.std.proofs.Common.{◌≡◌, ◌∙◌, Some, position, ap, sym, refl}
use Rattle.gx_locks.specs.declared.owner.Owner.{Owner}
use Rattle.gx_locks.specs.Owners.{end_of, holds_of, is_idle, is_owner, owner_in}
use Rattle.gx_locks.specs.Rack.{no_shelf}
use Rattle.gx_locks.proofs.Owned.{found, unfound}
use Rattle.gx_locks.proofs.Tidy.{tidy_freed, tidy_kept, tidy_unknown}
use Rattle.gx_locks.proofs.Written.{both_idle, idle_rack, owner_dropped}
use Rattle.gx_locks.proofs.index.Index.free_idle.Goals as goal

pub returns-then-is_idle-clause-same : goal.returns-then-is_idle-clause-same
returns-then-is_idle-clause-same c =
    let os = c.args.self.now.owners.items in
    let g = c.args.gxid in
    let i = c.in-Some.place in
    let at : position (is_owner g) os ≡ Some i = sym (c.in-Some.ensures ∙ ap (position (is_owner g)) c.as_slice.ensures.value) in
    let o = c.index.result.now in
    let both = both_idle (is_idle o.holds) (is_idle o.end) (sym c.is_idle.ensures ∙ c.if-is_idle.true) in
    let holds : holds_of (owner_in os g) ≡ no_shelf = ap holds_of (found os g i at o) ∙ sym (ap (λ (p : Owner). p.holds) c.index.ensures) ∙ idle_rack o.holds both.0 in
    let end : end_of (owner_in os g) ≡ no_shelf = ap end_of (found os g i at o) ∙ sym (ap (λ (p : Owner). p.end) c.index.ensures) ∙ idle_rack o.end both.1 in
    owner_dropped g c.args.self.now (record { alloc = c.args.self.now.alloc; tables = c.args.self.now.tables; owners = c.free.new.owners; others = c.args.self.now.others }) refl refl c.free.ensures.others c.free.ensures.gone holds end

pub returns-then-is_idle-clause-tidy : goal.returns-then-is_idle-clause-tidy
returns-then-is_idle-clause-tidy c = λ was.
    tidy_freed c.args.gxid c.args.self.now (record { alloc = c.args.self.now.alloc; tables = c.args.self.now.tables; owners = c.free.new.owners; others = c.args.self.now.others }) refl c.free.ensures.others c.free.ensures.gone was

pub returns-else-is_idle-clause-tidy : goal.returns-else-is_idle-clause-tidy
returns-else-is_idle-clause-tidy c = λ was.
    let os = c.args.self.now.owners.items in
    let g = c.args.gxid in
    let i = c.in-Some.place in
    let at : position (is_owner g) os ≡ Some i = sym (c.in-Some.ensures ∙ ap (position (is_owner g)) c.as_slice.ensures.value) in
    let o = c.index.result.now in
    tidy_kept g c.args.self.now o (found os g i at o ∙ ap Some (sym c.index.ensures)) (sym c.is_idle.ensures ∙ c.if-is_idle.false) was

pub returns-in_default-clause-tidy : goal.returns-in_default-clause-tidy
returns-in_default-clause-tidy c = λ was.
    let g = c.args.gxid in
    tidy_unknown g c.args.self.now (unfound c.args.self.now.owners.items g (sym (c.in_default.ensures ∙ ap (position (is_owner g)) c.as_slice.ensures.value))) was
