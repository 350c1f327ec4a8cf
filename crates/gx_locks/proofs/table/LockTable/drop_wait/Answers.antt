use Rattle.std.proofs.Common.{◌≡◌, ◌∙◌, List, [], sym, ap, subst, refl, arith}
use Rattle.std.proofs.lemmas.Grind.{common_steps}
use Rattle.std.specs.Prelude.{Some, None, find}
use Rattle.gx_waits.specs.declared.claim.Claim.{Claim}
use Rattle.gx_waits.specs.Claims.{is_of, without}
use Rattle.gx_locks.specs.Locks.{Locks}
use Rattle.gx_locks.proofs.Whole.{IsWhole-dropped, without-unfound, without-full}
use Rattle.gx_locks.proofs.table.LockTable.drop_wait.Goals as goal

pub invariant_of-self : goal.invariant_of-self
invariant_of-self c =
    let found : find (is_of c.args.gxid) c.self.inside.waits.items ≡ Some c.in-Some.wait = sym (c.in-Some.ensures ∙ ap (find (is_of c.args.gxid)) c.as_slice.ensures.value) in
    IsWhole-dropped c.self.inside.book c.forget.new.self c.self.inside.waits.items c.take_out.new.claims.items c.args.gxid c.in-Some.wait c.self.invariant c.take_out.ensures found c.forget.ensures.places c.forget.ensures.tidy c.forget.ensures.holds

pub returns-in_default : goal.returns-in_default
returns-in_default c =
    let none : find (is_of c.args.gxid) c.self.inside.waits.items ≡ None = sym (c.in_default.ensures ∙ ap (find (is_of c.args.gxid)) c.as_slice.ensures.value) in
    let waits : c.self.inside.waits.items ≡ c.args.self.now.waits = ap (λ (locks : Locks). locks.waits) c.self.view_is in
    ap (λ (ws : List Claim). record c.args.self.now { waits = ws }) (sym (without-unfound c.args.gxid c.args.self.now.waits (subst (λ (ws : List Claim). find (is_of c.args.gxid) ws ≡ None) waits none)))

pub returns-then-is_full : goal.returns-then-is_full
returns-then-is_full c =
    let same = without-full c.self.inside.book c.self.inside.waits.items c.args.gxid c.self.invariant (sym c.is_full.ensures ∙ c.if-is_full.true) in
    let waits : c.self.inside.waits.items ≡ c.args.self.now.waits = ap (λ (locks : Locks). locks.waits) c.self.view_is in
    ap (λ (ws : List Claim). record c.args.self.now { waits = ws }) (sym (subst (λ (ws : List Claim). without c.args.gxid ws ≡ ws) waits same))

pub returns-then-is_empty : goal.returns-then-is_empty
returns-then-is_empty c =
    let none : c.self.inside.waits.items ≡ [] = grind (arith, common_steps, c.is_empty.ensures, c.if-is_empty.true) in
    let waits : c.self.inside.waits.items ≡ c.args.self.now.waits = ap (λ (locks : Locks). locks.waits) c.self.view_is in
    ap (λ (ws : List Claim). record c.args.self.now { waits = ws }) (subst (λ (ws : List Claim). ws ≡ without c.args.gxid ws) (sym none ∙ waits) refl)
