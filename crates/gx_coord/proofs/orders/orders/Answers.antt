use Rattle.std.proofs.Common.{◌≡◌, ◌∙◌, ◌++◌, ◌∷◌, List, [], append-nil, append_assoc, ap, arith, reverse, sym}
use Rattle.std.proofs.lemmas.Grind.{common_steps}
use Rattle.std.proofs.lemmas.List.{reverse-append, reverse-reverse}
use Rattle.gx_meaning.specs.declared.piece.Piece.{Piece}
use Rattle.gx_msg.specs.declared.message.Out.{Out}
use Rattle.gx_rules.specs.AtCoordinator.{orders_of}
use Rattle.gx_coord.proofs.orders.orders.Goals as goal

pub loop-piece-init : goal.loop-piece-init
loop-piece-init c =
    let of = c.args.of.now in
    let told : List Piece → List Out = orders_of of.gxid of.cid of.level of.snapshot of.horizon in
    ap (λ os. os ++ told (reverse c.reverse.new.self.items)) (c.reserve.ensures.items ∙ c.taken-outs.ensures)
    ∙ ap told (ap reverse c.reverse.ensures.items ∙ reverse-reverse c.args.pieces.now.items)

pub loop-piece-preserved : goal.loop-piece-preserved
loop-piece-preserved c =
    let of = c.args.of.now in
    let told : List Piece → List Out = orders_of of.gxid of.cid of.level of.snapshot of.horizon in
    let first : reverse c.loop-piece.pieces.items ≡ c.in-Some.piece ∷ reverse c.pop.new.self.items = ap reverse c.in-Some.ensures.items ∙ reverse-append c.pop.new.self.items (c.in-Some.piece ∷ []) in
    ap (λ os. os ++ told (reverse c.pop.new.self.items)) (c.in_ok-push.ensures.items ∙ ap (λ o. c.loop-piece.outs.items ++ o ∷ []) c.in_ok-order.ensures)
    ∙ append_assoc c.loop-piece.outs.items _ (told (reverse c.pop.new.self.items))
    ∙ ap (λ ps. c.loop-piece.outs.items ++ told ps) (sym first)
    ∙ c.loop-piece.invariant

pub returns : goal.returns
returns c =
    let of = c.args.of.now in
    let told : List Piece → List Out = orders_of of.gxid of.cid of.level of.snapshot of.horizon in
    let none : c.loop-piece.pieces.items ≡ [] = grind (arith, common_steps, c.in_default.ensures.cases) in
    c.from_vec.ensures
    ∙ sym (append-nil c.loop-piece.outs.items)
    ∙ ap (λ ps. c.loop-piece.outs.items ++ told (reverse ps)) (sym none)
    ∙ c.loop-piece.invariant
