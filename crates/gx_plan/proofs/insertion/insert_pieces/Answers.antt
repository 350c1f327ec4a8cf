use Rattle.std.proofs.Common.{◌≡◌, ◌≢◌, ◌∙◌, ap, sym, [], ◌∷◌, ◌++◌, append_assoc, arith}
use Rattle.std.proofs.lemmas.Grind.{common_steps}
use Rattle.std.proofs.lemmas.List.{length_push}
use Rattle.std.specs.Vec.Iter.{into_iter_items}
use Rattle.gx_plan.proofs.Dealt.{bucket_pieces-some, bucket_pieces-none}
use Rattle.gx_plan.proofs.insertion.insert_pieces.Goals as goal

pub loop-rows-preserved-in-Continue-branch-2 : goal.loop-rows-preserved-in-Continue-branch-2
loop-rows-preserved-in-Continue-branch-2 c =
    let some : c.in-Some.rows ≢ [] = grind (arith, common_steps) in (
      tt,
      tt,
      c.loop-rows.invariant.2 ∙ ap (λ l. c.loop-rows.yielded ++ l) c.in-Some.ensures.steps.0 ∙ sym (append_assoc c.loop-rows.yielded (c.in-Some.rows ∷ []) (into_iter_items c.next.new.self)),
      omega (arith, c.loop-rows.invariant.3, length_push c.loop-rows.yielded c.in-Some.rows),
      bucket_pieces-some c.args.table c.loop-rows.number c.loop-rows.yielded c.in-Some.rows c.loop-rows.pieces.items c.push.new.self.items c.loop-rows.invariant.4 c.loop-rows.invariant.3 some (c.in_ok-push.ensures.items ∙ ap (λ p. c.loop-rows.pieces.items ++ p ∷ []) c.in_ok-piece.ensures),
    )

pub loop-rows-preserved : goal.loop-rows-preserved
loop-rows-preserved c =
    let none : c.in-Some.rows ≡ [] = grind (arith, common_steps) in (
      tt,
      tt,
      c.loop-rows.invariant.2 ∙ ap (λ l. c.loop-rows.yielded ++ l) c.in-Some.ensures.steps.0 ∙ sym (append_assoc c.loop-rows.yielded (c.in-Some.rows ∷ []) (into_iter_items c.next.new.self)),
      omega (arith, c.loop-rows.invariant.3, length_push c.loop-rows.yielded c.in-Some.rows),
      bucket_pieces-none c.args.table c.loop-rows.yielded c.in-Some.rows c.loop-rows.pieces.items c.loop-rows.invariant.4 none,
    )
