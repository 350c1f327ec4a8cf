use Rattle.std.proofs.Common.{sym, subst, take, get_or, ◌∷◌, []}
use Rattle.std.proofs.lemmas.List.{take_more}
use Rattle.gx_detect.specs.Reducing.{AreTakenOut}
use Rattle.gx_detect.proofs.Marks.{contains_at}
use Rattle.gx_detect.proofs.Removing.{more_out}
use Rattle.gx_detect.proofs.settle.take_out_all.Goals as goal

pub take_out-requires-clause-index : goal.take_out-requires-clause-index
take_out-requires-clause-index c =
    c.requires.indexes (get_or c.args.indexes.now c.loop-index.index-index 0) (contains_at c.args.indexes.now c.loop-index.index-index 0 c.loop-index-test.true)

pub loop-index-preserved : goal.loop-index-preserved
loop-index-preserved c =
    let before = take c.loop-index.index-index c.args.indexes.now in
    let index = get_or c.args.indexes.now c.loop-index.index-index 0 in
    record {
      counted = c.in_ok-take_out.ensures.counted;
      out = subst (λ l. AreTakenOut c.args.edges.now l c.args.rest.now c.take_out.new.self) (sym (take_more c.args.indexes.now c.loop-index.index-index 0 c.loop-index-test.true))
          (more_out c.args.edges.now before (index ∷ []) c.args.rest.now c.loop-index.rest c.take_out.new.self c.loop-index.invariant.out c.in_ok-take_out.ensures.out);
    }
