use Rattle.std.proofs.Common.{◌≡◌, ◌∙◌, IfOk, refl, rules, subst}
use Rattle.std.proofs.lemmas.Iterator.{YieldsList-from_map, YieldsList-from_slice, YieldsList-from_zip, items_from_collect}
use Rattle.std.proofs.lemmas.Iterator.Adapters.{YieldsList-from_vec}
use Rattle.gx_meaning.specs.Cells.{combine, combine_all}
use Rattle.gx_gather.proofs.combined.combined_cells.Goals as goal

pub returns : goal.returns
returns c =
    let pairs = YieldsList-from_zip (YieldsList-from_vec c.args.left (search rules) (search rules)) (YieldsList-from_vec c.args.right (search rules) (search rules)) in
    let all = YieldsList-from_zip (YieldsList-from_slice c.args.items.now (search rules)) pairs in
    let chain = YieldsList-from_map _ (λ p. combine p.0 p.1.0 p.1.1) all refl (λ x r q k. search rules) in
    let found = items_from_collect c.collect.result c.collect.ensures.ran chain in
    c.from_vec.ensures ∙ subst (λ r. IfOk r (λ w. w.items ≡ combine_all c.args.items.now c.args.left c.args.right)) c.in_ok-cells.was found
