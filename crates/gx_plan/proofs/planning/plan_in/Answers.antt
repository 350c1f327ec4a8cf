use Rattle.std.proofs.Common.{◌≡◌, ◌∙◌, Ok, ap, sym, subst, length, arith}
use Rattle.std.proofs.lemmas.Grind.{common_steps}
use Rattle.gx_meaning.specs.Expressions.{and_then}
use Rattle.gx_meaning.specs.Constants.{rows_of}
use Rattle.gx_meaning.specs.Plan.{bucket_pieces, insert_pieces, plan_of}
use Rattle.gx_plan.proofs.Dealt.{bucket_pieces-dealt, length-dealt}
use Rattle.gx_plan.proofs.planning.plan_in.Goals as goal

pub insert_pieces-requires-clause-few : goal.insert_pieces-requires-clause-few
insert_pieces-requires-clause-few c =
    let dealt = c.in_ok-buckets-in-Insert.ensures.rows in
    let count : length c.in_ok-buckets-in-Insert.buckets.items ≡ c.args.n = ap length dealt.2 ∙ length-dealt c.args.n c.args.schema.now.dist dealt.0 in
    grind (arith, common_steps, count, c.requires.few)

pub returns-in_ok-insert_pieces-in-Insert-clause-pieces : goal.returns-in_ok-insert_pieces-in-Insert-clause-pieces
returns-in_ok-insert_pieces-in-Insert-clause-pieces c =
    let dealt = c.in_ok-buckets-in-Insert.ensures.rows in
    let rows : rows_of c.args.gxid c.args.cid c.in-Insert.tuples ≡ Ok dealt.0 = subst (λ tuples. rows_of c.args.gxid c.args.cid tuples ≡ Ok dealt.0) c.as_slice.ensures dealt.1 in
    ap (plan_of c.args.n c.args.schema.now.dist c.args.gxid c.args.cid) c.in-Insert.is
    ∙ ap (λ found. and_then found (λ list. Ok (insert_pieces c.args.n c.args.schema.now.dist c.in-Insert.table list))) rows
    ∙ ap Ok (sym (bucket_pieces-dealt c.args.n c.args.schema.now.dist c.in-Insert.table dealt.0) ∙ sym (ap (bucket_pieces c.in-Insert.table 1) dealt.2) ∙ sym c.in_ok-insert_pieces-in-Insert.ensures)
