use Rattle.std.proofs.Common.{◌+◌, ◌≡◌, ◌∙◌, [], ◌∷◌, ◌++◌, Ok, Err, ap, refl, subst, length, arith}
use Rattle.std.proofs.lemmas.Grind.{common_steps}
use Rattle.gx_eval.specs.Faults.{eval_fault}
use Rattle.gx_meaning.specs.Constants.{tuple_row, keyed, values_of}
use Rattle.gx_plan.proofs.Dealt.{dealt-none, length-dealt}
use Rattle.gx_plan.proofs.Each.{each_from-fault, each_from-push, fault_first}
use Rattle.gx_plan.proofs.insertion.dealt_rows.Goals as goal

pub loop-tuple-init : goal.loop-tuple-init
loop-tuple-init c = ([], refl, c.in_ok-buckets.ensures ∙ dealt-none c.args.n c.args.schema.now.dist, refl)

pub deal-requires-clause-buckets : goal.deal-requires-clause-buckets
deal-requires-clause-buckets c =
    let count : length c.loop-tuple.buckets.items ≡ c.args.n = ap length c.loop-tuple.invariant.2 ∙ length-dealt c.args.n c.args.schema.now.dist c.loop-tuple.invariant.0 in
    grind (arith, common_steps, count)

pub returns-in_err-deal-clause-fault : goal.returns-in_err-deal-clause-fault
returns-in_err-deal-clause-fault c fault h =
    let was : c.deal.result ≡ Err (eval_fault fault) = grind (arith, common_steps) in
    let values : values_of c.tuple-item.result ≡ Err fault = subst (λ t. values_of t ≡ Err fault) c.as_slice.ensures (c.deal.ensures.fault fault was) in
    each_from-fault (tuple_row c.args.gxid c.args.cid) 1 c.args.tuples.now c.loop-tuple.tuple-index (c.loop-tuple.ordinal + 1) c.tuple-item.result c.loop-tuple.invariant.0 fault c.loop-tuple.invariant.1 c.loop-tuple-test.true (omega (arith, c.loop-tuple.invariant.3))
    (subst (λ t. tuple_row c.args.gxid c.args.cid (c.loop-tuple.ordinal + 1) t ≡ Err fault) c.tuple-item.is (fault_first (values_of c.tuple-item.result) _ fault values))

pub loop-tuple-preserved : goal.loop-tuple-preserved
loop-tuple-preserved c =
    let dealt = c.in_ok-deal.ensures.row in
    let row = keyed c.args.gxid c.args.cid (c.loop-tuple.ordinal + 1) dealt.0 in
    let values : values_of c.tuple-item.result ≡ Ok dealt.0 = subst (λ t. values_of t ≡ Ok dealt.0) c.as_slice.ensures dealt.1 in (
      c.loop-tuple.invariant.0 ++ row ∷ [],
      each_from-push (tuple_row c.args.gxid c.args.cid) 1 c.args.tuples.now c.loop-tuple.tuple-index (c.loop-tuple.ordinal + 1) c.tuple-item.result c.loop-tuple.invariant.0 (c.loop-tuple.invariant.0 ++ row ∷ []) row c.loop-tuple.invariant.1 c.loop-tuple-test.true (omega (arith, c.loop-tuple.invariant.3)) c.tuple-item.is (cc (values)) refl,
      dealt.2 c.loop-tuple.invariant.0 c.loop-tuple.invariant.2,
      ap (λ n. n + 1) c.loop-tuple.invariant.3,
    )
