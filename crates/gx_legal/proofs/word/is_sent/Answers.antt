use Rattle.std.proofs.Common.{◌≡◌, ◌≤◌, ◌<◌, ◌+◌, ◌-◌, ◌∙◌, ℕ, Some, length, slice_get, sym, subst, refl, arith}
use Rattle.std.proofs.lemmas.Option.{slice_get_read}
use Rattle.gx_lemmas.proofs.Options.{some-same}
use Rattle.gx_lemmas.proofs.Tests.{false-true}
use Rattle.gx_store.specs.declared.run.Step.{Step}
use Rattle.gx_legal.proofs.Hearing.{none-from}
use Rattle.gx_legal.proofs.Sessions.{no-longer}
use Rattle.gx_legal.specs.Words.{SendsIn, SendsInStep}
use Rattle.gx_legal.proofs.word.is_sent.Goals as goal

pub returns-then-is_sent_in : goal.returns-then-is_sent_in
returns-then-is_sent_in c =
    let ss = c.args.steps.now in
    let k = c.loop-place.place - 1 in
    let s = c.index-steps-place.result in
    let at : slice_get ss k ≡ Some s = slice_get_read ss (length ss) k s refl (omega (arith, c.loop-place-test.true, c.loop-place.auto.place)) c.index-steps-place.is in
    (λ t. (k, (s, at, c.is_sent_in.ensures.0 c.if-is_sent_in.true)), λ by. refl)

pub loop-place-preserved : goal.loop-place-preserved
loop-place-preserved c =
    let r = c.args.report in
    let ss = c.args.steps.now in
    let k = c.loop-place.place - 1 in
    let s = c.index-steps-place.result in
    let inside : k < length ss = omega (arith, c.loop-place-test.true, c.loop-place.auto.place) in
    let at : slice_get ss k ≡ Some s = slice_get_read ss (length ss) k s refl inside c.index-steps-place.is in
    let next : c.loop-place.place ≡ k + 1 = omega (arith, c.loop-place-test.true) in
    let P : ℕ → Type 0 = SendsInStep r.gxid r.word r.from r.to c.args.number ss in
    let Q : Step → Type 0 = SendsIn r.gxid r.word r.from r.to c.args.number in
    none-from P k (subst (λ (n : ℕ). (place : ℕ) → n ≤ place → P place → ⊥) next c.loop-place.invariant)
    (λ by. no-longer c.is_sent_in.result c.is_sent_in.ensures c.if-is_sent_in.false (subst Q (some-same by.0 s (sym by.1 ∙ at)) by.2))

pub returns : goal.returns
returns c = (λ t. absurd (false-true t), λ by. absurd (c.loop-place.invariant by.0 (omega (arith, c.loop-place-test.false)) by.1))
