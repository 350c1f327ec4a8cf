use Rattle.std.proofs.Common.{◌≡◌, ◌↔◌, ◌≤◌, ◌<◌, ◌+◌, ◌-◌, ◌∙◌, ℕ, IsTrue, List, Some, drop, length, slice_get, sym, subst, refl, arith}
use Rattle.std.proofs.lemmas.List.{take_rest}
use Rattle.std.proofs.lemmas.Option.{slice_get_read}
use Rattle.gx_lemmas.proofs.Options.{some-same}
use Rattle.gx_lemmas.proofs.Tests.{false-true}
use Rattle.gx_store.specs.declared.run.Step.{Step}
use Rattle.gx_legal.proofs.Hearing.{heard-since, none-from, since-heard}
use Rattle.gx_legal.proofs.Sessions.{no-longer}
use Rattle.gx_legal.specs.Words.{IsHeardFrom, IsHeardSince}
use Rattle.gx_legal.proofs.heard.has_heard_before.Goals as goal

pub returns-then-is_heard_from : goal.returns-then-is_heard_from
returns-then-is_heard_from c =
    let r = c.args.report in
    let ss = c.args.steps.now in
    let k = c.loop-number.number - 1 in
    let s = c.index-steps-number.result in
    let inside : k < length ss = omega (arith, c.loop-number-test.true, c.loop-number.auto.number) in
    let at : slice_get ss k ≡ Some s = slice_get_read ss (length ss) k s refl inside c.index-steps-number.is in
    let from-here : IsTrue c.is_heard_from.result ↔ IsHeardFrom r.gxid r.word r.from r.to (drop (k + 1) ss) s = subst (λ (later : List Step). IsTrue c.is_heard_from.result ↔ IsHeardFrom r.gxid r.word r.from r.to later s) (take_rest ss (k + 1)) c.is_heard_from.ensures in
    (λ t. heard-since r.gxid r.word r.from r.to ss k (s, at, from-here.0 c.if-is_heard_from.true), λ heard. refl)

pub loop-number-preserved : goal.loop-number-preserved
loop-number-preserved c =
    let r = c.args.report in
    let ss = c.args.steps.now in
    let k = c.loop-number.number - 1 in
    let s = c.index-steps-number.result in
    let inside : k < length ss = omega (arith, c.loop-number-test.true, c.loop-number.auto.number) in
    let at : slice_get ss k ≡ Some s = slice_get_read ss (length ss) k s refl inside c.index-steps-number.is in
    let next : c.loop-number.number ≡ k + 1 = omega (arith, c.loop-number-test.true) in
    let Q : Step → Type 0 = IsHeardFrom r.gxid r.word r.from r.to (drop (k + 1) ss) in
    let from-here : IsTrue c.is_heard_from.result ↔ IsHeardFrom r.gxid r.word r.from r.to (drop (k + 1) ss) s = subst (λ (later : List Step). IsTrue c.is_heard_from.result ↔ IsHeardFrom r.gxid r.word r.from r.to later s) (take_rest ss (k + 1)) c.is_heard_from.ensures in
    none-from (IsHeardSince r.gxid r.word r.from r.to ss) k (subst (λ (n : ℕ). (place : ℕ) → n ≤ place → IsHeardSince r.gxid r.word r.from r.to ss place → ⊥) next c.loop-number.invariant)
    (λ by. no-longer c.is_heard_from.result from-here c.if-is_heard_from.false (subst Q (some-same by.0 s (sym by.1 ∙ at)) by.2))

pub returns : goal.returns
returns c =
    let r = c.args.report in
    (λ t. absurd (false-true t), λ heard. let since = since-heard r.gxid r.word r.from r.to c.args.steps.now heard in absurd (c.loop-number.invariant since.0 (omega (arith, c.loop-number-test.false)) since.1))
