use Rattle.std.proofs.Common.{◌≡◌, ◌<◌, ℕ, List, Ok, Err, length, get_or, ◌∙◌, subst, arith}
use Rattle.std.proofs.lemmas.List.{get_or_read}
use Rattle.std.proofs.lemmas.Result.{err_from_is_err_and}
use Rattle.gx_store.specs.Language.{lines_in}
use Rattle.gx_read_trace.specs.GoingOn.{AddsAnswers}
use Rattle.gx_read_trace.specs.declared.fault.TraceFault.{TraceFault}
use Rattle.gx_read_trace.proofs.Answering.{named_at, sessions_fail, sessions_more}
use Rattle.gx_read_trace.proofs.Onward.{next_of}
use Rattle.gx_read_trace.proofs.answers.read_answers.Goals as goal

pub returns-in_err-add_answers : goal.returns-in_err-add_answers
returns-in_err-add_answers c =
    let script = c.args.script.now in
    let at = c.loop-place.place in
    let name : List ℕ = c.name-item.result in
    let low : at < length script.sessions = subst (λ (ns : List (List ℕ)). at < length ns) c.as_slice-name-items.ensures c.loop-place-test.true in
    let item : name ≡ get_or script.sessions at name = subst (λ (ns : List (List ℕ)). name ≡ get_or ns at name) c.as_slice-name-items.ensures c.name-item.is in
    let counts = c.in_ok-counts.ensures in
    let count : c.index.result.now ≡ lines_in at script.lines = get_or_read c.in_ok-counts.counts.items at c.index.result.now (omega (arith, low, counts.all)) c.index.ensures 0 ∙ counts.each at low in
    let f : TraceFault = c.in_err-add_answers.field-0.0 in
    let is : AddsAnswers (record { 0 = at }) name c.index.result.now c.loop-place.lines c.loop-place.answers c.add_answers.new.lines c.add_answers.new.answers (Err f)
    = subst (λ (n : List ℕ). AddsAnswers (record { 0 = at }) n c.index.result.now c.loop-place.lines c.loop-place.answers c.add_answers.new.lines c.add_answers.new.answers (Err f)) c.as_slice.ensures c.in_err-add_answers.ensures in
    let p = err_from_is_err_and c.from_residual-in_err-add_answers.result c.from_residual-in_err-add_answers.ensures.1 in
    rw (p.1, p.2) (sessions_fail script c.args.lines.now at c.loop-place.lines c.add_answers.new.lines c.loop-place.answers c.add_answers.new.answers name c.index.result.now f
    (next_of script.sessions at name low item) (named_at script.sessions at name low item) count c.loop-place.invariant is)

pub loop-place-preserved : goal.loop-place-preserved
loop-place-preserved c =
    let script = c.args.script.now in
    let at = c.loop-place.place in
    let name : List ℕ = c.name-item.result in
    let low : at < length script.sessions = subst (λ (ns : List (List ℕ)). at < length ns) c.as_slice-name-items.ensures c.loop-place-test.true in
    let item : name ≡ get_or script.sessions at name = subst (λ (ns : List (List ℕ)). name ≡ get_or ns at name) c.as_slice-name-items.ensures c.name-item.is in
    let counts = c.in_ok-counts.ensures in
    let count : c.index.result.now ≡ lines_in at script.lines = get_or_read c.in_ok-counts.counts.items at c.index.result.now (omega (arith, low, counts.all)) c.index.ensures 0 ∙ counts.each at low in
    let is : AddsAnswers (record { 0 = at }) name c.index.result.now c.loop-place.lines c.loop-place.answers c.add_answers.new.lines c.add_answers.new.answers (Ok tt)
    = subst (λ (n : List ℕ). AddsAnswers (record { 0 = at }) n c.index.result.now c.loop-place.lines c.loop-place.answers c.add_answers.new.lines c.add_answers.new.answers (Ok tt)) c.as_slice.ensures c.in_ok-add_answers.ensures in
    sessions_more script c.args.lines.now at c.loop-place.lines c.add_answers.new.lines c.loop-place.answers c.add_answers.new.answers name c.index.result.now tt
    (next_of script.sessions at name low item) (named_at script.sessions at name low item) count c.loop-place.invariant is
