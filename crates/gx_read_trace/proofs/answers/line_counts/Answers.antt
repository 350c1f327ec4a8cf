use Rattle.std.proofs.Common.{◌≡◌, ◌<◌, ◌∷◌, [], ◌++◌, List, length, get_or, take, sym, ◌∙◌, ap, subst, arith, length-take}
use Rattle.std.proofs.lemmas.List.{take_more}
use Rattle.gx_script.specs.declared.Line.{Line}
use Rattle.gx_read_trace.specs.GoingOn.{AreCounts}
use Rattle.gx_read_trace.proofs.Answering.{count_of, counts_line}
use Rattle.gx_read_trace.proofs.answers.line_counts.Goals as goal

pub count_line-requires : goal.count_line-requires
count_line-requires c =
    let at = c.loop-line.line-index in
    let lines = c.args.script.now.lines in
    let low : at < length lines = subst (λ (ls : List Line). at < length ls) c.as_slice-line-items.ensures c.loop-line-test.true in
    let few = c.requires in
    let most = count_of (length c.args.script.now.sessions) (take at lines) c.loop-line.counts.items c.line-item.result.session.0 c.loop-line.invariant in
    omega (arith, most, few, low, length-take at lines)

pub loop-line-preserved : goal.loop-line-preserved
loop-line-preserved c =
    let at = c.loop-line.line-index in
    let lines = c.args.script.now.lines in
    let x = c.line-item.result in
    let n = length c.args.script.now.sessions in
    let low : at < length lines = subst (λ (ls : List Line). at < length ls) c.as_slice-line-items.ensures c.loop-line-test.true in
    let is : x ≡ get_or lines at x = subst (λ (ls : List Line). x ≡ get_or ls at x) c.as_slice-line-items.ensures c.line-item.is in
    subst (λ (ls : List Line). AreCounts n ls c.count_line.new.counts.items) (sym (take_more lines at x low ∙ ap (λ y. take at lines ++ y ∷ []) (sym is)))
    (counts_line n (take at lines) x c.loop-line.counts.items c.count_line.new.counts.items c.loop-line.invariant c.count_line.ensures.all c.count_line.ensures.here c.count_line.ensures.elsewhere)
