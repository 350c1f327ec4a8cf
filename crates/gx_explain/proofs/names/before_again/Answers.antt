use Rattle.gx_explain.proofs.Repeats.{repeated-next}
use Rattle.std.proofs.Common.{◌∙◌, ap, sym}
use Rattle.gx_explain.specs.Parts.{is_repeated}
use Rattle.gx_explain.proofs.names.before_again.Goals as goal

pub loop-place-preserved : goal.loop-place-preserved
loop-place-preserved c =
    let names = c.loop-place.names.items in
    let new = sym (ap (λ ns. is_repeated ns c.loop-place.opened c.index-tokens-place.result) c.as_slice.ensures.value) ∙ (sym c.is_repeated.ensures ∙ c.if-is_repeated.false) in
    repeated-next c.args.assigned names c.add_name.new.names.items c.loop-place.opened c.opens-opened.result c.loop-place.place _ c.args.tokens.now c.index-tokens-place.result
    c.loop-place-test.true c.index-tokens-place.is new c.in_ok-add_name.ensures c.opens-opened.ensures c.loop-place.invariant
