use Rattle.std.proofs.Common.{ℕ, ◌^◌, ◌<◌, sym, ◌∙◌, ap, arith}
use Rattle.std.specs.Prelude.{All}
use Rattle.std.proofs.lemmas.Option.{same_Some}
use Rattle.gx_trace.specs.Shown.{all_places}
use Rattle.gx_read_trace.specs.Lines.{seen_lines}
use Rattle.gx_read_trace.specs.Machine.{Mid, ended, run, start}
use Rattle.gx_read_trace.proofs.Cutting.{same-lines}
use Rattle.gx_read_trace.proofs.Feedless.{lines-plain}
use Rattle.gx_read_trace.proofs.Places.{few-places}
use Rattle.gx_read_trace.proofs.Texts.{lines-are-text}
use Rattle.gx_read_trace.proofs.Written.{written}
use Rattle.gx_read_trace.proofs.laws.texts_show_one_thing.Goals as goal

pub returns : goal.returns
returns c = λ script seen other few names is others same.
    let small : All (λ (p : ℕ × ℕ). p.1 < 2 ^ 32) (all_places script.lines 0 script.sessions) = few-places script.lines 0 script.sessions (2 ^ 32) (omega (arith, few)) in
    let lines = same-lines (seen_lines script seen) (seen_lines script other) (lines-plain script seen names.sessions names.tables small is) (lines-plain script other names.sessions names.tables small others)
    (lines-are-text script seen is ∙ same ∙ sym (lines-are-text script other others)) in
    let (a, to_a, tells_a) = written script seen is small in
    let (b, to_b, tells_b) = written script other others small in
    same_Some seen other (sym tells_a ∙ ap (λ (m : Mid). ended m.so_far m.next) (same_Some a b (sym to_a ∙ ap (λ ls. run script ls (start script)) lines ∙ to_b)) ∙ tells_b)
