use Rattle.std.proofs.Common.{ℕ, ◌==◌, ap, sym, ◌∙◌}
use Rattle.gx_sql.specs.Held.{named, schemas}
use Rattle.gx_explain.proofs.Stopped.{in-head, in-line}
use Rattle.gx_explain.proofs.places.read_place.Goals as goal

pub returns-then-is_empty : goal.returns-then-is_empty
returns-then-is_empty c =
    let said = c.args.progress.now in
    let read = c.read_head_line-read in
    let none = ap (λ (n : ℕ). n == 0) (sym said.lines.ok.0) ∙ sym c.is_empty.ensures ∙ c.if-is_empty.true in
    in-head said.groups.items (named said.members.entries) (schemas said.tables.entries) c.args.fault c.args.tokens.now
    c.in-Some.segments said.segments said.lines.items c.limits.result read.result c.place_of.result
    c.in-Some.is none c.limits.ensures read.ensures.verdict read.ensures.place c.place_of.ensures

pub returns-else-is_empty : goal.returns-else-is_empty
returns-else-is_empty c =
    let said = c.args.progress.now in
    let read = c.read_session_line-read in
    let some = ap (λ (n : ℕ). n == 0) (sym said.lines.ok.0) ∙ sym c.is_empty.ensures ∙ c.if-is_empty.false in
    let limits = c.limits-else-is_empty in
    let place = c.place_of-else-is_empty in
    in-line said.groups.items (named said.members.entries) (schemas said.tables.entries) c.args.fault c.args.tokens.now
    c.in-Some.segments said.segments said.lines.items limits.result read.result place.result
    c.in-Some.is some limits.ensures read.ensures.verdict read.ensures.place place.ensures
