use Rattle.std.proofs.Common.{◌∙◌, ap, refl, sym}
use Rattle.gx_coord.specs.Books.{coord_of}
use Rattle.gx_coord.proofs.Started.{line-number, next-there, no-line, none-outs, none-starts, outs-from, starts-next}
use Rattle.gx_script.specs.declared.Script.{Script}
use Rattle.gx_rules.specs.AtCoordinator.{next_line}
use Rattle.gx_coord.proofs.Turned.{framed-refl, on_turn-from}
use Rattle.gx_coord.proofs.starting.start.Goals as goal

pub start_at-requires-clause-number : goal.start_at-requires-clause-number
start_at-requires-clause-number c =
    let n = ((coord_of c.args.coord.now).sessions c.args.id.0).lines in
    line-number c.args.script.now.lines c.as_slice.result.now c.args.id.0 n c.in-Some.place c.in-Some-get.line.now c.as_slice.ensures
    (next-there c.args.script.now c.requires.language _ c.requires.places c.args.id.0 n c.in-Some.place _ refl (sym c.in-Some.ensures.place))
    c.in-Some-get.ensures.lookup.1

pub returns-in-Some-get-clause-turn : goal.returns-in-Some-get-clause-turn
returns-in-Some-get-clause-turn c =
    on_turn-from c.start_at.result _ _ _ _ _ _ _ (framed-refl c.args.coord.now)
    (starts-next c.args.coord.now.script.value c.args.script.now (coord_of c.args.coord.now) c.args.id c.in-Some.place c.requires.same c.in-Some.ensures.line)
    c.start_at.ensures.turn

pub returns-in-Some-get-clause-outs : goal.returns-in-Some-get-clause-outs
returns-in-Some-get-clause-outs c =
    outs-from c.start_at.result _ _
    (starts-next c.args.coord.now.script.value c.args.script.now (coord_of c.args.coord.now) c.args.id c.in-Some.place c.requires.same c.in-Some.ensures.line)
    c.start_at.ensures.outs

pub returns-in-None-get-clause-turn : goal.returns-in-None-get-clause-turn
returns-in-None-get-clause-turn c =
    let n = ((coord_of c.args.coord.now).sessions c.args.id.0).lines in
    absurd (no-line c.args.script.now.lines c.as_slice.result.now c.args.id.0 n c.in-Some.place c.as_slice.ensures
    (next-there c.args.script.now c.requires.language _ c.requires.places c.args.id.0 n c.in-Some.place _ refl (sym c.in-Some.ensures.place))
    c.in-None-get.ensures.lookup.3)

pub returns-in-None-get-clause-outs : goal.returns-in-None-get-clause-outs
returns-in-None-get-clause-outs c =
    let n = ((coord_of c.args.coord.now).sessions c.args.id.0).lines in
    absurd (no-line c.args.script.now.lines c.as_slice.result.now c.args.id.0 n c.in-Some.place c.as_slice.ensures
    (next-there c.args.script.now c.requires.language _ c.requires.places c.args.id.0 n c.in-Some.place _ refl (sym c.in-Some.ensures.place))
    c.in-None-get.ensures.lookup.3)

pub returns-in-None-clause-turn : goal.returns-in-None-clause-turn
returns-in-None-clause-turn c =
    none-starts c.args.coord.now c.args.script.now c.args.id c.args.marks.now.items
    (sym (ap (λ (x : Script). next_line x (coord_of c.args.coord.now) c.args.id) c.requires.same) ∙ c.in-None.ensures.line)

pub returns-in-None-clause-outs : goal.returns-in-None-clause-outs
returns-in-None-clause-outs c =
    c.new-in-None.ensures
    ∙ none-outs c.args.coord.now c.args.script.now c.args.id
    (sym (ap (λ (x : Script). next_line x (coord_of c.args.coord.now) c.args.id) c.requires.same) ∙ c.in-None.ensures.line)
