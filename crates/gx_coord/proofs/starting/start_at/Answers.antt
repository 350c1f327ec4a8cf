use Rattle.std.proofs.Common.{◌<◌, ◌^◌, ◌∙◌, ap, subst, sym}
use Rattle.gx_script.specs.declared.Script.{Script}
use Rattle.gx_tree.specs.declared.stmt.Stmt.{Stmt}
use Rattle.gx_script.specs.Session.{line_step}
use Rattle.gx_rules.specs.AtCoordinator.{starts_line}
use Rattle.gx_rules.specs.Coordinators.{Coord}
use Rattle.gx_coord.specs.Books.{coord_of, stmt_at}
use Rattle.gx_coord.specs.Lines.{MayAsk}
use Rattle.gx_coord.proofs.MayAsk.{may-ask}
use Rattle.gx_coord.proofs.Started.{outs-from, starts-from, stmt-there}
use Rattle.gx_coord.proofs.Turned.{on_turn-from, script-same}
use Rattle.gx_coord.proofs.starting.start_at.Goals as goal

pub ask-requires-clause-may : goal.ask-requires-clause-may
ask-requires-clause-may c =
    let old = c.args.coord.now in
    let mid = c.start_line-asked.new.coord in
    let k = coord_of old in
    let same = script-same old mid c.start_line-asked.ensures.framed ∙ c.requires.same in
    subst (λ (x : Coord). MayAsk x c.args.id (stmt_at mid.script.value.lines c.args.place) c.start_line-asked.result) (sym c.start_line-asked.ensures.coord)
    (subst (λ (line : Stmt). MayAsk (starts_line k c.args.id c.start_line-asked.result) c.args.id line c.start_line-asked.result) (sym (ap (λ (x : Script). stmt_at x.lines c.args.place) same ∙ stmt-there c.args.script.now c.args.place c.args.line.now c.requires.there))
    (may-ask c.args.script.now k c.requires.sound c.args.id c.requires.idle (subst (λ n. n < 2 ^ 32) c.requires.number c.start_line-asked.ensures.small) c.args.line.now.stmt c.start_line-asked.result (sym c.start_line-asked.ensures.step)))

pub returns-clause-turn : goal.returns-clause-turn
returns-clause-turn c =
    let old = c.args.coord.now in
    let mid = c.start_line-asked.new.coord in
    let k = coord_of old in
    let same = script-same old mid c.start_line-asked.ensures.framed ∙ c.requires.same in
    on_turn-from c.ask.result _ _ _ _ _ _ _ c.start_line-asked.ensures.framed
    (starts-from mid.script.value c.args.script.now (coord_of mid) k c.args.id c.args.place c.start_line-asked.result same c.start_line-asked.ensures.coord
    (c.start_line-asked.ensures.step ∙ ap (λ (line : Stmt). line_step (k.sessions c.args.id.0).state.block line) (sym (stmt-there c.args.script.now c.args.place c.args.line.now c.requires.there))))
    c.ask.ensures.turn

pub returns-clause-outs : goal.returns-clause-outs
returns-clause-outs c =
    let old = c.args.coord.now in
    let mid = c.start_line-asked.new.coord in
    let k = coord_of old in
    let same = script-same old mid c.start_line-asked.ensures.framed ∙ c.requires.same in
    outs-from c.ask.result _ _
    (starts-from mid.script.value c.args.script.now (coord_of mid) k c.args.id c.args.place c.start_line-asked.result same c.start_line-asked.ensures.coord
    (c.start_line-asked.ensures.step ∙ ap (λ (line : Stmt). line_step (k.sessions c.args.id.0).state.block line) (sym (stmt-there c.args.script.now c.args.place c.args.line.now c.requires.there))))
    c.ask.ensures.outs
