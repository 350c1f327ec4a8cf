use Rattle.std.proofs.Common.{◌∙◌, ap, arith, sym}
use Rattle.std.proofs.lemmas.Result.{IfOk-weaker}
use Rattle.gx_rules.specs.AtCoordinator.{goes_on}
use Rattle.gx_rules.specs.Coordinators.{Coord, CoordTurn}
use Rattle.gx_coord.specs.Books.{coord_of}
use Rattle.gx_coord.specs.Turns.{left_in}
use Rattle.gx_coord.proofs.Completed.{goes-done, ready-done, sound-counted, takes-some}
use Rattle.gx_coord.proofs.Turned.{on_turn-from}
use Rattle.gx_coord.proofs.messages.take_done.Goals as goal

pub note_done-requires-clause-there : goal.note_done-requires-clause-there
note_done-requires-clause-there c = takes-some ((coord_of c.args.coord.now).works c.args.gxid.0).command c.args.node c.args.done.cid c.args.part.now (sym c.is_taken.ensures ∙ c.if-is_taken.true)

pub note_done-requires-clause-counted : goal.note_done-requires-clause-counted
note_done-requires-clause-counted c = sound-counted _ _ _ (c.requires.sound.works c.args.gxid.0)

pub go_on-requires-clause-last : goal.go_on-requires-clause-last
go_on-requires-clause-last c over =
    ready-done c.args.script.now (coord_of c.args.coord.now) (coord_of c.note_done.new.coord) c.args.gxid c.args.node c.args.done.cid c.args.done.wrote c.args.done.count c.args.part.now c.requires.sound (sym c.is_taken.ensures ∙ c.if-is_taken.true) (omega arith) c.in_ok-note_done.ensures.coord

pub returns-in_ok-note_done-clause-turn : goal.returns-in_ok-note_done-clause-turn
returns-in_ok-note_done-clause-turn c =
    let k = coord_of c.args.coord.now in
    on_turn-from c.go_on.result _ _ _ _ _ _ _ c.in_ok-note_done.ensures.framed
    (ap (λ (x : Coord). goes_on x c.args.gxid (left_in (x.works c.args.gxid.0).command)) c.in_ok-note_done.ensures.coord
    ∙ goes-done k c.args.gxid c.args.node c.args.done.cid c.args.done.wrote c.args.done.count c.args.part.now (sym c.is_taken.ensures ∙ c.if-is_taken.true))
    c.go_on.ensures.turn

pub returns-in_ok-note_done-clause-outs : goal.returns-in_ok-note_done-clause-outs
returns-in_ok-note_done-clause-outs c =
    let k = coord_of c.args.coord.now in
    IfOk-weaker c.go_on.result _ _ (λ outs h. h ∙ ap (λ (t : CoordTurn). t.outs)
    (ap (λ (x : Coord). goes_on x c.args.gxid (left_in (x.works c.args.gxid.0).command)) c.in_ok-note_done.ensures.coord
    ∙ goes-done k c.args.gxid c.args.node c.args.done.cid c.args.done.wrote c.args.done.count c.args.part.now (sym c.is_taken.ensures ∙ c.if-is_taken.true)))
    c.go_on.ensures.outs
