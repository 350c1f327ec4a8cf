use Rattle.std.proofs.Common.{rules, ◌∙◌, ap}
use Rattle.gx_script.specs.Session.{after_done}
use Rattle.gx_rules.specs.Coordinators.{Session}
use Rattle.gx_rules.specs.AtCoordinator.{unless_kept}
use Rattle.gx_coord.specs.Books.{coord_of}
use Rattle.gx_coord.proofs.Completed.{answers-from}
use Rattle.gx_coord.proofs.Turned.{framed-trans}
use Rattle.gx_coord.proofs.completing.answer_in_block.Goals as goal

pub returns : goal.returns
returns c =
    let old = c.args.coord.now in
    let k = coord_of old in
    let mid = c.drop_unless_kept.new.coord in
    let late = c.end_command.new.coord in
    record {
      framed = framed-trans old late c.set_state.new.coord (framed-trans old mid late c.drop_unless_kept.ensures.framed c.end_command.ensures.framed) c.set_state.ensures.framed;
      coord = answers-from k (coord_of mid) (coord_of late) (coord_of c.set_state.new.coord) (unless_kept (k.works c.args.gxid.0).level k.table c.args.gxid) c.args.gxid c.owner-id.result c.after_done.result c.drop_unless_kept.ensures.coord c.end_command.ensures.coord c.owner-id.ensures (c.after_done.ensures ∙ ap (λ (x : Session). after_done x.state) c.find_session-session.ensures) c.set_state.ensures.coord;
      marks = search rules;
    }
