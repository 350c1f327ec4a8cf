use Rattle.gx_coord.specs.Books.{coord_of, session_of}
use Rattle.gx_coord.proofs.Outcomes.{refused-coord, refused-marks}
use Rattle.gx_coord.proofs.ends.tell_refusal.Goals as goal

pub returns : goal.returns
returns c =
    let k = coord_of c.args.coord.now in
    let id = c.owner-id.result in
    let session = session_of c.find_session-session.result in
    record {
      framed = c.close.ensures.framed;
      coord = refused-coord k (coord_of c.close.new.coord) c.args.gxid c.args.reason id session c.after_refused.result c.owner-id.ensures c.find_session-session.ensures c.after_refused.ensures c.close.ensures.coord;
      marks = refused-marks k c.args.gxid c.args.reason id session c.args.marks.now.items _ _ c.owner-id.ensures c.find_session-session.ensures c.in_ok-push.ensures.items c.in_ok-push_answer.ensures;
    }
