use Rattle.std.proofs.Common.{◌+◌, ◌∙◌, List, false, ap, length, refl, subst}
use Rattle.gx_detect.specs.Rounds.{Rounds}
use Rattle.gx_script.specs.declared.Line.{Line}
use Rattle.gx_script.specs.declared.Script.{Script}
use Rattle.gx_rules.specs.Coordinators.{new_coordinator}
use Rattle.gx_coord.specs.Books.{fresh_session}
use Rattle.gx_coord.specs.Places.{AreIndexed}
use Rattle.gx_coord.specs.declared.coord.Coord.{Coord}
use Rattle.gx_coord.proofs.Made.{is-coord, length-replicate, new-holds, new-sound}
use Rattle.gx_coord.proofs.coord.Coord.new.Goals as goal

pub returns-clause-new : goal.returns-clause-new
returns-clause-new c =
    let script = c.args.script.value in
    let k : Coord = record { alloc = c.args.alloc; script = c.args.script; places = c.in_ok-places.places; dtx = c.in_ok-dtx.dtx; works = c.new-4.result; spare = c.new-5.result; sessions = c.in_ok-sessions.sessions; locks = c.in_ok-locks.locks; detector = c.in_ok-detector.detector; sent = c.in_ok-sent.sent; clock = 0; spent = false } in
    let lines = c.as_slice.ensures ∙ ap (λ (s : Script). s.lines) c.deref.ensures in
    let count = c.len.ensures ∙ ap (λ (s : Script). length s.sessions) c.deref-2.ensures in
    is-coord k new_coordinator
    (new-holds k c.len-2.result (c.deref-4.result.now.segments + 1) c.deref-5.result.now.segments c.in_ok-dtx.ensures c.new-4.ensures.items c.in_ok-sessions.ensures c.in_ok-locks.ensures c.in_ok-detector.ensures c.in_ok-sent.ensures refl)
    (ap length c.in_ok-sessions.ensures ∙ length-replicate c.len-2.result fresh_session ∙ c.len-2.ensures ∙ ap (λ (s : Script). length s.sessions) c.deref-3.ensures)
    c.requires
    (subst (λ n. AreIndexed script.lines n c.in_ok-places.places.items) count (subst (λ (ls : List Line). AreIndexed ls c.len.result c.in_ok-places.places.items) lines c.in_ok-places.ensures))
    (ap length c.in_ok-sent.ensures ∙ length-replicate (c.deref-4.result.now.segments + 1) 0 ∙ ap (λ (s : Script). s.segments + 1) c.deref-4.ensures)
    (ap (λ (d : Rounds). d.segments) c.in_ok-detector.ensures ∙ ap (λ (s : Script). s.segments) c.deref-5.ensures)
    (new-sound script c.requires.some_segments)
