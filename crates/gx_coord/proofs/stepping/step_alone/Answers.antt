use Rattle.std.proofs.Common.{◌≤◌, ◌<◌, ◌+◌, ◌^◌, ◌∙◌, ℕ, All, ap, length, subst, sym}
use Rattle.std.specs.Global.{Vec}
use Rattle.gx_script.specs.declared.Script.{Script}
use Rattle.gx_rules.specs.Coordinators.{CoordTurn}
use Rattle.gx_coord.specs.Books.{coord_of}
use Rattle.gx_coord.proofs.Cancelled.{stayed-trans}
use Rattle.gx_coord.proofs.Gone.{links-sent}
use Rattle.gx_coord.proofs.Quiet.{own-clock, own-small, own-took}
use Rattle.gx_coord.proofs.Stepped.{framed-stayed, step-is, took-is, turned-sound}
use Rattle.gx_coord.proofs.Turned.{script-same}
use Rattle.gx_coord.proofs.stepping.step_alone.Goals as goal

pub send_and_cancel-requires-clause-some : goal.send_and_cancel-requires-clause-some
send_and_cancel-requires-clause-some g c = subst (λ (s : Script). 1 ≤ s.segments) (sym (script-same _ _ c.in_ok-turned.ensures.turn.framed)) c.requires.language.some_segments

pub send_and_cancel-requires-clause-sound : goal.send_and_cancel-requires-clause-sound
send_and_cancel-requires-clause-sound g c =
    turned-sound c.args.coord.now c.take_alone.new.coord c.args.script.now c.args.event c.in_ok-turned.turned.fails _ _ (sym c.requires.same) c.in_ok-turned.ensures.turn c.requires.language.some_segments c.requires.sound (own-small c.args.event c.requires.own) c.requires.admitted

pub send_and_cancel-requires-clause-sent : goal.send_and_cancel-requires-clause-sent
send_and_cancel-requires-clause-sent g c =
    let turn = c.in_ok-turned.ensures.turn in
    ap (λ v. length v.items) turn.framed.sent ∙ c.requires.links ∙ ap (λ (s : Script). s.segments + 1) (sym (script-same _ _ turn.framed))

pub send_and_cancel-requires-clause-numbers : goal.send_and_cancel-requires-clause-numbers
send_and_cancel-requires-clause-numbers g c = subst (λ (v : Vec ℕ). All (λ n. n < 2 ^ 62) v.items) (sym c.in_ok-turned.ensures.turn.framed.sent) c.requires.numbers

pub send_and_cancel-requires-clause-links : goal.send_and_cancel-requires-clause-links
send_and_cancel-requires-clause-links g c =
    let old = c.args.coord.now in
    let turn = c.in_ok-turned.ensures.turn in
    links-sent c.args.script.now old.script.value (coord_of old) c.args.event c.in_ok-turned.turned.fails _ _ (sym c.requires.same) c.requires.sound c.requires.language.some_segments c.in_ok-turned.ensures.outs
    (ap (λ v. length v.items) turn.framed.sent ∙ c.requires.links)

pub returns-clause-gone : goal.returns-clause-gone
returns-clause-gone g c =
    let old = c.args.coord.now in
    let fails = c.in_ok-turned.turned.fails in
    let e = c.in_ok-turned.ensures in
    let same = sym c.requires.same in
    let is =
    step-is old c.take_alone.new.coord c.send_and_cancel.new.coord c.args.script.now c.args.event fails (old.clock + 1) _ _ _ _ _ same c.requires.blank (own-clock old.clock c.args.event c.requires.own) e.turn e.outs e.victims c.in_ok-send_and_cancel.ensures.turn in
    record {
      fails = fails;
      small = own-small c.args.event c.requires.own;
      coord = ap (λ (t : CoordTurn). t.coord) is;
      stayed = stayed-trans _ _ _ (framed-stayed _ _ e.turn.framed) c.in_ok-send_and_cancel.ensures.stayed;
      told = ap (λ (t : CoordTurn). t.marks) is;
      took = took-is old c.args.script.now c.args.event fails same (own-took c.args.script.now (coord_of old) c.args.event fails _ c.requires.own e.unfailing);
    }
