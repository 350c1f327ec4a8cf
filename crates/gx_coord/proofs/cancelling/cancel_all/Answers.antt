use Rattle.std.proofs.Common.{◌≤◌, ◌+◌, ◌∙◌, [], ap, drop, refl, subst, sym}
use Rattle.gx_script.specs.declared.Script.{Script}
use Rattle.gx_rules.specs.AtCoordinator.{and_cancels_all}
use Rattle.gx_rules.specs.Coordinators.{CoordTurn}
use Rattle.gx_coord.specs.Books.{coord_of}
use Rattle.gx_coord.specs.Turns.{so_far, untold}
use Rattle.gx_coord.proofs.Cancelled.{cancels-step, stayed-refl, stayed-trans, victim-sound, without-outs}
use Rattle.gx_coord.proofs.cancelling.cancel_all.Goals as goal

pub loop-victim-init : goal.loop-victim-init
loop-victim-init c = record { stayed = stayed-refl c.args.coord.now; sound = c.requires.sound; room = c.requires.room; turns = refl }

pub turn_of_victim-requires-clause-some : goal.turn_of_victim-requires-clause-some
turn_of_victim-requires-clause-some c = subst (λ (s : Script). 1 ≤ s.segments) (sym (ap (λ a. a.value) c.loop-victim.invariant.stayed.script)) c.requires.some

pub turn_of_victim-requires-clause-links : goal.turn_of_victim-requires-clause-links
turn_of_victim-requires-clause-links c =
    c.loop-victim.invariant.stayed.links ∙ c.requires.links ∙ ap (λ (s : Script). s.segments + 1) (sym (ap (λ a. a.value) c.loop-victim.invariant.stayed.script))

pub loop-victim-preserved : goal.loop-victim-preserved
loop-victim-preserved c =
    let k = c.loop-victim.coord in
    let h = c.loop-victim.invariant in
    let e = c.in_ok-turn_of_victim.ensures in
    record {
      stayed = stayed-trans _ _ _ h.stayed e.stayed;
      sound = victim-sound k c.turn_of_victim.new.coord _ _ _ e.stayed e.turn (subst (λ (s : Script). 1 ≤ s.segments) (sym (ap (λ a. a.value) h.stayed.script)) c.requires.some) h.sound;
      room = e.room;
      turns = ap (λ (t : CoordTurn). untold (and_cancels_all (drop (c.loop-victim.victim-index + 1) c.args.victims.now) t)) e.turn
          ∙ without-outs (drop (c.loop-victim.victim-index + 1) c.args.victims.now) _ []
          ∙ ap untold (cancels-step (so_far (coord_of k) c.loop-victim.marks.items []) c.args.victims.now c.loop-victim.victim-index _ c.loop-victim-test.true)
          ∙ h.turns;
    }
