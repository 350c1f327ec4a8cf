use Rattle.std.proofs.Common.{◌≤◌, ◌<◌, ◌+◌, ◌∙◌, All, List, ap, length, refl, subst, sym}
use Rattle.gx_msg.specs.declared.message.Out.{Out}
use Rattle.gx_script.specs.declared.Script.{Script}
use Rattle.gx_coord.proofs.Cancelled.{stayed-trans}
use Rattle.gx_coord.proofs.Stepped.{finish-is, sent-on}
use Rattle.gx_coord.proofs.stepping.send_and_cancel.Goals as goal

pub send-requires-clause-links : goal.send-requires-clause-links
send-requires-clause-links c = subst (λ (xs : List Out). All (λ out. out.node.0 < length c.args.coord.now.sent.items) xs) (sym c.into_vec.ensures) c.requires.links

pub cancel_all-requires-clause-sound : goal.cancel_all-requires-clause-sound
cancel_all-requires-clause-sound c = sent-on c.args.coord.now c.send.new.coord c.args.clock c.into_vec.result.items c.in_ok-send.ensures.stayed c.in_ok-send.ensures.coord c.requires.sound

pub cancel_all-requires-clause-some : goal.cancel_all-requires-clause-some
cancel_all-requires-clause-some c = subst (λ (s : Script). 1 ≤ s.segments) (sym (ap (λ a. a.value) c.in_ok-send.ensures.stayed.script)) c.requires.some

pub cancel_all-requires-clause-links : goal.cancel_all-requires-clause-links
cancel_all-requires-clause-links c = c.in_ok-send.ensures.stayed.links ∙ c.requires.sent ∙ ap (λ (s : Script). s.segments + 1) (sym (ap (λ a. a.value) c.in_ok-send.ensures.stayed.script))

pub returns-clause-stayed : goal.returns-clause-stayed
returns-clause-stayed c = stayed-trans _ _ _ c.in_ok-send.ensures.stayed c.in_ok-cancel_all.ensures.stayed

pub returns-clause-turn : goal.returns-clause-turn
returns-clause-turn c =
    finish-is c.args.coord.now c.send.new.coord c.cancel_all.new.coord c.args.clock _ _ _ _ _ _ _ _ c.into_vec.ensures c.as_slice.ensures refl
    c.in_ok-send.ensures.coord c.in_ok-send.ensures.marks c.in_ok-cancel_all.ensures.turns
