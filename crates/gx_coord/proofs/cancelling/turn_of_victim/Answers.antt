use Rattle.std.proofs.Common.{◌<◌, ◌+◌, ◌^◌, ◌∙◌, ℕ, All, ap, length, subst, sym}
use Rattle.std.specs.Global.{Vec}
use Rattle.gx_coord.specs.Books.{coord_of}
use Rattle.gx_coord.proofs.Cancelled.{few-behind, victim-stayed, victim-turn}
use Rattle.gx_coord.proofs.Gone.{links-cancelled}
use Rattle.gx_coord.proofs.cancelling.turn_of_victim.Goals as goal

pub number-requires-clause-room : goal.number-requires-clause-room
number-requires-clause-room c =
    subst (λ (v : Vec ℕ). All (λ n. n < 2 ^ 62 + length c.cancel.new.marks.items) v.items) (sym c.in_ok-more.ensures.turn.framed.sent)
    (few-behind c.args.coord.now.sent.items c.args.marks.now.items _ c.cancel.new.marks.items c.in_ok-more.ensures.turn.marks c.requires.room)

pub number-requires-clause-links : goal.number-requires-clause-links
number-requires-clause-links c =
    links-cancelled c.args.coord.now.script.value (coord_of c.args.coord.now) c.args.gxid _ _ c.requires.sound c.requires.some (c.into_vec-outs.ensures ∙ c.in_ok-more.ensures.outs) (ap (λ v. length v.items) c.in_ok-more.ensures.turn.framed.sent ∙ c.requires.links)

pub returns-clause-stayed : goal.returns-clause-stayed
returns-clause-stayed c =
    let e = c.in_ok-number.ensures in
    victim-stayed c.args.coord.now c.cancel.new.coord c.number.new.sent c.args.gxid _ _ _ _ c.in_ok-more.ensures.turn (c.into_vec-outs.ensures ∙ c.in_ok-more.ensures.outs) e.sent e.marks e.links

pub returns-clause-turn : goal.returns-clause-turn
returns-clause-turn c =
    let e = c.in_ok-number.ensures in
    victim-turn c.args.coord.now c.cancel.new.coord c.number.new.sent c.args.gxid _ _ _ _ c.in_ok-more.ensures.turn (c.into_vec-outs.ensures ∙ c.in_ok-more.ensures.outs) e.sent e.marks
