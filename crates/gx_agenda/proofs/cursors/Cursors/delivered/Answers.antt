use Rattle.std.proofs.Common.{◌<◌, length, refl, subst, sym}
use Rattle.gx_agenda.specs.Agrees.{cursor_at}
use Rattle.gx_agenda.specs.Links.{link_of}
use Rattle.gx_agenda.proofs.Agreeing.{Delivers, agree_delivered}
use Rattle.gx_agenda.proofs.cursors.Cursors.delivered.Goals as goal

pub returns-clause-agree : goal.returns-clause-agree
returns-clause-agree c = λ script steps step number agree link small first event.
    let old = c.args.self.now in
    let new = c.advance.new.self in
    let does : Delivers old new (link_of c.args.from c.args.to) (cursor_at new (link_of c.args.from c.args.to)) = subst (λ l. Delivers old new l (cursor_at new l)) c.link_between.ensures (record {
      faults = c.advance.ensures.faults;
      whole = c.advance.ensures.whole;
      here = λ inside. refl;
      others = c.advance.ensures.others;
      follows = c.advance.ensures.here (subst (λ n. n < length old.links.items) (sym c.link_between.ensures) (agree.whole c.args.from c.args.to link));
    }) in
    agree_delivered script steps step old new c.args.from c.args.to (cursor_at new (link_of c.args.from c.args.to)) number agree link does small first event
