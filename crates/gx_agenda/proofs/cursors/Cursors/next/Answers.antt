use Rattle.std.proofs.Common.{sym, ap, ◌∙◌, subst}
use Rattle.gx_store.specs.Schedule.{left_on}
use Rattle.gx_agenda.specs.Agrees.{IsLinkAt, cursor_at}
use Rattle.gx_agenda.proofs.Agreeing.{left_next, left_none}
use Rattle.gx_agenda.proofs.Leftovers.{nothing_left, some_left}
use Rattle.gx_agenda.proofs.cursors.Cursors.next.Goals as goal

pub returns-then-cursor-sent-clause-first : goal.returns-then-cursor-sent-clause-first
returns-then-cursor-sent-clause-first c = λ script steps agree link e.
    left_next script steps c.args.from c.args.to c.cursor-cursor.result
    (subst (IsLinkAt script steps c.args.from c.args.to) (sym (c.cursor-cursor.ensures ∙ ap (cursor_at c.args.self.now) c.link_between.ensures)) (agree.links c.args.from c.args.to link))
    c.args.sent e c.ranges.sent.fits c.if-cursor-sent.true

pub returns-then-cursor-sent-clause-left : goal.returns-then-cursor-sent-clause-left
returns-then-cursor-sent-clause-left c = λ script steps agree link e.
    some_left (left_on script steps c.args.from c.args.to) _ (returns-then-cursor-sent-clause-first c script steps agree link e)

pub returns-else-cursor-sent-clause-first : goal.returns-else-cursor-sent-clause-first
returns-else-cursor-sent-clause-first c = λ script steps agree link e.
    left_none script steps c.args.from c.args.to c.cursor-cursor.result
    (subst (IsLinkAt script steps c.args.from c.args.to) (sym (c.cursor-cursor.ensures ∙ ap (cursor_at c.args.self.now) c.link_between.ensures)) (agree.links c.args.from c.args.to link))
    c.args.sent e c.if-cursor-sent.false

pub returns-else-cursor-sent-clause-left : goal.returns-else-cursor-sent-clause-left
returns-else-cursor-sent-clause-left c = λ script steps agree link e.
    nothing_left (left_on script steps c.args.from c.args.to) (returns-else-cursor-sent-clause-first c script steps agree link e)
