use Rattle.std.proofs.Common.{◌&&◌, cond, sym, ap, ◌∙◌}
use Rattle.std.specs.Prelude.{None}
use Rattle.gx_store.specs.Journals.{is_same_node}
use Rattle.gx_store.specs.Marks.{is_same_gxid}
use Rattle.gx_agenda.specs.Awaited.{expected_at}
use Rattle.gx_agenda.proofs.Changes.{at_same, is_same_request, met-there, unmet-there}
use Rattle.gx_agenda.proofs.asked.Asked.meet.Goals as goal

pub returns-then-is_met_by-clause-asked : goal.returns-then-is_met_by-clause-asked
returns-then-is_met_by-clause-asked c = λ s g.
    met-there (is_same_node c.args.segment s && is_same_gxid c.args.gxid g) (expected_at c.args.self.now s g) (expected_at c.withdraw.new.self s g) c.in-Some.expected c.args.reply.now
    (c.withdraw.ensures.awaited (record { segment = s; gxid = g }) ∙ ap (λ b. cond b None (expected_at c.args.self.now s g)) (is_same_request c.args.segment s c.args.gxid g))
    (λ same. at_same (expected_at c.args.self.now) c.args.segment s c.args.gxid g same ∙ sym c.awaited.ensures ∙ c.in-Some.is)
    (sym c.is_met_by.ensures ∙ c.if-is_met_by.true)

pub returns-else-is_met_by-clause-asked : goal.returns-else-is_met_by-clause-asked
returns-else-is_met_by-clause-asked c = λ s g.
    unmet-there (is_same_node c.args.segment s && is_same_gxid c.args.gxid g) (expected_at c.args.self.now s g) c.in-Some.expected c.args.reply.now
    (λ same. at_same (expected_at c.args.self.now) c.args.segment s c.args.gxid g same ∙ sym c.awaited.ensures ∙ c.in-Some.is)
    (sym c.is_met_by.ensures ∙ c.if-is_met_by.false)
