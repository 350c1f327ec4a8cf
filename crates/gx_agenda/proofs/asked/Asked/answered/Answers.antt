use Rattle.std.proofs.Common.{◌&&◌, cond, sym, ap, ◌∙◌, ℕ}
use Rattle.std.specs.Option.{option_or}
use Rattle.std.specs.Prelude.{None, option_map}
use Rattle.gx_store.specs.Journals.{is_same_node}
use Rattle.gx_store.specs.Marks.{is_same_gxid}
use Rattle.gx_agenda.specs.declared.expected.Expected.{Expected}
use Rattle.gx_agenda.specs.Awaited.{expected_at}
use Rattle.gx_agenda.specs.Requests.{request_cmp}
use Rattle.gx_agenda.specs.VecMap.{at}
use Rattle.gx_agenda.proofs.Changes.{at_same, is_same_request, met-there, unmet-there}
use Rattle.gx_agenda.proofs.asked.Asked.answered.Goals as goal

pub returns-then-is_met_by-clause-asked : goal.returns-then-is_met_by-clause-asked
returns-then-is_met_by-clause-asked c = λ s g.
    met-there (is_same_node c.args.segment s && is_same_gxid c.args.gxid g) (expected_at c.args.self.now s g) (expected_at c.withdraw_at.new.self s g) c.in-Some.expected c.args.reply.now
    (c.withdraw_at.ensures.awaited (record { segment = s; gxid = g }) ∙ ap (λ b. cond b None (expected_at c.args.self.now s g)) (is_same_request c.args.segment s c.args.gxid g))
    (λ same. at_same (expected_at c.args.self.now) c.args.segment s c.args.gxid g same ∙ sym (ap (λ o. option_or o (at request_cmp c.args.self.now.withheld (record { segment = c.args.segment; gxid = c.args.gxid }))) (sym (ap (option_map (λ (f : ℕ × Expected). f.1)) c.in-Some.is) ∙ c.find.ensures.value)))
    (sym c.is_met_by.ensures ∙ c.if-is_met_by.true)

pub returns-else-is_met_by-clause-asked : goal.returns-else-is_met_by-clause-asked
returns-else-is_met_by-clause-asked c = λ s g.
    unmet-there (is_same_node c.args.segment s && is_same_gxid c.args.gxid g) (expected_at c.args.self.now s g) c.in-Some.expected c.args.reply.now
    (λ same. at_same (expected_at c.args.self.now) c.args.segment s c.args.gxid g same ∙ sym (ap (λ o. option_or o (at request_cmp c.args.self.now.withheld (record { segment = c.args.segment; gxid = c.args.gxid }))) (sym (ap (option_map (λ (f : ℕ × Expected). f.1)) c.in-Some.is) ∙ c.find.ensures.value)))
    (sym c.is_met_by.ensures ∙ c.if-is_met_by.false)
