use Rattle.std.proofs.Common.{◌≡◌, ◌∙◌, None, ap, not, sym}
use Rattle.gx_cells.proofs.Answers.{three_ok}
use Rattle.gx_segment.specs.Room.{has_room}
use Rattle.gx_store.specs.Refusals.{the_coordinator}
use Rattle.gx_cells.proofs.AtSegments.{apart-more}
use Rattle.gx_cells.proofs.Takings.{given-stands, none-of, received-new}
use Rattle.gx_cells.proofs.receiving.receive_next.Goals as goal

pub receive_new-requires : goal.receive_new-requires
receive_new-requires g c κs within =
    let apart = c.requires.1.1.1.0 in
    let taken = c.in-Some.ensures in
    let more = apart-more c.args.history.now c.args.inbox.now c.take.new.inbox c.args.segment.now (g.J.Journal.shelf c.args.journal.now) _ taken apart in
    (within.0, (within.1.0, (within.1.1, (more.0, (c.requires.1.1.1.1.0 ∙ sym more.1, (given-stands c.args.inbox.now c.take.new.inbox c.in-Some.envelope taken apart.again, (c.requires.1.1.1.1.1, taken.again)))))))

pub returns-then-is_new-clause-received : goal.returns-then-is_new-clause-received
returns-then-is_new-clause-received g c =
    let history = c.args.history.now in
    let old = c.args.inbox.now in
    let none : old.again ≡ None = none-of old.again (ap not c.if-is_new.ensures) in
    three_ok c.receive_new.result _ _ _ _ c.receive_new.ensures.looked c.receive_new.ensures.again c.receive_new.ensures.steps
    (λ looked a b d. received-new history.script.value the_coordinator history.node (has_room g.s) history.steps c.receive_new.new.history.steps old c.take.new.inbox c.receive_new.new.inbox looked c.in-Some.envelope c.in-Some.ensures none c.receive_new.ensures.source a b d)
