use Rattle.std.proofs.Common.{length, subst}
use Rattle.gx_store.specs.Language.{IsLine}
use Rattle.gx_agenda.specs.FreshQueue.{AreFresh}
use Rattle.gx_agenda.specs.Queued.{AreFirst}
use Rattle.gx_agenda.proofs.Growing.{fresh-queued}
use Rattle.gx_agenda.proofs.Lists.{all-at}
use Rattle.gx_agenda.proofs.queue.Queue.new.Goals as goal

pub returns : goal.returns
returns c =
    let script = c.args.script.now in
    let lines = c.as_slice-lines.ensures in
    fresh-queued script.lines (length script.sessions) (record { standings = c.in_ok-standings.standings; next = c.in_ok-next.next })
    (subst (λ n. AreFresh script.lines n c.in_ok-standings.standings.items) c.len.ensures (subst (λ ls. AreFresh ls c.len.result c.in_ok-standings.standings.items) lines c.in_ok-standings.ensures))
    (subst (λ ls. AreFirst ls c.in_ok-next.next) lines c.in_ok-next.ensures)
    (λ place line e. let is : IsLine script.tables (length script.sessions) line = all-at (IsLine script.tables (length script.sessions)) script.lines place line c.requires.lines e in is.0)
