use Rattle.std.proofs.Common.{ap, ◌∙◌, sym, subst}
use Rattle.gx_ids.specs.declared.ids.Gxid.{Gxid}
use Rattle.gx_slices.specs.Agrees.{IsHeld}
use Rattle.gx_slices.specs.Ran.{MayRun}
use Rattle.gx_slices.specs.Store.{greater}
use Rattle.gx_rules.specs.AtSegment.{raised}
use Rattle.gx_rules.specs.Segments.{Seg}
use Rattle.gx_segment.specs.Done.{HasDone, IsQuiet, came}
use Rattle.gx_segment.specs.Ways.{starts}
use Rattle.gx_segment.proofs.Raised.{IsHeld-raised, seg-raised}
use Rattle.gx_segment.proofs.executing.run.Goals as goal

pub start-requires : goal.start-requires
start-requires g c κs within =
    let tables = g.was.script.tables in
    let is = c.requires.1.1.0 in
    let may = c.requires.1.1.1.1.0 in
    let done = c.raise.ensures in
    let now = c.raise.new.held in
    let risen = IsHeld-raised tables c.args.held.now now g.was.seg c.args.low is may.waits may.writers done.store c.raise.new.horizon (done.horizon ∙ ap (λ (h : Gxid). greater h c.args.low) c.requires.1.1.1.0) done.entries done.dropped done.holders done.locks in
    let same = seg-raised g.was.seg c.args.low c.args.held.now.store now.store is.horizon done.store in (
      within,
      (
        c.requires.1.0,
        (
          subst (IsHeld tables now) same risen,
          (subst (λ (x : Seg). MayRun tables x c.args.gxid c.args.command.cid c.args.command.snapshot c.args.command.slice) same may.may, (c.requires.1.1.1.1.1.0, (c.requires.1.1.1.1.1.1.0, c.requires.1.1.1.1.1.1.1))),
        ),
      ),
    )

pub returns-clause-done : goal.returns-clause-done
returns-clause-done g c =
    let command = c.args.command in
    let same = seg-raised g.was.seg c.args.low c.args.held.now.store c.raise.new.held.store c.requires.1.1.0.horizon c.raise.ensures.store in
    subst
    (λ (h : Gxid). HasDone g.was.script.tables c.start.new.held h (came c.start.new.marks.items c.in_ok-done.done) (starts g.was.script (raised g.was.seg c.args.low) c.args.gxid command))
    (sym (c.raise.ensures.horizon ∙ ap (λ (h : Gxid). greater h c.args.low) c.requires.1.1.1.0))
    (subst
    (λ (x : Seg). HasDone g.was.script.tables c.start.new.held x.horizon (came c.start.new.marks.items c.in_ok-done.done) (starts g.was.script x c.args.gxid command))
    (sym same)
    c.in_ok-done.ensures.done)

pub returns-clause-quiet : goal.returns-clause-quiet
returns-clause-quiet g c =
    let command = c.args.command in
    let same = seg-raised g.was.seg c.args.low c.args.held.now.store c.raise.new.held.store c.requires.1.1.0.horizon c.raise.ensures.store in
    subst (λ (x : Seg). IsQuiet c.in_ok-done.done.fails (starts g.was.script x c.args.gxid command)) (sym same) c.in_ok-done.ensures.quiet
