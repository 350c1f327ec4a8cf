use Rattle.std.proofs.Common.{List, ◌++◌, ap, ◌∙◌}
use Rattle.gx_node.specs.Locking.{granted_marks}
use Rattle.gx_store.specs.declared.mark.Mark.{Mark}
use Rattle.gx_locks.specs.Locks.{wait_of}
use Rattle.gx_node.specs.Phases.{suspended_of}
use Rattle.gx_rules.specs.AtSegment.{resumes}
use Rattle.gx_rules.specs.Running.{goes_on}
use Rattle.gx_rules.specs.Segments.{local_of}
use Rattle.gx_segment.specs.Waking.{awakened}
use Rattle.gx_segment.specs.Done.{came}
use Rattle.gx_slices.proofs.Wakes.{IsHeld-granted, MayGoOn-granted, found-woken}
use Rattle.gx_segment.proofs.Locked.{HasDone-same, IsQuiet-same, ready-still, turn-resumed}
use Rattle.gx_segment.proofs.starting.resume.Goals as goal

pub take_granted-requires : goal.take_granted-requires
take_granted-requires g c =
    ready-still g.was.script.tables c.args.held.now c.wake.new.held g.was.seg c.args.gxid c.in_ok-waiting.waiting c.requires.1.1.0 c.requires.1.1.1.0 c.in_ok-waiting.ensures

pub proceed-requires : goal.proceed-requires
proceed-requires g c κs within =
    let tables = g.was.script.tables in
    let held = c.args.held.now in
    let woke = c.wake.new.held in
    let found = c.in_ok-waiting.waiting in
    let did = c.in_ok-waiting.ensures in (
      within,
      (
        c.requires.1.0,
        (
          IsHeld-granted tables held woke g.was.seg c.args.gxid found c.requires.1.1.0 c.requires.1.1.1.0 did c.take_granted.new.locks c.in-Ok.ensures.locks,
          (MayGoOn-granted tables held woke g.was.seg c.args.gxid found c.requires.1.1.0 c.requires.1.1.1.0 did c.in-Some.command c.in-Some.is, c.requires.1.1.1.1.0),
        ),
      ),
    )

pub unreachable-requires : goal.unreachable-requires
unreachable-requires g c = found-woken g.was.script.tables c.args.held.now c.wake.new.held g.was.seg c.args.gxid c.in_ok-waiting.waiting c.requires.1.1.0 c.requires.1.1.1.0 c.in_ok-waiting.ensures c.in-None.is

pub returns-in_ok-done-in-Ok-clause-done : goal.returns-in_ok-done-in-Ok-clause-done
returns-in_ok-done-in-Ok-clause-done g c =
    let s = g.was.seg in
    let id = c.args.gxid in
    let command = c.in-Some.command in
    HasDone-same g.was.script.tables c.proceed.new.held s.horizon (came c.proceed.new.marks.items c.in_ok-done-in-Ok.done)
    (goes_on (record { seg = awakened s id; marks = c.take_granted.new.marks.items }) id (suspended_of command) command.row)
    (resumes s id (wait_of s.locks id) (local_of s id).suspended)
    (turn-resumed g.was.script.tables c.args.held.now c.wake.new.held s id c.in_ok-waiting.waiting c.requires.1.1.0 c.requires.1.1.1.0 c.in_ok-waiting.ensures command c.in-Some.is c.args.node c.take_granted.new.marks.items c.requires.1.1.1.1.0 (c.in-Ok.ensures.marks ∙ ap (λ (ms : List Mark). ms ++ granted_marks c.args.node (wait_of c.wake.new.held.locks c.args.gxid)) c.requires.1.1.1.1.1))
    c.in_ok-done-in-Ok.ensures.done

pub returns-in_ok-done-in-Ok-clause-quiet : goal.returns-in_ok-done-in-Ok-clause-quiet
returns-in_ok-done-in-Ok-clause-quiet g c =
    let s = g.was.seg in
    let id = c.args.gxid in
    let command = c.in-Some.command in
    IsQuiet-same c.in_ok-done-in-Ok.done.fails
    (goes_on (record { seg = awakened s id; marks = c.take_granted.new.marks.items }) id (suspended_of command) command.row)
    (resumes s id (wait_of s.locks id) (local_of s id).suspended)
    (turn-resumed g.was.script.tables c.args.held.now c.wake.new.held s id c.in_ok-waiting.waiting c.requires.1.1.0 c.requires.1.1.1.0 c.in_ok-waiting.ensures command c.in-Some.is c.args.node c.take_granted.new.marks.items c.requires.1.1.1.1.0 (c.in-Ok.ensures.marks ∙ ap (λ (ms : List Mark). ms ++ granted_marks c.args.node (wait_of c.wake.new.held.locks c.args.gxid)) c.requires.1.1.1.1.1))
    c.in_ok-done-in-Ok.ensures.quiet
