use Rattle.std.proofs.Common.{List, [], ◌∷◌, ◌++◌, ap, ◌∙◌}
use Rattle.gx_node.specs.Locking.{asked_mark}
use Rattle.gx_store.specs.declared.mark.Mark.{Mark}
use Rattle.gx_segment.specs.Done.{came}
use Rattle.gx_segment.proofs.Locked.{HasDone-same, HasDone-waits, IsHeld-locked, MayGoOn-locked, turn-locked, waits-for-nothing}
use Rattle.gx_segment.proofs.starting.request.Goals as goal

pub ask_for-requires : goal.ask_for-requires
ask_for-requires g c =
    waits-for-nothing g.was.script.tables c.args.held.now g.was.seg c.args.gxid c.args.command.cid c.args.command.snapshot c.args.command.slice c.args.wanted c.requires.1.1.0 c.requires.1.1.1.0 c.requires.1.1.1.1.1.0

pub proceed-requires : goal.proceed-requires
proceed-requires g c κs within =
    let tables = g.was.script.tables in
    let held = c.args.held.now in
    let now = c.ask_for.new.locks in
    let granted = c.in-Ok.granted in
    let asked = c.in-Ok.ensures.locks in (
      within,
      (
        c.requires.1.0,
        (
          IsHeld-locked tables held g.was.seg c.args.wanted c.requires.1.1.0 granted now c.if-granted.true asked c.requires.1.1.1.1.1.1.0,
          (
            MayGoOn-locked tables held g.was.seg c.args.wanted c.requires.1.1.0 granted now c.if-granted.true asked c.args.gxid c.args.command c.requires.1.1.1.1.0 c.in-Ok.ensures.granted c.args.node c.requires.1.1.1.1.1.1.1.0 c.ask_for.new.marks.items (c.in-Ok.ensures.marks ∙ ap (λ (ms : List Mark). ms ++ asked_mark c.args.node c.args.wanted c.in-Ok.granted ∷ []) c.requires.1.1.1.1.1.1.1.1) c.requires.1.1.1.0,
            c.requires.1.1.1.1.1.1.1.0,
          ),
        ),
      ),
    )

pub returns-in_ok-done-in-Ok-clause-done : goal.returns-in_ok-done-in-Ok-clause-done
returns-in_ok-done-in-Ok-clause-done g c =
    let granted = c.in-Ok.granted in
    HasDone-same g.was.script.tables c.proceed.new.held g.was.seg.horizon (came c.proceed.new.marks.items c.in_ok-done-in-Ok.done) _ _
    (turn-locked g.was.script.tables c.args.held.now g.was.seg c.args.wanted c.requires.1.1.0 granted c.ask_for.new.locks c.if-granted.true c.in-Ok.ensures.locks c.args.gxid c.args.command c.requires.1.1.1.1.0 c.in-Ok.ensures.granted c.args.node c.requires.1.1.1.1.1.1.1.0 c.ask_for.new.marks.items (c.in-Ok.ensures.marks ∙ ap (λ (ms : List Mark). ms ++ asked_mark c.args.node c.args.wanted c.in-Ok.granted ∷ []) c.requires.1.1.1.1.1.1.1.1))
    c.in_ok-done-in-Ok.ensures.done

pub returns-in_ok-suspend-in-Ok-clause-done : goal.returns-in_ok-suspend-in-Ok-clause-done
returns-in_ok-suspend-in-Ok-clause-done g c =
    HasDone-waits g.was.script.tables c.args.held.now c.suspend.new.held g.was.seg c.args.gxid c.args.command c.args.wanted c.in-Ok.granted c.ask_for.new.locks c.args.node c.ask_for.new.marks.items (came c.ask_for.new.marks.items c.nothing.result)
    c.requires.1.1.0 c.requires.1.1.1.0 c.requires.1.1.1.1.0 c.requires.1.1.1.1.1.0 c.if-granted.false c.in-Ok.ensures.locks c.in-Ok.ensures.granted c.requires.1.1.1.1.1.1.1.0 (c.in-Ok.ensures.marks ∙ ap (λ (ms : List Mark). ms ++ asked_mark c.args.node c.args.wanted c.in-Ok.granted ∷ []) c.requires.1.1.1.1.1.1.1.1) c.in_ok-suspend-in-Ok.ensures (ap (came c.ask_for.new.marks.items) c.nothing.ensures)
