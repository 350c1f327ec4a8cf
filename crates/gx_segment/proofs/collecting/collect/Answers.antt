use Rattle.gx_segment.specs.Done.{came}
use Rattle.gx_segment.proofs.Told.{collects}
use Rattle.gx_segment.proofs.collecting.collect.Goals as goal

pub returns-clause-done : goal.returns-clause-done
returns-clause-done g c = (collects g.was.script.tables c.args.held.now g.was.seg c.args.round c.requires.1.0 c.args.node c.args.report.now c.tell.new.report (came c.tell.new.marks.items c.in_ok-done.done) c.requires.0 c.requires.1.1.0 c.in_ok-done.ensures.done c.in_ok-done.ensures.report).done

pub returns-clause-quiet : goal.returns-clause-quiet
returns-clause-quiet g c = (collects g.was.script.tables c.args.held.now g.was.seg c.args.round c.requires.1.0 c.args.node c.args.report.now c.tell.new.report (came c.tell.new.marks.items c.in_ok-done.done) c.requires.0 c.requires.1.1.0 c.in_ok-done.ensures.done c.in_ok-done.ensures.report).quiet

pub returns-clause-report : goal.returns-clause-report
returns-clause-report g c = (collects g.was.script.tables c.args.held.now g.was.seg c.args.round c.requires.1.0 c.args.node c.args.report.now c.tell.new.report (came c.tell.new.marks.items c.in_ok-done.done) c.requires.0 c.requires.1.1.0 c.in_ok-done.ensures.done c.in_ok-done.ensures.report).report
