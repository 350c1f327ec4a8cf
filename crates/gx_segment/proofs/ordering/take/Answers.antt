use Rattle.std.proofs.Common.{◌≤◌, subst, arith}
use Rattle.std.proofs.lemmas.Bool.Decides.{nat_tests}
use Rattle.gx_ids.specs.declared.ids.Gxid.{Gxid}
use Rattle.gx_segment.specs.Done.{came}
use Rattle.gx_segment.proofs.Doing.{Took-order, HasDone-order, later-order}
use Rattle.gx_segment.proofs.ordering.take.Goals as goal

pub returns-clause-done : goal.returns-clause-done
returns-clause-done g c =
    let alive = subst (λ (x : Gxid). x.0 ≤ c.args.gxid.0) c.requires.1.1.1.0 (grind (arith, nat_tests, c.if-lt.ensures, c.if-lt.false)) in
    HasDone-order c.args.order g.was.seg c.args.gxid g.was.script.tables c.args.held.now c.obey.new.held c.args.node c.in_ok-taken.taken (came c.done_of.new.marks.items c.in_ok-done.done) c.requires.1.1.0 c.requires.1.0 alive c.in_ok-done.ensures.done c.args.horizon c.done_of.new.locks c.requires.1.1.1.0 c.in_ok-taken.ensures.moved c.in_ok-done.ensures.locks

pub returns-clause-took : goal.returns-clause-took
returns-clause-took g c =
    let alive = subst (λ (x : Gxid). x.0 ≤ c.args.gxid.0) c.requires.1.1.1.0 (grind (arith, nat_tests, c.if-lt.ensures, c.if-lt.false)) in
    Took-order c.args.order g.was.seg c.args.gxid g.was.script.tables c.args.held.now c.obey.new.held c.args.node c.in_ok-taken.taken (came c.done_of.new.marks.items c.in_ok-done.done) c.requires.1.1.0 c.requires.1.0 alive c.in_ok-done.ensures.done _ _ c.in_ok-taken.ensures.took

pub returns-in_err-taken-clause-later : goal.returns-in_err-taken-clause-later
returns-in_err-taken-clause-later g c =
    let alive = subst (λ (x : Gxid). x.0 ≤ c.args.gxid.0) c.requires.1.1.1.0 (grind (arith, nat_tests, c.if-lt.ensures, c.if-lt.false)) in
    later-order c.args.order g.was.seg c.args.gxid g.was.script.tables c.args.held.now c.args.node c.requires.1.1.0 c.requires.1.0 alive c.obey.ensures.later

pub returns-in_err-done-clause-later : goal.returns-in_err-done-clause-later
returns-in_err-done-clause-later g c =
    let alive = subst (λ (x : Gxid). x.0 ≤ c.args.gxid.0) c.requires.1.1.1.0 (grind (arith, nat_tests, c.if-lt.ensures, c.if-lt.false)) in
    later-order c.args.order g.was.seg c.args.gxid g.was.script.tables c.args.held.now c.args.node c.requires.1.1.0 c.requires.1.0 alive c.obey.ensures.later

pub returns-clause-later : goal.returns-clause-later
returns-clause-later g c =
    let alive = subst (λ (x : Gxid). x.0 ≤ c.args.gxid.0) c.requires.1.1.1.0 (grind (arith, nat_tests, c.if-lt.ensures, c.if-lt.false)) in
    later-order c.args.order g.was.seg c.args.gxid g.was.script.tables c.args.held.now c.args.node c.requires.1.1.0 c.requires.1.0 alive c.obey.ensures.later
