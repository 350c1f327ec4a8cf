use Rattle.std.proofs.Common.{◌≡◌, ◌++◌, ◌∷◌, [], sym, subst, ap, ◌∙◌}
use Rattle.gx_ids.specs.declared.ids.Node.{Node}
use Rattle.gx_store.specs.declared.mark.Mark.{Mark}
use Rattle.std.proofs.Common.{List, All, if◌then◌else◌}
use Rattle.gx_store.specs.Journals.{is_same_node}
use Rattle.gx_ordered.specs.Links.{IsSentOnLink, clocks_in, link_in}
use Rattle.gx_ordered.proofs.Following.{all-ok, counts-clock, long-clock, progress-last}
use Rattle.gx_ordered.proofs.steps.note_step.Goals as goal

pub note_marks-requires : goal.note_marks-requires
note_marks-requires g c =
    let s = c.args.step.now in
    let far = c.requires.0 in
    let n = c.note_clock in (
      long-clock c.args.progress.now n.new.progress s.stamp far.long n.ensures.others n.ensures.clocks,
      (subst (λ (ms : List Mark). All (IsSentOnLink s.stamp.node) ms) (sym c.as_slice.ensures) c.requires.1.0, λ to. counts-clock g.steps c.args.progress.now n.new.progress s.stamp.node to far n.ensures.others),
    )

pub returns-clause-progress : goal.returns-clause-progress
returns-clause-progress g c =
    let s = c.args.step.now in
    let n = c.note_clock in
    all-ok c.note_marks.result c.note_marks.ensures.long c.note_marks.ensures.clocks c.note_marks.ensures.links
    (λ are long clocks links t. progress-last g.steps s c.args.progress.now n.new.progress c.note_marks.new.progress c.requires.0 c.requires.1.1 n.ensures.few n.ensures.others n.ensures.clocks long clocks
    (λ f to. links t f to ∙ ap (λ (ms : List Mark). link_in n.new.progress f to ++ (if is_same_node f s.stamp.node then clocks_in s.stamp.clock to ms else [])) c.as_slice.ensures))
