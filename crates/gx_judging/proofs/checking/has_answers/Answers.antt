use Rattle.std.proofs.Common.{◌↔◌, ◌∙◌, ◌≡◌, ap, length, subst, sym}
use Rattle.std.proofs.Common.{IsTrue, List}
use Rattle.gx_ids.specs.declared.ids.SessionId.{SessionId}
use Rattle.gx_store.specs.declared.mark.Mark.{Mark}
use Rattle.gx_store.specs.Marks.{answer_count}
use Rattle.gx_store.specs.Points.{marks_in}
use Rattle.gx_judging.specs.Filled.{filled}
use Rattle.gx_judging.proofs.checking.has_answers.Goals as goal

pub returns : goal.returns
returns c =
    let j = c.args.judged.now in
    let run : j.marks.now ≡ marks_in (filled j.seen.now) = c.requires.all ∙ ap marks_in c.requires.run in (
      λ t session inside. ap (answer_count session) (sym run) ∙ c.are_answered.ensures.0 t session inside ∙ ap length (c.requires.said session.0),
      λ are. c.are_answered.ensures.1 (λ session inside. ap (answer_count session) run ∙ are session inside ∙ ap length (sym (c.requires.said session.0))),
    )
