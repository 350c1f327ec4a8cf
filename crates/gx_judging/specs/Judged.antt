-- A trace with the run that it shows.
use Rattle.std.specs.Prelude.{◌≡◌, ℕ}
use Rattle.gx_store.specs.Language.{IsScript}
use Rattle.gx_store.specs.Points.{marks_in}
use Rattle.gx_judging.specs.Answers.{answers_at}
use Rattle.gx_judging.specs.Filled.{answers_of, filled}
use Rattle.gx_judging.specs.declared.checking.Judged.{Judged}

pub record IsJudged (judged : Judged) : Type 0 where
  pub lawful : IsScript judged.script.now
  pub said : (session : ℕ) → answers_at judged.answers.now.by_session.items session ≡ answers_of session judged.seen.now.answers
  pub run : judged.steps.now ≡ filled judged.seen.now
  pub all : judged.marks.now ≡ marks_in judged.steps.now
