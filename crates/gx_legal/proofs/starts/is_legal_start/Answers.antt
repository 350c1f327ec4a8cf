use Rattle.gx_lemmas.proofs.Tests.{false-true}
use Rattle.gx_legal.proofs.UnderWay.{line-none, line-some}
use Rattle.gx_legal.specs.Commands.{StartsWith}
use Rattle.gx_legal.specs.Moments.{point_of}
use Rattle.gx_legal.proofs.starts.is_legal_start.Goals as goal

pub returns-in-Some : goal.returns-in-Some
returns-in-Some c =
    let h = line-some c.args.moment.now.script.now (point_of c.args.moment.now) c.args.session
    (StartsWith c.args.moment.now.script.now (point_of c.args.moment.now) c.args.gxid c.args.session) c.in-Some.line.now c.starts_with.result c.in-Some.ensures c.starts_with.ensures in (
      λ t. let s = h.0 t in record { number = s.2.number; event = s.2.event; line = s.0; runs = s.1; drawing = s.2.drawing; once = s.2.once },
      λ l. h.1 (l.line, l.runs, record { number = l.number; event = l.event; drawing = l.drawing; once = l.once }),
    )

pub returns-in-None : goal.returns-in-None
returns-in-None c = (
  λ t. absurd (false-true t),
  λ l. absurd (line-none c.args.moment.now.script.now (point_of c.args.moment.now) c.args.session (StartsWith c.args.moment.now.script.now (point_of c.args.moment.now) c.args.gxid c.args.session) c.in-None.ensures
      (l.line, l.runs, record { number = l.number; event = l.event; drawing = l.drawing; once = l.once })),
)
