use Rattle.std.proofs.Common.{◌<◌, length, subst, sym, arith}
use Rattle.gx_ids.specs.declared.ids.SessionId.{SessionId}
use Rattle.gx_lemmas.proofs.Tests.{false-true}
use Rattle.gx_legal.proofs.Sessions.{no-longer, none-up-to, session-inside}
use Rattle.gx_legal.specs.Ends.{EndsIn}
use Rattle.gx_legal.specs.Moments.{point_of}
use Rattle.gx_legal.proofs.ends.ends_by_line.Goals as goal

pub loop-place-preserved : goal.loop-place-preserved
loop-place-preserved c =
    let P : SessionId → Type 0 = EndsIn c.args.moment.now.script.now (point_of c.args.moment.now) c.args.gxid c.args.how in
    none-up-to P c.loop-place.place c.loop-place.invariant (λ by. no-longer c.ends_in.result c.ends_in.ensures c.if-ends_in.false (subst P (sym c.session_at.ensures) by))

pub returns : goal.returns
returns c =
    let s = c.args.moment.now.script.now in (
      λ t. absurd (false-true t),
      λ by. absurd (c.loop-place.invariant by.0
          (let inside : by.0.0 < length s.sessions = session-inside s.tables _ by.0 _ s.lines by.1.0 c.requires.lines by.1.1.line in omega arith) by.1),
    )
