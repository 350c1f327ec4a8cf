use Rattle.std.proofs.Common.{◌<◌, length, subst, sym, arith}
use Rattle.gx_ids.specs.declared.ids.SessionId.{SessionId}
use Rattle.gx_lemmas.proofs.Tests.{false-true}
use Rattle.gx_legal.proofs.Sessions.{no-longer, none-up-to, session-inside}
use Rattle.gx_legal.specs.Deeds.{IsByCommandOf, doing_of}
use Rattle.gx_legal.specs.Moments.{point_of}
use Rattle.gx_legal.proofs.working.is_by_command.Goals as goal

pub loop-place-preserved : goal.loop-place-preserved
loop-place-preserved c =
    let P : SessionId → Type 0 = IsByCommandOf c.args.moment.now.script.now (point_of c.args.moment.now) (doing_of c.args.deed.now) in
    none-up-to P c.loop-place.place c.loop-place.invariant (λ by. no-longer c.in_ok-is_by_command_of.field-0 c.in_ok-is_by_command_of.ensures c.if-branch.false (subst P (sym c.session_at.ensures) by))

pub returns : goal.returns
returns c =
    let s = c.args.moment.now.script.now in (
      λ t. absurd (false-true t),
      λ by. absurd (c.loop-place.invariant by.0
          (let inside : by.0.0 < length s.sessions = session-inside s.tables _ by.0 _ s.lines by.1.0 c.requires.lines by.1.2.runs.line.line in omega arith) by.1),
    )
