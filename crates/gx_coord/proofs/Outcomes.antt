-- The ends of transactions, from where a call on them has led.
use Rattle.std.proofs.Common.{◌≡◌, ◌∙◌, ◌++◌, ◌∷◌, [], List, ap, refl}
use Rattle.std.proofs.lemmas.List.{append_assoc}
use Rattle.gx_ids.specs.declared.ids.Gxid.{Gxid}
use Rattle.gx_ids.specs.declared.ids.SessionId.{SessionId}
use Rattle.gx_dtx.specs.Rules.{Turn}
use Rattle.gx_dtx.specs.declared.outcome.Outcome.{Outcome}
use Rattle.gx_dtx.specs.declared.outcome.Outcome.TheVariants as outcome
use Rattle.gx_script.specs.Session.{after_refused}
use Rattle.gx_script.specs.declared.state.SessionState.{SessionState}
use Rattle.gx_store.specs.declared.answer.Refused.{Refused}
use Rattle.gx_store.specs.declared.answer.StmtAnswer.TheVariants as told
use Rattle.gx_store.specs.declared.mark.Mark.{Mark}
use Rattle.gx_store.specs.declared.mark.Mark.TheVariants as mark
use Rattle.gx_rules.specs.AtCoordinator.{follows}
use Rattle.gx_rules.specs.Coordinators.{Coord, Session, no_work, with_state, with_work}
use Rattle.gx_coord.specs.Locking.{tells_refusal}

-- the table before a call and what it sends play no part in what it has come to
pub follows-from : (c : Coord) (g : Gxid) (turn : Turn) (o : Outcome) → follows (record c { table = turn.table }) g turn o ≡ follows c g turn o
follows-from c g turn outcome.Pending = refl
follows-from c g turn outcome.Decided = refl
follows-from c g turn outcome.Committed = refl
follows-from c g turn (outcome.Refused i) = refl
follows-from c g turn outcome.Ended = refl

-- a refusal, from the session of its transaction
pub refused-coord : (c n : Coord) (g : Gxid) (reason : Refused) (id : SessionId) (session : Session) (x : SessionState) → id ≡ (c.works g.0).session → session ≡ c.sessions id.0 → x ≡ after_refused session.state → n ≡ with_state (with_work c g no_work) id x → n ≡ (tells_refusal c g reason).coord
refused-coord c n g reason id session x ei es ex en =
    let d : Coord = with_work c g no_work in
    en
    ∙ ap (λ y. with_state d id y) ex
    ∙ ap (λ (s : Session). with_state d id (after_refused s.state)) es
    ∙ ap (λ (i : SessionId). with_state d i (after_refused (c.sessions i.0).state)) ei

pub refused-marks : (c : Coord) (g : Gxid) (reason : Refused) (id : SessionId) (session : Session) (before middle after : List Mark) → id ≡ (c.works g.0).session → session ≡ c.sessions id.0 → middle ≡ before ++ mark.Abort g ∷ [] → after ≡ middle ++ mark.Answer id session.lines (told.Refused reason) ∷ [] → after ≡ before ++ (tells_refusal c g reason).marks
refused-marks c g reason id session before middle after ei es em ea =
    ea
    ∙ ap (λ ms. ms ++ mark.Answer id session.lines (told.Refused reason) ∷ []) em
    ∙ append_assoc before (mark.Abort g ∷ []) (mark.Answer id session.lines (told.Refused reason) ∷ [])
    ∙ ap (λ (s : Session). before ++ mark.Abort g ∷ mark.Answer id s.lines (told.Refused reason) ∷ []) es
    ∙ ap (λ (i : SessionId). before ++ mark.Abort g ∷ mark.Answer i (c.sessions i.0).lines (told.Refused reason) ∷ []) ei
