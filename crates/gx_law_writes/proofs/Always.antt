-- What holds of each mark of a step whatever stands behind it there: a victim's marks come behind those of the last step.
use Rattle.std.proofs.Common.{◌≡◌, ℕ, List, [], ◌∷◌, ◌++◌, sym, subst, ap, ◌∙◌, append-nil}
use Rattle.std.proofs.lemmas.List.{append_assoc}
use Rattle.gx_ids.specs.declared.ids.Gxid.{Gxid}
use Rattle.gx_msg.specs.declared.message.Out.{Out}
use Rattle.gx_store.specs.declared.answer.Refused.TheVariants.{Victim}
use Rattle.gx_store.specs.declared.answer.StmtAnswer.TheVariants.{Refused}
use Rattle.gx_store.specs.declared.event.Event.{Event}
use Rattle.gx_store.specs.declared.mark.Mark.{Mark}
use Rattle.gx_store.specs.declared.mark.Mark.TheVariants as mark
use Rattle.gx_store.specs.declared.run.Step.{Step}
use Rattle.gx_store.specs.Points.{Point}
use Rattle.gx_store.specs.Refusals.{the_coordinator}
use Rattle.gx_rules.proofs.Rounds.{cancel-ways}
use Rattle.gx_rules.proofs.Turns.{with_more-last}
use Rattle.gx_rules.specs.AtCoordinator.{cancel_turn, is_refused}
use Rattle.gx_dtx.specs.Rules.{on_abort}
use Rattle.gx_rules.specs.Coordinators.{Coord, CoordTurn}
use Rattle.gx_rules.specs.Machine.{World, and_cancelled, with_more}
use Rattle.gx_rules.specs.Sending.{counted, numbered}
use Rattle.gx_law_order.proofs.Lists.{each_append}
use Rattle.gx_law_order.specs.Lists.{Each}
use Rattle.gx_law_order.proofs.Moves.{HasNamed}
use Rattle.gx_law_order.proofs.Releases.{each-released}
use Rattle.gx_law_order.specs.Rest.{EachMark}
use Rattle.gx_law_order.proofs.Given.{marks-append}

-- it holds of each mark of these steps, whatever marks the step gets besides
abbrev pub AreAlways : (Point → Mark → Type 0) → List Step → List Step → Type 0
AreAlways P before [] = Unit {0}
AreAlways P before (s ∷ ss) = ((later : List Mark) → EachMark P before s.event [] s.marks later) × AreAlways P (before ++ s ∷ []) ss

pub always-push : (P : Point → Mark → Type 0) (before ss : List Step) (s : Step) → AreAlways P before ss → ((later : List Mark) → EachMark P (before ++ ss) s.event [] s.marks later) → AreAlways P before (ss ++ s ∷ [])
always-push P before [] s a h = (subst (λ b. (later : List Mark) → EachMark P b s.event [] s.marks later) (append-nil before) h, tt)
always-push P before (x ∷ ss) s a h = (a.0, always-push P (before ++ x ∷ []) ss s a.1 (subst (λ b. (later : List Mark) → EachMark P b s.event [] s.marks later) (sym (append_assoc before (x ∷ []) ss)) h))

always-more : (P : Point → Mark → Type 0) (before ss : List Step) (s : Step) (ms : List Mark) → AreAlways P before (ss ++ s ∷ []) → ((steps : List Step) (later : List Mark) → EachMark P steps s.event s.marks ms later)
    → AreAlways P before (ss ++ record s { marks = s.marks ++ ms } ∷ [])
always-more P before [] s ms a h = ((λ later. marks-append P before s.event [] s.marks ms later (a.0 (ms ++ later)) (h before later)), tt)
always-more P before (x ∷ ss) s ms a h = (a.0, always-more P (before ++ x ∷ []) ss s ms a.1 h)

-- VICTIMS
-- what a victim's turn says
abbrev pub IsOfVictim : Mark → Type 0
IsOfVictim (mark.Abort g) = Unit {0}
IsOfVictim (mark.Answer s n (Refused (Victim round))) = Unit {0}
IsOfVictim (mark.Release n g object mode) = Unit {0}
IsOfVictim (mark.Sent to number message) = Unit {0}
IsOfVictim _ = ⊥

numbered-victim : (f : ℕ → ℕ) (outs : List Out) → Each IsOfVictim (numbered f outs)
numbered-victim f [] = tt
numbered-victim f (o ∷ outs) = (tt, numbered-victim (counted f o) outs)

pub victim-marks : (c : Coord) (g : Gxid) → Each IsOfVictim (cancel_turn c g).marks
victim-marks c g =
    cancel-ways (λ (t : CoordTurn). Each IsOfVictim (t.marks ++ numbered t.coord.sent t.outs)) c g tt
    (λ live busy.
    let turn : CoordTurn = is_refused c g (on_abort c.table g) [] (Victim c.rounds) in
    each_append IsOfVictim turn.marks (numbered turn.coord.sent turn.outs) (tt, (tt, each-released IsOfVictim the_coordinator c.locks g (λ claim. tt))) (numbered-victim turn.coord.sent turn.outs))

each-of-victim : (P : Point → Mark → Type 0) → ((point : Point) (m : Mark) → IsOfVictim m → P point m) → (steps : List Step) (e : Event) (earlier ms later : List Mark) → Each IsOfVictim ms → EachMark P steps e earlier ms later
each-of-victim P f steps e earlier [] later h = tt
each-of-victim P f steps e earlier (m ∷ ms) later h = (f (record { steps = steps; event = e; earlier = earlier; later = ms ++ later }) m h.0, each-of-victim P f steps e (earlier ++ m ∷ []) ms later h.1)

-- what holds of such marks stays behind a victim's turn
pub always-victim : (P : Point → Mark → Type 0) → ((point : Point) (m : Mark) → IsOfVictim m → P point m) → (w : World) (g : Gxid) → HasNamed w.steps w.coord.clock w.coord.rounds g → AreAlways P [] w.steps → AreAlways P [] (and_cancelled w g).steps
always-victim P f w g a always =
    subst (AreAlways P []) (sym (ap (λ ss. with_more ss more) a.is ∙ with_more-last a.before a.step more))
    (always-more P [] a.before a.step more (subst (AreAlways P []) a.is always) (λ steps later. each-of-victim P f steps a.step.event a.step.marks more later (victim-marks w.coord g)))
  where
    more : List Mark
    more = (cancel_turn w.coord g).marks
