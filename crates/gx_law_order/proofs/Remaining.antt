-- A run is a legal history if what is left of it is shown.
use Rattle.std.proofs.Common.{◌≡◌, ◌≤◌, inl, inr, ℕ, List, [], ◌∷◌, ◌++◌, Some, Bool, true, sym, subst, ap, ◌∙◌, append-nil}
use Rattle.std.proofs.lemmas.List.{append_assoc}
use Rattle.gx_ids.specs.declared.ids.Gxid.{Gxid}
use Rattle.gx_ids.specs.declared.ids.Node.{Node}
use Rattle.gx_msg.specs.declared.message.Out.{Out}
use Rattle.gx_script.specs.declared.Script.{Script}
use Rattle.gx_store.specs.declared.answer.Refused.TheVariants.{Victim}
use Rattle.gx_store.specs.declared.answer.StmtAnswer.TheVariants.{Refused}
use Rattle.gx_store.specs.declared.event.Event.{Event}
use Rattle.gx_store.specs.declared.mark.Mark.{Mark}
use Rattle.gx_store.specs.declared.mark.Mark.TheVariants as mark
use Rattle.gx_store.specs.declared.node.NodeEvent.{NodeEvent}
use Rattle.gx_store.specs.declared.node.NodeEvent.TheVariants as here
use Rattle.gx_store.specs.declared.run.Step.{Step}
use Rattle.gx_store.specs.Legal.{AreLegalSteps}
use Rattle.gx_store.specs.Ordered.{IsSegment}
use Rattle.gx_store.specs.Points.{Point}
use Rattle.gx_store.specs.Refusals.{the_coordinator}
use Rattle.gx_rules.specs.AtCoordinator.{and_cancels, and_cancels_all, cancels, coord_can, coord_rule, coord_turn, on_event}
use Rattle.gx_rules.specs.AtSegment.{seg_rule}
use Rattle.gx_rules.specs.Coordinators.{Coord, CoordTurn}
use Rattle.gx_rules.specs.Machine.{World, at_node, coord_did, delivered, happens, new_world, node_of, seg_can, seg_did, world_of}
use Rattle.gx_rules.specs.Rounds.{victims_at}
use Rattle.gx_rules.specs.Sending.{counted, numbered}
use Rattle.gx_rules.proofs.Rounds.{cancel-ways}
use Rattle.gx_rules.proofs.Turns.{cancels_all-each}
use Rattle.gx_law_order.proofs.Induction.{IsThere, happens-ways}
use Rattle.gx_law_order.proofs.Lists.{each_append}
use Rattle.gx_law_order.specs.Lists.{Each}
use Rattle.gx_law_order.proofs.Releases.{each-released}
use Rattle.gx_law_order.proofs.Sent.{at}
use Rattle.gx_law_order.proofs.World.{world_knows}
use Rattle.gx_law_order.specs.Finish.{AreVerdictsLegal, IsRestShown, IsVerdictLegal}
use Rattle.gx_law_order.specs.Rest.{AreRestLegal, EachMark, Rest}
use Rattle.gx_law_order.proofs.Doing.{event-does}
use Rattle.gx_law_order.proofs.Unsent.{world-unsent}
use Rattle.gx_law_order.proofs.Frame.{Effect, Quiet}
use Rattle.gx_law_order.proofs.Given.{marks-append, sent-rest}
use Rattle.gx_law_order.proofs.LegalSteps.{rest-last}
use Rattle.gx_law_order.proofs.Legality.{after-last, legal-with-rest, world-holds}

-- ONCE VERDICTS ARE LEGAL
abbrev Once : Script → Point → Mark → Type 0
Once script point m = IsVerdictLegal point m → Rest script point m

rest-once : (script : Script) (steps : List Step) (e : Event) (earlier ms later : List Mark) → EachMark (Rest script) steps e earlier ms later → EachMark (Once script) steps e earlier ms later
rest-once script steps e earlier [] later r = tt
rest-once script steps e earlier (m ∷ ms) later r = (λ v. r.0, rest-once script steps e (earlier ++ m ∷ []) ms later r.1)

quiet-once : (script : Script) (steps : List Step) (e : Event) (earlier ms later : List Mark) → Each Quiet ms → EachMark (Once script) steps e earlier ms later
quiet-once script steps e earlier [] later h = tt
quiet-once script steps e earlier (mark.Decided g ∷ ms) later h = (λ v. tt, quiet-once script steps e (earlier ++ mark.Decided g ∷ []) ms later h.1)
quiet-once script steps e earlier (mark.Recheck round own verdict ∷ ms) later h = (λ v. v, quiet-once script steps e (earlier ++ mark.Recheck round own verdict ∷ []) ms later h.1)
quiet-once script steps e earlier (m ∷ ms) later h = absurd h.0

once-rest : (script : Script) (steps : List Step) (e : Event) (earlier ms later : List Mark) → EachMark (Once script) steps e earlier ms later → EachMark IsVerdictLegal steps e earlier ms later → EachMark (Rest script) steps e earlier ms later
once-rest script steps e earlier [] later o v = tt
once-rest script steps e earlier (m ∷ ms) later o v = (o.0 v.0, once-rest script steps e (earlier ++ m ∷ []) ms later o.1 v.1)

verdicts-last : (before ss : List Step) (s : Step) → AreVerdictsLegal before (ss ++ s ∷ []) → EachMark IsVerdictLegal (before ++ ss) s.event [] s.marks []
verdicts-last before [] s v = subst (λ x. EachMark IsVerdictLegal x s.event [] s.marks []) (sym (append-nil before)) v.0
verdicts-last before (x ∷ ss) s v = subst (λ y. EachMark IsVerdictLegal y s.event [] s.marks []) (append_assoc before (x ∷ []) ss) (verdicts-last (before ++ x ∷ []) ss s v.1)

-- VICTIMS
-- of a victim's marks nothing is left to show
abbrev IsOfVictim : Mark → Type 0
IsOfVictim (mark.Abort g) = Unit {0}
IsOfVictim (mark.Answer s n (Refused (Victim round))) = Unit {0}
IsOfVictim (mark.Release n g object mode) = Unit {0}
IsOfVictim (mark.Sent to number message) = Unit {0}
IsOfVictim _ = ⊥

victim-rest : (script : Script) (steps : List Step) (e : Event) (earlier ms later : List Mark) → Each IsOfVictim ms → EachMark (Rest script) steps e earlier ms later
victim-rest script steps e earlier [] later h = tt
victim-rest script steps e earlier (mark.Abort g ∷ ms) later h = (tt, victim-rest script steps e (earlier ++ mark.Abort g ∷ []) ms later h.1)
victim-rest script steps e earlier (mark.Answer s n (Refused (Victim round)) ∷ ms) later h = (tt, victim-rest script steps e (earlier ++ mark.Answer s n (Refused (Victim round)) ∷ []) ms later h.1)
victim-rest script steps e earlier (mark.Release n g object mode ∷ ms) later h = (tt, victim-rest script steps e (earlier ++ mark.Release n g object mode ∷ []) ms later h.1)
victim-rest script steps e earlier (mark.Sent to number message ∷ ms) later h = (tt, victim-rest script steps e (earlier ++ mark.Sent to number message ∷ []) ms later h.1)
victim-rest script steps e earlier (m ∷ ms) later h = absurd h.0

numbered-victim : (f : ℕ → ℕ) (outs : List Out) → Each IsOfVictim (numbered f outs)
numbered-victim f [] = tt
numbered-victim f (o ∷ outs) = (tt, numbered-victim (counted f o) outs)

victim-marks : (c : Coord) (g : Gxid) → Each IsOfVictim (cancels c g).marks
victim-marks c g = cancel-ways (λ (t : CoordTurn). Each IsOfVictim t.marks) c g tt (λ live busy. (tt, (tt, each-released IsOfVictim the_coordinator c.locks g (λ claim. tt))))

-- the marks of a whole event are those of its turn and its victims'
record IsWith (turn all : CoordTurn) : Type 0 where
  added : List Mark
  is : all.marks ≡ turn.marks ++ added
  of : Each IsOfVictim added

with-victims : (turn : CoordTurn) (gs : List Gxid) → IsWith turn (and_cancels_all gs turn)
with-victims turn gs = cancels_all-each (IsWith turn) one gs turn (record { added = []; is = sym (append-nil turn.marks); of = tt })
  where
    one : (t : CoordTurn) (g : Gxid) → IsWith turn t → IsWith turn (and_cancels t g)
    one t g h =
        let next = cancels t.coord g in
        record {
          added = h.added ++ (next.marks ++ numbered next.coord.sent next.outs);
          is = ap (λ q. q ++ (next.marks ++ numbered next.coord.sent next.outs)) h.is ∙ append_assoc turn.marks h.added _;
          of = each_append IsOfVictim h.added _ h.of (each_append IsOfVictim next.marks _ (victim-marks t.coord g) (numbered-victim next.coord.sent next.outs));
        }

-- ONE EVENT MORE
module _ (script : Script) (some : 1 ≤ script.segments) (shown : IsRestShown script) (done : List (Event × Bool)) (rest : AreRestLegal script [] (world_of script done).steps) (e : Event) (fails : Bool) where
  abbrev w : World
  w = world_of script done

  turn-once : (x : NodeEvent) → Effect script w.steps w.coord e (on_event script w.coord x fails) → (later : List Mark) → EachMark (Once script) w.steps e [] (coord_turn script w.coord x fails).marks later
  turn-once x d later =
      marks-append (Once script) w.steps e [] did.marks _ later (by_effect d) (rest-once script w.steps e did.marks _ later (sent-rest script w.steps e did.coord.sent did.outs did.marks later))
    where
      did : CoordTurn
      did = on_event script w.coord x fails

      by_effect : Effect script w.steps w.coord e (on_event script w.coord x fails) → EachMark (Once script) w.steps e [] (on_event script w.coord x fails).marks (numbered (on_event script w.coord x fails).coord.sent (on_event script w.coord x fails).outs ++ later)
      by_effect (inl a) = rest-once script w.steps e [] _ _ (a.rest (shown.commands done) _)
      by_effect (inr a) = quiet-once script w.steps e [] _ _ a.quiet

  rule-once : (x : NodeEvent) → Effect script w.steps w.coord e (on_event script w.coord x fails) → EachMark (Once script) w.steps e [] (coord_rule script w.coord x fails).marks []
  rule-once x d =
      let h = with-victims (coord_turn script w.coord x fails) (victims_at w.coord x) in
      subst (λ ms. EachMark (Once script) w.steps e [] ms []) (sym h.is)
      (marks-append (Once script) w.steps e [] (coord_turn script w.coord x fails).marks h.added [] (turn-once x d _) (rest-once script w.steps e _ h.added [] (victim-rest script w.steps e _ h.added [] h.of)))

  -- its place and what is there
  abbrev IsPlace : Node → NodeEvent → Type 0
  IsPlace n x = (node_of e ≡ n) × (at_node w e ≡ Some x)

  place-is : (n : Node) (x : NodeEvent) → seg_can script (w.segs n.0) x ≡ true → IsThere script w e n x → IsPlace n x
  place-is n (here.Deliver from envelope) ok r = (ap node_of r.event, ap (at_node w) r.event ∙ ap (delivered from) r.found)
  place-is n (here.Resume g) ok r = (ap node_of r, ap (at_node w) r)
  place-is n (here.Start s) ok r = absurd (cc)
  place-is n (here.End s) ok r = absurd (cc)
  place-is n (here.Resend i g) ok r = absurd (cc)
  place-is n here.Round ok r = absurd (cc)

  abbrev IsNext : World → Type 0
  IsNext v = world_of script (done ++ (e, fails) ∷ []) ≡ v → AreRestLegal script [] v.steps

  turn-rest : (x : NodeEvent) → IsThere script w e the_coordinator x → coord_can script w.coord x ≡ true → IsNext (coord_did w e (coord_rule script w.coord x fails))
  turn-rest x t ok same =
      rest-last script [] w.steps _ rest
      (once-rest script w.steps e [] _ [] (rule-once x (event-does script some w (world_knows script some done) (world-holds script some done) (world-unsent script some done) e x fails t ok).effect)
      (verdicts-last [] w.steps _ (subst (λ v. AreVerdictsLegal [] v.steps) same (shown.verdicts (done ++ (e, fails) ∷ [])))))

  serve-rest : (x : NodeEvent) (i : ℕ) → IsSegment script (at i) → IsThere script w e (at i) x → seg_can script (w.segs i) x ≡ true → IsNext (seg_did w (at i) e (seg_rule script (w.segs i) x fails))
  serve-rest x i place t ok same = rest-last script [] w.steps _ rest (at-place (node_of e) (sym p.0) (shown.segments done e x fails))
    where
      p : IsPlace (at i) x
      p = place-is (at i) x ok t

      at-place : (n : Node) → at i ≡ n → (IsSegment script n → at_node w e ≡ Some x → seg_can script (w.segs n.0) x ≡ true → EachMark (Rest script) w.steps e [] (seg_rule script (w.segs n.0) x fails).marks [])
          → EachMark (Rest script) w.steps e [] (seg_rule script (w.segs i) x fails).marks []
      at-place n same f =
          subst (λ (m : Node). (IsSegment script m → at_node w e ≡ Some x → seg_can script (w.segs m.0) x ≡ true → EachMark (Rest script) w.steps e [] (seg_rule script (w.segs m.0) x fails).marks [])
          → EachMark (Rest script) w.steps e [] (seg_rule script (w.segs i) x fails).marks []) same (λ g. g place p.1 ok) f

  happens-rest : AreRestLegal script [] (world_of script (done ++ (e, fails) ∷ [])).steps
  happens-rest =
      subst (λ v. AreRestLegal script [] v.steps) (sym next)
      (happens-ways script w (world_knows script some done).well e fails IsNext (λ same. rest) turn-rest serve-rest next)
    where
      next : world_of script (done ++ (e, fails) ∷ []) ≡ happens script (world_of script done) e fails
      next = after-last script some new_world done (e, fails)

-- ALL EVENTS
module _ (script : Script) (some : 1 ≤ script.segments) (shown : IsRestShown script) where
  rest-from : (done es : List (Event × Bool)) → AreRestLegal script [] (world_of script done).steps → AreRestLegal script [] (world_of script (done ++ es)).steps
  rest-from done [] r = subst (λ q. AreRestLegal script [] (world_of script q).steps) (sym (append-nil done)) r
  rest-from done (x ∷ es) r = subst (λ q. AreRestLegal script [] (world_of script q).steps) (append_assoc done (x ∷ []) es) (rest-from (done ++ x ∷ []) es (happens-rest script some shown done r x.0 x.1))

  pub all-legal : (es : List (Event × Bool)) → AreLegalSteps script [] (world_of script es).steps
  all-legal es = legal-with-rest script some es (rest-from [] es tt)
