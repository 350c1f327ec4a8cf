-- Where a round names somebody, its stuck waits stand, and whoever it names is named rightly.
use Rattle.std.proofs.Common.{◌≡◌, inl, inr, ℕ, zero, suc, ◌+◌, List, [], ◌∷◌, ◌++◌, Some, true, refl, sym, subst, ap, ◌∙◌, append_assoc, append-nil}
use Rattle.std.specs.Prelude.{Contains, slice_get}
use Rattle.gx_ids.specs.declared.ids.Gxid.{Gxid}
use Rattle.gx_ids.specs.declared.ids.Node.{Node}
use Rattle.gx_msg.specs.declared.message.Message.{Message}
use Rattle.gx_msg.specs.declared.message.Message.TheVariants as message
use Rattle.gx_script.specs.declared.Script.{Script}
use Rattle.gx_waits.specs.Closed.{IsNamedInStuck, IsStuck}
use Rattle.gx_waits.specs.LocalGraph.{edges_of}
use Rattle.gx_waits.specs.Victims.{IsVerdict}
use Rattle.gx_waits.specs.declared.graph.LocalGraph.{LocalGraph}
use Rattle.gx_waits.specs.declared.placed_edge.PlacedEdge.{PlacedEdge}
use Rattle.gx_waits.specs.declared.verdict.Verdict.{Verdict}
use Rattle.gx_waits.specs.declared.verdict.Verdict.TheVariants.{Dropped, Nothing, Victims}
use Rattle.gx_store.specs.Cancelled.{AreNamedRightly, AreVictimsAt, DoStuckStand, EachRecheck, EachRecheckIn}
use Rattle.gx_store.specs.declared.mark.Mark.{Mark}
use Rattle.gx_store.specs.declared.mark.Mark.TheVariants as mark
use Rattle.gx_store.specs.declared.run.Step.{Step}
use Rattle.gx_store.specs.Messages.{IsSent, ReceivesAt}
use Rattle.gx_store.specs.Points.{Point, before, marks_in}
use Rattle.gx_store.specs.Refusals.{the_coordinator}
use Rattle.gx_store.specs.Rounds.{AreRechecksIn, AreReportsOf, AreRounds, IsGraphAt, IsRecheck, IsReportOf, StandsAt, is_active}
use Rattle.gx_law_locks.specs.Gathered.{AreGathered, AreNoted}
use Rattle.gx_law_locks.specs.Reports.{IsReported, IsStuckBlocked}
use Rattle.gx_law_locks.proofs.FirstReports.{AreSentOnce, one-reports}
use Rattle.gx_law_locks.proofs.Gathered.{stuck-stands}
use Rattle.gx_law_locks.proofs.Named.{rightly-named}
use Rattle.gx_law_locks.proofs.Noted.{sent-by-then, sent-reported}

-- so it is of every run whose rounds are the definition's
pub noted-of : (script : Script) (done ss : List Step) → AreRounds script done ss → AreNoted done ss
noted-of script done [] e = tt
noted-of script done (s ∷ ss) e = (e.1, e.2, noted-of script (done ++ s ∷ []) ss e.5)

reported-more : (ms ns : List Mark) (graph : LocalGraph) → IsReported ms graph → IsReported (ms ++ ns) graph
reported-more ms ns graph r = record { before = r.before; later = r.later ++ ns; point = ap (λ q. q ++ ns) r.point ∙ append_assoc r.before r.later ns; tells = r.tells }

-- THE GRAPHS OF A ROUND
module _ (script : Script) (point : Point) (noted : AreNoted [] point.steps) where
  reported-of : (round : ℕ) (segment : Node) (graph : LocalGraph) → IsReportOf point round segment graph → (graph.node ≡ segment) × IsReported (before point) graph
  reported-of round segment graph r = by_place r.received
    where
      told : (number : ℕ) → IsSent point.steps segment the_coordinator number (message.Graph round graph) → (graph.node ≡ segment) × IsReported (before point) graph
      told number s = let q = sent-reported point.steps noted segment the_coordinator number round graph s in (q.0, reported-more (marks_in point.steps) point.earlier graph q.1)

      by_place : ReceivesAt point r.at segment the_coordinator (message.Graph round graph) → (graph.node ≡ segment) × IsReported (before point) graph
      by_place (inl x) = told x.2.number (sent-by-then point.steps r.at segment the_coordinator x.2.number (message.Graph round graph) x.2.sent)
      by_place (inr x) = told x.1.number x.1.sent

  pub gathered : (round : ℕ) (own : LocalGraph) (reports : List LocalGraph) → IsGraphAt (before point) the_coordinator own → AreReportsOf script point round reports → AreGathered (before point) own reports
  gathered round own reports here are =
      record {
        here = here;
        nodes = λ i graph is. (reported-of round (record { 0 = i + 1 }) graph (are.each i graph is)).0;
        reported = λ i graph is. (reported-of round (record { 0 = i + 1 }) graph (are.each i graph is)).1;
      }

  -- THE END OF A ROUND
  module _ (round : ℕ) (own : LocalGraph) (verdict : Verdict) (is : IsRecheck script point round own verdict) (law : IsStuckBlocked (before point))
      (determined : (xs ys : List LocalGraph) → AreReportsOf script point round xs → AreReportsOf script point round ys → xs ≡ ys)
    where
      are : AreGathered (before point) own is.reports
      are = gathered round own is.reports is.here is.are_reports

      active : ((v : Gxid) → IsNamedInStuck (edges_of (own ∷ is.reports)) v → Contains is.active v) → (g : Gxid) → IsNamedInStuck (edges_of (own ∷ is.reports)) g → is_active (before point) g ≡ true
      active all g n = is.are_active g (all g n)

      pub do-stand : DoStuckStand script point round own verdict
      do-stand = by_verdict verdict is.follows
        where
          by_verdict : (v : Verdict) → IsVerdict (edges_of (own ∷ is.reports)) is.active v → DoStuckStand script point round own v
          by_verdict (Victims victims) f = λ reports all.
              subst (λ rs. (e : PlacedEdge) → IsStuck (edges_of (own ∷ rs)) e → StandsAt (before point) e) (determined is.reports reports is.are_reports all)
              (stuck-stands (before point) own is.reports are law (active f.1))
          by_verdict Nothing f = tt
          by_verdict (Dropped g) f = tt

      pub are-named-rightly : AreNamedRightly script point round own verdict
      are-named-rightly = by_verdict verdict is.follows
        where
          by_verdict : (v : Verdict) → IsVerdict (edges_of (own ∷ is.reports)) is.active v → AreNamedRightly script point round own v
          by_verdict (Victims victims) f = λ reports all.
              subst (λ rs. AreVictimsAt script point (edges_of (own ∷ rs)) [] victims) (determined is.reports reports is.are_reports all)
              (rightly-named script point is.first own is.reports is.are_reports.all are law (active f.1) victims f.2)
          by_verdict Nothing f = tt
          by_verdict (Dropped g) f = tt

-- ALL ROUNDS OF A RUN
module _ (script : Script) (all : List Step) (P : Point → ℕ → LocalGraph → Verdict → Type 0)
    (one : (point : Point) (step : Step) (rest : List Step) → all ≡ point.steps ++ step ∷ rest → (round : ℕ) (own : LocalGraph) (verdict : Verdict) → IsRecheck script point round own verdict → P point round own verdict)
  where
    each-in : (done : List Step) (s : Step) (rest : List Step) → all ≡ done ++ s ∷ rest → (earlier ms : List Mark) → AreRechecksIn script done s.event earlier ms → EachRecheckIn P done s.event earlier ms
    each-in done s rest split earlier [] e = tt
    each-in done s rest split earlier (mark.Recheck round own verdict ∷ ms) e = (
      one (record { steps = done; event = s.event; earlier = earlier; later = ms }) s rest split round own verdict e.0,
      each-in done s rest split (earlier ++ mark.Recheck round own verdict ∷ []) ms e.1,
    )
    each-in done s rest split earlier (m ∷ ms) e = each-in done s rest split (earlier ++ m ∷ []) ms e

    each-of : (done ss : List Step) → all ≡ done ++ ss → AreRounds script done ss → EachRecheck P done ss
    each-of done [] split e = tt
    each-of done (s ∷ ss) split e = (each-in done s ss split [] s.marks e.3, each-of (done ++ s ∷ []) ss (split ∙ sym (append_assoc done (s ∷ []) ss)) e.5)

get-front : {A : Type 0} (xs ys : List A) (i : ℕ) (x : A) → slice_get xs i ≡ Some x → slice_get (xs ++ ys) i ≡ Some x
get-front [] ys i x e = absurd (cc)
get-front (y ∷ xs) ys zero x e = e
get-front (y ∷ xs) ys (suc i) x e = get-front xs ys i x e

sent-more : (xs ys : List Step) (from to : Node) (number : ℕ) (m : Message) → IsSent xs from to number m → IsSent (xs ++ ys) from to number m
sent-more xs ys from to number m s =
    record {
      step = s.step;
      mark = s.mark;
      sending = record { sender = s.sending.sender; at = get-front xs ys s.step s.sending.sender s.sending.at; node = s.sending.node; sent = s.sending.sent };
    }

noted-front : (done xs ys : List Step) → AreNoted done (xs ++ ys) → AreNoted done xs
noted-front done [] ys e = tt
noted-front done (x ∷ xs) ys e = (e.0, e.1, noted-front (done ++ x ∷ []) xs ys e.2)

marks-append : (xs ys : List Step) → marks_in (xs ++ ys) ≡ marks_in xs ++ marks_in ys
marks-append [] ys = refl
marks-append (x ∷ xs) ys = ap (λ ms. x.marks ++ ms) (marks-append xs ys) ∙ sym (append_assoc x.marks (marks_in xs) (marks_in ys))

-- Of a run whose rounds are the definition's, in which no two messages of a link have the same number, and at whose points what is stuck
-- by reports is blocked.
module _ (script : Script) (steps : List Step) (rounds : AreRounds script [] steps) (once : AreSentOnce steps) (law : (before later : List Mark) → marks_in steps ≡ before ++ later → IsStuckBlocked before) where
  module _ (point : Point) (step : Step) (rest : List Step) (split : steps ≡ point.steps ++ step ∷ rest) where
    noted-there : AreNoted [] point.steps
    noted-there = noted-front [] point.steps (step ∷ rest) (subst (AreNoted []) split (noted-of script [] steps rounds))

    law-there : point.earlier ≡ [] → IsStuckBlocked (before point)
    law-there first =
        law (before point) (marks_in (step ∷ rest))
        (ap marks_in split ∙ marks-append point.steps (step ∷ rest)
        ∙ ap (λ ms. ms ++ marks_in (step ∷ rest)) (sym (append-nil (marks_in point.steps)) ∙ ap (λ ms. marks_in point.steps ++ ms) (sym first)))

    once-there : AreSentOnce point.steps
    once-there from to number m n x y = once from to number m n (subst (λ ss. IsSent ss from to number m) (sym split) (sent-more point.steps (step ∷ rest) from to number m x)) (subst (λ ss. IsSent ss from to number n) (sym split) (sent-more point.steps (step ∷ rest) from to number n y))

    stand-there : (round : ℕ) (own : LocalGraph) (verdict : Verdict) → IsRecheck script point round own verdict → DoStuckStand script point round own verdict
    stand-there round own verdict is = do-stand script point noted-there round own verdict is (law-there is.first) (one-reports point once-there script round)

    named-there : (round : ℕ) (own : LocalGraph) (verdict : Verdict) → IsRecheck script point round own verdict → AreNamedRightly script point round own verdict
    named-there round own verdict is = are-named-rightly script point noted-there round own verdict is (law-there is.first) (one-reports point once-there script round)

  pub each-stands : EachRecheck (DoStuckStand script) [] steps
  each-stands = each-of script steps (DoStuckStand script) stand-there [] steps refl rounds

  pub each-rightly-named : EachRecheck (AreNamedRightly script) [] steps
  each-rightly-named = each-of script steps (AreNamedRightly script) named-there [] steps refl rounds
