-- What holds of writes and of what segments tell, between steps; one step more; and a turn of the coordinator.
use Rattle.std.proofs.Common.{◌≡◌, ◌≤◌, ◌<◌, ℕ, ◌+◌, List, [], ◌∷◌, ◌++◌, Bool, refl, sym, subst, ap, ◌∙◌, arith, append-nil}
use Rattle.std.proofs.lemmas.List.{append_assoc}
use Rattle.gx_lemmas.proofs.Numbers.{one-le-none, plus-none}
use Rattle.gx_ids.specs.declared.ids.Cid.{Cid}
use Rattle.gx_ids.specs.declared.ids.Gxid.{Gxid}
use Rattle.gx_ids.specs.declared.ids.Node.{Node}
use Rattle.gx_script.specs.declared.Script.{Script}
use Rattle.gx_store.specs.declared.event.Event.{Event}
use Rattle.gx_store.specs.declared.mark.Mark.{Mark}
use Rattle.gx_store.specs.declared.mark.Mark.TheVariants as mark
use Rattle.gx_store.specs.declared.node.NodeEvent.{NodeEvent}
use Rattle.gx_store.specs.declared.run.Step.{Step}
use Rattle.gx_store.specs.Ordered.{IsAtNode, IsSegment}
use Rattle.gx_store.specs.Points.{marks_in}
use Rattle.gx_store.specs.Refusals.{the_coordinator}
use Rattle.gx_rules.specs.Machine.{World, after, coord_did}
use Rattle.gx_rules.specs.Segments.{Local, Seg}
use Rattle.gx_rules.specs.Sending.{clock_after}
use Rattle.gx_law_order.proofs.Lists.{each_append, each_weaker}
use Rattle.gx_law_order.specs.Lists.{Each}
use Rattle.gx_law_order.proofs.Ordered.{Well, at_coordinator}
use Rattle.gx_law_reads.specs.Sights.{DoViewsStay}
use Rattle.gx_law_writes.specs.Says.{count_at}
use Rattle.gx_law_writes.proofs.Half.{IsHalf}
use Rattle.gx_law_writes.proofs.SelectedRows.{HaveHomes}
use Rattle.gx_law_writes.proofs.Undone.{IsBegun, begun-later}
use Rattle.gx_store.specs.Language.{AreLinesNumbered}
use Rattle.gx_law_order.specs.Rest.{EachMark}
use Rattle.gx_law_order.specs.Standings.{at, gx}
use Rattle.gx_law_writes.specs.Homes.{AreRowsHome, IsPlacedMark}
use Rattle.gx_law_writes.specs.Writes.{AreWritesLegal, WriteLegal}
use Rattle.gx_law_writes.proofs.Homes.{homes-append, homes-more, homes-placed, no-writes-home}
use Rattle.gx_law_writes.proofs.Counting.{count-append, no-write-count}
use Rattle.gx_law_writes.proofs.Going.{homes-more as homes-behind, undone_in}
use Rattle.gx_law_writes.proofs.Halves.{no-write-free, waits-on}
use Rattle.gx_law_writes.proofs.Legal.{IsPastMark, no-writes-legal}
use Rattle.gx_law_writes.proofs.Next.{next_command}
use Rattle.gx_law_writes.proofs.Told.{IsAnswerOf, StepTold, answer-more, steps-more}
use Rattle.gx_law_writes.proofs.Turns.{NoWrite}
use Rattle.gx_rules.specs.AtCoordinator.{cancel_turn, cancels, coord_sends, coord_turn, on_event}
use Rattle.gx_rules.specs.Coordinators.{CoordTurn}
use Rattle.gx_rules.specs.Machine.{and_cancelled, with_more}
use Rattle.gx_rules.proofs.Turns.{with_more-last}
use Rattle.gx_law_order.proofs.AtCoordinators.{cancel_stays}
use Rattle.gx_law_order.proofs.Induction.{after_turn, marks-by-event, marks-by-victim}
use Rattle.gx_law_order.proofs.Moves.{HasNamed}
use Rattle.gx_law_order.proofs.Ordered.{sends-at}
use Rattle.gx_law_locks.proofs.Own.{last-there}
use Rattle.gx_store.specs.Ordered.{AreOrdered}

abbrev pub locals_in : (ℕ → Seg) → ℕ → ℕ → Local
locals_in segs i g = (segs i).locals g

-- the first of a transaction's commands that may still run at a segment
abbrev pub nexts_in : (ℕ → Seg) → ℕ → ℕ → ℕ
nexts_in segs i g = next_command ((segs i).locals g)

pub record Holds (script : Script) (segs : ℕ → Seg) (steps : List Step) : Type 0 where
  pub homes : AreRowsHome script (marks_in steps) [] (marks_in steps)
  pub past : Each (IsPastMark (nexts_in segs)) (marks_in steps)
  pub told : Each (StepTold script (marks_in steps) (locals_in segs)) steps
  pub kept : (i h : ℕ) → IsAnswerOf script (marks_in steps) (nexts_in segs i h) (at i) (gx h) ((segs i).locals h).answer
  pub legal : AreWritesLegal script [] steps
  pub begun : Each (IsBegun (marks_in steps) (undone_in segs)) (marks_in steps)
  pub halves : (i g : ℕ) → 1 ≤ i → IsHalf (marks_in steps) (segs i).versions (at i) (gx g) ((segs i).locals g).suspended

-- ONE STEP MORE
pub legal-push : (script : Script) (before ss : List Step) (s : Step) → AreWritesLegal script before ss → EachMark (WriteLegal script) (before ++ ss) s.event [] s.marks [] → AreWritesLegal script before (ss ++ s ∷ [])
legal-push script before [] s e h = (subst (λ b. EachMark (WriteLegal script) b s.event [] s.marks []) (append-nil before) h, tt)
legal-push script before (x ∷ ss) s e h = (e.0, legal-push script (before ++ x ∷ []) ss s e.1 (subst (λ b. EachMark (WriteLegal script) b s.event [] s.marks []) (sym (append_assoc before (x ∷ []) ss)) h))

pub lt-le : {a b c : ℕ} → a < b → b ≤ c → a < c
lt-le x y = omega arith

past-later : (f h : ℕ → ℕ → ℕ) (later : (i g : ℕ) → f i g ≤ h i g) (m : Mark) → IsPastMark f m → IsPastMark h m
past-later f h later (mark.Write g c n t r x) p = lt-le p (later n.0 r.gxid.0)
past-later f h later m p = tt

-- more marks in the last step
last-more : (script : Script) (before ss : List Step) (s : Step) (ms : List Mark) → AreWritesLegal script before (ss ++ s ∷ []) → Each NoWrite (s.marks ++ ms) → AreWritesLegal script before (ss ++ record s { marks = s.marks ++ ms } ∷ [])
last-more script before [] s ms e none = (no-writes-legal script before s.event [] (s.marks ++ ms) [] none, tt)
last-more script before (x ∷ ss) s ms e none = (e.0, last-more script (before ++ x ∷ []) ss s ms e.1 none)

each-last : {A : Type 0} (P : A → Type 0) (xs : List A) (x y : A) → Each P (xs ++ x ∷ []) → P y → Each P (xs ++ y ∷ [])
each-last P [] x y e p = (p, tt)
each-last P (z ∷ xs) x y e p = (e.0, each-last P xs x y e.1 p)

-- the steps have become others, with these marks behind all
module _ (script : Script) (numbered_lines : AreLinesNumbered [] script.lines) (segs next : ℕ → Seg) (steps new : List Step) (ns : List Mark) (all : marks_in new ≡ marks_in steps ++ ns) (later : (i g : ℕ) → nexts_in segs i g ≤ nexts_in next i g) (risen : (i g : ℕ) → undone_in segs i g ≤ undone_in next i g) where
  pub one-more : Holds script segs steps → AreRowsHome script (marks_in steps) (marks_in steps) ns → Each (IsPastMark (nexts_in next)) ns → Each (StepTold script (marks_in steps ++ ns) (locals_in next)) new → ((i h : ℕ) → IsAnswerOf script (marks_in steps ++ ns) (nexts_in next i h) (at i) (gx h) ((next i).locals h).answer) → AreWritesLegal script [] new
      → Each (IsBegun (marks_in steps ++ ns) (undone_in next)) ns → ((i g : ℕ) → 1 ≤ i → IsHalf (marks_in steps ++ ns) (next i).versions (at i) (gx g) ((next i).locals g).suspended) → Holds script next new
  one-more h homes past told kept legal begun halves =
      record {
        homes = subst (λ q. AreRowsHome script q [] q) (sym all) (homes-append script (marks_in steps ++ ns) [] (marks_in steps) ns (homes-more script (marks_in steps) ns [] (marks_in steps) h.homes) (homes-more script (marks_in steps) ns (marks_in steps) ns homes));
        past = subst (Each (IsPastMark (nexts_in next))) (sym all) (each_append (IsPastMark (nexts_in next)) (marks_in steps) ns (each_weaker (IsPastMark (nexts_in segs)) (IsPastMark (nexts_in next)) (λ m p. past-later (nexts_in segs) (nexts_in next) later m p) (marks_in steps) h.past) past);
        told = subst (λ q. Each (StepTold script q (locals_in next)) new) (sym all) told;
        kept = λ i g. subst (λ q. IsAnswerOf script q (nexts_in next i g) (at i) (gx g) ((next i).locals g).answer) (sym all) (kept i g);
        legal = legal;
        begun = subst (λ q. Each (IsBegun q (undone_in next)) q) (sym all) (each_append (IsBegun (marks_in steps ++ ns) (undone_in next)) (marks_in steps) ns (each_weaker (IsBegun (marks_in steps) (undone_in segs)) (IsBegun (marks_in steps ++ ns) (undone_in next)) (λ m p. begun-later (marks_in steps) ns (undone_in segs) (undone_in next) risen m p) (marks_in steps) h.begun) begun);
        halves = λ i g one. subst (λ q. IsHalf q (next i).versions (at i) (gx g) ((next i).locals g).suspended) (sym all) (halves i g one);
      }

-- WHO HAS RUN WRITES NO MORE
-- of a command that has run at a node, no more rows are written there
abbrev pub CountsStay : World → World → Type 0
CountsStay w v = (node : Node) (g : Gxid) (c : Cid) → c.0 < nexts_in w.segs node.0 g.0 → (count_at node g c (marks_in v.steps) ≡ count_at node g c (marks_in w.steps)) × (c.0 < nexts_in v.segs node.0 g.0)

pub counts-by : (before new after : List Mark) (node : Node) (g : Gxid) (c : Cid) → after ≡ before ++ new → count_at node g c new ≡ 0 → count_at node g c after ≡ count_at node g c before
counts-by before new after node g c is none = ap (count_at node g c) is ∙ count-append node g c before new ∙ ap (λ n. count_at node g c before + n) none ∙ plus-none (count_at node g c before)

-- what holds behind a turn
abbrev pub Leads : Script → World → World → Type 0
Leads script w v = Holds script v.segs v.steps × CountsStay w v

-- A TURN OF THE COORDINATOR
none-here : (script : Script) → IsSegment script the_coordinator → ⊥
none-here script e = one-le-none e.0

here-no-write : (script : Script) (ms : List Mark) → Each (IsAtNode script the_coordinator) ms → Each NoWrite ms
here-no-write script [] e = tt
here-no-write script (mark.Write g c n t r x ∷ ms) e = absurd (none-here script e.0.1)
here-no-write script (mark.Skip g c r ∷ ms) e = absurd (none-here script e.0)
here-no-write script (m ∷ ms) e = (tt, here-no-write script ms e.1)

pub no-write-begun : (all : List Mark) (firsts : ℕ → ℕ → ℕ) (m : Mark) → NoWrite m → IsBegun all firsts m
no-write-begun all firsts (mark.Write g c n t r x) e = absurd e
no-write-begun all firsts (mark.Skip g c r) e = absurd e
no-write-begun all firsts m e = tt

no-write-placed : (script : Script) (ms : List Mark) (m : Mark) → NoWrite m → IsPlacedMark script ms m
no-write-placed script ms (mark.Write g c n t r x) e = absurd e
no-write-placed script ms m e = tt

pub no-write-past : (nexts : ℕ → ℕ → ℕ) (m : Mark) → NoWrite m → IsPastMark nexts m
no-write-past nexts (mark.Write g c n t r x) e = absurd e
no-write-past nexts m e = tt

pub le-same : (a : ℕ) → a ≤ a
le-same a = omega arith

module _ (script : Script) (some : 1 ≤ script.segments) (numbered_lines : AreLinesNumbered [] script.lines) where
  -- a single turn of the coordinator, with what it sends
  module _ (w : World) (n : Well script w) (h : Holds script w.segs w.steps) (turn : CoordTurn) (clock : ℕ) (new : List Step) (same : marks_in new ≡ marks_in w.steps ++ (coord_sends clock turn).marks) (there : Each (IsAtNode script the_coordinator) (coord_sends clock turn).marks) (stay : DoViewsStay w (after_turn w clock turn new)) where
    abbrev ns : List Mark
    ns = (coord_sends clock turn).marks

    none : Each NoWrite ns
    none = here-no-write script ns there

    homes-now : HaveHomes (marks_in w.steps ++ ns)
    homes-now =
        homes-behind script (marks_in w.steps) ns (homes-placed script (marks_in w.steps) [] (marks_in w.steps) h.homes)
        (each_weaker NoWrite (IsPlacedMark script (marks_in w.steps)) (λ m k. no-write-placed script (marks_in w.steps) m k) ns none)

    turn-leads : Each (StepTold script (marks_in w.steps ++ ns) (locals_in w.segs)) new → AreWritesLegal script [] new → Leads script w (after_turn w clock turn new)
    turn-leads told legal = (
      one-more script numbered_lines w.segs w.segs w.steps new ns same (λ i g. le-same (nexts_in w.segs i g)) (λ i g. le-same (undone_in w.segs i g)) h
          (no-writes-home script (marks_in w.steps) (marks_in w.steps) ns none) (each_weaker NoWrite (IsPastMark (nexts_in w.segs)) (λ m k. no-write-past (nexts_in w.segs) m k) ns none) told
          (λ i g. answer-more script numbered_lines (marks_in w.steps) ns _ _ (at i) (gx g) ((w.segs i).locals g).answer (le-same (nexts_in w.segs i g)) (h.kept i g)) legal
          (each_weaker NoWrite (IsBegun (marks_in w.steps ++ ns) (undone_in w.segs)) (λ m k. no-write-begun (marks_in w.steps ++ ns) (undone_in w.segs) m k) ns none)
          (λ i g one. waits-on script w (after_turn w clock turn new) n stay ns same homes-now i (gx g) (w.segs i).versions (λ alive c rid home. no-write-free ns (gx g) c rid none) (λ c. refl) ((w.segs i).locals g).suspended refl (h.halves i g one)),
      λ node g c ran. (counts-by (marks_in w.steps) ns (marks_in new) node g c same (no-write-count node g c ns none), ran),
    )

    -- what was told before
    told-before : Each (StepTold script (marks_in w.steps ++ ns) (locals_in w.segs)) w.steps
    told-before = steps-more script numbered_lines (marks_in w.steps) ns (locals_in w.segs) (locals_in w.segs) (λ i g. le-same (nexts_in w.segs i g)) w.steps h.told

  pub coord-leads : (w : World) → Well script w → Holds script w.segs w.steps → (e : Event) (x : NodeEvent) (fails : Bool) → DoViewsStay w (coord_did w e (coord_turn script w.coord x fails)) → Leads script w (coord_did w e (coord_turn script w.coord x fails))
  coord-leads w n h e x fails stay =
      turn-leads w n h (on_event script w.coord x fails) (clock_after w.coord.clock x) (w.steps ++ step ∷ []) (marks-by-event script w e x fails) there stay
      (each_append (StepTold script (marks_in w.steps ++ step.marks) (locals_in w.segs)) w.steps (step ∷ []) (told-before w n h (on_event script w.coord x fails) (clock_after w.coord.clock x) (w.steps ++ step ∷ []) (marks-by-event script w e x fails) there stay) (λ one. absurd (one-le-none one), tt))
      (legal-push script [] w.steps step h.legal (no-writes-legal script w.steps e [] step.marks [] (here-no-write script step.marks there)))
    where
      step : Step
      step = record { stamp = record { clock = clock_after w.coord.clock x; node = the_coordinator }; event = e; marks = (coord_turn script w.coord x fails).marks }

      there : Each (IsAtNode script the_coordinator) (coord_turn script w.coord x fails).marks
      there = at_coordinator script some w n e x fails

  pub cancel-leads : (w : World) → Well script w → Holds script w.segs w.steps → (g : Gxid) → HasNamed w.steps w.coord.clock w.coord.rounds g → DoViewsStay w (and_cancelled w g) → Leads script w (and_cancelled w g)
  cancel-leads w n h g a stay =
      turn-leads w n h (cancels w.coord g) w.coord.clock (and_cancelled w g).steps (marks-by-victim w g a) there stay
      (subst (Each (StepTold script (marks_in w.steps ++ more) (locals_in w.segs))) (sym now)
      (each-last (StepTold script (marks_in w.steps ++ more) (locals_in w.segs)) a.before a.step (record a.step { marks = a.step.marks ++ more })
      (subst (Each (StepTold script (marks_in w.steps ++ more) (locals_in w.segs))) a.is (told-before w n h (cancels w.coord g) w.coord.clock (and_cancelled w g).steps (marks-by-victim w g a) there stay))
      (λ one. absurd (one-le-none (subst (λ (m : Node). 1 ≤ m.0) a.node one)))))
      (subst (AreWritesLegal script []) (sym now)
      (last-more script [] a.before a.step more (subst (AreWritesLegal script []) a.is h.legal) (here-no-write script (a.step.marks ++ more) (each_append (IsAtNode script the_coordinator) a.step.marks more before there))))
    where
      more : List Mark
      more = (cancel_turn w.coord g).marks

      there : Each (IsAtNode script the_coordinator) (cancel_turn w.coord g).marks
      there = sends-at script w.coord.sent (cancels w.coord g) w.coord.clock (cancel_stays script some w.coord g n.coordinator)

      before : Each (IsAtNode script the_coordinator) a.step.marks
      before = subst (λ (m : Node). Each (IsAtNode script m) a.step.marks) a.node (last-there script [] a.before a.step (subst (AreOrdered script []) a.is n.steps))

      now : (and_cancelled w g).steps ≡ a.before ++ record a.step { marks = a.step.marks ++ more } ∷ []
      now = ap (λ ss. with_more ss more) a.is ∙ with_more-last a.before a.step more
