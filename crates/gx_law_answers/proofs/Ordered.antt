-- Each write of a segment is of a command whose EXEC the coordinator has sent to it.
use Rattle.std.proofs.Common.{◌≡◌, ◌≤◌, inl, inr, List, [], ◌∷◌, ◌++◌, Option, Bool, sym, subst, ap, ◌∙◌, ◌⊎◌}
use Rattle.gx_lemmas.proofs.Numbers.{one-le-none}
use Rattle.gx_ids.specs.declared.ids.Cid.{Cid}
use Rattle.gx_ids.specs.declared.ids.Gxid.{Gxid}
use Rattle.gx_ids.specs.declared.ids.Node.{Node}
use Rattle.gx_tree.specs.declared.slice.Slice.{Slice}
use Rattle.gx_tree.specs.declared.stmt.Level.{Level}
use Rattle.gx_dsnap.specs.declared.snapshot.Snapshot.{Snapshot}
use Rattle.gx_waits.specs.declared.object.Object.{Object}
use Rattle.gx_waits.specs.declared.object.Object.TheVariants.{Relation, Transaction, Tuple}
use Rattle.gx_msg.specs.declared.message.Message.TheVariants as message
use Rattle.gx_script.specs.declared.Script.{Script}
use Rattle.gx_store.specs.declared.event.Event.{Event}
use Rattle.gx_store.specs.declared.mark.Mark.{Mark}
use Rattle.gx_store.specs.declared.mark.Mark.TheVariants as mark
use Rattle.gx_store.specs.declared.node.NodeEvent.{NodeEvent}
use Rattle.gx_store.specs.declared.run.Step.{Step}
use Rattle.gx_store.specs.Language.{AreLinesNumbered}
use Rattle.gx_store.specs.Ordered.{IsAtNode, IsSegment}
use Rattle.gx_store.specs.Points.{marks_in}
use Rattle.gx_store.specs.Refusals.{the_coordinator}
use Rattle.gx_rules.specs.AtCoordinator.{coord_rule}
use Rattle.gx_rules.specs.AtSegment.{on_event, raised}
use Rattle.gx_rules.specs.Locks.{hold_mark}
use Rattle.gx_rules.specs.Machine.{World, coord_did, world_of}
use Rattle.gx_rules.specs.Running.{is_granted, unless_end}
use Rattle.gx_rules.specs.Segments.{Seg, SegTurn}
use Rattle.gx_rules.specs.Sending.{numbered}
use Rattle.gx_rules.specs.Slices.{Moved}
use Rattle.gx_law_order.proofs.Changing.{change-parts}
use Rattle.gx_law_order.proofs.Lists.{each_append, each_weaker}
use Rattle.gx_law_order.specs.Lists.{Each}
use Rattle.gx_law_order.proofs.Ordered.{rule-at, world_well}
use Rattle.gx_law_order.proofs.Waiting.{freed}
use Rattle.gx_law_order.proofs.More.{marks-last}
use Rattle.gx_law_order.specs.Orders.{IsOrder}
use Rattle.gx_law_order.proofs.Outs.{order-more}
use Rattle.gx_law_writes.proofs.Frames.{IsWork}
use Rattle.gx_law_writes.proofs.Legal.{sent-no-write}
use Rattle.gx_law_writes.proofs.Turns.{NoRow, NoWrite}
use Rattle.gx_law_answers.specs.Earned.{Events}
use Rattle.gx_law_answers.proofs.Running.{AtItsRow, Doings, IsLate, Runs}
use Rattle.gx_law_answers.proofs.Stepping.{Kept, all-keep}
use Rattle.gx_law_answers.proofs.Work.{WorkSoFar, loop-works, slice-works}

pub record HasOrder (script : Script) (ms : List Mark) (node : Node) (g : Gxid) (c : Cid) : Type 0 where
  pub level : Level
  pub snapshot : Option Snapshot
  pub slice : Slice
  pub order : IsOrder script ms node g c level snapshot slice

abbrev pub IsOrderedMark : Script → List Mark → Mark → Type 0
IsOrderedMark script ms (mark.Write g c node t r x) = HasOrder script ms node g c
IsOrderedMark script ms _ = Unit {0}

-- ---- marks
pub here-no-write : (script : Script) (ms : List Mark) → Each (IsAtNode script the_coordinator) ms → Each NoWrite ms
here-no-write script [] e = tt
here-no-write script (mark.Write g c n t r x ∷ ms) e = absurd (one-le-none e.0.1.0)
here-no-write script (mark.Skip g c r ∷ ms) e = absurd (one-le-none e.0.0)
here-no-write script (m ∷ ms) e = (tt, here-no-write script ms e.1)

no-write-ordered : (script : Script) (ms xs : List Mark) → Each NoWrite xs → Each (IsOrderedMark script ms) xs
no-write-ordered script ms [] e = tt
no-write-ordered script ms (mark.Write g c n t r x ∷ xs) e = absurd e.0
no-write-ordered script ms (m ∷ xs) e = (tt, no-write-ordered script ms xs e.1)

no-row-write : (ms : List Mark) → Each NoRow ms → Each NoWrite ms
no-row-write [] e = tt
no-row-write (mark.Write g c n t r x ∷ ms) e = absurd e.0
no-row-write (mark.Skip g c r ∷ ms) e = absurd e.0
no-row-write (mark.Fault g c r x ∷ ms) e = (tt, no-row-write ms e.1)
no-row-write (m ∷ ms) e = (tt, no-row-write ms e.1)

work-ordered : (script : Script) (ms : List Mark) (node : Node) (g : Gxid) (c : Cid) → HasOrder script ms node g c → (xs : List Mark) → Each (IsWork node g c) xs → Each (IsOrderedMark script ms) xs
work-ordered script ms node g c o [] e = tt
work-ordered script ms node g c o (mark.Write h d n t r x ∷ xs) e =
    (subst (λ n. HasOrder script ms n h d) (sym e.0.2) (subst (λ d. HasOrder script ms node h d) (sym e.0.1) (subst (λ h. HasOrder script ms node h c) (sym e.0.0) o)), work-ordered script ms node g c o xs e.1)
work-ordered script ms node g c o (m ∷ xs) e = (tt, work-ordered script ms node g c o xs e.1)

module _ (script : Script) (some : 1 ≤ script.segments) (numbered_lines : AreLinesNumbered [] script.lines) where
  abbrev IsSo : Events → Type 0
  IsSo es = Each (IsOrderedMark script (marks_in (world_of script es).steps)) (marks_in (world_of script es).steps)

  has-more : (ms ns : List Mark) (node : Node) (g : Gxid) (c : Cid) → HasOrder script ms node g c → HasOrder script (ms ++ ns) node g c
  has-more ms ns node g c o = record { level = o.level; snapshot = o.snapshot; slice = o.slice; order = order-more script ms ns node (message.Exec g c o.level o.snapshot g o.slice) (λ n. o.order) numbered_lines }

  one-more : (ms ns : List Mark) (m : Mark) → IsOrderedMark script ms m → IsOrderedMark script (ms ++ ns) m
  one-more ms ns (mark.Write g c n t r x) o = has-more ms ns n g c o
  one-more ms ns m o = tt

  -- a step more
  step-so : (es : Events) (v : World) (s : Step) → v.steps ≡ (world_of script es).steps ++ s ∷ [] → Each (IsOrderedMark script (marks_in (world_of script es).steps ++ s.marks)) s.marks → IsSo es → Each (IsOrderedMark script (marks_in v.steps)) (marks_in v.steps)
  step-so es v s is new old =
      subst (λ m. Each (IsOrderedMark script m) m) (sym (ap marks_in is ∙ marks-last (world_of script es).steps s))
      (each_append (IsOrderedMark script (ms ++ s.marks)) ms s.marks (each_weaker (IsOrderedMark script ms) (IsOrderedMark script (ms ++ s.marks)) (λ m o. one-more ms s.marks m o) ms old) new)
    where
      ms : List Mark
      ms = marks_in (world_of script es).steps

  coord-so : (es : Events) (e : Event) (fails : Bool) (x : NodeEvent) → world_of script (es ++ (e, fails) ∷ []) ≡ coord_did (world_of script es) e (coord_rule script (world_of script es).coord x fails) → IsSo es → IsSo (es ++ (e, fails) ∷ [])
  coord-so es e fails x is old =
      step-so es (world_of script (es ++ (e, fails) ∷ [])) _ (ap (λ (v : World). v.steps) is)
      (no-write-ordered script _ (coord_rule script (world_of script es).coord x fails).marks (here-no-write script (coord_rule script (world_of script es).coord x fails).marks (rule-at script some (world_of script es).coord x fails (world_well script some es).coordinator))) old

  -- A SEGMENT'S STEP
  module _ (es : Events) (to : Node) (e : Event) (fails : Bool) (x : NodeEvent) (place : IsSegment script to) (late : IsLate script es to e fails x) where
    abbrev ms : List Mark
    ms = marks_in (world_of script es).steps

    abbrev s : Seg
    s = (world_of script es).segs to.0

    abbrev turn : SegTurn
    turn = on_event script ((world_of script es).segs to.0) x fails

    abbrev sent : List Mark
    sent = numbered (λ node. turn.seg.sent) turn.outs

    named : s.node ≡ to
    named = (world_well script some es).names to.0

    -- the command whose work its marks are
    pub record HasWorked : Type 0 where
      pub g : Gxid
      pub c : Cid
      pub its : HasOrder script ms to g c
      pub work : Each (IsWork to g c) turn.marks

    run-works : (y : Slice) → Runs script es to e fails x y → HasWorked
    run-works y z =
        record {
          g = z.g;
          c = z.c;
          its = record { level = z.level; snapshot = z.snapshot; slice = y; order = z.came.order_is numbered_lines };
          work = subst (λ (t : SegTurn). Each (IsWork to z.g z.c) t.marks) (sym z.ran) (tt, slice-works to z.g (record (raised z.like z.horizon) { locks = z.locks }) (z.named ∙ named) z.c z.level z.snapshot y);
        }

    row-works : AtItsRow script es to e fails x → HasWorked
    row-works z =
        record {
          g = z.g;
          c = z.on.slice.cid;
          its = record { level = z.on.slice.level; snapshot = z.on.slice.snapshot; slice = z.on.slice.slice; order = z.came.order_is numbered_lines };
          work = subst (λ c. Each (IsWork to z.g c) turn.marks) (change-parts z.on.slice.cid z.on.slice.level z.on.slice.snapshot z.on.slice.slice k z.goes.at.changes).cid
              (subst (λ (t : SegTurn). Each (IsWork to z.g k.cid) t.marks) (sym z.goes.is) (loop-works to z.g k (z.goes.at.rid ∷ z.on.slice.rows) (is_granted s z.g z.on.wanted) z.on.slice.count granted));
        }
      where
        k : Rattle.gx_rules.specs.Changes.Change
        k = z.goes.at.change

        held : Moved
        held = record { seg = freed s z.g z.on.wanted; marks = hold_mark s.node z.on.wanted ∷ [] }

        by_object : (o : Object) → WorkSoFar to z.g k.cid (unless_end z.on.wanted o held)
        by_object (Transaction other) = record { node = named; work = (tt, (tt, tt)) }
        by_object (Relation table) = record { node = named; work = (tt, tt) }
        by_object (Tuple rid) = record { node = named; work = (tt, tt) }

        granted : WorkSoFar to z.g k.cid (is_granted s z.g z.on.wanted)
        granted = by_object z.on.wanted.object

    -- its marks write nothing, or are a command's work
    pub turn-works : Doings script es to e fails x → Each NoWrite (on_event script ((world_of script es).segs to.0) x fails).marks ⊎ HasWorked
    turn-works (inl q) = inl (no-row-write turn.marks q.marks)
    turn-works (inr (inl q)) = inl (no-row-write turn.marks q.marks)
    turn-works (inr (inr (inl z))) = inr (run-works z.0 z.1)
    turn-works (inr (inr (inr z))) = inr (row-works z)

    turn-so : Doings script es to e fails x → Each (IsOrderedMark script (ms ++ (turn.marks ++ sent))) turn.marks
    turn-so does-it = by_way (turn-works does-it)
      where
        by_way : Each NoWrite turn.marks ⊎ HasWorked → Each (IsOrderedMark script (ms ++ (turn.marks ++ sent))) turn.marks
        by_way (inl q) = no-write-ordered script _ turn.marks q
        by_way (inr h) = work-ordered script _ to h.g h.c (has-more ms _ to h.g h.c h.its) turn.marks h.work

    seg-so : Doings script es to e fails x → IsSo es → IsSo (es ++ (e, fails) ∷ [])
    seg-so does-it old =
        step-so es (world_of script (es ++ (e, fails) ∷ [])) _ (ap (λ (v : World). v.steps) late)
        (each_append (IsOrderedMark script (ms ++ (turn.marks ++ sent))) turn.marks sent (turn-so does-it) (no-write-ordered script _ sent (sent-no-write (λ node. turn.seg.sent) turn.outs))) old

  kept-so : Kept script some numbered_lines IsSo
  kept-so =
      record {
        still = λ es e fails is old. subst (λ (v : World). Each (IsOrderedMark script (marks_in v.steps)) (marks_in v.steps)) (sym is) old;
        coord = coord-so;
        seg = λ es to e fails x place late does-it old. seg-so es to e fails x place late does-it old;
      }

  pub world-ordered : (es : Events) → Each (IsOrderedMark script (marks_in (world_of script es).steps)) (marks_in (world_of script es).steps)
  world-ordered es = all-keep script some numbered_lines IsSo kept-so [] es tt
