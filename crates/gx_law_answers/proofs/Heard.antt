-- What was heard of a command is true, also now.
use Rattle.std.proofs.Common.{◌≡◌, ◌≤◌, inl, inr, ℕ, zero, suc, List, [], ◌∷◌, ◌++◌, length, Option, Some, None, Bool, true, false, refl, sym, subst, ap, ◌∙◌, if◌then◌else◌, ◌||◌, arith, append_assoc, append-nil}
use Rattle.std.proofs.lemmas.List.Elements.{recursion_from_All}
use Rattle.std.specs.List.{AllByRecursion}
use Rattle.std.specs.Prelude.{slice_get, take}
use Rattle.gx_lemmas.proofs.Lists.{get-append}
use Rattle.gx_lemmas.proofs.Numbers.{one-le-none}
use Rattle.gx_lemmas.proofs.Options.{some-same}
use Rattle.gx_ids.specs.declared.ids.Cid.{Cid}
use Rattle.gx_ids.specs.declared.ids.Gxid.{Gxid}
use Rattle.gx_ids.specs.declared.ids.Node.{Node}
use Rattle.gx_ids.specs.declared.ids.Table.{Table}
use Rattle.gx_tree.specs.declared.cond.Cond.{Cond}
use Rattle.gx_tree.specs.declared.query.Query.{Query}
use Rattle.gx_tree.specs.declared.part.Part.{Part}
use Rattle.gx_tree.specs.declared.row.KeyedRow.{KeyedRow}
use Rattle.gx_tree.specs.declared.stmt.Level.{Level}
use Rattle.gx_msg.specs.declared.message.Message.{Message}
use Rattle.gx_msg.specs.declared.message.Message.TheVariants as message
use Rattle.gx_msg.specs.declared.reply.Reply.{Reply}
use Rattle.gx_msg.specs.declared.reply.Reply.TheVariants as reply
use Rattle.gx_script.specs.declared.Script.{Script}
use Rattle.gx_store.specs.declared.event.Event.{Event}
use Rattle.gx_store.specs.declared.mark.Mark.{Mark}
use Rattle.gx_store.specs.declared.run.Step.{Step}
use Rattle.gx_store.specs.Commands.{IsSnapshotAt}
use Rattle.gx_store.specs.Marks.{is_aborted, is_committed, is_ended}
use Rattle.gx_store.specs.Messages.{HasReceived, IsSending, IsSent}
use Rattle.gx_store.specs.Ordered.{AreOrdered, IsAtNode, IsLink, IsSegment}
use Rattle.gx_store.specs.Points.{marks_in}
use Rattle.gx_store.specs.Refusals.{the_coordinator}
use Rattle.gx_store.specs.Waits.{is_held}
use Rattle.gx_waits.specs.Claims.{claim}
use Rattle.gx_waits.specs.declared.object.Object.TheVariants.{Relation}
use Rattle.gx_modes.specs.declared.modes.Mode.{Mode}
use Rattle.gx_rules.specs.AtCoordinator.{coord_rule}
use Rattle.gx_rules.specs.AtSegment.{seg_rule}
use Rattle.gx_rules.specs.Machine.{World, after, at_node, can, does, happens, new_world, node_of, world_of}
use Rattle.gx_store.specs.Journals.{is_same_node}
use Rattle.gx_store.specs.declared.node.NodeEvent.{NodeEvent}
use Rattle.gx_law_order.proofs.Lists.{get_last}
use Rattle.gx_law_order.specs.Lists.{Each}
use Rattle.gx_law_order.specs.Orders.{IsOrder}
use Rattle.gx_store.specs.Language.{AreLinesNumbered}
use Rattle.gx_law_order.proofs.Outs.{order-more}
use Rattle.gx_law_order.proofs.Whole.{world-both}
use Rattle.gx_law_locks.specs.Late.{AreReleasesLate}
use Rattle.gx_law_locks.proofs.Lasting.{late-behind, still-held}
use Rattle.gx_law_locks.proofs.Orders.{ended-less}
use Rattle.gx_law_locks.proofs.HoldsInRuns.{world-locked}
use Rattle.gx_law_reads.specs.Sights.{DoViewsStay}
use Rattle.gx_law_reads.proofs.Staying.{views-stay}
use Rattle.gx_law_writes.specs.Homes.{IsPlacedMark}
use Rattle.gx_law_writes.proofs.Changes.{counts-kept}
use Rattle.gx_law_writes.proofs.Told.{take-get}
use Rattle.gx_law_writes.proofs.World as writes
use Rattle.gx_law_answers.specs.Earned.{Events, IsEarned}
use Rattle.gx_law_answers.specs.Truth.{IsLocked, IsTruePart}
use Rattle.gx_law_answers.proofs.Always.{word-earned}
use Rattle.gx_law_answers.proofs.Origins.{IsWordEarned}
use Rattle.gx_law_writes.specs.Parts.{IsPartOf}
use Rattle.gx_law_writes.specs.Says.{IsPartDone, count_at}
use Rattle.gx_law_writes.proofs.Parts.{part-later}
use Rattle.gx_law_answers.proofs.Changed.{processed-more}
use Rattle.gx_law_answers.proofs.Shown.{only-at}
use Rattle.gx_law_answers.proofs.Truths.{aborted-more, snapshot-more}

by-recursion-get : {A : Type 0} (P : A → Type 0) (xs : List A) (k : ℕ) (x : A) → AllByRecursion P xs → slice_get xs k ≡ Some x → P x
by-recursion-get P [] k x e f = absurd (cc)
by-recursion-get P (y ∷ ys) zero x e f = subst P (some-same y x f) e.0
by-recursion-get P (y ∷ ys) (suc k) x e f = by-recursion-get P ys k x e.1 f

ordered-at : (script : Script) (before ss : List Step) (k : ℕ) (s : Step) → AreOrdered script before ss → slice_get ss k ≡ Some s → AllByRecursion (IsAtNode script s.stamp.node) s.marks
ordered-at script before [] k s o e = absurd (cc)
ordered-at script before (x ∷ ss) zero s o e = subst (λ (y : Step). AllByRecursion (IsAtNode script y.stamp.node) y.marks) (some-same x s e) (recursion_from_All (IsAtNode script x.stamp.node) x.marks o.0.marks)
ordered-at script before (x ∷ ss) (suc k) s o e = ordered-at script (before ++ x ∷ []) ss k s o.1 e

-- ---- more events
pub after-append : (script : Script) (w : World) (xs ys : Events) → after script w (xs ++ ys) ≡ after script (after script w xs) ys
after-append script w [] ys = refl
after-append script w (x ∷ xs) ys = after-append script (happens script w x.0 x.1) xs ys

pub record Grown (w v : World) : Type 0 where
  pub extra : List Step
  pub is : v.steps ≡ w.steps ++ extra

same-grown : (w : World) → Grown w w
same-grown w = record { extra = []; is = sym (append-nil w.steps) }

happens-grown : (script : Script) (w : World) (e : Event) (fails : Bool) → Grown w (happens script w e fails)
happens-grown script w e fails = by_can (can script w e) (at_node w e)
  where
    by_node : (b : Bool) (x : NodeEvent) → Grown w (if b then Rattle.gx_rules.specs.Machine.coord_did w e (coord_rule script w.coord x fails) else Rattle.gx_rules.specs.Machine.seg_did w (node_of e) e (seg_rule script (w.segs (node_of e).0) x fails))
    by_node true x = record { extra = _; is = refl }
    by_node false x = record { extra = _; is = refl }

    by_can : (b : Bool) (o : Option NodeEvent) → Grown w (if b then does script w e (node_of e) fails o else w)
    by_can true None = same-grown w
    by_can true (Some x) = by_node (is_same_node (node_of e) the_coordinator) x
    by_can false o = same-grown w

pub after-grown : (script : Script) (w : World) (es : Events) → Grown w (after script w es)
after-grown script w [] = same-grown w
after-grown script w (x ∷ es) =
    let a = happens-grown script w x.0 x.1 in
    let b = after-grown script (happens script w x.0 x.1) es in
    record { extra = a.extra ++ b.extra; is = b.is ∙ ap (λ z. z ++ b.extra) a.is ∙ append_assoc w.steps a.extra b.extra }

marks-append : (xs ys : List Step) → marks_in (xs ++ ys) ≡ marks_in xs ++ marks_in ys
marks-append [] ys = refl
marks-append (s ∷ xs) ys = ap (λ z. s.marks ++ z) (marks-append xs ys) ∙ sym (append_assoc s.marks (marks_in xs) (marks_in ys))

-- ---- what was heard
module _ (script : Script) (some : 1 ≤ script.segments) (numbered : AreLinesNumbered [] script.lines) (es : Events) where
  abbrev w : World
  w = world_of script es

  abbrev ms : List Mark
  ms = marks_in (world_of script es).steps

  pub record Heard (from : Node) (m : Message) : Type 0 where
    pub segment : IsSegment script from
    pub word_earned : IsWordEarned script es from m

  no-self : (n : Node) → IsLink script n the_coordinator → IsSegment script n
  no-self n (inl l) = absurd (one-le-none l.1.0)
  no-self n (inr l) = l.0

  from-sending : (n step place : ℕ) (from : Node) (number : ℕ) (m : Message) → IsSending (take n (world_of script es).steps) step place from the_coordinator number m → Heard from m
  from-sending n step place from number m x =
      record {
        segment = segment;
        word_earned = λ g r q. word-earned script some numbered es from the_coordinator step place number g r segment.0 (subst (IsSending (world_of script es).steps step place from the_coordinator number) q (record { sender = x.sender; at = there; node = x.node; sent = x.sent }));
      }
    where
      there : slice_get (world_of script es).steps step ≡ Some x.sender
      there = take-get n (world_of script es).steps step x.sender x.at

      segment : IsSegment script from
      segment = no-self from (subst (λ k. IsLink script k the_coordinator) x.node (by-recursion-get (IsAtNode script x.sender.stamp.node) x.sender.marks place _ (ordered-at script [] (world_of script es).steps step x.sender (world-both script some es).knows.well.steps there) x.sent))

  pub take-whole : {A : Type 0} (xs : List A) → take (length xs) xs ≡ xs
  take-whole [] = refl
  take-whole (x ∷ xs) = ap (λ l. x ∷ l) (take-whole xs)

  pub heard-now : (from : Node) (m : Message) (number : ℕ) → IsSent (world_of script es).steps from the_coordinator number m → Heard from m
  heard-now from m number x = from-sending (length (world_of script es).steps) x.step x.mark from number m (subst (λ ss. IsSending ss x.step x.mark from the_coordinator number m) (sym (take-whole (world_of script es).steps)) x.sending)

  pub heard : (e : Event) (earlier later : List Mark) (from : Node) (m : Message) → HasReceived (record { steps = (world_of script es).steps; event = e; earlier = earlier; later = later }) from the_coordinator m → Heard from m
  heard e earlier later from m (k, inl x) = from-sending k x.2.sent.step x.2.sent.mark from x.2.number m x.2.sent.sending
  heard e earlier later from m (k, inr x) = heard-now from m x.1.number x.1.sent

  -- WHAT WAS TRUE STAYS SO
  module _ (node : Node) (g : Gxid) (c : Cid) (r : Reply) (t : IsEarned script es node g c r) where
    abbrev then_ : World
    then_ = world_of script t.upto

    late-is : after script (world_of script t.upto) t.rest ≡ world_of script es
    late-is = sym (after-append script new_world t.upto t.rest) ∙ ap (world_of script) (sym t.split)

    grown : Grown (world_of script t.upto) (after script (world_of script t.upto) t.rest)
    grown = after-grown script (world_of script t.upto) t.rest

    pub more : List Mark
    more = marks_in grown.extra

    pub marks-are : ms ≡ marks_in (world_of script t.upto).steps ++ more
    unfolding more
    marks-are = ap (λ (v : World). marks_in v.steps) (sym late-is) ∙ ap marks_in grown.is ∙ marks-append (world_of script t.upto).steps grown.extra

    -- the segment's step stands in the run
    pub own-step : slice_get (world_of script es).steps (length (world_of script t.given.before).steps) ≡ Some t.given.step
    own-step =
        ap (λ (v : World). slice_get v.steps (length (world_of script t.given.before).steps)) (sym late-is)
        ∙ ap (λ ss. slice_get ss (length (world_of script t.given.before).steps)) grown.is
        ∙ ap (λ ss. slice_get (ss ++ grown.extra) (length (world_of script t.given.before).steps)) t.given.steps
        ∙ get-append ((world_of script t.given.before).steps ++ t.given.step ∷ []) grown.extra (length (world_of script t.given.before).steps) t.given.step (get_last (world_of script t.given.before).steps [] t.given.step)

    -- its order
    pub order-now : IsOrder script ms node g c t.level t.snapshot t.slice
    order-now =
        subst (λ m. IsOrder script m node g c t.level t.snapshot t.slice) (sym marks-are)
        (order-more script (marks_in (world_of script t.upto).steps) more node (message.Exec g c t.level t.snapshot g t.slice) (λ n. t.order) numbered)

    -- whoever runs hadn't aborted
    pub unaborted-then : is_ended ms g ≡ false → is_aborted (marks_in (world_of script t.upto).steps) g ≡ true → ⊥
    unaborted-then e a = clash (is_committed ms g) (is_aborted ms g) e (ap (λ m. is_aborted m g) marks-are ∙ aborted-more (marks_in (world_of script t.upto).steps) more g a)
      where
        clash : (a b : Bool) → (a || b) ≡ false → b ≡ true → ⊥
        clash a b e f = grind arith

    -- what was held is held, while it runs
    pub lock-now : (table : Table) (mode : Mode) → is_ended ms g ≡ false → IsLocked (marks_in (world_of script t.upto).steps) node g table mode → (is_held ms node g (Relation table) mode ≡ true) × (is_held ms the_coordinator g (Relation table) mode ≡ true)
    lock-now table mode runs l = (now node l.segment, now the_coordinator (l.coordinator (ended-less before more g runs-on)))
      where
        before : List Mark
        before = marks_in (world_of script t.upto).steps

        runs-on : is_ended (before ++ more) g ≡ false
        runs-on = subst (λ m. is_ended m g ≡ false) marks-are runs

        late : AreReleasesLate before more
        late = late-behind [] before more (subst (AreReleasesLate []) marks-are (world-locked script some es).late)

        now : (n : Node) → is_held before n g (Relation table) mode ≡ true → is_held ms n g (Relation table) mode ≡ true
        now n h = subst (λ m. is_held m n g (Relation table) mode ≡ true) (sym marks-are) (still-held n (claim g (Relation table) mode) (λ m. m) before more late runs-on h)

    placed : Each (IsPlacedMark script ms) ms
    placed = writes.world-placed script some numbered es

    stays : DoViewsStay (world_of script t.upto) (world_of script es)
    stays = subst (DoViewsStay (world_of script t.upto)) late-is (views-stay script some t.upto t.rest)

    -- the node's rows of what the command sees
    rows-now : (level : Level) (table : Table) (place : ℕ) → IsSnapshotAt (marks_in (world_of script t.upto).steps) level g c place → (rows : List KeyedRow) → IsPartOf (marks_in (world_of script t.upto).steps) (take place (marks_in (world_of script t.upto).steps)) node g c table rows
        → IsPartOf (marks_in (world_of script t.upto).steps ++ more) (take place (marks_in (world_of script t.upto).steps ++ more)) node g c table rows
    rows-now level table place taken rows p =
        part-later before more (λ rid first e. only-at script (before ++ more) first rid (before ++ more) (subst (λ m. Each (IsPlacedMark script m) m) marks-are placed) e) node level g c place taken table
        (λ rid only. subst (λ m. Rattle.gx_store.specs.View.image m (take place m) (Some (g, c)) table rid ≡ Rattle.gx_store.specs.View.image before (take place before) (Some (g, c)) table rid) marks-are (stays node g c place _ table rid t.taken taken.taken (subst (Rattle.gx_law_reads.specs.Sights.IsOnlyAt node rid) (sym marks-are) only)))
        rows p
      where
        before : List Mark
        before = marks_in (world_of script t.upto).steps

    -- its part
    pub part-now : (level : Level) (query : Query) (part : Part) → IsTruePart (marks_in (world_of script t.upto).steps) node level g c query part → IsTruePart ms node level g c query part
    part-now level query part p =
        subst (λ m. IsTruePart m node level g c query part) (sym marks-are)
        (record {
          place = p.place;
          taken = snapshot-more (marks_in (world_of script t.upto).steps) more level g c p.place p.taken;
          says = record { rows = p.says.rows; of = rows-now level query.table p.place p.taken p.says.rows p.says.of; whole = p.says.whole; said = p.says.said };
        })

    -- its step, and those behind it
    pub steps-are : (rest : List Step) × ((world_of script es).steps ≡ (world_of script t.given.before).steps ++ (t.given.step ∷ rest))
    steps-are = (grown.extra, ap (λ (v : World). v.steps) (sym late-is) ∙ grown.is ∙ ap (λ ss. ss ++ grown.extra) t.given.steps ∙ append_assoc (world_of script t.given.before).steps (t.given.step ∷ []) grown.extra)

  -- what it has processed and counted
  pub done-now : (node : Node) → 1 ≤ node.0 → (g : Gxid) (c : Cid) (wrote : Bool) (count : ℕ) (part : Part) (t : IsEarned script es node g c (reply.Done c wrote count part)) (level : Level) (table : Table) (cond : Option Cond) → IsPartDone (marks_in (world_of script t.upto).steps) node level g c table cond count
      → IsPartDone ms node level g c table cond count
  done-now node one g c wrote count part t level table cond p =
      subst (λ m. IsPartDone m node level g c table cond count) (sym are)
      (record {
        place = p.place;
        taken = snapshot-more before later level g c p.place p.taken;
        rows = p.rows;
        of = rows-now node g c (reply.Done c wrote count part) t level table p.place p.taken p.rows p.of;
        whole = p.whole;
        each = λ rid row there chosen. processed-more before later g c rid (p.each rid row there chosen);
        counted = p.counted ∙ sym (ap (count_at node g c) (sym are) ∙ same);
      })
    where
      before : List Mark
      before = marks_in (world_of script t.upto).steps

      later : List Mark
      later = more node g c (reply.Done c wrote count part) t

      are : ms ≡ before ++ later
      are = marks-are node g c (reply.Done c wrote count part) t

      -- it has written nothing more there
      same : count_at node g c ms ≡ count_at node g c before
      same =
          subst (λ (v : World). count_at node g c (marks_in v.steps) ≡ count_at node g c before) (late-is node g c (reply.Done c wrote count part) t)
          (counts-kept script some numbered t.upto t.rest node the_coordinator t.number g c wrote count part one t.sent)
