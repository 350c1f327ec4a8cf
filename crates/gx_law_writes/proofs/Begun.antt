-- Which commands have begun to do rows at a segment: what a transaction has written there is of these alone.
use Rattle.std.proofs.Common.{◌≡◌, ◌≤◌, ◌<◌, ◌⊎◌, inl, inr, ℕ, ◌+◌, List, [], ◌∷◌, ◌++◌, Option, Some, None, Bool, true, false, refl, sym, subst, ap, ◌∙◌, if◌then◌else◌, arith, eqb}
use Rattle.std.proofs.lemmas.Bool.{eqb-true}
use Rattle.std.specs.Prelude.{fold, length}
use Rattle.gx_lemmas.proofs.Numbers.{eqb-self, one-le-none}
use Rattle.gx_ids.specs.declared.ids.Cid.{Cid}
use Rattle.gx_ids.specs.declared.ids.Gxid.{Gxid}
use Rattle.gx_ids.specs.declared.ids.Node.{Node}
use Rattle.gx_ids.specs.declared.ids.Table.{Table}
use Rattle.gx_ids.specs.declared.rid.Rid.{Rid}
use Rattle.gx_tree.specs.declared.part.Part.TheVariants.{Rows}
use Rattle.gx_tree.specs.declared.row.KeyedRow.{KeyedRow}
use Rattle.gx_tree.specs.declared.query.Query.{Query}
use Rattle.gx_tree.specs.declared.value.Value.{Value}
use Rattle.gx_meaning.specs.declared.fault.ArithFault.{ArithFault}
use Rattle.gx_msg.specs.declared.item.JournalItem.{JournalItem}
use Rattle.gx_msg.specs.declared.message.Message.{Message}
use Rattle.gx_msg.specs.declared.message.Out.{Out}
use Rattle.gx_msg.specs.declared.reply.Reply.{Reply}
use Rattle.gx_msg.specs.declared.reply.Reply.TheVariants as reply
use Rattle.gx_script.specs.declared.Script.{Script}
use Rattle.gx_store.specs.declared.event.Event.{Event}
use Rattle.gx_store.specs.declared.mark.Mark.{Mark}
use Rattle.gx_store.specs.declared.mark.Mark.TheVariants as mark
use Rattle.gx_store.specs.declared.node.NodeEvent.{NodeEvent}
use Rattle.gx_store.specs.declared.node.NodeEvent.TheVariants as here
use Rattle.gx_store.specs.declared.run.Step.{Step}
use Rattle.gx_store.specs.Ordered.{IsAtNode, IsSegment}
use Rattle.gx_store.specs.Points.{marks_in}
use Rattle.gx_store.specs.Refusals.{the_coordinator}
use Rattle.gx_waits.specs.declared.claim.Claim.{Claim}
use Rattle.gx_waits.specs.declared.object.Object.{Object}
use Rattle.gx_waits.specs.declared.object.Object.TheVariants.{Relation, Transaction, Tuple}
use Rattle.gx_rules.specs.AtCoordinator.{cancels, coord_can, coord_sends, coord_turn, on_event}
use Rattle.gx_rules.specs.Coordinators.{CoordTurn}
use Rattle.gx_rules.specs.AtSegment as segment
use Rattle.gx_rules.specs.AtSegment.{seg_rule}
use Rattle.gx_rules.specs.Changes.{Change, RowTurn, changes_rows, goes_through, suspended_at, suspends_at, tuple_lock, waits}
use Rattle.gx_locks.specs.Locks.{Locks}
use Rattle.gx_rules.specs.Locks.{hold_mark, with_hold}
use Rattle.gx_rules.specs.Machine.{World, and_cancelled, coord_did, new_world, seg_did, world_of}
use Rattle.gx_rules.specs.Maps.{with_at}
use Rattle.gx_rules.specs.Running.{is_granted, suspended_slice, unless_end}
use Rattle.gx_rules.specs.Segments.{Local, Phase, Seg, SegTurn, Suspended, after_marks, local_of, with_local}
use Rattle.gx_rules.specs.Segments.Phase.{Aborted, Committed, Forgotten, Prepared, Reading, Writing}
use Rattle.gx_rules.specs.Sending.{clock_after, counted, numbered}
use Rattle.gx_rules.specs.Slices.{Moved, answers, fails_on, gives_back, has_written, inserted, inserts, inserts_row, noted, own_lock, locks, selects, starts_from, takes_lock, takes_own, writes_row}
use Rattle.gx_rules.specs.Visits.{DidStop}
use Rattle.gx_rules.proofs.Moving.{Ends, Keeps, loop-keeps}
use Rattle.gx_law_order.proofs.Changing.{change-parts, rows-change, stop-keeps}
use Rattle.gx_law_order.proofs.Lists.{each_append, each_weaker}
use Rattle.gx_law_order.specs.Lists.{Each}
use Rattle.gx_law_order.proofs.AtCoordinators.{cancel_stays}
use Rattle.gx_law_order.proofs.Induction.{after_turn, marks-by-event, marks-by-victim}
use Rattle.gx_law_order.proofs.Moves.{HasNamed}
use Rattle.gx_law_order.proofs.Ordered.{at-both, at_coordinator, sends-at}
use Rattle.gx_law_order.proofs.Waiting.{GoesOn, GoesOnAtRow, freed, goes-on-is, going-on}
use Rattle.gx_law_order.proofs.More.{marks-last}
use Rattle.gx_law_order.proofs.World.{Knows}
use Rattle.gx_law_order.specs.Standings.{at}
use Rattle.gx_law_order.proofs.Everywhere.{Holds}
use Rattle.gx_law_order.proofs.Always.{HeardAt, SaidTo, by-heard}
use Rattle.gx_law_order.proofs.Steps.{world-keeps}
use Rattle.gx_law_writes.proofs.Turns.{Continues, IsKeptOrDropped, NoRow, Quiet, Turns, Waited, base, message-turns, resumption-turns}

-- the first command of a transaction that has done no row yet: one that waits for its table, or the next after the last
abbrev pub begun_at : Option Rid → ℕ → ℕ
begun_at None last = last
begun_at (Some rid) last = last + 1

abbrev pub begun_by : Option Suspended → ℕ → ℕ
begun_by None last = last + 1
begun_by (Some x) last = begun_at x.row last

abbrev pub begun : Local → ℕ
begun l = begun_by l.suspended l.last

pub begun-last : (o : Option Suspended) (last : ℕ) → begun_by o last ≤ last + 1
begun-last None last = omega arith
begun-last (Some x) last = by_row x.row
  where
    by_row : (row : Option Rid) → begun_at row last ≤ last + 1
    by_row None = omega arith
    by_row (Some rid) = omega arith

-- a write is of one that has begun there
abbrev pub IsBegunMark : (ℕ → ℕ → ℕ) → Mark → Type 0
IsBegunMark begins (mark.Write g c n t r x) = c.0 < begins n.0 g.0
IsBegunMark begins _ = Unit {0}

abbrev pub begins_in : (ℕ → Seg) → ℕ → ℕ → ℕ
begins_in segs i g = begun ((segs i).locals g)

-- A TURN OF A SEGMENT
abbrev pub IsBegunHere : (ℕ → ℕ) → Node → Mark → Type 0
IsBegunHere begins node (mark.Write g c n t r x) = (n ≡ node) × (c.0 < begins g.0)
IsBegunHere begins node _ = Unit {0}

pub record Begins (s : Seg) (node : Node) (turn : SegTurn) : Type 0 where
  pub begins : (h : ℕ) → begun (s.locals h) ≤ begun (turn.seg.locals h)
  pub marks : Each (IsBegunHere (λ h. begun (turn.seg.locals h)) node) turn.marks

le-same : (a : ℕ) → a ≤ a
le-same a = omega arith

le-of : {a b : ℕ} → a ≡ b → a ≤ b
le-of e = omega arith

-- writes of one command
abbrev pub IsWriteBy : Node → Gxid → Cid → Mark → Type 0
IsWriteBy node g c (mark.Write h d n t r x) = (h ≡ g) × (d ≡ c) × (n ≡ node)
IsWriteBy node g c _ = Unit {0}

-- A slice of a command runs here, so far: none of its transaction waits, and the others stand as they stood.
pub record Goes (s : Seg) (node : Node) (g : Gxid) (c : Cid) (m : Moved) : Type 0 where
  pub others : (h : ℕ) → eqb h g.0 ≡ false → m.seg.locals h ≡ s.locals h
  pub alone : (m.seg.locals g.0).suspended ≡ None
  pub named : m.seg.node ≡ node
  pub marks : Each (IsWriteBy node g c) m.marks

module _ (s : Seg) (node : Node) (g : Gxid) (c : Cid) where
  abbrev pub Go : Moved → Type 0
  Go m = Goes s node g c m

  pub marked : (m : Moved) (t : Seg) (x : Mark) → t.locals ≡ m.seg.locals → t.node ≡ m.seg.node → IsWriteBy node g c x → Go m → Go (record { seg = t; marks = m.marks ++ x ∷ [] })
  marked m t x locals named ok f =
      record {
        others = λ h e. ap (λ (ls : ℕ → Local). ls h) locals ∙ f.others h e;
        alone = ap (λ (ls : ℕ → Local). (ls g.0).suspended) locals ∙ f.alone;
        named = named ∙ f.named;
        marks = each_append (IsWriteBy node g c) m.marks (x ∷ []) f.marks (ok, tt);
      }

  locked : (wanted : Claim) (m : Moved) → Go m → Go (takes_lock wanted m)
  locked wanted m f = marked m (takes_lock wanted m).seg _ refl refl tt f

  pub given : (old : Claim) (m : Moved) → Go m → Go (gives_back old m)
  given old m f = marked m (gives_back old m).seg _ refl refl tt f

  own : (p : Phase) (m : Moved) → Go m → Go (takes_own g p m)
  own Reading m f = locked (own_lock g) m f
  own Writing m f = f
  own Prepared m f = f
  own Committed m f = f
  own (Forgotten b) m f = f
  own Aborted m f = f

  written : (d : Cid) (table : Table) (m : Moved) (rid : Rid) (image : Option (List Value)) → d ≡ c → Go m → Go (writes_row g d table m rid image)
  written d table m rid image same f =
      own (local_of m.seg g).phase _
      (record {
        others = λ h e. ap (λ b. if b then record (local_of m.seg g) { phase = Writing } else m.seg.locals h) e ∙ f.others h e;
        alone = ap (λ b. (if b then record (local_of m.seg g) { phase = Writing } else m.seg.locals g.0).suspended) (eqb-self g.0) ∙ f.alone;
        named = f.named;
        marks = each_append (IsWriteBy node g c) m.marks (mark.Write g d m.seg.node table rid image ∷ []) f.marks ((refl, same, f.named), tt);
      })

  change-goes : (k : Change) → k.cid ≡ c → Keeps g k Go
  change-goes k same =
      record {
        takes = λ m rid free f. locked (tuple_lock g rid) m f;
        gives = λ m rid held f. given (tuple_lock g rid) m f;
        writes = λ m rid image why f. written k.cid k.table m rid image same f;
        skips = λ m rid why f. marked m m.seg (mark.Skip g k.cid rid) refl refl tt f;
        faults = λ m rid image f. marked m m.seg (mark.Fault g k.cid rid image) refl refl tt f;
      }

  pub insert-goes : (table : Table) (rows : List KeyedRow) (m : Moved) → Go m → Go (fold (inserts_row g c table) m rows)
  insert-goes table [] m f = f
  insert-goes table (r ∷ rs) m f = insert-goes table rs (inserts_row g c table m r) (written c table m r.rid (Some r.row) refl f)

  -- IT STOPS
  module _ (named : s.node ≡ node) (fresh : begun (s.locals g.0) ≤ c.0 + 1) where
    -- behind marks that write nothing, with an answer or a wait
    stopped : (lead : List Mark) → Each NoRow lead → (m : Moved) → Go m → (y : Local) (outs : List Out) → begun y ≡ c.0 + 1 → (item : Option JournalItem)
        → Begins s node (record { seg = with_local m.seg g y; marks = lead ++ m.marks; outs = outs; item = item })
    stopped lead silent m f y outs now item =
        record {
          begins = λ h. rises h (eqb h g.0) refl;
          marks = each_append (IsBegunHere begins node) lead m.marks (each_weaker NoRow (IsBegunHere begins node) silent-begun lead silent) (each_weaker (IsWriteBy node g c) (IsBegunHere begins node) by-mark m.marks f.marks);
        }
      where
        begins : ℕ → ℕ
        begins h = begun (if eqb h g.0 then y else m.seg.locals h)

        its : begins g.0 ≡ c.0 + 1
        its = ap (λ b. begun (if b then y else m.seg.locals g.0)) (eqb-self g.0) ∙ now

        less : {a b : ℕ} → b ≡ a + 1 → a < b
        less e = omega arith

        le-by : {a b d : ℕ} → a ≤ b → d ≡ b → a ≤ d
        le-by l e = omega arith

        rises : (h : ℕ) (b : Bool) → eqb h g.0 ≡ b → begun (s.locals h) ≤ begun (if b then y else m.seg.locals h)
        rises h true e = subst (λ j. begun (s.locals j) ≤ begun y) (sym (eqb-true h g.0 e)) (le-by fresh now)
        rises h false e = le-of (ap begun (sym (f.others h e)))

        silent-begun : (x : Mark) → NoRow x → IsBegunHere begins node x
        silent-begun (mark.Write h d n t r z) e = absurd e
        silent-begun x e = tt

        by-mark : (x : Mark) → IsWriteBy node g c x → IsBegunHere begins node x
        by-mark (mark.Write h d n t r z) e = (e.2, subst (λ (a : Gxid). d.0 < begins a.0) (sym e.0) (subst (λ (a : Cid). a.0 < begins g.0) (sym e.1) (less its)))
        by-mark x e = tt

    pub answered : (lead : List Mark) → Each NoRow lead → (m : Moved) → Go m → (r : Reply) → Begins s node (after_marks lead (answers m.seg g c m.marks r))
    answered lead silent m f r = stopped lead silent m f (record (local_of m.seg g) { last = c.0; answer = Some r }) _ (ap (λ o. begun_by o c.0) f.alone) None

    -- a command that changes rows
    module _ (k : Change) (same : k.cid ≡ c) (lead : List Mark) (silent : Each NoRow lead) where
      abbrev pub Ended : SegTurn → Type 0
      Ended turn = Begins s node (after_marks lead turn)

      with-cid : (P : Cid → Type 0) → P c → P k.cid
      with-cid P p = subst P (sym same) p

      stop : (m : Moved) (rid : Rid) (rest : List Rid) (count : ℕ) (t : RowTurn) (d : DidStop m g k rid t) → Go m → Ended (suspends_at d.stopped g k (suspended_at k rid rest count))
      stop m rid rest count t d f =
          let a = stop-keeps g k Go (change-goes k same) m rid t d f in
          let b = subst Go a.is (marked a.before (waits a.wanted a.before).moved.seg _ refl refl tt a.kept) in
          stopped lead silent d.stopped b (record (local_of d.stopped.seg g) { last = k.cid.0; answer = None; suspended = Some (suspended_at k rid rest count) }) [] (ap (λ (d : Cid). d.0 + 1) same) None

      change-ends : Ends g k Go Ended
      change-ends =
          record {
            done = λ m count f. with-cid (λ d. Ended (answers m.seg g d m.marks (reply.Done d (has_written (local_of m.seg g).phase) count (Rows [])))) (answered lead silent m f _);
            stopped = stop;
            failed = λ m cause f. with-cid (λ d. Ended (answers m.seg g d m.marks (reply.Failed d cause))) (answered lead silent m f _);
          }

      pub rows-begin : (rids : List Rid) (m : Moved) (count : ℕ) → Go m → Ended (goes_through g k rids m count)
      rows-begin rids m count f = loop-keeps g k Go Ended (change-goes k same) change-ends rids m count f

      pub change-begins : (b : Seg) → Go (starts_from b) → Ended (changes_rows b g (Some k))
      change-begins b f =
          rows-change g k Go Ended (change-goes k same) change-ends b f
          (λ fault. with-cid (λ d. Ended (fails_on b g d fault)) (answered lead silent (record { seg = b; marks = mark.Fault g c fault.0.rid (Some fault.0.row) ∷ [] }) (marked (starts_from b) b (mark.Fault g c fault.0.rid (Some fault.0.row)) refl refl tt f) _))

-- EACH TURN
module _ (script : Script) (s : Seg) (node : Node) (named : s.node ≡ node) where
  quiet-begins : (turn : SegTurn) → Quiet s turn → Begins s node turn
  quiet-begins turn q = record { begins = λ h. rises h (q.waits h); marks = each_weaker NoRow (IsBegunHere (λ h. begun (turn.seg.locals h)) node) silent turn.marks q.marks }
    where
      silent : (x : Mark) → NoRow x → IsBegunHere (λ h. begun (turn.seg.locals h)) node x
      silent (mark.Write h d n t r z) e = absurd e
      silent x e = tt

      rises : (h : ℕ) → IsKeptOrDropped (s.locals h).suspended (turn.seg.locals h).suspended → begun (s.locals h) ≤ begun (turn.seg.locals h)
      rises h (inl e) = le-of (sym (ap (λ o. begun_by o (turn.seg.locals h).last) e ∙ ap (begun_by (s.locals h).suspended) (q.lasts h)))
      rises h (inr e) = subst (λ n. begun (s.locals h) ≤ n) (sym (ap (λ o. begun_by o (turn.seg.locals h).last) e ∙ ap (λ n. n + 1) (q.lasts h))) (begun-last (s.locals h).suspended (s.locals h).last)

  -- a slice of the command starts on a segment
  module _ (g : Gxid) (c : Cid) (fresh : begun (s.locals g.0) ≤ c.0 + 1) (b : Seg) (on : Goes s node g c (starts_from b)) (wanted : Claim) where
    abbrev lead : List Mark
    lead = hold_mark s.node wanted ∷ []

    select-begins : (q : Query) (rows : List KeyedRow) (f : Option (KeyedRow × ArithFault)) → Begins s node (after_marks lead (selects b g c q rows f))
    select-begins q rows None = answered s node g c named fresh lead (tt, tt) (starts_from b) on _
    select-begins q rows (Some f) =
        answered s node g c named fresh lead (tt, tt) (record { seg = b; marks = mark.Fault g c f.0.rid (Some f.0.row) ∷ [] }) (marked s node g c (starts_from b) b (mark.Fault g c f.0.rid (Some f.0.row)) refl refl tt on) _

    lock-begins : Begins s node (after_marks lead (locks b g c))
    lock-begins = answered s node g c named fresh lead (tt, tt) (starts_from b) on _

    insert-begins : (table : Table) (rows : List KeyedRow) → Begins s node (after_marks lead (inserts g c (length rows) (inserted b g c table rows)))
    insert-begins table rows = answered s node g c named fresh lead (tt, tt) (inserted b g c table rows) (insert-goes s node g c table rows (starts_from b) on) _

  new-fresh : (g : Gxid) (c : Cid) → (s.locals g.0).suspended ≡ None → (s.locals g.0).last < c.0 → begun (s.locals g.0) ≤ c.0 + 1
  new-fresh g c alone less = subst (λ o. begun_by o (s.locals g.0).last ≤ c.0 + 1) (sym alone) (more less)
    where
      more : {a b : ℕ} → a < b → a + 1 ≤ b + 1
      more l = omega arith

  new-goes : (g h : Gxid) (c : Cid) (locks : Locks) → (s.locals g.0).suspended ≡ None → Goes s node g c (starts_from (base s h locks))
  new-goes g h c locks alone = record { others = λ j e. refl; alone = alone; named = named; marks = tt }

  waited-begins : (m : Message) (turn : SegTurn) → Waited script s m turn → Begins s node turn
  waited-begins m turn x = subst (Begins s node) (sym x.ran) (record { begins = λ h. rises h (eqb h x.g.0) refl; marks = (tt, tt) })
    where
      now : Local
      now = record (s.locals x.g.0) { last = x.c.0; answer = None; suspended = Some (suspended_slice x.c x.level x.snapshot x.slice) }

      below : {a b : ℕ} → a < b → a + 1 ≤ b
      below l = omega arith

      rises : (h : ℕ) (b : Bool) → eqb h x.g.0 ≡ b → begun (s.locals h) ≤ begun (if b then now else s.locals h)
      rises h true e = subst (λ j. begun (s.locals j) ≤ x.c.0) (sym (eqb-true h x.g.0 e)) (subst (λ o. begun_by o (s.locals x.g.0).last ≤ x.c.0) (sym x.alone) (below x.fresh))
      rises h false e = le-same (begun (s.locals h))

  pub turn-begins : (m : Message) (turn : SegTurn) → Turns script s m turn → Begins s node turn
  turn-begins m turn (inl q) = quiet-begins turn q
  turn-begins m turn (inr (inl z)) = subst (Begins s node) (sym z.ran) (select-begins z.g z.c (new-fresh z.g z.c z.alone z.fresh) (base s z.horizon z.locks) (new-goes z.g z.horizon z.c z.locks z.alone) z.wanted z.query _ _)
  turn-begins m turn (inr (inr (inl z))) = subst (Begins s node) (sym z.ran) (insert-begins z.g z.c (new-fresh z.g z.c z.alone z.fresh) (base s z.horizon z.locks) (new-goes z.g z.horizon z.c z.locks z.alone) z.wanted z.table z.rows)
  turn-begins m turn (inr (inr (inr (inl z)))) = waited-begins m turn z
  turn-begins m turn (inr (inr (inr (inr (inl z))))) = subst (Begins s node) (sym z.ran) (lock-begins z.g z.c (new-fresh z.g z.c z.alone z.fresh) (base s z.horizon z.locks) (new-goes z.g z.horizon z.c z.locks z.alone) z.wanted)
  turn-begins m turn (inr (inr (inr (inr (inr z))))) =
      subst (Begins s node) (sym z.ran)
      (change-begins s node z.g z.change.cid named (new-fresh z.g z.change.cid z.alone z.fresh) z.change refl (hold_mark s.node z.wanted ∷ []) (tt, tt) (base s z.horizon (with_hold s.locks z.wanted)) (new-goes z.g z.horizon z.change.cid (with_hold s.locks z.wanted) z.alone))

  -- a slice that goes on
  module _ (g : Gxid) (x : Suspended) (waits_so : (s.locals g.0).suspended ≡ Some x) (last : (s.locals g.0).last ≡ x.cid.0) where
    on-fresh : begun (s.locals g.0) ≤ x.cid.0 + 1
    on-fresh = subst (λ n. begun (s.locals g.0) ≤ n + 1) last (begun-last (s.locals g.0).suspended (s.locals g.0).last)

    freed-goes : (c : Cid) (wanted : Claim) → Goes s node g c (starts_from (freed s g wanted))
    freed-goes c wanted =
        record {
          others = λ h e. ap (λ b. if b then record (local_of s g) { suspended = None } else s.locals h) e;
          alone = ap (λ b. (if b then record (local_of s g) { suspended = None } else s.locals g.0).suspended) (eqb-self g.0);
          named = named;
          marks = tt;
        }

    granted-goes : (c : Cid) (wanted : Claim) → Goes s node g c (is_granted s g wanted)
    granted-goes c wanted = by_object wanted.object held
      where
        held : Goes s node g c (record { seg = freed s g wanted; marks = hold_mark s.node wanted ∷ [] })
        held = marked s node g c (starts_from (freed s g wanted)) (freed s g wanted) (hold_mark s.node wanted) refl refl tt (freed-goes c wanted)

        by_object : (o : Object) → Goes s node g c (record { seg = freed s g wanted; marks = hold_mark s.node wanted ∷ [] }) → Goes s node g c (unless_end wanted o (record { seg = freed s g wanted; marks = hold_mark s.node wanted ∷ [] }))
        by_object (Transaction other) f = given s node g c wanted _ f
        by_object (Relation t) f = f
        by_object (Tuple r) f = f

    pub resumption-begins : (turn : SegTurn) → Continues s g x turn → Begins s node turn
    resumption-begins turn (inl q) = subst (Begins s node) (sym q.ran) (select-begins g x.cid on-fresh (freed s g q.wanted) (freed-goes x.cid q.wanted) q.wanted q.query _ _)
    resumption-begins turn (inr (inl q)) = subst (Begins s node) (sym q.ran) (insert-begins g x.cid on-fresh (freed s g q.wanted) (freed-goes x.cid q.wanted) q.wanted q.table q.rows)
    resumption-begins turn (inr (inr (inl q))) = subst (Begins s node) (sym q.ran) (lock-begins g x.cid on-fresh (freed s g q.wanted) (freed-goes x.cid q.wanted) q.wanted)
    resumption-begins turn (inr (inr (inr (inl q)))) =
        subst (Begins s node) (sym q.ran)
        (change-begins s node g x.cid named on-fresh q.change (change-parts x.cid x.level x.snapshot x.slice q.change q.changes).cid (hold_mark s.node q.wanted ∷ []) (tt, tt) (freed s g q.wanted) (freed-goes x.cid q.wanted))
    resumption-begins turn (inr (inr (inr (inr q)))) =
        subst (Begins s node) (sym q.goes.is)
        (rows-begin s node g x.cid named on-fresh q.goes.at.change (change-parts x.cid x.level x.snapshot x.slice q.goes.at.change q.goes.at.changes).cid [] tt (q.goes.at.rid ∷ x.rows) (is_granted s g q.wanted) x.count (granted-goes x.cid q.wanted))

-- EVERY RUN
heard-begins : (script : Script) (w : World) → Knows script w → (e : Event) (x : NodeEvent) (fails : Bool) (i : ℕ) → HeardAt script w e i x → Begins (w.segs i) (at i) (segment.on_event script (w.segs i) x fails)
heard-begins script w k e x fails i h = by_event x h
  where
    by_event : (x : NodeEvent) → HeardAt script w e i x → Begins (w.segs i) (at i) (segment.on_event script (w.segs i) x fails)
    by_event (here.Deliver from envelope) h = turn-begins script (w.segs i) (at i) (k.well.names i) envelope.message _ (message-turns script (w.segs i) fails envelope.message)
    by_event (here.Resume g) h =
        let o = going-on script w k.well i g h in
        resumption-begins script (w.segs i) (at i) (k.well.names i) g o.slice o.is o.waits.last _ (resumption-turns script w i g o)
    by_event (here.Start t) h = absurd h
    by_event (here.End t) h = absurd h
    by_event (here.Resend j g) h = absurd h
    by_event here.Round h = absurd h

pub record HaveBegun (w : World) : Type 0 where
  pub marks : Each (IsBegunMark (begins_in w.segs)) (marks_in w.steps)

sent-begun : (begins : ℕ → ℕ → ℕ) (f : ℕ → ℕ) (outs : List Out) → Each (IsBegunMark begins) (numbered f outs)
sent-begun begins f [] = tt
sent-begun begins f (o ∷ outs) = (tt, sent-begun begins (counted f o) outs)

lt-le : {a b c : ℕ} → a < b → b ≤ c → a < c
lt-le l m = omega arith

module _ (script : Script) (some : 1 ≤ script.segments) where
  none-there : (begins : ℕ → ℕ → ℕ) (ms : List Mark) → Each (IsAtNode script the_coordinator) ms → Each (IsBegunMark begins) ms
  none-there begins [] e = tt
  none-there begins (mark.Write g c n t r x ∷ ms) e = absurd (one-le-none e.0.1.0)
  none-there begins (m ∷ ms) e = (tt, none-there begins ms e.1)

  -- a single turn of the coordinator, with what it sends
  turn-begun : (w : World) → HaveBegun w → (turn : CoordTurn) (clock : ℕ) (steps : List Step) → marks_in steps ≡ marks_in w.steps ++ (coord_sends clock turn).marks → Each (IsAtNode script the_coordinator) (coord_sends clock turn).marks → HaveBegun (after_turn w clock turn steps)
  turn-begun w q turn clock steps same there =
      record { marks = subst (Each (IsBegunMark (begins_in w.segs))) (sym same) (each_append (IsBegunMark (begins_in w.segs)) (marks_in w.steps) (coord_sends clock turn).marks q.marks (none-there (begins_in w.segs) (coord_sends clock turn).marks there)) }

  coord-begun : (w : World) → Knows script w → Holds script w → HaveBegun w → (e : Event) (x : NodeEvent) (fails : Bool) → coord_can script w.coord x ≡ true → SaidTo w x → HaveBegun (coord_did w e (coord_turn script w.coord x fails))
  coord-begun w k v q e x fails ok said =
      turn-begun w q (on_event script w.coord x fails) (clock_after w.coord.clock x) (coord_did w e (coord_turn script w.coord x fails)).steps (marks-by-event script w e x fails) (at_coordinator script some w k.well e x fails)

  cancel-begun : (w : World) → Knows script w → Holds script w → HaveBegun w → (g : Gxid) → HasNamed w.steps w.coord.clock w.coord.rounds g → HaveBegun (and_cancelled w g)
  cancel-begun w k v q g a =
      turn-begun w q (cancels w.coord g) w.coord.clock (and_cancelled w g).steps (marks-by-victim w g a) (sends-at script w.coord.sent (cancels w.coord g) w.coord.clock (cancel_stays script some w.coord g k.well.coordinator))

  seg-begun : (w : World) → Knows script w → Holds script w → HaveBegun w → (e : Event) (x : NodeEvent) (fails : Bool) (i : ℕ) → IsSegment script (at i) → HeardAt script w e i x → HaveBegun (seg_did w (at i) e (seg_rule script (w.segs i) x fails))
  seg-begun w k v q e x fails i place h =
      record {
        marks = subst (Each (IsBegunMark now)) (sym (marks-last w.steps step))
            (each_append (IsBegunMark now) (marks_in w.steps) step.marks (each_weaker (IsBegunMark (begins_in w.segs)) (IsBegunMark now) old (marks_in w.steps) q.marks)
            (each_append (IsBegunMark now) turn.marks (numbered (λ node. turn.seg.sent) turn.outs) (each_weaker (IsBegunHere (λ j. begun (turn.seg.locals j)) (at i)) (IsBegunMark now) new turn.marks b.marks) (sent-begun now (λ node. turn.seg.sent) turn.outs)));
      }
    where
      turn : SegTurn
      turn = segment.on_event script (w.segs i) x fails

      step : Step
      step = record { stamp = record { clock = clock_after (w.segs i).clock x; node = at i }; event = e; marks = (seg_rule script (w.segs i) x fails).marks }

      b : Begins (w.segs i) (at i) turn
      b = heard-begins script w k e x fails i h

      now : ℕ → ℕ → ℕ
      now j g = begun ((with_at w.segs i (seg_rule script (w.segs i) x fails).seg j).locals g)

      rises : (j g : ℕ) → begins_in w.segs j g ≤ now j g
      rises j g = by_test (eqb j i) refl
        where
          by_test : (q : Bool) → eqb j i ≡ q → begun ((w.segs j).locals g) ≤ begun ((if q then (seg_rule script (w.segs i) x fails).seg else w.segs j).locals g)
          by_test true e = subst (λ a. begun ((w.segs a).locals g) ≤ begun (turn.seg.locals g)) (sym (eqb-true j i e)) (b.begins g)
          by_test false e = le-same (begun ((w.segs j).locals g))

      old : (m : Mark) → IsBegunMark (begins_in w.segs) m → IsBegunMark now m
      old (mark.Write g c n t r z) p = lt-le p (rises n.0 g.0)
      old m p = tt

      here_is : (g : ℕ) → now i g ≡ begun (turn.seg.locals g)
      here_is g = ap (λ q. begun ((if q then (seg_rule script (w.segs i) x fails).seg else w.segs i).locals g)) (eqb-self i)

      new : (m : Mark) → IsBegunHere (λ j. begun (turn.seg.locals j)) (at i) m → IsBegunMark now m
      new (mark.Write g c n t r z) p = subst (λ (a : Node). c.0 < now a.0 g.0) (sym p.0) (subst (λ a. c.0 < a) (sym (here_is g.0)) p.1)
      new m p = tt

  pub world-begun : (es : List (Event × Bool)) → HaveBegun (world_of script es)
  world-begun = world-keeps script some HaveBegun coord-begun cancel-begun seg-begun (record { marks = tt })
