-- Whatever comes to a segment, what its turn tells of rows, and what it keeps of them, is of rows that were written there.
use Rattle.std.proofs.Common.{◌≡◌, inl, inr, ℕ, List, [], ◌∷◌, ◌++◌, Option, Some, None, Bool, true, false, refl, sym, subst, if◌then◌else◌, eqb}
use Rattle.std.specs.Prelude.{length}
use Rattle.gx_ids.specs.declared.ids.Cid.{Cid}
use Rattle.gx_ids.specs.declared.ids.Gxid.{Gxid}
use Rattle.gx_ids.specs.declared.ids.Node.{Node}
use Rattle.gx_ids.specs.declared.ids.Table.{Table}
use Rattle.gx_tree.specs.declared.row.KeyedRow.{KeyedRow}
use Rattle.gx_waits.specs.declared.claim.Claim.{Claim}
use Rattle.gx_waits.specs.declared.object.Object.{Object}
use Rattle.gx_waits.specs.declared.object.Object.TheVariants.{Relation, Transaction, Tuple}
use Rattle.gx_msg.specs.declared.message.Message.{Message}
use Rattle.gx_msg.specs.declared.message.Message.TheVariants as message
use Rattle.gx_msg.specs.declared.message.Out.{Out}
use Rattle.gx_msg.specs.declared.reply.Reply.{Reply}
use Rattle.gx_msg.specs.declared.reply.Reply.TheVariants as reply
use Rattle.gx_script.specs.declared.Script.{Script}
use Rattle.gx_store.specs.declared.mark.Mark.{Mark}
use Rattle.gx_store.specs.declared.mark.Mark.TheVariants as mark
use Rattle.gx_rules.specs.AtSegment.{raised}
use Rattle.gx_rules.specs.Locks.{hold_mark, release_mark, wait_mark, with_hold}
use Rattle.gx_rules.specs.Running.{is_granted, suspended_slice, unless_end}
use Rattle.gx_rules.specs.Segments.{Local, Seg, SegTurn, Suspended, Version, after_marks}
use Rattle.gx_rules.specs.Shown.{shown}
use Rattle.gx_rules.specs.Slices.{Moved, inserted, inserts, locks as locks_only, starts_from}
use Rattle.gx_law_order.specs.Lists.{Each}
use Rattle.gx_law_order.proofs.Lists.{each_weaker}
use Rattle.gx_law_order.proofs.Waiting.{freed}
use Rattle.gx_law_order.specs.Pairs.{IsVote}
use Rattle.gx_law_locks.specs.Waiting.{EachBehind}
use Rattle.gx_law_writes.proofs.RowsHere.{AnswerHere, Good, IsHere, LocalHere, MarkHere, MessageHere, ReplyHere, RowHere, SliceHere, Told, answered, behind-one, changes-here, here-on, inserted-rows, local-on, marked, message-on, selects-here, shown-each, start, through}
use Rattle.gx_law_writes.proofs.Turns.{Continues, IsKeptOrDropped, IsOldReply, IsOldWord, NoRow, Quiet, Turns, base}

-- a mark that tells of no row
no-row-here : (node : Node) (before : List Mark) (m : Mark) → NoRow m → MarkHere node before m
no-row-here node before (mark.Skip g c r) e = absurd e
no-row-here node before (mark.Fault g c r x) e = absurd e
no-row-here node before m e = tt

no-rows-here : (node : Node) (before ms : List Mark) → Each NoRow ms → EachBehind (MarkHere node) before ms
no-rows-here node before [] e = tt
no-rows-here node before (m ∷ ms) e = (no-row-here node before m e.0, no-rows-here node (before ++ m ∷ []) ms e.1)

module _ (ms : List Mark) (node : Node) (s : Seg) (rows : Each (λ (v : Version). IsHere ms node v.rid) s.versions) (locals : (h : ℕ) → LocalHere ms node (s.locals h)) where
  -- WHAT IT REPEATS
  module _ (votes : (h : ℕ) → IsVote (s.locals h).phase (s.locals h).vote) (turn : SegTurn) (q : Quiet s turn) where
    old-reply : (g : Gxid) (r : Reply) → IsOldReply s g r → ReplyHere ms node r
    old-reply g (reply.Failed c x) (inl o) = subst (AnswerHere ms node) o (locals g.0).0
    old-reply g (reply.Failed c x) (inr o) = absurd (subst (IsVote (s.locals g.0).phase) o (votes g.0))
    old-reply g (reply.Done c w n p) o = tt
    old-reply g reply.Prepared o = tt
    old-reply g reply.Committed o = tt
    old-reply g reply.Jfault o = tt
    old-reply g reply.Again o = tt
    old-reply g reply.Restarted o = tt
    old-reply g reply.Aborted o = tt
    old-reply g reply.Forgotten o = tt

    old-word : (m : Message) → IsOldWord s m → MessageHere ms node m
    old-word (message.Answer g r) o = old-reply g r o
    old-word (message.Exec g c l x y z) o = tt
    old-word (message.Prepare g) o = tt
    old-word (message.Commit g) o = tt
    old-word (message.CommitPrepared g) o = tt
    old-word (message.Abort g) o = tt
    old-word (message.Forget g) o = tt
    old-word (message.Collect round) o = tt
    old-word (message.Graph round graph) o = tt
    old-word message.Up o = tt

    kept-slice : (was is : Option Suspended) → IsKeptOrDropped was is → SliceHere (ms ++ turn.marks) node was → SliceHere (ms ++ turn.marks) node is
    kept-slice was is (inl e) h = subst (SliceHere (ms ++ turn.marks) node) (sym e) h
    kept-slice was is (inr e) h = subst (SliceHere (ms ++ turn.marks) node) (sym e) tt

    quiet-here : Told node ms turn
    quiet-here =
        record {
          told = no-rows-here node ms turn.marks q.marks;
          outs = each_weaker (λ (o : Out). IsOldWord s o.message) (λ (o : Out). MessageHere (ms ++ turn.marks) node o.message) (λ o k. message-on ms turn.marks node o.message (old-word o.message k)) turn.outs q.outs;
          locals = λ h.
              let old = local-on ms turn.marks node (s.locals h) (locals h) in
              (subst (AnswerHere (ms ++ turn.marks) node) (sym (q.answers h)) old.0, kept-slice (s.locals h).suspended (turn.seg.locals h).suspended (q.waits h) old.1);
        }

  -- BEHIND THE MARK OF ITS LOCK
  module _ (x : Mark) (quiet : NoRow x) where
    abbrev behind : List Mark
    behind = ms ++ x ∷ []

    rows-behind : Each (λ (v : Version). IsHere (ms ++ x ∷ []) node v.rid) s.versions
    rows-behind = each_weaker (λ (v : Version). IsHere ms node v.rid) (λ (v : Version). IsHere (ms ++ x ∷ []) node v.rid) (λ v e. here-on ms (x ∷ []) node v.rid e) s.versions rows

    after : (turn : SegTurn) → Told node (ms ++ x ∷ []) turn → Told node ms (after_marks (x ∷ []) turn)
    after turn t = behind-one node ms x turn (no-row-here node ms x quiet) t

    -- one transaction's record has changed before
    module _ (b : Seg) (same : b.versions ≡ s.versions) (now : (h : ℕ) → LocalHere (ms ++ x ∷ []) node (b.locals h)) where
      rows-now : Each (λ (v : Version). IsHere (ms ++ x ∷ []) node v.rid) b.versions
      rows-now = subst (Each (λ (v : Version). IsHere (ms ++ x ∷ []) node v.rid)) (sym same) rows-behind

      begun : Good node (ms ++ x ∷ []) (starts_from b)
      begun = start node (ms ++ x ∷ []) b now

      inserts-now : (g : Gxid) (c : Cid) (table : Table) (those : List KeyedRow) → Told node ms (after_marks (x ∷ []) (inserts g c (length those) (inserted b g c table those)))
      inserts-now g c table those = after _ (answered node (ms ++ x ∷ []) (inserted b g c table those) g c _ tt (inserted-rows node (ms ++ x ∷ []) g c table those (starts_from b) begun))

      locks-now : (g : Gxid) (c : Cid) → Told node ms (after_marks (x ∷ []) (locks_only b g c))
      locks-now g c = after _ (answered node (ms ++ x ∷ []) (starts_from b) g c _ tt begun)

  -- A MESSAGE COMES
  module _ (x : Mark) where
    locals-behind : (h : ℕ) → LocalHere (ms ++ x ∷ []) node (s.locals h)
    locals-behind h = local-on ms (x ∷ []) node (s.locals h) (locals h)

  pub message-here : (script : Script) (votes : (h : ℕ) → IsVote (s.locals h).phase (s.locals h).vote) (m : Message) (turn : SegTurn) → Turns script s m turn → Told node ms turn
  message-here script votes m turn (inl q) = quiet-here votes turn q
  message-here script votes m turn (inr (inl z)) =
      let x : Mark = hold_mark s.node z.wanted in
      subst (Told node ms) (sym z.ran)
      (after x tt _
      (selects-here node (ms ++ x ∷ []) (base s z.horizon z.locks) z.g z.c z.query (shown (raised s z.horizon) z.snapshot z.g z.c z.query.table)
      (shown-each (IsHere (ms ++ x ∷ []) node) (raised s z.horizon) z.snapshot z.g z.c z.query.table (rows-behind x tt)) (locals-behind x)))
  message-here script votes m turn (inr (inr (inl z))) =
      let x : Mark = hold_mark s.node z.wanted in subst (Told node ms) (sym z.ran) (inserts-now x tt (base s z.horizon z.locks) refl (locals-behind x) z.g z.c z.table z.rows)
  message-here script votes m turn (inr (inr (inr (inl z)))) = subst (Told node ms) (sym z.ran) (record { told = (tt, tt); outs = tt; locals = λ h. by_test h (eqb h z.g.0) })
    where
      x : Mark
      x = wait_mark s.node z.wanted

      waiting : Local
      waiting = record (s.locals z.g.0) { last = z.c.0; answer = None; suspended = Some (suspended_slice z.c z.level z.snapshot z.slice) }

      by_test : (h : ℕ) (b : Bool) → LocalHere (ms ++ x ∷ []) node (if b then waiting else s.locals h)
      by_test h true = (tt, (tt, tt))
      by_test h false = locals-behind x h
  message-here script votes m turn (inr (inr (inr (inr (inl z))))) =
      let x : Mark = hold_mark s.node z.wanted in subst (Told node ms) (sym z.ran) (locks-now x tt (base s z.horizon z.locks) refl (locals-behind x) z.g z.c)
  message-here script votes m turn (inr (inr (inr (inr (inr z))))) =
      let x : Mark = hold_mark s.node z.wanted in
      subst (Told node ms) (sym z.ran) (after x tt _ (changes-here node (ms ++ x ∷ []) z.g z.change (base s z.horizon (with_hold s.locks z.wanted)) (rows-behind x tt) (locals-behind x)))

  -- A SLICE GOES ON
  module _ (g : Gxid) (w : Suspended) (is : (s.locals g.0).suspended ≡ Some w) where
    slice-here : SliceHere ms node (Some w)
    slice-here = subst (SliceHere ms node) is (locals g.0).1

    freed-behind : (x : Mark) (wanted : Claim) (h : ℕ) → LocalHere (ms ++ x ∷ []) node ((freed s g wanted).locals h)
    freed-behind x wanted h = by_test (eqb h g.0)
      where
        by_test : (b : Bool) → LocalHere (ms ++ x ∷ []) node (if b then record (s.locals g.0) { suspended = None } else s.locals h)
        by_test true = ((locals-behind x g.0).0, tt)
        by_test false = locals-behind x h

    granted-here : (wanted : Claim) → Good node ms (is_granted s g wanted)
    granted-here wanted = by_object wanted.object
      where
        x : Mark
        x = hold_mark s.node wanted

        held : Moved
        held = record { seg = freed s g wanted; marks = hold_mark s.node wanted ∷ [] }

        has : Good node ms held
        has = record { told = (tt, tt); locals = freed-behind x wanted }

        by_object : (o : Object) → Good node ms (unless_end wanted o held)
        by_object (Transaction other) = marked node ms held _ (release_mark held.seg.node wanted) tt (λ h. (refl, refl)) has
        by_object (Relation table) = has
        by_object (Tuple rid) = has

    pub resumed-here : (turn : SegTurn) → Continues s g w turn → Told node ms turn
    resumed-here turn (inl y) =
        let x : Mark = hold_mark s.node y.wanted in
        subst (Told node ms) (sym y.ran)
        (after x tt _
        (selects-here node (ms ++ x ∷ []) (freed s g y.wanted) g w.cid y.query (shown (freed s g y.wanted) y.snapshot g w.cid y.query.table)
        (shown-each (IsHere (ms ++ x ∷ []) node) (freed s g y.wanted) y.snapshot g w.cid y.query.table (rows-behind x tt)) (freed-behind x y.wanted)))
    resumed-here turn (inr (inl y)) =
        let x : Mark = hold_mark s.node y.wanted in subst (Told node ms) (sym y.ran) (inserts-now x tt (freed s g y.wanted) refl (freed-behind x y.wanted) g w.cid y.table y.rows)
    resumed-here turn (inr (inr (inl y))) = let x : Mark = hold_mark s.node y.wanted in subst (Told node ms) (sym y.ran) (locks-now x tt (freed s g y.wanted) refl (freed-behind x y.wanted) g w.cid)
    resumed-here turn (inr (inr (inr (inl y)))) =
        let x : Mark = hold_mark s.node y.wanted in
        subst (Told node ms) (sym y.ran) (after x tt _ (changes-here node (ms ++ x ∷ []) g y.change (freed s g y.wanted) (rows-behind x tt) (freed-behind x y.wanted)))
    resumed-here turn (inr (inr (inr (inr y)))) =
        subst (Told node ms) (sym y.goes.is)
        (through node ms g y.goes.at.change (y.goes.at.rid ∷ w.rows) (subst (RowHere ms node) y.goes.at.row slice-here.0, slice-here.1) (is_granted s g y.wanted) w.count (granted-here y.wanted))
