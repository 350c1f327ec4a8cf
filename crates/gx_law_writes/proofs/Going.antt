-- An UPDATE or DELETE runs at a segment: its marks are legal, whether it is under way or its transaction has aborted; and what its
-- turn comes to, and says, is so.
use Rattle.std.proofs.Common.{◌≡◌, ◌≤◌, ◌⊎◌, inl, inr, ℕ, ◌+◌, List, [], ◌∷◌, ◌++◌, Option, Some, None, Bool, true, false, refl, sym, subst, ap, ◌∙◌, ◌||◌, arith, take, append-nil}
use Rattle.std.proofs.lemmas.List.{append_assoc}
use Rattle.std.specs.Prelude.{slice_get}
use Rattle.gx_lemmas.proofs.Lists.{place-below}
use Rattle.gx_lemmas.proofs.Tests.{true-false}
use Rattle.std.proofs.lemmas.Bool.{or_left}
use Rattle.gx_store.proofs.Marks.{is_aborted-append}
use Rattle.gx_ids.specs.declared.ids.Cid.{Cid}
use Rattle.gx_ids.specs.declared.ids.Gxid.{Gxid}
use Rattle.gx_ids.specs.declared.ids.Node.{Node}
use Rattle.gx_ids.specs.declared.ids.SessionId.{SessionId}
use Rattle.gx_ids.specs.declared.ids.Table.{Table}
use Rattle.gx_ids.specs.declared.rid.Rid.{Rid}
use Rattle.gx_tree.specs.declared.row.KeyedRow.{KeyedRow}
use Rattle.gx_dsnap.specs.Gxids.{is_below}
use Rattle.gx_dsnap.specs.Snapshot.{sees}
use Rattle.gx_meaning.specs.declared.fault.ArithFault.{ArithFault}
use Rattle.gx_waits.specs.declared.claim.Claim.{Claim}
use Rattle.gx_script.specs.declared.Script.{Script}
use Rattle.gx_store.specs.declared.event.Event.{Event}
use Rattle.gx_store.specs.declared.mark.Mark.{Mark}
use Rattle.gx_store.specs.declared.mark.Mark.TheVariants as mark
use Rattle.gx_store.specs.Language.{AreLinesNumbered}
use Rattle.gx_store.specs.Marks.{is_aborted, is_committed, is_ended, is_processed, node_of}
use Rattle.gx_store.specs.Points.{marks_in, starts_by}
use Rattle.gx_store.specs.Rows.{row_at}
use Rattle.gx_store.specs.View.{image}
use Rattle.gx_store.specs.Waits.{holds_at}
use Rattle.gx_store.specs.Writes.{IsLate}
use Rattle.gx_rules.specs.AtSegment.{raised}
use Rattle.gx_rules.specs.Changes.{Change, change_of, changes_rows, goes_through, selected, shown_to, unless_fault}
use Rattle.gx_rules.specs.Machine.{World}
use Rattle.gx_rules.specs.Running.{is_granted}
use Rattle.gx_rules.specs.Segments.{Seg, SegTurn, Version, after_marks, local_of}
use Rattle.gx_rules.specs.Shown.{shown}
use Rattle.gx_rules.specs.Slices.{Moved, first_fault, starts_from}
use Rattle.gx_rules.specs.Visits.{IsPath, Visit, visited}
use Rattle.gx_law_order.proofs.Lists.{each_append, each_weaker}
use Rattle.gx_law_order.specs.Lists.{Each}
use Rattle.gx_law_order.proofs.SegItems.{writes_at}
use Rattle.gx_law_order.specs.Orders.{IsServed}
use Rattle.gx_law_order.specs.Scanned.{stmt_of_command}
use Rattle.gx_law_order.proofs.Said.{CalmFor}
use Rattle.gx_law_order.specs.Pairs.{is_open}
use Rattle.gx_law_order.specs.Standings.{at}
use Rattle.gx_law_reads.specs.Sights.{IsOnlyAt}
use Rattle.gx_law_writes.specs.Parts.{IsPartOf}
use Rattle.gx_law_writes.specs.Says.{Says, SaysDone, SaysFault, SaysOvertaken, stmt_of_change}
use Rattle.gx_law_writes.proofs.Bases.{granted-inv, none-done, rests-on}
use Rattle.gx_law_writes.proofs.Chosen.{IsChosen, Sight}
use Rattle.gx_law_writes.proofs.Comes.{goes-legal, rows-to-do, start-fault}
use Rattle.gx_law_writes.proofs.Frames.{Inv, IsWork}
use Rattle.gx_law_writes.proofs.Half.{AreLeft, HasPart, IsHalf, IsHalfDone}
use Rattle.gx_law_writes.proofs.Late.{late-changes, late-goes, late-granted}
use Rattle.gx_law_writes.proofs.Locks.{granted-locks, granted-versions, image-behind, processed-behind, writes-behind}
use Rattle.gx_law_writes.proofs.OnBase.{shown-on}
use Rattle.gx_law_writes.proofs.NeedsRows.{IsOwned, Stops, granted-owned, marked-for, stops-so, told-granted}
use Rattle.gx_law_writes.proofs.Outcome.{Outcome, fault-out, goes-out, is-statement}
use Rattle.gx_law_writes.proofs.Parts.{part-later}
use Rattle.gx_law_writes.proofs.Path.{IsLock, Legals, legals-locks}
use Rattle.gx_law_writes.proofs.Points.{Ok, Runs, lock-ok}
use Rattle.gx_law_writes.proofs.SelectedRows.{HaveHomes}
use Rattle.gx_law_writes.proofs.Shown.{faults-on-none, shown-part}
use Rattle.gx_law_writes.proofs.Sighted.{locks-work, sight, sight-place}
use Rattle.gx_law_writes.proofs.Sound.{aborted-still, committed-still}
use Rattle.gx_law_writes.proofs.Staying.{aborted-half, part-here}
use Rattle.gx_law_writes.proofs.VersionsTold.{IsOn, Known}
use Rattle.gx_law_writes.proofs.Undone.{IsBegun, free-of, none-later, none-own, undone}
use Rattle.gx_law_writes.proofs.RowWalk.{own_count}
use Rattle.gx_law_writes.proofs.Worked.{TurnWork, changes-works, goes-works}
use Rattle.gx_law_writes.specs.Homes.{IsPlacedMark}
use Rattle.gx_law_writes.proofs.Alive.{Late, Live, is-late, live-runs, live-snapped}
use Rattle.gx_law_writes.proofs.Homes.{placed-more}
use Rattle.gx_law_writes.proofs.RowHomes.{have-homes}

abbrev pub undone_in : (ℕ → Seg) → ℕ → ℕ → ℕ
undone_in segs i g = undone ((segs i).locals g)

-- WORK
-- its marks start and answer nothing, and end nobody
work-calm : (node : Node) (g : Gxid) (c : Cid) (k : SessionId) (ms : List Mark) → Each (IsWork node g c) ms → Each (CalmFor k) ms
work-calm node g c k [] e = tt
work-calm node g c k (mark.Start h s ∷ ms) e = absurd e.0
work-calm node g c k (mark.Answer s n a ∷ ms) e = absurd e.0
work-calm node g c k (m ∷ ms) e = (tt, work-calm node g c k ms e.1)

work-ends-none : (node : Node) (g h : Gxid) (c : Cid) (ms : List Mark) → Each (IsWork node g c) ms → is_ended ms h ≡ false
work-ends-none node g h c ms e = neither (is_committed ms h) (is_aborted ms h) (committed-still node g h c [] ms e) (aborted-still node g h c [] ms e)
  where
    neither : (a b : Bool) → a ≡ false → b ≡ false → (a || b) ≡ false
    neither a b e f = grind arith

-- where rows are placed
placed-mark-more : (script : Script) (ms ns : List Mark) (m : Mark) → IsPlacedMark script ms m → IsPlacedMark script (ms ++ ns) m
placed-mark-more script ms ns (mark.Write g c n t r x) p = placed-more script ms ns n t r x p
placed-mark-more script ms ns m p = tt

pub homes-more : (script : Script) (ms new : List Mark) → Each (IsPlacedMark script ms) ms → Each (IsPlacedMark script ms) new → HaveHomes (ms ++ new)
homes-more script ms new placed more =
    have-homes script (ms ++ new)
    (each_append (IsPlacedMark script (ms ++ new)) ms new (each_weaker (IsPlacedMark script ms) (IsPlacedMark script (ms ++ new)) (placed-mark-more script ms new) ms placed) (each_weaker (IsPlacedMark script ms) (IsPlacedMark script (ms ++ new)) (placed-mark-more script ms new) new more))

lock-placed : (script : Script) (ms : List Mark) (m : Mark) → IsLock m → IsPlacedMark script ms m
lock-placed script ms (mark.Write g c n t r x) e = absurd e
lock-placed script ms m e = tt

le-next : {a b : ℕ} → a ≤ b → a ≤ b + 1
le-next l = omega arith

-- WHAT A TURN SAYS, BEHIND THE MARKS OF ITS LOCKS
module _ (ms pre : List Mark) (node : Node) (g : Gxid) (k : Change) (t : SegTurn) where
  told-whole : SaysDone (ms ++ pre) node g k t ⊎ SaysFault (ms ++ pre) g k t ⊎ SaysOvertaken (ms ++ pre) g k t ⊎ (t.outs ≡ []) → Says ms node g k (after_marks pre t)
  told-whole (inl d) =
      inr (inl (record { wrote = d.wrote; count = d.count; outs = d.outs; done = subst (λ z. Rattle.gx_law_writes.specs.Says.IsPartDone z node k.level g k.cid k.table k.cond d.count) (append_assoc ms pre t.marks) d.done }))
  told-whole (inr (inl f)) =
      inr (inr (inl (record {
        earlier = pre ++ f.earlier;
        rid = f.rid;
        image = f.image;
        fault = f.fault;
        noted = ap (λ z. pre ++ z) f.noted ∙ sym (append_assoc pre f.earlier _);
        unaborted = subst (λ z. is_aborted z g ≡ false) (append_assoc ms pre f.earlier) f.unaborted;
        faults = subst (λ z. Rattle.gx_store.specs.Faults.IsFaultOf z k.level g k.cid (stmt_of_change k) f.rid f.image f.fault) (append_assoc ms pre f.earlier) f.faults;
        outs = f.outs;
      })))
  told-whole (inr (inr (inl o))) =
      inr (inr (inr (inl (record { isolation = o.isolation; rid = o.rid; writer = o.writer; rows = subst (λ z. Rattle.gx_store.specs.Refusals.IsOvertakenRow z k.level g k.cid k.table k.cond o.rid o.writer) (append_assoc ms pre t.marks) o.rows; outs = o.outs }))))
  told-whole (inr (inr (inr none))) = inr (inr (inr (inr none)))

module _ (script : Script) (numbered : AreLinesNumbered [] script.lines) (w : World) (known : Known script w) (e : Event) (quiet : (t : SessionId) → starts_by t e ≡ 0) (i : ℕ) (one : 1 ≤ i) (placed : Each (IsPlacedMark script (marks_in w.steps)) (marks_in w.steps)) (begun : Each (IsBegun (marks_in w.steps) (undone_in w.segs)) (marks_in w.steps))
    (g : Gxid) (k : Change) (changes : change_of k.cid k.level (Some k.snapshot) k.slice ≡ Some k) (line : stmt_of_command script (marks_in w.steps) g k.cid ≡ Some (stmt_of_change k)) where
  abbrev ms : List Mark
  ms = marks_in w.steps

  abbrev s : Seg
  s = w.segs i

  homes-now : HaveHomes (marks_in w.steps)
  homes-now = have-homes script ms placed

  named : s.node ≡ at i
  named = known.knows.well.names i

  s-versions : s.versions ≡ writes_at (at i) ms
  s-versions = (known.hold i one).versions

  -- ONCE ITS TRANSACTION HAS ABORTED
  gone : Late script w g.0 k.cid → (earlier later : List Mark) → IsLate script (record { steps = w.steps; event = e; earlier = earlier; later = later }) g k.cid (stmt_of_change k)
  gone v earlier later = is-late script w g.0 k.cid (stmt_of_change k) e earlier later numbered v line

  -- WHILE IT IS UNDER WAY
  runs : Live script w g.0 k.cid (stmt_of_change k) k.level → (node : Node) (pre : List Mark) → Each IsLock pre → Runs script w.steps e pre node g k
  runs v node pre locks =
      record {
        session = (w.coord.works g.0).session;
        stmt = stmt_of_change k;
        of = is-statement k;
        under_way = λ earlier later work. live-runs script w g.0 k.cid (stmt_of_change k) e earlier later k.level v (quiet (w.coord.works g.0).session) (work-calm node g k.cid (w.coord.works g.0).session earlier work) (work-ends-none node g g k.cid earlier work);
        snapped = λ earlier. live-snapped script w g.0 k.cid (stmt_of_change k) e earlier [] k.level v;
        work = locks-work node g k.cid pre locks;
      }

  module _ (v : Live script w g.0 k.cid (stmt_of_change k) k.level) where
    not-ended : is_ended ms g ≡ false
    not-ended = v.runs.owns.running

    alive : is_aborted (marks_in w.steps) g ≡ false
    alive = second (is_committed ms g) (is_aborted ms g) not-ended
      where
        second : (a b : Bool) → (a || b) ≡ false → b ≡ false
        second a b e = grind arith

    running : is_committed (marks_in w.steps) g ≡ false
    running = first (is_committed ms g) (is_aborted ms g) not-ended
      where
        first : (a b : Bool) → (a || b) ≡ false → a ≡ false
        first a b e = grind arith

  -- FROM A SEGMENT ON
  -- whoever is below its horizon is seen, unless the transaction has aborted
  abbrev pub IsBelow : Gxid → Type 0
  IsBelow horizon = is_aborted (marks_in w.steps) g ≡ false → (h : Gxid) → 1 ≤ h.0 → (is_below (raised (w.segs i) horizon).horizon h || sees k.snapshot h) ≡ sees k.snapshot h

  abbrev pub How : Type 0
  How = Live script w g.0 k.cid (stmt_of_change k) k.level ⊎ Late script w g.0 k.cid

  module _ (horizon : Gxid) (b : Seg) (on : IsOn (w.segs i) g horizon b) (pre : List Mark) (locks : Each IsLock pre) (upto : undone ((w.segs i).locals g.0) ≤ k.cid.0 + 1) where
    pub b-named : b.node ≡ at i
    b-named = on.node ∙ named

    homes-pre : HaveHomes (marks_in w.steps ++ pre)
    homes-pre = homes-more script ms pre placed (each_weaker IsLock (IsPlacedMark script ms) (lock-placed script ms) pre locks)

    b-versions : b.versions ≡ writes_at b.node (marks_in w.steps ++ pre)
    b-versions = on.versions ∙ s-versions ∙ ap (λ n. writes_at n ms) (sym b-named) ∙ sym (writes-behind b.node ms pre locks)

    abbrev its-sight : Live script w g.0 k.cid (stmt_of_change k) k.level → ((h : Gxid) → 1 ≤ h.0 → (is_below (raised (w.segs i) horizon).horizon h || sees k.snapshot h) ≡ sees k.snapshot h) → IsServed (marks_in w.steps) k.level g k.cid k.snapshot → Sight (marks_in w.steps ++ pre) b g k
    its-sight v below served =
        sight script w known i one g k horizon below served b on pre locks (alive v) (running v)
        (subst (Each (λ (u : Version). u.gxid ≡ g → u.cid.0 ≤ k.cid.0)) (sym s-versions) (none-later ms (undone_in w.segs) (at i) g k.cid upto ms begun))

    -- the part that it sees, behind the marks of locks
    part-behind : (place : ℕ) (d : Cid) → slice_get (marks_in w.steps) place ≡ Some (mark.Snap g d k.snapshot) → Rattle.gx_store.specs.Commands.Serves k.level d k.cid → (part : List KeyedRow) → IsPartOf (marks_in w.steps) (take place (marks_in w.steps)) (at i) g k.cid k.table part → IsPartOf (marks_in w.steps ++ pre) (take place (marks_in w.steps ++ pre)) b.node g k.cid k.table part
    part-behind place d taken serves part p =
        subst (λ n. IsPartOf (ms ++ pre) (take place (ms ++ pre)) n g k.cid k.table part) (sym b-named)
        (part-later ms pre homes-pre.nodes (at i) k.level g k.cid place (record { d = d; snapshot = k.snapshot; taken = taken; serves = serves }) k.table
        (λ rid only. image-behind ms pre g k.cid k.table rid place (place-below ms place _ taken) locks) part p)

    abbrev has-behind : HasPart (marks_in w.steps) (at i) g k → HasPart (marks_in w.steps ++ pre) b.node g k
    has-behind h =
        record {
          served = record { place = h.served.place; d = h.served.d; taken = Rattle.gx_lemmas.proofs.Lists.get-append ms pre h.served.place _ h.served.taken; serves = h.served.serves };
          part = h.part;
          its = part-behind h.served.place h.served.d h.served.taken h.served.serves h.part h.its;
          whole = h.whole;
        }

    -- rows that are placed behind the turn too
    given-homes : (t : SegTurn) → Each (IsPlacedMark script (marks_in w.steps)) (pre ++ t.marks) → HaveHomes ((marks_in w.steps ++ pre) ++ t.marks)
    given-homes t p = subst HaveHomes (sym (append_assoc ms pre t.marks)) (homes-more script ms (pre ++ t.marks) placed p)

    -- where nobody waits any more, and it was aborted
    late-half : Late script w g.0 k.cid → (t : SegTurn) → IsHalf (marks_in w.steps ++ (pre ++ t.marks)) t.seg.versions (at i) g (local_of t.seg g).suspended
    late-half v t = aborted-half (ms ++ (pre ++ t.marks)) t.seg.versions (at i) g (local_of t.seg g).suspended (is_aborted-append ms (pre ++ t.marks) g ∙ or_left (is_aborted ms g) (is_aborted (pre ++ t.marks) g) v.aborted)

    -- what an outcome says, at the node
    pub record Result (t : SegTurn) : Type 0 where
      pub half : IsHalf (marks_in w.steps ++ (pre ++ t.marks)) t.seg.versions (at i) g (local_of t.seg g).suspended
      pub says : Says (marks_in w.steps) (at i) g k (after_marks pre t)

    late-result : Late script w g.0 k.cid → (t : SegTurn) → Result t
    late-result v t = record { half = late-half v t; says = inl v.aborted }

    module _ (v : Live script w g.0 k.cid (stmt_of_change k) k.level) (below : IsBelow horizon) (served : IsServed (marks_in w.steps) k.level g k.cid k.snapshot) where
      live-result : (t : SegTurn) → Outcome script w.steps e pre b g k (runs v b.node pre locks) (its-sight v (below (alive v)) served) changes b-versions homes-pre t → Result t
      live-result t out =
          record {
            half = subst (λ n. IsHalf (ms ++ (pre ++ t.marks)) t.seg.versions n g (local_of t.seg g).suspended) b-named (subst (λ z. IsHalf z t.seg.versions b.node g (local_of t.seg g).suspended) (append_assoc ms pre t.marks) out.half);
            says = subst (λ n. Says ms n g k (after_marks pre t)) b-named (told-whole ms pre b.node g k t out.says);
          }

    -- FROM ITS START
    module _ (alone : (local_of b g).suspended ≡ None) (opens : is_open (local_of b g).phase ≡ true) (fresh : undone ((w.segs i).locals g.0) ≤ k.cid.0) (below : IsBelow horizon) (served : IsServed (marks_in w.steps) k.level g k.cid k.snapshot)
        (seen : is_aborted (marks_in w.steps) g ≡ false → (place : ℕ) (d : Cid) → slice_get (marks_in w.steps) place ≡ Some (mark.Snap g d k.snapshot) → (table : Table) (rid : Rid) → IsOnlyAt (at i) rid (marks_in w.steps)
        → row_at (shown (raised (w.segs i) horizon) k.snapshot g k.cid table) rid ≡ image (marks_in w.steps) (take place (marks_in w.steps)) (Some (g, k.cid)) table rid) where
      begins : Inv b (marks_in w.steps ++ pre) g k.cid k.table (starts_from b)
      begins = none-done b (ms ++ pre) g k.cid k.table b-versions opens alone

      pub start-work : TurnWork b g k.cid k.table (changes_rows b g (Some k))
      start-work = changes-works b (ms ++ pre) g k begins

      abbrev part : List KeyedRow
      part = shown_to b g k

      module _ (v : Live script w g.0 k.cid (stmt_of_change k) k.level) where
        its-place : (its-sight v (below (alive v)) served).place ≡ served.place
        its-place =
            sight-place script w known i one g k horizon (below (alive v)) served b on pre locks (alive v) (running v)
            (subst (Each (λ (u : Version). u.gxid ≡ g → u.cid.0 ≤ k.cid.0)) (sym s-versions) (none-later ms (undone_in w.segs) (at i) g k.cid upto ms begun))

        its-part : IsPartOf (marks_in w.steps) (take served.place (marks_in w.steps)) (at i) g k.cid k.table (shown_to b g k)
        its-part =
            shown-part ms homes-now.nodes served.place (at i) b (on.versions ∙ s-versions) k.snapshot g k.cid k.table
            (λ rid only. ap (λ rows. row_at rows rid) (shown-on s g horizon b on k.snapshot k.cid k.table) ∙ seen (alive v) served.place served.d served.taken k.table rid only)

        behind-part : IsPartOf (marks_in w.steps ++ pre) (take (its-sight v (below (alive v)) served).place (marks_in w.steps ++ pre)) b.node g k.cid k.table (shown_to b g k)
        behind-part =
            subst (λ p. IsPartOf (ms ++ pre) (take p (ms ++ pre)) b.node g k.cid k.table part) (sym its-place) (part-behind served.place served.d served.taken served.serves part its-part)

        all-free : AreLeft ((marks_in w.steps ++ pre) ++ []) g k (selected k.cond (shown_to b g k))
        all-free =
            each_weaker (λ rid. node_of ms rid ≡ Some (at i)) (λ rid. is_processed ((ms ++ pre) ++ []) g k.cid rid ≡ false)
            (λ rid home. ap (λ z. is_processed z g k.cid rid) (append-nil (ms ++ pre)) ∙ processed-behind ms pre g k.cid rid locks ∙ free-of ms (undone_in w.segs) (at i) g k.cid fresh rid home (alive v) ms (homes-now.nodes rid (at i) home) begun)
            (selected k.cond part) (part-here ms (take served.place ms) (at i) g k.cid k.table k.cond part its-part)

        none-counted : 0 ≡ own_count g k.cid b.versions
        none-counted = sym (ap (own_count g k.cid) (on.versions ∙ s-versions) ∙ none-own ms (undone_in w.segs) (at i) g k.cid fresh ms begun)

        by-fault-legal : (o : Option (KeyedRow × ArithFault)) → first_fault k.cond (shown_to b g k) ≡ o → Legals (Ok script w.steps e b.node) pre (unless_fault b g k (shown_to b g k) o).marks
        by-fault-legal None q =
            goes-legal script w.steps e pre b g k (runs v b.node pre locks) (its-sight v (below (alive v)) served) b-versions homes-pre part behind-part [] (selected k.cond part) refl (starts_from b) begins all-free 0 none-counted tt
        by-fault-legal (Some found) q = start-fault script w.steps e pre b g k (runs v b.node pre locks) (its-sight v (below (alive v)) served) b-versions homes-pre part behind-part found q

        by-fault-out : (o : Option (KeyedRow × ArithFault)) → first_fault k.cond (shown_to b g k) ≡ o → HaveHomes ((marks_in w.steps ++ pre) ++ (unless_fault b g k (shown_to b g k) o).marks) × Each (IsWork b.node g k.cid) (unless_fault b g k (shown_to b g k) o).marks
            → Outcome script w.steps e pre b g k (runs v b.node pre locks) (its-sight v (below (alive v)) served) changes b-versions homes-pre (unless_fault b g k (shown_to b g k) o)
        by-fault-out None q given =
            goes-out script w.steps e pre b g k (runs v b.node pre locks) (its-sight v (below (alive v)) served) changes b-versions homes-pre
            (has-behind (record { served = served; part = part; its = its-part; whole = faults-on-none k.cond part q })) (sym its-place) [] (selected k.cond part) refl (starts_from b) begins tt all-free 0 none-counted tt given
        by-fault-out (Some found) q given = fault-out script w.steps e pre b g k (runs v b.node pre locks) (its-sight v (below (alive v)) served) changes b-versions homes-pre part behind-part found q alone

      pub start-legal : How → Legals (Ok script w.steps e b.node) pre (changes_rows b g (Some k)).marks
      start-legal (inl v) = by-fault-legal v (first_fault k.cond (shown_to b g k)) refl
      start-legal (inr v) = late-changes script w.steps e pre b g k (stmt_of_change k) (is-statement k) (gone v) homes-pre b-versions

      pub start-result : How → Each (IsPlacedMark script (marks_in w.steps)) (pre ++ (changes_rows b g (Some k)).marks) → Result (changes_rows b g (Some k))
      start-result (inl v) p =
          live-result v below served (changes_rows b g (Some k)) (by-fault-out v (first_fault k.cond (shown_to b g k)) refl (given-homes (changes_rows b g (Some k)) p, start-work.work))
      start-result (inr v) p = late-result v (changes_rows b g (Some k))

      -- where it stops it needs what it asks for
      pub start-stops : Each (IsOwned g) pre → b.locks.holds ≡ holds_at (marks_in w.steps ++ pre) b.node → How → Stops (marks_in w.steps ++ pre) b.node g k (selected k.cond (shown_to b g k)) (starts_from b)
      start-stops owned told how =
          stops-so (ms ++ pre) b g k (marked-for script w known i one g horizon b on opens pre owned homes-pre b-versions b-named) (starts_from b) begins tt (refl, told ∙ ap (λ q. holds_at q b.node) (sym (append-nil (ms ++ pre)))) (selected k.cond (shown_to b g k)) (λ unaborted. by_way unaborted how)
        where
          by_way : is_aborted (marks_in w.steps ++ pre) g ≡ false → How → (sight : Sight (marks_in w.steps ++ pre) b g k) × ((visits : List Visit) (last : Moved) (rid : Rid) (rest : List Rid) → selected k.cond (shown_to b g k) ≡ visited visits ++ rid ∷ rest → IsPath g k (starts_from b) visits last
              → IsChosen sight.rows k rid × (is_processed ((marks_in w.steps ++ pre) ++ last.marks) g k.cid rid ≡ false))
          by_way unaborted (inl v) = (
            its-sight v (below (alive v)) served,
            rows-to-do script w.steps e pre b g k (runs v b.node pre locks) (its-sight v (below (alive v)) served) b-versions homes-pre part (behind-part v) [] (selected k.cond part) refl (starts_from b) begins (all-free v) 0 (none-counted v),
          )
          by_way unaborted (inr v) = absurd (true-false (is_aborted (ms ++ pre) g) (is_aborted-append ms pre g ∙ or_left (is_aborted ms g) (is_aborted pre g) v.aborted) unaborted)

  -- FROM A ROW ON
  module _ (horizon : Gxid) (low : horizon.0 ≤ (w.segs i).horizon.0) (upto : undone ((w.segs i).locals g.0) ≤ k.cid.0 + 1) (opens : is_open (local_of (w.segs i) g).phase ≡ true) (wanted : Claim) (owner : wanted.gxid ≡ g) (below : IsBelow horizon)
      (rids : List Rid) (count : ℕ) (half : is_aborted (marks_in w.steps) g ≡ false → IsHalfDone (marks_in w.steps) (w.segs i).versions (at i) g k rids count) where
    pub on-it : IsOn (w.segs i) g horizon (w.segs i)
    on-it = rests-on s g horizon low

    abbrev here-homes : HaveHomes (marks_in w.steps ++ [])
    here-homes = homes-pre horizon s on-it [] tt upto

    abbrev here-versions : s.versions ≡ writes_at s.node (marks_in w.steps ++ [])
    here-versions = b-versions horizon s on-it [] tt upto

    goes-on : Inv (w.segs i) (marks_in w.steps ++ []) g k.cid k.table (is_granted (w.segs i) g wanted)
    goes-on = granted-inv s (ms ++ []) g k.cid k.table wanted owner here-versions opens

    pub row-work : TurnWork (w.segs i) g k.cid k.table (goes_through g k rids (is_granted (w.segs i) g wanted) count)
    row-work = goes-works s (ms ++ []) g k rids (is_granted s g wanted) count goes-on

    done-same : (rid : Rid) → is_processed ((marks_in w.steps ++ []) ++ (is_granted (w.segs i) g wanted).marks) g k.cid rid ≡ is_processed (marks_in w.steps) g k.cid rid
    done-same rid = processed-behind (ms ++ []) (is_granted s g wanted).marks g k.cid rid (granted-locks s g wanted) ∙ ap (λ z. is_processed z g k.cid rid) (append-nil ms)

    module _ (v : Live script w g.0 k.cid (stmt_of_change k) k.level) where
      h : IsHalfDone (marks_in w.steps) (w.segs i).versions (at i) g k rids count
      h = half (alive v)

      abbrev has-part : HasPart (marks_in w.steps ++ []) s.node g k
      has-part = has-behind horizon s on-it [] tt upto h.has

      part-place : h.has.served.place ≡ (its-sight horizon (w.segs i) on-it [] tt upto v (below (alive v)) h.has.served).place
      part-place =
          sym (sight-place script w known i one g k horizon (below (alive v)) h.has.served s on-it [] tt (alive v) (running v)
          (subst (Each (λ (u : Version). u.gxid ≡ g → u.cid.0 ≤ k.cid.0)) (sym s-versions) (none-later ms (undone_in w.segs) (at i) g k.cid upto ms begun)))

      row-part : IsPartOf (marks_in w.steps ++ []) (take (its-sight horizon (w.segs i) on-it [] tt upto v (below (alive v)) h.has.served).place (marks_in w.steps ++ [])) (w.segs i).node g k.cid k.table h.has.part
      row-part = subst (λ p. IsPartOf (ms ++ []) (take p (ms ++ [])) s.node g k.cid k.table h.has.part) part-place has-part.its

      row-ready : Each (λ rid. is_processed ((marks_in w.steps ++ []) ++ (is_granted (w.segs i) g wanted).marks) g k.cid rid ≡ true) h.done
      row-ready = each_weaker (λ rid. is_processed ms g k.cid rid ≡ true) (λ rid. is_processed ((ms ++ []) ++ (is_granted s g wanted).marks) g k.cid rid ≡ true) (λ rid z. done-same rid ∙ z) h.done h.ready

      row-free : AreLeft ((marks_in w.steps ++ []) ++ (is_granted (w.segs i) g wanted).marks) g k rids
      row-free = each_weaker (λ rid. is_processed ms g k.cid rid ≡ false) (λ rid. is_processed ((ms ++ []) ++ (is_granted s g wanted).marks) g k.cid rid ≡ false) (λ rid z. done-same rid ∙ z) rids h.free

      row-counted : count ≡ own_count g k.cid (is_granted (w.segs i) g wanted).seg.versions
      row-counted = h.counted ∙ ap (own_count g k.cid) (sym (granted-versions s g wanted))

      row-was : Legals (Ok script w.steps e (w.segs i).node) [] (is_granted (w.segs i) g wanted).marks
      row-was = legals-locks (Ok script w.steps e s.node) (lock-ok script w.steps e s.node) [] (is_granted s g wanted).marks (granted-locks s g wanted)

      live-row-legal : Legals (Ok script w.steps e (w.segs i).node) [] (goes_through g k rids (is_granted (w.segs i) g wanted) count).marks
      live-row-legal =
          goes-legal script w.steps e [] s g k (runs v s.node [] tt) (its-sight horizon s on-it [] tt upto v (below (alive v)) h.has.served) here-versions here-homes h.has.part row-part h.done rids h.split (is_granted s g wanted) goes-on row-free count row-counted row-was

      live-row-out : HaveHomes ((marks_in w.steps ++ []) ++ (goes_through g k rids (is_granted (w.segs i) g wanted) count).marks) → Outcome script w.steps e [] s g k (runs v s.node [] tt) (its-sight horizon s on-it [] tt upto v (below (alive v)) h.has.served) changes here-versions here-homes (goes_through g k rids (is_granted (w.segs i) g wanted) count)
      live-row-out given =
          goes-out script w.steps e [] s g k (runs v s.node [] tt) (its-sight horizon s on-it [] tt upto v (below (alive v)) h.has.served) changes here-versions here-homes (has-behind horizon s on-it [] tt upto h.has) part-place h.done rids h.split (is_granted s g wanted) goes-on row-ready row-free count row-counted row-was
          (given, row-work.work)

    -- where it stops it needs what it asks for
    pub row-stops : How → Stops (marks_in w.steps ++ []) (w.segs i).node g k rids (is_granted (w.segs i) g wanted)
    row-stops how =
        stops-so (ms ++ []) s g k (marked-for script w known i one g horizon s on-it opens [] tt here-homes here-versions named) (is_granted s g wanted) goes-on (granted-owned s g wanted owner)
        (told-granted (ms ++ []) s.node s g wanted refl ((known.locked.marked.segments i one).holds ∙ ap (λ q. holds_at ms q) (sym named) ∙ ap (λ q. holds_at q s.node) (sym (append-nil ms)))) rids (λ unaborted. by_way unaborted how)
      where
        by_way : is_aborted (marks_in w.steps ++ []) g ≡ false → How → (sight : Sight (marks_in w.steps ++ []) (w.segs i) g k) × ((visits : List Visit) (last : Moved) (rid : Rid) (rest : List Rid) → rids ≡ visited visits ++ rid ∷ rest → IsPath g k (is_granted (w.segs i) g wanted) visits last
            → IsChosen sight.rows k rid × (is_processed ((marks_in w.steps ++ []) ++ last.marks) g k.cid rid ≡ false))
        by_way unaborted (inl v) = (
          its-sight horizon s on-it [] tt upto v (below (alive v)) (h v).has.served,
          rows-to-do script w.steps e [] s g k (runs v s.node [] tt) (its-sight horizon s on-it [] tt upto v (below (alive v)) (h v).has.served) here-versions here-homes (h v).has.part (row-part v) (h v).done rids (h v).split (is_granted s g wanted) goes-on (row-free v) count (row-counted v),
        )
        by_way unaborted (inr v) = absurd (true-false (is_aborted (ms ++ []) g) (ap (λ z. is_aborted z g) (append-nil ms) ∙ v.aborted) unaborted)

    pub row-legal : How → Legals (Ok script w.steps e (w.segs i).node) [] (goes_through g k rids (is_granted (w.segs i) g wanted) count).marks
    row-legal (inl v) = live-row-legal v
    row-legal (inr v) =
        late-goes script w.steps e [] s g k (stmt_of_change k) (is-statement k) (gone v) rids (is_granted s g wanted) count (late-granted script w.steps e [] s g k (stmt_of_change k) (is-statement k) (gone v) here-homes here-versions wanted)

    pub row-result : How → Each (IsPlacedMark script (marks_in w.steps)) (goes_through g k rids (is_granted (w.segs i) g wanted) count).marks → Result horizon (w.segs i) on-it [] tt upto (goes_through g k rids (is_granted (w.segs i) g wanted) count)
    row-result (inl v) p =
        live-result horizon s on-it [] tt upto v below (h v).has.served (goes_through g k rids (is_granted s g wanted) count)
        (live-row-out v (given-homes horizon s on-it [] tt upto (goes_through g k rids (is_granted s g wanted) count) p))
    row-result (inr v) p = late-result horizon s on-it [] tt upto v (goes_through g k rids (is_granted s g wanted) count)
