-- At a row at which a command stops another transaction is in the way, and, unless its own has aborted, it has the row still to do.
use Rattle.std.proofs.Common.{◌≡◌, ◌≤◌, ◌∙◌, ℕ, ◌&&◌, ◌||◌, ◌==◌, not, List, [], ◌∷◌, ◌++◌, Option, Some, None, Bool, true, false, refl, sym, subst, ap, if◌then◌else◌, arith}
use Rattle.std.proofs.lemmas.Bool.{or_left}
use Rattle.std.proofs.lemmas.Bool.Decides.{nat_tests}
use Rattle.std.proofs.lemmas.List.{append_assoc}
use Rattle.std.proofs.lemmas.List.Elements.{Contains-append_left, Contains-append_right, Contains-push}
use Rattle.std.specs.List.{list_any}
use Rattle.std.specs.Prelude.{Contains}
use Rattle.gx_lemmas.proofs.Tests.{true-false}
use Rattle.gx_ids.specs.declared.ids.Cid.{Cid}
use Rattle.gx_ids.specs.declared.ids.Gxid.{Gxid}
use Rattle.gx_ids.specs.declared.ids.Node.{Node}
use Rattle.gx_ids.specs.declared.ids.Table.{Table}
use Rattle.gx_ids.specs.declared.rid.Rid.{Rid}
use Rattle.gx_tree.specs.declared.value.Value.{Value}
use Rattle.gx_locks.specs.Locks.{Locks}
use Rattle.gx_modes.specs.declared.modes.Mode.TheVariants.{Exclusive}
use Rattle.gx_waits.specs.Claim.{same_claim}
use Rattle.gx_waits.specs.Claims.{claim, with_claim, without_claim}
use Rattle.gx_waits.specs.declared.claim.Claim.{Claim}
use Rattle.gx_waits.specs.declared.object.Object.{Object}
use Rattle.gx_waits.specs.declared.object.Object.TheVariants.{Relation, Transaction, Tuple}
use Rattle.gx_store.proofs.Exclusive.{holds_from-append}
use Rattle.gx_store.proofs.Marks.{is_aborted-append}
use Rattle.gx_store.proofs.Rows.{same_rid}
use Rattle.gx_script.specs.declared.Script.{Script}
use Rattle.gx_store.specs.Asking.{IsInTheWay, IsToDo, NeedsAt, counts_at}
use Rattle.gx_store.specs.Journals.{is_same_node}
use Rattle.gx_store.specs.Marks.{is_aborted, is_committed, is_processed, is_same_gxid, is_same_rid}
use Rattle.gx_store.specs.Points.{marks_in}
use Rattle.gx_store.specs.Protocol.{is_writer}
use Rattle.gx_store.specs.Waits.{holds_at, holds_from, is_held}
use Rattle.gx_store.specs.declared.mark.Mark.{Mark}
use Rattle.gx_store.specs.declared.mark.Mark.TheVariants as mark
use Rattle.gx_rules.specs.Changes.{Change, is_settled, tuple_lock}
use Rattle.gx_rules.specs.Locks.{hold_mark, release_mark}
use Rattle.gx_rules.specs.Machine.{World}
use Rattle.gx_rules.specs.Running.{is_granted, unless_end}
use Rattle.gx_rules.specs.Segments.{Phase, Seg, Version, has_committed, has_ended, is_unaborted, local_of}
use Rattle.gx_rules.specs.Segments.Phase.{Aborted, Committed, Forgotten, Prepared, Reading, Writing}
use Rattle.gx_rules.specs.Shown.{current_of, is_current}
use Rattle.gx_rules.specs.Slices.{Moved, adds_version, gives_back, is_holding, own_lock, takes_lock, takes_own, version}
use Rattle.gx_rules.specs.Visits.{IsPath, Visit, visited}
use Rattle.gx_rules.proofs.Moving.{Keeps, path-keeps}
use Rattle.gx_law_order.proofs.Letters.{same_node}
use Rattle.gx_law_order.proofs.Lists.{each_append, each_weaker}
use Rattle.gx_law_order.proofs.OwnLocks.{LocksItself, has_version}
use Rattle.gx_law_order.proofs.SegItems.{writes_at}
use Rattle.gx_law_order.proofs.Waiting.{freed}
use Rattle.gx_law_order.specs.Lists.{Each}
use Rattle.gx_law_order.specs.Pairs.{is_open}
use Rattle.gx_law_order.specs.Standings.{at}
use Rattle.gx_law_reads.proofs.Images.{versions-written}
use Rattle.gx_law_reads.proofs.Seeing.{ends-at}
use Rattle.gx_law_reads.specs.Sights.{IsOnlyAt}
use Rattle.gx_law_writes.proofs.Chosen.{IsChosen, Sight, snapshot-still, view-still}
use Rattle.gx_law_writes.proofs.Current.{newest-has, newest-same, only-append, work-here}
use Rattle.gx_law_writes.proofs.Ended.{writer-ended}
use Rattle.gx_law_writes.proofs.Frames.{Inv, held-other, lock-more, stays-so, without-other}
use Rattle.gx_law_writes.proofs.Late.{AreHere, IsHere, here-all}
use Rattle.gx_law_writes.proofs.Locks.{processed-behind}
use Rattle.gx_law_writes.proofs.Newest.{FailsBoth, IsWriteOf, find-reverse, is_row, newest, newest-write}
use Rattle.gx_law_writes.proofs.SelectedRows.{HaveHomes, of-versions}
use Rattle.gx_law_writes.proofs.Sound.{aborted-still}
use Rattle.gx_law_writes.proofs.VersionsTold.{IsOn, Known, each-version}

-- WRITES BY THE MARKS
-- a version's write is among these marks
abbrev pub IsNoted : List Mark → Node → Version → Type 0
IsNoted marks node v = Contains marks (mark.Write v.gxid v.cid node v.table v.rid v.image)

writes-noted : (node : Node) (ms : List Mark) → Each (IsNoted ms node) (writes_at node ms)
writes-noted node [] = tt
writes-noted node (mark.Write g c n table rid image ∷ ms) = by_test (is_same_node n node) refl (each-front (writes_at node ms) (writes-noted node ms))
  where
    each-front : (vs : List Version) → Each (IsNoted ms node) vs → Each (IsNoted (mark.Write g c n table rid image ∷ ms) node) vs
    each-front vs e =
        each_weaker (IsNoted ms node) (IsNoted (mark.Write g c n table rid image ∷ ms) node) (λ v k. Contains-append_right (mark.Write g c n table rid image ∷ []) ms (mark.Write v.gxid v.cid node v.table v.rid v.image) k) vs e

    v : Version
    v = record { gxid = g; cid = c; table = table; rid = rid; image = image }

    here : n ≡ node → Contains (mark.Write g c n table rid image ∷ ms) (mark.Write g c node table rid image)
    here same =
        subst (λ q. Contains (mark.Write g c n table rid image ∷ ms) (mark.Write g c q table rid image)) same
        (Contains-append_left (mark.Write g c n table rid image ∷ []) ms (mark.Write g c n table rid image) (Contains-push [] (mark.Write g c n table rid image)))

    by_test : (b : Bool) → is_same_node n node ≡ b → Each (IsNoted (mark.Write g c n table rid image ∷ ms) node) (writes_at node ms)
        → Each (IsNoted (mark.Write g c n table rid image ∷ ms) node) (if b then v ∷ writes_at node ms else writes_at node ms)
    by_test true q e = (here (same_node n node q), e)
    by_test false q e = e
writes-noted node (m ∷ ms) =
    each_weaker (IsNoted ms node) (IsNoted (m ∷ ms) node) (λ v k. Contains-append_right (m ∷ []) ms (mark.Write v.gxid v.cid node v.table v.rid v.image) k) (writes_at node ms) (writes-noted node ms)

-- LOCKS BY THE MARKS
-- a mark of locks is of the transaction's own
abbrev pub IsOwned : Gxid → Mark → Type 0
IsOwned g (mark.Hold n h object mode) = h ≡ g
IsOwned g (mark.Release n h object mode) = h ≡ g
IsOwned g _ = Unit {0}

gxid-self : (g : Gxid) → is_same_gxid g g ≡ true
gxid-self g = grind (arith, nat_tests)

-- these leave who else holds itself
others-hold : (node : Node) (g h : Gxid) → is_same_gxid h g ≡ false → (ms : List Mark) → Each (IsOwned g) ms → (holds : List Claim) → list_any (same_claim (own_lock h)) (holds_from node holds ms) ≡ list_any (same_claim (own_lock h)) holds
others-hold node g h other [] e holds = refl
others-hold node g h other (mark.Hold n k object mode ∷ ms) e holds = others-hold node g h other ms e.1 (if n.0 == node.0 then with_claim (claim k object mode) holds else holds) ∙ by_node (n.0 == node.0)
  where
    by_node : (b : Bool) → list_any (same_claim (own_lock h)) (if b then with_claim (claim k object mode) holds else holds) ≡ list_any (same_claim (own_lock h)) holds
    by_node true = held-other (claim k object mode) (own_lock h) holds (subst (λ a. is_same_gxid h a ≡ false) (sym e.0) other)
    by_node false = refl
others-hold node g h other (mark.Release n k object mode ∷ ms) e holds = others-hold node g h other ms e.1 (if n.0 == node.0 then without_claim (claim k object mode) holds else holds) ∙ by_node (n.0 == node.0)
  where
    by_node : (b : Bool) → list_any (same_claim (own_lock h)) (if b then without_claim (claim k object mode) holds else holds) ≡ list_any (same_claim (own_lock h)) holds
    by_node true = without-other (claim k object mode) (own_lock h) holds (subst (λ a. is_same_gxid h a ≡ false) (sym e.0) other)
    by_node false = refl
others-hold node g h other (m ∷ ms) e holds = others-hold node g h other ms e.1 holds

-- WHAT IS KNOWN OF A SEGMENT
-- where the version's transaction was aborted, the marks say so, and it doesn't hold itself
pub record IsLost (before : List Mark) (b : Seg) (v : Version) : Type 0 where
  pub aborted : is_unaborted (local_of b v.gxid).phase ≡ false → is_aborted before v.gxid ≡ true
  pub free : is_unaborted (local_of b v.gxid).phase ≡ false → list_any (same_claim (own_lock v.gxid)) b.locks.holds ≡ false

pub record IsMarkedFor (before : List Mark) (b : Seg) (g : Gxid) : Type 0 where
  pub lost : Each (IsLost before b) b.versions
  pub held : (h : Gxid) → is_same_gxid h g ≡ false → is_held before b.node h (Transaction h) Exclusive ≡ list_any (same_claim (own_lock h)) b.locks.holds
  pub homes : HaveHomes before
  pub versions : b.versions ≡ writes_at b.node before

open-unaborted : (p : Phase) → is_open p ≡ true → is_unaborted p ≡ true
open-unaborted p e = grind arith

same-gxids : (a b : Gxid) → is_same_gxid a b ≡ true → a ≡ b
same-gxids a b e = grind (arith, nat_tests)

same-tables : (a b : Table) → (a.0 == b.0) ≡ true → a ≡ b
same-tables a b e = grind (arith, nat_tests)

self-table : (t : Table) → (t.0 == t.0) ≡ true
self-table t = grind (arith, nat_tests)

module _ (before : List Mark) (b : Seg) (g : Gxid) (k : Change) (is : IsMarkedFor before b g) (m : Moved) (i : Inv b before g k.cid k.table m) (owned : Each (IsOwned g) m.marks) where
  abbrev now : List Mark
  now = before ++ m.marks

  -- who else holds itself, by the marks
  held-now : (h : Gxid) → is_same_gxid h g ≡ false → is_held (before ++ m.marks) b.node h (Transaction h) Exclusive ≡ is_holding m (own_lock h)
  held-now h other =
      ap (λ hs. list_any (same_claim (own_lock h)) hs) (holds_from-append b.node [] before m.marks)
      ∙ others-hold b.node g h other m.marks owned (holds_at before b.node) ∙ is.held h other ∙ sym (i.holds h other)

  -- IN THE WAY
  module _ (rid : Rid) (v : Version) (current : current_of m.seg k.table rid ≡ Some v) (unsettled : is_settled m g v.gxid ≡ false) where
    other : is_same_gxid v.gxid g ≡ false
    other = first (is_same_gxid v.gxid g) _ unsettled
      where
        first : (a b : Bool) → (a || b) ≡ false → a ≡ false
        first a b e = grind arith

    holding : is_holding m (own_lock v.gxid) ≡ true
    holding = second (is_same_gxid v.gxid g) (is_holding m (own_lock v.gxid)) unsettled
      where
        second : (a b : Bool) → (a || not b) ≡ false → b ≡ true
        second a b e = grind arith

    unended : is_held (before ++ m.marks) b.node v.gxid (Transaction v.gxid) Exclusive ≡ true
    unended = held-now v.gxid other ∙ holding

    abbrev right : Version → Bool
    right u = (u.table.0 == k.table.0) && is_unaborted (local_of m.seg u.gxid).phase

    abbrev counting : Gxid → Cid → Bool
    counting h c = counts_at (before ++ m.marks) b.node h

    none-some : None ≡ Some v → ⊥
    none-some e = cc

    -- what holds of all versions holds of the current one
    its : (P : Version → Type 0) → Each P m.seg.versions → P v × (is_current m.seg k.table rid v ≡ true)
    its P e = newest-has P (is_current m.seg k.table rid) None m.seg.versions v e (λ z. absurd (none-some z)) (sym (find-reverse (is_current m.seg k.table rid) m.seg.versions) ∙ current)

    parts : (a b d : Bool) → (a && (b && d)) ≡ true → (a ≡ true) × (b ≡ true)
    parts a b d e = (grind arith, grind arith)

    passes : is_current m.seg k.table rid v ≡ true
    passes = (its (λ u. Unit {0}) (all-unit m.seg.versions)).1
      where
        all-unit : (vs : List Version) → Each (λ (u : Version). Unit {0}) vs
        all-unit [] = tt
        all-unit (u ∷ us) = (tt, all-unit us)

    its-table : v.table ≡ k.table
    its-table = same-tables v.table k.table (parts (v.table.0 == k.table.0) (is_same_rid v.rid rid) _ passes).0

    its-rid : v.rid ≡ rid
    its-rid = same_rid v.rid rid (parts (v.table.0 == k.table.0) (is_same_rid v.rid rid) _ passes).1

    -- it stood there before the turn
    abbrev WasHere : Version → Type 0
    WasHere u = is_same_gxid u.gxid g ≡ false → IsHere b.node before u

    own-here : (vs : List Version) → Each (λ (u : Version). (u.gxid ≡ g) × (u.cid ≡ k.cid) × (u.table ≡ k.table)) vs → Each WasHere vs
    own-here [] e = tt
    own-here (u ∷ us) e = ((λ z. absurd (true-false (is_same_gxid u.gxid g) (ap (λ h. is_same_gxid h g) e.0.0 ∙ gxid-self g) z)), own-here us e.1)

    was-here : IsHere b.node before v
    was-here =
        (its WasHere (subst (Each WasHere) (sym i.added.is) (each_append WasHere b.versions i.added.own
        (each_weaker (IsHere b.node before) WasHere (λ u h z. h) b.versions (subst (AreHere b.node before) (sym is.versions) (here-all b.node before is.homes))) (own-here i.added.own i.added.mine)))).0 other

    only : IsOnlyAt b.node rid (before ++ m.marks)
    only =
        subst (λ r. IsOnlyAt b.node r (before ++ m.marks)) its-rid
        (only-append b.node v.rid before m.marks (is.homes.nodes v.rid b.node was-here.0) (work-here b.node v.rid g k.cid m.marks i.work))

    -- all versions of the row are of its table
    abbrev OfIts : Version → Type 0
    OfIts u = is_same_rid u.rid v.rid ≡ true → (u.table.0 == k.table.0) ≡ true

    old-of : Each OfIts b.versions
    old-of =
        let t = is.homes.tables v.rid in
        let all : Each (λ (u : Version). is_same_rid u.rid v.rid ≡ true → (u.table.0 == t.0.0) ≡ true) b.versions = subst (Each (λ (u : Version). is_same_rid u.rid v.rid ≡ true → (u.table.0 == t.0.0) ≡ true)) (sym is.versions) (of-versions b.node t.0 v.rid before t.1) in
        each_weaker (λ (u : Version). is_same_rid u.rid v.rid ≡ true → (u.table.0 == t.0.0) ≡ true) OfIts (λ u h z. ap (λ (q : Table). q.0 == k.table.0) (same-tables u.table t.0 (h z) ∙ sym (its-first t.0 all)) ∙ table-of) b.versions all
      where
        table-of : (v.table.0 == k.table.0) ≡ true
        table-of = (parts (v.table.0 == k.table.0) (is_same_rid v.rid rid) _ passes).0

        rid-self : (r : Rid) → is_same_rid r r ≡ true
        rid-self r = grind (arith, nat_tests)

        its-first : (t : Table) → Each (λ (u : Version). is_same_rid u.rid v.rid ≡ true → (u.table.0 == t.0) ≡ true) b.versions → v.table ≡ t
        its-first t all =
            same-tables v.table t
            ((its P (subst (Each P) (sym i.added.is) (each_append P b.versions i.added.own (each_weaker (λ (u : Version). is_same_rid u.rid v.rid ≡ true → (u.table.0 == t.0) ≡ true) P (λ u h z w. h w) b.versions all) (own-P i.added.own i.added.mine)))).0 other (rid-self v.rid))
          where
            P : Version → Type 0
            P u = is_same_gxid u.gxid g ≡ false → is_same_rid u.rid v.rid ≡ true → (u.table.0 == t.0) ≡ true

            own-P : (vs : List Version) → Each (λ (u : Version). (u.gxid ≡ g) × (u.cid ≡ k.cid) × (u.table ≡ k.table)) vs → Each P vs
            own-P [] e = tt
            own-P (u ∷ us) e = ((λ z. absurd (true-false (is_same_gxid u.gxid g) (ap (λ h. is_same_gxid h g) e.0.0 ∙ gxid-self g) z)), own-P us e.1)

    -- who doesn't pass the one test doesn't pass the other
    fails-one : (u : Version) → OfIts u → (right u ≡ false → counting u.gxid u.cid ≡ false) → FailsBoth b.node rid right counting u
    fails-one u of h same wrong = h wrong

    second-false : (a b : Bool) → a ≡ true → (a && b) ≡ false → b ≡ false
    second-false true b e f = f
    second-false false b e f = absurd (true-false false e refl)

    neither : (a b : Bool) → a ≡ false → b ≡ true → (a || not b) ≡ false
    neither a b e f = grind arith

    old-fails : (u : Version) → OfIts u → IsLost before b u → FailsBoth b.node rid right counting u
    old-fails u of lost same wrong = by_owner (is_same_gxid u.gxid g) refl
      where
        its-lost : is_unaborted (local_of m.seg u.gxid).phase ≡ false
        its-lost = second-false (u.table.0 == k.table.0) _ (of (subst (λ r. is_same_rid u.rid r ≡ true) (sym its-rid) same)) wrong

        by_owner : (q : Bool) → is_same_gxid u.gxid g ≡ q → counting u.gxid u.cid ≡ false
        by_owner true q = absurd (true-false (is_unaborted (local_of m.seg u.gxid).phase) (ap (λ h. is_unaborted (local_of m.seg h).phase) (same-gxids u.gxid g q) ∙ open-unaborted _ i.opens) its-lost)
        by_owner false q =
            let was : is_unaborted (local_of b u.gxid).phase ≡ false = sym (ap (λ (l : Rattle.gx_rules.specs.Segments.Local). is_unaborted l.phase) (i.others u.gxid q)) ∙ its-lost in
            neither (is_held now b.node u.gxid (Transaction u.gxid) Exclusive) (is_aborted now u.gxid) (held-now u.gxid q ∙ i.holds u.gxid q ∙ lost.free was) (aborted-still b.node g u.gxid k.cid before m.marks i.work ∙ lost.aborted was)

    own-fails : (vs : List Version) → Each (λ (u : Version). (u.gxid ≡ g) × (u.cid ≡ k.cid) × (u.table ≡ k.table)) vs → Each (FailsBoth b.node rid right counting) vs
    own-fails [] e = tt
    own-fails (u ∷ us) e = (
      λ same wrong.
          absurd (true-false (is_unaborted (local_of m.seg u.gxid).phase) (ap (λ h. is_unaborted (local_of m.seg h).phase) e.0.0 ∙ open-unaborted _ i.opens)
          (second-false (u.table.0 == k.table.0) _ (ap (λ (t : Table). t.0 == k.table.0) e.0.2 ∙ self-table k.table) wrong)),
      own-fails us e.1,
    )

    all-fail : Each (FailsBoth b.node rid right counting) m.seg.versions
    all-fail = subst (Each (FailsBoth b.node rid right counting)) (sym i.added.is) (each_append (FailsBoth b.node rid right counting) b.versions i.added.own (old-all b.versions old-of is.lost) (own-fails i.added.own i.added.mine))
      where
        old-all : (vs : List Version) → Each OfIts vs → Each (IsLost before b) vs → Each (FailsBoth b.node rid right counting) vs
        old-all [] e f = tt
        old-all (u ∷ us) e f = (old-fails u e.0 f.0, old-all us e.1 f.1)

    newest-it : newest (is_row b.node rid right counting) None m.seg.versions ≡ Some v
    newest-it =
        sym (newest-same (is_current m.seg k.table rid) (is_row b.node rid right counting) (λ u. swap (u.table.0 == k.table.0) (is_same_rid u.rid rid) (is_unaborted (local_of m.seg u.gxid).phase)) None m.seg.versions)
        ∙ sym (find-reverse (is_current m.seg k.table rid) m.seg.versions) ∙ current
      where
        swap : (a b d : Bool) → (a && (b && d)) ≡ (b && (a && d))
        swap a b d = grind arith

    last : IsWriteOf v (Rattle.gx_store.specs.Writes.last_write counting rid 0 None (before ++ m.marks))
    last =
        newest-write b.node rid right counting v (or_left (is_held now b.node v.gxid (Transaction v.gxid) Exclusive) (not (is_aborted now v.gxid)) unended) now 0 None None only
        (subst (Each (FailsBoth b.node rid right counting)) i.versions all-fail) (λ z. absurd (none-some z)) (subst (λ vs. newest (is_row b.node rid right counting) None vs ≡ Some v) i.versions newest-it)

    made : Contains (before ++ m.marks) (mark.Write v.gxid v.cid b.node k.table rid v.image)
    made =
        subst (λ t. Contains now (mark.Write v.gxid v.cid b.node t rid v.image)) its-table
        (subst (λ r. Contains now (mark.Write v.gxid v.cid b.node v.table r v.image)) its-rid (its (IsNoted now b.node) (subst (Each (IsNoted now b.node)) (sym i.versions) (writes-noted b.node now))).0)

    pub in-the-way : IsInTheWay (before ++ m.marks) b.node g k.table rid v.gxid
    in-the-way =
        record {
          other = other;
          write = last.write;
          newest = last.is;
          writer = last.gxid;
          made = subst (λ x. Contains now (mark.Write v.gxid last.write.cid b.node k.table rid x)) (sym last.image) (subst (λ c. Contains now (mark.Write v.gxid c b.node k.table rid v.image)) (sym last.cid) made);
          unended = unended;
        }

-- STILL TO DO
pub to-do : (before : List Mark) (b : Seg) (g : Gxid) (k : Change) (sight : Sight before b g k) (m : Moved) (i : Inv b before g k.cid k.table m) (rid : Rid) → IsChosen sight.rows k rid → is_processed (before ++ m.marks) g k.cid rid ≡ false
    → IsToDo (before ++ m.marks) k.level g k.cid k.table k.cond rid
to-do before b g k sight m i rid chosen free =
    record {
      rows = sight.rows;
      sees = record { place = sight.place; taken = snapshot-still before b g k sight m i; view = view-still before b g k sight m i };
      row = chosen.row;
      shown = chosen.shown;
      chosen = chosen.chosen;
      left = free;
    }

-- WHERE IT STOPS
-- What a command needs at a row at which it stops, behind these marks: where it comes to the row, and with the row's lock.
abbrev pub NeedsThere : List Mark → Node → Gxid → Change → Moved → Rid → Type 0
NeedsThere before node g k m rid = (v : Version) → current_of m.seg k.table rid ≡ Some v → is_settled m g v.gxid ≡ false → NeedsAt (before ++ m.marks) node k.level g k.cid k.table k.cond rid v.gxid

-- what it holds is what the marks tell
abbrev pub AreHoldsTold : List Mark → Node → Moved → Type 0
AreHoldsTold before node m = (m.seg.node ≡ node) × (m.seg.locks.holds ≡ holds_at (before ++ m.marks) node)

abbrev pub Stops : List Mark → Node → Gxid → Change → List Rid → Moved → Type 0
Stops before node g k rids m =
    (visits : List Visit) (last : Moved) (rid : Rid) (rest : List Rid) → rids ≡ visited visits ++ rid ∷ rest → IsPath g k m visits last
    → NeedsThere before node g k last rid × NeedsThere before node g k (takes_lock (tuple_lock g rid) last) rid × AreHoldsTold before node last

-- so it is with a lock more, with one less, and behind a mark of none
module _ (before : List Mark) (node : Node) where
  itself : (a : ℕ) → (a == a) ≡ true
  itself a = grind (arith, nat_tests)

  here : (m : Moved) → m.seg.node ≡ node → (m.seg.node.0 == node.0) ≡ true
  here m there = ap (λ (q : Node). q.0 == node.0) there ∙ itself node.0

  behind : (m : Moved) (x : Mark) → holds_at (before ++ (m.marks ++ x ∷ [])) node ≡ holds_from node (holds_at (before ++ m.marks) node) (x ∷ [])
  behind m x = ap (λ b. holds_at b node) (sym (append_assoc before m.marks (x ∷ []))) ∙ holds_from-append node [] (before ++ m.marks) (x ∷ [])

  pub told-taken : (m : Moved) (wanted : Claim) → AreHoldsTold before node m → AreHoldsTold before node (takes_lock wanted m)
  told-taken m wanted e = (e.0, ap (λ hs. with_claim wanted hs) e.1 ∙ sym (behind m (hold_mark m.seg.node wanted) ∙ ap (λ b. if b then with_claim wanted (holds_at (before ++ m.marks) node) else holds_at (before ++ m.marks) node) (here m e.0)))

  told-given : (m : Moved) (old : Claim) → AreHoldsTold before node m → AreHoldsTold before node (gives_back old m)
  told-given m old e = (e.0, ap (λ hs. without_claim old hs) e.1 ∙ sym (behind m (release_mark m.seg.node old) ∙ ap (λ b. if b then without_claim old (holds_at (before ++ m.marks) node) else holds_at (before ++ m.marks) node) (here m e.0)))

  told-noted : (m : Moved) (s : Seg) (x : Mark) → s.node ≡ m.seg.node → s.locks ≡ m.seg.locks → ((hs : List Claim) → holds_from node hs (x ∷ []) ≡ hs) → AreHoldsTold before node m → AreHoldsTold before node (record { seg = s; marks = m.marks ++ x ∷ [] })
  told-noted m s x same locks free e = (same ∙ e.0, ap (λ (q : Locks). q.holds) locks ∙ e.1 ∙ sym (behind m x ∙ free (holds_at (before ++ m.marks) node)))

  told-own : (g : Gxid) (phase : Phase) (m : Moved) → AreHoldsTold before node m → AreHoldsTold before node (takes_own g phase m)
  told-own g Reading m e = told-taken m (own_lock g) e
  told-own g Writing m e = e
  told-own g Prepared m e = e
  told-own g Committed m e = e
  told-own g (Forgotten b) m e = e
  told-own g Aborted m e = e

  told-keeps : (g : Gxid) (k : Change) → Keeps g k (AreHoldsTold before node)
  told-keeps g k =
      record {
        takes = λ m rid free e. told-taken m (tuple_lock g rid) e;
        gives = λ m rid held e. told-given m (tuple_lock g rid) e;
        writes = λ m rid image why e.
            told-own g (local_of m.seg g).phase (record { seg = with-version m rid image; marks = m.marks ++ mark.Write g k.cid m.seg.node k.table rid image ∷ [] })
            (told-noted m (with-version m rid image) (mark.Write g k.cid m.seg.node k.table rid image) refl refl (λ hs. refl) e);
        skips = λ m rid why e. told-noted m m.seg (mark.Skip g k.cid rid) refl refl (λ hs. refl) e;
        faults = λ m rid image e. told-noted m m.seg (mark.Fault g k.cid rid image) refl refl (λ hs. refl) e;
      }
    where
      with-version : Moved → Rid → Option (List Value) → Seg
      with-version m rid image = adds_version m.seg g (version g k.cid k.table rid image)

  -- and where what it has waited for is granted
  pub told-granted : (s : Seg) (g : Gxid) (wanted : Claim) → s.node ≡ node → s.locks.holds ≡ holds_at before node → AreHoldsTold before node (is_granted s g wanted)
  told-granted s g wanted there told = by_object wanted.object
    where
      held : Moved
      held = record { seg = freed s g wanted; marks = hold_mark s.node wanted ∷ [] }

      is-told : AreHoldsTold before node held
      is-told = (there, ap (λ hs. with_claim wanted hs) told ∙ sym (holds_from-append node [] before (hold_mark s.node wanted ∷ []) ∙ ap (λ b. if b then with_claim wanted (holds_at before node) else holds_at before node) (ap (λ (q : Node). q.0 == node.0) there ∙ itself node.0)))

      by_object : (o : Object) → AreHoldsTold before node (unless_end wanted o held)
      by_object (Transaction writer) = told-given held wanted is-told
      by_object (Relation table) = is-told
      by_object (Tuple rid) = is-told

-- its marks of locks are its own
own-owned : (g : Gxid) (phase : Phase) (m : Moved) → Each (IsOwned g) m.marks → Each (IsOwned g) (takes_own g phase m).marks
own-owned g Reading m e = each_append (IsOwned g) m.marks _ e (refl, tt)
own-owned g Writing m e = e
own-owned g Prepared m e = e
own-owned g Committed m e = e
own-owned g (Forgotten b) m e = e
own-owned g Aborted m e = e

pub owned-keeps : (g : Gxid) (k : Change) → Keeps g k (λ (m : Moved). Each (IsOwned g) m.marks)
owned-keeps g k =
    record {
      takes = λ m rid free e. each_append (IsOwned g) m.marks _ e (refl, tt);
      gives = λ m rid held e. each_append (IsOwned g) m.marks _ e (refl, tt);
      writes = λ m rid image why e. own-owned g (local_of m.seg g).phase _ (each_append (IsOwned g) m.marks _ e (tt, tt));
      skips = λ m rid why e. each_append (IsOwned g) m.marks _ e (tt, tt);
      faults = λ m rid image e. each_append (IsOwned g) m.marks _ e (tt, tt);
    }

-- what it has waited for is granted
pub granted-owned : (s : Seg) (g : Gxid) (wanted : Claim) → wanted.gxid ≡ g → Each (IsOwned g) (is_granted s g wanted).marks
granted-owned s g wanted owner = by_object wanted.object
  where
    held : Moved
    held = record { seg = freed s g wanted; marks = hold_mark s.node wanted ∷ [] }

    by_object : (o : Object) → Each (IsOwned g) (unless_end wanted o held).marks
    by_object (Transaction writer) = (owner, (owner, tt))
    by_object (Relation table) = (owner, tt)
    by_object (Tuple rid) = (owner, tt)

-- A row that it comes to, unless its transaction has aborted, it has chosen and has still to do. Then that is what it needs there.
pub stops-so : (before : List Mark) (b : Seg) (g : Gxid) (k : Change) → IsMarkedFor before b g → (m : Moved) → Inv b before g k.cid k.table m → Each (IsOwned g) m.marks → AreHoldsTold before b.node m → (rids : List Rid)
    → (is_aborted before g ≡ false → (sight : Sight before b g k) × ((visits : List Visit) (last : Moved) (rid : Rid) (rest : List Rid) → rids ≡ visited visits ++ rid ∷ rest → IsPath g k m visits last
    → IsChosen sight.rows k rid × (is_processed (before ++ last.marks) g k.cid rid ≡ false))) → Stops before b.node g k rids m
stops-so before b g k is m i owned told rids live visits last rid rest split path = (
  λ v current unsettled. (in-the-way before b g k is last inv mine rid v current unsettled, λ alive. let a = live (unaborted last inv alive) in let t = a.1 visits last rid rest split path in to-do before b g k a.0 last inv rid t.0 t.1),
  λ v current unsettled. (
    in-the-way before b g k is with-lock inv-lock mine-lock rid v current unsettled,
    λ alive. let a = live (unaborted with-lock inv-lock alive) in let t = a.1 visits last rid rest split path in to-do before b g k a.0 with-lock inv-lock rid t.0 (still t.1),
  ),
  path-keeps g k (AreHoldsTold before b.node) (told-keeps before b.node g k) m visits last told path,
)
  where
    inv : Inv b before g k.cid k.table last
    inv = path-keeps g k (Inv b before g k.cid k.table) (stays-so b before g k.cid k.table k refl refl) m visits last i path

    mine : Each (IsOwned g) last.marks
    mine = path-keeps g k (λ (n : Moved). Each (IsOwned g) n.marks) (owned-keeps g k) m visits last owned path

    with-lock : Moved
    with-lock = takes_lock (tuple_lock g rid) last

    inv-lock : Inv b before g k.cid k.table (takes_lock (tuple_lock g rid) last)
    inv-lock = lock-more b before g k.cid k.table last (tuple_lock g rid) (gxid-self g) inv

    mine-lock : Each (IsOwned g) (takes_lock (tuple_lock g rid) last).marks
    mine-lock = each_append (IsOwned g) last.marks _ mine (refl, tt)

    unaborted : (n : Moved) → Inv b before g k.cid k.table n → is_aborted (before ++ n.marks) g ≡ false → is_aborted before g ≡ false
    unaborted n j e = sym (aborted-still b.node g g k.cid before n.marks j.work) ∙ e

    still : is_processed (before ++ last.marks) g k.cid rid ≡ false → is_processed (before ++ (takes_lock (tuple_lock g rid) last).marks) g k.cid rid ≡ false
    still e = ap (λ ms. is_processed ms g k.cid rid) (sym (append_assoc before last.marks _)) ∙ processed-behind (before ++ last.marks) _ g k.cid rid (tt, tt) ∙ e

-- AT A SEGMENT OF THE MACHINE
-- whose transaction was aborted there, it has aborted, and doesn't hold itself
module _ (script : Script) (w : World) (a : Known script w) (i : ℕ) (one : 1 ≤ i) where
  abbrev ms : List Mark
  ms = marks_in w.steps

  abbrev s : Seg
  s = w.segs i

  lost-one : (v : Version) → is_writer (marks_in w.steps) v.gxid (at i) ≡ true → has_version v.gxid.0 (w.segs i).versions ≡ true → IsLost (marks_in w.steps) (w.segs i) v
  lost-one v wrote has = record { aborted = λ e. by_commit e (is_committed ms v.gxid) refl; free = free }
    where
      locks : LocksItself (local_of (w.segs i) v.gxid).phase (has_version v.gxid.0 (w.segs i).versions) (list_any (same_claim (own_lock v.gxid)) (w.segs i).locks.holds)
      locks = (a.knows.well.writers i).each v.gxid.0

      no-hold : (p q h : Bool) → h ≡ (p && not q) → q ≡ true → h ≡ false
      no-hold p q h e f = grind arith

      lost-ended : (p : Phase) → is_unaborted p ≡ false → has_ended p ≡ true
      lost-ended p e = grind arith

      lost-uncommitted : (p : Phase) → is_unaborted p ≡ false → has_committed p ≡ false
      lost-uncommitted p e = grind arith

      other-one : (p q : Bool) → (p || q) ≡ true → p ≡ false → q ≡ true
      other-one p q e f = grind arith

      free : is_unaborted (local_of (w.segs i) v.gxid).phase ≡ false → list_any (same_claim (own_lock v.gxid)) (w.segs i).locks.holds ≡ false
      free e = no-hold (has_version v.gxid.0 s.versions) (has_ended (local_of s v.gxid).phase) _ locks.holds (lost-ended (local_of s v.gxid).phase e)

      by_commit : is_unaborted (local_of (w.segs i) v.gxid).phase ≡ false → (q : Bool) → is_committed (marks_in w.steps) v.gxid ≡ q → is_aborted (marks_in w.steps) v.gxid ≡ true
      by_commit e true q = absurd (true-false (has_committed (local_of s v.gxid).phase) ((ends-at script w a.knows a.holds a.facts a.hold (at i) v.gxid).committed q ∙ wrote) (lost-uncommitted (local_of s v.gxid).phase e))
      by_commit e false q = other-one (is_committed ms v.gxid) (is_aborted ms v.gxid) (writer-ended script w a.locked i one v.gxid wrote (free e)) q

  all-lost : Each (IsLost (marks_in w.steps) (w.segs i)) (w.segs i).versions
  all-lost =
      both-lost s.versions (subst (Each (λ (v : Version). is_writer ms v.gxid (at i) ≡ true)) (sym (a.hold i one).versions) (versions-written (at i) ms)) (each-version s.versions)
    where
      both-lost : (vs : List Version) → Each (λ (v : Version). is_writer (marks_in w.steps) v.gxid (at i) ≡ true) vs → Each (λ (v : Version). has_version v.gxid.0 (w.segs i).versions ≡ true) vs → Each (IsLost (marks_in w.steps) (w.segs i)) vs
      both-lost [] e f = tt
      both-lost (v ∷ vs) e f = (lost-one v e.0 f.0, both-lost vs e.1 f.1)

  -- on a segment where the command runs
  pub marked-for : (g horizon : Gxid) (b : Seg) → IsOn (w.segs i) g horizon b → is_open (local_of b g).phase ≡ true → (pre : List Mark) → Each (IsOwned g) pre → HaveHomes (marks_in w.steps ++ pre) → b.versions ≡ writes_at b.node (marks_in w.steps ++ pre) → b.node ≡ at i
      → IsMarkedFor (marks_in w.steps ++ pre) b g
  marked-for g horizon b on opens pre owned homes versions named =
      record { lost = subst (Each (IsLost (ms ++ pre) b)) (sym on.versions) (each_weaker (IsLost ms s) (IsLost (ms ++ pre) b) lost-on s.versions all-lost); held = held; homes = homes; versions = versions }
    where
      lost-on : (v : Version) → IsLost (marks_in w.steps) (w.segs i) v → IsLost (marks_in w.steps ++ pre) b v
      lost-on v l =
          record {
            aborted = λ e. is_aborted-append ms pre v.gxid ∙ or_left (is_aborted ms v.gxid) (is_aborted pre v.gxid) (l.aborted (sym (ap is_unaborted (on.phases v.gxid)) ∙ e));
            free = λ e. by_owner e (is_same_gxid v.gxid g) refl;
          }
        where
          by_owner : is_unaborted (local_of b v.gxid).phase ≡ false → (q : Bool) → is_same_gxid v.gxid g ≡ q → list_any (same_claim (own_lock v.gxid)) b.locks.holds ≡ false
          by_owner e true q = absurd (true-false (is_unaborted (local_of b v.gxid).phase) (ap (λ h. is_unaborted (local_of b h).phase) (same-gxids v.gxid g q) ∙ open-unaborted _ opens) e)
          by_owner e false q = on.holds v.gxid q ∙ l.free (sym (ap is_unaborted (on.phases v.gxid)) ∙ e)

      held : (h : Gxid) → is_same_gxid h g ≡ false → is_held (marks_in w.steps ++ pre) b.node h (Transaction h) Exclusive ≡ list_any (same_claim (own_lock h)) b.locks.holds
      held h other =
          ap (λ (n : Node). is_held (ms ++ pre) n h (Transaction h) Exclusive) named
          ∙ ap (λ hs. list_any (same_claim (own_lock h)) hs) (holds_from-append (at i) [] ms pre)
          ∙ others-hold (at i) g h other pre owned (holds_at ms (at i))
          ∙ ap (λ hs. list_any (same_claim (own_lock h)) hs) (sym (a.locked.marked.segments i one).holds)
          ∙ sym (on.holds h other)
