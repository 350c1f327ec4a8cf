-- What a command does to rows once its transaction has aborted: it writes only rows of its table, where they stand.
use Rattle.std.proofs.Common.{◌≡◌, ◌∙◌, inr, ℕ, ◌==◌, List, [], ◌∷◌, ◌++◌, Option, Some, None, Bool, true, false, refl, ap, sym, subst, if◌then◌else◌, ◌&&◌, arith}
use Rattle.std.proofs.lemmas.Bool.Decides.{nat_tests}
use Rattle.std.proofs.lemmas.List.{append_assoc}
use Rattle.gx_ids.specs.declared.ids.Gxid.{Gxid}
use Rattle.gx_ids.specs.declared.ids.Node.{Node}
use Rattle.gx_ids.specs.declared.ids.Table.{Table}
use Rattle.gx_ids.specs.declared.rid.Rid.{Rid}
use Rattle.gx_tree.specs.declared.row.KeyedRow.{KeyedRow}
use Rattle.gx_tree.specs.declared.stmt.Assign.{Assign}
use Rattle.gx_tree.specs.declared.stmt.Stmt.{Stmt}
use Rattle.gx_tree.specs.declared.value.Value.{Value}
use Rattle.gx_meaning.specs.declared.fault.ArithFault.{ArithFault}
use Rattle.gx_waits.specs.declared.claim.Claim.{Claim}
use Rattle.gx_waits.specs.declared.object.Object.{Object}
use Rattle.gx_waits.specs.declared.object.Object.TheVariants.{Relation, Transaction, Tuple}
use Rattle.gx_script.specs.declared.Script.{Script}
use Rattle.gx_lemmas.proofs.Tests.{true-false}
use Rattle.gx_store.proofs.Rows.{is_same_rid-refl}
use Rattle.gx_store.specs.declared.event.Event.{Event}
use Rattle.gx_store.specs.declared.mark.Mark.{Mark}
use Rattle.gx_store.specs.declared.mark.Mark.TheVariants as mark
use Rattle.gx_store.specs.declared.run.Step.{Step}
use Rattle.gx_store.specs.Faults.{may_fault_late}
use Rattle.gx_store.specs.Journals.{is_same_node}
use Rattle.gx_store.specs.Marks.{is_aborted, is_same_rid, node_of, row_table}
use Rattle.gx_store.specs.Points.{marks_in}
use Rattle.gx_store.specs.Writes.{IsLate, IsLateWriteOf, may_skip}
use Rattle.gx_rules.specs.Changes.{Change, RowTurn, changes_rows, goes_through, selected, shown_to, tuple_lock, unless_fault}
use Rattle.gx_rules.specs.Locks.{hold_mark, release_mark}
use Rattle.gx_rules.specs.Running.{is_granted, unless_end}
use Rattle.gx_rules.specs.Segments.{Phase, Seg, SegTurn, Version, local_of}
use Rattle.gx_rules.specs.Segments.Phase.{Aborted, Committed, Forgotten, Prepared, Reading, Writing}
use Rattle.gx_rules.specs.Shown.{current_of, is_current}
use Rattle.gx_rules.specs.Slices.{Moved, adds_version, first_fault, gives_back, own_lock, starts_from, takes_lock, takes_own, version, writes_row}
use Rattle.gx_rules.specs.Visits.{DidStop, WritesIt}
use Rattle.gx_rules.proofs.Moving.{Ends, Keeps, loop-keeps}
use Rattle.gx_law_order.proofs.Lists.{each_append, each_weaker}
use Rattle.gx_law_order.specs.Lists.{Each}
use Rattle.gx_law_order.proofs.SegItems.{writes_at}
use Rattle.gx_law_order.proofs.Waiting.{freed}
use Rattle.gx_law_reads.specs.Sights.{IsOnlyAt}
use Rattle.gx_law_writes.proofs.Comes.{stop-locks}
use Rattle.gx_law_writes.proofs.Current.{newest-has}
use Rattle.gx_law_writes.proofs.LegalChange.{IsStatement}
use Rattle.gx_law_writes.proofs.Never.{IsOfTable}
use Rattle.gx_law_writes.proofs.Newest.{find-reverse}
use Rattle.gx_law_writes.proofs.Parts.{node-still}
use Rattle.gx_law_writes.proofs.Path.{IsLock, Legals, legals-append, legals-locks}
use Rattle.gx_law_writes.proofs.Points.{Ok, lock-ok}
use Rattle.gx_law_writes.proofs.SelectedRows.{HaveHomes}

-- WHERE VERSIONS STAND
-- the row of the version has its first write at the node, and in the version's table
abbrev pub IsHere : Node → List Mark → Version → Type 0
IsHere node ms v = (node_of ms v.rid ≡ Some node) × (row_table ms v.rid ≡ Some v.table)

-- so has each row with a version at the node
abbrev pub AreHere : Node → List Mark → List Version → Type 0
AreHere node ms vs = Each (IsHere node ms) vs

node-is : (a b : Node) → is_same_node a b ≡ true → a ≡ b
node-is a b e = grind (arith, nat_tests)

same-rids : (a b : Rid) → is_same_rid a b ≡ true → a ≡ b
same-rids a b e = grind (arith, nat_tests)

table-is : (t u : Table) → (t.0 == u.0) ≡ true → t ≡ u
table-is t u e = grind (arith, nat_tests)

some-same : (a b : Node) → (let p : Option Node = Some a in p) ≡ Some b → a ≡ b
some-same a b z = cc

-- where it is written alone its first write stands
only-first : (ms : List Mark) (rid : Rid) (n first : Node) → node_of ms rid ≡ Some first → IsOnlyAt n rid ms → first ≡ n
only-first [] rid n first e o = absurd (cc)
only-first (mark.Write h d m u q y ∷ ms) rid n first e o = by_test (is_same_rid q rid) refl e (λ z. only-first ms rid n first z o.1)
  where
    by_test : (b : Bool) → is_same_rid q rid ≡ b → (if b then Some m else node_of ms rid) ≡ Some first → (node_of ms rid ≡ Some first → first ≡ n) → first ≡ n
    by_test true f z more = sym (some-same m first z) ∙ node-is m n (o.0 f)
    by_test false f z more = more z
only-first (m ∷ ms) rid n first e o = only-first ms rid n first e o

-- where all its writes are in one table its first is
first-in : (ms : List Mark) (rid : Rid) (u : Table) (first : Node) → IsOfTable u rid ms → node_of ms rid ≡ Some first → row_table ms rid ≡ Some u
first-in [] rid u first o e = absurd (cc)
first-in (mark.Write h d m t q y ∷ ms) rid u first o e = by_test (is_same_rid q rid) refl e (λ z. first-in ms rid u first o.1 z)
  where
    by_test : (b : Bool) → is_same_rid q rid ≡ b → (if b then Some m else node_of ms rid) ≡ Some first → (node_of ms rid ≡ Some first → row_table ms rid ≡ Some u) → (if b then Some t else row_table ms rid) ≡ Some u
    by_test true f z more = ap Some (table-is t u (o.0 f))
    by_test false f z more = more z
first-in (m ∷ ms) rid u first o e = first-in ms rid u first o e

-- later marks don't change it
table-still : (ms more : List Mark) (rid : Rid) (t : Table) → row_table ms rid ≡ Some t → row_table (ms ++ more) rid ≡ Some t
table-still [] more rid t e = absurd (cc)
table-still (mark.Write h d m u q y ∷ ms) more rid t e = by_test (is_same_rid q rid) e (λ z. table-still ms more rid t z)
  where
    by_test : (b : Bool) → (if b then Some u else row_table ms rid) ≡ Some t → (row_table ms rid ≡ Some t → row_table (ms ++ more) rid ≡ Some t) → (if b then Some u else row_table (ms ++ more) rid) ≡ Some t
    by_test true z f = z
    by_test false z f = f z
table-still (m ∷ ms) more rid t e = table-still ms more rid t e

-- one of the writes at the node
pub record IsWrittenAt (node : Node) (ms : List Mark) (v : Version) : Type 0 where
  pub first : Node
  pub is : node_of ms v.rid ≡ Some first
  pub at : IsOnlyAt first v.rid ms → first ≡ node
  pub of : (u : Table) → IsOfTable u v.rid ms → v.table ≡ u

written-at : (node : Node) (ms : List Mark) → Each (IsWrittenAt node ms) (writes_at node ms)
written-at node [] = tt
written-at node (mark.Write g c n t r x ∷ ms) = by_node (is_same_node n node) refl (each_weaker (IsWrittenAt node ms) (IsWrittenAt node (mark.Write g c n t r x ∷ ms)) (λ v w. behind v (is_same_rid r v.rid) refl w) (writes_at node ms) (written-at node ms))
  where
    behind : (v : Version) (b : Bool) → is_same_rid r v.rid ≡ b → IsWrittenAt node ms v → IsWrittenAt node (mark.Write g c n t r x ∷ ms) v
    behind v true e w =
        record {
          first = n;
          is = ap (λ q. if q then Some n else node_of ms v.rid) e;
          at = λ o. let same = only-first ms v.rid n w.first w.is o.1 in sym same ∙ w.at (subst (λ (a : Node). IsOnlyAt a v.rid ms) (sym same) o.1);
          of = λ u o. w.of u o.1;
        }
    behind v false e w = record { first = w.first; is = ap (λ q. if q then Some n else node_of ms v.rid) e ∙ w.is; at = λ o. w.at o.1; of = λ u o. w.of u o.1 }

    by_node : (b : Bool) → is_same_node n node ≡ b → Each (IsWrittenAt node (mark.Write g c n t r x ∷ ms)) (writes_at node ms)
        → Each (IsWrittenAt node (mark.Write g c n t r x ∷ ms)) (if b then record { gxid = g; cid = c; table = t; rid = r; image = x } ∷ writes_at node ms else writes_at node ms)
    by_node true e more = (
      record { first = n; is = ap (λ q. if q then Some n else node_of ms r) (is_same_rid-refl r); at = λ o. node-is n node e; of = λ u o. table-is t u (o.0 (is_same_rid-refl r)) },
      more,
    )
    by_node false e more = more
written-at node (m ∷ ms) = each_weaker (IsWrittenAt node ms) (IsWrittenAt node (m ∷ ms)) (λ v w. record { first = w.first; is = w.is; at = w.at; of = w.of }) (writes_at node ms) (written-at node ms)

pub here-all : (node : Node) (ms : List Mark) → HaveHomes ms → AreHere node ms (writes_at node ms)
here-all node ms homes = each_weaker (IsWrittenAt node ms) (IsHere node ms) here (writes_at node ms) (written-at node ms)
  where
    here : (v : Version) → IsWrittenAt node ms v → IsHere node ms v
    here v w = let o = homes.tables v.rid in (w.is ∙ ap Some (w.at (homes.nodes v.rid w.first w.is)), first-in ms v.rid o.0 w.first o.1 w.is ∙ ap Some (sym (w.of o.0 o.1)))

pub here-more : (node : Node) (ms more : List Mark) (vs : List Version) → AreHere node ms vs → AreHere node (ms ++ more) vs
here-more node ms more vs e = each_weaker (IsHere node ms) (IsHere node (ms ++ more)) (λ v h. (node-still ms more v.rid node h.0, table-still ms more v.rid v.table h.1)) vs e

-- what holds of all versions holds of a row's current one
pub current-has : (P : Version → Type 0) (s : Seg) (k : Change) (rid : Rid) (v : Version) → Each P s.versions → current_of s k.table rid ≡ Some v → P v × (is_same_rid v.rid rid ≡ true) × (v.table ≡ k.table)
current-has P s k rid v e is =
    let a = newest-has P (is_current s k.table rid) None s.versions v e (λ z. absurd (none z)) (sym (find-reverse (is_current s k.table rid) s.versions) ∙ is) in
    (a.0, second (v.table.0 == k.table.0) (is_same_rid v.rid rid) _ a.1, table-is v.table k.table (first (v.table.0 == k.table.0) _ a.1))
  where
    none : None ≡ Some v → ⊥
    none z = cc

    first : (a b : Bool) → (a && b) ≡ true → a ≡ true
    first a b e = grind arith

    second : (a b d : Bool) → (a && (b && d)) ≡ true → b ≡ true
    second a b d e = grind arith

-- THE LOOP
may-skip : (k : Change) (set : Option (List Assign)) (stmt : Stmt) → IsStatement k set stmt → may_skip stmt ≡ true
may-skip k (Some assigns) stmt of = ap may_skip of
may-skip k None stmt of = ap may_skip of

may-fault : (k : Change) (set : Option (List Assign)) (stmt : Stmt) → IsStatement k set stmt → may_fault_late stmt ≡ true
may-fault k (Some assigns) stmt of = ap may_fault_late of
may-fault k None stmt of = ap may_fault_late of

module _ (script : Script) (steps : List Step) (e : Event) (pre : List Mark) (s : Seg) (g : Gxid) (k : Change) (stmt : Stmt) (of : IsStatement k k.set stmt)
    (late : (earlier later : List Mark) → IsLate script (record { steps = steps; event = e; earlier = earlier; later = later }) g k.cid stmt) where
  abbrev before : List Mark
  before = marks_in steps ++ pre

  abbrev IsSo : List Mark → Mark → Type 0
  IsSo earlier x = Ok script steps e s.node earlier x

  lock-so : (earlier : List Mark) (x : Mark) → IsLock x → IsSo earlier x
  lock-so = lock-ok script steps e s.node

  -- its marks so far are legal, and each row with a version there has its first write there, in the version's table
  pub record LateSoFar (m : Moved) : Type 0 where
    pub node : m.seg.node ≡ s.node
    pub marks : Legals (Ok script steps e s.node) pre m.marks
    pub here : AreHere s.node ((marks_in steps ++ pre) ++ m.marks) m.seg.versions

  here-behind : (m : Moved) (x : Mark) (vs : List Version) → AreHere s.node (before ++ m.marks) vs → AreHere s.node (before ++ (m.marks ++ x ∷ [])) vs
  here-behind m x vs h = subst (λ ms. AreHere s.node ms vs) (append_assoc before m.marks (x ∷ [])) (here-more s.node (before ++ m.marks) (x ∷ []) vs h)

  -- a mark more, which writes no row
  marked : (m : Moved) (t : Seg) (x : Mark) → t.node ≡ m.seg.node → t.versions ≡ m.seg.versions → IsSo (pre ++ m.marks) x → LateSoFar m → LateSoFar (record { seg = t; marks = m.marks ++ x ∷ [] })
  marked m t x node versions ok f =
      record {
        node = node ∙ f.node;
        marks = legals-append IsSo pre m.marks (x ∷ []) f.marks (ok, tt);
        here = subst (AreHere s.node (before ++ (m.marks ++ x ∷ []))) (sym versions) (here-behind m x m.seg.versions f.here);
      }

  locked : (wanted : Claim) (m : Moved) → LateSoFar m → LateSoFar (takes_lock wanted m)
  locked wanted m f = marked m (takes_lock wanted m).seg (hold_mark m.seg.node wanted) refl refl (lock-so (pre ++ m.marks) (hold_mark m.seg.node wanted) tt) f

  given : (old : Claim) (m : Moved) → LateSoFar m → LateSoFar (gives_back old m)
  given old m f = marked m (gives_back old m).seg (release_mark m.seg.node old) refl refl (lock-so (pre ++ m.marks) (release_mark m.seg.node old) tt) f

  skip-so : (earlier : List Mark) (rid : Rid) → IsSo earlier (mark.Skip g k.cid rid)
  skip-so earlier rid = (λ later. inr (record { stmt = stmt; late = late earlier later; kind = may-skip k k.set stmt of }), λ alive. absurd (true-false (is_aborted (marks_in steps ++ earlier) g) (late earlier []).aborted alive))

  fault-so : (earlier : List Mark) (rid : Rid) (image : Option (List Value)) → IsSo earlier (mark.Fault g k.cid rid image)
  fault-so earlier rid image = (λ later. inr (record { stmt = stmt; late = late earlier later; kind = may-fault k k.set stmt of }), tt)

  write-so : (set : Option (List Assign)) → IsStatement k set stmt → (earlier : List Mark) (node : Node) (rid : Rid) (image : Option (List Value)) → (node_of (marks_in steps ++ earlier) rid ≡ Some node) × (row_table (marks_in steps ++ earlier) rid ≡ Some k.table) → IsSo earlier (mark.Write g k.cid node k.table rid image)
  write-so (Some assigns) of earlier node rid image there = (
    λ later.
        inr (record { stmt = stmt; late = late earlier later; writes = subst (λ q. IsLateWriteOf script (marks_in steps ++ earlier) g k.cid q node k.table rid image) (sym of) (refl, there.0, there.1) }),
    tt,
  )
  write-so None of earlier node rid image there = (
    λ later.
        inr (record { stmt = stmt; late = late earlier later; writes = subst (λ q. IsLateWriteOf script (marks_in steps ++ earlier) g k.cid q node k.table rid image) (sym of) (refl, there.0, there.1) }),
    tt,
  )

  module _ (m : Moved) (rid : Rid) (image : Option (List Value)) (why : WritesIt m g k rid image) (f : LateSoFar m) where
    abbrev x : Mark
    x = mark.Write g k.cid m.seg.node k.table rid image

    abbrev v : Version
    v = version g k.cid k.table rid image

    there : (node_of (before ++ m.marks) rid ≡ Some s.node) × (row_table (before ++ m.marks) rid ≡ Some k.table)
    there =
        let a = current-has (IsHere s.node (before ++ m.marks)) m.seg k rid why.version f.here why.settled.current in
        let same = same-rids why.version.rid rid a.1 in
        (subst (λ r. node_of (before ++ m.marks) r ≡ Some s.node) same a.0.0, subst (λ r. row_table (before ++ m.marks) r ≡ Some k.table) same (a.0.1 ∙ ap Some a.2))

    ok : IsSo (pre ++ m.marks) (mark.Write g k.cid m.seg.node k.table rid image)
    ok =
        write-so k.set of (pre ++ m.marks) m.seg.node rid image (
          subst (λ (n : Node). node_of (marks_in steps ++ (pre ++ m.marks)) rid ≡ Some n) (sym f.node) (subst (λ ms. node_of ms rid ≡ Some s.node) (append_assoc (marks_in steps) pre m.marks) there.0),
          subst (λ ms. row_table ms rid ≡ Some k.table) (append_assoc (marks_in steps) pre m.marks) there.1,
        )

    now : LateSoFar (record { seg = adds_version m.seg g (version g k.cid k.table rid image); marks = m.marks ++ mark.Write g k.cid m.seg.node k.table rid image ∷ [] })
    now =
        record {
          node = f.node;
          marks = legals-append IsSo pre m.marks (x ∷ []) f.marks (ok, tt);
          here = each_append (IsHere s.node (before ++ (m.marks ++ x ∷ []))) m.seg.versions (v ∷ []) (here-behind m x m.seg.versions f.here)
              (subst (λ ms. IsHere s.node ms v) (append_assoc before m.marks (x ∷ [])) (node-still (before ++ m.marks) (x ∷ []) rid s.node there.0, table-still (before ++ m.marks) (x ∷ []) rid k.table there.1), tt);
        }

    own : (p : Phase) (n : Moved) → LateSoFar n → LateSoFar (takes_own g p n)
    own Reading n h = locked (own_lock g) n h
    own Writing n h = h
    own Prepared n h = h
    own Committed n h = h
    own (Forgotten b) n h = h
    own Aborted n h = h

    wrote : LateSoFar (writes_row g k.cid k.table m rid image)
    wrote = own (local_of m.seg g).phase _ now

  late-keeps : Keeps g k LateSoFar
  late-keeps =
      record {
        takes = λ m rid free f. locked (tuple_lock g rid) m f;
        gives = λ m rid held f. given (tuple_lock g rid) m f;
        writes = λ m rid image why f. wrote m rid image why f;
        skips = λ m rid why f. marked m m.seg (mark.Skip g k.cid rid) refl refl (skip-so (pre ++ m.marks) rid) f;
        faults = λ m rid image f. marked m m.seg (mark.Fault g k.cid rid image) refl refl (fault-so (pre ++ m.marks) rid image) f;
      }

  stop : (m : Moved) (rid : Rid) (rest : List Rid) (count : ℕ) (t : RowTurn) (d : DidStop m g k rid t) → LateSoFar m → Legals (Ok script steps e s.node) pre d.stopped.marks
  stop m rid rest count t d f =
      let locks = stop-locks g k m rid t d in
      subst (Legals IsSo pre) (sym locks.1) (legals-append IsSo pre m.marks locks.0 f.marks (legals-locks IsSo lock-so (pre ++ m.marks) locks.0 locks.2))

  late-ends : Ends g k LateSoFar (λ (turn : SegTurn). Legals (Ok script steps e s.node) pre turn.marks)
  late-ends = record { done = λ m count f. f.marks; stopped = stop; failed = λ m cause f. f.marks }

  -- from a row on
  pub late-goes : (rids : List Rid) (m : Moved) (count : ℕ) → LateSoFar m → Legals (Ok script steps e s.node) pre (goes_through g k rids m count).marks
  late-goes rids m count f = loop-keeps g k LateSoFar (λ (turn : SegTurn). Legals (Ok script steps e s.node) pre turn.marks) late-keeps late-ends rids m count f

  module _ (homes : HaveHomes (marks_in steps ++ pre)) (versions : s.versions ≡ writes_at s.node (marks_in steps ++ pre)) where
    pub late-starts : LateSoFar (starts_from s)
    late-starts =
        record {
          node = refl;
          marks = tt;
          here = subst (AreHere s.node (before ++ [])) (sym versions) (here-more s.node before [] (writes_at s.node before) (here-all s.node before homes));
        }

    -- from its start
    pub late-changes : Legals (Ok script steps e s.node) pre (changes_rows s g (Some k)).marks
    late-changes = by_fault (first_fault k.cond (shown_to s g k))
      where
        by_fault : (o : Option (KeyedRow × ArithFault)) → Legals IsSo pre (unless_fault s g k (shown_to s g k) o).marks
        by_fault None = late-goes (selected k.cond (shown_to s g k)) (starts_from s) 0 late-starts
        by_fault (Some fault) = (fault-so pre fault.0.rid (Some fault.0.row), tt)

    -- from what was granted to it
    pub late-granted : (wanted : Claim) → LateSoFar (is_granted s g wanted)
    late-granted wanted = by_object wanted.object held
      where
        held : LateSoFar (record { seg = freed s g wanted; marks = hold_mark s.node wanted ∷ [] })
        held = marked (starts_from s) (freed s g wanted) (hold_mark s.node wanted) refl refl (lock-so (pre ++ []) (hold_mark s.node wanted) tt) late-starts

        by_object : (o : Object) → LateSoFar (record { seg = freed s g wanted; marks = hold_mark s.node wanted ∷ [] })
            → LateSoFar (unless_end wanted o (record { seg = freed s g wanted; marks = hold_mark s.node wanted ∷ [] }))
        by_object (Transaction other) f = given wanted _ f
        by_object (Relation t) f = f
        by_object (Tuple r) f = f
