-- At the points of a segment's step: what the command, which is under way or has aborted, does to rows is legal there.
use Rattle.std.proofs.Common.{◌≡◌, inl, ◌+◌, true, false, List, ◌++◌, Option, Some, refl, sym, subst}
use Rattle.std.proofs.lemmas.List.{append_assoc}
use Rattle.gx_ids.specs.declared.ids.Gxid.{Gxid}
use Rattle.gx_ids.specs.declared.ids.Node.{Node}
use Rattle.gx_ids.specs.declared.ids.SessionId.{SessionId}
use Rattle.gx_ids.specs.declared.rid.Rid.{Rid}
use Rattle.gx_tree.specs.declared.stmt.Stmt.{Stmt}
use Rattle.gx_tree.specs.declared.value.Value.{Value}
use Rattle.gx_meaning.specs.declared.fault.ArithFault.{ArithFault}
use Rattle.gx_script.specs.declared.Script.{Script}
use Rattle.gx_store.specs.declared.event.Event.{Event}
use Rattle.gx_store.specs.declared.mark.Mark.{Mark}
use Rattle.gx_store.specs.declared.mark.Mark.TheVariants as mark
use Rattle.gx_store.specs.declared.run.Step.{Step}
use Rattle.gx_store.specs.Commands.{IsUnderWay, has_own_snapshot}
use Rattle.gx_store.specs.Faults.{IsFaultOf, LegalFault}
use Rattle.gx_store.specs.Marks.{is_aborted, is_processed, node_of}
use Rattle.gx_store.specs.Points.{Point, marks_in}
use Rattle.gx_store.specs.Writes.{IsSkipOf, IsWriteOf, LegalSkip, LegalWrite}
use Rattle.gx_rules.specs.Changes.{Change}
use Rattle.gx_rules.specs.Segments.{Seg}
use Rattle.gx_rules.specs.Slices.{Moved}
use Rattle.gx_rules.specs.Visits.{FaultsAt, SkipsIt, WritesIt}
use Rattle.gx_law_order.proofs.Lists.{each_append}
use Rattle.gx_law_order.specs.Lists.{Each}
use Rattle.gx_law_writes.proofs.Chosen.{IsChosen, Sight}
use Rattle.gx_law_writes.proofs.Current.{IsAtHome}
use Rattle.gx_law_writes.proofs.Frames.{Inv, IsWork}
use Rattle.gx_law_writes.proofs.LegalChange.{IsStatement, faults-so, skips-so, writes-so}
use Rattle.gx_law_writes.proofs.Never.{IsOfTable, never-unshown}
use Rattle.gx_law_writes.proofs.Parts.{node-still}
use Rattle.gx_law_writes.proofs.Path.{IsLock}
use Rattle.gx_law_writes.proofs.RowWalk.{Rules}

-- what is said of each mark at its point
abbrev pub IsLegalChange : Script → Point → Mark → Type 0
IsLegalChange script point (mark.Write g c node table rid image) = LegalWrite script point g c node table rid image
IsLegalChange script point (mark.Skip g c rid) = LegalSkip script point g c rid
IsLegalChange script point (mark.Fault g c rid image) = LegalFault script point g c rid image
IsLegalChange script point _ = Unit {0}

-- a row that is skipped stands at the node, unless the transaction has aborted
abbrev pub IsOfHere : Node → List Mark → Mark → Type 0
IsOfHere node before (mark.Skip g c rid) = is_aborted before g ≡ false → node_of before rid ≡ Some node
IsOfHere node before _ = Unit {0}

module _ (script : Script) (steps : List Step) (e : Event) where
  -- whatever comes behind it in the step, and it is of a row that stands at the node
  abbrev pub Ok : Node → List Mark → Mark → Type 0
  Ok node earlier x = ((later : List Mark) → IsLegalChange script (record { steps = steps; event = e; earlier = earlier; later = later }) x) × IsOfHere node (marks_in steps ++ earlier) x

  pub lock-ok : (node : Node) (earlier : List Mark) (x : Mark) → IsLock x → Ok node earlier x
  lock-ok node earlier (mark.Write g c n t r x) l = absurd l
  lock-ok node earlier (mark.Skip g c r) l = absurd l
  lock-ok node earlier (mark.Fault g c r x) l = absurd l
  lock-ok node earlier x l = (λ later. tt, tt)

  -- The command is under way in its session, with its snapshot, at every point behind marks of its own work.
  pub record Runs (pre : List Mark) (node : Node) (g : Gxid) (k : Change) : Type 0 where
    pub session : SessionId
    pub stmt : Stmt
    pub of : IsStatement k k.set stmt
    pub under_way : (earlier later : List Mark) → Each (IsWork node g k.cid) earlier → IsUnderWay script (record { steps = steps; event = e; earlier = earlier; later = later }) session stmt k.level g k.cid
    pub snapped : (earlier : List Mark) → has_own_snapshot k.level (marks_in steps ++ earlier) g k.cid ≡ true
    pub work : Each (IsWork node g k.cid) pre

  module _ (pre : List Mark) (s : Seg) (g : Gxid) (k : Change) (runs : Runs pre s.node g k) (sight : Sight (marks_in steps ++ pre) s g k) where
    abbrev pub IsRowOf : Rid → Type 0
    IsRowOf rid = IsChosen sight.rows k rid × IsAtHome (marks_in steps ++ pre) s k.table rid × IsOfTable k.table rid (marks_in steps ++ pre) × (node_of (marks_in steps ++ pre) rid ≡ Some s.node)

    -- the same marks, from the step's beginning
    same : (m : Moved) → (marks_in steps ++ pre) ++ m.marks ≡ marks_in steps ++ (pre ++ m.marks)
    same m = append_assoc (marks_in steps) pre m.marks

    its-work : (m : Moved) → Inv s (marks_in steps ++ pre) g k.cid k.table m → Each (IsWork s.node g k.cid) (pre ++ m.marks)
    its-work m i = each_append (IsWork s.node g k.cid) pre m.marks runs.work i.work

    write-ok : (m : Moved) (rid : Rid) (image : Option (List Value)) → Inv s (marks_in steps ++ pre) g k.cid k.table m → IsRowOf rid → is_processed ((marks_in steps ++ pre) ++ m.marks) g k.cid rid ≡ false → WritesIt m g k rid image
        → Ok s.node (pre ++ m.marks) (mark.Write g k.cid m.seg.node k.table rid image)
    write-ok m rid image i row free why = (
      λ later.
          inl (record {
            session = runs.session;
            stmt = runs.stmt;
            level = k.level;
            runs = runs.under_way (pre ++ m.marks) later (its-work m i);
            snapped = runs.snapped (pre ++ m.marks);
            writes = subst (λ ms. IsWriteOf script ms k.level g k.cid runs.stmt m.seg.node k.table rid image) (same m)
                (subst (λ node. IsWriteOf script ((marks_in steps ++ pre) ++ m.marks) k.level g k.cid runs.stmt node k.table rid image) (sym i.node)
                (writes-so (marks_in steps ++ pre) s g k sight m i rid row.0 row.1 free script k.set runs.stmt image refl runs.of why));
          }),
      tt,
    )

    skip-ok : (m : Moved) (rid : Rid) → Inv s (marks_in steps ++ pre) g k.cid k.table m → IsRowOf rid → is_processed ((marks_in steps ++ pre) ++ m.marks) g k.cid rid ≡ false → SkipsIt m g k rid → Ok s.node (pre ++ m.marks) (mark.Skip g k.cid rid)
    skip-ok m rid i row free why = (
      λ later.
          inl (record {
            session = runs.session;
            stmt = runs.stmt;
            level = k.level;
            runs = runs.under_way (pre ++ m.marks) later (its-work m i);
            skips = subst (λ ms. IsSkipOf ms k.level g k.cid runs.stmt rid) (same m) (skips-so (marks_in steps ++ pre) s g k sight m i rid row.0 row.1 free script k.set runs.stmt runs.of why);
          }),
      λ alive. subst (λ ms. node_of ms rid ≡ Some s.node) (same m) (node-still (marks_in steps ++ pre) m.marks rid s.node row.3),
    )

    pub fault-ok : (m : Moved) (rid : Rid) (image : Option (List Value)) (fault : ArithFault) → Inv s (marks_in steps ++ pre) g k.cid k.table m → IsRowOf rid → is_processed ((marks_in steps ++ pre) ++ m.marks) g k.cid rid ≡ false
        → FaultsAt m g k rid image fault → Ok s.node (pre ++ m.marks) (mark.Fault g k.cid rid image)
    fault-ok m rid image fault i row free why = (
      λ later.
          inl (record {
            session = runs.session;
            stmt = runs.stmt;
            level = k.level;
            fault = fault;
            runs = runs.under_way (pre ++ m.marks) later (its-work m i);
            faults = subst (λ ms. IsFaultOf ms k.level g k.cid runs.stmt rid image fault) (same m) (faults-so (marks_in steps ++ pre) s g k sight m i rid row.0 row.1 free script k.set runs.stmt image fault refl runs.of why);
          }),
      tt,
    )

    pub its-rules : Rules (marks_in steps) pre s g k IsRowOf (Ok s.node)
    its-rules = record { locks = lock-ok s.node; write = write-ok; skip = skip-ok; shown = λ m rid i row. never-unshown (marks_in steps ++ pre) s g k sight m i rid row.0 row.1 row.2 }
