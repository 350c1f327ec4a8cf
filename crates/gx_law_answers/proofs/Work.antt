-- What a slice does to rows, where it runs or goes on, is work of its command at its node.
use Rattle.std.proofs.Common.{◌≡◌, ℕ, List, [], ◌∷◌, ◌++◌, Option, Some, None, refl, sym, subst, ◌∙◌}
use Rattle.std.specs.Prelude.{fold}
use Rattle.gx_ids.specs.declared.ids.Cid.{Cid}
use Rattle.gx_ids.specs.declared.ids.Gxid.{Gxid}
use Rattle.gx_ids.specs.declared.ids.Node.{Node}
use Rattle.gx_ids.specs.declared.ids.Table.{Table}
use Rattle.gx_ids.specs.declared.rid.Rid.{Rid}
use Rattle.gx_tree.specs.declared.query.Query.{Query}
use Rattle.gx_tree.specs.declared.row.KeyedRow.{KeyedRow}
use Rattle.gx_tree.specs.declared.slice.Slice.{Slice}
use Rattle.gx_tree.specs.declared.slice.Slice.TheVariants as slice
use Rattle.gx_tree.specs.declared.stmt.Level.{Level}
use Rattle.gx_tree.specs.declared.value.Value.{Value}
use Rattle.gx_dsnap.specs.declared.snapshot.Snapshot.{Snapshot}
use Rattle.gx_meaning.specs.declared.fault.ArithFault.{ArithFault}
use Rattle.gx_store.specs.declared.mark.Mark.{Mark}
use Rattle.gx_store.specs.declared.mark.Mark.TheVariants as mark
use Rattle.gx_rules.specs.Changes.{Change, changes_rows, goes_through, selected, shown_to, unless_fault}
use Rattle.gx_rules.specs.Locks.{hold_mark}
use Rattle.gx_rules.specs.Running.{runs_slice}
use Rattle.gx_rules.specs.Segments.{Phase, Seg, SegTurn, local_of}
use Rattle.gx_rules.specs.Segments.Phase.{Aborted, Committed, Forgotten, Prepared, Reading, Writing}
use Rattle.gx_rules.specs.Shown.{shown}
use Rattle.gx_rules.specs.Slices.{Moved, adds_version, first_fault, inserted, inserts_row, own_lock, selects, starts_from, takes_own, version, writes_row}
use Rattle.gx_rules.proofs.Moving.{Ends, Keeps, loop-keeps}
use Rattle.gx_law_order.proofs.Lists.{each_append}
use Rattle.gx_law_order.specs.Lists.{Each}
use Rattle.gx_law_writes.proofs.Comes.{stop-locks}
use Rattle.gx_law_writes.proofs.Frames.{IsWork}
use Rattle.gx_law_writes.proofs.Sighted.{locks-work}

-- behind some small moves
pub record WorkSoFar (to : Node) (g : Gxid) (c : Cid) (m : Moved) : Type 0 where
  pub node : m.seg.node ≡ to
  pub work : Each (IsWork to g c) m.marks

module _ (to : Node) (g : Gxid) where
  -- a mark more
  more : (c : Cid) (m : Moved) (s : Seg) (x : Mark) → s.node ≡ m.seg.node → IsWork to g c x → WorkSoFar to g c m → WorkSoFar to g c (record { seg = s; marks = m.marks ++ x ∷ [] })
  more c m s x e h w = record { node = e ∙ w.node; work = each_append (IsWork to g c) m.marks (x ∷ []) w.work (h, tt) }

  own-more : (c : Cid) (phase : Phase) (m : Moved) → WorkSoFar to g c m → WorkSoFar to g c (takes_own g phase m)
  own-more c Reading m w = more c m _ (hold_mark m.seg.node (own_lock g)) refl tt w
  own-more c Writing m w = w
  own-more c Prepared m w = w
  own-more c Committed m w = w
  own-more c (Forgotten b) m w = w
  own-more c Aborted m w = w

  write-more : (c : Cid) (table : Table) (m : Moved) (rid : Rid) (image : Option (List Value)) → WorkSoFar to g c m → WorkSoFar to g c (writes_row g c table m rid image)
  write-more c table m rid image w =
      own-more c (local_of m.seg g).phase _
      (more c m (adds_version m.seg g (version g c table rid image)) (mark.Write g c m.seg.node table rid image) refl (refl, refl, w.node) w)

  -- AN INSERT
  rows-more : (c : Cid) (table : Table) (rows : List KeyedRow) (m : Moved) → WorkSoFar to g c m → WorkSoFar to g c (fold (inserts_row g c table) m rows)
  rows-more c table [] m w = w
  rows-more c table (row ∷ rows) m w = rows-more c table rows (inserts_row g c table m row) (write-more c table m row.rid (Some row.row) w)

  insert-works : (b : Seg) → b.node ≡ to → (c : Cid) (table : Table) (rows : List KeyedRow) → WorkSoFar to g c (inserted b g c table rows)
  insert-works b named c table rows = rows-more c table rows (starts_from b) (record { node = named; work = tt })

  -- AN UPDATE OR DELETE
  module _ (k : Change) where
    abbrev So : Moved → Type 0
    So m = WorkSoFar to g k.cid m

    abbrev Works : SegTurn → Type 0
    Works t = Each (IsWork to g k.cid) t.marks

    keeps : Keeps g k So
    keeps =
        record {
          takes = λ m rid free w. more k.cid m _ _ refl tt w;
          gives = λ m rid held w. more k.cid m _ _ refl tt w;
          writes = λ m rid image why w. write-more k.cid k.table m rid image w;
          skips = λ m rid why w. more k.cid m m.seg (mark.Skip g k.cid rid) refl (refl, refl) w;
          faults = λ m rid image w. more k.cid m m.seg (mark.Fault g k.cid rid image) refl (refl, refl) w;
        }

    ends : Ends g k So Works
    ends =
        record {
          done = λ m count w. w.work;
          stopped = λ m rid rest count t stop w.
              let locks = stop-locks g k m rid t stop in
              subst (Each (IsWork to g k.cid)) (sym locks.1) (each_append (IsWork to g k.cid) m.marks locks.0 w.work (locks-work to g k.cid locks.0 locks.2));
          failed = λ m cause w. w.work;
        }

    pub loop-works : (rids : List Rid) (m : Moved) (count : ℕ) → WorkSoFar to g k.cid m → Each (IsWork to g k.cid) (goes_through g k rids m count).marks
    loop-works rids m count w = loop-keeps g k So Works keeps ends rids m count w

    change-works : (b : Seg) → b.node ≡ to → Works (changes_rows b g (Some k))
    change-works b named = by_fault (first_fault k.cond (shown_to b g k))
      where
        by_fault : (o : Option (KeyedRow × ArithFault)) → Works (unless_fault b g k (shown_to b g k) o)
        by_fault None = loop-works (selected k.cond (shown_to b g k)) (starts_from b) 0 (record { node = named; work = tt })
        by_fault (Some fault) = ((refl, refl), tt)

  -- ALL SLICES
  module _ (b : Seg) (named : b.node ≡ to) (c : Cid) (level : Level) where
    select-works : (query : Query) (rows : List KeyedRow) (o : Option (KeyedRow × ArithFault)) → Each (IsWork to g c) (selects b g c query rows o).marks
    select-works query rows None = tt
    select-works query rows (Some fault) = ((refl, refl), tt)

    pub slice-works : (snapshot : Option Snapshot) (y : Slice) → Each (IsWork to g c) (runs_slice b g c level snapshot y).marks
    slice-works None (slice.Select query) = tt
    slice-works (Some v) (slice.Select query) = select-works query (shown b v g c query.table) (first_fault query.cond (shown b v g c query.table))
    slice-works None (slice.Insert table rows) = tt
    slice-works (Some v) (slice.Insert table rows) = (insert-works b named c table rows).work
    slice-works None (slice.Update table assigns cond) = tt
    slice-works (Some v) (slice.Update table assigns cond) = change-works (record { cid = c; level = level; snapshot = v; slice = slice.Update table assigns cond; table = table; set = Some assigns; cond = cond }) b named
    slice-works None (slice.Delete table cond) = tt
    slice-works (Some v) (slice.Delete table cond) = change-works (record { cid = c; level = level; snapshot = v; slice = slice.Delete table cond; table = table; set = None; cond = cond }) b named
    slice-works snapshot (slice.Lock table mode) = tt
