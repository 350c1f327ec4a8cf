-- What a turn of the loop does to its segment, whatever it comes to: it leaves what is of others.
use Rattle.std.proofs.Common.{◌≡◌, ◌∙◌, ℕ, ◌+◌, List, Some, false, refl, ap, subst}
use Rattle.gx_ids.specs.declared.ids.Cid.{Cid}
use Rattle.gx_ids.specs.declared.ids.Gxid.{Gxid}
use Rattle.gx_ids.specs.declared.ids.Table.{Table}
use Rattle.gx_ids.specs.declared.rid.Rid.{Rid}
use Rattle.gx_tree.specs.declared.row.KeyedRow.{KeyedRow}
use Rattle.gx_waits.specs.declared.claim.Claim.{Claim}
use Rattle.gx_meaning.specs.declared.fault.ArithFault.{ArithFault}
use Rattle.gx_msg.specs.declared.reply.Reply.{Reply}
use Rattle.gx_store.specs.declared.mark.Mark.{Mark}
use Rattle.gx_store.specs.Marks.{is_same_gxid}
use Rattle.gx_rules.specs.Changes.{Change, RowTurn, changes_rows, goes_through, suspended_at, suspends_at, waits}
use Rattle.gx_rules.specs.Segments.{Seg, SegTurn, local_of}
use Rattle.gx_rules.specs.Slices.{Moved, answers, fails_on, starts_from}
use Rattle.gx_rules.specs.Visits.{DidStop}
use Rattle.gx_rules.proofs.Moving.{Ends, loop-keeps}
use Rattle.gx_law_order.proofs.Changing.{rows-change, stop-keeps}
use Rattle.gx_law_order.proofs.Lists.{each_append}
use Rattle.gx_law_order.specs.Lists.{Each}
use Rattle.gx_law_writes.proofs.Frames.{AddsOwn, Inv, IsWork, local-other, local-own, stays-so}
use Rattle.gx_law_writes.proofs.Undone.{undone, undone_by}

pub record TurnWork (s : Seg) (g : Gxid) (c : Cid) (table : Table) (t : SegTurn) : Type 0 where
  pub work : Each (IsWork s.node g c) t.marks
  pub added : AddsOwn g c table s.versions t.seg.versions
  pub others : (h : Gxid) → is_same_gxid h g ≡ false → local_of t.seg h ≡ local_of s h
  pub leaves : undone (local_of t.seg g) ≡ c.0 + 1

module _ (s : Seg) (before : List Mark) (g : Gxid) (k : Change) where
  abbrev Holds : Moved → Type 0
  Holds m = Inv s before g k.cid k.table m

  abbrev Works : SegTurn → Type 0
  Works t = TurnWork s g k.cid k.table t

  -- with an answer
  answered : (m : Moved) (r : Reply) → Inv s before g k.cid k.table m → TurnWork s g k.cid k.table (answers m.seg g k.cid m.marks r)
  answered m r i =
      record {
        work = i.work;
        added = i.added;
        others = λ h e. local-other m.seg g h _ e ∙ i.others h e;
        leaves = ap undone (local-own m.seg g _) ∙ ap (λ o. undone_by o k.cid.0) i.alone;
      }

  -- or in a wait at a row
  halted : (m : Moved) (wanted : Claim) (rid : Rid) (rest : List Rid) (count : ℕ) → Inv s before g k.cid k.table m → TurnWork s g k.cid k.table (suspends_at (waits wanted m).moved g k (suspended_at k rid rest count))
  halted m wanted rid rest count i =
      record {
        work = each_append (IsWork s.node g k.cid) m.marks _ i.work (tt, tt);
        added = i.added;
        others = λ h e. local-other m.seg g h _ e ∙ i.others h e;
        leaves = ap undone (local-own m.seg g _);
      }

  stopped : (m : Moved) (rid : Rid) (rest : List Rid) (count : ℕ) (t : RowTurn) (stop : DidStop m g k rid t) → Inv s before g k.cid k.table m → TurnWork s g k.cid k.table (suspends_at stop.stopped g k (suspended_at k rid rest count))
  stopped m rid rest count t stop i =
      let it = stop-keeps g k Holds (stays-so s before g k.cid k.table k refl refl) m rid t stop i in
      subst (λ (n : Moved). Works (suspends_at n g k (suspended_at k rid rest count))) it.is (halted it.before it.wanted rid rest count it.kept)

  its-ends : Ends g k Holds Works
  its-ends = record { done = λ m count i. answered m _ i; stopped = stopped; failed = λ m cause i. answered m _ i }

  pub goes-works : (rids : List Rid) (m : Moved) (count : ℕ) → Inv s before g k.cid k.table m → TurnWork s g k.cid k.table (goes_through g k rids m count)
  goes-works rids m count i = loop-keeps g k Holds Works (stays-so s before g k.cid k.table k refl refl) its-ends rids m count i

  faulted : Inv s before g k.cid k.table (starts_from s) → (f : KeyedRow × ArithFault) → TurnWork s g k.cid k.table (fails_on s g k.cid f)
  faulted i f =
      record {
        work = ((refl, refl), tt);
        added = i.added;
        others = λ h e. local-other s g h _ e;
        leaves = ap undone (local-own s g _) ∙ ap (λ o. undone_by o k.cid.0) i.alone;
      }

  pub changes-works : Inv s before g k.cid k.table (starts_from s) → TurnWork s g k.cid k.table (changes_rows s g (Some k))
  changes-works i = rows-change g k Holds Works (stays-so s before g k.cid k.table k refl refl) its-ends s i (faulted i)
