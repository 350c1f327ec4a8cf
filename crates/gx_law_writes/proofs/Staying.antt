-- A slice that waits at a row stays as it is behind marks that do nothing to its rows.
use Rattle.std.proofs.Common.{◌≡◌, ◌∙◌, ℕ, List, ◌∷◌, ◌++◌, Option, Some, None, Bool, true, false, refl, ap, sym, subst, if◌then◌else◌, arith, take}
use Rattle.std.proofs.lemmas.Bool.Decides.{nat_tests}
use Rattle.std.specs.Prelude.{slice_get}
use Rattle.gx_ids.specs.declared.ids.Cid.{Cid}
use Rattle.gx_ids.specs.declared.ids.Gxid.{Gxid}
use Rattle.gx_ids.specs.declared.ids.Node.{Node}
use Rattle.gx_ids.specs.declared.ids.Table.{Table}
use Rattle.gx_ids.specs.declared.rid.Rid.{Rid}
use Rattle.gx_tree.specs.declared.cond.Cond.{Cond}
use Rattle.gx_tree.specs.declared.row.KeyedRow.{KeyedRow}
use Rattle.gx_tree.specs.declared.value.Value.{Value}
use Rattle.gx_dsnap.specs.declared.snapshot.Snapshot.{Snapshot}
use Rattle.gx_lemmas.proofs.Tests.{true-false}
use Rattle.gx_store.specs.declared.mark.Mark.{Mark}
use Rattle.gx_store.specs.declared.mark.Mark.TheVariants as mark
use Rattle.gx_store.specs.Journals.{is_same_node}
use Rattle.gx_store.specs.Marks.{is_aborted, is_processed, node_of}
use Rattle.gx_store.specs.Rows.{row_at}
use Rattle.gx_store.specs.View.{image}
use Rattle.gx_rules.specs.Changes.{Change, change_of, selected}
use Rattle.gx_rules.specs.Segments.{Suspended, Version}
use Rattle.gx_law_order.proofs.Changing.{change-parts}
use Rattle.gx_law_order.proofs.Lists.{each_weaker}
use Rattle.gx_law_order.specs.Lists.{Each}
use Rattle.gx_law_reads.specs.Sights.{IsOnlyAt}
use Rattle.gx_law_writes.specs.Parts.{IsPartOf, is_home}
use Rattle.gx_law_writes.proofs.Comes.{each-behind}
use Rattle.gx_law_writes.proofs.Half.{IsHalf, IsHalfAt, IsHalfDone, half-later}
use Rattle.gx_law_writes.proofs.Parts.{node-still}
use Rattle.gx_law_writes.proofs.SelectedRows.{HaveHomes}
use Rattle.gx_law_writes.proofs.Selected.{rising-apart, rows-found, selected-each}
use Rattle.gx_law_writes.proofs.Undone.{alive-front}
use Rattle.gx_law_writes.proofs.RowWalk.{own_count}

-- rows that are selected of a node's part stand at the node
pub part-here : (ms before : List Mark) (node : Node) (g : Gxid) (c : Cid) (table : Table) (cond : Option Cond) (part : List KeyedRow) → IsPartOf ms before node g c table part → Each (λ rid. node_of ms rid ≡ Some node) (selected cond part)
part-here ms before node g c table cond part p =
    selected-each (λ rid. node_of ms rid ≡ Some node) cond part
    (each_weaker (λ (row : KeyedRow). row_at part row.rid ≡ Some row.row) (λ (row : KeyedRow). node_of ms row.rid ≡ Some node) (λ row e. here row.rid row.row e) part (rows-found part (rising-apart part p.rising)))
  where
    node-is : (a b : Node) → is_same_node a b ≡ true → a ≡ b
    node-is a b e = grind (arith, nat_tests)

    no-none : (row : List Value) → None ≡ Some row → ⊥
    no-none row z = cc

    here : (rid : Rid) (row : List Value) → row_at part rid ≡ Some row → node_of ms rid ≡ Some node
    here rid row e = by_node (node_of ms rid) refl (sym (p.images rid) ∙ e)
      where
        by_home : (first : Node) (b : Bool) → is_same_node first node ≡ b → (if b then image ms before (Some (g, c)) table rid else None) ≡ Some row → Some first ≡ Some node
        by_home first true q z = ap Some (node-is first node q)
        by_home first false q z = absurd (no-none row z)

        by_node : (o : Option Node) → node_of ms rid ≡ o → (if is_home o node then image ms before (Some (g, c)) table rid else None) ≡ Some row → o ≡ Some node
        by_node None f z = absurd (no-none row z)
        by_node (Some first) f z = by_home first (is_same_node first node) refl z

-- of who has aborted nothing is said
pub aborted-half : (ms : List Mark) (versions : List Version) (node : Node) (g : Gxid) (o : Option Suspended) → is_aborted ms g ≡ true → IsHalf ms versions node g o
aborted-half ms versions node g None a = tt
aborted-half ms versions node g (Some x) a = by_row x.row
  where
    by_row : (row : Option Rid) → IsHalfAt ms versions node g x row
    by_row None = tt
    by_row (Some rid) = λ k e alive. absurd (true-false (is_aborted ms g) a alive)

module _ (ms more : List Mark) (homes : HaveHomes (ms ++ more)) (node : Node) (g : Gxid) (old new : List Version) (x : Suspended)
    (views : (place : ℕ) (d : Cid) (y : Snapshot) (table : Table) (rid : Rid) → slice_get ms place ≡ Some (mark.Snap g d y) → IsOnlyAt node rid (ms ++ more) → image (ms ++ more) (take place (ms ++ more)) (Some (g, x.cid)) table rid ≡ image ms (take place ms) (Some (g, x.cid)) table rid)
    (free : is_aborted (ms ++ more) g ≡ false → (rid : Rid) → node_of (ms ++ more) rid ≡ Some node → is_processed more g x.cid rid ≡ false) (same : own_count g x.cid new ≡ own_count g x.cid old) where
  module _ (rid : Rid) (half : (k : Change) → change_of x.cid x.level x.snapshot x.slice ≡ Some k → is_aborted ms g ≡ false → IsHalfDone ms old node g k (rid ∷ x.rows) x.count) (k : Change) (e : change_of x.cid x.level x.snapshot x.slice ≡ Some k) (alive : is_aborted (ms ++ more) g ≡ false) where
    abbrev left : List Rid
    left = rid ∷ x.rows

    h : IsHalfDone ms old node g k (rid ∷ x.rows) x.count
    h = half k e (alive-front ms more g alive)

    cid-is : x.cid ≡ k.cid
    cid-is = sym (change-parts x.cid x.level x.snapshot x.slice k e).cid

    stays : (q : Rid) → IsOnlyAt node q (ms ++ more) → image (ms ++ more) (take h.has.served.place (ms ++ more)) (Some (g, k.cid)) k.table q ≡ image ms (take h.has.served.place ms) (Some (g, k.cid)) k.table q
    stays q only =
        subst (λ c. image (ms ++ more) (take h.has.served.place (ms ++ more)) (Some (g, c)) k.table q ≡ image ms (take h.has.served.place ms) (Some (g, c)) k.table q) cid-is
        (views h.has.served.place h.has.served.d k.snapshot k.table q h.has.served.taken only)

    here : Each (λ q. node_of ms q ≡ Some node) (rid ∷ x.rows)
    here = each-behind (λ q. node_of ms q ≡ Some node) h.done left (subst (Each (λ q. node_of ms q ≡ Some node)) h.split (part-here ms (take h.has.served.place ms) node g k.cid k.table k.cond h.has.part h.has.its))

    still-free : Each (λ q. is_processed more g k.cid q ≡ false) (rid ∷ x.rows)
    still-free =
        each_weaker (λ q. node_of ms q ≡ Some node) (λ q. is_processed more g k.cid q ≡ false)
        (λ q z. subst (λ c. is_processed more g c q ≡ false) cid-is (free alive q (node-still ms more q node z))) left here

    pub row-stays : IsHalfDone (ms ++ more) new node g k (rid ∷ x.rows) x.count
    row-stays = half-later ms more homes.nodes node g k old new left x.count h stays still-free (subst (λ c. own_count g c new ≡ own_count g c old) cid-is same)

  pub half-stays : IsHalf ms old node g (Some x) → IsHalf (ms ++ more) new node g (Some x)
  half-stays half = by_row x.row half
    where
      by_row : (row : Option Rid) → IsHalfAt ms old node g x row → IsHalfAt (ms ++ more) new node g x row
      by_row None h = tt
      by_row (Some rid) h = λ k e alive. row-stays rid h k e alive
