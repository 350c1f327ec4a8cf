-- What a segment shows to a command is the node's part of what the command sees.
use Rattle.std.proofs.Common.{◌≡◌, ◌==◌, ℕ, List, [], ◌∷◌, Option, Some, None, Result, Ok, Err, Bool, true, false, refl, sym, subst, ap, ◌∙◌, cond, if◌then◌else◌, ◌&&◌, eqb, arith}
use Rattle.std.proofs.lemmas.Bool.{eqb-true}
use Rattle.std.proofs.lemmas.Bool.Decides.{nat_tests}
use Rattle.std.proofs.lemmas.List.Elements.{All-from_recursion}
use Rattle.std.specs.List.{AllByRecursion}
use Rattle.std.specs.List.Sorted.{IsStrictlySortedBy}
use Rattle.std.specs.Option.{option_or}
use Rattle.std.specs.Prelude.{filter, map, take}
use Rattle.std.specs.declared.cmp.Ordering.TheVariants.{Less}
use Rattle.gx_lemmas.proofs.Numbers.{eqb-of}
use Rattle.gx_lemmas.proofs.Options.{some-same}
use Rattle.gx_lemmas.proofs.Tests.{and-last, true-false}
use Rattle.gx_ids.specs.declared.ids.Cid.{Cid}
use Rattle.gx_ids.specs.declared.ids.Gxid.{Gxid}
use Rattle.gx_ids.specs.declared.ids.Node.{Node}
use Rattle.gx_ids.specs.declared.ids.Table.{Table}
use Rattle.gx_ids.specs.declared.rid.Rid.{Rid}
use Rattle.gx_tree.specs.declared.cond.Cond.{Cond}
use Rattle.gx_tree.specs.declared.row.KeyedRow.{KeyedRow}
use Rattle.gx_tree.specs.declared.value.Value.{Value}
use Rattle.gx_dsnap.specs.declared.snapshot.Snapshot.{Snapshot}
use Rattle.gx_meaning.specs.declared.fault.ArithFault.{ArithFault}
use Rattle.gx_meaning.specs.Answer.{AreRising}
use Rattle.gx_meaning.specs.Order.{rid_order}
use Rattle.gx_script.specs.declared.Script.{Script}
use Rattle.gx_store.specs.declared.mark.Mark.{Mark}
use Rattle.gx_store.specs.declared.mark.Mark.TheVariants as mark
use Rattle.gx_store.specs.Answers.{FaultsOnNone}
use Rattle.gx_store.specs.Commands.{condition_on}
use Rattle.gx_store.specs.Journals.{is_same_node}
use Rattle.gx_store.specs.Marks.{is_same_rid, node_of}
use Rattle.gx_store.specs.Rows.{row_at}
use Rattle.gx_store.specs.View.{image, image_after, is_shown_to}
use Rattle.gx_store.proofs.Rows.{is_same_rid-refl, same_rid}
use Rattle.gx_rules.specs.Segments.{Seg, Version}
use Rattle.gx_rules.specs.Shown.{counts, last_images, shown}
use Rattle.gx_rules.specs.Slices.{first_fault, or_fault}
use Rattle.gx_law_order.specs.Lists.{Each}
use Rattle.gx_law_order.proofs.SegItems.{writes_at}
use Rattle.gx_rules.specs.Last.{counting, last_image, row_of}
use Rattle.gx_rules.proofs.KeptImages.{image_in-last_images, in_order-last_images}
use Rattle.gx_rules.proofs.RowOrder.{less_apart_back}
use Rattle.gx_rules.proofs.ShownRows.{rising-rows_in, row_at-rows_in}
use Rattle.gx_law_reads.specs.Sights.{IsOnlyAt}
use Rattle.gx_law_writes.specs.Parts.{IsPartOf, is_home}

-- WHERE A ROW STANDS ALONE
pub never-only : (node : Node) (rid : Rid) (ms : List Mark) → node_of ms rid ≡ None → IsOnlyAt node rid ms
never-only node rid [] e = tt
never-only node rid (mark.Write g c n t r x ∷ ms) e = by_test (is_same_rid r rid) refl e (never-only node rid ms)
  where
    by_test : (b : Bool) → is_same_rid r rid ≡ b → (if b then Some n else node_of ms rid) ≡ None → (node_of ms rid ≡ None → IsOnlyAt node rid ms) → (is_same_rid r rid ≡ true → is_same_node n node ≡ true) × IsOnlyAt node rid ms
    by_test true s q more = absurd (cc)
    by_test false s q more = (λ t. absurd (true-false (is_same_rid r rid) t s), more q)
never-only node rid (m ∷ ms) e = never-only node rid ms e

-- a node has no version of a row that stands at another
none-here : (t : Version → Bool) (node other : Node) (rid : Rid) (ms : List Mark) → is_same_node other node ≡ false → IsOnlyAt other rid ms → last_image rid (filter t (writes_at node ms)) ≡ None
none-here t node other rid [] away only = refl
none-here t node other rid (mark.Write g c n u r x ∷ ms) away only = by_node (is_same_node n node) refl (none-here t node other rid ms away only.1)
  where
    v : Version
    v = record { gxid = g; cid = c; table = u; rid = r; image = x }

    clash : (a n m : ℕ) → eqb n m ≡ true → eqb n a ≡ true → eqb a m ≡ false → ⊥
    clash a n m e f h = grind (arith, nat_tests)

    by_row : (b d : Bool) → is_same_rid r rid ≡ d → (d ≡ true → ⊥) → last_image rid (filter t (writes_at node ms)) ≡ None → last_image rid (cond b (v ∷ filter t (writes_at node ms)) (filter t (writes_at node ms))) ≡ None
    by_row true true q out more = absurd (out refl)
    by_row true false q out more = ap (λ o. option_or o (if is_same_rid r rid then Some x else None)) more ∙ ap (λ b. if b then Some x else None) q
    by_row false d q out more = more

    by_node : (a : Bool) → is_same_node n node ≡ a → last_image rid (filter t (writes_at node ms)) ≡ None → last_image rid (filter t (if a then v ∷ writes_at node ms else writes_at node ms)) ≡ None
    by_node true a more = by_row (t v) (is_same_rid r rid) refl (λ s. clash other.0 n.0 node.0 a (only.0 s) away) more
    by_node false a more = more
none-here t node other rid (m ∷ ms) away only = none-here t node other rid ms away only

-- THE ROWS THAT A SEGMENT SHOWS
module _ (ms : List Mark) (only : (rid : Rid) (first : Node) → node_of ms rid ≡ Some first → IsOnlyAt first rid ms) (place : ℕ) (node : Node) (s : Seg) (versions : s.versions ≡ writes_at node ms) (x : Snapshot) (g : Gxid) (c : Cid) (table : Table) (seen : (rid : Rid) → IsOnlyAt node rid ms → row_at (shown s x g c table) rid ≡ image ms (take place ms) (Some (g, c)) table rid) where
  shown-row : (rid : Rid) → row_at (shown s x g c table) rid ≡ row_of (last_image rid (counting s x g c table))
  shown-row rid = row_at-rows_in (last_images (counting s x g c table)) rid (in_order-last_images (counting s x g c table)) ∙ ap row_of (image_in-last_images (counting s x g c table) rid)

  pub shown-rises : AreRising (shown s x g c table)
  shown-rises = rising-rows_in (last_images (counting s x g c table)) (in_order-last_images (counting s x g c table))

  never-image : (shows : Gxid → Cid → Bool) (rid : Rid) (xs : List Mark) (start : Option (List Value)) → node_of xs rid ≡ None → image_after shows table rid start xs ≡ start
  never-image shows rid [] start e = refl
  never-image shows rid (mark.Write h d n t r y ∷ xs) start e = by_test (is_same_rid r rid) refl e (λ i q. never-image shows rid xs i q)
    where
      by_test : (b : Bool) → is_same_rid r rid ≡ b → (if b then Some n else node_of xs rid) ≡ None → ((i : Option (List Value)) → node_of xs rid ≡ None → image_after shows table rid i xs ≡ i) → image_after shows table rid (if shows h d && ((t.0 == table.0) && is_same_rid r rid) then y else start) xs ≡ start
      by_test true q n more = absurd (cc)
      by_test false q n more = ap (λ b. image_after shows table rid (if b then y else start) xs) (and-last (shows h d) (eqb t.0 table.0) (is_same_rid r rid) q) ∙ more start n
  never-image shows rid (m ∷ xs) start e = never-image shows rid xs start e

  its-row : (rid : Rid) (o : Option Node) → node_of ms rid ≡ o → row_at (shown s x g c table) rid ≡ (if is_home o node then image ms (take place ms) (Some (g, c)) table rid else None)
  its-row rid None e = seen rid (never-only node rid ms e) ∙ never-image (is_shown_to (Some (g, c)) (take place ms)) rid ms None e
  its-row rid (Some first) e = by_test (is_same_node first node) refl
    where
      node-is : (a b : Node) → is_same_node a b ≡ true → a ≡ b
      node-is a b q = ap (λ n. let r : Node = record { 0 = n } in r) (eqb-true a.0 b.0 q)

      by_test : (b : Bool) → is_same_node first node ≡ b → row_at (shown s x g c table) rid ≡ (if b then image ms (take place ms) (Some (g, c)) table rid else None)
      by_test true q = seen rid (only rid node (e ∙ ap Some (node-is first node q)))
      by_test false q =
          shown-row rid
          ∙ ap (λ vs. row_of (last_image rid (filter (λ (v : Version). (v.table.0 == table.0) && counts s x g c v) vs))) versions
          ∙ ap row_of (none-here (λ (v : Version). (v.table.0 == table.0) && counts s x g c v) node first rid ms q (only rid first e))

  pub shown-part : IsPartOf ms (take place ms) node g c table (shown s x g c table)
  shown-part = record { rising = shown-rises; images = λ rid. its-row rid (node_of ms rid) refl }

-- FAULTS
abbrev Whole : Option Cond → KeyedRow → Type 0
Whole cond row = (truth : Bool) × (condition_on cond row.row ≡ Ok truth)

no-fault-step : (cond : Option Cond) (row : KeyedRow) (rows : List KeyedRow) (r : Result Bool ArithFault) → condition_on cond row.row ≡ r → or_fault row r (first_fault cond rows) ≡ None → (first_fault cond rows ≡ None → AllByRecursion (Whole cond) rows) → AllByRecursion (Whole cond) (row ∷ rows)
no-fault-step cond row rows (Ok truth) e f more = ((truth, e), more f)
no-fault-step cond row rows (Err fault) e f more = absurd (cc)

no-faults : (cond : Option Cond) (rows : List KeyedRow) → first_fault cond rows ≡ None → AllByRecursion (Whole cond) rows
no-faults cond [] e = tt
no-faults cond (row ∷ rows) e = no-fault-step cond row rows (condition_on cond row.row) refl e (no-faults cond rows)

pub faults-on-none : (cond : Option Cond) (rows : List KeyedRow) → first_fault cond rows ≡ None → FaultsOnNone cond rows
faults-on-none cond rows e = All-from_recursion (Whole cond) rows (no-faults cond rows e)

pub record IsFirst (cond : Option Cond) (rows : List KeyedRow) (found : KeyedRow × ArithFault) : Type 0 where
  pub there : row_at rows found.0.rid ≡ Some found.0.row
  pub faults : condition_on cond found.0.row ≡ Err found.1

above-first : (cond : Option Cond) (x : KeyedRow) (rows : List KeyedRow) (found : KeyedRow × ArithFault) → AllByRecursion (λ r. rid_order x.rid r ≡ Less) (map (λ row. row.rid) rows) → first_fault cond rows ≡ Some found → rid_order x.rid found.0.rid ≡ Less
above-first cond x [] found all e = absurd (cc)
above-first cond x (row ∷ rows) found all e = by_case (condition_on cond row.row) e (above-first cond x rows found all.1)
  where
    row-is : (f : ArithFault) → (let o : Option (KeyedRow × ArithFault) = Some (row, f) in o) ≡ Some found → row ≡ found.0
    row-is f q = cc

    by_case : (r : Result Bool ArithFault) → or_fault row r (first_fault cond rows) ≡ Some found → (first_fault cond rows ≡ Some found → rid_order x.rid found.0.rid ≡ Less) → rid_order x.rid found.0.rid ≡ Less
    by_case (Ok truth) q more = more q
    by_case (Err f) q more = ap (λ (y : KeyedRow). rid_order x.rid y.rid) (sym (row-is f q)) ∙ all.0

pub first-is : (cond : Option Cond) (rows : List KeyedRow) (found : KeyedRow × ArithFault) → AreRising rows → first_fault cond rows ≡ Some found → IsFirst cond rows found
unfolding IsStrictlySortedBy
first-is cond [] found rising e = absurd (cc)
first-is cond (row ∷ rows) found rising e = by_case (condition_on cond row.row) refl e (first-is cond rows found rising.1) (above-first cond row rows found rising.0)
  where
    row-is : (f : ArithFault) → (let o : Option (KeyedRow × ArithFault) = Some (row, f) in o) ≡ Some found → row ≡ found.0
    row-is f q = cc

    fault-is : (f : ArithFault) → (let o : Option (KeyedRow × ArithFault) = Some (row, f) in o) ≡ Some found → f ≡ found.1
    fault-is f q = cc

    by_case : (r : Result Bool ArithFault) → condition_on cond row.row ≡ r → or_fault row r (first_fault cond rows) ≡ Some found → (first_fault cond rows ≡ Some found → IsFirst cond rows found) → (first_fault cond rows ≡ Some found → rid_order row.rid found.0.rid ≡ Less) → IsFirst cond (row ∷ rows) found
    by_case (Ok truth) q f more above =
        let first = more f in
        record { there = ap (λ (b : Bool). if b then Some row.row else row_at rows found.0.rid) (less_apart_back row.rid found.0.rid (above f)) ∙ first.there; faults = first.faults }
    by_case (Err f) q h more above =
        record {
          there = subst (λ (y : KeyedRow). row_at (row ∷ rows) y.rid ≡ Some y.row) (row-is f h) (ap (λ (b : Bool). if b then Some row.row else row_at rows row.rid) (is_same_rid-refl row.rid));
          faults = subst (λ (y : KeyedRow). condition_on cond y.row ≡ Err found.1) (row-is f h) (q ∙ ap (λ z. let o : Result Bool ArithFault = Err z in o) (fault-is f h));
        }
