-- A node's part of what a command sees stays its part.
use Rattle.std.proofs.Common.{◌≡◌, ◌∙◌, ◌==◌, ℕ, List, [], ◌∷◌, ◌++◌, Option, Some, None, Bool, true, false, refl, sym, ap, cond, if◌then◌else◌, ◌&&◌, eqb}
use Rattle.std.proofs.lemmas.Bool.{eqb-true}
use Rattle.std.specs.Option.{option_or}
use Rattle.std.specs.Prelude.{take}
use Rattle.gx_lemmas.proofs.Tests.{and-last}
use Rattle.gx_ids.specs.declared.ids.Cid.{Cid}
use Rattle.gx_ids.specs.declared.ids.Gxid.{Gxid}
use Rattle.gx_ids.specs.declared.ids.Node.{Node}
use Rattle.gx_ids.specs.declared.ids.Table.{Table}
use Rattle.gx_ids.specs.declared.rid.Rid.{Rid}
use Rattle.gx_tree.specs.declared.row.KeyedRow.{KeyedRow}
use Rattle.gx_tree.specs.declared.stmt.Level.{Level}
use Rattle.gx_tree.specs.declared.value.Value.{Value}
use Rattle.gx_store.specs.declared.mark.Mark.{Mark}
use Rattle.gx_store.specs.declared.mark.Mark.TheVariants as mark
use Rattle.gx_store.specs.Commands.{IsSnapshotAt}
use Rattle.gx_store.specs.Journals.{is_same_node}
use Rattle.gx_store.specs.Marks.{is_same_rid, node_of}
use Rattle.gx_store.specs.View.{image, image_after, is_shown_to}
use Rattle.gx_law_reads.specs.Sights.{IsOnlyAt}
use Rattle.gx_law_writes.specs.Parts.{IsPartOf, is_home}

-- THE NODE OF A ROW
or-node : (b : Bool) (n : Node) (o p : Option Node) → cond b (Some n) (option_or o p) ≡ option_or (cond b (Some n) o) p
or-node true n o p = refl
or-node false n o p = refl

pub node-append : (xs ys : List Mark) (rid : Rid) → node_of (xs ++ ys) rid ≡ option_or (node_of xs rid) (node_of ys rid)
node-append [] ys rid = refl
node-append (mark.Write g c n u q image ∷ xs) ys rid =
    ap (cond (is_same_rid q rid) (Some n)) (node-append xs ys rid) ∙ or-node (is_same_rid q rid) n (node_of xs rid) (node_of ys rid)
node-append (m ∷ xs) ys rid = node-append xs ys rid

-- a row's first write stays it
pub node-still : (ms more : List Mark) (rid : Rid) (node : Node) → node_of ms rid ≡ Some node → node_of (ms ++ more) rid ≡ Some node
node-still ms more rid node e = node-append ms more rid ∙ ap (λ o. option_or o (node_of more rid)) e

-- LATER MARKS, WHILE THE COMMAND'S VIEW STAYS
module _ (ms more : List Mark) (only : (rid : Rid) (first : Node) → node_of (ms ++ more) rid ≡ Some first → IsOnlyAt first rid (ms ++ more)) (node : Node) (level : Level) (g : Gxid) (c : Cid) (place : ℕ) (t : IsSnapshotAt ms level g c place) (table : Table) (stay : (rid : Rid) → IsOnlyAt node rid (ms ++ more) → image (ms ++ more) (take place (ms ++ more)) (Some (g, c)) table rid ≡ image ms (take place ms) (Some (g, c)) table rid) where
  abbrev here : Rid → Option (List Value)
  here rid = image ms (take place ms) (Some (g, c)) table rid

  abbrev later : Rid → Option (List Value)
  later rid = image (ms ++ more) (take place (ms ++ more)) (Some (g, c)) table rid

  never : (shows : Gxid → Cid → Bool) (rid : Rid) (xs : List Mark) (start : Option (List Value)) → node_of xs rid ≡ None → image_after shows table rid start xs ≡ start
  never shows rid [] start e = refl
  never shows rid (mark.Write h d n u r y ∷ xs) start e = by_test (is_same_rid r rid) refl e (λ i q. never shows rid xs i q)
    where
      by_test : (b : Bool) → is_same_rid r rid ≡ b → (if b then Some n else node_of xs rid) ≡ None → ((i : Option (List Value)) → node_of xs rid ≡ None → image_after shows table rid i xs ≡ i) → image_after shows table rid (if shows h d && ((u.0 == table.0) && is_same_rid r rid) then y else start) xs ≡ start
      by_test true q n more' = absurd (cc)
      by_test false q n more' = ap (λ b. image_after shows table rid (if b then y else start) xs) (and-last (shows h d) (eqb u.0 table.0) (is_same_rid r rid) q) ∙ more' start n
  never shows rid (m ∷ xs) start e = never shows rid xs start e

  node-is : (a b : Node) → is_same_node a b ≡ true → a ≡ b
  node-is a b q = ap (λ n. let r : Node = record { 0 = n } in r) (eqb-true a.0 b.0 q)

  at-home : (rid : Rid) (first : Node) → node_of (ms ++ more) rid ≡ Some first → is_same_node first node ≡ true → later rid ≡ here rid
  at-home rid first e q = stay rid (only rid node (e ∙ ap Some (node-is first node q)))

  stays : (rid : Rid) (o : Option Node) → node_of ms rid ≡ o → (if is_home o node then here rid else None) ≡ (if is_home (node_of (ms ++ more) rid) node then later rid else None)
  stays rid (Some first) e = by_test (is_same_node first node) refl ∙ ap (λ o. if is_home o node then later rid else None) (sym first-is')
    where
      first-is' : node_of (ms ++ more) rid ≡ Some first
      first-is' = node-append ms more rid ∙ ap (λ o. option_or o (node_of more rid)) e

      by_test : (b : Bool) → is_same_node first node ≡ b → (if is_same_node first node then here rid else None) ≡ (if is_same_node first node then later rid else None)
      by_test true q = ap (λ v. if is_same_node first node then v else None) (sym (at-home rid first first-is' q))
      by_test false q = ap (λ b. if b then here rid else None) q ∙ sym (ap (λ b. if b then later rid else None) q)
  stays rid None e = by_node (node_of (ms ++ more) rid) refl
    where
      by_test : (first : Node) → node_of (ms ++ more) rid ≡ Some first → (b : Bool) → is_same_node first node ≡ b → None ≡ (if b then later rid else None)
      by_test first f true q = sym (at-home rid first f q ∙ never (is_shown_to (Some (g, c)) (take place ms)) rid ms None e)
      by_test first f false q = refl

      by_node : (o : Option Node) → node_of (ms ++ more) rid ≡ o → None ≡ (if is_home o node then later rid else None)
      by_node None f = refl
      by_node (Some first) f = by_test first f (is_same_node first node) refl

  pub part-later : (rows : List KeyedRow) → IsPartOf ms (take place ms) node g c table rows → IsPartOf (ms ++ more) (take place (ms ++ more)) node g c table rows
  part-later rows p = record { rising = p.rising; images = λ rid. p.images rid ∙ stays rid (node_of ms rid) refl }
