-- The rows that a command selects of its node's part: it sees them, and they stand at the node.
use Rattle.std.proofs.Common.{◌≡◌, ◌∙◌, ◌⊎◌, inl, inr, ℕ, ◌==◌, List, [], ◌∷◌, ◌++◌, Option, Some, None, Bool, true, false, refl, ap, sym, subst, if◌then◌else◌, ◌&&◌, arith, take}
use Rattle.std.proofs.lemmas.Bool.Decides.{nat_tests}
use Rattle.std.proofs.lemmas.List.{append-nil}
use Rattle.std.specs.Option.{option_or}
use Rattle.gx_ids.specs.declared.ids.Cid.{Cid}
use Rattle.gx_ids.specs.declared.ids.Gxid.{Gxid}
use Rattle.gx_ids.specs.declared.ids.Node.{Node}
use Rattle.gx_ids.specs.declared.ids.Table.{Table}
use Rattle.gx_ids.specs.declared.rid.Rid.{Rid}
use Rattle.gx_tree.specs.declared.row.KeyedRow.{KeyedRow}
use Rattle.gx_tree.specs.declared.value.Value.{Value}
use Rattle.gx_lemmas.proofs.Options.{some-same}
use Rattle.gx_lemmas.proofs.Tests.{true-false}
use Rattle.gx_store.specs.declared.mark.Mark.{Mark}
use Rattle.gx_store.specs.declared.mark.Mark.TheVariants as mark
use Rattle.gx_store.specs.Journals.{is_same_node}
use Rattle.gx_store.specs.Marks.{is_same_rid, node_of}
use Rattle.gx_store.specs.Rows.{row_at}
use Rattle.gx_store.specs.View.{image, image_after, is_shown_to}
use Rattle.gx_rules.specs.Changes.{Change, selected}
use Rattle.gx_rules.specs.Segments.{Seg, Version}
use Rattle.gx_law_order.proofs.Lists.{each_weaker}
use Rattle.gx_law_order.specs.Lists.{Each}
use Rattle.gx_law_order.proofs.SegItems.{writes_at}
use Rattle.gx_law_reads.specs.Sights.{IsOnlyAt}
use Rattle.gx_law_writes.specs.Parts.{IsPartOf, is_home}
use Rattle.gx_law_writes.proofs.Chosen.{IsChosen, Sight}
use Rattle.gx_law_writes.proofs.Current.{IsAtHome}
use Rattle.gx_law_writes.proofs.Never.{IsOfTable}
use Rattle.gx_law_writes.proofs.Path.{AreApart}
use Rattle.gx_law_writes.proofs.Selected.{rising-apart, rows-found, selected-apart, selected-chosen, selected-each}

-- each row stands at one node, and is of one table
pub record HaveHomes (ms : List Mark) : Type 0 where
  pub nodes : (rid : Rid) (first : Node) → node_of ms rid ≡ Some first → IsOnlyAt first rid ms
  pub tables : (rid : Rid) → (table : Table) × IsOfTable table rid ms

-- THE TABLE OF A ROW THAT IS SHOWN
-- a write of the row in the table
abbrev IsIn : Table → Rid → List Mark → Type 0
IsIn table rid [] = ⊥
IsIn table rid (mark.Write g c n t r x ∷ ms) = (((t.0 == table.0) ≡ true) × (is_same_rid r rid ≡ true)) ⊎ IsIn table rid ms
IsIn table rid (_ ∷ ms) = IsIn table rid ms

image-in : (shown : Gxid → Cid → Bool) (table : Table) (rid : Rid) (ms : List Mark) (old : Option (List Value)) (row : List Value) → image_after shown table rid old ms ≡ Some row → (old ≡ Some row) ⊎ IsIn table rid ms
image-in shown table rid [] old row e = inl e
image-in shown table rid (mark.Write g c n t r x ∷ ms) old row e = by_tests (shown g c) (t.0 == table.0) (is_same_rid r rid) refl refl (image-in shown table rid ms (if shown g c && ((t.0 == table.0) && is_same_rid r rid) then x else old) row e)
  where
    by_tests : (a b d : Bool) → (t.0 == table.0) ≡ b → is_same_rid r rid ≡ d → ((if a && (b && d) then x else old) ≡ Some row) ⊎ IsIn table rid ms → (old ≡ Some row) ⊎ ((((t.0 == table.0) ≡ true) × (is_same_rid r rid ≡ true)) ⊎ IsIn table rid ms)
    by_tests a b d e f (inr h) = inr (inr h)
    by_tests true true true e f (inl h) = inr (inl (e, f))
    by_tests true true false e f (inl h) = inl h
    by_tests true false d e f (inl h) = inl h
    by_tests false b d e f (inl h) = inl h
image-in shown table rid (m ∷ ms) old row e = image-in shown table rid ms old row e

same-table : (t u v : Table) → (t.0 == u.0) ≡ true → (t.0 == v.0) ≡ true → u ≡ v
same-table t u v e f = grind (arith, nat_tests)

in-of : (u table : Table) (rid : Rid) (ms : List Mark) → IsOfTable u rid ms → IsIn table rid ms → u ≡ table
in-of u table rid [] o i = absurd i
in-of u table rid (mark.Write g c n t r x ∷ ms) o (inl e) = same-table t u table (o.0 e.1) e.0
in-of u table rid (mark.Write g c n t r x ∷ ms) o (inr i) = in-of u table rid ms o.1 i
in-of u table rid (m ∷ ms) o i = in-of u table rid ms o i

-- so its versions are of the table
pub of-versions : (node : Node) (table : Table) (rid : Rid) (ms : List Mark) → IsOfTable table rid ms → Each (λ (v : Version). is_same_rid v.rid rid ≡ true → (v.table.0 == table.0) ≡ true) (writes_at node ms)
of-versions node table rid [] o = tt
of-versions node table rid (mark.Write g c n t r x ∷ ms) o = by_node (is_same_node n node) (of-versions node table rid ms o.1)
  where
    by_node : (b : Bool) → Each (λ (v : Version). is_same_rid v.rid rid ≡ true → (v.table.0 == table.0) ≡ true) (writes_at node ms)
        → Each (λ (v : Version). is_same_rid v.rid rid ≡ true → (v.table.0 == table.0) ≡ true) (if b then record { gxid = g; cid = c; table = t; rid = r; image = x } ∷ writes_at node ms else writes_at node ms)
    by_node true e = (o.0, e)
    by_node false e = e
of-versions node table rid (m ∷ ms) o = of-versions node table rid ms o

-- SELECTED
node-is : (a b : Node) → is_same_node a b ≡ true → a ≡ b
node-is a b e = grind (arith, nat_tests)

module _ (before : List Mark) (s : Seg) (versions : s.versions ≡ writes_at s.node before) (homes : HaveHomes before) (g : Gxid) (k : Change) (sight : Sight before s g k) where
  -- what the command sees of a row that stands at the node
  pub record IsSeenHere (rid : Rid) (row : List Value) : Type 0 where
    pub seen : row_at sight.rows rid ≡ Some row
    pub here : node_of before rid ≡ Some s.node
    pub home : IsAtHome before s k.table rid
    pub of : IsOfTable k.table rid before

  seen-here : (rid : Rid) (row : List Value) → node_of before rid ≡ Some s.node → image before (take sight.place before) (Some (g, k.cid)) k.table rid ≡ Some row → IsSeenHere rid row
  seen-here rid row here e =
      record {
        seen = sight.view.images rid ∙ e;
        here = here;
        home = record { home = homes.nodes rid s.node here; tables = subst (Each (λ (v : Version). is_same_rid v.rid rid ≡ true → (v.table.0 == k.table.0) ≡ true)) (sym versions) (of-versions s.node k.table rid before of) };
        of = of;
      }
    where
      no-none : None ≡ Some row → ⊥
      no-none z = cc

      there : IsIn k.table rid before
      there = by_in (image-in (is_shown_to (Some (g, k.cid)) (take sight.place before)) k.table rid before None row e)
        where
          by_in : (None ≡ Some row) ⊎ IsIn k.table rid before → IsIn k.table rid before
          by_in (inl z) = absurd (no-none z)
          by_in (inr i) = i

      of : IsOfTable k.table rid before
      of = let o = homes.tables rid in subst (λ t. IsOfTable t rid before) (in-of o.0 k.table rid before o.1 there) o.1

  module _ (part : List KeyedRow) (its : IsPartOf before (take sight.place before) s.node g k.cid k.table part) where
    pub part-seen : (rid : Rid) (row : List Value) → row_at part rid ≡ Some row → IsSeenHere rid row
    part-seen rid row e = by_node (node_of before rid) refl (sym (its.images rid) ∙ e)
      where
        no-none : None ≡ Some row → ⊥
        no-none z = cc

        by_home : (first : Node) → node_of before rid ≡ Some first → (b : Bool) → is_same_node first s.node ≡ b → (if b then image before (take sight.place before) (Some (g, k.cid)) k.table rid else None) ≡ Some row → IsSeenHere rid row
        by_home first f true q e = seen-here rid row (f ∙ ap Some (node-is first s.node q)) e
        by_home first f false q e = absurd (no-none e)

        by_node : (o : Option Node) → node_of before rid ≡ o → (if is_home o s.node then image before (take sight.place before) (Some (g, k.cid)) k.table rid else None) ≡ Some row → IsSeenHere rid row
        by_node None f e = absurd (no-none e)
        by_node (Some first) f e = by_home first f (is_same_node first s.node) refl e

    all-seen : Each (λ (row : KeyedRow). IsSeenHere row.rid row.row) part
    all-seen = each_weaker (λ (row : KeyedRow). row_at part row.rid ≡ Some row.row) (λ (row : KeyedRow). IsSeenHere row.rid row.row) (λ row e. part-seen row.rid row.row e) part (rows-found part (rising-apart part its.rising))

    -- each row that it selects is chosen, and stands at the node
    pub record IsSelected (rid : Rid) : Type 0 where
      pub chosen : IsChosen sight.rows k rid
      pub home : IsAtHome before s k.table rid
      pub of : IsOfTable k.table rid before
      pub here : node_of before rid ≡ Some s.node

    each-both : (P Q R : Rid → Type 0) → ((rid : Rid) → P rid → Q rid → R rid) → (rids : List Rid) → Each P rids → Each Q rids → Each R rids
    each-both P Q R f [] e h = tt
    each-both P Q R f (r ∷ rs) e h = (f r e.0 h.0, each-both P Q R f rs e.1 h.1)

    pub part-selected : Each IsSelected (selected k.cond part)
    part-selected =
        each-both (IsChosen sight.rows k) (λ rid. (row : List Value) × IsSeenHere rid row) IsSelected (λ rid a b. record { chosen = a; home = b.1.home; of = b.1.of; here = b.1.here }) (selected k.cond part)
        (selected-chosen sight.rows k part (each_weaker (λ (row : KeyedRow). IsSeenHere row.rid row.row) (λ (row : KeyedRow). row_at sight.rows row.rid ≡ Some row.row) (λ row e. e.seen) part all-seen))
        (selected-each (λ rid. (row : List Value) × IsSeenHere rid row) k.cond part (each_weaker (λ (row : KeyedRow). IsSeenHere row.rid row.row) (λ (row : KeyedRow). (values : List Value) × IsSeenHere row.rid values) (λ row e. (row.row, e)) part all-seen))

    pub selected-are-apart : AreApart (selected k.cond part)
    selected-are-apart = selected-apart k.cond part (rising-apart part its.rising)
