-- What all segments show of a row is what the one shows at which it is written.
use Rattle.std.proofs.Common.{◌≡◌, ◌≤◌, ◌<◌, ℕ, Bool, true, false, if◌then◌else◌, cond, eqb, nat_lt, ◌&&◌, ◌||◌, List, [], ◌∷◌, ◌++◌, Option, Some, None, map, filter, refl, sym, ap, ◌∙◌, subst, arith, All}
use Rattle.std.proofs.lemmas.Bool.{eqb-true}
use Rattle.std.proofs.lemmas.Bool.Decides.{nat_tests}
use Rattle.std.proofs.lemmas.List.Elements.{All-head, All-tail}
use Rattle.std.specs.List.{AllByRecursion}
use Rattle.std.specs.List.Sorted.{IsStrictlySortedBy}
use Rattle.std.specs.Option.{option_or}
use Rattle.std.specs.declared.cmp.Ordering.TheVariants.{Less}
use Rattle.gx_lemmas.proofs.Options.{option_or-none}
use Rattle.gx_ids.specs.declared.ids.Node.{Node}
use Rattle.gx_ids.specs.declared.ids.Table.{Table}
use Rattle.gx_ids.specs.declared.rid.Rid.{Rid}
use Rattle.gx_tree.specs.declared.row.KeyedRow.{KeyedRow}
use Rattle.gx_dsnap.specs.Gxids.{is_below}
use Rattle.gx_dsnap.specs.Snapshot.{sees}
use Rattle.gx_dsnap.specs.declared.snapshot.Snapshot.{Snapshot}
use Rattle.gx_meaning.specs.Answer.{AreRising}
use Rattle.gx_meaning.specs.Order.{rid_order}
use Rattle.gx_script.specs.declared.Script.{Script}
use Rattle.gx_store.proofs.Rows.{same_rid}
use Rattle.gx_store.specs.declared.mark.Mark.{Mark}
use Rattle.gx_store.specs.declared.mark.Mark.TheVariants as mark
use Rattle.gx_store.specs.declared.run.Step.{Step}
use Rattle.gx_store.specs.Journals.{is_same_node}
use Rattle.gx_store.specs.Marks.{is_same_gxid, is_same_rid}
use Rattle.gx_store.specs.Ordered.{AreOrdered, IsAtNode}
use Rattle.gx_store.specs.Points.{marks_in}
use Rattle.gx_store.specs.Rows.{row_at}
use Rattle.gx_rules.specs.Segments.{Seg, Version, has_committed, local_of}
use Rattle.gx_rules.specs.Shown.{counts, last_images, rows_in, shown}
use Rattle.gx_law_order.specs.Lists.{Each}
use Rattle.gx_law_order.proofs.SegItems.{writes_at}
use Rattle.gx_rules.proofs.KeptImages.{image_in-last_images, in_order-last_images}
use Rattle.gx_rules.proofs.RowOrder.{less_apart}
use Rattle.gx_rules.proofs.ShownRows.{rising-rows_in, row_at-rows_in}
use Rattle.gx_rules.specs.Last.{last_image, row_of}
use Rattle.gx_law_reads.specs.Sights.{IsOnlyAt, counts_for_all, shown_to_all}
use Rattle.gx_segment.specs.Steps.{nobody, no_command}
use Rattle.gx_tables.specs.Tables.{last_at}

or-or : {A : Type 0} (a b c : Option A) → option_or (option_or a b) c ≡ option_or a (option_or b c)
or-or None b c = refl
or-or (Some x) b c = refl

-- ROWS
pub last_at-append : (xs ys : List KeyedRow) (q : Rid) → last_at (xs ++ ys) q ≡ option_or (last_at ys q) (last_at xs q)
last_at-append [] ys q = sym (option_or-none (last_at ys q))
last_at-append (x ∷ xs) ys q = ap (λ o. option_or o (if is_same_rid x.rid q then Some x.row else None)) (last_at-append xs ys q) ∙ or-or (last_at ys q) (last_at xs q) (if is_same_rid x.rid q then Some x.row else None)

above-none : (rid : Rid) (xs : List KeyedRow) → AllByRecursion (λ r. rid_order rid r ≡ Less) (map (λ row. row.rid) xs) → row_at xs rid ≡ None
above-none rid [] all = refl
above-none rid (x ∷ xs) all = ap (λ (b : Bool). cond b (Some x.row) (row_at xs rid)) (less_apart rid x.rid all.0) ∙ above-none rid xs all.1

pub last_at-rising : (xs : List KeyedRow) (q : Rid) → AreRising xs → last_at xs q ≡ row_at xs q
unfolding IsStrictlySortedBy
last_at-rising [] q rising = refl
last_at-rising (x ∷ xs) q rising =
    ap (λ o. option_or o (if is_same_rid x.rid q then Some x.row else None)) (last_at-rising xs q rising.1) ∙ by_test (is_same_rid x.rid q) refl
  where
    by_test : (b : Bool) → is_same_rid x.rid q ≡ b → option_or (row_at xs q) (if b then Some x.row else None) ≡ (if b then Some x.row else row_at xs q)
    by_test true e = ap (λ o. option_or o (Some x.row)) (subst (λ r. row_at xs r ≡ None) (same_rid x.rid q e) (above-none x.rid xs rising.0))
    by_test false e = option_or-none (row_at xs q)

-- WHERE ROWS ARE WRITTEN
abbrev NotOf : Rid → Version → Type 0
NotOf q v = is_same_rid v.rid q ≡ false

not-written : (home node : Node) (q : Rid) (ms : List Mark) → IsOnlyAt home q ms → is_same_node home node ≡ false → Each (NotOf q) (writes_at node ms)
not-written home node q [] only apart = tt
not-written home node q (mark.Write g c n t r x ∷ ms) only apart = by_node (is_same_node n node) refl (not-written home node q ms only.1 apart)
  where
    clash : (a b d : Node) → is_same_node a d ≡ true → is_same_node a b ≡ true → is_same_node b d ≡ false → ⊥
    clash a b d e f h = absurd (differ d.0 (eqb-true a.0 d.0 e) (eqb-true a.0 b.0 f) h)
      where
        differ : (k : ℕ) → a.0 ≡ k → a.0 ≡ b.0 → eqb b.0 k ≡ false → ⊥
        differ k e f h = grind (arith, nat_tests)

    is_not : (b : Bool) → is_same_rid r q ≡ b → is_same_node n node ≡ true → is_same_rid r q ≡ false
    is_not true e at = absurd (clash n home node at (only.0 e) apart)
    is_not false e at = e

    by_node : (b : Bool) → is_same_node n node ≡ b → Each (NotOf q) (writes_at node ms) → Each (NotOf q) (if b then record { gxid = g; cid = c; table = t; rid = r; image = x } ∷ writes_at node ms else writes_at node ms)
    by_node true e more = (is_not (is_same_rid r q) refl e, more)
    by_node false e more = more
not-written home node q (m ∷ ms) only apart = not-written home node q ms only apart

image-none : (p : Version → Bool) (q : Rid) (vs : List Version) → Each (NotOf q) vs → last_image q (filter p vs) ≡ None
image-none p q [] e = refl
image-none p q (v ∷ vs) e = by_test (p v) (image-none p q vs e.1)
  where
    by_test : (b : Bool) → last_image q (filter p vs) ≡ None → last_image q (cond b (v ∷ filter p vs) (filter p vs)) ≡ None
    by_test true more = ap (λ o. option_or o (if is_same_rid v.rid q then Some v.image else None)) more ∙ ap (λ (b : Bool). if b then Some v.image else None) e.0
    by_test false more = more

-- WHAT A SEGMENT SHOWS
filter-same : (p r : Version → Bool) → ((v : Version) → p v ≡ r v) → (vs : List Version) → filter p vs ≡ filter r vs
filter-same p r same [] = refl
filter-same p r same (v ∷ vs) = ap (λ (b : Bool). cond b (v ∷ filter p vs) (filter p vs)) (same v) ∙ ap (λ ws. cond (r v) (v ∷ ws) ws) (filter-same p r same vs)

-- nobody's transaction has no writes of its own
pub shown-to-all : (s : Seg) (x : Snapshot) (table : Table) → shown s x nobody no_command table ≡ shown_to_all s x table
shown-to-all s x table = ap (λ vs. rows_in (last_images vs)) (filter-same _ _ each s.versions)
  where
    none : (a b : Bool) (c : ℕ) → ((a && nat_lt c 0) || b) ≡ b
    none a b c = grind (arith, nat_tests)

    each : (v : Version) → (eqb v.table.0 table.0 && counts s x nobody no_command v) ≡ (eqb v.table.0 table.0 && counts_for_all s x v)
    each v = ap (λ b. eqb v.table.0 table.0 && b) (none (is_same_gxid v.gxid nobody) (has_committed (local_of s v.gxid).phase && (is_below s.horizon v.gxid || sees x v.gxid)) v.cid.0)

pub shown-rising : (s : Seg) (x : Snapshot) (table : Table) → AreRising (shown s x nobody no_command table)
shown-rising s x table = rising-rows_in _ (in_order-last_images (filter (λ v. eqb v.table.0 table.0 && counts s x nobody no_command v) s.versions))

pub shown-none : (s : Seg) (x : Snapshot) (table : Table) (q : Rid) → Each (NotOf q) s.versions → row_at (shown s x nobody no_command table) q ≡ None
shown-none s x table q e =
    let vs : List Version = filter (λ v. eqb v.table.0 table.0 && counts s x nobody no_command v) s.versions in
    row_at-rows_in (last_images vs) q (in_order-last_images vs) ∙ ap row_of (image_in-last_images vs q ∙ image-none (λ v. eqb v.table.0 table.0 && counts s x nobody no_command v) q s.versions e)

pub shown-elsewhere : (s : Seg) (x : Snapshot) (table : Table) (home node : Node) (q : Rid) (ms : List Mark) → s.versions ≡ writes_at node ms → IsOnlyAt home q ms → is_same_node home node ≡ false → row_at (shown s x nobody no_command table) q ≡ None
shown-elsewhere s x table home node q ms is only apart = shown-none s x table q (subst (Each (NotOf q)) (sym is) (not-written home node q ms only apart))

-- NODES PAST THE LAST
abbrev AreInside : ℕ → List Mark → Type 0
AreInside n [] = Unit {0}
AreInside n (mark.Write g c node t r x ∷ ms) = (node.0 ≤ n) × AreInside n ms
AreInside n (_ ∷ ms) = AreInside n ms

inside-append : (n : ℕ) (xs ys : List Mark) → AreInside n xs → AreInside n ys → AreInside n (xs ++ ys)
inside-append n [] ys e f = f
inside-append n (mark.Write g c node t r x ∷ xs) ys e f = (e.0, inside-append n xs ys e.1 f)
inside-append n (m ∷ xs) ys e f = inside-append n xs ys e f

inside-marks : (script : Script) (node : Node) (ms : List Mark) → All (IsAtNode script node) ms → AreInside script.segments ms
inside-marks script node [] h = tt
inside-marks script node (mark.Write g c n t r x ∷ ms) h =
    let a = All-head (IsAtNode script node) (mark.Write g c n t r x) ms h in
    (subst (λ (k : Node). k.0 ≤ script.segments) (sym a.0) a.1.1, inside-marks script node ms (All-tail (IsAtNode script node) (mark.Write g c n t r x) ms h))
inside-marks script node (m ∷ ms) h = inside-marks script node ms (All-tail (IsAtNode script node) m ms h)

inside-steps : (script : Script) (before ss : List Step) → AreOrdered script before ss → AreInside script.segments (marks_in ss)
inside-steps script before [] e = tt
inside-steps script before (s ∷ ss) e = inside-append script.segments s.marks (marks_in ss) (inside-marks script s.stamp.node s.marks e.0.marks) (inside-steps script (before ++ s ∷ []) ss e.1)

unwritten : (n : ℕ) (node : Node) (ms : List Mark) → AreInside n ms → n < node.0 → writes_at node ms ≡ []
unwritten n node [] e past = refl
unwritten n node (mark.Write g c k t r x ∷ ms) e past = by_node (is_same_node k node) (apart k.0 node.0 e.0 past) (unwritten n node ms e.1 past)
  where
    apart : (a b : ℕ) → a ≤ n → n < b → eqb a b ≡ false
    apart a b h l = grind (arith, nat_tests)

    by_node : (b : Bool) → b ≡ false → writes_at node ms ≡ [] → (if b then record { gxid = g; cid = c; table = t; rid = r; image = x } ∷ writes_at node ms else writes_at node ms) ≡ []
    by_node true h more = absurd (cc)
    by_node false h more = more
unwritten n node (m ∷ ms) e past = unwritten n node ms e past

pub shown-past : (script : Script) (s : Seg) (x : Snapshot) (table : Table) (node : Node) (q : Rid) (steps : List Step) → AreOrdered script [] steps → s.versions ≡ writes_at node (marks_in steps) → script.segments < node.0 → row_at (shown s x nobody no_command table) q ≡ None
shown-past script s x table node q steps ordered is past = shown-none s x table q (subst (Each (NotOf q)) (sym (is ∙ unwritten script.segments node (marks_in steps) (inside-steps script [] steps ordered) past)) tt)
