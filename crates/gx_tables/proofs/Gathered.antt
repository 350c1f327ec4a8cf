-- A table's rows of all segments, by their identities, and what they are of a run that has left the segments so.
use Rattle.std.proofs.Common.{◌≡◌, ◌≤◌, ◌<◌, ℕ, zero, suc, ◌+◌, Bool, true, false, cond, eqb, List, [], ◌∷◌, Option, Some, None, map, length, refl, sym, ap, ◌∙◌, subst, arith}
use Rattle.std.specs.Prelude.{◌-◌, flat_map, slice_get}
use Rattle.std.proofs.lemmas.Bool.Decides.{nat_tests}
use Rattle.std.specs.BTreeMap.{is_at}
use Rattle.std.specs.List.Sorted.{IsStrictlySortedBy}
use Rattle.std.specs.Map.{keys_of, lookup, update, update_all}
use Rattle.std.specs.Option.{option_or}
use Rattle.std.specs.Ordering.{eq_by_cmp, is_eq}
use Rattle.std.specs.declared.alloc.Global.{Global}
use Rattle.std.specs.declared.vec.Vec.{Vec}
use Rattle.gx_lemmas.proofs.Lists.{place-below}
use Rattle.gx_lemmas.proofs.Options.{option_or-none, some-same}
use Rattle.gx_ids.specs.declared.ids.Node.{Node}
use Rattle.gx_ids.specs.declared.ids.Table.{Table}
use Rattle.gx_ids.specs.declared.rid.Rid.{Rid}
use Rattle.gx_tree.specs.declared.row.KeyedRow.{KeyedRow}
use Rattle.gx_tree.specs.declared.value.Value.{Value}
use Rattle.gx_dsnap.specs.declared.snapshot.Snapshot.{Snapshot}
use Rattle.gx_meaning.specs.Answer.{AreRising}
use Rattle.gx_meaning.specs.Order.{rid_order}
use Rattle.gx_script.specs.declared.Script.{Script}
use Rattle.gx_store.specs.declared.run.Step.{Step}
use Rattle.gx_store.specs.Marks.{is_same_rid}
use Rattle.gx_store.specs.Ordered.{AreOrdered}
use Rattle.gx_store.specs.Points.{marks_in}
use Rattle.gx_store.specs.Rows.{row_at}
use Rattle.gx_rules.specs.Machine.{world_of}
use Rattle.gx_rules.specs.Coordinators.{Coord}
use Rattle.gx_rules.specs.Segments.{Seg}
use Rattle.gx_rules.specs.Shown.{shown}
use Rattle.gx_rules.specs.Snapshots.{snapshot_of}
use Rattle.gx_law_order.proofs.Ordered.{world_well}
use Rattle.gx_law_order.proofs.SegItems.{writes_at}
use Rattle.gx_law_order.proofs.Journals.{world-hold}
use Rattle.gx_law_reads.specs.Sights.{AreRowsOf, AreRowsOfAll, IsOnlyAt, shown_to_all}
use Rattle.gx_law_runs.specs.Replays.{AreReplayed, segment_after, world_behind}
use Rattle.gx_law_runs.proofs.Reaching.{by-events, replayed}
use Rattle.gx_segment.specs.Steps.{nobody, no_command}
use Rattle.gx_tables.specs.Left.{AreLeftBy}
use Rattle.gx_tables.specs.Tables.{AreLastOf, AreTablesOf, entry_row, last_at, shown_by}
use Rattle.gx_tables.proofs.Shows.{last_at-append, last_at-rising, shown-elsewhere, shown-past, shown-rising, shown-to-all}

-- PARTS
-- of rows that stand one behind the other, list by list
module _ (part : Seg → List KeyedRow) (q : Rid) where
  all-none : (segments : List Seg) → ((k : ℕ) (s : Seg) → slice_get segments k ≡ Some s → last_at (part s) q ≡ None) → last_at (flat_map part segments) q ≡ None
  all-none [] h = refl
  all-none (s ∷ ss) h =
      last_at-append (part s) (flat_map part ss) q ∙ ap (option_or (last_at (flat_map part ss) q)) (h 0 s refl) ∙ option_or-none (last_at (flat_map part ss) q)
      ∙ all-none ss (λ k t at. h (suc k) t at)

  one-shows : (segments : List Seg) (k : ℕ) (s : Seg) → slice_get segments k ≡ Some s → ((i : ℕ) (t : Seg) → slice_get segments i ≡ Some t → (i ≡ k → ⊥) → last_at (part t) q ≡ None)
      → last_at (flat_map part segments) q ≡ last_at (part s) q
  one-shows [] k s at h = absurd (cc)
  one-shows (x ∷ xs) zero s at h =
      last_at-append (part x) (flat_map part xs) q
      ∙ ap (λ o. option_or o (last_at (part x) q)) (all-none xs (λ k t there. h (suc k) t there (later k)))
      ∙ ap (λ y. last_at (part y) q) (some-same x s at)
    where
      later : (k : ℕ) → suc k ≡ 0 → ⊥
      later k e = omega (arith, e)
  one-shows (x ∷ xs) (suc k) s at h =
      last_at-append (part x) (flat_map part xs) q ∙ ap (option_or (last_at (flat_map part xs) q)) (h 0 x refl (first k)) ∙ option_or-none (last_at (flat_map part xs) q)
      ∙ one-shows xs k s at (λ i t there apart. h (suc i) t there (λ e. apart (down i k e)))
    where
      first : (k : ℕ) → 0 ≡ suc k → ⊥
      first k e = omega (arith, e)

      down : (i k : ℕ) → suc i ≡ suc k → i ≡ k
      down i k e = omega (arith, e)

-- ENTRIES
keys-rows : (es : List (Rid × List Value)) → map (λ row. row.rid) (map entry_row es) ≡ keys_of es
keys-rows [] = refl
keys-rows (e ∷ es) = ap (λ ks. e.0 ∷ ks) (keys-rows es)

same-test : (a b : Rid) → is_same_rid a b ≡ is_eq (rid_order b a)
same-test a b = grind (arith, nat_tests)

row_at-entries : (es : List (Rid × List Value)) (q : Rid) → row_at (map entry_row es) q ≡ lookup (is_at (rid_order q)) es
row_at-entries [] q = refl
row_at-entries (e ∷ es) q = ap (λ (b : Bool). cond b (Some e.1) (row_at (map entry_row es) q)) (same-test e.0 q) ∙ ap (λ o. cond (is_eq (rid_order q e.0)) (Some e.1) o) (row_at-entries es q)

eq-same : (a b : Rid) → eq_by_cmp rid_order a b ≡ is_same_rid a b
eq-same a b = grind (arith, nat_tests)

-- rows that go into a map in turn: the last of each identity stays
updated : (rows : List KeyedRow) (f : Rid → Option (List Value)) (q : Rid) → update_all (eq_by_cmp rid_order) f (map (λ r. (r.rid, r.row)) rows) q ≡ option_or (last_at rows q) (f q)
updated [] f q = refl
updated (r ∷ rs) f q =
    updated rs (update (eq_by_cmp rid_order) f r.rid (Some r.row)) q
    ∙ ap (λ (b : Bool). option_or (last_at rs q) (cond b (Some r.row) (f q))) (eq-same r.rid q)
    ∙ by_last (last_at rs q) (is_same_rid r.rid q)
  where
    by_last : (last : Option (List Value)) (b : Bool) → option_or last (cond b (Some r.row) (f q)) ≡ option_or (option_or last (cond b (Some r.row) None)) (f q)
    by_last (Some row) b = refl
    by_last None true = refl
    by_last None false = refl

pub updated-last : (rows : List KeyedRow) (q : Rid) → update_all (eq_by_cmp rid_order) (λ _. None) (map (λ r. (r.rid, r.row)) rows) q ≡ last_at rows q
updated-last rows q = updated rows (λ _. None) q ∙ option_or-none (last_at rows q)

pub last-of : (all rows : List KeyedRow) (es : List (Rid × List Value)) → rows ≡ map entry_row es → IsStrictlySortedBy rid_order (keys_of es) → ((q : Rid) → lookup (is_at (rid_order q)) es ≡ last_at all q) → AreLastOf all rows
last-of all rows es listed sorted found =
    record {
      rising = subst AreRising (sym listed) (subst (IsStrictlySortedBy rid_order) (sym (keys-rows es)) sorted);
      last = λ q. ap (λ rs. row_at rs q) listed ∙ row_at-entries es q ∙ found q;
    }

none-there : (segments : List Seg) (k : ℕ) → slice_get segments k ≡ None → length segments ≤ k
none-there [] k e = omega arith
none-there (s ∷ ss) zero e = absurd (cc)
none-there (s ∷ ss) (suc k) e = more (length ss) k (none-there ss k e)
  where
    more : (n k : ℕ) → n ≤ k → suc n ≤ suc k
    more n k l = omega (arith, l)

-- THE ROWS OF A TABLE
module _ (script : Script) (some : 1 ≤ script.segments) (steps : List Step) (coord : Coord) (segments : List Seg) (left : AreLeftBy script steps coord segments) (table : Table) where
  abbrev x : Snapshot
  x = snapshot_of coord.table

  abbrev seg : ℕ → Seg
  seg i = segment_after script (record { 0 = i }) steps

  abbrev part : Seg → List KeyedRow
  part s = shown s x nobody no_command table

  versions-are : (i : ℕ) → 1 ≤ i → (seg i).versions ≡ writes_at (record { 0 = i }) (marks_in steps)
  versions-are i one =
      subst (λ (s : Seg). s.versions ≡ writes_at (record { 0 = i }) (marks_in steps)) (r.segments i one)
      (subst (λ ss. ((world_of script left.reached.events).segs i).versions ≡ writes_at (record { 0 = i }) (marks_in ss)) left.reached.is (world-hold script some left.reached.events i one).versions)
    where
      r : AreReplayed script steps (world_of script left.reached.events)
      r = replayed script steps left.reached

  ordered : AreOrdered script [] steps
  ordered = by-events script steps left.reached (AreOrdered script []) (λ es. (world_well script some es).steps)

  last-part : (s : Seg) (q : Rid) → last_at (part s) q ≡ row_at (part s) q
  last-part s q = last_at-rising (part s) q (shown-rising s x table)

  positive : (k : ℕ) → 1 ≤ k + 1
  positive k = omega arith

  -- a segment where the row isn't written doesn't show it
  elsewhere : (node : Node) (q : Rid) → IsOnlyAt node q (marks_in steps) → (k : ℕ) (s : Seg) → slice_get segments k ≡ Some s → (k + 1 ≡ node.0 → ⊥) → last_at (part s) q ≡ None
  elsewhere node q only k s at apart =
      last-part s q ∙ ap (λ t. row_at (part t) q) (sym (left.each k s at))
      ∙ shown-elsewhere (seg (k + 1)) x table node (record { 0 = k + 1 }) q (marks_in steps) (versions-are (k + 1) (positive k)) only (not-same node.0 (k + 1) apart)
    where
      not-same : (a b : ℕ) → (b ≡ a → ⊥) → eqb a b ≡ false
      not-same a b h = grind (arith, nat_tests)

  all-show : (node : Node) (q : Rid) (k : ℕ) → k + 1 ≡ node.0 → IsOnlyAt node q (marks_in steps) → last_at (flat_map part segments) q ≡ row_at (part (seg node.0)) q
  all-show node q k number only = by_place (slice_get segments k) refl
    where
      other : (i j n : ℕ) → j + 1 ≡ n → (i ≡ j → ⊥) → i + 1 ≡ n → ⊥
      other i j n e apart f = apart (omega (arith, e, f))

      within : (i n j a : ℕ) → i < n → n ≤ j → j + 1 ≡ a → i + 1 ≡ a → ⊥
      within i n j a h l e f = omega (arith, h, l, e, f)

      beyond : (n k a : ℕ) → n ≤ k → k + 1 ≡ a → n < a
      beyond n k a l e = omega (arith, l, e)

      at-least : (k a : ℕ) → k + 1 ≡ a → 1 ≤ a
      at-least k a e = omega (arith, e)

      by_place : (o : Option Seg) → slice_get segments k ≡ o → last_at (flat_map part segments) q ≡ row_at (part (seg node.0)) q
      by_place (Some s) at =
          one-shows part q segments k s at (λ i t there apart. elsewhere node q only i t there (other i k node.0 number apart))
          ∙ last-part s q ∙ ap (λ t. row_at (part t) q) (sym (left.each k s at)) ∙ ap (λ i. row_at (part (seg i)) q) number
      by_place None at =
          let past : length segments ≤ k = none-there segments k at in
          all-none part q segments (λ i s there. elsewhere node q only i s there (within i (length segments) k node.0 (place-below segments i s there) past number))
          ∙ sym (shown-past script (seg node.0) x table node q steps ordered (versions-are node.0 (at-least k node.0 number)) (beyond script.segments k node.0 (subst (λ n. n ≤ k) left.count past) number))

  pub rows-of : (rows : List KeyedRow) → AreLastOf (shown_by segments x table) rows → AreRowsOf (world_behind script steps) table rows
  rows-of rows are =
      record {
        rising = are.rising;
        shown = λ node q one only.
            are.last q ∙ all-show node q (node.0 - 1) (number node.0 one) only
            ∙ ap (λ rs. row_at rs q) (shown-to-all (seg node.0) x table) ∙ ap (λ (c : Coord). row_at (shown_to_all (seg node.0) (snapshot_of c.table) table) q) (sym left.coordinator);
      }
    where
      number : (n : ℕ) → 1 ≤ n → n - 1 + 1 ≡ n
      number n one = omega (arith, one)

-- all tables
pub rows-of-tables : (script : Script) → 1 ≤ script.segments → (steps : List Step) (coord : Coord) (segments : List Seg) → AreLeftBy script steps coord segments → (k : ℕ) (tables : List (Vec KeyedRow Global)) → AreTablesOf segments (snapshot_of coord.table) k tables
    → AreRowsOfAll k (world_behind script steps) tables
rows-of-tables script some steps coord segments left k [] are = tt
rows-of-tables script some steps coord segments left k (rows ∷ tables) are =
    (rows-of script some steps coord segments left (record { 0 = k }) rows.items are.0, rows-of-tables script some steps coord segments left (k + 1) tables are.1)
