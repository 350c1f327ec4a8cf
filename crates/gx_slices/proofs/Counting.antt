-- What the store shows to a command is what the rule shows.
use Rattle.std.proofs.Common.{◌≡◌, ◌≤◌, arith, Bool, true, false, cond, if◌then◌else◌, eqb, ltb, not, ◌&&◌, ◌||◌, List, [], ◌∷◌, Option, Some, None, map, filter, refl, sym, ap, ◌∙◌, subst}
use Rattle.std.proofs.lemmas.Bool.Decides.{nat_tests}
use Rattle.std.specs.Prelude.{nat_lt, option_map, option_and_then}
use Rattle.std.specs.List.{AllByRecursion, list_any}
use Rattle.std.specs.Option.{option_or}
use Rattle.gx_ids.specs.declared.ids.Cid.{Cid}
use Rattle.gx_ids.specs.declared.ids.Gxid.{Gxid}
use Rattle.gx_ids.specs.declared.ids.Table.{Table}
use Rattle.gx_ids.specs.declared.rid.Rid.{Rid}
use Rattle.gx_tree.specs.declared.row.KeyedRow.{KeyedRow}
use Rattle.gx_tree.specs.declared.value.Value.{Value}
use Rattle.gx_dsnap.specs.Snapshot.{sees}
use Rattle.gx_dsnap.specs.declared.snapshot.Snapshot.{Snapshot}
use Rattle.gx_meaning.specs.Answer.{AreRising}
use Rattle.gx_rows.specs.Rows.{last_passing}
use Rattle.gx_slices.specs.Store.{Store, Write, is_by, is_shown, shown_row, writes_of}
use Rattle.gx_rows.specs.Counts.{is_committed, is_seen}
use Rattle.gx_rows.specs.Xids.{kept}
use Rattle.gx_dsnap.specs.Gxids.{is_below}
use Rattle.gx_store.specs.Marks.{is_same_gxid, is_same_rid}
use Rattle.gx_store.specs.Rows.{row_at}
use Rattle.gx_rules.specs.Segments.{Phase, Reading, Writing, Prepared, Committed, Forgotten, Aborted, Seg, Version, has_committed, is_unaborted, local_of}
use Rattle.gx_rules.specs.Shown.{counts, last_images, shown}
use Rattle.gx_rules.specs.Last.{counting, last_image, row_of}
use Rattle.gx_rules.proofs.KeptImages.{image_in-last_images, in_order-last_images}
use Rattle.gx_rules.proofs.ShownRows.{rising-rows_in, row_at-rows_in, rows-same}
use Rattle.gx_slices.specs.Agrees.{has_version}
use Rattle.gx_slices.specs.Left.{IsOf, has_aborted, is_of_row, is_settled}
use Rattle.gx_slices.specs.Waiting.{is_open}
use Rattle.gx_slices.specs.Apart.{IsStored}
use Rattle.gx_slices.proofs.Gxids.{itself, same_gxid}
use Rattle.gx_slices.proofs.Left.{all-filter, taken-left}
use Rattle.gx_slices.proofs.Lists.{all_map, last_passing-cons, or_any, or_none}

-- THE LAST THAT PASSES
mapped_or : (o : Option Version) (v : Version) → option_map (λ x. x.image) (option_or o (Some v)) ≡ option_or (option_map (λ x. x.image) o) (Some v.image)
mapped_or None v = refl
mapped_or (Some x) v = refl

module _ (q : Version → Bool) (table : Table) (rid : Rid) where
  abbrev image_of : List Version → Option (Option (List Value))
  image_of vs = option_map (λ v. v.image) (last_passing q vs)

  more : (v : Version) (vs us : List Version) (t r x : Bool) → is_same_rid v.rid rid ≡ r → q v ≡ x → image_of vs ≡ last_image rid us → image_of (if t && r then v ∷ vs else vs) ≡ last_image rid (if t && x then v ∷ us else us)
  more v vs us false r x e f same = same
  more v vs us true true true e f same =
      ap (option_map (λ (v : Version). v.image)) (last_passing-cons q v vs ∙ ap (λ (b : Bool). option_or (last_passing q vs) (cond b (Some v) None)) f)
      ∙ mapped_or (last_passing q vs) v
      ∙ ap (λ o. option_or o (Some v.image)) same
      ∙ ap (λ (b : Bool). option_or (last_image rid us) (if b then Some v.image else None)) (sym e)
  more v vs us true true false e f same =
      ap
      (option_map (λ (v : Version). v.image))
      (last_passing-cons q v vs ∙ ap (λ (b : Bool). option_or (last_passing q vs) (cond b (Some v) None)) f ∙ or_none (last_passing q vs))
      ∙ same
  more v vs us true false true e f same = same ∙ sym (ap (λ (b : Bool). option_or (last_image rid us) (if b then Some v.image else None)) e ∙ or_none (last_image rid us))
  more v vs us true false false e f same = same

  -- the last version that passes is the last that counts
  last_image-passing : (vs : List Version) → image_of (filter (is_of_row table rid) vs) ≡ last_image rid (filter (λ v. (eqb v.table.0 table.0) && q v) vs)
  last_image-passing [] = refl
  last_image-passing (v ∷ vs) =
      more v (filter (is_of_row table rid) vs) (filter (λ v. (eqb v.table.0 table.0) && q v) vs) (eqb v.table.0 table.0) (is_same_rid v.rid rid) (q v) refl refl (last_image-passing vs)

-- who wrote a version has written
pub all_there : (vs : List Version) → AllByRecursion (λ v. list_any (λ u. is_same_gxid u.gxid v.gxid) vs ≡ true) vs
all_there [] = tt
all_there (v ∷ vs) = (
  ap (λ (b : Bool). b || list_any (λ u. is_same_gxid u.gxid v.gxid) vs) (itself v.gxid.0),
  all_map (λ w e. ap (λ (b : Bool). is_same_gxid v.gxid w.gxid || b) e ∙ or_any (is_same_gxid v.gxid w.gxid)) vs (all_there vs),
)

and_false : (b : Bool) → (b && false) ≡ false
and_false true = refl
and_false false = refl

uncommitted : (p : Phase) → not (is_unaborted p) ≡ true → has_committed p ≡ false
uncommitted Reading e = absurd (cc)
uncommitted Writing e = absurd (cc)
uncommitted Prepared e = absurd (cc)
uncommitted Committed e = absurd (cc)
uncommitted (Forgotten true) e = absurd (cc)
uncommitted (Forgotten false) e = refl
uncommitted Aborted e = refl

counted : (own committed below seen : Bool) → (committed && below) ≡ true → (own || (committed && (below || seen))) ≡ true
counted true committed below seen e = refl
counted false true true seen e = refl
counted false true false seen e = absurd (cc)
counted false false below seen e = absurd (cc)

-- A READER
-- The reader has written nothing by an earlier command, or its transaction hasn't aborted.
abbrev pub HasNoDead : Seg → Gxid → Cid → Type 0
HasNoDead s g c = (v : Version) → has_aborted s v ≡ true → (is_same_gxid v.gxid g && nat_lt v.cid.0 c.0) ≡ false

open_unaborted : (p : Phase) → is_open p ≡ true → not (is_unaborted p) ≡ false
open_unaborted Reading e = refl
open_unaborted Writing e = refl
open_unaborted Prepared e = absurd (cc)
open_unaborted Committed e = absurd (cc)
open_unaborted (Forgotten c) e = absurd (cc)
open_unaborted Aborted e = absurd (cc)

-- who runs a command hasn't aborted
pub HasNoDead-open : (s : Seg) (g : Gxid) (c : Cid) → is_open (local_of s g).phase ≡ true → HasNoDead s g c
HasNoDead-open s g c open_here v e = by_test (eqb v.gxid.0 g.0) refl
  where
    differ : false ≡ true → ⊥
    differ f = cc

    by_test : (b : Bool) → eqb v.gxid.0 g.0 ≡ b → (b && ltb v.cid.0 c.0) ≡ false
    by_test false f = refl
    by_test true f =
        absurd (differ (sym (open_unaborted (local_of s g).phase open_here) ∙ subst (λ (h : Gxid). not (is_unaborted (local_of s h).phase) ≡ true) (sym (same_gxid g v.gxid f)) e))

-- It has written nothing of a transaction below the horizon: it isn't below it itself, or it has written nothing by an earlier command.
abbrev pub HasNoneBelow : Seg → Gxid → Cid → Type 0
HasNoneBelow s g c = (v : Version) → is_below s.horizon v.gxid ≡ true → (is_same_gxid v.gxid g && nat_lt v.cid.0 c.0) ≡ false

pub HasNoneBelow-alive : (s : Seg) (g : Gxid) (c : Cid) → s.horizon.0 ≤ g.0 → HasNoneBelow s g c
HasNoneBelow-alive s g c alive v e = ap (λ (b : Bool). b && ltb v.cid.0 c.0) (other v e)
  where
    other : (v : Version) → ltb v.gxid.0 s.horizon.0 ≡ true → eqb v.gxid.0 g.0 ≡ false
    other v e = grind (arith, nat_tests, alive)

module _ (store : Store) (s : Seg) (is : IsStored store s) (snap : Snapshot) (g : Gxid) (c : Cid) (none : HasNoDead s g c) (below : HasNoneBelow s g c) where
  -- whose it is, and whether it is seen, from the horizon on
  own_kept : (v : Version) (b : Bool) → ltb v.gxid.0 s.horizon.0 ≡ b → (is_by (cond b None (Some v.gxid)) g && ltb v.cid.0 c.0) ≡ (eqb v.gxid.0 g.0 && ltb v.cid.0 c.0)
  own_kept v true e = sym (below v e)
  own_kept v false e = refl

  seen_kept : (h : Gxid) (b : Bool) → ltb h.0 s.horizon.0 ≡ b → is_seen snap (cond b None (Some h)) ≡ (b || sees snap h)
  seen_kept h true e = refl
  seen_kept h false e = refl

  -- a write is shown where its version counts
  agrees : (w : Write) (v : Version) → IsOf s w v → is_shown snap (Some g) c w ≡ counts s snap g c v
  agrees w v its =
      ap (λ (o : Option Gxid). (is_by o g && ltb w.cid.0 c.0) || (is_committed w.status && is_seen snap o)) its.writer
      ∙ ap (λ (d : Cid). (is_by (kept s.horizon v.gxid) g && ltb d.0 c.0) || (is_committed w.status && is_seen snap (kept s.horizon v.gxid))) its.cid
      ∙ ap (λ (b : Bool). (is_by (kept s.horizon v.gxid) g && ltb v.cid.0 c.0) || (b && is_seen snap (kept s.horizon v.gxid))) its.committed
      ∙ ap (λ (b : Bool). b || (has_committed (local_of s v.gxid).phase && is_seen snap (kept s.horizon v.gxid))) (own_kept v (ltb v.gxid.0 s.horizon.0) refl)
      ∙ ap (λ (b : Bool). (eqb v.gxid.0 g.0 && ltb v.cid.0 c.0) || (has_committed (local_of s v.gxid).phase && b)) (seen_kept v.gxid (ltb v.gxid.0 s.horizon.0) refl)

  -- Whose transaction has aborted isn't shown, and who is settled is.
  never : (v : Version) → has_aborted s v ≡ true → counts s snap g c v ≡ false
  never v e =
      ap (λ (b : Bool). b || (has_committed (local_of s v.gxid).phase && (ltb v.gxid.0 s.horizon.0 || sees snap v.gxid))) (none v e)
      ∙ ap (λ (b : Bool). b && (ltb v.gxid.0 s.horizon.0 || sees snap v.gxid)) (uncommitted (local_of s v.gxid).phase e)

  always : (v : Version) → has_version s v.gxid ≡ true → is_settled s v ≡ true → counts s snap g c v ≡ true
  always v there e = counted (eqb v.gxid.0 g.0 && ltb v.cid.0 c.0) (has_committed (local_of s v.gxid).phase) (is_below s.horizon v.gxid) (sees snap v.gxid) e

  as_row : (o : Option Write) → option_and_then (λ w. w.image) o ≡ row_of (option_map (λ w. w.image) o)
  as_row None = refl
  as_row (Some w) = refl

  module _ (table : Table) where
    shown_row-counting : (rid : Rid) → shown_row store snap (Some g) c table rid ≡ row_of (last_image rid (counting s snap g c table))
    shown_row-counting rid =
        let vs = filter (is_of_row table rid) s.versions in
        let there = all-filter (λ v. has_version s v.gxid ≡ true) (is_of_row table rid) s.versions (all_there s.versions) in
        as_row (last_passing (is_shown snap (Some g) c) (writes_of store table rid))
        ∙ ap row_of
        (taken-left (IsOf s) (has_aborted s) (is_settled s) (is_shown snap (Some g) c) (counts s snap g c) agrees (λ v. has_version s v.gxid) never always (λ w. w.image) (λ v. v.image) (λ w v its. its.image) (writes_of store table rid) vs there (is.writes table rid)
        ∙ last_image-passing (counts s snap g c) table rid s.versions)

    -- the rows that the store shows are the rule's
    pub rows-shown : (rows : List KeyedRow) → AreRising rows → ((rid : Rid) → row_at rows rid ≡ shown_row store snap (Some g) c table rid) → rows ≡ shown s snap g c table
    rows-shown rows rising images =
        let vs = counting s snap g c table in
        rows-same rows (shown s snap g c table) rising (rising-rows_in (last_images vs) (in_order-last_images vs))
        (λ rid. images rid ∙ shown_row-counting rid ∙ sym (row_at-rows_in (last_images vs) rid (in_order-last_images vs) ∙ ap row_of (image_in-last_images vs rid)))

    pub rising-shown : AreRising (shown s snap g c table)
    rising-shown = let vs = counting s snap g c table in rising-rows_in (last_images vs) (in_order-last_images vs)

    pub row_at-shown : (rid : Rid) → row_at (shown s snap g c table) rid ≡ shown_row store snap (Some g) c table rid
    row_at-shown rid =
        let vs = counting s snap g c table in
        row_at-rows_in (last_images vs) rid (in_order-last_images vs) ∙ ap row_of (image_in-last_images vs rid) ∙ sym (shown_row-counting rid)
