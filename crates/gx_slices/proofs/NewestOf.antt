-- The newest version of a row that the store knows is the rule's current one.
use Rattle.std.proofs.Common.{◌≡◌, Bool, true, false, cond, if◌then◌else◌, eqb, not, ◌&&◌, List, [], ◌∷◌, Option, Some, None, map, filter, refl, sym, ap, ◌∙◌}
use Rattle.std.specs.Prelude.{option_map}
use Rattle.std.specs.List.{AllByRecursion}
use Rattle.std.specs.Option.{option_or}
use Rattle.gx_dsnap.specs.Gxids.{is_below}
use Rattle.gx_ids.specs.declared.ids.Cid.{Cid}
use Rattle.gx_ids.specs.declared.ids.Gxid.{Gxid}
use Rattle.gx_ids.specs.declared.ids.Table.{Table}
use Rattle.gx_ids.specs.declared.rid.Rid.{Rid}
use Rattle.gx_tree.specs.declared.value.Value.{Value}
use Rattle.gx_rows.specs.Rows.{is_unaborted, last_passing}
use Rattle.gx_rows.specs.Xids.{kept}
use Rattle.gx_slices.specs.Changing.{newest_as, newest_in}
use Rattle.gx_slices.specs.declared.newest.Newest.{Newest}
use Rattle.gx_store.specs.Marks.{is_same_rid}
use Rattle.gx_rules.specs.Segments as rule
use Rattle.gx_rules.specs.Segments.{Phase, Reading, Writing, Prepared, Committed, Forgotten, Aborted, Seg, Version, has_committed, local_of}
use Rattle.gx_rules.specs.Shown.{current_of}
use Rattle.gx_slices.specs.Agrees.{has_version}
use Rattle.gx_slices.specs.Left.{IsOf, has_aborted, is_of_row, is_settled}
use Rattle.gx_slices.specs.Apart.{IsStored}
use Rattle.gx_slices.specs.Store.{Store, Write, newest_of, writes_of}
use Rattle.gx_slices.proofs.Counting.{all_there}
use Rattle.gx_slices.proofs.Left.{all-filter, taken-left}
use Rattle.gx_slices.proofs.Lists.{last_passing-cons, or_none}

module _ (q : Version → Bool) (table : Table) (rid : Rid) where
  abbrev is_one : Version → Bool
  is_one v = (eqb v.table.0 table.0) && (is_same_rid v.rid rid && q v)

  more : (v : Version) (vs us : List Version) (t r x : Bool) → q v ≡ x → last_passing q vs ≡ last_passing is_one us
      → last_passing q (if t && r then v ∷ vs else vs) ≡ option_or (last_passing is_one us) (cond (t && (r && x)) (Some v) None)
  more v vs us false r x e same = same ∙ sym (or_none (last_passing is_one us))
  more v vs us true false x e same = same ∙ sym (or_none (last_passing is_one us))
  more v vs us true true x e same =
      last_passing-cons q v vs
      ∙ ap (λ (b : Bool). option_or (last_passing q vs) (cond b (Some v) None)) e
      ∙ ap (λ (o : Option Version). option_or o (cond x (Some v) None)) same

  last_passing-rows : (vs : List Version) → last_passing q (filter (is_of_row table rid) vs) ≡ last_passing is_one vs
  last_passing-rows [] = refl
  last_passing-rows (v ∷ vs) =
      more v (filter (is_of_row table rid) vs) vs (eqb v.table.0 table.0) (is_same_rid v.rid rid) (q v) refl (last_passing-rows vs)
      ∙ sym (last_passing-cons is_one v vs)

not_true : (b : Bool) → not b ≡ true → b ≡ false
not_true true e = absurd (cc)
not_true false e = refl

-- who has committed hasn't aborted
settled_stays : (p : Phase) (below : Bool) → (has_committed p && below) ≡ true → rule.is_unaborted p ≡ true
settled_stays Reading below e = absurd (cc)
settled_stays Writing below e = absurd (cc)
settled_stays Prepared below e = absurd (cc)
settled_stays Committed below e = refl
settled_stays (Forgotten true) below e = refl
settled_stays (Forgotten false) below e = absurd (cc)
settled_stays Aborted below e = absurd (cc)

same_newest : (s : Seg) (w : Write) (v : Version) → IsOf s w v → newest_as w ≡ newest_in s.horizon v
same_newest s w v its =
    ap (λ (o : Option Gxid). let n : Newest = record { writer = o; cid = w.cid; image = w.image } in n) its.writer
    ∙ ap (λ (c : Cid). let n : Newest = record { writer = kept s.horizon v.gxid; cid = c; image = w.image } in n) its.cid
    ∙ ap (λ (i : Option (List Value)). let n : Newest = record { writer = kept s.horizon v.gxid; cid = v.cid; image = i } in n) its.image

-- the newest write is that of the current version
pub newest_of-current_of : (store : Store) (s : Seg) → IsStored store s → (table : Table) (rid : Rid) → option_map newest_as (newest_of store table rid) ≡ option_map (newest_in s.horizon) (current_of s table rid)
newest_of-current_of store s is table rid =
    let q : Version → Bool = λ v. rule.is_unaborted (local_of s v.gxid).phase in
    let there = all-filter (λ v. has_version s v.gxid ≡ true) (is_of_row table rid) s.versions (all_there s.versions) in
    taken-left (IsOf s) (has_aborted s) (is_settled s) (λ w. is_unaborted w.status) q (λ w v its. its.unaborted) (λ v. has_version s v.gxid)
    (λ v e. not_true (rule.is_unaborted (local_of s v.gxid).phase) e)
    (λ v at e. settled_stays (local_of s v.gxid).phase (is_below s.horizon v.gxid) e)
    newest_as
    (newest_in s.horizon)
    (same_newest s)
    (writes_of store table rid)
    (filter (is_of_row table rid) s.versions)
    there
    (is.writes table rid)
    ∙ ap (option_map (newest_in s.horizon)) (last_passing-rows q table rid s.versions)
