-- A reader is shown the same of writes as of versions.
use Rattle.std.proofs.Common.{◌≡◌, List, [], ◌∷◌, map, refl, sym, ap, ◌∙◌, Bool, true, false, cond, eqb, ltb, arith, ◌&&◌, ◌||◌}
use Rattle.std.proofs.lemmas.Bool.Decides.{nat_tests}
use Rattle.std.specs.Prelude.{Option, None, Some, option_map, option_and_then}
use Rattle.std.specs.Option.{option_or}
use Rattle.gx_ids.specs.declared.ids.Cid.{Cid}
use Rattle.gx_ids.specs.declared.ids.Gxid.{Gxid}
use Rattle.gx_ids.specs.declared.ids.Lxid.{Lxid}
use Rattle.gx_ids.specs.declared.ids.Table.{Table}
use Rattle.gx_ids.specs.declared.rid.Rid.{Rid}
use Rattle.gx_dsnap.specs.declared.snapshot.Snapshot.{Snapshot}
use Rattle.gx_rows.specs.Xids as xids
use Rattle.gx_rows.specs.Xids.{Xids, gxid_of, lxid_of}
use Rattle.gx_rows.specs.declared.version.Version.{Version}
use Rattle.gx_rows.specs.Rows.{last_passing, is_unaborted}
use Rattle.gx_rows.specs.Counts.{counts, is_committed, is_seen, shown_of}
use Rattle.gx_rows.specs.Counts as counted
use Rattle.gx_slices.specs.Store.{Write, current_of, is_by, is_own, is_shown, kept_at, newest_of, shown_row, writes_of}
use Rattle.gx_slices.specs.Filed.{IsSound, current_at, last_unaborted, newest_at, store_of, write_of}
use Rattle.gx_slices.specs.Changing.{newest_as}
use Rattle.gx_slices.proofs.KeptVersions.{kept_at-map}
use Rattle.gx_slices.proofs.Lists.{last_passing-cons, or_mapped}
use Rattle.gx_slices.proofs.Statuses.{none_some, some_same}

-- THE LAST THAT PASSES A TEST
module _ {X Y : Type 0} (f : X → Y) (p : X → Bool) (q : Y → Bool) (agree : (x : X) → p x ≡ q (f x)) where
  -- by tests that agree, the last of the mapped is that of the list, mapped
  last_passing-map : (xs : List X) → option_map f (last_passing p xs) ≡ last_passing q (map f xs)
  last_passing-map [] = refl
  last_passing-map (x ∷ xs) =
      ap (option_map f) (last_passing-cons p x xs)
      ∙ or_mapped f x (last_passing p xs) (p x)
      ∙ ap (λ (o : Option Y). option_or o (cond (p x) (Some (f x)) None)) (last_passing-map xs)
      ∙ ap (λ (b : Bool). option_or (last_passing q (map f xs)) (cond b (Some (f x)) None)) (agree x)
      ∙ sym (last_passing-cons q (f x) (map f xs))

-- WHOSE A VERSION IS
same_bool : (a b : Bool) → (a ≡ true → b ≡ true) → (b ≡ true → a ≡ true) → a ≡ b
same_bool true b there back = sym (there refl)
same_bool false true there back = back refl
same_bool false false there back = refl

equal : (m n : Lxid) → eqb m.0 n.0 ≡ true → m ≡ n
equal m n e = grind (arith, nat_tests)

equal_gxid : (g h : Gxid) → eqb g.0 h.0 ≡ true → g ≡ h
equal_gxid g h e = grind (arith, nat_tests)

is_equal : (m n : Lxid) → m ≡ n → eqb m.0 n.0 ≡ true
is_equal m n e = let f = ap (λ (l : Lxid). l.0) e in grind (arith, nat_tests, f)

is_equal_gxid : (g h : Gxid) → g ≡ h → eqb g.0 h.0 ≡ true
is_equal_gxid g h e = let f = ap (λ (l : Gxid). l.0) e in grind (arith, nat_tests, f)

module _ (tables : List (Table × List (Rid × List Version))) (x : Xids) (sound : IsSound tables x) where
  by_other : (o : Gxid) (m : Lxid) (w : Option Gxid) → lxid_of x o ≡ None → gxid_of x m ≡ w → is_by w o ≡ false
  by_other o m None missing is = refl
  by_other o m (Some h) missing is =
      same_bool (eqb h.0 o.0) false
      (λ e. absurd (none_some (sym missing ∙ ap (lxid_of x) (sym (equal_gxid h o e)) ∙ sound.back h m is)))
      (λ e. absurd (cc))

  by_own : (o : Gxid) (l m : Lxid) (w : Option Gxid) → lxid_of x o ≡ Some l → gxid_of x m ≡ w → eqb m.0 l.0 ≡ is_by w o
  by_own o l m None there is =
      same_bool (eqb m.0 l.0) false
      (λ e. absurd (none_some (sym is ∙ ap (gxid_of x) (equal m l e) ∙ sound.there o l there)))
      (λ e. absurd (cc))
  by_own o l m (Some h) there is =
      same_bool (eqb m.0 l.0) (eqb h.0 o.0)
      (λ e. is_equal_gxid h o (some_same (sym is ∙ ap (gxid_of x) (equal m l e) ∙ sound.there o l there)))
      (λ e. is_equal m l (some_same (sym (sound.back h m is) ∙ ap (lxid_of x) (equal_gxid h o e) ∙ there)))

  own_by : (v : Version) (o : Gxid) (cid : Cid) (p : Option Lxid) → lxid_of x o ≡ p → counted.is_own v p cid ≡ (is_by (gxid_of x v.lxid) o && ltb v.cid.0 cid.0)
  own_by v o cid None missing = sym (ap (λ (b : Bool). b && ltb v.cid.0 cid.0) (by_other o v.lxid (gxid_of x v.lxid) missing refl))
  own_by v o cid (Some l) there = ap (λ (b : Bool). b && ltb v.cid.0 cid.0) (by_own o l v.lxid (gxid_of x v.lxid) there refl)

  own_same : (v : Version) (own : Option Gxid) (cid : Cid) → counted.is_own v (option_and_then (lxid_of x) own) cid ≡ is_own own cid (write_of x v)
  own_same v None cid = refl
  own_same v (Some o) cid = own_by v o cid (lxid_of x o) refl

  -- a version counts exactly where its write is shown
  counts-is_shown : (snap : Snapshot) (own : Option Gxid) (cid : Cid) (v : Version) → counts v x snap (option_and_then (lxid_of x) own) cid ≡ is_shown snap own cid (write_of x v)
  counts-is_shown snap own cid v = ap (λ (b : Bool). b || (is_committed (xids.status_of x v.lxid) && is_seen snap (gxid_of x v.lxid))) (own_same v own cid)

  module _ (table : Table) (rid : Rid) where
    writes_is : writes_of (store_of tables x) table rid ≡ map (write_of x) (kept_at tables table rid)
    writes_is = kept_at-map (write_of x) rid tables table

    map_and_then : {X Y Z : Type 0} (f : X → Y) (g : Y → Option Z) (o : Option X) → option_and_then (λ a. g (f a)) o ≡ option_and_then g (option_map f o)
    map_and_then f g None = refl
    map_and_then f g (Some a) = refl

    map_twice : {X Y Z : Type 0} (f : X → Y) (g : Y → Z) (o : Option X) → option_map (λ a. g (f a)) o ≡ option_map g (option_map f o)
    map_twice f g None = refl
    map_twice f g (Some a) = refl

    -- a row shows a reader the same
    pub shown_row-shown_of : (snap : Snapshot) (own : Option Gxid) (cid : Cid) → option_and_then (λ v. v.image) (shown_of (kept_at tables table rid) x snap (option_and_then (lxid_of x) own) cid) ≡ shown_row (store_of tables x) snap own cid table rid
    shown_row-shown_of snap own cid =
        map_and_then (write_of x) (λ w. w.image) (shown_of (kept_at tables table rid) x snap (option_and_then (lxid_of x) own) cid)
        ∙ ap (option_and_then (λ (w : Write). w.image))
        (last_passing-map (write_of x) (λ v. counts v x snap (option_and_then (lxid_of x) own) cid) (is_shown snap own cid) (counts-is_shown snap own cid) (kept_at tables table rid)
        ∙ ap (last_passing (is_shown snap own cid)) (sym writes_is))

    -- and the newest write is that of the newest version
    newest_of-last_unaborted : option_map (write_of x) (last_unaborted (kept_at tables table rid) x) ≡ newest_of (store_of tables x) table rid
    newest_of-last_unaborted =
        last_passing-map (write_of x) (λ v. is_unaborted (xids.status_of x v.lxid)) (λ w. is_unaborted w.status) (λ v. refl) (kept_at tables table rid)
        ∙ ap (last_passing (λ (w : Write). is_unaborted w.status)) (sym writes_is)

    pub image_of-newest : option_and_then (λ v. v.image) (last_unaborted (kept_at tables table rid) x) ≡ option_and_then (λ w. w.image) (newest_of (store_of tables x) table rid)
    image_of-newest = map_and_then (write_of x) (λ w. w.image) (last_unaborted (kept_at tables table rid) x) ∙ ap (option_and_then (λ (w : Write). w.image)) newest_of-last_unaborted

    pub current_of-newest : option_map (current_at x) (last_unaborted (kept_at tables table rid) x) ≡ option_map current_of (newest_of (store_of tables x) table rid)
    current_of-newest = map_twice (write_of x) current_of (last_unaborted (kept_at tables table rid) x) ∙ ap (option_map current_of) newest_of-last_unaborted

    pub newest_at-newest : option_map (newest_at x) (last_unaborted (kept_at tables table rid) x) ≡ option_map newest_as (newest_of (store_of tables x) table rid)
    newest_at-newest = map_twice (write_of x) newest_as (last_unaborted (kept_at tables table rid) x) ∙ ap (option_map newest_as) newest_of-last_unaborted
