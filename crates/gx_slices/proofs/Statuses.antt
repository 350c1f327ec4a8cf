-- What became of a transaction, by its gxid and by its lxid.
use Rattle.std.proofs.Common.{◌≡◌, ◌≢◌, List, [], ◌∷◌, map, refl, sym, ap, ◌∙◌, Bool, true, false, cond, eqb, arith}
use Rattle.std.proofs.lemmas.Bool.Decides.{nat_tests}
use Rattle.std.proofs.lemmas.Map.Made.{lookup-map_values}
use Rattle.std.specs.Prelude.{Option, None, Some, option_and_then, option_map}
use Rattle.std.specs.BTreeMap.{is_at}
use Rattle.gx_ids.specs.declared.ids.Gxid.{Gxid}
use Rattle.gx_ids.specs.declared.ids.Lxid.{Lxid}
use Rattle.gx_ids.specs.declared.ids.Table.{Table}
use Rattle.gx_ids.specs.declared.rid.Rid.{Rid}
use Rattle.gx_rows.specs.declared.entry.XidEntry.{XidEntry}
use Rattle.gx_rows.specs.declared.status.LocalStatus.{LocalStatus}
use Rattle.gx_rows.specs.declared.version.Version.{Version}
use Rattle.gx_rows.specs.Keys.{restated}
use Rattle.gx_rows.specs.Xids as xids
use Rattle.gx_rows.specs.Xids.{Xids, entry_of, gxid_cmp, gxid_of, is_given, kept, lxid_cmp, lxid_of, status_in}
use Rattle.gx_rows.proofs.XidEntries.{at_lxid, lookup-with_entry}
use Rattle.gx_slices.specs.Store.{Write, is_by, status_of, with_status}
use Rattle.gx_slices.specs.Filed.{IsFiled, IsSound, store_of, with_status_at, write_of}

pub none_some : {X : Type 0} {x : X} → None ≡ Some x → ⊥
none_some e = cc

pub some_same : {X : Type 0} {x y : X} → Some x ≡ Some y → x ≡ y
some_same e = cc

-- the status is that of the entry
pub status_of-lxid_of : (tables : List (Table × List (Rid × List Version))) (x : Xids) (g : Gxid) → status_of (store_of tables x) g ≡ option_map (xids.status_of x) (lxid_of x g)
status_of-lxid_of tables x g = lookup-map_values (xids.status_of x) (is_at (gxid_cmp g)) x.lxids

-- A STATUS THAT IS SET
module _ (x : Xids) (l : Lxid) (s : LocalStatus) where
  abbrev set : Xids
  set = xids.with_status x l s

  entry_of-set : (k : Lxid) (b : Bool) → eqb l.0 k.0 ≡ b → entry_of set k ≡ cond b (restated s (entry_of x l)) (entry_of x k)
  entry_of-set k b e = lookup-with_entry l s x.entries k ∙ ap (λ (c : Bool). cond c (restated s (entry_of x l)) (entry_of x k)) (at_lxid l k b e)

  kept_same : (o : Option XidEntry) → option_and_then (λ (e : XidEntry). kept x.horizon e.gxid) (restated s o) ≡ option_and_then (λ (e : XidEntry). kept x.horizon e.gxid) o
  kept_same None = refl
  kept_same (Some e) = refl

  same_lxid : (k : Lxid) → eqb l.0 k.0 ≡ true → l ≡ k
  same_lxid k e = grind (arith, nat_tests)

  gxid_by : (k : Lxid) (b : Bool) → eqb l.0 k.0 ≡ b → gxid_of set k ≡ gxid_of x k
  gxid_by k true e =
      ap (option_and_then (λ (e : XidEntry). kept x.horizon e.gxid)) (entry_of-set k true e) ∙ kept_same (entry_of x l) ∙ ap (gxid_of x) (same_lxid k e)
  gxid_by k false e = ap (option_and_then (λ (e : XidEntry). kept x.horizon e.gxid)) (entry_of-set k false e)

  -- who is whose stays
  gxid_of-set : (k : Lxid) → gxid_of set k ≡ gxid_of x k
  gxid_of-set k = gxid_by k (eqb l.0 k.0) refl

  status_of-other : (k : Lxid) → eqb l.0 k.0 ≡ false → xids.status_of set k ≡ xids.status_of x k
  status_of-other k e = ap (status_in (is_given x k)) (entry_of-set k false e)

  status_of-here : (e : XidEntry) → entry_of x l ≡ Some e → xids.status_of set l ≡ s
  status_of-here e at =
      ap (status_in (is_given x l)) (entry_of-set l true (itself l)) ∙ ap (λ (o : Option XidEntry). status_in (is_given x l) (restated s o)) at
    where
      itself : (l : Lxid) → eqb l.0 l.0 ≡ true
      itself l = grind (arith, nat_tests)

-- an lxid with a gxid has an entry
entry_there : (x : Xids) (l : Lxid) (g : Gxid) → gxid_of x l ≡ Some g → (e : XidEntry) × (entry_of x l ≡ Some e)
entry_there x l g at = from (entry_of x l) refl at
  where
    from : (o : Option XidEntry) → entry_of x l ≡ o → option_and_then (λ (e : XidEntry). kept x.horizon e.gxid) o ≡ Some g → (e : XidEntry) × (entry_of x l ≡ Some e)
    from None is at = absurd (none_some at)
    from (Some e) is at = (e, is)

module _ (tables : List (Table × List (Rid × List Version))) (x : Xids) (g : Gxid) (s : LocalStatus) (sound : IsSound tables x) where
  set_at : (o : Option Lxid) → lxid_of x g ≡ o → status_of (store_of tables (with_status_at o x s)) g ≡ option_map (λ _. s) (status_of (store_of tables x) g)
  set_at None missing =
      let is : status_of (store_of tables x) g ≡ None = status_of-lxid_of tables x g ∙ ap (option_map (xids.status_of x)) missing in
      is ∙ sym (ap (option_map (λ (t : LocalStatus). s)) is)
  set_at (Some l) there =
      let its = entry_there x l g (sound.there g l there) in
      status_of-lxid_of tables (xids.with_status x l s) g
      ∙ ap (option_map (xids.status_of (xids.with_status x l s))) there
      ∙ ap Some (status_of-here x l s its.0 its.1)
      ∙ sym (ap (option_map (λ (t : LocalStatus). s)) (status_of-lxid_of tables x g ∙ ap (option_map (xids.status_of x)) there))

  -- the transaction has the status, if it is here
  pub status_of-set : status_of (store_of tables (with_status_at (lxid_of x g) x s)) g ≡ option_map (λ _. s) (status_of (store_of tables x) g)
  status_of-set = set_at (lxid_of x g) refl

  apart_by : (q : Gxid) (l m : Lxid) (b : Bool) → q.0 ≢ g.0 → lxid_of x g ≡ Some l → lxid_of x q ≡ Some m → eqb l.0 m.0 ≡ b → b ≡ false
  apart_by q l m false other at at' e = refl
  apart_by q l m true other at at' e =
      let same : g ≡ q = some_same (sym (sound.there g l at) ∙ ap (gxid_of x) (same l m e) ∙ sound.there q m at') in
      absurd (other (sym (ap (λ (h : Gxid). h.0) same)))
    where
      same : (l m : Lxid) → eqb l.0 m.0 ≡ true → l ≡ m
      same l m e = grind (arith, nat_tests)

  beside : (q : Gxid) → q.0 ≢ g.0 → (l : Lxid) → lxid_of x g ≡ Some l → (o : Option Lxid) → lxid_of x q ≡ o → option_map (xids.status_of (xids.with_status x l s)) o ≡ option_map (xids.status_of x) o
  beside q other l at None missing = refl
  beside q other l at (Some m) there = ap Some (status_of-other x l s m (apart_by q l m (eqb l.0 m.0) other at there refl))

  other_at : (o : Option Lxid) → lxid_of x g ≡ o → (q : Gxid) → q.0 ≢ g.0 → status_of (store_of tables (with_status_at o x s)) q ≡ status_of (store_of tables x) q
  other_at None missing q other = refl
  other_at (Some l) there q other =
      status_of-lxid_of tables (xids.with_status x l s) q ∙ beside q other l there (lxid_of x q) refl ∙ sym (status_of-lxid_of tables x q)

  pub status_of-set_other : (q : Gxid) → q.0 ≢ g.0 → status_of (store_of tables (with_status_at (lxid_of x g) x s)) q ≡ status_of (store_of tables x) q
  status_of-set_other = other_at (lxid_of x g) refl

  sound_at : (o : Option Lxid) → IsSound tables (with_status_at o x s)
  sound_at None = sound
  sound_at (Some l) = record {
    there = λ q k at. gxid_of-set x l s k ∙ sound.there q k at;
    back = λ q k at. sound.back q k (sym (gxid_of-set x l s k) ∙ at);
    given = sound.given;
    high = sound.high;
    filed = sound.filed;
  }

  pub IsSound-set : IsSound tables (with_status_at (lxid_of x g) x s)
  IsSound-set = sound_at (lxid_of x g)

  -- WHAT BECOMES OF WRITES
  same_write : (l : Lxid) (v : Version) → lxid_of x g ≡ Some l → (b : Bool) → eqb l.0 v.lxid.0 ≡ b → write_of (xids.with_status x l s) v ≡ with_status g s (write_of x v)
  same_write l v at true e =
      let its = entry_there x l g (sound.there g l at) in
      let m : l ≡ v.lxid = same l v.lxid e in
      let mine : gxid_of x v.lxid ≡ Some g = ap (gxid_of x) (sym m) ∙ sound.there g l at in
      ap (λ (o : Option Gxid). let w : Write = record { writer = o; cid = v.cid; status = xids.status_of (xids.with_status x l s) v.lxid; image = v.image } in w) (gxid_of-set x l s v.lxid)
      ∙ ap (λ (t : LocalStatus). let w : Write = record { writer = gxid_of x v.lxid; cid = v.cid; status = t; image = v.image } in w) (ap (xids.status_of (xids.with_status x l s)) (sym m) ∙ status_of-here x l s its.0 its.1)
      ∙ sym (ap (λ (b : Bool). cond b (let w : Write = record { writer = gxid_of x v.lxid; cid = v.cid; status = s; image = v.image } in w) (write_of x v)) (ap (λ (o : Option Gxid). is_by o g) mine ∙ itself g))
    where
      same : (l m : Lxid) → eqb l.0 m.0 ≡ true → l ≡ m
      same l m e = grind (arith, nat_tests)

      itself : (g : Gxid) → eqb g.0 g.0 ≡ true
      itself g = grind (arith, nat_tests)
  same_write l v at false e =
      ap (λ (o : Option Gxid). let w : Write = record { writer = o; cid = v.cid; status = xids.status_of (xids.with_status x l s) v.lxid; image = v.image } in w) (gxid_of-set x l s v.lxid)
      ∙ ap (λ (t : LocalStatus). let w : Write = record { writer = gxid_of x v.lxid; cid = v.cid; status = t; image = v.image } in w) (status_of-other x l s v.lxid e)
      ∙ sym (ap (λ (b : Bool). cond b (let w : Write = record { writer = gxid_of x v.lxid; cid = v.cid; status = s; image = v.image } in w) (write_of x v)) (not_mine (gxid_of x v.lxid) refl))
    where
      differ : (l m : Lxid) → eqb l.0 m.0 ≡ false → l ≡ m → ⊥
      differ l m e f = let n = ap (λ (k : Lxid). k.0) f in absurd (grind (arith, nat_tests, e, n))

      same_gxid : (h g : Gxid) → eqb h.0 g.0 ≡ true → h ≡ g
      same_gxid h g e = grind (arith, nat_tests)

      by_test : (h : Gxid) (b : Bool) → eqb h.0 g.0 ≡ b → gxid_of x v.lxid ≡ Some h → b ≡ false
      by_test h false f is = refl
      by_test h true f is = absurd (differ l v.lxid e (some_same (sym at ∙ ap (lxid_of x) (sym (same_gxid h g f)) ∙ sound.back h v.lxid is)))

      not_mine : (o : Option Gxid) → gxid_of x v.lxid ≡ o → is_by o g ≡ false
      not_mine None is = refl
      not_mine (Some h) is = by_test h (eqb h.0 g.0) refl is

  none_mine : (v : Version) → lxid_of x g ≡ None → write_of x v ≡ with_status g s (write_of x v)
  none_mine v missing =
      sym (ap (λ (b : Bool). cond b (let w : Write = record { writer = gxid_of x v.lxid; cid = v.cid; status = s; image = v.image } in w) (write_of x v)) (not_mine (gxid_of x v.lxid) refl))
    where
      same_gxid : (h g : Gxid) → eqb h.0 g.0 ≡ true → h ≡ g
      same_gxid h g e = grind (arith, nat_tests)

      by_test : (h : Gxid) (b : Bool) → eqb h.0 g.0 ≡ b → gxid_of x v.lxid ≡ Some h → b ≡ false
      by_test h false f is = refl
      by_test h true f is = absurd (none_some (sym missing ∙ ap (lxid_of x) (sym (same_gxid h g f)) ∙ sound.back h v.lxid is))

      not_mine : (o : Option Gxid) → gxid_of x v.lxid ≡ o → is_by o g ≡ false
      not_mine None is = refl
      not_mine (Some h) is = by_test h (eqb h.0 g.0) refl is

  write_set : (o : Option Lxid) (v : Version) → lxid_of x g ≡ o → write_of (with_status_at o x s) v ≡ with_status g s (write_of x v)
  write_set None v missing = none_mine v missing
  write_set (Some l) v there = same_write l v there (eqb l.0 v.lxid.0) refl

  -- each write of the transaction has the status
  pub writes_set : (vs : List Version) → map (write_of (with_status_at (lxid_of x g) x s)) vs ≡ map (with_status g s) (map (write_of x) vs)
  writes_set [] = refl
  writes_set (v ∷ vs) =
      ap (λ (w : Write). w ∷ map (write_of (with_status_at (lxid_of x g) x s)) vs) (write_set (lxid_of x g) v refl)
      ∙ ap (λ (ws : List Write). with_status g s (write_of x v) ∷ ws) (writes_set vs)
