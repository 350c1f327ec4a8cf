-- What one version more does to the store.
use Rattle.std.proofs.Common.{◌≡◌, ◌≢◌, ℕ, ◌≤◌, List, [], ◌∷◌, ◌++◌, map, refl, sym, ap, ◌∙◌, subst, Bool, true, false, cond, ◌⊎◌, ⊎_elim, inl, inr}
use Rattle.std.proofs.lemmas.Bool.{cases_eq}
use Rattle.std.proofs.lemmas.List.{map-append}
use Rattle.std.specs.Prelude.{Option, None, Some, Result, Ok, Err, OnOk, OnErr, is_some, option_map, unwrap_or}
use Rattle.std.specs.List.{AllByRecursion}
use Rattle.gx_ids.specs.declared.ids.Cid.{Cid}
use Rattle.gx_ids.specs.declared.ids.Gxid.{Gxid}
use Rattle.gx_ids.specs.declared.ids.Lxid.{Lxid}
use Rattle.gx_ids.specs.declared.ids.Table.{Table}
use Rattle.gx_ids.specs.declared.rid.Rid.{Rid}
use Rattle.gx_ids.specs.declared.memory.OutOfMemory.{OutOfMemory}
use Rattle.gx_tree.specs.declared.value.Value.{Value}
use Rattle.gx_rows.specs.declared.status.LocalStatus.{LocalStatus}
use Rattle.gx_rows.specs.declared.status.LocalStatus.TheVariants.{Running}
use Rattle.gx_rows.specs.Xids as xids
use Rattle.gx_rows.specs.Xids.{Xids, assigned, gxid_of, lxid_of}
use Rattle.gx_rows.specs.declared.version.Version.{Version}
use Rattle.gx_slices.specs.Store.{Write, kept_at, status_of, writes_of}
use Rattle.gx_slices.specs.Filed.{IsFiled, IsSound, IsWritten, filed, store_of, with_writer, write_of}
use Rattle.gx_slices.proofs.KeptVersions.{kept_at-filed, kept_at-filed_row, kept_at-filed_table, kept_at-map}
use Rattle.gx_slices.proofs.Lxids.{AllByRecursion-push, IsSound-assigned, lxid_of-new, lxid_of-other, status_of-given, status_of-new, test_of, writes-assigned}
use Rattle.gx_slices.proofs.Statuses.{some_same, status_of-lxid_of}

-- A WRITER MORE
module _ (tables : List (Table × List (Rid × List Version))) (x : Xids) (g : Gxid) (high : x.horizon.0 ≤ g.0) (sound : IsSound tables x) where
  entered : (o : Option Lxid) → lxid_of x g ≡ o → IsSound tables (cond (is_some o) x (assigned x g))
  entered (Some l) there = sound
  entered None missing = IsSound-assigned x g tables sound missing high

  pub IsSound-with_writer : IsSound tables (with_writer x g)
  IsSound-with_writer = entered (lxid_of x g) refl

  same_once : (t : Table) (r : Rid) (b : Bool) → map (write_of (cond b x (assigned x g))) (kept_at tables t r) ≡ map (write_of x) (kept_at tables t r)
  same_once t r true = refl
  same_once t r false = writes-assigned x g t (kept_at tables t r) (sound.filed t r)

  -- the writes are the same
  pub writes_of-with_writer : (t : Table) (r : Rid) → map (write_of (with_writer x g)) (kept_at tables t r) ≡ map (write_of x) (kept_at tables t r)
  writes_of-with_writer t r = same_once t r (is_some (lxid_of x g))

  status_once : (o : Option Lxid) → lxid_of x g ≡ o → status_of (store_of tables (cond (is_some o) x (assigned x g))) g ≡ Some (unwrap_or (status_of (store_of tables x) g) Running)
  status_once (Some l) there =
      let is : status_of (store_of tables x) g ≡ Some (xids.status_of x l) = status_of-lxid_of tables x g ∙ ap (option_map (xids.status_of x)) there in
      is ∙ ap (λ (o : Option LocalStatus). Some (unwrap_or o Running)) (sym is)
  status_once None missing =
      let was : status_of (store_of tables x) g ≡ None = status_of-lxid_of tables x g ∙ ap (option_map (xids.status_of x)) missing in
      status_of-lxid_of tables (assigned x g) g
      ∙ ap (option_map (xids.status_of (assigned x g))) (lxid_of-new x g)
      ∙ ap Some (status_of-new x g)
      ∙ ap (λ (o : Option LocalStatus). Some (unwrap_or o Running)) (sym was)

  pub status_of-with_writer : status_of (store_of tables (with_writer x g)) g ≡ Some (unwrap_or (status_of (store_of tables x) g) Running)
  status_of-with_writer = status_once (lxid_of x g) refl

  same_status : (q : Gxid) (o : Option Lxid) → lxid_of x q ≡ o → option_map (xids.status_of (assigned x g)) o ≡ option_map (xids.status_of x) o
  same_status q None missing = refl
  same_status q (Some l) there = ap Some (status_of-given x g l (sound.given q l there))

  other_once : (q : Gxid) → q.0 ≢ g.0 → (b : Bool) → status_of (store_of tables (cond b x (assigned x g))) q ≡ status_of (store_of tables x) q
  other_once q other true = refl
  other_once q other false =
      status_of-lxid_of tables (assigned x g) q
      ∙ ap (option_map (xids.status_of (assigned x g))) (lxid_of-other x g q (test_of g q other))
      ∙ same_status q (lxid_of x q) refl
      ∙ sym (status_of-lxid_of tables x q)

  pub status_of-with_writer_other : (q : Gxid) → q.0 ≢ g.0 → status_of (store_of tables (with_writer x g)) q ≡ status_of (store_of tables x) q
  status_of-with_writer_other q other = other_once q other (is_some (lxid_of x g))

pub horizon-with_writer : (x : Xids) (g : Gxid) → (with_writer x g).horizon ≡ x.horizon
horizon-with_writer x g = either (is_some (lxid_of x g))
  where
    either : (b : Bool) → (cond b x (assigned x g)).horizon ≡ x.horizon
    either true = refl
    either false = refl

-- A VERSION MORE
pub table_cases : (t u : Table) → (t ≡ u) ⊎ (t ≢ u)
table_cases t u = ⊎_elim (λ (e : t.0 ≡ u.0). inl (whole t u e)) (λ (other : t.0 ≡ u.0 → ⊥). inr (λ e. other (ap (λ (k : Table). k.0) e))) (cases_eq t.0 u.0)
  where
    whole : (t u : Table) → t.0 ≡ u.0 → t ≡ u
    whole t u e = ap (λ (n : ℕ). record { 0 = n }) e

pub rid_cases : (r q : Rid) → (r ≡ q) ⊎ (r ≢ q)
rid_cases r q =
    ⊎_elim
    (λ (a : r.gxid.0 ≡ q.gxid.0).
    ⊎_elim
    (λ (b : r.cid.0 ≡ q.cid.0). ⊎_elim (λ (c : r.ordinal ≡ q.ordinal). inl (whole r q a b c)) (λ (other : r.ordinal ≡ q.ordinal → ⊥). inr (λ e. other (ap (λ (k : Rid). k.ordinal) e))) (cases_eq r.ordinal q.ordinal))
    (λ (other : r.cid.0 ≡ q.cid.0 → ⊥). inr (λ e. other (ap (λ (k : Rid). k.cid.0) e)))
    (cases_eq r.cid.0 q.cid.0))
    (λ (other : r.gxid.0 ≡ q.gxid.0 → ⊥). inr (λ e. other (ap (λ (k : Rid). k.gxid.0) e)))
    (cases_eq r.gxid.0 q.gxid.0)
  where
    whole : (r q : Rid) → r.gxid.0 ≡ q.gxid.0 → r.cid.0 ≡ q.cid.0 → r.ordinal ≡ q.ordinal → r ≡ q
    whole r q a b c =
        ap (λ (n : ℕ). let k : Rid = record { gxid = record { 0 = n }; cid = r.cid; ordinal = r.ordinal } in k) a
        ∙ ap (λ (n : ℕ). let k : Rid = record { gxid = q.gxid; cid = record { 0 = n }; ordinal = r.ordinal } in k) b
        ∙ ap (λ (n : ℕ). let k : Rid = record { gxid = q.gxid; cid = q.cid; ordinal = n } in k) c

module _ (tables : List (Table × List (Rid × List Version))) (x : Xids) (table : Table) (rid : Rid) (v : Version) (sound : IsSound tables x) (new : IsFiled x table v) where
  in_table : (r : Rid) → AllByRecursion (IsFiled x table) (kept_at (filed tables table rid v) table r)
  in_table r =
      ⊎_elim
      (λ (e : r ≡ rid).
      subst
      (λ (q : Rid). AllByRecursion (IsFiled x table) (kept_at (filed tables table rid v) table q))
      (sym e)
      (subst (AllByRecursion (IsFiled x table)) (sym (kept_at-filed tables table rid v)) (AllByRecursion-push (IsFiled x table) (kept_at tables table rid) v (sound.filed table rid) new)))
      (λ (other : r ≢ rid). subst (AllByRecursion (IsFiled x table)) (sym (kept_at-filed_row tables table rid v r other)) (sound.filed table r))
      (rid_cases r rid)

  all_filed : (t : Table) (r : Rid) → AllByRecursion (IsFiled x t) (kept_at (filed tables table rid v) t r)
  all_filed t r =
      ⊎_elim
      (λ (e : t ≡ table). subst (λ (u : Table). AllByRecursion (IsFiled x u) (kept_at (filed tables table rid v) u r)) (sym e) (in_table r))
      (λ (other : t ≢ table). subst (AllByRecursion (IsFiled x t)) (sym (kept_at-filed_table tables table rid v t r other)) (sound.filed t r))
      (table_cases t table)

  IsSound-filed : IsSound (filed tables table rid v) x
  IsSound-filed = record { there = sound.there; back = sound.back; given = sound.given; high = sound.high; filed = all_filed }

-- A WRITE
module _ (tables tables' : List (Table × List (Rid × List Version))) (x x' : Xids) (g : Gxid) (c : Cid) (table : Table) (rid : Rid) (image : Option (List Value)) (high : x.horizon.0 ≤ g.0) (sound : IsSound tables x) where
  told : (x' : Xids) (t : Table) (r : Rid) → writes_of (store_of tables x') t r ≡ map (write_of x') (kept_at tables t r)
  told x' t r = kept_at-map (write_of x') r tables t

  -- what a writer more leaves as it was
  module _ (writer : x' ≡ with_writer x g) where
    pub writes_of-writer : (t : Table) (r : Rid) → writes_of (store_of tables x') t r ≡ writes_of (store_of tables x) t r
    writes_of-writer t r =
        told x' t r ∙ ap (λ (y : Xids). map (write_of y) (kept_at tables t r)) writer ∙ writes_of-with_writer tables x g high sound t r ∙ sym (told x t r)

    pub status_of-writer : status_of (store_of tables' x') g ≡ Some (unwrap_or (status_of (store_of tables x) g) Running)
    status_of-writer = ap (λ (y : Xids). status_of (store_of tables y) g) writer ∙ status_of-with_writer tables x g high sound

    pub status_of-writer_other : (q : Gxid) → q.0 ≢ g.0 → status_of (store_of tables' x') q ≡ status_of (store_of tables x) q
    status_of-writer_other q other = ap (λ (y : Xids). status_of (store_of tables y) q) writer ∙ status_of-with_writer_other tables x g high sound q other

    pub horizon-writer : (store_of tables' x').horizon ≡ (store_of tables x).horizon
    horizon-writer = ap (λ (y : Xids). y.horizon) writer ∙ horizon-with_writer x g

    pub IsSound-writer : IsSound tables x'
    IsSound-writer = subst (IsSound tables) (sym writer) (IsSound-with_writer tables x g high sound)

  module _ (w : IsWritten tables tables' x x' g c table rid image) where
    sound' : IsSound tables x'
    sound' = IsSound-writer w.writer

    its_gxid : gxid_of x' w.lxid ≡ Some g
    its_gxid = sound'.there g w.lxid w.found

    its_status : xids.status_of x' w.lxid ≡ unwrap_or (status_of (store_of tables x) g) Running
    its_status = some_same (sym (ap (option_map (xids.status_of x')) w.found) ∙ sym (status_of-lxid_of tables x' g) ∙ status_of-writer w.writer)

    new_filed : IsFiled x' table (record { image = image; table = table; lxid = w.lxid; cid = c })
    new_filed = (refl, sound'.given g w.lxid w.found)

    abbrev new_write : Write
    new_write = record { writer = Some g; cid = c; status = unwrap_or (status_of (store_of tables x) g) Running; image = image }

    its_write : write_of x' (record { image = image; table = table; lxid = w.lxid; cid = c }) ≡ new_write
    its_write =
        ap (λ (o : Option Gxid). let v : Write = record { writer = o; cid = c; status = xids.status_of x' w.lxid; image = image } in v) its_gxid
        ∙ ap (λ (s : LocalStatus). let v : Write = record { writer = Some g; cid = c; status = s; image = image } in v) its_status

    -- the store stays sound
    pub IsSound-written : IsSound tables' x'
    IsSound-written =
        subst
        (λ (ts : List (Table × List (Rid × List Version))). IsSound ts x')
        (sym w.version)
        (IsSound-filed tables x' table rid (record { image = image; table = table; lxid = w.lxid; cid = c }) (IsSound-writer w.writer) new_filed)

    told_new : (t : Table) (r : Rid) → writes_of (store_of tables' x') t r ≡ map (write_of x') (kept_at (filed tables table rid (record { image = image; table = table; lxid = w.lxid; cid = c })) t r)
    told_new t r = kept_at-map (write_of x') r tables' t ∙ ap (λ (ts : List (Table × List (Rid × List Version))). map (write_of x') (kept_at ts t r)) w.version

    -- the row has the write more, and the others have what they had
    pub writes_of-written : writes_of (store_of tables' x') table rid ≡ writes_of (store_of tables x) table rid ++ new_write ∷ []
    writes_of-written =
        told_new table rid
        ∙ ap (map (write_of x')) (kept_at-filed tables table rid (record { image = image; table = table; lxid = w.lxid; cid = c }))
        ∙ map-append (write_of x') (kept_at tables table rid) ((record { image = image; table = table; lxid = w.lxid; cid = c }) ∷ [])
        ∙ ap (λ (ws : List Write). ws ++ write_of x' (record { image = image; table = table; lxid = w.lxid; cid = c }) ∷ []) (sym (told x' table rid) ∙ writes_of-writer w.writer table rid)
        ∙ ap (λ (v : Write). writes_of (store_of tables x) table rid ++ v ∷ []) its_write

    pub writes_of-written_row : (r : Rid) → r ≢ rid → writes_of (store_of tables' x') table r ≡ writes_of (store_of tables x) table r
    writes_of-written_row r other =
        told_new table r
        ∙ ap (map (write_of x')) (kept_at-filed_row tables table rid (record { image = image; table = table; lxid = w.lxid; cid = c }) r other)
        ∙ sym (told x' table r)
        ∙ writes_of-writer w.writer table r

    pub writes_of-written_table : (t : Table) (r : Rid) → t ≢ table → writes_of (store_of tables' x') t r ≡ writes_of (store_of tables x) t r
    writes_of-written_table t r other =
        told_new t r
        ∙ ap (map (write_of x')) (kept_at-filed_table tables table rid (record { image = image; table = table; lxid = w.lxid; cid = c }) t r other)
        ∙ sym (told x' t r)
        ∙ writes_of-writer w.writer t r

-- A TRY TO WRITE
module _ (tables tables' : List (Table × List (Rid × List Version))) (x x' : Xids) (g : Gxid) (c : Cid) (table : Table) (rid : Rid) (image : Option (List Value)) (high : x.horizon.0 ≤ g.0) (sound : IsSound tables x) where
  module _ (unchanged : tables' ≡ tables) (tried : (x' ≡ x) ⊎ (x' ≡ with_writer x g)) where
    same_sound : IsSound tables x'
    same_sound = ⊎_elim (λ (e : x' ≡ x). subst (IsSound tables) (sym e) sound) (λ (e : x' ≡ with_writer x g). IsSound-writer tables tables x x' g c table rid image high sound e) tried

    same_writes : (t : Table) (r : Rid) → writes_of (store_of tables' x') t r ≡ writes_of (store_of tables x) t r
    same_writes t r =
        ap (λ (ts : List (Table × List (Rid × List Version))). writes_of (store_of ts x') t r) unchanged
        ∙ ⊎_elim (λ (e : x' ≡ x). ap (λ (y : Xids). writes_of (store_of tables y) t r) e) (λ (e : x' ≡ with_writer x g). writes_of-writer tables tables x x' g c table rid image high sound e t r) tried

    maybe_status : (status_of (store_of tables' x') g ≡ status_of (store_of tables x) g) ⊎ (status_of (store_of tables' x') g ≡ Some (unwrap_or (status_of (store_of tables x) g) Running))
    maybe_status =
        ⊎_elim
        (λ (e : x' ≡ x). inl (ap (λ (y : Xids). status_of (store_of tables y) g) e))
        (λ (e : x' ≡ with_writer x g). inr (status_of-writer tables tables' x x' g c table rid image high sound e))
        tried

    same_others : (q : Gxid) → q.0 ≢ g.0 → status_of (store_of tables' x') q ≡ status_of (store_of tables x) q
    same_others q other =
        ⊎_elim
        (λ (e : x' ≡ x). ap (λ (y : Xids). status_of (store_of tables y) q) e)
        (λ (e : x' ≡ with_writer x g). status_of-writer_other tables tables' x x' g c table rid image high sound e q other)
        tried

  pub IsSound-tried : (o : Result (Unit {0}) OutOfMemory) → OnOk o (IsWritten tables tables' x x' g c table rid image) → OnErr o (tables' ≡ tables) → OnErr o ((x' ≡ x) ⊎ (x' ≡ with_writer x g)) → IsSound tables' x'
  IsSound-tried (Ok u) w unchanged tried = IsSound-written tables tables' x x' g c table rid image high sound w
  IsSound-tried (Err e) w unchanged tried = subst (λ (ts : List (Table × List (Rid × List Version))). IsSound ts x') (sym unchanged) (same_sound unchanged tried)

  pub status_of-tried_other : (o : Result (Unit {0}) OutOfMemory) → OnOk o (IsWritten tables tables' x x' g c table rid image) → OnErr o (tables' ≡ tables) → OnErr o ((x' ≡ x) ⊎ (x' ≡ with_writer x g)) → (q : Gxid) → q.0 ≢ g.0 → status_of (store_of tables' x') q ≡ status_of (store_of tables x) q
  status_of-tried_other (Ok u) w unchanged tried q other = status_of-writer_other tables tables' x x' g c table rid image high sound w.writer q other
  status_of-tried_other (Err e) w unchanged tried q other = same_others unchanged tried q other

  pub OnErr-writes : (o : Result (Unit {0}) OutOfMemory) → OnErr o (tables' ≡ tables) → OnErr o ((x' ≡ x) ⊎ (x' ≡ with_writer x g)) → OnErr o ((t : Table) (r : Rid) → writes_of (store_of tables' x') t r ≡ writes_of (store_of tables x) t r)
  OnErr-writes (Ok u) unchanged tried = tt
  OnErr-writes (Err e) unchanged tried = same_writes unchanged tried

  pub OnErr-status : (o : Result (Unit {0}) OutOfMemory) → OnErr o (tables' ≡ tables) → OnErr o ((x' ≡ x) ⊎ (x' ≡ with_writer x g)) → OnErr o ((status_of (store_of tables' x') g ≡ status_of (store_of tables x) g) ⊎ (status_of (store_of tables' x') g ≡ Some (unwrap_or (status_of (store_of tables x) g) Running)))
  OnErr-status (Ok u) unchanged tried = tt
  OnErr-status (Err e) unchanged tried = maybe_status unchanged tried

pub OnOk-weaker : {P Q : Type 0} (o : Result (Unit {0}) OutOfMemory) → (P → Q) → OnOk o P → OnOk o Q
OnOk-weaker (Ok u) f p = f p
OnOk-weaker (Err e) f p = tt
