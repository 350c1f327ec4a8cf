-- A row is written.
use Rattle.std.proofs.Common.{◌≡◌, ◌≢◌, ◌≤◌, arith, Bool, true, false, if◌then◌else◌, eqb, ltb, not, ◌&&◌, ◌||◌, List, [], ◌∷◌, ◌++◌, Option, Some, None, map, filter, append-nil, append_assoc, refl, sym, ap, ◌∙◌, subst}
use Rattle.std.proofs.lemmas.Bool.Decides.{nat_tests}
use Rattle.std.proofs.lemmas.List.{map-append}
use Rattle.std.proofs.lemmas.List.Elements.{filter-append}
use Rattle.std.proofs.lemmas.List.Folds.{list_any-append}
use Rattle.std.proofs.lemmas.List.Sums.{fold-append}
use Rattle.std.specs.List.{list_any}
use Rattle.std.specs.Prelude.{◌<◌, find, is_some, unwrap_or}
use Rattle.gx_dsnap.specs.Gxids.{is_below}
use Rattle.gx_ids.specs.declared.ids.Cid.{Cid}
use Rattle.gx_ids.specs.declared.ids.Gxid.{Gxid}
use Rattle.gx_ids.specs.declared.ids.Node.{Node}
use Rattle.gx_ids.specs.declared.ids.Table.{Table}
use Rattle.gx_ids.specs.declared.rid.Rid.{Rid}
use Rattle.gx_tree.specs.declared.value.Value.{Value}
use Rattle.gx_waits.specs.Claim.{same_claim}
use Rattle.gx_waits.specs.Claims.{is_of}
use Rattle.gx_msg.specs.declared.item.Kept.{Kept}
use Rattle.gx_rows.specs.Counts.{is_committed}
use Rattle.gx_rows.specs.Rows.{is_unaborted}
use Rattle.gx_rows.specs.declared.status.LocalStatus.{LocalStatus}
use Rattle.gx_rows.specs.declared.status.LocalStatus.TheVariants.{Running}
use Rattle.gx_rows.specs.Xids.{kept}
use Rattle.gx_slices.specs.Store.{Write, passes, status_of, writes_of}
use Rattle.gx_node.specs.Phases.{local_of, phase_of}
use Rattle.gx_store.specs.Marks.{is_same_gxid, is_same_rid}
use Rattle.gx_store.specs.declared.mark.Mark.{Mark}
use Rattle.gx_store.specs.declared.mark.Mark.TheVariants as mark
use Rattle.gx_rules.specs.Fits.{is_waiting}
use Rattle.gx_rules.specs.Segments as rule
use Rattle.gx_rules.specs.Segments.{Phase, Reading, Writing, Prepared, Committed, Forgotten, Aborted, Seg, Version, has_committed, has_ended}
use Rattle.gx_rules.specs.Shown.{kept_of, kept_one, last_images}
use Rattle.gx_rules.specs.Slices.{Moved, adds_version, own_lock, version, writes_row}
use Rattle.gx_slices.specs.Agrees.{has_version}
use Rattle.gx_slices.specs.Left.{AreLeft, IsLeft, IsOf, has_aborted, is_of_row, is_settled}
use Rattle.gx_slices.specs.Apart.{IsApart}
use Rattle.gx_slices.specs.Inserts.{IsPut}
use Rattle.gx_slices.specs.Owning.{own_locks, own_marks}
use Rattle.gx_slices.specs.Waiting.{is_open}
use Rattle.gx_slices.specs.declared.held.Entry.{Entry}
use Rattle.gx_slices.specs.declared.held.Held.{Held}
use Rattle.gx_slices.proofs.Closing.{below_other}
use Rattle.gx_slices.proofs.Gxids.{apart, differ, itself, other_row, other_table, row_itself, same_gxid, same_row, same_table, turned}
use Rattle.gx_slices.proofs.Left.{left-push, left-weaker}
use Rattle.gx_slices.proofs.OwnMoves.{any-own_locks}
use Rattle.gx_slices.proofs.Owning.{AreOwn-own_locks, takes_own-with, waits-own_locks}

-- TESTS
open_uncommitted : (p : Phase) → is_open p ≡ true → has_committed p ≡ false
open_uncommitted Reading e = refl
open_uncommitted Writing e = refl
open_uncommitted Prepared e = absurd (cc)
open_uncommitted Committed e = absurd (cc)
open_uncommitted (Forgotten c) e = absurd (cc)
open_uncommitted Aborted e = absurd (cc)

or_true : (a : Bool) → (a || (true || false)) ≡ true
or_true true = refl
or_true false = refl

or_false : (a : Bool) → (a || (false || false)) ≡ a
or_false true = refl
or_false false = refl

and_false : (a : Bool) → (a && false) ≡ false
and_false true = refl
and_false false = refl

-- who hasn't aborted before hasn't after
unaborted-running : (o : Option LocalStatus) (there : Bool) → is_some o ≡ there → passes is_unaborted o ≡ (there && true) → passes is_unaborted (Some (unwrap_or o Running)) ≡ true
unaborted-running None there e f = refl
unaborted-running (Some st) there e f = f ∙ sym (ap (λ (b : Bool). b && true) e)

open_unaborted : (p : Phase) → is_open p ≡ true → rule.is_unaborted p ≡ true
open_unaborted Reading e = refl
open_unaborted Writing e = refl
open_unaborted Prepared e = absurd (cc)
open_unaborted Committed e = absurd (cc)
open_unaborted (Forgotten c) e = absurd (cc)
open_unaborted Aborted e = absurd (cc)

passes_running : (o : Option LocalStatus) → passes is_committed (Some (unwrap_or o Running)) ≡ passes is_committed o
passes_running None = refl
passes_running (Some st) = refl

-- a row gets an image, from what the rows so far have made of the segment
module _ (start : Seg) (first held held' : Held) (g : Gxid) (c : Cid) (node : Node) (table : Table) (rid : Rid) (image : Option (List Value)) (m : Moved) (entry entry' : Entry) (marks marks' : List Mark) (is : IsApart start first held entry g m.seg) (put : IsPut g c node table rid image held held' entry entry' marks marks') where
  abbrev s : Seg
  s = m.seg

  abbrev v : Version
  v = version g c table rid image

  abbrev was : Phase
  was = (rule.local_of s g).phase

  abbrev s' : Seg
  s' = record (adds_version s g v) { locks = own_locks g was s.locks }

  -- THE TRANSACTIONS
  local_itself : rule.local_of s' g ≡ record (rule.local_of s g) { phase = Writing }
  local_itself = ap (λ (b : Bool). if b then record (rule.local_of s g) { phase = Writing } else rule.local_of s g) (itself g.0)

  local_other : (h : Gxid) → eqb h.0 g.0 ≡ false → rule.local_of s' h ≡ rule.local_of s h
  local_other h e = ap (λ (b : Bool). if b then record (rule.local_of s g) { phase = Writing } else rule.local_of s h) e

  has_version-put : (h : Gxid) → has_version s' h ≡ (has_version s h || (is_same_gxid g h || false))
  has_version-put h = list_any-append (λ u. is_same_gxid u.gxid h) s.versions (v ∷ [])

  has_version-other : (h : Gxid) → eqb h.0 g.0 ≡ false → has_version s' h ≡ has_version s h
  has_version-other h e = has_version-put h ∙ ap (λ (b : Bool). has_version s h || (b || false)) (turned g.0 h.0 ∙ e) ∙ or_false (has_version s h)

  has_version-itself : has_version s' g ≡ true
  has_version-itself = has_version-put g ∙ ap (λ (b : Bool). has_version s g || (b || false)) (itself g.0) ∙ or_true (has_version s g)

  -- THE STORE
  wrote : (h : Gxid) → s.horizon.0 ≤ h.0 → (b : Bool) → eqb h.0 g.0 ≡ b → is_some (status_of held'.store h) ≡ has_version s' h
  wrote h up true e = subst (λ (k : Gxid). is_some (status_of held'.store k) ≡ has_version s' k) (same_gxid g h e) (ap is_some put.status ∙ sym has_version-itself)
  wrote h up false e = ap is_some (put.others h (differ h.0 g.0 e)) ∙ is.stored.wrote h up ∙ sym (has_version-other h e)

  committed_itself : passes is_committed (status_of held'.store g) ≡ (has_version s' g && has_committed (rule.local_of s' g).phase)
  committed_itself =
      ap (passes is_committed) put.status
      ∙ passes_running (status_of held.store g)
      ∙ is.stored.committed g is.alive
      ∙ ap (λ (b : Bool). has_version s g && b) (open_uncommitted (rule.local_of s g).phase is.open_here)
      ∙ and_false (has_version s g)
      ∙ sym (and_false (has_version s' g))
      ∙ sym (ap (λ (l : rule.Local). has_version s' g && has_committed l.phase) local_itself)

  committed : (h : Gxid) → s.horizon.0 ≤ h.0 → (b : Bool) → eqb h.0 g.0 ≡ b → passes is_committed (status_of held'.store h) ≡ (has_version s' h && has_committed (rule.local_of s' h).phase)
  committed h up true e = subst (λ (k : Gxid). passes is_committed (status_of held'.store k) ≡ (has_version s' k && has_committed (rule.local_of s' k).phase)) (same_gxid g h e) committed_itself
  committed h up false e =
      ap (passes is_committed) (put.others h (differ h.0 g.0 e))
      ∙ is.stored.committed h up
      ∙ ap (λ (b : Bool). b && has_committed (rule.local_of s h).phase) (sym (has_version-other h e))
      ∙ ap (λ (l : rule.Local). has_version s' h && has_committed l.phase) (sym (local_other h e))

  unaborted_itself : passes is_unaborted (status_of held'.store g) ≡ (has_version s' g && rule.is_unaborted (rule.local_of s' g).phase)
  unaborted_itself =
      ap (passes is_unaborted) put.status
      ∙ unaborted-running (status_of held.store g) (has_version s g) (is.stored.wrote g is.alive) (is.stored.unaborted g is.alive ∙ ap (λ (b : Bool). has_version s g && b) (open_unaborted (rule.local_of s g).phase is.open_here))
      ∙ sym (ap (λ (b : Bool). b && rule.is_unaborted (rule.local_of s' g).phase) has_version-itself ∙ ap (λ (l : rule.Local). rule.is_unaborted l.phase) local_itself)

  unaborted : (h : Gxid) → s.horizon.0 ≤ h.0 → (b : Bool) → eqb h.0 g.0 ≡ b → passes is_unaborted (status_of held'.store h) ≡ (has_version s' h && rule.is_unaborted (rule.local_of s' h).phase)
  unaborted h up true e = subst (λ (k : Gxid). passes is_unaborted (status_of held'.store k) ≡ (has_version s' k && rule.is_unaborted (rule.local_of s' k).phase)) (same_gxid g h e) unaborted_itself
  unaborted h up false e =
      ap (passes is_unaborted) (put.others h (differ h.0 g.0 e))
      ∙ is.stored.unaborted h up
      ∙ ap (λ (b : Bool). b && rule.is_unaborted (rule.local_of s h).phase) (sym (has_version-other h e))
      ∙ ap (λ (l : rule.Local). has_version s' h && rule.is_unaborted l.phase) (sym (local_other h e))

  -- who holds itself
  low : (h : Gxid) → h.0 < s'.horizon.0 → has_version s' h ≡ true → has_ended (rule.local_of s' h).phase ≡ true
  low h under there =
      let e = apart h.0 g.0 (below_other h.0 g.0 s.horizon.0 under is.alive) in
      ap (λ (l : rule.Local). has_ended l.phase) (local_other h e) ∙ is.writers.low h under (sym (has_version-other h e) ∙ there)

  own : (h : Gxid) (b : Bool) → eqb h.0 g.0 ≡ b → list_any (same_claim (own_lock h)) s'.locks.holds ≡ true → (has_version s' h && not (has_ended (rule.local_of s' h).phase)) ≡ true
  own h true e holds =
      subst (λ (k : Gxid). (has_version s' k && not (has_ended (rule.local_of s' k).phase)) ≡ true) (same_gxid g h e)
      (ap (λ (b : Bool). b && not (has_ended (rule.local_of s' g).phase)) has_version-itself ∙ ap (λ (l : rule.Local). not (has_ended l.phase)) local_itself)
  own h false e holds =
      ap (λ (b : Bool). b && not (has_ended (rule.local_of s' h).phase)) (has_version-other h e)
      ∙ ap (λ (l : rule.Local). has_version s h && not (has_ended l.phase)) (local_other h e)
      ∙ is.writers.own h (sym (any-own_locks h g was s.locks e) ∙ holds)

  -- what stands at a row
  aborted_before : (u : Version) → has_aborted s u ≡ true → has_aborted s' u ≡ true
  aborted_before u e = by_test (eqb u.gxid.0 g.0) refl
    where
      differ : not true ≡ true → ⊥
      differ f = cc

      by_test : (b : Bool) → eqb u.gxid.0 g.0 ≡ b → has_aborted s' u ≡ true
      by_test false f = ap (λ (l : rule.Local). not (rule.is_unaborted l.phase)) (local_other u.gxid f) ∙ e
      by_test true f =
          absurd
          (differ
          (sym (ap not (open_unaborted was is.open_here))
          ∙ subst (λ (h : Gxid). not (rule.is_unaborted (rule.local_of s h).phase) ≡ true) (sym (same_gxid g u.gxid f)) e))

  settled_before : (u : Version) → is_settled s u ≡ true → is_settled s' u ≡ true
  settled_before u e = by_test (eqb u.gxid.0 g.0) refl
    where
      differ : (false && is_below s.horizon g) ≡ true → ⊥
      differ f = cc

      by_test : (b : Bool) → eqb u.gxid.0 g.0 ≡ b → is_settled s' u ≡ true
      by_test false f = ap (λ (l : rule.Local). has_committed l.phase && is_below s.horizon u.gxid) (local_other u.gxid f) ∙ e
      by_test true f =
          absurd
          (differ
          (sym (ap (λ (b : Bool). b && is_below s.horizon g) (open_uncommitted was is.open_here))
          ∙ subst (λ (h : Gxid). (has_committed (rule.local_of s h).phase && is_below s.horizon h) ≡ true) (sym (same_gxid g u.gxid f)) e))

  -- who made a write is as before, and so is what became of him
  told_before : (w : Write) (u : Version) → IsOf s w u → IsOf s' w u
  told_before w u its = record {
    writer = its.writer;
    cid = its.cid;
    image = its.image;
    committed = its.committed ∙ by_committed (eqb u.gxid.0 g.0) refl;
    unaborted = its.unaborted ∙ by_unaborted (eqb u.gxid.0 g.0) refl;
  }
    where
      by_committed : (b : Bool) → eqb u.gxid.0 g.0 ≡ b → has_committed (rule.local_of s u.gxid).phase ≡ has_committed (rule.local_of s' u.gxid).phase
      by_committed true e = subst (λ (h : Gxid). has_committed (rule.local_of s h).phase ≡ has_committed (rule.local_of s' h).phase) (same_gxid g u.gxid e) (open_uncommitted was is.open_here ∙ sym (ap (λ (l : rule.Local). has_committed l.phase) local_itself))
      by_committed false e = sym (ap (λ (l : rule.Local). has_committed l.phase) (local_other u.gxid e))

      by_unaborted : (b : Bool) → eqb u.gxid.0 g.0 ≡ b → rule.is_unaborted (rule.local_of s u.gxid).phase ≡ rule.is_unaborted (rule.local_of s' u.gxid).phase
      by_unaborted true e = subst (λ (h : Gxid). rule.is_unaborted (rule.local_of s h).phase ≡ rule.is_unaborted (rule.local_of s' h).phase) (same_gxid g u.gxid e) (open_unaborted was is.open_here ∙ sym (ap (λ (l : rule.Local). rule.is_unaborted l.phase) local_itself))
      by_unaborted false e = sym (ap (λ (l : rule.Local). rule.is_unaborted l.phase) (local_other u.gxid e))

  weaker : (ws : List Write) (vs : List Version) → IsLeft (IsOf s) (has_aborted s) (is_settled s) ws vs → IsLeft (IsOf s') (has_aborted s') (is_settled s') ws vs
  weaker = left-weaker (IsOf s) (IsOf s') (has_aborted s) (is_settled s) (has_aborted s') (is_settled s') aborted_before settled_before told_before

  -- its own write
  abbrev new_write : Write
  new_write = record { writer = Some g; cid = c; status = unwrap_or (status_of held.store g) Running; image = image }

  its_own : IsOf s' new_write v
  its_own = record {
    writer = sym (kept_up g is.alive);
    cid = refl;
    image = refl;
    committed =
        passes_running (status_of held.store g) ∙ is.stored.committed g is.alive ∙ ap (λ (b : Bool). has_version s g && b) (open_uncommitted was is.open_here) ∙ and_false (has_version s g)
        ∙ sym (ap (λ (l : rule.Local). has_committed l.phase) local_itself);
    unaborted =
        unaborted-running (status_of held.store g) (has_version s g) (is.stored.wrote g is.alive) (is.stored.unaborted g is.alive ∙ ap (λ (b : Bool). has_version s g && b) (open_unaborted was is.open_here))
        ∙ sym (ap (λ (l : rule.Local). rule.is_unaborted l.phase) local_itself);
  }
    where
      not_below : (h : Gxid) → s.horizon.0 ≤ h.0 → ltb h.0 s.horizon.0 ≡ false
      not_below h up = grind (arith, nat_tests)

      kept_up : (h : Gxid) → s.horizon.0 ≤ h.0 → kept s.horizon h ≡ Some h
      kept_up h up = ap (λ (b : Bool). if b then None else Some h) (not_below h up)

  versions_split : (t : Table) (r : Rid) (b : Bool) → is_of_row t r v ≡ b → filter (is_of_row t r) s'.versions ≡ filter (is_of_row t r) s.versions ++ (if b then v ∷ [] else [])
  versions_split t r b e =
      filter-append (is_of_row t r) s.versions (v ∷ []) ∙ ap (λ (b : Bool). filter (is_of_row t r) s.versions ++ (if b then v ∷ [] else [])) e

  not_there : (t : Table) (r : Rid) → is_of_row t r v ≡ false → writes_of held'.store t r ≡ writes_of held.store t r → AreLeft s' t r (writes_of held'.store t r)
  not_there t r e same =
      subst (λ (ws : List Write). AreLeft s' t r ws) (sym same)
      (subst (IsLeft (IsOf s') (has_aborted s') (is_settled s') (writes_of held.store t r)) (sym (versions_split t r false e ∙ append-nil (filter (is_of_row t r) s.versions)))
      (weaker (writes_of held.store t r) (filter (is_of_row t r) s.versions) (is.stored.writes t r)))

  there : AreLeft s' table rid (writes_of held'.store table rid)
  there =
      subst (λ (ws : List Write). AreLeft s' table rid ws) (sym put.written)
      (subst (IsLeft (IsOf s') (has_aborted s') (is_settled s') (writes_of held.store table rid ++ new_write ∷ [])) (sym (versions_split table rid true own))
      (left-push (IsOf s') (has_aborted s') (is_settled s') new_write v its_own (writes_of held.store table rid) (filter (is_of_row table rid) s.versions)
      (weaker (writes_of held.store table rid) (filter (is_of_row table rid) s.versions) (is.stored.writes table rid))))
    where
      own : is_of_row table rid v ≡ true
      own = ap (λ (b : Bool). b && is_same_rid rid rid) (itself table.0) ∙ row_itself rid

  writes : (t : Table) (r : Rid) (a : Bool) → eqb table.0 t.0 ≡ a → (b : Bool) → is_same_rid rid r ≡ b → AreLeft s' t r (writes_of held'.store t r)
  writes t r true e true f =
      subst
      (λ (q : Rid). AreLeft s' t q (writes_of held'.store t q))
      (same_row rid r f)
      (subst (λ (u : Table). AreLeft s' u rid (writes_of held'.store u rid)) (same_table table t e) there)
  writes t r true e false f =
      not_there t r (ap (λ (b : Bool). b && is_same_rid rid r) e ∙ f)
      (subst (λ (u : Table). writes_of held'.store u r ≡ writes_of held.store u r) (same_table table t e) (put.rows r (other_row rid r f)))
  writes t r false e b f = not_there t r (ap (λ (b : Bool). b && is_same_rid rid r) e) (put.tables t r (other_table table t e))

  -- WHAT IS KEPT
  own_versions : (h : Gxid) (b : Bool) → is_same_gxid g h ≡ b → filter (λ u. is_same_gxid u.gxid h) s'.versions ≡ filter (λ u. is_same_gxid u.gxid h) s.versions ++ (if b then v ∷ [] else [])
  own_versions h b e =
      filter-append (λ u. is_same_gxid u.gxid h) s.versions (v ∷ [])
      ∙ ap (λ (b : Bool). filter (λ u. is_same_gxid u.gxid h) s.versions ++ (if b then v ∷ [] else [])) e

  kept_itself : kept_of s' g ≡ kept_one (kept_of s g) v
  kept_itself = ap last_images (own_versions g true (itself g.0)) ∙ fold-append kept_one [] (filter (λ u. is_same_gxid u.gxid g) s.versions) (v ∷ [])

  kept_other : (h : Gxid) → h.0 ≢ g.0 → kept_of s' h ≡ kept_of s h
  kept_other h other =
      ap last_images (own_versions h false (turned g.0 h.0 ∙ apart h.0 g.0 other) ∙ append-nil (filter (λ u. is_same_gxid u.gxid h) s.versions))

  -- THE LOCKS
  same_phase : phase_of entry.local.phase ≡ was
  same_phase = ap (λ (l : rule.Local). l.phase) is.local

  same_locks : held'.locks ≡ own_locks g was s.locks
  same_locks = put.locks ∙ ap (λ (p : Phase). own_locks g p held.locks) same_phase ∙ ap (own_locks g was) is.locks

  -- ALL OF IT
  IsApart-put : IsApart start first held' entry' g s'
  IsApart-put = record {
    stored = record {
      horizon = put.horizon ∙ is.stored.horizon;
      writes = λ t r. writes t r (eqb table.0 t.0) refl (is_same_rid rid r) refl;
      wrote = λ h up. wrote h up (eqb h.0 g.0) refl;
      committed = λ h up. committed h up (eqb h.0 g.0) refl;
      unaborted = λ h up. unaborted h up (eqb h.0 g.0) refl;
    };
    locks = same_locks;
    entries = put.entries ∙ is.entries;
    holders = put.holders ∙ is.holders;
    local = ap local_of put.local ∙ ap (λ (l : rule.Local). let m : rule.Local = record l { phase = Writing } in m) is.local ∙ sym local_itself;
    kept = put.kept ∙ ap (λ (ks : List Kept). kept_one ks v) is.kept ∙ sym kept_itself;
    open_here = ap (λ (l : rule.Local). is_open l.phase) local_itself;
    node = is.node;
    horizon = is.horizon;
    owned = AreOwn-own_locks g was s.locks is.owned;
    alive = is.alive;
    writers = record { low = low; own = λ h holds. own h (eqb h.0 g.0) refl holds };
    waiting = ap is_waiting local_itself ∙ is.waiting;
    other_waits = λ h other. ap (find (is_of h)) (waits-own_locks g was s.locks) ∙ is.other_waits h other;
    other_locals = λ h other. local_other h (apart h.0 g.0 other) ∙ is.other_locals h other;
    other_rows = λ h other. kept_other h other ∙ is.other_rows h other;
    other_versions = λ h other. has_version-other h (apart h.0 g.0 other) ∙ is.other_versions h other;
  }

  abbrev marked : Moved
  marked = record { seg = adds_version s g v; marks = m.marks ++ mark.Write g c s.node table rid image ∷ [] }

  pub IsApart-written : IsApart start first held' entry' g (writes_row g c table m rid image).seg
  IsApart-written = subst (λ (n : Moved). IsApart start first held' entry' g n.seg) (sym (takes_own-with g was marked)) IsApart-put

  pub free-written : list_any (is_of g) s.locks.waits ≡ false → list_any (is_of g) (writes_row g c table m rid image).seg.locks.waits ≡ false
  free-written free =
      subst (λ (n : Moved). list_any (is_of g) n.seg.locks.waits ≡ false) (sym (takes_own-with g was marked)) (ap (list_any (is_of g)) (waits-own_locks g was s.locks) ∙ free)

  -- the marks of its own lock
  abbrev lock_marks : List Mark
  lock_marks = own_marks node g (phase_of entry.local.phase)

  marks-written : node ≡ start.node → m.marks ++ mark.Write g c node table rid image ∷ [] ++ lock_marks ≡ (writes_row g c table m rid image).marks
  marks-written at =
      ap (λ (n : Node). m.marks ++ mark.Write g c n table rid image ∷ [] ++ own_marks n g (phase_of entry.local.phase)) (at ∙ sym is.node)
      ∙ ap (λ (p : Phase). marked.marks ++ own_marks s.node g p) same_phase
      ∙ ap (λ (n : Moved). n.marks) (sym (takes_own-with g was marked))

  pub told-written : node ≡ start.node → marks ≡ m.marks → marks' ≡ (writes_row g c table m rid image).marks
  told-written at told = put.mark ∙ ap (λ (ms : List Mark). ms ++ mark.Write g c node table rid image ∷ [] ++ lock_marks) told ∙ marks-written at

  -- behind marks before it
  pub told-behind : (before : List Mark) → node ≡ start.node → marks ≡ before ++ m.marks → marks' ≡ before ++ (writes_row g c table m rid image).marks
  told-behind before at told =
      put.mark
      ∙ ap (λ (ms : List Mark). ms ++ mark.Write g c node table rid image ∷ [] ++ lock_marks) told
      ∙ ap (λ (ms : List Mark). ms ++ lock_marks) (append_assoc before m.marks (mark.Write g c node table rid image ∷ []))
      ∙ append_assoc before (m.marks ++ mark.Write g c node table rid image ∷ []) lock_marks
      ∙ ap (λ (ms : List Mark). before ++ ms) (marks-written at)
