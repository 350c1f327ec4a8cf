-- What is held, with a transaction's entry taken out, and put back.
use Rattle.std.proofs.Common.{◌≡◌, ◌≢◌, Bool, true, false, ℕ, if◌then◌else◌, ◌&&◌, not, eqb, List, None, Some, refl, sym, ap, ◌∙◌, subst, arith}
use Rattle.std.specs.Prelude.{◌<◌, ◌≤◌, nat_lt, filter, All, IsTrue}
use Rattle.std.specs.BTreeMap.{BTreeMap}
use Rattle.std.specs.BTreeSet.{contains}
use Rattle.std.specs.List.{list_any}
use Rattle.gx_ids.specs.declared.ids.Cid.{Cid}
use Rattle.gx_ids.specs.declared.ids.Gxid.{Gxid}
use Rattle.gx_tree.specs.declared.schema.Schema.{Schema}
use Rattle.gx_dsnap.specs.Gxids.{gxid_cmp, is_below}
use Rattle.gx_waits.specs.Claims.{is_of}
use Rattle.gx_locks.specs.Locks.{Locks}
use Rattle.gx_msg.specs.declared.item.Kept.{Kept}
use Rattle.gx_msg.specs.declared.reply.Reply.{Reply}
use Rattle.gx_slices.specs.Left.{IsOf, has_aborted, is_of_row, is_settled}
use Rattle.gx_slices.specs.Store.{Store, Write, writes_of}
use Rattle.gx_node.specs.Phases.{local_of}
use Rattle.gx_rules.specs.Fits.{holds_locks, is_waiting}
use Rattle.gx_rules.specs.Segments as rule
use Rattle.gx_rules.specs.Segments.{Phase, Reading, Writing, Prepared, Committed, Forgotten, Aborted, Seg, Suspended, Version, has_committed, has_ended, with_local}
use Rattle.gx_rules.specs.Shown.{kept_of}
use Rattle.gx_slices.specs.Agrees.{AreWriters, IsHeld, entry_at, has_version, is_right_version, local_in, rows_in}
use Rattle.gx_slices.specs.Apart.{IsApart, IsBack, IsStored, answered}
use Rattle.gx_slices.specs.Owning.{AreOwn}
use Rattle.gx_slices.specs.Waiting.{AreWaits, IsRightWait, is_open}
use Rattle.gx_slices.specs.declared.held.Entry.{Entry}
use Rattle.gx_slices.specs.declared.held.Held.{Held}
use Rattle.gx_slices.proofs.Gxids.{apart, differ, itself, same_gxid}
use Rattle.gx_slices.proofs.Left.{left-weaker}
use Rattle.gx_slices.proofs.Waiting.{AreWaits-one, never}

-- TAKEN OUT
pub IsStored-held : (tables : List Schema) (held : Held) (s : Seg) → IsHeld tables held s → IsStored held.store s
IsStored-held tables held s is = record { horizon = is.horizon; writes = is.writes; wrote = is.wrote; committed = is.committed; unaborted = is.unaborted }

pub IsApart-taken : (tables : List Schema) (held : Held) (entries : BTreeMap Gxid Entry) (s : Seg) (g : Gxid) (entry : Entry) → IsHeld tables held s → s.horizon.0 ≤ g.0 → is_open (rule.local_of s g).phase ≡ true → local_of entry.local ≡ local_in (entry_at held g) → entry.kept ≡ rows_in (entry_at held g) → IsApart s (record held { entries = entries }) (record held { entries = entries }) entry g s
IsApart-taken tables held entries s g entry is alive open_here local kept = record {
  stored = IsStored-held tables held s is;
  locks = is.locks;
  entries = refl;
  holders = refl;
  local = local ∙ is.locals g alive;
  kept = kept ∙ is.kept g alive;
  open_here = open_here;
  node = refl;
  horizon = refl;
  owned = is.owned;
  alive = alive;
  writers = is.writers;
  waiting = refl;
  other_waits = λ h other. refl;
  other_locals = λ h other. refl;
  other_rows = λ h other. refl;
  other_versions = λ h other. refl;
}

-- who waits for nothing has no wait
pub no-wait : (tables : List Schema) (held : Held) (s : Seg) (g : Gxid) → IsHeld tables held s → is_waiting (rule.local_of s g) ≡ false → list_any (is_of g) s.locks.waits ≡ false
no-wait tables held s g is free = is.waits.standing g ∙ free

-- PUT BACK
open_not_ended : (p : Phase) → is_open p ≡ true → has_ended p ≡ false
open_not_ended Reading e = refl
open_not_ended Writing e = refl
open_not_ended Prepared e = absurd (cc)
open_not_ended Committed e = absurd (cc)
open_not_ended (Forgotten c) e = absurd (cc)
open_not_ended Aborted e = absurd (cc)

pub below_other : (n m k : ℕ) → n < k → k ≤ m → n ≢ m
below_other n m k under alive = λ same. omega (arith, under, alive, same)

and_true : (b : Bool) → (b && true) ≡ b
and_true true = refl
and_true false = refl

-- the entry of one transaction is this one now, and the others are as they were
pub record IsNow (old new : Held) (g : Gxid) (local : rule.Local) (rows : List Kept) : Type 0 where
  pub local_is : local_in (entry_at new g) ≡ local
  pub rows_are : rows_in (entry_at new g) ≡ rows
  pub entries : (h : Gxid) → h.0 ≢ g.0 → entry_at new h ≡ entry_at old h
  pub holds : contains gxid_cmp new.holders g ≡ holds_locks local
  pub holders : (h : Gxid) → h.0 ≢ g.0 → contains gxid_cmp new.holders h ≡ contains gxid_cmp old.holders h

module _ (tables : List Schema) (old new : Held) (before s : Seg) (g : Gxid) (local : rule.Local) (locks : Locks) (was : IsHeld tables old before) (alive : before.horizon.0 ≤ g.0) (stored : IsStored new.store s) (horizon : s.horizon ≡ before.horizon) (other_locals : (h : Gxid) → h.0 ≢ g.0 → rule.local_of s h ≡ rule.local_of before h) (other_rows : (h : Gxid) → h.0 ≢ g.0 → kept_of s h ≡ kept_of before h) (other_versions : (h : Gxid) → h.0 ≢ g.0 → has_version s h ≡ has_version before h) (now : IsNow old new g local (kept_of s g)) (same_phase : local.phase ≡ (rule.local_of s g).phase) where
  abbrev after : Seg
  after = record (with_local s g local) { locks = locks }

  itself_at : rule.local_of after g ≡ local
  itself_at = ap (λ (b : Bool). if b then local else rule.local_of s g) (itself g.0)

  other_at : (h : Gxid) → h.0 ≢ g.0 → rule.local_of after h ≡ rule.local_of s h
  other_at h other = ap (λ (b : Bool). if b then local else rule.local_of s h) (apart h.0 g.0 other)

  -- the phase of each is as before
  phase_at : (h : Gxid) (b : Bool) → eqb h.0 g.0 ≡ b → (rule.local_of after h).phase ≡ (rule.local_of s h).phase
  phase_at h true e = subst (λ (k : Gxid). (rule.local_of after k).phase ≡ (rule.local_of s k).phase) (same_gxid g h e) (ap (λ (l : rule.Local). l.phase) itself_at ∙ same_phase)
  phase_at h false e = ap (λ (l : rule.Local). l.phase) (other_at h (differ h.0 g.0 e))

  low : (h : Gxid) → after.horizon.0 ≤ h.0 → before.horizon.0 ≤ h.0
  low h up = subst (λ (k : Gxid). k.0 ≤ h.0) horizon up

  dropped : (h : Gxid) → h.0 < before.horizon.0 → entry_at new h ≡ None
  dropped h under = now.entries h (below_other h.0 g.0 before.horizon.0 under alive) ∙ was.dropped h under

  locals : (h : Gxid) → after.horizon.0 ≤ h.0 → (b : Bool) → eqb h.0 g.0 ≡ b → local_in (entry_at new h) ≡ rule.local_of after h
  locals h up true e = subst (λ (k : Gxid). local_in (entry_at new k) ≡ rule.local_of after k) (same_gxid g h e) (now.local_is ∙ sym itself_at)
  locals h up false e =
      let other = differ h.0 g.0 e in ap local_in (now.entries h other) ∙ was.locals h (low h up) ∙ sym (other_locals h other) ∙ sym (other_at h other)

  rows : (h : Gxid) → after.horizon.0 ≤ h.0 → (b : Bool) → eqb h.0 g.0 ≡ b → rows_in (entry_at new h) ≡ kept_of after h
  rows h up true e = subst (λ (k : Gxid). rows_in (entry_at new k) ≡ kept_of after k) (same_gxid g h e) now.rows_are
  rows h up false e = let other = differ h.0 g.0 e in ap rows_in (now.entries h other) ∙ was.kept h (low h up) ∙ sym (other_rows h other)

  holds : (h : Gxid) (b : Bool) → eqb h.0 g.0 ≡ b → contains gxid_cmp new.holders h ≡ holds_locks (rule.local_of after h)
  holds h true e =
      subst (λ (k : Gxid). contains gxid_cmp new.holders k ≡ holds_locks (rule.local_of after k)) (same_gxid g h e) (now.holds ∙ sym (ap holds_locks itself_at))
  holds h false e =
      let other = differ h.0 g.0 e in now.holders h other ∙ was.holders h ∙ ap holds_locks (sym (other_locals h other) ∙ sym (other_at h other))

  came : nat_lt 0 local.last ≡ true → (h : Gxid) (b : Bool) → eqb h.0 g.0 ≡ b → has_version s h ≡ true → nat_lt 0 (rule.local_of after h).last ≡ true
  came here h true e there = subst (λ (k : Gxid). nat_lt 0 (rule.local_of after k).last ≡ true) (same_gxid g h e) (ap (λ (l : rule.Local). nat_lt 0 l.last) itself_at ∙ here)
  came here h false e there =
      let other = differ h.0 g.0 e in
      ap (λ (l : rule.Local). nat_lt 0 l.last) (other_at h other ∙ other_locals h other) ∙ was.came h (sym (other_versions h other) ∙ there)

  writers_at : AreWriters (record s { locks = locks }) → AreWriters after
  writers_at writers = record {
    low = λ h under there. ap has_ended (phase_at h (eqb h.0 g.0) refl) ∙ writers.low h under there;
    own = λ h holds. ap (λ (p : Phase). has_version s h && not (has_ended p)) (phase_at h (eqb h.0 g.0) refl) ∙ writers.own h holds;
  }

  -- so is what is left of each row
  aborted_as : (v : Version) → has_aborted s v ≡ true → has_aborted after v ≡ true
  aborted_as v e = ap (λ (p : Phase). not (rule.is_unaborted p)) (phase_at v.gxid (eqb v.gxid.0 g.0) refl) ∙ e

  settled_as : (v : Version) → is_settled s v ≡ true → is_settled after v ≡ true
  settled_as v e = ap (λ (p : Phase). has_committed p && is_below s.horizon v.gxid) (phase_at v.gxid (eqb v.gxid.0 g.0) refl) ∙ e

  told_as : (w : Write) (v : Version) → IsOf s w v → IsOf after w v
  told_as w v its = record {
    writer = its.writer;
    cid = its.cid;
    image = its.image;
    committed = its.committed ∙ ap has_committed (sym (phase_at v.gxid (eqb v.gxid.0 g.0) refl));
    unaborted = its.unaborted ∙ ap rule.is_unaborted (sym (phase_at v.gxid (eqb v.gxid.0 g.0) refl));
  }

  pub IsHeld-now : nat_lt 0 local.last ≡ true → new.locks ≡ locks → AreOwn locks.holds → AreWriters (record s { locks = locks }) → AreWaits tables after → All (λ v. IsTrue (is_right_version tables v)) s.versions → IsHeld tables new after
  IsHeld-now new_one locks_are owned writers waits typed = record {
    horizon = stored.horizon;
    locals = λ h up. locals h up (eqb h.0 g.0) refl;
    kept = λ h up. rows h up (eqb h.0 g.0) refl;
    dropped = λ h under. dropped h (subst (λ (k : Gxid). h.0 < k.0) horizon under);
    holders = λ h. holds h (eqb h.0 g.0) refl;
    writes = λ table rid. left-weaker (IsOf s) (IsOf after) (has_aborted s) (is_settled s) (has_aborted after) (is_settled after) aborted_as settled_as told_as (writes_of new.store table rid) (filter (is_of_row table rid) s.versions) (stored.writes table rid);
    wrote = stored.wrote;
    committed = λ h up. stored.committed h up ∙ ap (λ (p : Phase). has_version s h && has_committed p) (sym (phase_at h (eqb h.0 g.0) refl));
    unaborted = λ h up. stored.unaborted h up ∙ ap (λ (p : Phase). has_version s h && rule.is_unaborted p) (sym (phase_at h (eqb h.0 g.0) refl));
    came = λ h there. came new_one h (eqb h.0 g.0) refl there;
    writers = writers_at writers;
    typed = typed;
    locks = locks_are;
    owned = owned;
    waits = waits;
  }

-- an entry is put back, that of a transaction which is open
module _ (old mid new : Held) (g : Gxid) (c : Cid) (entry : Entry) (taken : (h : Gxid) → h.0 ≢ g.0 → entry_at mid h ≡ entry_at old h) (holders : mid.holders ≡ old.holders) (back : IsBack mid new g c entry) where
  pub IsNow-back : (local : rule.Local) (rows : List Kept) → local_of entry.local ≡ local → entry.kept ≡ rows → is_open local.phase ≡ true → local.last ≡ c.0 → IsNow old new g local rows
  IsNow-back local rows here kept open_here last = record {
    local_is = ap local_in back.here ∙ here;
    rows_are = ap rows_in back.here ∙ kept;
    entries = λ h other. back.entries h other ∙ taken h other;
    holds = back.holds ∙ sym (ap (λ (b : Bool). nat_lt 0 local.last && not b) (open_not_ended local.phase open_here) ∙ and_true (nat_lt 0 local.last) ∙ ap (nat_lt 0) last);
    holders = λ h other. back.holders h other ∙ ap (λ hs. contains gxid_cmp hs h) holders;
  }

  pub IsStored-back : (s : Seg) → IsStored mid.store s → IsStored new.store s
  IsStored-back s stored = subst (λ (store : Store). IsStored store s) (sym back.store) stored

-- its command is answered, or waits at a row
module _ (tables : List Schema) (old first mid new : Held) (before s : Seg) (g : Gxid) (c : Cid) (entry : Entry) (was : IsHeld tables old before) (fresh : nat_lt 0 c.0 ≡ true) (is : IsApart before first mid entry g s) (taken : (h : Gxid) → h.0 ≢ g.0 → entry_at first h ≡ entry_at old h) (holders : first.holders ≡ old.holders) (typed : All (λ v. IsTrue (is_right_version tables v)) s.versions) where
  still_taken : (h : Gxid) → h.0 ≢ g.0 → entry_at mid h ≡ entry_at old h
  still_taken h other = ap (λ es. entry_at (record mid { entries = es }) h) is.entries ∙ taken h other

  module _ (entry' : Entry) (told : rule.Local) (back : IsBack mid new g c entry') (local : local_of entry'.local ≡ told) (kept : entry'.kept ≡ entry.kept) (phase : told.phase ≡ (rule.local_of s g).phase) (last : told.last ≡ c.0) where
    told_at : rule.local_of (with_local s g told) g ≡ told
    told_at = ap (λ (b : Bool). if b then told else rule.local_of s g) (itself g.0)

    beside : (h : Gxid) → h.0 ≢ g.0 → rule.local_of (with_local s g told) h ≡ rule.local_of before h
    beside h other = ap (λ (b : Bool). if b then told else rule.local_of s h) (apart h.0 g.0 other) ∙ is.other_locals h other

    alive : before.horizon.0 ≤ g.0
    alive = subst (λ (k : Gxid). k.0 ≤ g.0) is.horizon is.alive

    -- who waits afterwards
    waits : list_any (is_of g) s.locks.waits ≡ is_waiting told → ((w : Suspended) → told.suspended ≡ Some w → IsRightWait tables (with_local s g told) g w) → AreWaits tables (with_local s g told)
    waits own fits =
        AreWaits-one tables before (with_local s g told) g was.waits is.horizon beside is.other_waits (own ∙ sym (ap is_waiting told_at))
        (λ w e. fits w (sym (ap (λ (l : rule.Local). l.suspended) told_at) ∙ e))

    pub IsHeld-back : list_any (is_of g) s.locks.waits ≡ is_waiting told → ((w : Suspended) → told.suspended ≡ Some w → IsRightWait tables (with_local s g told) g w) → IsHeld tables new (with_local s g told)
    IsHeld-back own fits =
        IsHeld-now tables old new before s g told s.locks was alive (IsStored-back old mid new g c entry' still_taken (is.holders ∙ holders) back s is.stored) is.horizon is.other_locals is.other_rows is.other_versions
        (IsNow-back old mid new g c entry' still_taken (is.holders ∙ holders) back told (kept_of s g) local (kept ∙ is.kept) (ap is_open phase ∙ is.open_here) last)
        phase
        (ap (nat_lt 0) last ∙ fresh)
        (back.locks ∙ is.locks)
        is.owned
        is.writers
        (waits own fits)
        typed

  -- with its answer
  pub IsHeld-answered : (r : Reply) → is_waiting (rule.local_of before g) ≡ false → list_any (is_of g) s.locks.waits ≡ false → IsBack mid new g c (answered entry c r) → IsHeld tables new (with_local s g (record (rule.local_of s g) { last = c.0; answer = Some r }))
  IsHeld-answered r free none back =
      let told : rule.Local = record (rule.local_of s g) { last = c.0; answer = Some r } in
      let waits_not = is.waiting ∙ free in
      IsHeld-back (answered entry c r) told back (ap (λ (l : rule.Local). let m : rule.Local = record l { last = c.0; answer = Some r } in m) is.local) refl refl refl
      (none ∙ sym waits_not) (λ w e. absurd (never (rule.local_of s g).suspended w waits_not e))
