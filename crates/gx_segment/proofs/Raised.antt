-- A segment whose horizon has risen.
use Rattle.std.proofs.Common.{◌≡◌, ◌≤◌, ◌<◌, ℕ, Bool, true, false, if◌then◌else◌, None, Some, List, refl, sym, ap, ◌∙◌, subst, arith}
use Rattle.std.proofs.lemmas.Bool.Decides.{nat_tests}
use Rattle.std.specs.BTreeMap.{get}
use Rattle.std.specs.BTreeSet.{contains}
use Rattle.std.specs.Prelude.{◌&&◌, not, nat_lt, filter, is_some, option_and_then}
use Rattle.gx_ids.specs.declared.ids.Gxid.{Gxid}
use Rattle.gx_tree.specs.declared.schema.Schema.{Schema}
use Rattle.gx_dsnap.specs.Gxids.{gxid_cmp, is_below}
use Rattle.gx_rows.specs.Counts.{is_committed}
use Rattle.gx_rows.specs.Rows.{is_unaborted}
use Rattle.gx_rows.specs.Xids.{kept}
use Rattle.gx_rules.specs.AtSegment.{raised}
use Rattle.gx_rules.specs.Fits.{holds_locks}
use Rattle.gx_rules.specs.Maps.{each_below}
use Rattle.gx_rules.specs.Segments as rule
use Rattle.gx_rules.specs.Segments.{Phase, Reading, Writing, Prepared, Committed, Forgotten, Aborted, Seg, Version, has_committed, has_ended, local_of}
use Rattle.gx_slices.specs.Agrees.{AreWriters, IsHeld, has_version, local_in, rows_in}
use Rattle.gx_slices.specs.Left.{AreLeft, IsOf, has_aborted, is_of_row, is_settled}
use Rattle.gx_slices.specs.Store.{IsRaised, Store, Write, forgotten, greater, passes, status_of, writes_of}
use Rattle.gx_slices.specs.Waiting.{AreWaits, is_open}
use Rattle.gx_slices.specs.declared.held.Held.{Held}
use Rattle.gx_slices.proofs.Left.{left-mapped}
use Rattle.gx_segment.proofs.Below.{each_below-none, each_below-one}
use Rattle.gx_segment.proofs.Keeping.{raised-rises}

open-holds : (p : Phase) (last : ℕ) → is_open p ≡ true → nat_lt 0 last ≡ true → not (nat_lt 0 last && not (has_ended p)) ≡ false
open-holds Reading last e came = ap (λ (b : Bool). not (b && true)) came
open-holds Writing last e came = ap (λ (b : Bool). not (b && true)) came
open-holds Prepared last e came = absurd (cc)
open-holds Committed last e came = absurd (cc)
open-holds (Forgotten committed) last e came = absurd (cc)
open-holds Aborted last e came = absurd (cc)

module _ (tables : List Schema) (s : Seg) (h : Gxid) (was : AreWaits tables s) (nobody : each_below h.0 (λ n. not (holds_locks (s.locals n))) ≡ true) where
  -- nobody who waits is below it
  above : (g : Gxid) → not (holds_locks (local_of s g)) ≡ false → h.0 ≤ g.0
  above g holds = by_test (nat_lt g.0 h.0) refl
    where
      differ : each_below h.0 (λ n. not (holds_locks (s.locals n))) ≡ false → ⊥
      differ e = cc

      by_test : (b : Bool) → nat_lt g.0 h.0 ≡ b → h.0 ≤ g.0
      by_test true e = absurd (differ (each_below-none h.0 g.0 (λ n. not (holds_locks (s.locals n))) (grind (arith, nat_tests)) holds))
      by_test false e = grind (arith, nat_tests)

  alive-raised : (g : Gxid) → s.horizon.0 ≤ g.0 → h.0 ≤ g.0 → (raised s h).horizon.0 ≤ g.0
  alive-raised g alive e = grind (arith, nat_tests)

  pub AreWaits-raised : AreWaits tables (raised s h)
  AreWaits-raised = record {
    standing = was.standing;
    right = λ g w e.
        let is = was.right g w e in
        record { alive = alive-raised g is.alive (above g (open-holds (local_of s g).phase (local_of s g).last is.open_here is.came)); open_here = is.open_here; came = is.came; reads = is.reads; right = is.right; new = is.new; room = is.room };
  }

-- who has written and is below it has ended
module _ (s : Seg) (h : Gxid) (was : AreWriters s) (came : (g : Gxid) → has_version s g ≡ true → nat_lt 0 (local_of s g).last ≡ true) (nobody : each_below h.0 (λ n. not (holds_locks (s.locals n))) ≡ true) where
  has-ended : (last ended : Bool) → last ≡ true → not (last && not ended) ≡ true → ended ≡ true
  has-ended true true e f = refl
  has-ended true false e f = absurd (cc)
  has-ended false ended e f = absurd (cc)

  under : (g : Gxid) → g.0 < h.0 → has_version s g ≡ true → has_ended (local_of s g).phase ≡ true
  under g low wrote =
      has-ended (nat_lt 0 (local_of s g).last) (has_ended (local_of s g).phase) (came g wrote) (each_below-one h.0 g.0 (λ n. not (holds_locks (s.locals n))) low nobody)

  by-horizon : (g : Gxid) (b : Bool) → is_below h s.horizon ≡ b → g.0 < (let z : Gxid = if b then h else s.horizon in z).0 → has_version s g ≡ true → has_ended (local_of s g).phase ≡ true
  by-horizon g true e low wrote = under g low wrote
  by-horizon g false e low wrote = was.low g low wrote

  pub AreWriters-raised : AreWriters (raised s h)
  AreWriters-raised = record { low = λ g low wrote. by-horizon g (is_below h s.horizon) refl low wrote; own = was.own }

-- what is held then, from what was done
module _ (tables : List Schema) (held held' : Held) (s : Seg) (h : Gxid) (was : IsHeld tables held s) (waits : AreWaits tables (raised s h)) (writers : AreWriters (raised s h)) (store : IsRaised held.store h held'.store) (horizon' : Gxid) (risen : horizon' ≡ greater s.horizon h) where
  same : horizon' ≡ (raised s h).horizon
  same = risen

  low : (g : Gxid) → (raised s h).horizon.0 ≤ g.0 → s.horizon.0 ≤ g.0
  low g up = let rises = raised-rises s h in omega (arith, up, rises)

  high : (g : Gxid) → (raised s h).horizon.0 ≤ g.0 → horizon'.0 ≤ g.0
  high g up = subst (λ (k : Gxid). k.0 ≤ g.0) (sym same) up

  -- who is settled stays so
  settled-raised : (v : Version) → is_settled s v ≡ true → is_settled (raised s h) v ≡ true
  settled-raised v is = let rises = raised-rises s h in still_below (has_committed (local_of s v.gxid).phase) v.gxid.0 s.horizon.0 (raised s h).horizon.0 rises is
    where
      still_below : (c : Bool) (n a b : ℕ) → a ≤ b → (c && nat_lt n a) ≡ true → (c && nat_lt n b) ≡ true
      still_below true n a b up e = grind (arith, nat_tests)
      still_below false n a b up e = absurd (cc)

  from_h : (g : Gxid) → (raised s h).horizon.0 ≤ g.0 → h.0 ≤ g.0
  from_h g up = by (is_below h s.horizon) refl up
    where
      by : (b : Bool) → is_below h s.horizon ≡ b → (let z : Gxid = if b then h else s.horizon in z).0 ≤ g.0 → h.0 ≤ g.0
      by true e up = up
      by false e up = grind (arith, nat_tests, e, up)

  -- who made a write is told from the higher horizon on
  kept_twice : (v : Version) → option_and_then (kept h) (kept s.horizon v.gxid) ≡ kept (raised s h).horizon v.gxid
  kept_twice v = twice s.horizon v.gxid (is_below h s.horizon) refl (nat_lt v.gxid.0 s.horizon.0) refl
    where
      under_both : (a g : Gxid) → nat_lt a.0 h.0 ≡ true → nat_lt g.0 a.0 ≡ true → nat_lt g.0 h.0 ≡ true
      under_both a g e f = grind (arith, nat_tests, e, f)

      over_both : (a g : Gxid) → nat_lt a.0 h.0 ≡ false → nat_lt g.0 a.0 ≡ false → nat_lt g.0 h.0 ≡ false
      over_both a g e f = grind (arith, nat_tests, e, f)

      mid : (a g : Gxid) (b : Bool) → nat_lt a.0 h.0 ≡ b → (c : Bool) → nat_lt g.0 a.0 ≡ c → option_and_then (kept h) (if c then None else Some g) ≡ kept (if b then h else a) g
      mid a g true e true f = sym (ap (λ (b : Bool). if b then None else Some g) (under_both a g e f))
      mid a g true e false f = refl
      mid a g false e true f = sym (ap (λ (b : Bool). if b then None else Some g) f)
      mid a g false e false f = ap (λ (b : Bool). if b then None else Some g) (over_both a g e f) ∙ sym (ap (λ (b : Bool). if b then None else Some g) f)

      twice : (a g : Gxid) (b : Bool) → nat_lt a.0 h.0 ≡ b → (c : Bool) → nat_lt g.0 a.0 ≡ c → option_and_then (kept h) (kept a g) ≡ kept (if nat_lt a.0 h.0 then h else a) g
      twice a g b e c f =
          ap (λ (c : Bool). option_and_then (kept h) (if c then None else Some g)) f
          ∙ mid a g b e c f
          ∙ sym (ap (λ (b : Bool). kept (if b then h else a) g) e)

  told-raised : (w : Write) (v : Version) → IsOf s w v → IsOf (raised s h) (forgotten h w) v
  told-raised w v its = record {
    writer = ap (option_and_then (kept h)) its.writer ∙ kept_twice v;
    cid = its.cid;
    image = its.image;
    committed = its.committed;
    unaborted = its.unaborted;
  }

  pub IsHeld-raised : ((g : Gxid) → horizon'.0 ≤ g.0 → get gxid_cmp held'.entries g ≡ get gxid_cmp held.entries g) → ((g : Gxid) → g.0 < horizon'.0 → get gxid_cmp held'.entries g ≡ None) → held'.holders ≡ held.holders → held'.locks ≡ held.locks → IsHeld tables held' (raised s h)
  IsHeld-raised entries dropped holders locks = record {
    horizon = store.horizon_is ∙ ap (λ (k : Gxid). greater k h) was.horizon;
    locals = λ g up. ap local_in (entries g (high g up)) ∙ was.locals g (low g up);
    kept = λ g up. ap rows_in (entries g (high g up)) ∙ was.kept g (low g up);
    dropped = λ g under. dropped g (subst (λ (k : Gxid). g.0 < k.0) (sym same) under);
    holders = λ g. ap (λ hs. contains gxid_cmp hs g) holders ∙ was.holders g;
    writes = λ table rid.
        subst (λ (ws : List Write). AreLeft (raised s h) table rid ws) (sym (store.writes table rid))
        (left-mapped (IsOf s) (IsOf (raised s h)) (has_aborted s) (is_settled s) (has_aborted (raised s h)) (is_settled (raised s h)) (λ v e. e) settled-raised (forgotten h) told-raised (writes_of held.store table rid) (filter (is_of_row table rid) s.versions) (was.writes table rid));
    wrote = λ g up. ap is_some (store.status g (from_h g up)) ∙ was.wrote g (low g up);
    committed = λ g up. ap (passes is_committed) (store.status g (from_h g up)) ∙ was.committed g (low g up);
    unaborted = λ g up. ap (passes is_unaborted) (store.status g (from_h g up)) ∙ was.unaborted g (low g up);
    came = was.came;
    writers = writers;
    typed = was.typed;
    locks = locks ∙ was.locks;
    owned = was.owned;
    waits = waits;
  }

-- the store's horizon is that of the data
pub seg-raised : (s : Seg) (h : Gxid) (store store' : Store) → store.horizon ≡ s.horizon → IsRaised store h store' → raised s h ≡ record s { horizon = store'.horizon }
seg-raised s h store store' e risen =
    sym (ap (λ (k : Gxid). let x : Seg = record s { horizon = k } in x) (risen.horizon_is ∙ ap (λ (k : Gxid). greater k h) e))
