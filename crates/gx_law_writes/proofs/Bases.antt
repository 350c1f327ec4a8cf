-- The segment on which a command runs: from its EXEC, from the end of its wait for its table, or at a row.
use Rattle.std.proofs.Common.{◌≡◌, ◌∙◌, ℕ, ◌≤◌, List, [], ◌∷◌, None, Bool, true, false, refl, ap, sym, if◌then◌else◌, eqb, arith, append-nil}
use Rattle.std.proofs.lemmas.Bool.Decides.{nat_tests}
use Rattle.std.specs.List.{list_any}
use Rattle.gx_ids.specs.declared.ids.Cid.{Cid}
use Rattle.gx_ids.specs.declared.ids.Gxid.{Gxid}
use Rattle.gx_ids.specs.declared.ids.Table.{Table}
use Rattle.gx_dsnap.specs.Gxids.{is_below}
use Rattle.gx_waits.specs.Claim.{same_claim}
use Rattle.gx_waits.specs.Claims.{with_claim}
use Rattle.gx_waits.specs.declared.claim.Claim.{Claim}
use Rattle.gx_waits.specs.declared.object.Object.{Object}
use Rattle.gx_waits.specs.declared.object.Object.TheVariants.{Relation, Transaction, Tuple}
use Rattle.gx_store.specs.declared.mark.Mark.{Mark}
use Rattle.gx_store.specs.Marks.{is_same_gxid}
use Rattle.gx_rules.specs.AtSegment.{raised}
use Rattle.gx_rules.specs.Locks.{hold_mark, with_hold}
use Rattle.gx_rules.specs.Running.{is_granted, unless_end}
use Rattle.gx_rules.specs.Segments.{Local, Seg, local_of, with_local}
use Rattle.gx_rules.specs.Slices.{own_lock, starts_from}
use Rattle.gx_law_order.proofs.SegItems.{writes_at}
use Rattle.gx_law_order.proofs.Waiting.{freed}
use Rattle.gx_law_order.specs.Pairs.{is_open}
use Rattle.gx_law_writes.proofs.Frames.{Inv, held-other, local-other, local-own, lock-less, no-version, unlike-owner}
use Rattle.gx_law_writes.proofs.VersionsTold.{IsOn}

-- HORIZONS
pub raised-same : (s : Seg) (h : Gxid) → h.0 ≤ s.horizon.0 → (raised s h).horizon ≡ s.horizon
raised-same s h l = ap (λ (b : Bool). if b then h else s.horizon) (not-above s.horizon.0 h.0 l)
  where
    not-above : (a b : ℕ) → b ≤ a → is_below (record { 0 = b }) (record { 0 = a }) ≡ false
    not-above a b l = grind (arith, nat_tests)

self-gxid : (g : Gxid) → is_same_gxid g g ≡ true
self-gxid g = grind (arith, nat_tests)

owner-self : (claim : Claim) (g : Gxid) → claim.gxid ≡ g → is_same_gxid claim.gxid g ≡ true
owner-self claim g e = ap (λ h. is_same_gxid h g) e ∙ self-gxid g

-- a lock of its own more leaves the others' locks
own-holds : (holds : List Claim) (g : Gxid) (wanted : Claim) → wanted.gxid ≡ g → (h : Gxid) → is_same_gxid h g ≡ false
    → list_any (same_claim (own_lock h)) (with_claim wanted holds) ≡ list_any (same_claim (own_lock h)) holds
own-holds holds g wanted e h other = held-other wanted (own_lock h) holds (unlike-owner h wanted.gxid g other (owner-self wanted g e))

-- FROM ITS EXEC
pub started-on : (s : Seg) (g horizon : Gxid) (wanted : Claim) → wanted.gxid ≡ g → IsOn s g horizon (record (raised s horizon) { locks = with_hold s.locks wanted })
started-on s g horizon wanted e = record { node = refl; versions = refl; at = refl; phases = λ h. refl; holds = own-holds s.locks.holds g wanted e }

-- FROM THE END OF ITS WAIT
phase-by : (s : Seg) (g : Gxid) (l : Local) → l.phase ≡ (local_of s g).phase → (h : Gxid) → (local_of (with_local s g l) h).phase ≡ (local_of s h).phase
phase-by s g l e h = by_test (eqb h.0 g.0) refl
  where
    same : (h g : ℕ) → eqb h g ≡ true → g ≡ h
    same h g e = grind (arith, nat_tests)

    by_test : (b : Bool) → eqb h.0 g.0 ≡ b → (if b then l else s.locals h.0).phase ≡ (s.locals h.0).phase
    by_test true q = e ∙ ap (λ n. (s.locals n).phase) (same h.0 g.0 q)
    by_test false q = refl

pub freed-on : (s : Seg) (g horizon : Gxid) (wanted : Claim) → wanted.gxid ≡ g → horizon.0 ≤ s.horizon.0 → IsOn s g horizon (freed s g wanted)
freed-on s g horizon wanted e low =
    record {
      node = refl;
      versions = refl;
      at = sym (raised-same s horizon low);
      phases = phase-by s g (record (local_of s g) { suspended = None }) refl;
      holds = own-holds s.locks.holds g wanted e;
    }

-- AT A ROW
pub rests-on : (s : Seg) (g horizon : Gxid) → horizon.0 ≤ s.horizon.0 → IsOn s g horizon s
rests-on s g horizon low = record { node = refl; versions = refl; at = sym (raised-same s horizon low); phases = λ h. refl; holds = λ h other. refl }

-- the beginning of the loop, on the segment itself
pub none-done : (s : Seg) (before : List Mark) (g : Gxid) (c : Cid) (table : Table) → s.versions ≡ writes_at s.node before → is_open (local_of s g).phase ≡ true → (local_of s g).suspended ≡ None → Inv s before g c table (starts_from s)
none-done s before g c table versions opens alone =
    record {
      node = refl;
      horizon = refl;
      versions = versions ∙ ap (writes_at s.node) (sym (append-nil before));
      added = record { own = []; is = sym (append-nil s.versions); mine = tt };
      others = λ h e. refl;
      opens = opens;
      alone = alone;
      holds = λ h e. refl;
      work = tt;
      rows = tt;
    }

-- what it has waited for is granted
pub granted-inv : (s : Seg) (before : List Mark) (g : Gxid) (c : Cid) (table : Table) (wanted : Claim) → wanted.gxid ≡ g → s.versions ≡ writes_at s.node before → is_open (local_of s g).phase ≡ true → Inv s before g c table (is_granted s g wanted)
granted-inv s before g c table wanted e versions opens = by_object wanted.object held
  where
    rest : Local
    rest = record (local_of s g) { suspended = None }

    held : Inv s before g c table (record { seg = freed s g wanted; marks = hold_mark s.node wanted ∷ [] })
    held =
        record {
          node = refl;
          horizon = refl;
          versions = versions ∙ ap (writes_at s.node) (sym (append-nil before)) ∙ no-version s.node before [] (hold_mark s.node wanted) refl;
          added = record { own = []; is = sym (append-nil s.versions); mine = tt };
          others = λ h other. local-other s g h rest other;
          opens = ap (λ (l : Local). is_open l.phase) (local-own s g rest) ∙ opens;
          alone = ap (λ (l : Local). l.suspended) (local-own s g rest);
          holds = own-holds s.locks.holds g wanted e;
          work = (tt, tt);
          rows = (tt, tt);
        }

    by_object : (o : Object) → Inv s before g c table (record { seg = freed s g wanted; marks = hold_mark s.node wanted ∷ [] })
        → Inv s before g c table (unless_end wanted o (record { seg = freed s g wanted; marks = hold_mark s.node wanted ∷ [] }))
    by_object (Transaction other) f = lock-less s before g c table _ wanted (owner-self wanted g e) f
    by_object (Relation t) f = f
    by_object (Tuple r) f = f
