-- What is held, with a slice that waits for its table, and with one that waits no more.
use Rattle.std.proofs.Common.{◌≡◌, ◌≢◌, ◌≤◌, Bool, true, false, if◌then◌else◌, List, [], ◌∷◌, ◌++◌, Option, Some, None, refl, sym, ap, ◌∙◌, subst}
use Rattle.std.specs.List.{list_any}
use Rattle.std.specs.BTreeSet.{contains}
use Rattle.std.specs.Prelude.{find, is_some, nat_lt, option_map}
use Rattle.gx_dsnap.specs.Gxids.{gxid_cmp}
use Rattle.gx_ids.specs.declared.ids.Gxid.{Gxid}
use Rattle.gx_tree.specs.declared.schema.Schema.{Schema}
use Rattle.gx_waits.specs.declared.claim.Claim.{Claim}
use Rattle.gx_waits.specs.declared.object.Object.{Object}
use Rattle.gx_waits.specs.declared.object.Object.TheVariants.{Relation, Transaction, Tuple}
use Rattle.gx_waits.specs.Claims.{is_of, without}
use Rattle.gx_locks.specs.Locks.{Locks, is_ready, may_take, resumed, wait_of}
use Rattle.gx_node.specs.Locking.{granted_locks, unless_end}
use Rattle.gx_node.specs.Phases as code_of
use Rattle.gx_node.specs.Phases.{suspended_of}
use Rattle.gx_node.specs.declared.local.Suspended as code
use Rattle.gx_rules.specs.Fits.{is_waiting}
use Rattle.gx_rules.specs.Locks.{with_wait}
use Rattle.gx_rules.specs.Segments.{Local, Seg, Suspended, local_of, with_local}
use Rattle.gx_rules.specs.Shown.{kept_of}
use Rattle.gx_slices.specs.Agrees.{IsHeld, entry_at, local_in, rows_in}
use Rattle.gx_slices.specs.Apart.{IsStored}
use Rattle.gx_slices.specs.Ran.{MayGoOn}
use Rattle.gx_slices.specs.Store.{Store}
use Rattle.gx_slices.specs.Suspensions.{HasSuspended, HasWoken, suspended}
use Rattle.gx_slices.specs.Waiting.{AreWaits, IsRightWait, is_open}
use Rattle.gx_slices.specs.declared.held.Held.{Held}
use Rattle.gx_slices.proofs.Closing.{IsHeld-now, IsNow-back, IsStored-held, no-wait}
use Rattle.gx_slices.proofs.Gxids.{apart, itself}
use Rattle.gx_slices.proofs.OwnMoves.{AreWriters-granted, AreWriters-waits}
use Rattle.gx_slices.proofs.Owning.{AreOwn-granted}
use Rattle.gx_slices.proofs.Waiting.{AreWaits-free, AreWaits-one, find-more, find-others, find-own, waits-found, waits-without}

-- with another record of one transaction
module _ (s : Seg) (g : Gxid) (l : Local) where
  pub own_at : local_of (with_local s g l) g ≡ l
  own_at = ap (λ (b : Bool). if b then l else local_of s g) (itself g.0)

  pub other_at : (h : Gxid) → h.0 ≢ g.0 → local_of (with_local s g l) h ≡ local_of s h
  other_at h other = ap (λ (b : Bool). if b then l else local_of s h) (apart h.0 g.0 other)

-- IT WAITS
module _ (tables : List Schema) (held locked new : Held) (s : Seg) (g : Gxid) (w : code.Suspended) (wanted : Claim) (was : IsHeld tables held s) (may : MayGoOn tables s g (suspended_of w)) (own : wanted.gxid ≡ g) (entries : locked.entries ≡ held.entries) (holders : locked.holders ≡ held.holders) (store : locked.store ≡ held.store) (locks : locked.locks ≡ with_wait s.locks wanted) (did : HasSuspended locked new g w) where
  abbrev waiting : Local
  waiting = record (local_of s g) { last = w.cid.0; answer = None; suspended = Some (suspended_of w) }

  abbrev after : Seg
  after = record (with_local s g waiting) { locks = with_wait s.locks wanted }

  at_other : (h : Gxid) → h.0 ≢ g.0 → h.0 ≢ wanted.gxid.0
  at_other h other = λ e. other (e ∙ ap (λ (k : Gxid). k.0) own)

  its_wait : wait_of after.locks g ≡ Some wanted
  its_wait = find-own g s.locks.waits wanted (ap (λ (k : Gxid). is_of g (record wanted { gxid = k })) own ∙ itself g.0) (no-wait tables held s g was may.may.free)

  waits-after : AreWaits tables after
  waits-after =
      AreWaits-one tables s after g was.waits refl (other_at s g waiting) (λ h other. find-more h s.locks.waits wanted (at_other h other))
      (waits-found (is_of g) after.locks.waits ∙ ap (λ (o : Option Claim). is_some o) its_wait ∙ sym (ap is_waiting (own_at s g waiting)))
      (λ v e. subst (IsRightWait tables after g) (same (suspended_of w) v (sym (ap (λ (l : Local). l.suspended) (own_at s g waiting)) ∙ e)) (record {
        alive = may.may.alive;
        open_here = ap (λ (l : Local). is_open l.phase) (own_at s g waiting) ∙ may.may.open_here;
        came = ap (λ (l : Local). nat_lt 0 l.last) (own_at s g waiting) ∙ may.may.new;
        reads = may.may.reads;
        right = may.may.right;
        new = may.may.new;
        room = may.room;
      }))
    where
      same : (x y : Suspended) → Some x ≡ Some y → x ≡ y
      same x y e = ap (λ (o : Option Suspended). in_some o) e
        where
          in_some : Option Suspended → Suspended
          in_some None = x
          in_some (Some z) = z

  entries_at : (h : Gxid) → entry_at locked h ≡ entry_at held h
  entries_at h = ap (λ es. entry_at (record locked { entries = es }) h) entries

  pub IsHeld-suspended : IsHeld tables new after
  IsHeld-suspended =
      let entry = did.entry in
      let local = did.local ∙ ap local_in (entries_at g) ∙ was.locals g may.may.alive in
      IsHeld-now tables held new s s g waiting (with_wait s.locks wanted) was may.may.alive
      (subst (λ (x : Store). IsStored x s) (sym (did.back.store ∙ store)) (IsStored-held tables held s was)) refl (λ h other. refl) (λ h other. refl) (λ h other. refl)
      (IsNow-back held locked new g w.cid (suspended entry w) (λ h other. entries_at h) holders did.back waiting (kept_of s g)
      (ap (λ (l : Local). let m : Local = record l { last = w.cid.0; answer = None; suspended = Some (suspended_of w) } in m) local) (did.kept ∙ ap rows_in (entries_at g) ∙ was.kept g may.may.alive) may.may.open_here refl)
      refl may.may.new (did.back.locks ∙ locks) was.owned (AreWriters-waits s was.writers (s.locks.waits ++ wanted ∷ [])) waits-after was.typed

-- IT WAITS NO MORE
module _ (tables : List Schema) (old woke : Held) (s : Seg) (g : Gxid) (waiting : Option code.Suspended) (was : IsHeld tables old s) (ready : may_take s.locks g ≡ true) (did : HasWoken old woke g waiting) where
  abbrev pub awake : Local → Local
  awake l = record l { suspended = None }

  -- what it has waited for is granted
  abbrev pub granted : Seg
  granted = record (with_local s g (awake (local_of s g))) { locks = granted_locks s.locks g (wait_of s.locks g) }

  -- its slice
  slice-waits : is_waiting (local_of s g) ≡ true
  slice-waits = sym (was.waits.standing g) ∙ either (wait_of s.locks g) refl ready
    where
      either : (o : Option Claim) → wait_of s.locks g ≡ o → is_ready s.locks o ≡ true → list_any (is_of g) s.locks.waits ≡ true
      either None e f = absurd (cc)
      either (Some claim) e f = waits-found (is_of g) s.locks.waits ∙ ap (λ (o : Option Claim). is_some o) e

  its_right : (w : Suspended) → (local_of s g).suspended ≡ Some w → IsRightWait tables s g w
  its_right = was.waits.right g

  its_alive : s.horizon.0 ≤ g.0
  its_alive = by_slice (local_of s g).suspended refl slice-waits
    where
      by_slice : (o : Option Suspended) → (local_of s g).suspended ≡ o → is_some o ≡ true → s.horizon.0 ≤ g.0
      by_slice None e f = absurd (cc)
      by_slice (Some v) e f = (its_right v e).alive

  its_last : nat_lt 0 (local_of s g).last ≡ true
  its_last = by_slice (local_of s g).suspended refl slice-waits
    where
      by_slice : (o : Option Suspended) → (local_of s g).suspended ≡ o → is_some o ≡ true → nat_lt 0 (local_of s g).last ≡ true
      by_slice None e f = absurd (cc)
      by_slice (Some v) e f = (its_right v e).came

  its_local : code_of.local_of did.entry.local ≡ local_of s g
  its_local = did.local ∙ was.locals g its_alive

  pub suspended-woken : option_map suspended_of waiting ≡ (local_of s g).suspended
  suspended-woken = ap (option_map suspended_of) did.waiting ∙ ap (λ (l : Local). l.suspended) its_local

  -- there is one
  pub found-woken : waiting ≡ None → ⊥
  found-woken none = never (ap (λ (x : Option Suspended). is_some x) (ap (option_map suspended_of) (sym none) ∙ suspended-woken) ∙ slice-waits)
    where
      never : false ≡ true → ⊥
      never f = cc

  -- its wait
  emptied : (granted_locks s.locks g (wait_of s.locks g)).waits ≡ without g s.locks.waits
  emptied = either (wait_of s.locks g) ready
    where
      by_object : (claim : Claim) (o : Object) → (unless_end claim o (resumed s.locks g (Some claim))).waits ≡ without g s.locks.waits
      by_object claim (Relation table) = refl
      by_object claim (Tuple rid) = refl
      by_object claim (Transaction other) = refl

      either : (o : Option Claim) → is_ready s.locks o ≡ true → (granted_locks s.locks g o).waits ≡ without g s.locks.waits
      either None f = absurd (cc)
      either (Some claim) f = by_object claim claim.object

  waits-free : AreWaits tables granted
  waits-free =
      AreWaits-free tables s granted g was.waits refl (other_at s g (awake (local_of s g))) (λ h other. ap (find (is_of h)) emptied ∙ find-others g h s.locks.waits other)
      (ap (list_any (is_of g)) emptied ∙ waits-without g s.locks.waits) (ap is_waiting (own_at s g (awake (local_of s g))))

  pub IsHeld-granted : (now : Locks) → now ≡ granted_locks woke.locks g (wait_of woke.locks g) → IsHeld tables (record woke { locks = now }) granted
  IsHeld-granted now same =
      IsHeld-now tables old (record woke { locks = now }) s s g (awake (local_of s g)) (granted_locks s.locks g (wait_of s.locks g)) was its_alive
      (subst (λ (x : Store). IsStored x s) (sym did.store) (IsStored-held tables old s was)) refl (λ h other. refl) (λ h other. refl) (λ h other. refl)
      (record {
        local_is = ap local_in did.here ∙ ap awake its_local;
        rows_are = ap rows_in did.here ∙ did.kept ∙ was.kept g its_alive;
        entries = did.entries;
        holds = ap (λ hs. contains gxid_cmp hs g) did.holders ∙ was.holders g;
        holders = λ h other. ap (λ hs. contains gxid_cmp hs h) did.holders;
      })
      refl its_last (same ∙ ap (λ (l : Locks). granted_locks l g (wait_of l g)) (did.locks ∙ was.locks)) (AreOwn-granted s.locks g (wait_of s.locks g) was.owned)
      (AreWriters-granted s was.writers g (wait_of s.locks g)) waits-free was.typed

  -- it may go on
  pub MayGoOn-granted : (w : code.Suspended) → waiting ≡ Some w → MayGoOn tables granted g (suspended_of w)
  MayGoOn-granted w some =
      let right = its_right (suspended_of w) (sym suspended-woken ∙ ap (option_map suspended_of) some) in
      record {
        may =
            record {
              alive = its_alive;
              open_here = ap (λ (l : Local). is_open l.phase) (own_at s g (awake (local_of s g))) ∙ right.open_here;
              free = ap is_waiting (own_at s g (awake (local_of s g)));
              reads = right.reads;
              right = right.right;
              new = right.new;
            };
        room = right.room;
      }
