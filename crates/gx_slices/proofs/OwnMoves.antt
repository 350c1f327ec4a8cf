-- Who holds itself, where other locks change; and other locks of the command's own transaction, while its entry is apart.
use Rattle.std.proofs.Common.{◌≡◌, ◌≢◌, Bool, true, false, eqb, if◌then◌else◌, not, ◌&&◌, ◌||◌, List, [], ◌∷◌, ◌++◌, Option, Some, None, filter, refl, sym, ap, ◌∙◌}
use Rattle.std.proofs.lemmas.List.Folds.{list_any-append}
use Rattle.std.specs.List.{list_any}
use Rattle.gx_ids.specs.declared.ids.Gxid.{Gxid}
use Rattle.gx_modes.specs.Table.{number_of}
use Rattle.gx_modes.specs.declared.modes.Mode.TheVariants.{Exclusive}
use Rattle.gx_waits.specs.Claim.{same_claim, same_object}
use Rattle.gx_waits.specs.declared.claim.Claim.{Claim}
use Rattle.gx_waits.specs.declared.object.Object.{Object}
use Rattle.gx_waits.specs.declared.object.Object.TheVariants.{Relation, Transaction, Tuple}
use Rattle.gx_locks.specs.Locks.{Locks, resumed, wait_of}
use Rattle.gx_waits.specs.Claims.{with_claim, without, without_claim}
use Rattle.gx_node.specs.Locking.{granted_locks, is_on_transaction, unless_end}
use Rattle.gx_rules.specs.Segments.{Phase, Reading, Writing, Prepared, Committed, Forgotten, Aborted, Seg}
use Rattle.gx_rules.specs.Slices.{own_lock}
use Rattle.gx_slices.specs.Agrees.{AreWriters}
use Rattle.gx_slices.specs.Apart.{IsApart}
use Rattle.gx_slices.specs.Owning.{AreOwn, own_locks}
use Rattle.gx_slices.specs.declared.held.Entry.{Entry}
use Rattle.gx_slices.specs.declared.held.Held.{Held}
use Rattle.gx_slices.proofs.Owning.{without-held}

-- WHO HOLDS ITSELF
and-no : (a : Bool) → (a && false) ≡ false
and-no true = refl
and-no false = refl

not-own : (h : Gxid) (o : Object) (a b : Bool) → is_on_transaction o ≡ false → (a && (same_object (Transaction h) o && b)) ≡ false
not-own h (Relation table) a b e = and-no a
not-own h (Tuple rid) a b e = and-no a
not-own h (Transaction other) a b e = absurd (cc)

-- a lock on no transaction is nobody's own
unowned : (h : Gxid) (claim : Claim) → is_on_transaction claim.object ≡ false → same_claim (own_lock h) claim ≡ false
unowned h claim e = not-own h claim.object (eqb h.0 claim.gxid.0) (eqb (number_of Exclusive) (number_of claim.mode)) e

any-held : (p : Claim → Bool) (holds : List Claim) (claim : Claim) → p claim ≡ false → list_any p (with_claim claim holds) ≡ list_any p holds
any-held p holds claim e = either (list_any (same_claim claim) holds)
  where
    or-no : (b : Bool) → (b || (false || false)) ≡ b
    or-no true = refl
    or-no false = refl

    either : (b : Bool) → list_any p (if b then holds else holds ++ claim ∷ []) ≡ list_any p holds
    either true = refl
    either false = list_any-append p holds (claim ∷ []) ∙ ap (λ (b : Bool). list_any p holds || (b || false)) e ∙ or-no (list_any p holds)

any-filter : (p q : Claim → Bool) (holds : List Claim) → list_any p (filter q holds) ≡ true → list_any p holds ≡ true
any-filter p q [] e = e
any-filter p q (x ∷ xs) e = either (q x) (any-filter p q xs) e
  where
    or-right : (a b : Bool) → b ≡ true → (a || b) ≡ true
    or-right true b e = refl
    or-right false b e = e

    or-same : (a b c : Bool) → (b ≡ true → c ≡ true) → (a || b) ≡ true → (a || c) ≡ true
    or-same true b c f e = refl
    or-same false b c f e = f e

    either : (b : Bool) → (list_any p (filter q xs) ≡ true → list_any p xs ≡ true) → list_any p (if b then x ∷ filter q xs else filter q xs) ≡ true → (p x || list_any p xs) ≡ true
    either true more e = or-same (p x) (list_any p (filter q xs)) (list_any p xs) more e
    either false more e = or-right (p x) (list_any p xs) (more e)

-- another's own lock
own-other : (h g : Gxid) → eqb h.0 g.0 ≡ false → same_claim (own_lock h) (own_lock g) ≡ false
own-other h g e = ap (λ (b : Bool). b && (eqb h.0 g.0 && eqb (number_of Exclusive) (number_of Exclusive))) e

pub any-own_locks : (h g : Gxid) (p : Phase) (locks : Locks) → eqb h.0 g.0 ≡ false → list_any (same_claim (own_lock h)) (own_locks g p locks).holds ≡ list_any (same_claim (own_lock h)) locks.holds
any-own_locks h g Reading locks e = any-held (same_claim (own_lock h)) locks.holds (own_lock g) (own-other h g e)
any-own_locks h g Writing locks e = refl
any-own_locks h g Prepared locks e = refl
any-own_locks h g Committed locks e = refl
any-own_locks h g (Forgotten committed) locks e = refl
any-own_locks h g Aborted locks e = refl

module _ (s : Seg) (was : AreWriters s) (locks : Locks) where
  pub AreWriters-locks : ((h : Gxid) → list_any (same_claim (own_lock h)) locks.holds ≡ true → list_any (same_claim (own_lock h)) s.locks.holds ≡ true) → AreWriters (record s { locks = locks })
  AreWriters-locks less = record { low = was.low; own = λ h e. was.own h (less h e) }

-- somebody waits
pub AreWriters-waits : (s : Seg) → AreWriters s → (waits : List Claim) → AreWriters (record s { locks = record s.locks { waits = waits } })
AreWriters-waits s was waits = AreWriters-locks s was (record s.locks { waits = waits }) (λ h e. e)

-- a lock on no transaction is taken, and a lock is given back
module _ (s : Seg) (was : AreWriters s) (claim : Claim) (waits : List Claim) where
  pub AreWriters-held : is_on_transaction claim.object ≡ false → AreWriters (record s { locks = record s.locks { holds = with_claim claim s.locks.holds; waits = waits } })
  AreWriters-held on_none =
      AreWriters-locks s was (record s.locks { holds = with_claim claim s.locks.holds; waits = waits })
      (λ h e. sym (any-held (same_claim (own_lock h)) s.locks.holds claim (unowned h claim on_none)) ∙ e)

  pub AreWriters-without : AreWriters (record s { locks = record s.locks { holds = without_claim claim s.locks.holds; waits = waits } })
  AreWriters-without =
      AreWriters-locks s was (record s.locks { holds = without_claim claim s.locks.holds; waits = waits })
      (λ h e. any-filter (same_claim (own_lock h)) (λ other. not (same_claim claim other)) s.locks.holds e)

-- what was waited for is granted, and another's end is given back at once
module _ (s : Seg) (was : AreWriters s) (g : Gxid) (wait : Claim) where
  abbrev given : Object → Locks
  given o = unless_end wait o (resumed s.locks g (Some wait))

  by_object : (o : Object) → wait.object ≡ o → AreWriters (record s { locks = given o })
  by_object (Relation table) e = AreWriters-held s was wait (without g s.locks.waits) (ap is_on_transaction e)
  by_object (Tuple rid) e = AreWriters-held s was wait (without g s.locks.waits) (ap is_on_transaction e)
  by_object (Transaction other) e =
      AreWriters-locks s was (given (Transaction other))
      (λ h f. any-filter (same_claim (own_lock h)) (λ one. not (same_claim wait one)) s.locks.holds (ap (list_any (same_claim (own_lock h))) (sym (without-held wait s.locks.holds)) ∙ f))

pub AreWriters-granted : (s : Seg) → AreWriters s → (g : Gxid) (wait : Option Claim) → AreWriters (record s { locks = granted_locks s.locks g wait })
AreWriters-granted s was g None = was
AreWriters-granted s was g (Some wait) = by_object s was g wait wait.object refl

-- APART
module _ (start : Seg) (first now : Held) (entry : Entry) (g : Gxid) (s : Seg) (is : IsApart start first now entry g s) where
  pub IsApart-locks : (locks : Locks) → AreOwn locks.holds → AreWriters (record s { locks = locks }) → ((h : Gxid) → h.0 ≢ g.0 → wait_of locks h ≡ wait_of s.locks h) → IsApart start first (record now { locks = locks }) entry g (record s { locks = locks })
  IsApart-locks locks owned writers waits = record {
    stored = record { horizon = is.stored.horizon; writes = is.stored.writes; wrote = is.stored.wrote; committed = is.stored.committed; unaborted = is.stored.unaborted };
    locks = refl;
    entries = is.entries;
    holders = is.holders;
    local = is.local;
    kept = is.kept;
    open_here = is.open_here;
    node = is.node;
    horizon = is.horizon;
    owned = owned;
    alive = is.alive;
    writers = writers;
    waiting = is.waiting;
    other_waits = λ h other. waits h other ∙ is.other_waits h other;
    other_locals = is.other_locals;
    other_rows = is.other_rows;
    other_versions = is.other_versions;
  }
