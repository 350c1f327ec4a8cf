-- A transaction is held by itself alone, so its own lock is free for it.
use Rattle.std.proofs.Common.{◌≡◌, ℕ, Bool, true, false, if◌then◌else◌, eqb, not, ◌&&◌, ◌||◌, ◌++◌, List, [], ◌∷◌, Option, Some, None, filter, append-nil, refl, sym, ap, ◌∙◌, arith}
use Rattle.std.proofs.lemmas.Bool.Decides.{nat_tests}
use Rattle.std.proofs.lemmas.List.Elements.{filter-append}
use Rattle.std.proofs.lemmas.List.Folds.{list_all-append}
use Rattle.std.specs.List.{list_all, list_any}
use Rattle.gx_ids.specs.declared.ids.Gxid.{Gxid}
use Rattle.gx_modes.specs.Table.{conflict, number_of}
use Rattle.gx_modes.specs.declared.modes.Mode.TheVariants.{Exclusive}
use Rattle.gx_waits.specs.Claim.{meets, same_claim, same_object}
use Rattle.gx_waits.specs.declared.claim.Claim.{Claim}
use Rattle.gx_waits.specs.declared.object.Object.{Object}
use Rattle.gx_waits.specs.declared.object.Object.TheVariants.{Relation, Transaction, Tuple}
use Rattle.gx_locks.specs.Locks.{Locks, resumed}
use Rattle.gx_waits.specs.Claims.{is_free, with_claim, without_claim}
use Rattle.gx_node.specs.Locking.{granted_locks, is_on_transaction, unless_end}
use Rattle.gx_store.specs.declared.mark.Mark.{Mark}
use Rattle.gx_rules.specs.Segments.{Phase, Reading, Writing, Prepared, Committed, Forgotten, Aborted}
use Rattle.gx_rules.specs.Slices.{Moved, own_lock, takes_own}
use Rattle.gx_slices.specs.Owning.{AreOwn, is_own, is_own_on, own_locks, own_marks}
use Rattle.gx_slices.proofs.Gxids.{itself}
use Rattle.gx_slices.proofs.Lists.{and_parts}

-- IT IS FREE
not-met : (a k h : ℕ) (b : Bool) → eqb k h ≡ true → (not (eqb a h) && (eqb a k && b)) ≡ false
not-met a k h b e = grind (arith, nat_tests)

and-false : (b : Bool) → (b && false) ≡ false
and-false true = refl
and-false false = refl

own-unmet : (g h : Gxid) (o : Object) (b : Bool) → is_own_on h o ≡ true → (not (eqb g.0 h.0) && (same_object (Transaction g) o && b)) ≡ false
own-unmet g h (Relation table) b e = and-false (not (eqb g.0 h.0))
own-unmet g h (Tuple rid) b e = and-false (not (eqb g.0 h.0))
own-unmet g h (Transaction k) b e = not-met g.0 k.0 h.0 b e

none-met : (g : Gxid) (holds : List Claim) → AreOwn holds → list_any (meets (own_lock g)) holds ≡ false
none-met g [] own = refl
none-met g (hold ∷ holds) own =
    let parts = and_parts (is_own hold) (list_all is_own holds) own in
    both (meets (own_lock g) hold) (list_any (meets (own_lock g)) holds) (own-unmet g hold.gxid hold.object (conflict Exclusive hold.mode) parts.0) (none-met g holds parts.1)
  where
    both : (a b : Bool) → a ≡ false → b ≡ false → (a || b) ≡ false
    both true b e f = e
    both false b e f = f

pub free-own : (g : Gxid) (holds : List Claim) → AreOwn holds → is_free holds (own_lock g) ≡ true
free-own g holds own = ap not (none-met g holds own)

-- IT STAYS SO
pub AreOwn-held : (holds : List Claim) (claim : Claim) → is_own claim ≡ true → AreOwn holds → AreOwn (with_claim claim holds)
AreOwn-held holds claim own all = either (list_any (same_claim claim) holds)
  where
    one_more : (a b : Bool) → a ≡ true → b ≡ true → (a && (b && true)) ≡ true
    one_more true true e f = refl
    one_more true false e f = f
    one_more false b e f = e

    either : (b : Bool) → AreOwn (if b then holds else holds ++ claim ∷ [])
    either true = all
    either false = list_all-append is_own holds (claim ∷ []) ∙ one_more (list_all is_own holds) (is_own claim) all own

pub AreOwn-filter : (p : Claim → Bool) (holds : List Claim) → AreOwn holds → AreOwn (filter p holds)
AreOwn-filter p [] own = refl
AreOwn-filter p (hold ∷ holds) own =
    let parts = and_parts (is_own hold) (list_all is_own holds) own in either (p hold) parts.0 (AreOwn-filter p holds parts.1)
  where
    either : (b : Bool) → is_own hold ≡ true → AreOwn (filter p holds) → AreOwn (if b then hold ∷ filter p holds else filter p holds)
    either true e more = ap (λ (a : Bool). a && list_all is_own (filter p holds)) e ∙ more
    either false e more = more

-- a lock on no transaction is nobody's own
pub is_own-unless : (g : Gxid) (o : Object) → is_on_transaction o ≡ false → is_own_on g o ≡ true
is_own-unless g (Relation table) e = refl
is_own-unless g (Tuple rid) e = refl
is_own-unless g (Transaction other) e = absurd (cc)

all-three : (a b c : Bool) → a ≡ true → b ≡ true → c ≡ true → (a && (b && c)) ≡ true
all-three true true true e f g = refl
all-three true true false e f g = g
all-three true false c e f g = f
all-three false b c e f g = e

same_object-itself : (o : Object) → same_object o o ≡ true
same_object-itself (Relation table) = itself table.0
same_object-itself (Tuple rid) = all-three _ _ _ (itself rid.gxid.0) (itself rid.cid.0) (itself rid.ordinal)
same_object-itself (Transaction g) = itself g.0

same_claim-itself : (claim : Claim) → same_claim claim claim ≡ true
same_claim-itself claim = all-three _ _ _ (itself claim.gxid.0) (same_object-itself claim.object) (itself (number_of claim.mode))

-- a claim that is granted and given back at once
pub without-held : (claim : Claim) (holds : List Claim) → without_claim claim (with_claim claim holds) ≡ without_claim claim holds
without-held claim holds = either (list_any (same_claim claim) holds)
  where
    either : (b : Bool) → without_claim claim (if b then holds else holds ++ claim ∷ []) ≡ without_claim claim holds
    either true = refl
    either false =
        filter-append (λ other. not (same_claim claim other)) holds (claim ∷ [])
        ∙ ap (λ (b : Bool). without_claim claim holds ++ (if not b then claim ∷ [] else [])) (same_claim-itself claim)
        ∙ append-nil (without_claim claim holds)

-- what was waited for is granted, and another's end is given back at once
pub AreOwn-granted : (locks : Locks) (g : Gxid) (wait : Option Claim) → AreOwn locks.holds → AreOwn (granted_locks locks g wait).holds
AreOwn-granted locks g None own = own
AreOwn-granted locks g (Some wait) own = by_object wait.object refl
  where
    by_object : (o : Object) → wait.object ≡ o → AreOwn (unless_end wait o (resumed locks g (Some wait))).holds
    by_object (Relation table) e = AreOwn-held locks.holds wait (ap (is_own_on wait.gxid) e) own
    by_object (Tuple rid) e = AreOwn-held locks.holds wait (ap (is_own_on wait.gxid) e) own
    by_object (Transaction other) e =
        ap (λ (hs : List Claim). list_all is_own hs) (without-held wait locks.holds) ∙ AreOwn-filter (λ one. not (same_claim wait one)) locks.holds own

-- THE WRITER'S LOCK
pub is_own-own_lock : (g : Gxid) → is_own (own_lock g) ≡ true
is_own-own_lock g = itself g.0

pub AreOwn-own_locks : (g : Gxid) (p : Phase) (locks : Locks) → AreOwn locks.holds → AreOwn (own_locks g p locks).holds
AreOwn-own_locks g Reading locks own = AreOwn-held locks.holds (own_lock g) (is_own-own_lock g) own
AreOwn-own_locks g Writing locks own = own
AreOwn-own_locks g Prepared locks own = own
AreOwn-own_locks g Committed locks own = own
AreOwn-own_locks g (Forgotten committed) locks own = own
AreOwn-own_locks g Aborted locks own = own

pub waits-own_locks : (g : Gxid) (p : Phase) (locks : Locks) → (own_locks g p locks).waits ≡ locks.waits
waits-own_locks g Reading locks = refl
waits-own_locks g Writing locks = refl
waits-own_locks g Prepared locks = refl
waits-own_locks g Committed locks = refl
waits-own_locks g (Forgotten committed) locks = refl
waits-own_locks g Aborted locks = refl

-- what taking it makes of the segment
abbrev pub with_own : Gxid → Phase → Moved → Moved
with_own g p m = record { seg = record m.seg { locks = own_locks g p m.seg.locks }; marks = m.marks ++ own_marks m.seg.node g p }

same-marks : (m : Moved) → m ≡ record m { marks = m.marks ++ [] }
same-marks m = ap (λ (ms : List Mark). let n : Moved = record m { marks = ms } in n) (sym (append-nil m.marks))

pub takes_own-with : (g : Gxid) (p : Phase) (m : Moved) → takes_own g p m ≡ with_own g p m
takes_own-with g Reading m = refl
takes_own-with g Writing m = same-marks m
takes_own-with g Prepared m = same-marks m
takes_own-with g Committed m = same-marks m
takes_own-with g (Forgotten committed) m = same-marks m
takes_own-with g Aborted m = same-marks m
