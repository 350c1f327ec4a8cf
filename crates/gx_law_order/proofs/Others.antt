-- Marks of one session and one transaction, and what they say of the others.
use Rattle.std.proofs.Common.{◌≡◌, ◌<◌, ◌≤◌, ℕ, ◌+◌, List, [], ◌∷◌, ◌++◌, Option, Some, None, Bool, true, false, refl, sym, ap, ◌∙◌, ◌||◌, ◌&&◌, if◌then◌else◌, arith, eqb, append-nil}
use Rattle.std.proofs.lemmas.List.{append_assoc}
use Rattle.std.proofs.lemmas.Bool.Decides.{nat_tests}
use Rattle.gx_lemmas.proofs.Lists.{get-append}
use Rattle.gx_ids.specs.declared.ids.Cid.{Cid}
use Rattle.gx_ids.specs.declared.ids.Gxid.{Gxid}
use Rattle.gx_ids.specs.declared.ids.SessionId.{SessionId}
use Rattle.gx_tree.specs.declared.stmt.Level.{Level}
use Rattle.gx_tree.specs.declared.stmt.Level.TheVariants.{ReadCommitted, RepeatableRead}
use Rattle.gx_dsnap.specs.declared.snapshot.Snapshot.{Snapshot}
use Rattle.gx_store.specs.declared.mark.Mark.{Mark}
use Rattle.gx_store.specs.declared.mark.Mark.TheVariants as mark
use Rattle.gx_store.specs.Marks.{answer_count, has_snapshot, is_aborted, is_committed, is_ended, is_same_gxid, is_snapped, session_of}
use Rattle.gx_store.proofs.Marks.{has_snapshot-append, is_ended-append, is_snapped-append}
use Rattle.gx_law_order.specs.Lists.{Each}
use Rattle.gx_law_order.specs.Scanned.{began_from}
use Rattle.gx_law_order.specs.Standing.{HasSnapshot, IsTaken}
use Rattle.gx_law_order.proofs.Said.{CalmFor}

abbrev pub IsOf : ℕ → ℕ → Mark → Type 0
IsOf s g (mark.Start h t) = (t.0 ≡ s) × (h.0 ≡ g)
IsOf s g (mark.Answer t n a) = t.0 ≡ s
IsOf s g (mark.Snap h c x) = h.0 ≡ g
IsOf s g (mark.Commit h) = h.0 ≡ g
IsOf s g (mark.Abort h) = h.0 ≡ g
IsOf s g _ = Unit {0}

apart-left : (a b c : ℕ) → a ≡ b → eqb c b ≡ false → eqb a c ≡ false
apart-left a b c e f = grind (arith, nat_tests)

pub of-calm : (s g : ℕ) (k : SessionId) (ms : List Mark) → eqb k.0 s ≡ false → Each (IsOf s g) ms → Each (CalmFor k) ms
of-calm s g k [] n e = tt
of-calm s g k (mark.Start h t ∷ ms) n e = (apart-left t.0 s k.0 e.0.0 n, of-calm s g k ms n e.1)
of-calm s g k (mark.Answer t i a ∷ ms) n e = (apart-left t.0 s k.0 e.0 n, of-calm s g k ms n e.1)
of-calm s g k (m ∷ ms) n e = (tt, of-calm s g k ms n e.1)

of-committed : (s g : ℕ) (h : Gxid) (ms : List Mark) → eqb h.0 g ≡ false → Each (IsOf s g) ms → is_committed ms h ≡ false
of-committed s g h [] n e = refl
of-committed s g h (mark.Commit j ∷ ms) n e = ap (λ q. q || is_committed ms h) (apart-left j.0 g h.0 e.0 n) ∙ of-committed s g h ms n e.1
of-committed s g h (m ∷ ms) n e = of-committed s g h ms n e.1

of-aborted : (s g : ℕ) (h : Gxid) (ms : List Mark) → eqb h.0 g ≡ false → Each (IsOf s g) ms → is_aborted ms h ≡ false
of-aborted s g h [] n e = refl
of-aborted s g h (mark.Abort j ∷ ms) n e = ap (λ q. q || is_aborted ms h) (apart-left j.0 g h.0 e.0 n) ∙ of-aborted s g h ms n e.1
of-aborted s g h (m ∷ ms) n e = of-aborted s g h ms n e.1

pub of-ended : (s g : ℕ) (h : Gxid) (ms : List Mark) → eqb h.0 g ≡ false → Each (IsOf s g) ms → is_ended ms h ≡ false
of-ended s g h ms n e = ap (λ q. q || is_aborted ms h) (of-committed s g h ms n e) ∙ of-aborted s g h ms n e

pub of-snapshot : (s g : ℕ) (h : Gxid) (ms : List Mark) → eqb h.0 g ≡ false → Each (IsOf s g) ms → has_snapshot ms h ≡ false
of-snapshot s g h [] n e = refl
of-snapshot s g h (mark.Snap j c x ∷ ms) n e = ap (λ q. q || has_snapshot ms h) (apart-left j.0 g h.0 e.0 n) ∙ of-snapshot s g h ms n e.1
of-snapshot s g h (m ∷ ms) n e = of-snapshot s g h ms n e.1

pub of-unstarted : (s g : ℕ) (h : Gxid) (ms : List Mark) → eqb h.0 g ≡ false → Each (IsOf s g) ms → session_of ms h ≡ None
of-unstarted s g h [] n e = refl
of-unstarted s g h (mark.Start j t ∷ ms) n e = ap (λ q. if q then Some t else session_of ms h) (apart-left j.0 g h.0 e.0.1 n) ∙ of-unstarted s g h ms n e.1
of-unstarted s g h (m ∷ ms) n e = of-unstarted s g h ms n e.1

-- without any snapshot of the transaction none of its commands has one
pub unsnapped : (ms : List Mark) (g : Gxid) (c : Cid) → has_snapshot ms g ≡ false → is_snapped ms g c ≡ false
unsnapped [] g c e = refl
unsnapped (mark.Snap j d x ∷ ms) g c e = both (is_same_gxid j g) (eqb d.0 c.0) (has_snapshot ms g) (is_snapped ms g c) e (λ f. unsnapped ms g c f)
  where
    both : (a b q r : Bool) → (a || q) ≡ false → (q ≡ false → r ≡ false) → ((a && b) || r) ≡ false
    both true b q r f h = absurd (differ f)
      where
        differ : true ≡ false → ⊥
        differ z = cc
    both false b q r f h = h f
unsnapped (m ∷ ms) g c e = unsnapped ms g c e

or-false : (a b c : Bool) → a ≡ (b || c) → b ≡ false → c ≡ false → a ≡ false
or-false a b c e f h = grind arith

-- MORE MARKS
pub ended-more : (ms ns : List Mark) (g : Gxid) → is_ended ms g ≡ false → is_ended ns g ≡ false → is_ended (ms ++ ns) g ≡ false
ended-more ms ns g e f = or-false _ _ _ (is_ended-append ms ns g) e f

pub snapshot-more : (ms ns : List Mark) (g : Gxid) → has_snapshot ms g ≡ false → has_snapshot ns g ≡ false → has_snapshot (ms ++ ns) g ≡ false
snapshot-more ms ns g e f = or-false _ _ _ (has_snapshot-append ms ns g) e f

pub snapped-more : (ms ns : List Mark) (g : Gxid) (c : Cid) → is_snapped ms g c ≡ false → is_snapped ns g c ≡ false → is_snapped (ms ++ ns) g c ≡ false
snapped-more ms ns g c e f = or-false _ _ _ (is_snapped-append ms ns g c) e f

pub taken-more : (ms ns : List Mark) (g : Gxid) (x : Snapshot) → IsTaken ms g x → IsTaken (ms ++ ns) g x
taken-more ms ns g x t = record { place = t.place; d = t.d; taken = get-append ms ns t.place (mark.Snap g t.d x) t.taken }

pub keeps-snapshot : (level : Level) (ms ns : List Mark) (g : Gxid) (x : Option Snapshot) → HasSnapshot level ms g x → has_snapshot ns g ≡ false → HasSnapshot level (ms ++ ns) g x
keeps-snapshot ReadCommitted ms ns g x h n = h
keeps-snapshot RepeatableRead ms ns g None h n = snapshot-more ms ns g h n
keeps-snapshot RepeatableRead ms ns g (Some x) h n = taken-more ms ns g x h

pub unstarted-more : (ms ns : List Mark) (g : Gxid) → session_of ms g ≡ None → session_of ns g ≡ None → session_of (ms ++ ns) g ≡ None
unstarted-more [] ns g e f = f
unstarted-more (mark.Start h t ∷ ms) ns g e f = by_test (is_same_gxid h g) e (λ q. unstarted-more ms ns g q f)
  where
    by_test : (q : Bool) → (if q then Some t else session_of ms g) ≡ None → (session_of ms g ≡ None → session_of (ms ++ ns) g ≡ None) → (if q then Some t else session_of (ms ++ ns) g) ≡ None
    by_test true e r = absurd (cc)
    by_test false e r = r e
unstarted-more (m ∷ ms) ns g e f = unstarted-more ms ns g e f

-- WHERE A TRANSACTION BEGAN
pub began-kept : (before xs ys : List Mark) (g : Gxid) (z : SessionId × ℕ) → began_from before xs g ≡ Some z → began_from before (xs ++ ys) g ≡ Some z
began-kept before [] ys g z e = absurd (none e)
  where
    none : (let o : Option (SessionId × ℕ) = None in o) ≡ Some z → ⊥
    none q = cc
began-kept before (mark.Start h s ∷ xs) ys g z e = by_test (is_same_gxid h g) e (λ q. began-kept (before ++ mark.Start h s ∷ []) xs ys g z q)
  where
    by_test : (q : Bool) → (if q then Some (s, answer_count s before + 1) else began_from (before ++ mark.Start h s ∷ []) xs g) ≡ Some z → (began_from (before ++ mark.Start h s ∷ []) xs g ≡ Some z → began_from (before ++ mark.Start h s ∷ []) (xs ++ ys) g ≡ Some z) → (if q then Some (s, answer_count s before + 1) else began_from (before ++ mark.Start h s ∷ []) (xs ++ ys) g) ≡ Some z
    by_test true e r = e
    by_test false e r = r e
began-kept before (m ∷ xs) ys g z e = began-kept (before ++ m ∷ []) xs ys g z e

-- it begins behind marks that don't start it
pub began-behind : (before xs ys : List Mark) (g : Gxid) → session_of xs g ≡ None → began_from before (xs ++ ys) g ≡ began_from (before ++ xs) ys g
began-behind before [] ys g e = ap (λ m. began_from m ys g) (sym (append-nil before))
began-behind before (mark.Start h s ∷ xs) ys g e = by_test (is_same_gxid h g) e (λ q. began-behind (before ++ mark.Start h s ∷ []) xs ys g q ∙ ap (λ m. began_from m ys g) (append_assoc before (mark.Start h s ∷ []) xs))
  where
    by_test : (q : Bool) → (if q then Some s else session_of xs g) ≡ None → (session_of xs g ≡ None → began_from (before ++ mark.Start h s ∷ []) (xs ++ ys) g ≡ began_from (before ++ mark.Start h s ∷ xs) ys g) → (if q then Some (s, answer_count s before + 1) else began_from (before ++ mark.Start h s ∷ []) (xs ++ ys) g) ≡ began_from (before ++ mark.Start h s ∷ xs) ys g
    by_test true e r = absurd (cc)
    by_test false e r = r e
began-behind before (m ∷ xs) ys g e = began-behind (before ++ m ∷ []) xs ys g e ∙ ap (λ z. began_from z ys g) (append_assoc before (m ∷ []) xs)

-- WHO ISN'T DRAWN YET
-- the marks tell nothing of transactions from this number on
pub record Fresh (ms : List Mark) (next : ℕ) : Type 0 where
  pub unended : (h : Gxid) → next ≤ h.0 → is_ended ms h ≡ false
  pub unread : (h : Gxid) → next ≤ h.0 → has_snapshot ms h ≡ false
  pub unstarted : (h : Gxid) → next ≤ h.0 → session_of ms h ≡ None

pub fresh-more : (ms ns : List Mark) (next later : ℕ) → Fresh ms next → next ≤ later → Fresh ns later → Fresh (ms ++ ns) later
fresh-more ms ns next later f l n =
    record { unended = λ h m. ended-more ms ns h (f.unended h (le-trans l m)) (n.unended h m); unread = λ h m. snapshot-more ms ns h (f.unread h (le-trans l m)) (n.unread h m); unstarted = λ h m. unstarted-more ms ns h (f.unstarted h (le-trans l m)) (n.unstarted h m) }
  where
    le-trans : {a b d : ℕ} → a ≤ b → b ≤ d → a ≤ d
    le-trans x y = omega arith

pub of-fresh : (s g next : ℕ) (ms : List Mark) → g < next → Each (IsOf s g) ms → Fresh ms next
of-fresh s g next ms l e = record { unended = λ h m. of-ended s g h ms (apart h.0 m) e; unread = λ h m. of-snapshot s g h ms (apart h.0 m) e; unstarted = λ h m. of-unstarted s g h ms (apart h.0 m) e }
  where
    apart : (h : ℕ) → next ≤ h → eqb h g ≡ false
    apart h m = grind (arith, nat_tests)
