-- Whose writes are settled at a segment: by its own lock, who has written a row there has ended there.
use Rattle.std.proofs.Common.{◌≡◌, ◌⊎◌, inl, inr, List, [], ◌∷◌, Some, Bool, true, false, not, refl, ap, ◌∙◌, cond, ◌&&◌, ◌||◌, arith}
use Rattle.std.specs.List.{list_any}
use Rattle.std.proofs.lemmas.List.Sorted.{IsPermutation-reverse, list_any-IsPermutation}
use Rattle.std.specs.Prelude.{find, reverse}
use Rattle.gx_lemmas.proofs.Numbers.{eqb-self}
use Rattle.gx_lemmas.proofs.Options.{some-same}
use Rattle.gx_lemmas.proofs.Tests.{and-second}
use Rattle.gx_ids.specs.declared.ids.Gxid.{Gxid}
use Rattle.gx_ids.specs.declared.rid.Rid.{Rid}
use Rattle.gx_locks.proofs.Filed.{find-passes}
use Rattle.gx_store.specs.Marks.{is_same_gxid, is_same_rid}
use Rattle.gx_rules.specs.Changes.{Change, is_settled}
use Rattle.gx_rules.specs.Segments.{Phase, Version, has_ended, is_unaborted, local_of}
use Rattle.gx_rules.specs.Segments.Phase.{Aborted, Committed, Forgotten, Prepared, Reading, Writing}
use Rattle.gx_rules.specs.Shown.{is_current}
use Rattle.gx_rules.specs.Slices.{Moved, is_holding, own_lock}
use Rattle.gx_rules.specs.Visits.{IsSettled}
use Rattle.gx_law_order.proofs.OwnLocks.{WritersLock, has_version}

-- a version that is found was written there
found-any : (p q : Version → Bool) (vs : List Version) (v : Version) → find p vs ≡ Some v → q v ≡ true → list_any q vs ≡ true
found-any p q [] v e f = absurd (cc)
found-any p q (u ∷ us) v e f = by_test (p u) e (found-any p q us v)
  where
    or-true : (a : Bool) → (a || true) ≡ true
    or-true true = refl
    or-true false = refl

    by_test : (b : Bool) → cond b (Some u) (find p us) ≡ Some v → (find p us ≡ Some v → q v ≡ true → list_any q us ≡ true) → (q u || list_any q us) ≡ true
    by_test true e more = ap (λ b. b || list_any q us) (ap q (some-same u v e) ∙ f)
    by_test false e more = ap (λ b. q u || b) (more e f) ∙ or-true (q u)

found-there : (p : Version → Bool) (vs : List Version) (v : Version) → find p (reverse vs) ≡ Some v → has_version v.gxid.0 vs ≡ true
found-there p vs v e =
    list_any-IsPermutation (λ (u : Version). is_same_gxid u.gxid v.gxid) vs (reverse vs) (IsPermutation-reverse vs)
    ∙ found-any p (λ (u : Version). is_same_gxid u.gxid v.gxid) (reverse vs) v e (eqb-self v.gxid.0)

-- Who has written there, and whose own lock isn't held by it, has ended there.
pub settled-ended : (m : Moved) (g writer : Gxid) → WritersLock m.seg → is_settled m g writer ≡ true → has_version writer.0 m.seg.versions ≡ true
    → (is_same_gxid writer g ≡ true) ⊎ (has_ended (local_of m.seg writer).phase ≡ true)
settled-ended m g writer k e written = by_test (is_same_gxid writer g) refl
  where
    other : (a b c d : Bool) → a ≡ false → (a || not b) ≡ true → b ≡ c && not d → c ≡ true → d ≡ true
    other a b c d f e s w = grind arith

    by_test : (b : Bool) → is_same_gxid writer g ≡ b → (is_same_gxid writer g ≡ true) ⊎ (has_ended (local_of m.seg writer).phase ≡ true)
    by_test true f = inl f
    by_test false f = inr (other (is_same_gxid writer g) (is_holding m (own_lock writer)) (has_version writer.0 m.seg.versions) _ f e (k.each writer.0).holds written)

-- So a row's current version is the command's own, or was committed by one who is forgotten.
pub settled-writer : (m : Moved) (g : Gxid) (k : Change) (rid : Rid) (v : Version) → WritersLock m.seg → IsSettled m g k rid v
    → (is_same_gxid v.gxid g ≡ true) ⊎ ((local_of m.seg v.gxid).phase ≡ Forgotten true)
settled-writer m g k rid v w s = by_end (settled-ended m g v.gxid w s.settled (found-there (is_current m.seg k.table rid) m.seg.versions v s.current))
  where
    last : (a b c : Bool) → (a && (b && c)) ≡ true → c ≡ true
    last a b c e = and-second b c (and-second a (b && c) e)

    unaborted : is_unaborted (local_of m.seg v.gxid).phase ≡ true
    unaborted = last _ (is_same_rid v.rid rid) _ (find-passes (is_current m.seg k.table rid) (reverse m.seg.versions) v s.current)

    ended : (p : Phase) → has_ended p ≡ true → is_unaborted p ≡ true → p ≡ Forgotten true
    ended (Forgotten true) e u = refl
    ended (Forgotten false) e u = absurd (cc)
    ended Aborted e u = absurd (cc)
    ended Reading e u = absurd (cc)
    ended Writing e u = absurd (cc)
    ended Prepared e u = absurd (cc)
    ended Committed e u = absurd (cc)

    by_end : (is_same_gxid v.gxid g ≡ true) ⊎ (has_ended (local_of m.seg v.gxid).phase ≡ true) → (is_same_gxid v.gxid g ≡ true) ⊎ ((local_of m.seg v.gxid).phase ≡ Forgotten true)
    by_end (inl same) = inl same
    by_end (inr e) = inr (ended _ e unaborted)
