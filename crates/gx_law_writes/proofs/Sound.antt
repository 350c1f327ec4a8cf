-- What the marks say of the versions at a segment, and that the loop's own moves leave it so.
use Rattle.std.proofs.Common.{◌≡◌, ◌∙◌, ◌⊎◌, inl, inr, ℕ, ◌<◌, ◌≤◌, ◌==◌, Bool, true, false, not, ◌&&◌, ◌||◌, List, [], ◌∷◌, ◌++◌, Option, Some, None, ap, refl, sym, subst, if◌then◌else◌, arith, eqb, nat_lt, length, take}
use Rattle.std.proofs.lemmas.Bool.Decides.{nat_tests}
use Rattle.std.specs.List.{list_any}
use Rattle.std.proofs.lemmas.List.{take-append-le}
use Rattle.gx_ids.specs.declared.ids.Cid.{Cid}
use Rattle.gx_ids.specs.declared.ids.Gxid.{Gxid}
use Rattle.gx_ids.specs.declared.ids.Node.{Node}
use Rattle.gx_ids.specs.declared.ids.Table.{Table}
use Rattle.gx_dsnap.specs.Snapshot.{sees}
use Rattle.gx_dsnap.specs.Gxids.{is_below}
use Rattle.gx_dsnap.specs.declared.snapshot.Snapshot.{Snapshot}
use Rattle.gx_waits.specs.Claim.{same_claim}
use Rattle.gx_lemmas.proofs.Tests.{or-false, true-false}
use Rattle.gx_store.proofs.Marks.{is_aborted-append, is_committed-append, is_ended-append}
use Rattle.gx_store.specs.declared.mark.Mark.{Mark}
use Rattle.gx_store.specs.declared.mark.Mark.TheVariants as mark
use Rattle.gx_store.specs.Marks.{is_aborted, is_committed, is_ended, is_same_gxid}
use Rattle.gx_store.specs.View.{is_shown_to}
use Rattle.gx_rules.specs.Segments.{Local, Phase, Seg, Version, has_committed, is_unaborted, local_of}
use Rattle.gx_rules.specs.Segments.Phase.{Aborted, Committed, Forgotten, Prepared, Reading, Writing}
use Rattle.gx_rules.specs.Shown.{counts}
use Rattle.gx_rules.specs.Slices.{Moved, is_holding, own_lock}
use Rattle.gx_law_order.proofs.Lists.{each_append}
use Rattle.gx_law_order.specs.Lists.{Each}
use Rattle.gx_law_order.specs.Pairs.{is_open}
use Rattle.gx_law_writes.proofs.Frames.{AddsOwn, Inv, IsWork}

-- WORK ENDS NOBODY
work-no-abort : (node : Node) (g h : Gxid) (c : Cid) (ms : List Mark) → Each (IsWork node g c) ms → is_aborted ms h ≡ false
work-no-abort node g h c [] e = refl
work-no-abort node g h c (mark.Abort x ∷ ms) e = absurd e.0
work-no-abort node g h c (m ∷ ms) e = work-no-abort node g h c ms e.1

work-no-commit : (node : Node) (g h : Gxid) (c : Cid) (ms : List Mark) → Each (IsWork node g c) ms → is_committed ms h ≡ false
work-no-commit node g h c [] e = refl
work-no-commit node g h c (mark.Commit x ∷ ms) e = absurd e.0
work-no-commit node g h c (m ∷ ms) e = work-no-commit node g h c ms e.1

pub aborted-still : (node : Node) (g h : Gxid) (c : Cid) (before ms : List Mark) → Each (IsWork node g c) ms → is_aborted (before ++ ms) h ≡ is_aborted before h
aborted-still node g h c before ms e = is_aborted-append before ms h ∙ ap (λ b. is_aborted before h || b) (work-no-abort node g h c ms e) ∙ or-false (is_aborted before h)

pub committed-still : (node : Node) (g h : Gxid) (c : Cid) (before ms : List Mark) → Each (IsWork node g c) ms → is_committed (before ++ ms) h ≡ is_committed before h
committed-still node g h c before ms e = is_committed-append before ms h ∙ ap (λ b. is_committed before h || b) (work-no-commit node g h c ms e) ∙ or-false (is_committed before h)

-- A VERSION, BY THE MARKS
-- A version's transaction: where it doesn't count as unaborted, it has aborted; where it is another's, unaborted, and holds no lock
-- on itself, it has committed; and it counts for the command exactly where the command, by its snapshot's point, is shown it.
pub record IsToldOf (marks : List Mark) (place : ℕ) (snapshot : Snapshot) (g : Gxid) (c : Cid) (s : Seg) (v : Version) : Type 0 where
  pub lost : is_unaborted (local_of s v.gxid).phase ≡ false → is_aborted marks v.gxid ≡ true
  pub ended : is_same_gxid v.gxid g ≡ false → is_unaborted (local_of s v.gxid).phase ≡ true → list_any (same_claim (own_lock v.gxid)) s.locks.holds ≡ false → is_committed marks v.gxid ≡ true
  pub counted : counts s snapshot g c v ≡ is_shown_to (Some (g, c)) (take place marks) v.gxid v.cid

module _ (before : List Mark) (place : ℕ) (inside : place < length before) (snapshot : Snapshot) (g : Gxid) (c : Cid) (table : Table) (s : Seg) (running : is_committed (take place before) g ≡ false) where
  le-of : {a b : ℕ} → a < b → a ≤ b
  le-of x = omega arith

  taken-still : (ms : List Mark) → take place (before ++ ms) ≡ take place before
  taken-still ms = take-append-le place before ms (le-of inside)

  -- what was so at the beginning is so behind the loop's moves
  old-told : (m : Moved) (v : Version) → Inv s before g c table m → IsToldOf before place snapshot g c s v → is_same_gxid v.gxid g ≡ false → IsToldOf (before ++ m.marks) place snapshot g c m.seg v
  old-told m v i t other =
      record {
        lost = λ e. aborted-still s.node g v.gxid c before m.marks i.work ∙ t.lost (sym (ap (λ (l : Local). is_unaborted l.phase) (i.others v.gxid other)) ∙ e);
        ended = λ o e n. committed-still s.node g v.gxid c before m.marks i.work ∙ t.ended other (sym (ap (λ (l : Local). is_unaborted l.phase) (i.others v.gxid other)) ∙ e) (sym (i.holds v.gxid other) ∙ n);
        counted = same-counts ∙ t.counted ∙ ap (λ ms. is_shown_to (Some (g, c)) ms v.gxid v.cid) (sym (taken-still m.marks));
      }
    where
      same-counts : counts m.seg snapshot g c v ≡ counts s snapshot g c v
      same-counts =
          ap (λ (l : Local). (is_same_gxid v.gxid g && nat_lt v.cid.0 c.0) || (has_committed l.phase && (is_below m.seg.horizon v.gxid || sees snapshot v.gxid))) (i.others v.gxid other)
          ∙ ap (λ h. (is_same_gxid v.gxid g && nat_lt v.cid.0 c.0) || (has_committed (local_of s v.gxid).phase && (is_below h v.gxid || sees snapshot v.gxid))) i.horizon

  open-unaborted : (p : Phase) → is_open p ≡ true → is_unaborted p ≡ true
  open-unaborted p e = grind arith

  open-uncommitted : (p : Phase) → is_open p ≡ true → has_committed p ≡ false
  open-uncommitted p e = grind arith

  -- the transaction's own are told too
  own-told : (m : Moved) (v : Version) → Inv s before g c table m → v.gxid ≡ g → IsToldOf (before ++ m.marks) place snapshot g c m.seg v
  own-told m v i mine =
      record {
        lost = λ e. absurd (true-false (is_unaborted (local_of m.seg v.gxid).phase) (subst (λ h. is_unaborted (local_of m.seg h).phase ≡ true) (sym mine) (open-unaborted _ i.opens)) e);
        ended = λ o. absurd (true-false (is_same_gxid v.gxid g) (ap (λ h. is_same_gxid h g) mine ∙ self g) o);
        counted = by_parts (is_same_gxid v.gxid g && nat_lt v.cid.0 c.0) (has_committed (local_of m.seg v.gxid).phase) (is_below m.seg.horizon v.gxid || sees snapshot v.gxid) (is_committed (take place (before ++ m.marks)) v.gxid)
            (subst (λ h. has_committed (local_of m.seg h).phase ≡ false) (sym mine) (open-uncommitted _ i.opens))
            (subst (λ h. is_committed (take place (before ++ m.marks)) h ≡ false) (sym mine) (ap (λ ms. is_committed ms g) (taken-still m.marks) ∙ running))
            ∙ ap (λ b. is_committed (take place (before ++ m.marks)) v.gxid || (b && nat_lt v.cid.0 c.0)) (turned v.gxid g);
      }
    where
      self : (g : Gxid) → is_same_gxid g g ≡ true
      self g = grind (arith, nat_tests)

      turned : (a b : Gxid) → is_same_gxid a b ≡ is_same_gxid b a
      turned a b = grind (arith, nat_tests)

      by_parts : (a b d e : Bool) → b ≡ false → e ≡ false → (a || (b && d)) ≡ (e || a)
      by_parts a b d e p q = grind arith

  same-or-not : (v : Version) (b : Bool) (m : Moved) → is_same_gxid v.gxid g ≡ b → Inv s before g c table m → IsToldOf before place snapshot g c s v → IsToldOf (before ++ m.marks) place snapshot g c m.seg v
  same-or-not v true m e i t = own-told m v i (same-gxids v.gxid g e)
    where
      same-gxids : (a b : Gxid) → is_same_gxid a b ≡ true → a ≡ b
      same-gxids a b e = grind (arith, nat_tests)
  same-or-not v false m e i t = old-told m v i t e

  all-old : (vs : List Version) (m : Moved) → Inv s before g c table m → Each (IsToldOf before place snapshot g c s) vs → Each (IsToldOf (before ++ m.marks) place snapshot g c m.seg) vs
  all-old [] m i e = tt
  all-old (v ∷ vs) m i e = (same-or-not v (is_same_gxid v.gxid g) m refl i e.0, all-old vs m i e.1)

  all-own : (vs : List Version) (m : Moved) → Inv s before g c table m → Each (λ (v : Version). (v.gxid ≡ g) × (v.cid ≡ c) × (v.table ≡ table)) vs → Each (IsToldOf (before ++ m.marks) place snapshot g c m.seg) vs
  all-own [] m i e = tt
  all-own (v ∷ vs) m i e = (own-told m v i e.0.0, all-own vs m i e.1)

  -- every version is told
  pub told : (m : Moved) → Inv s before g c table m → Each (IsToldOf before place snapshot g c s) s.versions → Each (IsToldOf (before ++ m.marks) place snapshot g c m.seg) m.seg.versions
  told m i e = subst (Each (IsToldOf (before ++ m.marks) place snapshot g c m.seg)) (sym i.added.is) (each_append _ s.versions i.added.own (all-old s.versions m i e) (all-own i.added.own m i i.added.mine))
