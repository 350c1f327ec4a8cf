-- A row's current version at the segment is its current write by the marks, and is free for the command.
use Rattle.std.proofs.Common.{◌≡◌, ◌∙◌, ◌⊎◌, inl, inr, ℕ, ◌<◌, ◌≤◌, ◌==◌, Bool, true, false, not, ◌&&◌, ◌||◌, List, [], ◌∷◌, ◌++◌, Option, Some, None, ap, refl, sym, subst, if◌then◌else◌, arith, eqb, nat_lt, length, take}
use Rattle.std.specs.Prelude.{find, reverse}
use Rattle.std.specs.List.{list_any}
use Rattle.std.proofs.lemmas.Bool.Decides.{nat_tests}
use Rattle.gx_ids.specs.declared.ids.Cid.{Cid}
use Rattle.gx_ids.specs.declared.ids.Gxid.{Gxid}
use Rattle.gx_ids.specs.declared.ids.Node.{Node}
use Rattle.gx_ids.specs.declared.ids.Table.{Table}
use Rattle.gx_ids.specs.declared.rid.Rid.{Rid}
use Rattle.gx_waits.specs.Claim.{same_claim}
use Rattle.gx_lemmas.proofs.Options.{some-same}
use Rattle.gx_lemmas.proofs.Tests.{and-first, and-second, true-false}
use Rattle.gx_store.specs.declared.mark.Mark.{Mark}
use Rattle.gx_store.specs.declared.mark.Mark.TheVariants as mark
use Rattle.gx_store.specs.Journals.{is_same_node}
use Rattle.gx_store.specs.Marks.{is_aborted, is_committed, is_same_gxid, is_same_rid}
use Rattle.gx_store.specs.View.{is_shown_to}
use Rattle.gx_store.specs.Writes.{Written, current, is_free_for, last_write, shown_write}
use Rattle.gx_rules.specs.Changes.{Change, is_settled}
use Rattle.gx_rules.specs.Segments.{Seg, Version, is_unaborted, local_of}
use Rattle.gx_rules.specs.Shown.{counts, current_of, is_current}
use Rattle.gx_rules.specs.Slices.{Moved, is_holding, own_lock}
use Rattle.gx_law_order.proofs.Lists.{each_append}
use Rattle.gx_law_order.specs.Lists.{Each}
use Rattle.gx_law_order.proofs.SegItems.{writes_at}
use Rattle.gx_law_order.specs.Pairs.{is_open}
use Rattle.gx_law_reads.specs.Sights.{IsOnlyAt}
use Rattle.gx_law_writes.proofs.Frames.{AddsOwn, Inv, IsWork}
use Rattle.gx_law_writes.proofs.Newest.{FailsBoth, IsWriteOf, find-reverse, is_row, newest, newest-write, stricter-write}
use Rattle.gx_law_writes.proofs.Sound.{IsToldOf, aborted-still, committed-still}

-- LISTS
pub newest-same : (p q : Version → Bool) → ((v : Version) → p v ≡ q v) → (old : Option Version) (vs : List Version) → newest p old vs ≡ newest q old vs
newest-same p q e old [] = refl
newest-same p q e old (v ∷ vs) = newest-same p q e (if p v then Some v else old) vs ∙ ap (λ b. newest q (if b then Some v else old) vs) (e v)

-- the newest is one of them that passes, or the one given
pub newest-has : (P : Version → Type 0) (p : Version → Bool) (old : Option Version) (vs : List Version) (v : Version) → Each P vs → (old ≡ Some v → P v × (p v ≡ true)) → newest p old vs ≡ Some v → P v × (p v ≡ true)
newest-has P p old [] v e start new = start new
newest-has P p old (u ∷ us) v e start new = newest-has P p _ us v e.1 (by_test (p u) refl) new
  where
    by_test : (b : Bool) → p u ≡ b → (if b then Some u else old) ≡ Some v → P v × (p v ≡ true)
    by_test true f new = let same : u ≡ v = some-same u v new in (subst P same e.0, subst (λ w. p w ≡ true) same f)
    by_test false f new = start new

pub only-append : (node : Node) (rid : Rid) (xs ys : List Mark) → IsOnlyAt node rid xs → IsOnlyAt node rid ys → IsOnlyAt node rid (xs ++ ys)
only-append node rid [] ys e f = f
only-append node rid (mark.Write g c n t r x ∷ xs) ys e f = (e.0, only-append node rid xs ys e.1 f)
only-append node rid (m ∷ xs) ys e f = only-append node rid xs ys e f

node-self : (n : Node) → is_same_node n n ≡ true
node-self n = grind (arith, nat_tests)

pub work-here : (node : Node) (rid : Rid) (g : Gxid) (c : Cid) (ms : List Mark) → Each (IsWork node g c) ms → IsOnlyAt node rid ms
work-here node rid g c [] e = tt
work-here node rid g c (mark.Write h d n t r x ∷ ms) e = (λ same. ap (λ z. is_same_node z node) e.0.2 ∙ node-self node, work-here node rid g c ms e.1)
work-here node rid g c (m ∷ ms) e = work-here node rid g c ms e.1

-- THE ROW
-- all versions of the row are of its table, and all its writes stand at the segment
pub record IsAtHome (before : List Mark) (s : Seg) (table : Table) (rid : Rid) : Type 0 where
  pub home : IsOnlyAt s.node rid before
  pub tables : Each (λ (v : Version). is_same_rid v.rid rid ≡ true → (v.table.0 == table.0) ≡ true) s.versions

-- the write that is the version's is the current one, and free
pub record IsCurrentWrite (marks : List Mark) (g : Gxid) (rid : Rid) (v : Version) : Type 0 where
  pub write : Written
  pub is : current marks rid ≡ Some write
  pub gxid : write.gxid ≡ v.gxid
  pub cid : write.cid ≡ v.cid
  pub image : write.image ≡ v.image
  pub free : is_free_for marks g write ≡ true

module _ (before : List Mark) (g : Gxid) (k : Change) (s : Seg) (m : Moved) (i : Inv s before g k.cid k.table m) (place : ℕ) (all : Each (IsToldOf (before ++ m.marks) place k.snapshot g k.cid m.seg) m.seg.versions)
    (alive : is_aborted before g ≡ false) (either : (h : Gxid) → is_committed before h ≡ true → is_aborted before h ≡ false) (rid : Rid) (home : IsAtHome before s k.table rid) where
  abbrev now : List Mark
  now = before ++ m.marks

  abbrev right : Version → Bool
  right u = (u.table.0 == k.table.0) && is_unaborted (local_of m.seg u.gxid).phase

  abbrev counting : Gxid → Cid → Bool
  counting h d = not (is_aborted now h)

  abbrev old-table : Version → Type 0
  old-table v = is_same_rid v.rid rid ≡ true → (v.table.0 == k.table.0) ≡ true

  table-self : (t : Table) → (t.0 == t.0) ≡ true
  table-self t = grind (arith, nat_tests)

  own-tables : (vs : List Version) → Each (λ (v : Version). (v.gxid ≡ g) × (v.cid ≡ k.cid) × (v.table ≡ k.table)) vs → Each old-table vs
  own-tables [] e = tt
  own-tables (v ∷ vs) e = (λ same. ap (λ (t : Table). t.0 == k.table.0) e.0.2 ∙ table-self k.table, own-tables vs e.1)

  pub tables-now : Each (λ (v : Version). is_same_rid v.rid rid ≡ true → (v.table.0 == k.table.0) ≡ true) m.seg.versions
  tables-now = subst (Each old-table) (sym i.added.is) (each_append old-table s.versions i.added.own home.tables (own-tables i.added.own i.added.mine))

  fails : (vs : List Version) → Each old-table vs → Each (IsToldOf now place k.snapshot g k.cid m.seg) vs → Each (FailsBoth s.node rid right counting) vs
  fails [] e f = tt
  fails (v ∷ vs) e f = (λ same wrong. ap not (f.0.lost (second (v.table.0 == k.table.0) _ (e.0 same) wrong)), fails vs e.1 f.1)
    where
      second : (a b : Bool) → a ≡ true → (a && b) ≡ false → b ≡ false
      second true b e f = f
      second false b e f = absurd (true-false false e refl)

  reorder : (v : Version) → is_current m.seg k.table rid v ≡ is_row s.node rid right counting v
  reorder v = swap (v.table.0 == k.table.0) (is_same_rid v.rid rid) (is_unaborted (local_of m.seg v.gxid).phase)
    where
      swap : (a b d : Bool) → (a && (b && d)) ≡ (b && (a && d))
      swap a b d = grind arith

  module _ (v : Version) (is_it : current_of m.seg k.table rid ≡ Some v) where
    newest-it : newest (is_row s.node rid right counting) None m.seg.versions ≡ Some v
    newest-it = sym (newest-same (is_current m.seg k.table rid) (is_row s.node rid right counting) reorder None m.seg.versions) ∙ sym (find-reverse (is_current m.seg k.table rid) m.seg.versions) ∙ is_it

    none-some-it : {A : Type 0} → None ≡ Some v → A
    none-some-it e = absurd (no e)
      where
        no : None ≡ Some v → ⊥
        no e = cc

    has-it : IsToldOf now place k.snapshot g k.cid m.seg v × (is_row s.node rid right counting v ≡ true)
    has-it = newest-has (IsToldOf now place k.snapshot g k.cid m.seg) (is_row s.node rid right counting) None m.seg.versions v all (λ e. none-some-it e) newest-it

    -- it is one of the versions, and of the row
    pub one-of : (P : Version → Type 0) → Each P m.seg.versions → P v × (is_same_rid v.rid rid ≡ true)
    one-of P e = let found = newest-has P (is_row s.node rid right counting) None m.seg.versions v e (λ e. none-some-it e) newest-it in (found.0, and-first (is_same_rid v.rid rid) _ found.1)

    unaborted : is_unaborted (local_of m.seg v.gxid).phase ≡ true
    unaborted = and-second (v.table.0 == k.table.0) _ (and-second (is_same_rid v.rid rid) _ has-it.1)

    -- whoever is settled is the command's own, or has committed
    pub settled-ends : is_settled m g v.gxid ≡ true → (is_same_gxid v.gxid g ≡ true) ⊎ (is_committed now v.gxid ≡ true)
    settled-ends e = by_test (is_same_gxid v.gxid g) refl e
      where
        by_test : (b : Bool) → is_same_gxid v.gxid g ≡ b → (b || not (is_holding m (own_lock v.gxid))) ≡ true → (is_same_gxid v.gxid g ≡ true) ⊎ (is_committed now v.gxid ≡ true)
        by_test true f e = inl f
        by_test false f e = inr (has-it.0.ended f unaborted (not-true (is_holding m (own_lock v.gxid)) e))
          where
            not-true : (b : Bool) → not b ≡ true → b ≡ false
            not-true true e = absurd (true-false false e refl)
            not-true false e = refl

    live-still : is_aborted now g ≡ false
    live-still = aborted-still s.node g g k.cid before m.marks i.work ∙ alive

    either-still : (h : Gxid) → is_committed now h ≡ true → is_aborted now h ≡ false
    either-still h e = aborted-still s.node g h k.cid before m.marks i.work ∙ either h (sym (committed-still s.node g h k.cid before m.marks i.work) ∙ e)

    same-gxids : (a b : Gxid) → is_same_gxid a b ≡ true → a ≡ b
    same-gxids a b e = grind (arith, nat_tests)

    pub passes-it : (is_same_gxid v.gxid g ≡ true) ⊎ (is_committed now v.gxid ≡ true) → not (is_aborted now v.gxid) ≡ true
    passes-it (inl e) = ap not (ap (is_aborted now) (same-gxids v.gxid g e) ∙ live-still)
    passes-it (inr e) = ap not (either-still v.gxid e)

    free-it : (w : Written) → w.gxid ≡ v.gxid → (is_same_gxid v.gxid g ≡ true) ⊎ (is_committed now v.gxid ≡ true) → is_free_for now g w ≡ true
    free-it w e (inl f) = ap (λ h. is_same_gxid h g || is_committed now h) e ∙ ap (λ b. b || is_committed now v.gxid) f
    free-it w e (inr f) = ap (λ h. is_same_gxid h g || is_committed now h) e ∙ or-second (is_same_gxid v.gxid g) _ f
      where
        or-second : (a b : Bool) → b ≡ true → (a || b) ≡ true
        or-second a b e = grind arith

    pub current-ends : (is_same_gxid v.gxid g ≡ true) ⊎ (is_committed now v.gxid ≡ true) → IsCurrentWrite now g rid v
    current-ends ends =
        let w : IsWriteOf v (current now rid) = newest-write s.node rid right counting v (passes-it ends) now 0 None None (only-append s.node rid before m.marks home.home (work-here s.node rid g k.cid m.marks i.work))
        (subst (Each (FailsBoth s.node rid right counting)) i.versions (fails m.seg.versions tables-now all)) (λ z. none-some-it z)
        (subst (λ vs. newest (is_row s.node rid right counting) None vs ≡ Some v) i.versions newest-it) in
        record { write = w.write; is = w.is; gxid = w.gxid; cid = w.cid; image = w.image; free = free-it w.write w.gxid ends }

    pub current-it : is_settled m g v.gxid ≡ true → IsCurrentWrite now g rid v
    current-it e = current-ends (settled-ends e)

    pub told-it : IsToldOf now place k.snapshot g k.cid m.seg v
    told-it = has-it.0
