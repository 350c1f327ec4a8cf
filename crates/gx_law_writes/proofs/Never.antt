-- A row that the command has chosen has a current version, and where that counts, it isn't gone.
use Rattle.std.proofs.Common.{◌≡◌, ◌∙◌, ◌⊎◌, inl, inr, ℕ, ◌+◌, ◌<◌, ◌==◌, Bool, true, false, not, ◌&&◌, ◌||◌, List, [], ◌∷◌, ◌++◌, Option, Some, None, ap, refl, sym, subst, if◌then◌else◌, arith, eqb, nat_lt, take}
use Rattle.std.proofs.lemmas.Bool.Decides.{nat_tests}
use Rattle.std.specs.Prelude.{find, reverse}
use Rattle.gx_ids.specs.declared.ids.Cid.{Cid}
use Rattle.gx_ids.specs.declared.ids.Gxid.{Gxid}
use Rattle.gx_ids.specs.declared.ids.Node.{Node}
use Rattle.gx_ids.specs.declared.ids.Table.{Table}
use Rattle.gx_ids.specs.declared.rid.Rid.{Rid}
use Rattle.gx_tree.specs.declared.stmt.Level.{Level}
use Rattle.gx_tree.specs.declared.stmt.Level.TheVariants.{ReadCommitted, RepeatableRead}
use Rattle.gx_tree.specs.declared.value.Value.{Value}
use Rattle.gx_dsnap.specs.Gxids.{is_below}
use Rattle.gx_dsnap.specs.Snapshot.{sees}
use Rattle.gx_lemmas.proofs.Options.{none-some, some-same}
use Rattle.gx_lemmas.proofs.Tests.{true-false}
use Rattle.gx_store.specs.declared.mark.Mark.{Mark}
use Rattle.gx_store.specs.declared.mark.Mark.TheVariants as mark
use Rattle.gx_store.specs.Journals.{is_same_node}
use Rattle.gx_store.specs.Marks.{is_same_gxid, is_same_rid}
use Rattle.gx_store.specs.View.{image, image_after, is_shown_to}
use Rattle.gx_store.specs.Writes.{Written, last_write, shown_write}
use Rattle.gx_rules.specs.Changes.{Change, is_settled}
use Rattle.gx_rules.specs.Segments.{Phase, Seg, Version, has_committed, is_unaborted, local_of}
use Rattle.gx_rules.specs.Segments.Phase.{Aborted, Committed, Forgotten, Prepared, Reading, Writing}
use Rattle.gx_rules.specs.Shown.{counts, current_of, is_current}
use Rattle.gx_rules.specs.Slices.{Moved}
use Rattle.gx_rules.specs.Visits.{IsSettled, IsUnshown}
use Rattle.gx_law_order.specs.Lists.{Each}
use Rattle.gx_law_order.proofs.SegItems.{writes_at}
use Rattle.gx_law_order.specs.Pairs.{is_open}
use Rattle.gx_law_reads.specs.Sights.{IsOnlyAt}
use Rattle.gx_law_writes.proofs.Chosen.{IsChosen, Sight, counted-ends, shown-very, told-now, view-still}
use Rattle.gx_law_writes.proofs.Current.{IsAtHome, IsCurrentWrite, current-ends, only-append, tables-now, told-it, work-here}
use Rattle.gx_law_writes.proofs.Frames.{Inv, IsOfIts, IsWork}
use Rattle.gx_law_writes.proofs.Newest.{find-reverse, newest}
use Rattle.gx_law_writes.proofs.Sound.{IsToldOf}

-- THE IMAGE AND THE WRITE
-- every write of the row is of the table
abbrev pub IsOfTable : Table → Rid → List Mark → Type 0
IsOfTable table rid [] = Unit {0}
IsOfTable table rid (mark.Write g c n t r x ∷ ms) = (is_same_rid r rid ≡ true → (t.0 == table.0) ≡ true) × IsOfTable table rid ms
IsOfTable table rid (_ ∷ ms) = IsOfTable table rid ms

abbrev pub image_of : Option Written → Option (List Value)
image_of None = None
image_of (Some w) = w.image

-- the image that is shown is that of the last write that is
image-last : (shown : Gxid → Cid → Bool) (table : Table) (rid : Rid) (ms : List Mark) (place : ℕ) (last : Option Written) → IsOfTable table rid ms → image_after shown table rid (image_of last) ms ≡ image_of (last_write shown rid place last ms)
image-last shown table rid [] place last o = refl
image-last shown table rid (mark.Write g c n t r x ∷ ms) place last o = by_tests (shown g c) (is_same_rid r rid) (t.0 == table.0) refl o.0 (λ l. image-last shown table rid ms (place + 1) l o.1)
  where
    now : Written
    now = record { place = place; gxid = g; cid = c; image = x }

    by_tests : (a d b : Bool) → is_same_rid r rid ≡ d → (d ≡ true → b ≡ true)
        → ((l : Option Written) → image_after shown table rid (image_of l) ms ≡ image_of (last_write shown rid (place + 1) l ms))
        → image_after shown table rid (if a && (b && d) then x else image_of last) ms ≡ image_of (last_write shown rid (place + 1) (if a && d then Some now else last) ms)
    by_tests true true b e f more = subst (λ z. image_after shown table rid (if true && (z && true) then x else image_of last) ms ≡ image_of (last_write shown rid (place + 1) (Some now) ms)) (sym (f refl)) (more (Some now))
    by_tests true false true e f more = more last
    by_tests true false false e f more = more last
    by_tests false d b e f more = more last
image-last shown table rid (m ∷ ms) place last o = image-last shown table rid ms (place + 1) last o

-- ONE THAT PASSES
abbrev pub Has : Version → List Version → Type 0
Has v [] = ⊥
Has v (u ∷ us) = (u ≡ v) ⊎ Has v us

pub has-each : (P : Version → Type 0) (v : Version) (vs : List Version) → Has v vs → Each P vs → P v
has-each P v [] h e = absurd h
has-each P v (u ∷ us) (inl same) e = subst P same e.0
has-each P v (u ∷ us) (inr h) e = has-each P v us h e.1

-- the last write that passes is a version at the node, which passes
pub record IsAmong (node : Node) (rid : Rid) (shown : Gxid → Cid → Bool) (vs : List Version) : Type 0 where
  pub version : Version
  pub here : Has version vs
  pub row : is_same_rid version.rid rid ≡ true
  pub passes : shown version.gxid version.cid ≡ true

among-more : (node : Node) (rid : Rid) (shown : Gxid → Cid → Bool) (v : Version) (vs : List Version) → IsAmong node rid shown vs → IsAmong node rid shown (v ∷ vs)
among-more node rid shown v vs a = record { version = a.version; here = inr a.here; row = a.row; passes = a.passes }

write-among : (node : Node) (rid : Rid) (shown : Gxid → Cid → Bool) (ms : List Mark) (place : ℕ) (last : Option Written) (w : Written) → IsOnlyAt node rid ms → last_write shown rid place last ms ≡ Some w
    → (last ≡ Some w) ⊎ IsAmong node rid shown (writes_at node ms)
write-among node rid shown [] place last w o e = inl e
write-among node rid shown (mark.Write g c n t r x ∷ ms) place last w o e = by_tests (shown g c) (is_same_rid r rid) refl refl (write-among node rid shown ms (place + 1) (if shown g c && is_same_rid r rid then Some now else last) w o.1 e)
  where
    now : Written
    now = record { place = place; gxid = g; cid = c; image = x }

    v : Version
    v = record { gxid = g; cid = c; table = t; rid = r; image = x }

    behind : (b : Bool) → IsAmong node rid shown (writes_at node ms) → IsAmong node rid shown (if b then v ∷ writes_at node ms else writes_at node ms)
    behind true a = among-more node rid shown v (writes_at node ms) a
    behind false a = a

    first : (b : Bool) → b ≡ true → shown g c ≡ true → is_same_rid r rid ≡ true → IsAmong node rid shown (if b then v ∷ writes_at node ms else writes_at node ms)
    first true q s d = record { version = v; here = inl refl; row = d; passes = s }
    first false q s d = absurd (true-false false q refl)

    by_tests : (a d : Bool) → shown g c ≡ a → is_same_rid r rid ≡ d → ((if a && d then Some now else last) ≡ Some w) ⊎ IsAmong node rid shown (writes_at node ms)
        → (last ≡ Some w) ⊎ IsAmong node rid shown (if is_same_node n node then v ∷ writes_at node ms else writes_at node ms)
    by_tests a d s q (inr more) = inr (behind (is_same_node n node) more)
    by_tests true true s q (inl old) = inr (first (is_same_node n node) (o.0 q) s q)
    by_tests true false s q (inl old) = inl old
    by_tests false d s q (inl old) = inl old
write-among node rid shown (m ∷ ms) place last w o e = write-among node rid shown ms (place + 1) last w o e

-- where one passes, there is a newest
some-stays : (p : Version → Bool) (v : Version) (vs : List Version) → newest p (Some v) vs ≡ None → ⊥
some-stays p v [] e = none-some (Some v) v e refl
some-stays p v (u ∷ us) e = by_test (p u) (λ b. some-stays p u us b) (λ b. some-stays p v us b) e
  where
    by_test : (b : Bool) → (newest p (Some u) us ≡ None → ⊥) → (newest p (Some v) us ≡ None → ⊥) → newest p (if b then Some u else Some v) us ≡ None → ⊥
    by_test true f h e = f e
    by_test false f h e = h e

none-passes : (p : Version → Bool) (old : Option Version) (vs : List Version) → newest p old vs ≡ None → Each (λ (v : Version). p v ≡ false) vs
none-passes p old [] e = tt
none-passes p old (v ∷ vs) e = by_test (p v) refl e (λ o q. none-passes p o vs q)
  where
    by_test : (b : Bool) → p v ≡ b → newest p (if b then Some v else old) vs ≡ None → ((o : Option Version) → newest p o vs ≡ None → Each (λ (v : Version). p v ≡ false) vs) → (p v ≡ false) × Each (λ (v : Version). p v ≡ false) vs
    by_test true f e more = absurd (some-stays p v vs e)
    by_test false f e more = (f, more old e)

module _ (before : List Mark) (s : Seg) (g : Gxid) (k : Change) (sight : Sight before s g k) (m : Moved) (i : Inv s before g k.cid k.table m) (rid : Rid) (chosen : IsChosen sight.rows k rid) (home : IsAtHome before s k.table rid)
    (of : IsOfTable k.table rid before) where
  abbrev now : List Mark
  now = before ++ m.marks

  abbrev shown : Gxid → Cid → Bool
  shown = is_shown_to (Some (g, k.cid)) (take sight.place now)

  -- its image is the row that it sees
  shown-row : image_of (shown_write now (take sight.place now) g k.cid rid) ≡ Some chosen.row
  shown-row = sym (image-last shown k.table rid now 0 None of-now) ∙ sym ((view-still before s g k sight m i).images rid) ∙ chosen.shown
    where
      table-self : (t : Table) → (t.0 == t.0) ≡ true
      table-self t = grind (arith, nat_tests)

      work-of : (ms : List Mark) → Each (IsOfIts k.table) ms → IsOfTable k.table rid ms
      work-of [] e = tt
      work-of (mark.Write h d n t r x ∷ ms) e = (λ same. ap (λ (z : Table). z.0 == k.table.0) e.0 ∙ table-self k.table, work-of ms e.1)
      work-of (m ∷ ms) e = work-of ms e.1

      of-append : (xs ys : List Mark) → IsOfTable k.table rid xs → IsOfTable k.table rid ys → IsOfTable k.table rid (xs ++ ys)
      of-append [] ys e f = f
      of-append (mark.Write h d n t r x ∷ xs) ys e f = (e.0, of-append xs ys e.1 f)
      of-append (m ∷ xs) ys e f = of-append xs ys e f

      of-now : IsOfTable k.table rid now
      of-now = of-append before m.marks of (work-of m.marks i.rows)

  -- so it has been shown a write of it
  shown-some : (o : Option Written) → image_of o ≡ Some chosen.row → (w : Written) × (o ≡ Some w) × (w.image ≡ Some chosen.row)
  shown-some None e = absurd (no e)
    where
      no : None ≡ Some chosen.row → ⊥
      no z = cc
  shown-some (Some w) e = (w, refl, e)

  committed-unaborted : (p : Phase) → has_committed p ≡ true → is_unaborted p ≡ true
  committed-unaborted p e = grind arith

  open-unaborted : (p : Phase) → is_open p ≡ true → is_unaborted p ≡ true
  open-unaborted p e = grind arith

  -- whoever counts isn't known as aborted
  counts-unaborted : (v : Version) → counts m.seg k.snapshot g k.cid v ≡ true → is_unaborted (local_of m.seg v.gxid).phase ≡ true
  counts-unaborted v e = by_own (is_same_gxid v.gxid g) refl
    where
      same-gxids : (a b : Gxid) → is_same_gxid a b ≡ true → a ≡ b
      same-gxids a b e = grind (arith, nat_tests)

      second : (own : Bool) (a b d : Bool) → own ≡ false → ((own && a) || (b && d)) ≡ true → b ≡ true
      second own a b d q e = grind arith

      by_own : (b : Bool) → is_same_gxid v.gxid g ≡ b → is_unaborted (local_of m.seg v.gxid).phase ≡ true
      by_own true q = subst (λ h. is_unaborted (local_of m.seg h).phase ≡ true) (sym (same-gxids v.gxid g q)) (open-unaborted (local_of m.seg g).phase i.opens)
      by_own false q =
          committed-unaborted (local_of m.seg v.gxid).phase
          (second (is_same_gxid v.gxid g) (nat_lt v.cid.0 k.cid.0) (has_committed (local_of m.seg v.gxid).phase) (is_below m.seg.horizon v.gxid || sees k.snapshot v.gxid) q e)

  -- it has a current version
  has-current : current_of m.seg k.table rid ≡ None → ⊥
  has-current none = by_write (write-among s.node rid shown now 0 None w.0 (only-append s.node rid before m.marks home.home (work-here s.node rid g k.cid m.marks i.work)) w.1)
    where
      w : (w : Written) × (shown_write now (take sight.place now) g k.cid rid ≡ Some w) × (w.image ≡ Some chosen.row)
      w = shown-some (shown_write now (take sight.place now) g k.cid rid) shown-row

      fails : Each (λ (v : Version). is_current m.seg k.table rid v ≡ false) m.seg.versions
      fails = none-passes (is_current m.seg k.table rid) None m.seg.versions (sym (find-reverse (is_current m.seg k.table rid) m.seg.versions) ∙ none)

      by_among : IsAmong s.node rid shown (writes_at s.node now) → ⊥
      by_among a =
          let there = subst (Has a.version) (sym i.versions) a.here in
          let told = has-each (IsToldOf now sight.place k.snapshot g k.cid m.seg) a.version m.seg.versions there (told-now before s g k sight m i) in
          let table = has-each (λ (v : Version). is_same_rid v.rid rid ≡ true → (v.table.0 == k.table.0) ≡ true) a.version m.seg.versions there (tables-now before g k s m i sight.place (told-now before s g k sight m i) sight.alive sight.either rid home) in
          true-false (is_current m.seg k.table rid a.version) (all-three (a.version.table.0 == k.table.0) (is_same_rid a.version.rid rid) _ (table a.row) a.row (counts-unaborted a.version (told.counted ∙ a.passes)))
          (has-each (λ (v : Version). is_current m.seg k.table rid v ≡ false) a.version m.seg.versions there fails)
        where
          all-three : (a b d : Bool) → a ≡ true → b ≡ true → d ≡ true → (a && (b && d)) ≡ true
          all-three a b d e f h = grind arith

      by_write : (None ≡ Some w.0) ⊎ IsAmong s.node rid shown (writes_at s.node now) → ⊥
      by_write (inl e) = no e
        where
          no : None ≡ Some w.0 → ⊥
          no z = cc
      by_write (inr a) = by_among a

  -- a current version that counts isn't gone
  counted-there : (v : Version) → current_of m.seg k.table rid ≡ Some v → counts m.seg k.snapshot g k.cid v ≡ true → v.image ≡ None → ⊥
  counted-there v is counted gone = no (sym gone ∙ sym its.image ∙ sym (ap image_of very) ∙ shown-row)
    where
      all : Each (IsToldOf now sight.place k.snapshot g k.cid m.seg) m.seg.versions
      all = told-now before s g k sight m i

      told : IsToldOf now sight.place k.snapshot g k.cid m.seg v
      told = told-it before g k s m i sight.place all sight.alive sight.either rid home v is

      its : IsCurrentWrite now g rid v
      its = current-ends before g k s m i sight.place all sight.alive sight.either rid home v is (counted-ends before s g k sight m i v told counted)

      very : shown_write now (take sight.place now) g k.cid rid ≡ Some its.write
      very = shown-very before s g k sight m i v its told counted

      no : None ≡ Some chosen.row → ⊥
      no z = cc

  -- it is never found unshown
  pub never-unshown : IsUnshown m g k rid → ⊥
  never-unshown (inl none) = has-current none
  never-unshown (inr u) = counted-there u.0 u.1 u.3 u.4
