-- A row that the command has chosen is seen by it as ever, whatever the command itself has written since.
use Rattle.std.proofs.Common.{◌≡◌, ◌∙◌, ◌⊎◌, inl, inr, ℕ, ◌<◌, ◌≤◌, ◌==◌, Bool, true, false, not, ◌&&◌, ◌||◌, List, [], ◌∷◌, ◌++◌, Option, Some, None, Result, Ok, Err, ap, refl, sym, subst, if◌then◌else◌, arith, eqb, nat_lt, length, take}
use Rattle.std.proofs.lemmas.Bool.Decides.{nat_tests}
use Rattle.std.proofs.lemmas.List.{take-append-le}
use Rattle.gx_ids.specs.declared.ids.Cid.{Cid}
use Rattle.gx_ids.specs.declared.ids.Gxid.{Gxid}
use Rattle.gx_ids.specs.declared.ids.Node.{Node}
use Rattle.gx_ids.specs.declared.ids.Table.{Table}
use Rattle.gx_ids.specs.declared.rid.Rid.{Rid}
use Rattle.gx_tree.specs.declared.row.KeyedRow.{KeyedRow}
use Rattle.gx_tree.specs.declared.stmt.Level.{Level}
use Rattle.gx_tree.specs.declared.stmt.Level.TheVariants.{ReadCommitted, RepeatableRead}
use Rattle.gx_tree.specs.declared.value.Value.{Value}
use Rattle.gx_lemmas.proofs.Lists.{get-append}
use Rattle.gx_lemmas.proofs.Tests.{true-false}
use Rattle.gx_store.proofs.Marks.{image_after-append}
use Rattle.gx_store.specs.declared.mark.Mark.{Mark}
use Rattle.gx_store.specs.declared.mark.Mark.TheVariants as mark
use Rattle.gx_store.specs.Commands.{IsSnapshotAt, condition_on}
use Rattle.gx_store.specs.Marks.{is_aborted, is_committed, is_same_gxid, is_same_rid}
use Rattle.gx_store.specs.Rows.{row_at}
use Rattle.gx_store.specs.View.{IsView, image, image_after, is_shown_to}
use Rattle.gx_store.specs.Writes.{IsCurrentFor, IsSelectedAndFree, Written, shown_write}
use Rattle.gx_rules.specs.Changes.{Change, is_settled}
use Rattle.gx_rules.specs.Segments.{Seg, Version}
use Rattle.gx_rules.specs.Shown.{counts, current_of}
use Rattle.gx_rules.specs.Slices.{Moved}
use Rattle.gx_rules.specs.Visits.{IsNow, IsSettled}
use Rattle.gx_law_order.specs.Lists.{Each}
use Rattle.gx_law_writes.proofs.Current.{IsAtHome, IsCurrentWrite, current-it, told-it}
use Rattle.gx_law_writes.proofs.Frames.{Inv, IsWork}
use Rattle.gx_law_writes.proofs.Newest.{stricter-write}
use Rattle.gx_law_writes.proofs.Sound.{IsToldOf, aborted-still, committed-still, told}

-- IMAGES
-- a command's own writes are no image for it
pub image-work : (shown : Gxid → Cid → Bool) (node : Node) (g : Gxid) (c : Cid) (table : Table) (rid : Rid) (old : Option (List Value)) (ms : List Mark) → shown g c ≡ false → Each (IsWork node g c) ms → image_after shown table rid old ms ≡ old
image-work shown node g c table rid old [] e w = refl
image-work shown node g c table rid old (mark.Write h d n t r x ∷ ms) e w =
    ap (λ b. image_after shown table rid (if b && ((t.0 == table.0) && is_same_rid r rid) then x else old) ms) (ap (λ z. shown z d) w.0.0 ∙ ap (shown g) w.0.1 ∙ e) ∙ image-work shown node g c table rid old ms e w.1
image-work shown node g c table rid old (m ∷ ms) e w = image-work shown node g c table rid old ms e w.1

-- WHAT THE COMMAND SEES
-- By the marks before, with the segment as it is then: the command's snapshot, its view, and what is told of the segment's versions.
pub record Sight (before : List Mark) (s : Seg) (g : Gxid) (k : Change) : Type 0 where
  pub place : ℕ
  pub inside : place < length before
  pub taken : IsSnapshotAt before k.level g k.cid place
  pub rows : List KeyedRow
  pub view : IsView before (take place before) (Some (g, k.cid)) k.table rows
  pub told : Each (IsToldOf before place k.snapshot g k.cid s) s.versions
  pub alive : is_aborted before g ≡ false
  pub running : is_committed before g ≡ false
  pub either : (h : Gxid) → is_committed before h ≡ true → is_aborted before h ≡ false
  pub early : Each (λ (v : Version). v.gxid ≡ g → v.cid.0 ≤ k.cid.0) s.versions
  pub first : (h : Gxid) → is_committed (take place before) h ≡ true → is_committed before h ≡ true

-- the command sees the row, and its condition is true on what it sees
pub record IsChosen (rows : List KeyedRow) (k : Change) (rid : Rid) : Type 0 where
  pub row : List Value
  pub shown : row_at rows rid ≡ Some row
  pub chosen : condition_on k.cond row ≡ Ok true

le-of : {a b : ℕ} → a < b → a ≤ b
le-of x = omega arith

module _ (before : List Mark) (s : Seg) (g : Gxid) (k : Change) (sight : Sight before s g k) (m : Moved) (i : Inv s before g k.cid k.table m) where
  abbrev pub now : List Mark
  now = before ++ m.marks

  taken-still : take sight.place now ≡ take sight.place before
  taken-still = take-append-le sight.place before m.marks (le-of sight.inside)

  not-early : is_committed (take sight.place before) g ≡ false
  not-early = by_test (is_committed (take sight.place before) g) refl
    where
      by_test : (b : Bool) → is_committed (take sight.place before) g ≡ b → b ≡ false
      by_test true e = absurd (true-false (is_committed before g) (sight.first g e) sight.running)
      by_test false e = refl

  pub not-own : is_shown_to (Some (g, k.cid)) (take sight.place before) g k.cid ≡ false
  not-own = ap (λ b. b || (is_same_gxid g g && nat_lt k.cid.0 k.cid.0)) not-early ∙ never (is_same_gxid g g) k.cid.0
    where
      never : (b : Bool) (n : ℕ) → (b && nat_lt n n) ≡ false
      never b n = grind (arith, nat_tests)

  pub snapshot-still : IsSnapshotAt now k.level g k.cid sight.place
  snapshot-still = record { d = sight.taken.d; snapshot = sight.taken.snapshot; taken = get-append before m.marks sight.place _ sight.taken.taken; serves = sight.taken.serves }

  pub view-still : IsView now (take sight.place now) (Some (g, k.cid)) k.table sight.rows
  view-still =
      record {
        rising = sight.view.rising;
        images = λ rid. sight.view.images rid
            ∙ sym (image_after-append (is_shown_to (Some (g, k.cid)) (take sight.place before)) k.table rid None before m.marks
            ∙ image-work (is_shown_to (Some (g, k.cid)) (take sight.place before)) s.node g k.cid k.table rid _ m.marks not-own i.work)
            ∙ ap (λ ms. image now ms (Some (g, k.cid)) k.table rid) (sym taken-still);
      }

  pub told-now : Each (IsToldOf now sight.place k.snapshot g k.cid m.seg) m.seg.versions
  told-now = told before sight.place sight.inside k.snapshot g k.cid k.table s not-early m i sight.told

  -- whoever the command is shown has not aborted
  shown-unaborted : (h : Gxid) (d : Cid) → is_shown_to (Some (g, k.cid)) (take sight.place now) h d ≡ true → not (is_aborted now h) ≡ true
  shown-unaborted h d e = by_test (is_committed (take sight.place before) h) refl (sym (ap (λ ms. is_shown_to (Some (g, k.cid)) ms h d) taken-still) ∙ e)
    where
      same-gxids : (a b : Gxid) → is_same_gxid a b ≡ true → a ≡ b
      same-gxids a b e = grind (arith, nat_tests)

      own : (is_same_gxid g h && nat_lt d.0 k.cid.0) ≡ true → is_same_gxid g h ≡ true
      own e = grind (arith, nat_tests)

      by_test : (b : Bool) → is_committed (take sight.place before) h ≡ b → (b || (is_same_gxid g h && nat_lt d.0 k.cid.0)) ≡ true → not (is_aborted now h) ≡ true
      by_test true f e = ap not (aborted-still s.node g h k.cid before m.marks i.work ∙ sight.either h (sight.first h f))
      by_test false f e = ap not (ap (is_aborted now) (sym (same-gxids g h (own e))) ∙ aborted-still s.node g g k.cid before m.marks i.work ∙ sight.alive)

  -- a current write of a version that counts is the very one that the command is shown
  pub shown-very : {rid : Rid} (v : Version) (its : IsCurrentWrite now g rid v) → IsToldOf now sight.place k.snapshot g k.cid m.seg v → counts m.seg k.snapshot g k.cid v ≡ true → shown_write now (take sight.place now) g k.cid rid ≡ Some its.write
  shown-very {rid = rid} v its told e =
      stricter-write rid (λ h d. not (is_aborted now h)) (is_shown_to (Some (g, k.cid)) (take sight.place now)) shown-unaborted its.write
      (ap (λ h. is_shown_to (Some (g, k.cid)) (take sight.place now) h its.write.cid) its.gxid ∙ ap (is_shown_to (Some (g, k.cid)) (take sight.place now) v.gxid) its.cid ∙ sym told.counted ∙ e)
      now 0 None None (λ z. z) its.is

  -- whoever counts for the command is its own, or has committed
  pub counted-ends : (v : Version) → IsToldOf now sight.place k.snapshot g k.cid m.seg v → counts m.seg k.snapshot g k.cid v ≡ true → (is_same_gxid v.gxid g ≡ true) ⊎ (is_committed now v.gxid ≡ true)
  counted-ends v told e = by_test (is_committed (take sight.place before) v.gxid) refl (sym (ap (λ ms. is_shown_to (Some (g, k.cid)) ms v.gxid v.cid) taken-still) ∙ sym told.counted ∙ e)
    where
      own : (is_same_gxid g v.gxid && nat_lt v.cid.0 k.cid.0) ≡ true → is_same_gxid v.gxid g ≡ true
      own e = grind (arith, nat_tests)

      by_test : (b : Bool) → is_committed (take sight.place before) v.gxid ≡ b → (b || (is_same_gxid g v.gxid && nat_lt v.cid.0 k.cid.0)) ≡ true → (is_same_gxid v.gxid g ≡ true) ⊎ (is_committed now v.gxid ≡ true)
      by_test true f e = inr (committed-still s.node g v.gxid k.cid before m.marks i.work ∙ sight.first v.gxid f)
      by_test false f e = inl (own e)

  module _ (rid : Rid) (chosen : IsChosen sight.rows k rid) (home : IsAtHome before s k.table rid) (v : Version) (settled : IsSettled m g k rid v) where
    abbrev pub its-write : IsCurrentWrite now g rid v
    its-write = current-it before g k s m i sight.place told-now sight.alive sight.either rid home v settled.current settled.settled

    pub its-told : IsToldOf now sight.place k.snapshot g k.cid m.seg v
    its-told = told-it before g k s m i sight.place told-now sight.alive sight.either rid home v settled.current

    abbrev pub selected : IsSelectedAndFree now k.level g k.cid k.table k.cond rid
    selected =
        record {
          place = sight.place;
          taken = snapshot-still;
          rows = sight.rows;
          view = view-still;
          row = chosen.row;
          shown = chosen.shown;
          chosen = chosen.chosen;
          write = its-write.write;
          current = its-write.is;
          free = its-write.free;
        }

    -- a current version that counts is the very write that the command is shown
    pub very-write : counts m.seg k.snapshot g k.cid v ≡ true → shown_write now (take sight.place now) g k.cid rid ≡ Some its-write.write
    very-write e = shown-very v its-write its-told e

    pub current-for : (level : Level) (old : List Value) → k.level ≡ level → IsNow level m g k v old → IsCurrentFor now level g k.cid k.cond rid sight.place its-write.write old
    current-for ReadCommitted old l e = e
    current-for RepeatableRead old l e = very-write e
