-- What is asked of a transaction's rows is told by its own marks.
use Rattle.std.proofs.Common.{◌≡◌, ◌≢◌, ◌∙◌, ◌≤◌, ◌+◌, ◌-◌, ◌++◌, ◌||◌, ◌&&◌, ◌==◌, ℕ, Bool, true, false, not, if◌then◌else◌, List, [], ◌∷◌, Some, None, Option, length, take, drop, refl, sym, ap, subst, arith, length-append}
use Rattle.std.proofs.lemmas.Bool.Decides.{nat_tests}
use Rattle.std.proofs.lemmas.List.{length-drop, take-append-drop, take-append-le}
use Rattle.std.proofs.lemmas.List.Folds.{list_any-append}
use Rattle.std.proofs.Math.Seq.{take-length}
use Rattle.std.specs.BTreeMap.{BTreeMap, get, is_at}
use Rattle.std.specs.List.{list_any}
use Rattle.std.specs.Prelude.{nat_le, slice_get, unwrap_or}
use Rattle.gx_dsnap.specs.Gxids.{gxid_cmp}
use Rattle.gx_ids.specs.declared.ids.Gxid.{Gxid}
use Rattle.gx_ids.specs.declared.ids.Cid.{Cid}
use Rattle.gx_ids.specs.declared.ids.Node.{Node}
use Rattle.gx_ids.specs.declared.ids.Table.{Table}
use Rattle.gx_ids.specs.declared.rid.Rid.{Rid}
use Rattle.gx_lemmas.proofs.Numbers.{eqb-of}
use Rattle.gx_lemmas.proofs.Tests.{true-false}
use Rattle.std.proofs.lemmas.Bool.{eqb-true}
use Rattle.gx_script.specs.declared.Script.{Script}
use Rattle.gx_tree.specs.declared.cond.Cond.{Cond}
use Rattle.gx_tree.specs.declared.expr.Expr.{Expr}
use Rattle.gx_tree.specs.declared.row.KeyedRow.{KeyedRow}
use Rattle.gx_tree.specs.declared.value.Value.{Value}
use Rattle.gx_store.specs.declared.mark.Mark.{Mark}
use Rattle.gx_store.specs.declared.mark.Mark.TheVariants.{Skip, Write}
use Rattle.gx_store.specs.Commands.{condition_on}
use Rattle.gx_store.specs.Marks.{is_command_of, is_processed, is_same_gxid, is_same_rid, is_written, write_count}
use Rattle.gx_store.proofs.Marks.{is_processed-append, is_written-append}
use Rattle.gx_store.specs.Writes.{dist_of}
use Rattle.gx_legal.specs.Inserted.{is_inserted, is_own, is_tuple_row}
use Rattle.gx_legal.specs.Own.{IsFirst, IsOwn, first_with, is_of, noted}
use Rattle.gx_legal.specs.RowsDone.{are_done}
use Rattle.gx_legal.specs.Selected.{is_met}
use Rattle.gx_legal.specs.Told.{are_own_done, own_row}

-- WHERE NOTHING TELLS OF THEM
or-first : (a b : Bool) → (a || b) ≡ false → a ≡ false
or-first true b e = e
or-first false b e = refl

or-second : (a b : Bool) → (a || b) ≡ false → b ≡ false
or-second true b e = absurd (cc)
or-second false b e = e

other-row : (a rid : Rid) (g : Gxid) → is_same_gxid a.gxid g ≡ false → is_same_gxid rid.gxid g ≡ true → is_same_rid a rid ≡ false
other-row a rid g no-own own = grind (arith, nat_tests)

other-command : (h g : Gxid) (c d : Cid) → is_same_gxid h g ≡ false → is_command_of g c h d ≡ false
other-command h g c d e = ap (λ b. b && (d.0 == c.0)) e

unwritten : (ms : List Mark) (g : Gxid) (rid : Rid) → list_any (is_of g) ms ≡ false → is_same_gxid rid.gxid g ≡ true → is_written ms rid ≡ false
unwritten [] g rid none own = refl
unwritten (Write h c node t r image ∷ ms) g rid none own =
    let here = or-second (is_same_gxid h g) (is_same_gxid r.gxid g) (or-first (is_same_gxid h g || is_same_gxid r.gxid g) _ none) in
    ap (λ b. b || is_written ms rid) (other-row r rid g here own) ∙ unwritten ms g rid (or-second (is_same_gxid h g || is_same_gxid r.gxid g) _ none) own
unwritten (Skip h c r ∷ ms) g rid none own = unwritten ms g rid (or-second (is_same_gxid h g) _ none) own
unwritten (_ ∷ ms) g rid none own = unwritten ms g rid none own

module _ (g : Gxid) (c : Cid) where
  unprocessed : (ms : List Mark) (rid : Rid) → list_any (is_of g) ms ≡ false → is_processed ms g c rid ≡ false
  unprocessed [] rid none = refl
  unprocessed (Write h d node t r image ∷ ms) rid none =
      let here = or-first (is_same_gxid h g) (is_same_gxid r.gxid g) (or-first (is_same_gxid h g || is_same_gxid r.gxid g) _ none) in
      ap (λ b. (b && is_same_rid r rid) || is_processed ms g c rid) (other-command h g c d here) ∙ unprocessed ms rid (or-second (is_same_gxid h g || is_same_gxid r.gxid g) _ none)
  unprocessed (Skip h d r ∷ ms) rid none =
      ap (λ b. (b && is_same_rid r rid) || is_processed ms g c rid) (other-command h g c d (or-first (is_same_gxid h g) _ none)) ∙ unprocessed ms rid (or-second (is_same_gxid h g) _ none)
  unprocessed (_ ∷ ms) rid none = unprocessed ms rid none

  uncounted : (ms own : List Mark) → list_any (is_of g) ms ≡ false → write_count (ms ++ own) g c ≡ write_count own g c
  uncounted [] own none = refl
  uncounted (Write h d node t r image ∷ ms) own none =
      let here = or-first (is_same_gxid h g) (is_same_gxid r.gxid g) (or-first (is_same_gxid h g || is_same_gxid r.gxid g) _ none) in
      ap (λ b. if b then write_count (ms ++ own) g c + 1 else write_count (ms ++ own) g c) (other-command h g c d here)
      ∙ uncounted ms own (or-second (is_same_gxid h g || is_same_gxid r.gxid g) _ none)
  uncounted (Skip h d r ∷ ms) own none = uncounted ms own (or-second (is_same_gxid h g) _ none)
  uncounted (_ ∷ ms) own none = uncounted ms own none

-- BY ITS OWN MARKS
not-own : (b x y z : Bool) → b ≡ false → ((b && x) && y) ≡ ((b && x) && z)
not-own true x y z e = absurd (cc)
not-own false x y z e = refl

module _ (g : Gxid) (marks own : List Mark) (is : IsOwn g marks own) where
  abbrev first-ones : List Mark
  first-ones = take (length marks - length own) marks

  whole : marks ≡ first-ones ++ own
  whole = sym (ap (λ ms. first-ones ++ ms) is.last ∙ take-append-drop (length marks - length own) marks)

  pub written-own : (rid : Rid) → is_same_gxid rid.gxid g ≡ true → is_written own rid ≡ is_written marks rid
  written-own rid its =
      sym (ap (λ ms. is_written ms rid) whole ∙ is_written-append first-ones own rid ∙ ap (λ b. b || is_written own rid) (unwritten first-ones g rid is.none its))

  pub processed-own : (c : Cid) (rid : Rid) → is_processed own g c rid ≡ is_processed marks g c rid
  processed-own c rid =
      sym (ap (λ ms. is_processed ms g c rid) whole ∙ is_processed-append first-ones own g c rid ∙ ap (λ b. b || is_processed own g c rid) (unprocessed g c first-ones rid is.none))

  pub counted-own : (c : Cid) → write_count own g c ≡ write_count marks g c
  counted-own c = sym (ap (λ ms. write_count ms g c) whole ∙ uncounted g c first-ones own is.none)

  pub inserted-own : (script : Script) (c : Cid) (table : Table) (tuples : List (List Expr)) (node : Node) (rid : Rid) (image : Option (List Value))
      → is_inserted script own g c table tuples node rid image ≡ is_inserted script marks g c table tuples node rid image
  inserted-own script c table tuples node rid image = by_test (is_same_gxid rid.gxid g) refl
    where
      by_test : (b : Bool) → is_same_gxid rid.gxid g ≡ b → is_inserted script own g c table tuples node rid image ≡ is_inserted script marks g c table tuples node rid image
      by_test true its =
          ap (λ b. is_own g c rid && (not b && is_tuple_row script.segments (dist_of script.tables table.0) node rid image (slice_get tuples (rid.ordinal - 1)))) (written-own rid its)
      by_test false other = not-own (is_same_gxid rid.gxid g) ((rid.cid.0 == c.0) && nat_le 1 rid.ordinal) _ _ other

  pub own-done-own : (c : Cid) (place : ℕ) (tuples : List (List Expr)) → are_own_done own g c place tuples ≡ are_own_done marks g c place tuples
  own-done-own c place [] = refl
  own-done-own c place (tuple ∷ tuples) =
      ap (λ b. b && are_own_done own g c (place + 1) tuples) (processed-own c (own_row g c place)) ∙ ap (λ b. is_processed marks g c (own_row g c place) && b) (own-done-own c (place + 1) tuples)

  pub done-own : (c : Cid) (cond : Option Cond) (rows : List KeyedRow) → are_done own g c cond rows ≡ are_done marks g c cond rows
  done-own c cond [] = refl
  done-own c cond (row ∷ rows) =
      ap (λ b. (not (is_met (condition_on cond row.row)) || b) && are_done own g c cond rows) (processed-own c row.rid)
      ∙ ap (λ b. (not (is_met (condition_on cond row.row)) || is_processed marks g c row.rid) && b) (done-own c cond rows)

-- WHERE THEY BEGIN
pub gxid-other : (g h : Gxid) → h.0 ≢ g.0 → is_at (gxid_cmp g) h ≡ false
gxid-other g h other = grind (arith, nat_tests)

pub noted-both : (place : ℕ) (a b : Bool) (first : Option ℕ) → noted place b (noted place a first) ≡ noted place (a || b) first
noted-both place true true first = refl
noted-both place true false first = refl
noted-both place false b first = refl

pub noted-at : (old new : BTreeMap Gxid ℕ) (h : Gxid) (place : ℕ) → get gxid_cmp new h ≡ Some (unwrap_or (get gxid_cmp old h) place) → ((g : Gxid) → g.0 ≢ h.0 → get gxid_cmp new g ≡ get gxid_cmp old g)
    → (g : Gxid) → get gxid_cmp new g ≡ noted place (is_same_gxid h g) (get gxid_cmp old g)
noted-at old new h place there elsewhere g = by_test (is_same_gxid h g) refl
  where
    apart : is_same_gxid h g ≡ false → g.0 ≢ h.0
    apart e same = true-false (is_same_gxid h g) (eqb-of h.0 g.0 (sym same)) e

    by_test : (b : Bool) → is_same_gxid h g ≡ b → get gxid_cmp new g ≡ noted place b (get gxid_cmp old g)
    by_test true same = subst (λ (n : ℕ). get gxid_cmp new (record { 0 = n }) ≡ Some (unwrap_or (get gxid_cmp old (record { 0 = n })) place)) (eqb-true h.0 g.0 same) there
    by_test false other = elsewhere g (apart other)

module _ (g : Gxid) (marks : List Mark) where
  pub from-inside : (first : Option ℕ) (place : ℕ) → IsFirst g marks first → place ≡ unwrap_or first (length marks) → place ≤ length marks
  from-inside first place is e = omega (arith, is.inside, e)

  pub own-from : (first : Option ℕ) (place : ℕ) (own : List Mark) → IsFirst g marks first → place ≡ unwrap_or first (length marks) → own ≡ drop place marks → IsOwn g marks own
  own-from first place own is e last =
      let inside : place ≤ length marks = from-inside first place is e in
      let back : length marks - length own ≡ place = omega (arith, inside, ap length last, length-drop place marks) in
      record { last = last ∙ ap (λ n. drop n marks) (sym back); none = ap (λ n. list_any (is_of g) (take n marks)) (back ∙ e) ∙ is.none }

  pub first-next : (m : Mark) (first : Option ℕ) → IsFirst g marks first → IsFirst g (marks ++ m ∷ []) (first_with g m (length marks) first)
  first-next m first is = by_test (is_of g m) refl first is
    where
      longer : (place : ℕ) → place ≤ length marks → place ≤ length (marks ++ m ∷ [])
      longer place inside = omega (arith, inside, length-append marks (m ∷ []))

      before : (place : ℕ) → place ≤ length marks → list_any (is_of g) (take place marks) ≡ false → list_any (is_of g) (take place (marks ++ m ∷ [])) ≡ false
      before place inside none = ap (list_any (is_of g)) (take-append-le place marks (m ∷ []) inside) ∙ none

      all : (none : list_any (is_of g) (take (length marks) marks) ≡ false) → list_any (is_of g) marks ≡ false
      all none = ap (list_any (is_of g)) (sym (take-length marks)) ∙ none

      by_test : (b : Bool) → is_of g m ≡ b → (first : Option ℕ) → IsFirst g marks first → IsFirst g (marks ++ m ∷ []) (noted (length marks) b first)
      by_test true its (Some place) is = record { inside = longer place is.inside; none = before place is.inside is.none }
      by_test true its None is = record { inside = longer (length marks) is.inside; none = before (length marks) is.inside is.none }
      by_test false its (Some place) is = record { inside = longer place is.inside; none = before place is.inside is.none }
      by_test false its None is = record {
        inside = omega arith;
        none = ap (list_any (is_of g)) (take-length (marks ++ m ∷ [])) ∙ list_any-append (is_of g) marks (m ∷ []) ∙ ap (λ b. b || (is_of g m || false)) (all is.none) ∙ ap (λ b. b || false) its;
      }
