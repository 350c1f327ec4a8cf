-- A command goes through its rows.
use Rattle.std.proofs.Common.{◌≡◌, ◌≤◌, ◌<◌, ◌+◌, ◌-◌, ◌^◌, ℕ, zero, suc, false, true, List, [], ◌∷◌, ◌++◌, length, take, drop, get_or, length-drop, refl, sym, ap, ◌∙◌, subst, arith}
use Rattle.std.proofs.lemmas.List.{drop_all, get_or_default}
use Rattle.std.proofs.lemmas.List.Sums.{fold-append}
use Rattle.std.proofs.lemmas.Option.{unwrap_or-slice_get}
use Rattle.std.specs.List.{list_any}
use Rattle.gx_ids.specs.declared.ids.Gxid.{Gxid}
use Rattle.gx_ids.specs.declared.rid.Rid.{Rid}
use Rattle.gx_waits.specs.Claims.{is_of}
use Rattle.gx_msg.specs.declared.reply.Cause.{Cause}
use Rattle.gx_store.specs.declared.mark.Mark.{Mark}
use Rattle.gx_gather.proofs.Steps.{drop_next}
use Rattle.gx_rules.specs.Changes as rule
use Rattle.gx_rules.specs.Changes.RowEnd.{Failing, Skipped, Waiting, Written}
use Rattle.gx_rules.specs.Segments.{SegTurn}
use Rattle.gx_rules.specs.Slices.{Moved}
use Rattle.gx_slices.specs.Changing.{Came, HasGone, IsAt, IsFree, Stage, end_of, ended_at, is_done_at, moved_by, rid_at, waits_then, written_at}
use Rattle.gx_slices.specs.declared.changing_row.RowEnd.{RowEnd}
use Rattle.gx_slices.specs.declared.changing_row.RowEnd.TheVariants as end
use Rattle.gx_slices.specs.declared.changing_rows.RowsEnd.{RowsEnd}
use Rattle.gx_slices.specs.declared.changing_rows.RowsEnd.TheVariants as rows_end
use Rattle.gx_slices.specs.declared.held.Entry.{Entry}
use Rattle.gx_slices.specs.declared.held.Held.{Held}

-- A PLACE IN THE ROWS
abbrev no_rid : Rid
no_rid = record { gxid = record { 0 = 0 }; cid = record { 0 = 0 }; ordinal = 0 }

pub rid-read : (rids : List Rid) (index : ℕ) → index < length rids → (d : Rid) → rid_at rids index ≡ get_or rids index d
rid-read rids index inside d = unwrap_or-slice_get rids index no_rid ∙ get_or_default rids index no_rid d inside

take-next : {X : Type 0} (xs : List X) (i : ℕ) (d : X) → i < length xs → d ≡ get_or xs i d → take (i + 1) xs ≡ take i xs ++ d ∷ []
take-next xs i d l e = let n : i + 1 ≡ suc i = omega arith in ap (λ k. take k xs) n ∙ more xs i d l e
  where
    more : {X : Type 0} (xs : List X) (i : ℕ) (d : X) → i < length xs → d ≡ get_or xs i d → take (suc i) xs ≡ take i xs ++ d ∷ []
    more [] i d l e = absurd (omega arith)
    more (x ∷ xs) zero d l e = ap (λ y. y ∷ []) (sym e)
    more (x ∷ xs) (suc i) d l e = ap (λ ys. x ∷ ys) (more xs i d (omega arith) e)

module _ (stage : Stage) (k : rule.Change) (g : Gxid) (rids : List Rid) (before : ℕ) where
  abbrev pub moved_at : ℕ → Moved
  moved_at index = moved_by g k stage.moved (take index rids)

  abbrev pub stage_at : ℕ → Stage
  stage_at index = record stage { moved = moved_at index }

  abbrev all : SegTurn
  all = rule.goes_through g k rids stage.moved before

  -- the rows before a place are done, with so many written
  pub record IsUnderWay (held : Held) (entry : Entry) (marks : List Mark) (index count : ℕ) : Type 0 where
    pub at : IsAt (stage_at index) g held entry marks
    pub free : IsFree (stage_at index) g
    pub turn : rule.goes_through g k (drop index rids) (moved_at index) count ≡ all
    pub room : count ≤ before + index

  pub under-way : (held : Held) (entry : Entry) (marks : List Mark) → IsAt stage g held entry marks → IsFree stage g → IsUnderWay held entry marks 0 before
  under-way held entry marks at free = record { at = at; free = free; turn = refl; room = omega arith }

  -- they are all done
  pub gone-through : (held : Held) (entry : Entry) (marks : List Mark) (index count : ℕ) → IsUnderWay held entry marks index count → length rids ≤ index → HasGone stage k g held entry marks all (rows_end.Done count)
  gone-through held entry marks index count is past = record {
    moved = moved_at index;
    at = is.at;
    is = sym is.turn ∙ ap (λ (l : List Rid). rule.goes_through g k l (moved_at index) count) (drop_all index rids past);
    waits = is.free;
    room = tt;
  }

  module _ (held held' : Held) (entry entry' : Entry) (marks marks' : List Mark) (index count : ℕ) (e : RowEnd) (was : IsUnderWay held entry marks index count) (inside : index < length rids) (came : Came (stage_at index) g held' entry' marks' (rule.does_row (moved_at index) g k (rid_at rids index)) e) where
    abbrev rid : Rid
    rid = rid_at rids index

    abbrev done_row : rule.RowTurn
    done_row = rule.does_row (moved_at index) g k rid

    abbrev rest : List Rid
    rest = drop (index + 1) rids

    next-moved : moved_at (index + 1) ≡ done_row.moved
    next-moved =
        ap (moved_by g k stage.moved) (take-next rids index rid inside (rid-read rids index inside rid))
        ∙ fold-append (λ n r. (rule.does_row n g k r).moved) stage.moved (take index rids) (rid ∷ [])

    turn-row : rule.after_row (rule.goes_through g k rest) g k rid rest count done_row.moved done_row.end ≡ all
    turn-row = sym (ap (λ (l : List Rid). rule.goes_through g k l (moved_at index) count) (drop_next rids index rid inside (rid-read rids index inside rid))) ∙ was.turn

    turn-end : (x : RowEnd) → e ≡ x → rule.after_row (rule.goes_through g k rest) g k rid rest count done_row.moved (end_of x) ≡ all
    turn-end x is = sym (ap (rule.after_row (rule.goes_through g k rest) g k rid rest count done_row.moved) (came.end ∙ ap end_of is)) ∙ turn-row

    waits-end : (x : RowEnd) → e ≡ x → list_any (is_of g) done_row.moved.seg.locks.waits ≡ waits_then (end_of x)
    waits-end x is = came.waits ∙ ap waits_then (came.end ∙ ap end_of is)

    next-at : IsAt (stage_at (index + 1)) g held' entry' marks'
    next-at = subst (λ (m : Moved). let s : Stage = record stage { moved = m } in IsAt s g held' entry' marks') (sym next-moved) came.at

    next-free : list_any (is_of g) done_row.moved.seg.locks.waits ≡ false → IsFree (stage_at (index + 1)) g
    next-free free = ap (λ (m : Moved). list_any (is_of g) m.seg.locks.waits) next-moved ∙ free

    next-turn : (n : ℕ) → rule.goes_through g k rest done_row.moved n ≡ all → rule.goes_through g k rest (moved_at (index + 1)) n ≡ all
    next-turn n e = ap (λ (m : Moved). rule.goes_through g k rest m n) next-moved ∙ e

    under-way-written : e ≡ end.Written → IsUnderWay held' entry' marks' (index + 1) (count + 1)
    under-way-written is = record { at = next-at; free = next-free (waits-end end.Written is); turn = next-turn (count + 1) (turn-end end.Written is); room = let r = was.room in omega (arith, r) }

    under-way-skipped : e ≡ end.Skipped → IsUnderWay held' entry' marks' (index + 1) (count + 0)
    under-way-skipped is =
        let same : count + 0 ≡ count = omega arith in
        subst (λ (n : ℕ). IsUnderWay held' entry' marks' (index + 1) n) (sym same)
        (record { at = next-at; free = next-free (waits-end end.Skipped is); turn = next-turn count (turn-end end.Skipped is); room = let r = was.room in omega (arith, r) })

    -- it is done with it
    pub under-way-next : (n : ℕ) → is_done_at (end_of e) ≡ true → n ≡ count + written_at e → IsUnderWay held' entry' marks' (index + 1) n
    under-way-next n done told = subst (λ (x : ℕ). IsUnderWay held' entry' marks' (index + 1) x) (sym told) (by_end e refl done)
      where
        by_end : (x : RowEnd) → e ≡ x → is_done_at (end_of x) ≡ true → IsUnderWay held' entry' marks' (index + 1) (count + written_at x)
        by_end end.Written is d = under-way-written is
        by_end end.Skipped is d = under-way-skipped is
        by_end end.Waiting is d = absurd (cc)
        by_end (end.Failing cause) is d = absurd (cc)

    -- it waits at one
    gone-waiting : e ≡ end.Waiting → before + length rids < 2 ^ 64 → (row : Rid) (rows : List Rid) → row ≡ rid → rows ≡ rest → HasGone stage k g held' entry' marks' all (rows_end.Waiting row rows count)
    gone-waiting is room row rows at_row behind = record {
      moved = done_row.moved;
      at = came.at;
      is =
          sym (turn-end end.Waiting is)
          ∙ ap (λ (r : Rid). rule.suspends_at done_row.moved g k (rule.suspended_at k r rest count)) (sym at_row)
          ∙ ap (λ (rs : List Rid). rule.suspends_at done_row.moved g k (rule.suspended_at k row rs count)) (sym behind);
      waits = waits-end end.Waiting is;
      room = counted (length rows) (length rids) (ap length behind ∙ length-drop (index + 1) rids) was.room inside room;
    }
      where
        counted : (n all : ℕ) → n ≡ all - (index + 1) → count ≤ before + index → index < all → before + all < 2 ^ 64 → count + n + 1 < 2 ^ 64
        counted n all a b c d = omega (arith, a, b, c, d)

    -- it fails at one
    gone-failing : (cause : Cause) → e ≡ end.Failing cause → HasGone stage k g held' entry' marks' all (rows_end.Failing cause)
    gone-failing cause is = record {
      moved = done_row.moved;
      at = came.at;
      is = sym (turn-end (end.Failing cause) is);
      waits = waits-end (end.Failing cause) is;
      room = tt;
    }

    -- it isn't
    pub gone-at : (last : RowsEnd) → is_done_at (end_of e) ≡ false → before + length rids < 2 ^ 64 → last ≡ ended_at rids index count e → HasGone stage k g held' entry' marks' all last
    gone-at last undone room told = subst (HasGone stage k g held' entry' marks' all) (sym told) (by_end e refl undone)
      where
        by_end : (x : RowEnd) → e ≡ x → is_done_at (end_of x) ≡ false → HasGone stage k g held' entry' marks' all (ended_at rids index count x)
        by_end end.Written is d = absurd (cc)
        by_end end.Skipped is d = absurd (cc)
        by_end end.Waiting is d = gone-waiting is room rid rest refl refl
        by_end (end.Failing cause) is d = gone-failing cause is
