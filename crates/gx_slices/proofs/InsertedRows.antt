-- Rows that are inserted, one after another, behind marks before them.
use Rattle.std.proofs.Common.{◌≡◌, ◌≤◌, ◌<◌, ◌+◌, ℕ, zero, suc, false, List, [], ◌∷◌, ◌++◌, length, drop, get_or, append-nil, refl, sym, ap, ◌∙◌, subst, arith}
use Rattle.std.proofs.lemmas.List.{drop_all}
use Rattle.std.specs.List.{list_any}
use Rattle.std.specs.Prelude.{Some, fold}
use Rattle.gx_ids.specs.declared.ids.Cid.{Cid}
use Rattle.gx_ids.specs.declared.ids.Gxid.{Gxid}
use Rattle.gx_ids.specs.declared.ids.Node.{Node}
use Rattle.gx_ids.specs.declared.ids.Table.{Table}
use Rattle.gx_tree.specs.declared.row.KeyedRow.{KeyedRow}
use Rattle.gx_tree.specs.declared.value.Value.{Value}
use Rattle.gx_waits.specs.Claims.{is_of}
use Rattle.gx_store.specs.declared.mark.Mark.{Mark}
use Rattle.gx_rules.specs.Segments.{Seg}
use Rattle.gx_rules.specs.Slices.{Moved, inserted, inserts_row, starts_from}
use Rattle.gx_slices.specs.Apart.{IsApart}
use Rattle.gx_slices.specs.Inserts.{IsInserted, IsPut}
use Rattle.gx_slices.specs.declared.held.Entry.{Entry}
use Rattle.gx_slices.specs.declared.held.Held.{Held}
use Rattle.gx_slices.proofs.Adding.{IsApart-written, free-written, told-behind}

-- the rows so far are in, and these are left
pub record IsInserting (start : Seg) (g : Gxid) (c : Cid) (table : Table) (rows left : List KeyedRow) (first held : Held) (entry : Entry) (before marks : List Mark) : Type 0 where
  pub moved : Moved
  pub apart : IsApart start first held entry g moved.seg
  pub free : list_any (is_of g) moved.seg.locks.waits ≡ false
  pub told : marks ≡ before ++ moved.marks
  pub rest : fold (inserts_row g c table) moved left ≡ inserted start g c table rows

fold-next : {A X : Type 0} (f : A → X → A) (a : A) (xs : List X) (i : ℕ) (d : X) → i < length xs → fold f (f a (get_or xs i d)) (drop (i + 1) xs) ≡ fold f a (drop i xs)
fold-next f a [] i d inside = absurd (omega (arith, inside))
fold-next f a (x ∷ xs) zero d inside = refl
fold-next f a (x ∷ xs) (suc i) d inside = ap (λ k. fold f (f a (get_or xs i d)) (drop k (x ∷ xs))) (next i) ∙ fold-next f a xs i d (omega (arith, inside))
  where
    next : (i : ℕ) → suc i + 1 ≡ suc (i + 1)
    next i = omega arith

module _ (start : Seg) (g : Gxid) (c : Cid) (table : Table) (rows : List KeyedRow) (first : Held) (before : List Mark) where
  pub none-inserted : (entry : Entry) → IsApart start first first entry g start → list_any (is_of g) start.locks.waits ≡ false → IsInserting start g c table rows rows first first entry before before
  none-inserted entry apart free = record { moved = starts_from start; apart = apart; free = free; told = sym (append-nil before); rest = refl }

  pub one-inserted : (node : Node) (i : ℕ) (row d : KeyedRow) (image : List Value) (held held' : Held) (entry entry' : Entry) (marks marks' : List Mark) → i < length rows → row ≡ get_or rows i d → image ≡ row.row → node ≡ start.node → IsPut g c node table row.rid (Some image) held held' entry entry' marks marks'
      → IsInserting start g c table rows (drop i rows) first held entry before marks → IsInserting start g c table rows (drop (i + 1) rows) first held' entry' before marks'
  one-inserted node i row d image held held' entry entry' marks marks' inside read is at put was =
      let put' = subst (λ (values : List Value). IsPut g c node table row.rid (Some values) held held' entry entry' marks marks') is put in
      record {
        moved = inserts_row g c table was.moved row;
        apart = IsApart-written start first held held' g c node table row.rid (Some row.row) was.moved entry entry' marks marks' was.apart put';
        free = free-written start first held held' g c node table row.rid (Some row.row) was.moved entry entry' marks marks' was.apart put' was.free;
        told = told-behind start first held held' g c node table row.rid (Some row.row) was.moved entry entry' marks marks' was.apart put' before at was.told;
        rest = ap (λ (r : KeyedRow). fold (inserts_row g c table) (inserts_row g c table was.moved r) (drop (i + 1) rows)) read ∙ fold-next (inserts_row g c table) was.moved rows i d inside ∙ was.rest;
      }

  pub all-inserted : (i : ℕ) (held : Held) (entry : Entry) (marks : List Mark) → length rows ≤ i → IsInserting start g c table rows (drop i rows) first held entry before marks → IsInserted start g c table rows first held entry before marks
  all-inserted i held entry marks past was =
      let whole : was.moved ≡ inserted start g c table rows = sym (ap (fold (inserts_row g c table) was.moved) (drop_all i rows past)) ∙ was.rest in
      record {
        apart = subst (λ (m : Moved). IsApart start first held entry g m.seg) whole was.apart;
        free = subst (λ (m : Moved). list_any (is_of g) m.seg.locks.waits ≡ false) whole was.free;
        told = was.told ∙ ap (λ (m : Moved). before ++ m.marks) whole;
      }
