-- The rows of a view: of each row the last that shown writes say, unless that is gone.
use Rattle.std.proofs.Common.{◌≡◌, ◌==◌, List, [], ◌∷◌, Option, Some, None, Bool, true, false, refl, sym, ap, ◌∙◌, if◌then◌else◌, ◌&&◌, eqb}
use Rattle.std.specs.Option.{option_or}
use Rattle.gx_ids.specs.declared.ids.Cid.{Cid}
use Rattle.gx_ids.specs.declared.ids.Gxid.{Gxid}
use Rattle.gx_ids.specs.declared.ids.Table.{Table}
use Rattle.gx_ids.specs.declared.rid.Rid.{Rid}
use Rattle.gx_tree.specs.declared.row.KeyedRow.{KeyedRow}
use Rattle.gx_tree.specs.declared.value.Value.{Value}
use Rattle.gx_store.specs.declared.mark.Mark.{Mark}
use Rattle.gx_store.specs.declared.mark.Mark.TheVariants as mark
use Rattle.gx_store.specs.Marks.{is_same_rid}
use Rattle.gx_store.specs.View.{IsView, Reader, image_after, is_shown_to}
use Rattle.gx_rules.specs.Segments.{Version}
use Rattle.gx_rules.specs.Shown.{last_images, rows_in}
use Rattle.gx_rules.specs.Last.{last_image, row_of}
use Rattle.gx_rules.proofs.KeptImages.{image_in-last_images, in_order-last_images}
use Rattle.gx_rules.proofs.ShownRows.{rising-rows_in, row_at-rows_in}

abbrev Image : Type 0
Image = Option (List Value)

-- the last image, or the one given
abbrev or_image : Option Image → Image → Image
or_image None image = image
or_image (Some x) image = x

or-front : (o : Option Image) (d : Bool) (x image : Image) → or_image o (if d then x else image) ≡ or_image (option_or o (if d then Some x else None)) image
or-front None true x image = refl
or-front None false x image = refl
or-front (Some y) d x image = refl

row-of : (o : Option Image) → row_of o ≡ or_image o None
row-of None = refl
row-of (Some x) = refl

module _ (shown : Gxid → Cid → Bool) (table : Table) where
  -- the shown writes of the table, as versions
  abbrev written : List Mark → List Version
  written [] = []
  written (mark.Write g c n t r x ∷ ms) =
      if shown g c && (t.0 == table.0) then record { gxid = g; cid = c; table = t; rid = r; image = x } ∷ written ms else written ms
  written (_ ∷ ms) = written ms

  write-step : (rid : Rid) (v : Version) (ms : List Mark) (image : Image) (a b : Bool) → ((i : Image) → image_after shown table rid i ms ≡ or_image (last_image rid (written ms)) i) → image_after shown table rid (if a && (b && is_same_rid v.rid rid) then v.image else image) ms ≡ or_image (last_image rid (if a && b then v ∷ written ms else written ms)) image
  write-step rid v ms image true true more = more _ ∙ or-front (last_image rid (written ms)) (is_same_rid v.rid rid) v.image image
  write-step rid v ms image true false more = more image
  write-step rid v ms image false b more = more image

  image-is : (rid : Rid) (image : Image) (ms : List Mark) → image_after shown table rid image ms ≡ or_image (last_image rid (written ms)) image
  image-is rid image [] = refl
  image-is rid image (mark.Write g c n t r x ∷ ms) = write-step rid (record { gxid = g; cid = c; table = t; rid = r; image = x }) ms image (shown g c) (eqb t.0 table.0) (λ i. image-is rid i ms)
  image-is rid image (m ∷ ms) = image-is rid image ms

-- every view has its rows
abbrev pub view_rows : List Mark → List Mark → Reader → Table → List KeyedRow
view_rows marks before reader table = rows_in (last_images (written (is_shown_to reader before) table marks))

pub view-is : (marks before : List Mark) (reader : Reader) (table : Table) → IsView marks before reader table (view_rows marks before reader table)
view-is marks before reader table =
    let vs : List Version = written (is_shown_to reader before) table marks in
    record {
      rising = rising-rows_in (last_images vs) (in_order-last_images vs);
      images = λ rid.
          row_at-rows_in (last_images vs) rid (in_order-last_images vs)
          ∙ ap row_of (image_in-last_images vs rid)
          ∙ row-of (last_image rid vs)
          ∙ sym (image-is (is_shown_to reader before) table rid None marks);
    }
