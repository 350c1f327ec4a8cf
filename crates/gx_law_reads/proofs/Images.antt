-- A row's image is what the last of the counting versions at its node says.
use Rattle.std.proofs.Common.{◌≡◌, List, [], ◌∷◌, Option, Some, None, Bool, true, false, refl, sym, ap, ◌∙◌, cond, if◌then◌else◌, ◌==◌, ◌&&◌, ◌||◌, arith, eqb}
use Rattle.std.specs.Prelude.{filter}
use Rattle.std.specs.Option.{option_or}
use Rattle.std.proofs.lemmas.Bool.{or_right}
use Rattle.gx_lemmas.proofs.Numbers.{eqb-self}
use Rattle.gx_lemmas.proofs.Tests.{and-last, false-true}
use Rattle.gx_ids.specs.declared.ids.Cid.{Cid}
use Rattle.gx_ids.specs.declared.ids.Gxid.{Gxid}
use Rattle.gx_ids.specs.declared.ids.Node.{Node}
use Rattle.gx_ids.specs.declared.ids.Table.{Table}
use Rattle.gx_ids.specs.declared.rid.Rid.{Rid}
use Rattle.gx_tree.specs.declared.value.Value.{Value}
use Rattle.gx_store.specs.declared.mark.Mark.{Mark}
use Rattle.gx_store.specs.declared.mark.Mark.TheVariants as mark
use Rattle.gx_store.specs.Journals.{is_same_node}
use Rattle.gx_store.specs.Marks.{is_same_gxid, is_same_rid}
use Rattle.gx_store.specs.Protocol.{is_writer}
use Rattle.gx_store.specs.View.{image_after}
use Rattle.gx_rules.specs.Segments.{Version}
use Rattle.gx_law_order.proofs.Lists.{each_weaker}
use Rattle.gx_law_order.specs.Lists.{Each}
use Rattle.gx_law_order.proofs.SegItems.{writes_at}
use Rattle.gx_rules.specs.Last.{last_image, row_of}
use Rattle.gx_law_reads.specs.Sights.{IsOnlyAt}

abbrev Image : Type 0
Image = Option (List Value)

-- the last image, or the one given
abbrev or_image : Option Image → Image → Image
or_image None image = image
or_image (Some x) image = x

or-front : (o : Option Image) (d : Bool) (x image : Image) → or_image o (if d then x else image) ≡ or_image (option_or o (if d then Some x else None)) image
or-front None true x image = refl
or-front None false x image = refl
or-front (Some y) d x image = refl

row-of : (o : Option Image) → row_of o ≡ or_image o None
row-of None = refl
row-of (Some x) = refl

module _ (node : Node) (table : Table) (rid : Rid) (q : Version → Bool) (shown : Gxid → Cid → Bool) where
  abbrev passes : Version → Bool
  passes v = (v.table.0 == table.0) && q v

  abbrev left : List Version → Option Image
  left vs = last_image rid (filter passes vs)

  -- one version in front
  front : (v : Version) (vs : List Version) (image : Image) (b : Bool) → passes v ≡ b → or_image (left vs) (if b && is_same_rid v.rid rid then v.image else image) ≡ or_image (left (v ∷ vs)) image
  front v vs image true e = or-front (left vs) (is_same_rid v.rid rid) v.image image ∙ ap (λ z. or_image (last_image rid (cond z (v ∷ filter passes vs) (filter passes vs))) image) (sym e)
  front v vs image false e = ap (λ z. or_image (last_image rid (cond z (v ∷ filter passes vs) (filter passes vs))) image) (sym e)

  same-test : (s t d q : Bool) → q ≡ s → (s && (t && d)) ≡ ((t && q) && d)
  same-test s t d q e = grind arith

  not-true : (d : Bool) → (d ≡ true → false ≡ true) → d ≡ false
  not-true true f = absurd (false-true (f refl))
  not-true false f = refl

  images-are : (ms : List Mark) (image : Image) → IsOnlyAt node rid ms → Each (λ (v : Version). q v ≡ shown v.gxid v.cid) (writes_at node ms) → image_after shown table rid image ms ≡ or_image (left (writes_at node ms)) image
  images-are [] image o e = refl
  images-are (mark.Write g c n t r x ∷ ms) image o e = by_node (is_same_node n node) refl e (λ i f. images-are ms i o.1 f)
    where
      v : Version
      v = record { gxid = g; cid = c; table = t; rid = r; image = x }

      by_node : (a : Bool) → is_same_node n node ≡ a → Each (λ (v : Version). q v ≡ shown v.gxid v.cid) (if a then v ∷ writes_at node ms else writes_at node ms) → ((i : Image) → Each (λ (v : Version). q v ≡ shown v.gxid v.cid) (writes_at node ms) → image_after shown table rid i ms ≡ or_image (left (writes_at node ms)) i) → image_after shown table rid (if shown g c && ((t.0 == table.0) && is_same_rid r rid) then x else image) ms ≡ or_image (left (if a then v ∷ writes_at node ms else writes_at node ms)) image
      by_node true a e more =
          more _ e.1
          ∙ ap (λ b. or_image (left (writes_at node ms)) (if b then x else image)) (same-test (shown g c) (eqb t.0 table.0) (is_same_rid r rid) (q v) e.0)
          ∙ front v (writes_at node ms) image (passes v) refl
      by_node false a e more =
          ap (λ b. image_after shown table rid (if b then x else image) ms) (and-last (shown g c) (eqb t.0 table.0) (is_same_rid r rid) (not-true (is_same_rid r rid) (λ d. sym a ∙ o.0 d)))
          ∙ more image e
  images-are (m ∷ ms) image o e = images-are ms image o e

  pub row-is : (ms : List Mark) → IsOnlyAt node rid ms → Each (λ (v : Version). q v ≡ shown v.gxid v.cid) (writes_at node ms) → row_of (last_image rid (filter (λ (v : Version). (v.table.0 == table.0) && q v) (writes_at node ms))) ≡ image_after shown table rid None ms
  row-is ms o e = row-of (left (writes_at node ms)) ∙ sym (images-are ms None o e)

-- whoever has a version at a node has written there
pub versions-written : (node : Node) (ms : List Mark) → Each (λ (v : Version). is_writer ms v.gxid node ≡ true) (writes_at node ms)
versions-written node [] = tt
versions-written node (mark.Write g c n t r x ∷ ms) = by_node (is_same_node n node) refl (versions-written node ms)
  where
    both : (a b d : Bool) → a ≡ true → b ≡ true → ((a && b) || d) ≡ true
    both a b d e f = grind arith

    rest : Each (λ (v : Version). is_writer ms v.gxid node ≡ true) (writes_at node ms) → Each (λ (v : Version). is_writer (mark.Write g c n t r x ∷ ms) v.gxid node ≡ true) (writes_at node ms)
    rest e = each_weaker (λ (v : Version). is_writer ms v.gxid node ≡ true) (λ (v : Version). is_writer (mark.Write g c n t r x ∷ ms) v.gxid node ≡ true) (λ v f. or_right (is_same_gxid g v.gxid && is_same_node n node) (is_writer ms v.gxid node) f) (writes_at node ms) e

    by_node : (a : Bool) → is_same_node n node ≡ a → Each (λ (v : Version). is_writer ms v.gxid node ≡ true) (writes_at node ms) → Each (λ (v : Version). is_writer (mark.Write g c n t r x ∷ ms) v.gxid node ≡ true) (if a then record { gxid = g; cid = c; table = t; rid = r; image = x } ∷ writes_at node ms else writes_at node ms)
    by_node true a e = (both (is_same_gxid g g) (is_same_node n node) (is_writer ms g node) (eqb-self g.0) a, rest e)
    by_node false a e = rest e
versions-written node (m ∷ ms) = versions-written node ms
