-- The segment on which a command runs shows what the segment shows with its horizon.
use Rattle.std.proofs.Common.{◌≡◌, ◌∙◌, ◌==◌, List, [], ◌∷◌, Bool, refl, ap, cond, ◌&&◌, ◌||◌, nat_lt}
use Rattle.std.specs.Prelude.{filter}
use Rattle.gx_ids.specs.declared.ids.Cid.{Cid}
use Rattle.gx_ids.specs.declared.ids.Gxid.{Gxid}
use Rattle.gx_ids.specs.declared.ids.Table.{Table}
use Rattle.gx_dsnap.specs.Gxids.{is_below}
use Rattle.gx_dsnap.specs.Snapshot.{sees}
use Rattle.gx_dsnap.specs.declared.snapshot.Snapshot.{Snapshot}
use Rattle.gx_store.specs.Marks.{is_same_gxid}
use Rattle.gx_rules.specs.AtSegment.{raised}
use Rattle.gx_rules.specs.Segments.{Phase, Seg, Version, has_committed, local_of}
use Rattle.gx_rules.specs.Shown.{counts, last_images, rows_in, shown}
use Rattle.gx_law_writes.proofs.VersionsTold.{IsOn}

filter-by : {A : Type 0} (p q : A → Bool) → ((x : A) → p x ≡ q x) → (xs : List A) → filter p xs ≡ filter q xs
filter-by p q e [] = refl
filter-by p q e (x ∷ xs) = ap (λ b. cond b (x ∷ filter p xs) (filter p xs)) (e x) ∙ ap (λ ys. cond (q x) (x ∷ ys) ys) (filter-by p q e xs)

module _ (s : Seg) (g horizon : Gxid) (b : Seg) (on : IsOn s g horizon b) (x : Snapshot) (c : Cid) (table : Table) where
  counts-on : (v : Version) → counts b x g c v ≡ counts (raised s horizon) x g c v
  counts-on v =
      ap (λ (p : Phase). (is_same_gxid v.gxid g && nat_lt v.cid.0 c.0) || (has_committed p && (is_below b.horizon v.gxid || sees x v.gxid))) (on.phases v.gxid)
      ∙ ap (λ (h : Gxid). (is_same_gxid v.gxid g && nat_lt v.cid.0 c.0) || (has_committed (local_of s v.gxid).phase && (is_below h v.gxid || sees x v.gxid))) on.at

  pub shown-on : shown b x g c table ≡ shown (raised s horizon) x g c table
  shown-on =
      ap (λ vs. rows_in (last_images (filter (λ (v : Version). (v.table.0 == table.0) && counts b x g c v) vs))) on.versions
      ∙ ap (λ vs. rows_in (last_images vs))
      (filter-by (λ (v : Version). (v.table.0 == table.0) && counts b x g c v) (λ (v : Version). (v.table.0 == table.0) && counts (raised s horizon) x g c v) (λ v. ap (λ q. (v.table.0 == table.0) && q) (counts-on v)) s.versions)
