-- The tables that nodes apart show are the final tables of the merge of their histories.
use Rattle.std.proofs.Common.{◌≡◌, ◌≤◌, ◌+◌, ◌∙◌, ℕ, zero, suc, List, [], ◌∷◌, Some, arith, refl, subst, sym}
use Rattle.std.specs.Prelude.{flat_map, map, slice_get}
use Rattle.std.proofs.lemmas.List.{length-map}
use Rattle.std.proofs.lemmas.List.Folds.{flat_map-map}
use Rattle.std.specs.declared.alloc.Global.{Global}
use Rattle.std.specs.declared.vec.Vec.{Vec}
use Rattle.gx_lemmas.proofs.Options.{some-same}
use Rattle.gx_script.specs.declared.Script.{Script}
use Rattle.gx_store.specs.Language.{IsScript}
use Rattle.gx_store.specs.Points.{marks_in}
use Rattle.gx_store.specs.View.{AreFinalFrom}
use Rattle.gx_store.specs.declared.run.Step.{Step}
use Rattle.gx_rules.specs.Segments.{Seg}
use Rattle.gx_rules.specs.Shown.{shown}
use Rattle.gx_rules.specs.Snapshots.{snapshot_of}
use Rattle.gx_segment.specs.Steps.{nobody, no_command}
use Rattle.gx_ids.specs.declared.ids.Table.{Table}
use Rattle.gx_dsnap.specs.declared.snapshot.Snapshot.{Snapshot}
use Rattle.gx_tree.specs.declared.row.KeyedRow.{KeyedRow}
use Rattle.gx_law_merge.proofs.Merging.{coordinator-at-end, merge-reached, segment-at-end}
use Rattle.gx_law_merge.specs.Merge.{DoFit, IsMergeOf}
use Rattle.gx_tables.proofs.Finals.{tables-are-final}
use Rattle.gx_tables.specs.Left.{AreLeftBy}
use Rattle.gx_tables.specs.Tables.{AreTablesOf, shown_by}
use Rattle.gx_cells.specs.Closed.{AreHeldThere, histories_of}
use Rattle.gx_cells.specs.CoordViews.{CoordView, coord_data}
use Rattle.gx_cells.specs.Views.{SegmentView, data_of, rows_of}

-- what the cells show of a table, one behind the other
pub rows-shown : (segments : List SegmentView) (snapshot : Snapshot) (table : Table) → flat_map (rows_of snapshot table) segments ≡ shown_by (map data_of segments) snapshot table
rows-shown segments snapshot table = sym (flat_map-map (λ s. shown s snapshot nobody no_command table) data_of segments)

one : (k : ℕ) → 1 ≤ k + 1
one k = omega arith

mapped : (segments : List SegmentView) (k : ℕ) (s : Seg) → slice_get (map data_of segments) k ≡ Some s → (v : SegmentView) × (slice_get segments k ≡ Some v) × (data_of v ≡ s)
mapped [] k s at = absurd (cc)
mapped (v ∷ vs) zero s at = (v, refl, some-same (data_of v) s at)
mapped (v ∷ vs) (suc k) s at = mapped vs k s at

module _ (coord : CoordView) (segments : List SegmentView) (language : IsScript coord.script) (fit : DoFit coord.script (histories_of coord segments)) (steps : List Step) (merge : IsMergeOf (histories_of coord segments) steps) (held : AreHeldThere coord segments) where
  left : AreLeftBy coord.script steps (coord_data coord) (map data_of segments)
  left =
      record {
        reached = merge-reached coord.script language.some_segments (histories_of coord segments) fit steps merge;
        coordinator = coordinator-at-end coord.script language.some_segments (histories_of coord segments) fit steps merge ∙ held.coordinator;
        count = length-map segments data_of ∙ held.count;
        each = λ k s at.
            let v = mapped segments k s at in
            segment-at-end coord.script language.some_segments (histories_of coord segments) fit steps merge (record { 0 = k + 1 }) (one k) ∙ held.each k v.0 v.1 ∙ v.2;
      }

  shown-final : (tables : List (Vec KeyedRow Global)) → AreTablesOf (map data_of segments) (snapshot_of (coord_data coord).table) 0 tables → AreFinalFrom 0 (marks_in steps) tables
  shown-final tables are = tables-are-final coord.script language steps (coord_data coord) (map data_of segments) left tables are

-- of cells that were closed, whose script is this one
pub ended-tables : (coord : CoordView) (segments : List SegmentView) (script : Script) → IsScript script → coord.script ≡ script → AreHeldThere coord segments
    → (histories : List (List Step)) → histories ≡ histories_of coord segments → DoFit coord.script histories → (steps : List Step) → IsMergeOf histories steps
    → (tables : List (Vec KeyedRow Global)) → AreTablesOf (map data_of segments) (snapshot_of (coord_data coord).table) 0 tables → AreFinalFrom 0 (marks_in steps) tables
ended-tables coord segments script language of held histories are fit steps merge tables shown =
    shown-final coord segments (subst IsScript (sym of) language) (subst (DoFit coord.script) are fit) steps (subst (λ h. IsMergeOf h steps) are merge) held tables shown
