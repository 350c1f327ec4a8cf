-- The tables that the nodes show at the ends of their histories are those of the merge.
use Rattle.std.proofs.Common.{◌≤◌, ℕ, zero, suc, ◌+◌, List, [], ◌∷◌, ◌++◌, sym, subst, ap, ◌∙◌}
use Rattle.std.specs.Prelude.{flat_map, get_or}
use Rattle.std.specs.declared.alloc.Global.{Global}
use Rattle.std.specs.declared.vec.Vec.{Vec}
use Rattle.gx_ids.specs.declared.ids.Node.{Node}
use Rattle.gx_ids.specs.declared.ids.Table.{Table}
use Rattle.gx_ids.specs.declared.rid.Rid.{Rid}
use Rattle.gx_script.specs.declared.Script.{Script}
use Rattle.gx_store.specs.declared.mark.Mark.{Mark}
use Rattle.gx_store.specs.declared.mark.Mark.TheVariants as mark
use Rattle.gx_store.specs.declared.run.Step.{Step}
use Rattle.gx_store.specs.Journals.{is_same_node}
use Rattle.gx_store.specs.Language.{AreLinesNumbered}
use Rattle.gx_store.specs.Points.{marks_in}
use Rattle.gx_store.specs.Rows.{row_at}
use Rattle.gx_store.specs.View.{AreFinalFrom}
use Rattle.gx_tree.specs.declared.row.KeyedRow.{KeyedRow}
use Rattle.gx_rules.specs.Coordinators.{Coord}
use Rattle.gx_rules.specs.Machine.{world_of}
use Rattle.gx_rules.specs.Segments.{Seg}
use Rattle.gx_rules.specs.Snapshots.{snapshot_of}
use Rattle.gx_law_answers.proofs.AtHome.{at-home}
use Rattle.gx_law_order.specs.Lists.{Each}
use Rattle.gx_law_order.proofs.Lists.{each_append, each_filter}
use Rattle.gx_law_reads.proofs.Seeing.{world-tables}
use Rattle.gx_law_reads.specs.Sights.{AreRowsOf, AreRowsOfAll, IsOnlyAt, shown_to_all}
use Rattle.gx_law_runs.proofs.Reaching.{replayed, rows-of-all}
use Rattle.gx_law_runs.specs.Reached.{IsReached}
use Rattle.gx_law_runs.specs.Replays.{segment_after, world_behind}
use Rattle.gx_law_merge.specs.Merge.{AreShown, DoFit, IsMergeOf, coordinator_in, world_apart}
use Rattle.gx_law_merge.proofs.Merging.{coordinator-at-end, merge-reached, segment-at-end}

-- WHERE ROWS ARE WRITTEN
-- the step writes the row at this node alone, if anywhere
abbrev IsStepOnlyAt : Node → Rid → Step → Type 0
IsStepOnlyAt node rid s = IsOnlyAt node rid s.marks

only-both : (node : Node) (rid : Rid) (xs ys : List Mark) → IsOnlyAt node rid (xs ++ ys) → IsOnlyAt node rid xs × IsOnlyAt node rid ys
only-both node rid [] ys only = (tt, only)
only-both node rid (mark.Write g c n table r image ∷ xs) ys only = let rest = only-both node rid xs ys only.1 in ((only.0, rest.0), rest.1)
only-both node rid (m ∷ xs) ys only = only-both node rid xs ys only

both-only : (node : Node) (rid : Rid) (xs ys : List Mark) → IsOnlyAt node rid xs → IsOnlyAt node rid ys → IsOnlyAt node rid (xs ++ ys)
both-only node rid [] ys a b = b
both-only node rid (mark.Write g c n table r image ∷ xs) ys a b = (a.0, both-only node rid xs ys a.1 b)
both-only node rid (m ∷ xs) ys a b = both-only node rid xs ys a b

each-only : (node : Node) (rid : Rid) (ss : List Step) → IsOnlyAt node rid (marks_in ss) → Each (IsStepOnlyAt node rid) ss
each-only node rid [] only = tt
each-only node rid (s ∷ ss) only = let both = only-both node rid s.marks (marks_in ss) only in (both.0, each-only node rid ss both.1)

only-each : (node : Node) (rid : Rid) (ss : List Step) → Each (IsStepOnlyAt node rid) ss → IsOnlyAt node rid (marks_in ss)
only-each node rid [] each = tt
only-each node rid (s ∷ ss) each = both-only node rid s.marks (marks_in ss) each.0 (only-each node rid ss each.1)

-- what holds in each history holds in all
all-histories : (P : Step → Type 0) (histories : List (List Step)) → ((k : ℕ) → Each P (get_or histories k [])) → Each P (flat_map (λ history. history) histories)
all-histories P [] each = tt
all-histories P (h ∷ hs) each = each_append P h (flat_map (λ history. history) hs) (each zero) (all-histories P hs (λ k. each (suc k)))

-- THE TABLES
module _ (script : Script) (some : 1 ≤ script.segments) (histories : List (List Step)) (fit : DoFit script histories) (steps : List Step) (merge : IsMergeOf histories steps) where
  only-apart : (node : Node) (rid : Rid) → IsOnlyAt node rid (marks_in steps) → IsOnlyAt node rid (marks_in (world_apart script histories).steps)
  only-apart node rid only =
      only-each node rid (world_apart script histories).steps
      (all-histories (IsStepOnlyAt node rid) histories
      (λ k. subst (λ ss. Each (IsStepOnlyAt node rid) ss) (merge.own (record { 0 = k })) (each_filter (IsStepOnlyAt node rid) (λ s. is_same_node s.stamp.node (record { 0 = k })) steps (each-only node rid steps only))))

  rows-merged : (table : Table) (rows : List KeyedRow) → AreRowsOf (world_apart script histories) table rows → AreRowsOf (world_behind script steps) table rows
  rows-merged table rows a =
      record {
        rising = a.rising;
        shown = λ node rid one only.
            a.shown node rid one (only-apart node rid only)
            ∙ ap (λ (s : Seg). row_at (shown_to_all s (snapshot_of (coordinator_in script histories).table) table) rid) (sym (segment-at-end script some histories fit steps merge (record { 0 = node.0 }) one))
            ∙ ap (λ (c : Coord). row_at (shown_to_all (segment_after script (record { 0 = node.0 }) steps) (snapshot_of c.table) table) rid) (sym (coordinator-at-end script some histories fit steps merge));
      }

  all-rows-merged : (k : ℕ) (tables : List (Vec KeyedRow Global)) → AreRowsOfAll k (world_apart script histories) tables → AreRowsOfAll k (world_behind script steps) tables
  all-rows-merged k [] a = tt
  all-rows-merged k (rows ∷ tables) a = (rows-merged (record { 0 = k }) rows.items a.0, all-rows-merged (k + 1) tables a.1)

  pub tables-shown : AreLinesNumbered [] script.lines → (tables : List (Vec KeyedRow Global)) → AreShown script histories tables → AreFinalFrom 0 (marks_in steps) tables
  tables-shown numbered tables shown =
      let reached : IsReached script steps = merge-reached script some histories fit steps merge in
      subst (λ ss. AreFinalFrom 0 (marks_in ss) tables) reached.is
      (world-tables script some reached.events tables 0 (at-home script some numbered reached.events)
      (rows-of-all script steps (world_of script reached.events) (replayed script steps reached) reached.is 0 tables (all-rows-merged 0 tables shown)))
