-- The texts of locks, wait graphs and the detector's verdicts.
use Rattle.std.specs.Prelude.{ℕ, if◌then◌else◌, List, [], ◌∷◌, ◌++◌, codes}
use Rattle.std.specs.List.{flat_map}
use Rattle.std.specs.Fmt.{decimal}
use Rattle.std.specs.Ordering.{bool_cmp, nat_cmp, ordering_then}
use Rattle.std.specs.declared.cmp.Ordering.{Ordering}
use Rattle.gx_ids.specs.Rid.{text_of as rid_text}
use Rattle.gx_ids.specs.declared.ids.Node.{Node}
use Rattle.gx_modes.specs.Table.{number_of}
use Rattle.gx_modes.specs.declared.modes.Mode.{Mode}
use Rattle.gx_waits.specs.declared.edge.Edge.{Edge}
use Rattle.gx_waits.specs.declared.graph.LocalGraph.{LocalGraph}
use Rattle.gx_waits.specs.declared.object.Object.{Object}
use Rattle.gx_waits.specs.declared.object.Object.TheVariants.{Relation, Tuple, Transaction}
use Rattle.gx_waits.specs.declared.verdict.Verdict.{Verdict}
use Rattle.gx_waits.specs.declared.verdict.Verdict.TheVariants.{Nothing, Dropped, Victims}
use Rattle.gx_meaning.specs.Order.{in_order}
use Rattle.gx_script.specs.declared.Script.{Script}
use Rattle.gx_store.specs.Refusals.{the_coordinator}
use Rattle.gx_report.specs.Words.{gxid_text, number_text, table_name, word_text, words_text}

abbrev pub object_text : Script → Object → List ℕ
object_text script (Relation table) = codes " relation" ++ word_text (table_name script table)
object_text script (Tuple rid) = codes " tuple" ++ word_text (rid_text rid)
object_text script (Transaction gxid) = words_text (codes " transaction") (gxid.0 ∷ [])

-- what a lock is taken on, and the number of its mode
abbrev pub lock_text : Script → Object → Mode → List ℕ
lock_text script object mode = object_text script object ++ number_text (number_of mode)

-- by waiter, then by holder, and solid before dotted
abbrev pub edge_order : Edge → Edge → Ordering
edge_order a b = ordering_then (nat_cmp a.waiter.0 b.waiter.0) (ordering_then (nat_cmp a.holder.0 b.holder.0) (bool_cmp a.dotted b.dotted))

-- who waits for whom, and whether the edge is dotted
abbrev pub edge_text : Edge → List ℕ
edge_text edge = gxid_text edge.waiter ++ codes ">" ++ decimal edge.holder.0 ++ (if edge.dotted then codes "~" else [])

-- the wait graph of a node for a round
abbrev pub report_text : Node → ℕ → LocalGraph → List ℕ
report_text node round graph = words_text (codes "report") (node.0 ∷ round ∷ []) ++ codes ":" ++ flat_map edge_text (in_order edge_order graph.edges)

abbrev pub verdict_text : Verdict → List ℕ
verdict_text Nothing = codes " nothing"
verdict_text (Dropped gxid) = words_text (codes " dropped") (gxid.0 ∷ [])
verdict_text (Victims gxids) = codes " victims" ++ flat_map gxid_text gxids

-- the coordinator's own graph on a line of its own, and then the verdict
abbrev pub recheck_text : ℕ → LocalGraph → Verdict → List ℕ
recheck_text round own verdict = report_text the_coordinator round own ++ codes "\n  " ++ words_text (codes "recheck") (round ∷ []) ++ codes ":" ++ verdict_text verdict
