-- A SELECT that is gathered from the parts of the nodes of its plan answers its query on the rows that it sees.
use Rattle.std.proofs.Common.{ℕ, ◌≤◌, ◌≡◌, ◌==◌, inl, inr, ◌∙◌, true, cond, List, [], ◌∷◌, filter, map, refl, ap, sym}
use Rattle.std.proofs.lemmas.List.Elements.{filter_passes, recursion_from_All}
use Rattle.std.specs.List.{AllByRecursion}
use Rattle.gx_lemmas.proofs.Tests.{false-true}
use Rattle.gx_ids.specs.declared.ids.Cid.{Cid}
use Rattle.gx_ids.specs.declared.ids.Gxid.{Gxid}
use Rattle.gx_ids.specs.declared.ids.Node.{Node}
use Rattle.gx_tree.specs.declared.query.Query.{Query}
use Rattle.gx_tree.specs.declared.row.KeyedRow.{KeyedRow}
use Rattle.gx_tree.specs.declared.schema.Dist.{Dist}
use Rattle.gx_dtx.specs.Nodes.{has}
use Rattle.gx_meaning.specs.Answer.{ArePartsOf, answer_of, grouped_answer, keeps, limited, part_of, plain_answer}
use Rattle.gx_meaning.specs.Target.{target_of}
use Rattle.gx_meaning.specs.Plan.{nodes_of}
use Rattle.gx_script.specs.declared.Script.{Script}
use Rattle.gx_store.specs.declared.mark.Mark.{Mark}
use Rattle.gx_store.specs.Writes.{dist_of}
use Rattle.gx_meaning.specs.Merged.{merged_answer}
use Rattle.gx_law_order.specs.Lists.{Each}
use Rattle.gx_law_order.specs.Gathering.{AreAll, AreApart, Taken, nodes_taken, parts_taken}
use Rattle.gx_law_writes.specs.Homes.{IsPlacedMark}
use Rattle.gx_law_answers.specs.Keyed.{AreRowsKeyed}
use Rattle.gx_law_answers.specs.Parts.{HasItsPart, SaysItsPart}
use Rattle.gx_law_answers.proofs.Dealt.{AreApartNodes, at, divided, part}
use Rattle.gx_law_answers.proofs.Merging.{merged-answer}
use Rattle.gx_law_answers.proofs.Rows.{Stands, all-both, all-filter, all-stand, keeps-false, owner, part-is, seen, seen-rises}
use Rattle.gx_law_answers.proofs.Rising.{filter-comm, filter-twice, rising-filter}

apart-nodes : (taken : List Taken) → AreApart taken → AreApartNodes (nodes_taken taken)
apart-nodes [] a = tt
apart-nodes (t ∷ ts) a = (a.0, apart-nodes ts a.1)

-- ---- the query
module _ (script : Script) (some : 1 ≤ script.segments) (keyed : AreRowsKeyed script) (marks before : List Mark) (placed : Each (IsPlacedMark script marks) marks) (g : Gxid) (c : Cid) (query : Query) where
  abbrev n : ℕ
  n = script.segments

  abbrev dist : Dist
  dist = dist_of script.tables query.table.0

  abbrev its-owner : KeyedRow → ℕ
  its-owner row = owner script some keyed marks before placed g c query.table query.cond row

  abbrev all-seen : List KeyedRow
  all-seen = seen script some keyed marks before placed g c query.table query.cond

  abbrev kept : List KeyedRow
  kept = filter (keeps query.cond) all-seen

  abbrev Says : Taken → Type 0
  Says t = SaysItsPart marks before t.node g c query t.part

  has-part : (t : Taken) → Says t → HasItsPart marks before t.node g c query.table query.cond
  has-part t s = record { rows = s.rows; of = s.of; whole = s.whole }

  pub have-parts : (taken : List Taken) → AreAll (λ t. SaysItsPart marks before t.node g c query t.part) taken → AreAll (λ t. HasItsPart marks before t.node g c query.table query.cond) taken
  have-parts [] all = tt
  have-parts (t ∷ ts) all = (has-part t all.0, have-parts ts all.1)

  its-part : (t : Taken) → Says t → t.part ≡ part_of query (part its-owner kept t.node)
  its-part t s =
      s.said ∙ ap (λ rows. part_of query (filter (keeps query.cond) rows)) (part-is script some keyed marks before placed g c query.table query.cond t.node s.rows s.of)
      ∙ ap (part_of query) (filter-comm (keeps query.cond) (λ row. its-owner row == t.node.0) all-seen)

  parts-are : (taken : List Taken) → AreAll Says taken → parts_taken taken ≡ map (part_of query) (map (part its-owner kept) (nodes_taken taken))
  parts-are [] all = refl
  parts-are (t ∷ ts) all = ap (λ p. p ∷ parts_taken ts) (its-part t all.0) ∙ ap (λ ps. part_of query (part its-owner kept t.node) ∷ ps) (parts-are ts all.1)

  module _ (taken : List Taken) (says : AreAll Says taken) (distinct : AreApart taken) (all : (i : Node) → has i (nodes_of n (target_of n dist query.cond)) ≡ has i (nodes_taken taken)) where
    abbrev StandsThere : KeyedRow → Type 0
    StandsThere row = Stands script some keyed marks before placed g c query.table query.cond taken all row

    kept-within : AllByRecursion (λ row. has (at (its-owner row)) (nodes_taken taken) ≡ true) kept
    kept-within =
        all-both StandsThere (λ row. keeps query.cond row ≡ true) (λ row. has (at (its-owner row)) (nodes_taken taken) ≡ true) one kept
        (all-filter (keeps query.cond) StandsThere all-seen (all-stand script some keyed marks before placed g c query.table query.cond taken all))
        (recursion_from_All (λ row. keeps query.cond row ≡ true) kept (filter_passes (keeps query.cond) all-seen))
      where
        one : (row : KeyedRow) → StandsThere row → keeps query.cond row ≡ true → has (at (its-owner row)) (nodes_taken taken) ≡ true
        one row (inl e) t = e
        one row (inr e) t = absurd (false-true (sym (keeps-false query.cond row e) ∙ t))

    parts-of : ArePartsOf query kept (parts_taken taken)
    parts-of = record {
      dealt = map (part its-owner kept) (nodes_taken taken);
      division = divided its-owner (nodes_taken taken) kept (apart-nodes taken distinct) kept-within;
      each = parts-are taken says;
      rising = rising-filter (keeps query.cond) all-seen (seen-rises script some keyed marks before placed g c query.table query.cond);
      kept = filter_passes (keeps query.cond) all-seen;
    }

    pub merged : merged_answer query (parts_taken taken) ≡ answer_of query (seen script some keyed marks before placed g c query.table query.cond)
    merged =
        merged-answer query kept (parts_taken taken) parts-of
        ∙ ap (λ (rows : List KeyedRow). limited query.limit (cond query.grouped (grouped_answer query rows) (plain_answer query rows))) (filter-twice (keeps query.cond) all-seen)
