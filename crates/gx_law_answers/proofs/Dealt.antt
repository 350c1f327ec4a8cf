-- Rows that are dealt to nodes, of which none stands twice, are divided.
use Rattle.std.proofs.Common.{ℕ, ◌≡◌, ◌==◌, ◌∙◌, ◌||◌, Bool, true, false, not, List, [], ◌∷◌, ◌++◌, filter, map, refl, ap, subst, arith, eqb}
use Rattle.std.proofs.lemmas.Bool.Decides.{nat_tests}
use Rattle.std.proofs.lemmas.List.Sorted.{IsPermutation-append_right, IsPermutation-filter_both, IsPermutation-refl, IsPermutation-trans}
use Rattle.std.specs.List.{AllByRecursion}
use Rattle.std.specs.List.Sorted.{IsPermutation}
use Rattle.std.proofs.lemmas.Bool.{or_parts}
use Rattle.gx_lemmas.proofs.Tests.{false-true}
use Rattle.gx_ids.specs.declared.ids.Node.{Node}
use Rattle.gx_tree.specs.declared.row.KeyedRow.{KeyedRow}
use Rattle.gx_dtx.specs.Nodes.{has}
use Rattle.gx_meaning.specs.Answer.{together}
use Rattle.gx_gather.proofs.Keys.{filter-through}
use Rattle.gx_law_answers.proofs.Rising.{to-filter}

abbrev pub AreApartNodes : List Node → Type 0
AreApartNodes [] = Unit {0}
AreApartNodes (n ∷ ns) = (has n ns ≡ false) × AreApartNodes ns

abbrev pub at : ℕ → Node
at k = record { 0 = k }

module _ (owner : KeyedRow → ℕ) where
  abbrev pub part : List KeyedRow → Node → List KeyedRow
  part rows node = filter (λ row. owner row == node.0) rows

  abbrev others : Node → List KeyedRow → List KeyedRow
  others node rows = filter (λ row. not (owner row == node.0)) rows

  abbrev Within : List Node → List KeyedRow → Type 0
  Within nodes rows = AllByRecursion (λ row. has (at (owner row)) nodes ≡ true) rows

  apart : (o i k : ℕ) → eqb i k ≡ false → eqb o i ≡ true → not (eqb o k) ≡ true
  apart o i k e is = grind (arith, nat_tests)

  part-others : (node other : Node) (rows : List KeyedRow) → eqb other.0 node.0 ≡ false → part (others node rows) other ≡ part rows other
  part-others node other rows e = filter-through (λ row. owner row == other.0) (λ row. not (owner row == node.0)) (λ row is. apart (owner row) other.0 node.0 e is) rows

  parts-others : (node : Node) (nodes : List Node) (rows : List KeyedRow) → has node nodes ≡ false → map (part (others node rows)) nodes ≡ map (part rows) nodes
  parts-others node [] rows e = refl
  parts-others node (n ∷ ns) rows e =
      let both = or_parts (eqb n.0 node.0) (has node ns) e in
      ap (λ l. l ∷ map (part (others node rows)) ns) (part-others node n rows both.0) ∙ ap (λ l. part rows n ∷ l) (parts-others node ns rows both.1)

  within-one : (o k : ℕ) (b : Bool) → (eqb k o || b) ≡ true → not (eqb o k) ≡ true → b ≡ true
  within-one o k b e f = grind (arith, nat_tests)

  all-weaker : (P Q : KeyedRow → Type 0) → ((row : KeyedRow) → P row → Q row) → (rows : List KeyedRow) → AllByRecursion P rows → AllByRecursion Q rows
  all-weaker P Q f [] all = tt
  all-weaker P Q f (row ∷ rows) all = (f row all.0, all-weaker P Q f rows all.1)

  within-others : (node : Node) (nodes : List Node) (rows : List KeyedRow) → Within (node ∷ nodes) rows → Within nodes (others node rows)
  within-others node nodes rows all =
      to-filter (λ row. not (owner row == node.0)) (λ row. has (at (owner row)) nodes ≡ true) rows
      (all-weaker (λ row. has (at (owner row)) (node ∷ nodes) ≡ true) (λ row. not (owner row == node.0) ≡ true → has (at (owner row)) nodes ≡ true) (λ row e t. within-one (owner row) node.0 (has (at (owner row)) nodes) e t) rows all)

  none-within : (rows : List KeyedRow) → Within [] rows → IsPermutation rows []
  none-within [] all = IsPermutation-refl []
  none-within (row ∷ rows) all = absurd (false-true all.0)

  pub divided : (nodes : List Node) (rows : List KeyedRow) → AreApartNodes nodes → Within nodes rows → IsPermutation rows (together (map (part rows) nodes))
  divided [] rows distinct all = none-within rows all
  divided (node ∷ nodes) rows distinct all =
      let rest = divided nodes (others node rows) distinct.1 (within-others node nodes rows all) in
      let here = IsPermutation-filter_both (λ row. owner row == node.0) (λ row. not (owner row == node.0)) (λ row. refl) rows in
      let both = IsPermutation-trans rows (part rows node ++ others node rows) (part rows node ++ together (map (part (others node rows)) nodes)) here
      (IsPermutation-append_right (part rows node) (others node rows) (together (map (part (others node rows)) nodes)) rest) in
      subst (λ parts. IsPermutation rows (part rows node ++ together parts)) (parts-others node nodes rows distinct.0) both
