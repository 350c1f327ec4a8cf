-- The first transaction, once its commands went to nodes 1 and 2, may have written at both.
use Rattle.std.proofs.Common.{◌≡◌, ◌<◌, ℕ, zero, suc, List, [], ◌∷◌, slice_index_or, refl, sym, ap, ◌∙◌, subst, arith}
use Rattle.std.specs.Prelude.{IsTrue}
use Rattle.std.specs.List.Sorted.{IsStrictlySortedBy}
use Rattle.gx_ids.specs.declared.ids.Gxid.{Gxid}
use Rattle.gx_ids.specs.declared.ids.Node.{Node}
use Rattle.gx_dtx.specs.Nodes.{AreRising, has}
use Rattle.gx_dtx.specs.Table.{Table, new_table, participants_of}
use Rattle.gx_dtx.specs.Rules.{AreWriters, begun, enlisted}

abbrev first : Gxid
first = record { 0 = 1 }

abbrev node : ℕ → Node
node number = record { 0 = number }

abbrev both : List Node
both = node 1 ∷ node 2 ∷ []

abbrev table : Table
table = enlisted (enlisted (begun new_table) first (node 1)) first (node 2)

rising : AreRising both
unfolding IsStrictlySortedBy
rising = ((refl, tt), (tt, tt))

among : (k : ℕ) (d : Node) → k < 2 → IsTrue (has (slice_index_or both k d) (participants_of table first))
among zero d below = refl
among (suc zero) d below = refl
among (suc (suc k)) d below = absurd (omega (arith, below))

pub two-writers : (new started one two : Table) (gxid : Gxid) → new ≡ new_table → started ≡ begun new → gxid ≡ new.next → one ≡ enlisted started gxid (node 1) → two ≡ enlisted one gxid (node 2) → AreWriters two gxid both
two-writers new started one two gxid is begins draws goes goes_on =
    let g : gxid ≡ first = draws ∙ ap (λ (t : Table). t.next) is in
    let s : started ≡ begun new_table = begins ∙ ap begun is in
    let o : one ≡ enlisted (begun new_table) first (node 1) = goes ∙ (λ i. enlisted (s i) (g i) (node 1)) in
    let w : two ≡ table = goes_on ∙ (λ i. enlisted (o i) (g i) (node 2)) in
    subst (λ (t : Table). AreWriters t gxid both) (sym w) (subst (λ (h : Gxid). AreWriters table h both) (sym g) (record { rising = rising; among = among }))
