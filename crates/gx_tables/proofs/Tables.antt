-- One table more.
use Rattle.std.proofs.Common.{◌≡◌, ℕ, suc, ◌+◌, ◌∙◌, List, [], ◌∷◌, ◌++◌, arith, length, subst}
use Rattle.std.specs.declared.alloc.Global.{Global}
use Rattle.std.specs.declared.vec.Vec.{Vec}
use Rattle.gx_lemmas.proofs.Numbers.{plus-none}
use Rattle.gx_tree.specs.declared.row.KeyedRow.{KeyedRow}
use Rattle.gx_dsnap.specs.declared.snapshot.Snapshot.{Snapshot}
use Rattle.gx_rules.specs.Segments.{Seg}
use Rattle.gx_tables.specs.Tables.{AreLastOf, AreTablesOf, shown_by}

pub tables-next : (segments : List Seg) (snapshot : Snapshot) (k n : ℕ) (tables : List (Vec KeyedRow Global)) (rows : Vec KeyedRow Global) → AreTablesOf segments snapshot k tables → n ≡ k + length tables
    → AreLastOf (shown_by segments snapshot (record { 0 = n })) rows.items → AreTablesOf segments snapshot k (tables ++ rows ∷ [])
tables-next segments snapshot k n [] rows all e more = (subst (λ i. AreLastOf (shown_by segments snapshot (record { 0 = i })) rows.items) (e ∙ plus-none k) more, tt)
tables-next segments snapshot k n (t ∷ ts) rows all e more = (all.0, tables-next segments snapshot (k + 1) n ts rows all.1 (e ∙ next k (length ts)) more)
  where
    next : (a b : ℕ) → a + suc b ≡ a + 1 + b
    next a b = omega arith
