-- Rows stay where they were inserted: an INSERT's writes are so, and what was so stays so.
use Rattle.std.proofs.Common.{◌≡◌, List, [], ◌∷◌, ◌++◌, Option, Some, refl, sym, subst, append-nil}
use Rattle.std.proofs.lemmas.List.{append_assoc}
use Rattle.gx_ids.specs.declared.ids.Cid.{Cid}
use Rattle.gx_ids.specs.declared.ids.Gxid.{Gxid}
use Rattle.gx_ids.specs.declared.ids.Node.{Node}
use Rattle.gx_ids.specs.declared.ids.Table.{Table}
use Rattle.gx_ids.specs.declared.rid.Rid.{Rid}
use Rattle.gx_tree.specs.declared.expr.Expr.{Expr}
use Rattle.gx_tree.specs.declared.row.KeyedRow.{KeyedRow}
use Rattle.gx_tree.specs.declared.stmt.Stmt.TheVariants as stmt
use Rattle.gx_tree.specs.declared.value.Value.{Value}
use Rattle.gx_script.specs.declared.Script.{Script}
use Rattle.gx_store.specs.declared.mark.Mark.{Mark}
use Rattle.gx_store.specs.declared.mark.Mark.TheVariants as mark
use Rattle.gx_law_order.specs.Lists.{Each}
use Rattle.gx_law_order.specs.Scanned.{stmt_of_command}
use Rattle.gx_law_order.proofs.Outs.{of-more}
use Rattle.gx_law_writes.specs.Homes.{AreRowsHome, IsHomeMark, IsPlaced, IsPlacedMark, IsRowOf}
use Rattle.gx_law_writes.proofs.Placed.{IsPlacedRow, row-of, row-placed}
use Rattle.gx_law_writes.proofs.Turns.{NoWrite}

-- LATER MARKS
row_of-more : (script : Script) (ms ns : List Mark) (table : Table) (rid : Rid) (values : List Value) → IsRowOf script ms table rid values → IsRowOf script (ms ++ ns) table rid values
row_of-more script ms ns table rid values r =
    record { tuples = r.tuples; of = of-more script ms ns rid.gxid rid.cid _ r.of; counted = r.counted; tuple = r.tuple; among = r.among; constants = r.constants }

pub placed-more : (script : Script) (ms ns : List Mark) (node : Node) (table : Table) (rid : Rid) (image : Option (List Value)) → IsPlaced script ms node table rid image → IsPlaced script (ms ++ ns) node table rid image
placed-more script ms ns node table rid image p = record { values = p.values; row_of = row_of-more script ms ns table rid p.values p.row_of; place = p.place; key = p.key }

home-more : (script : Script) (ms ns before : List Mark) (m : Mark) → IsHomeMark script ms before m → IsHomeMark script (ms ++ ns) before m
home-more script ms ns before (mark.Write g c n t r x) p = (
  placed-more script ms ns n t r x p.0,
  λ unwritten. let f = p.1 unwritten in record { own = f.own; values = f.values; row_of = row_of-more script ms ns t r f.values f.row_of; written = f.written },
)
home-more script ms ns before m p = tt

pub homes-more : (script : Script) (ms ns before xs : List Mark) → AreRowsHome script ms before xs → AreRowsHome script (ms ++ ns) before xs
homes-more script ms ns before [] e = tt
homes-more script ms ns before (x ∷ xs) e = (home-more script ms ns before x e.0, homes-more script ms ns (before ++ x ∷ []) xs e.1)

pub homes-append : (script : Script) (ms before xs ys : List Mark) → AreRowsHome script ms before xs → AreRowsHome script ms (before ++ xs) ys → AreRowsHome script ms before (xs ++ ys)
homes-append script ms before [] ys e f = subst (λ b. AreRowsHome script ms b ys) (append-nil before) f
homes-append script ms before (x ∷ xs) ys e f = (e.0, homes-append script ms (before ++ x ∷ []) xs ys e.1 (subst (λ b. AreRowsHome script ms b ys) (sym (append_assoc before (x ∷ []) xs)) f))

-- MARKS THAT WRITE NOTHING
no-write-home : (script : Script) (ms before : List Mark) (m : Mark) → NoWrite m → IsHomeMark script ms before m
no-write-home script ms before (mark.Write g c n t r x) e = absurd e
no-write-home script ms before m e = tt

pub no-writes-home : (script : Script) (ms before xs : List Mark) → Each NoWrite xs → AreRowsHome script ms before xs
no-writes-home script ms before [] e = tt
no-writes-home script ms before (x ∷ xs) e = (no-write-home script ms before x e.0, no-writes-home script ms (before ++ x ∷ []) xs e.1)

-- AN INSERT'S WRITE
pub row-home : (script : Script) (ms : List Mark) (g : Gxid) (c : Cid) (node : Node) (table : Table) (tuples : List (List Expr)) → stmt_of_command script ms g c ≡ Some (stmt.Insert table tuples) → (before : List Mark) (row : KeyedRow) → IsPlacedRow script g c node table tuples row
    → IsHomeMark script ms before (mark.Write g c node table row.rid (Some row.row))
row-home script ms g c node table tuples of before row p = (
  row-placed script ms g c node table tuples row of p,
  λ unwritten. record { own = p.row_is.own; values = row.row; row_of = row-of script ms g c node table tuples row of p; written = refl },
)

-- ALL WRITES
home-placed : (script : Script) (ms before : List Mark) (m : Mark) → IsHomeMark script ms before m → IsPlacedMark script ms m
home-placed script ms before (mark.Write g c n t r x) p = p.0
home-placed script ms before m p = tt

pub homes-placed : (script : Script) (ms before xs : List Mark) → AreRowsHome script ms before xs → Each (IsPlacedMark script ms) xs
homes-placed script ms before [] e = tt
homes-placed script ms before (x ∷ xs) e = (home-placed script ms before x e.0, homes-placed script ms (before ++ x ∷ []) xs e.1)
