-- Tests of numbers.
use Rattle.std.proofs.Common.{◌≡◌, ◌≢◌, ℕ, true, false, eqb, arith}
use Rattle.std.proofs.lemmas.Bool.Decides.{nat_tests}
use Rattle.std.specs.Ordering.{is_eq}
use Rattle.gx_ids.specs.declared.ids.Gxid.{Gxid}
use Rattle.gx_ids.specs.declared.ids.Table.{Table}
use Rattle.gx_ids.specs.declared.rid.Rid.{Rid}
use Rattle.gx_dsnap.specs.Gxids.{gxid_cmp}
use Rattle.gx_store.specs.Marks.{is_same_rid}

pub itself : (n : ℕ) → eqb n n ≡ true
itself n = grind (arith, nat_tests)

pub apart : (m n : ℕ) → m ≢ n → eqb m n ≡ false
apart m n other = grind (arith, nat_tests)

pub differ : (m n : ℕ) → eqb m n ≡ false → m ≢ n
differ m n e = λ same. grind (arith, nat_tests)

pub turned : (m n : ℕ) → eqb m n ≡ eqb n m
turned m n = grind (arith, nat_tests)

pub same_gxid : (g h : Gxid) → eqb h.0 g.0 ≡ true → g ≡ h
same_gxid g h e = grind (arith, nat_tests)

pub same_table : (t u : Table) → eqb t.0 u.0 ≡ true → t ≡ u
same_table t u e = grind (arith, nat_tests)

pub other_table : (t u : Table) → eqb t.0 u.0 ≡ false → u ≢ t
other_table t u e = λ same. grind (arith, nat_tests)

pub same_row : (r q : Rid) → is_same_rid r q ≡ true → r ≡ q
same_row r q e = grind (arith, nat_tests)

pub row_itself : (r : Rid) → is_same_rid r r ≡ true
row_itself r = grind (arith, nat_tests)

pub other_row : (r q : Rid) → is_same_rid r q ≡ false → q ≢ r
other_row r q e = λ same. grind (arith, nat_tests)

pub at_itself : (g : Gxid) → is_eq (gxid_cmp g g) ≡ true
at_itself g = grind (arith, nat_tests)

pub at_other : (g h : Gxid) → h.0 ≢ g.0 → is_eq (gxid_cmp g h) ≡ false
at_other g h other = grind (arith, nat_tests)
