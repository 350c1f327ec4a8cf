-- Counts by transactions and nodes.
use Rattle.std.proofs.Common.{◌≡◌, ◌≢◌, ◌==◌, ◌&&◌, ℕ, false, subst, refl, arith}
use Rattle.std.proofs.lemmas.Bool.Decides.{nat_tests}
use Rattle.std.specs.Prelude.{Some, IsSome, IsTrue, OnOk, Result, Ok, Err}
use Rattle.std.specs.BTreeMap.{BTreeMap, WritesThrough, get, get_by, is_at}
use Rattle.std.specs.declared.cmp.Ordering.{Ordering}
use Rattle.gx_ids.specs.declared.ids.Gxid.{Gxid}
use Rattle.gx_ids.specs.declared.ids.Node.{Node}
use Rattle.gx_detect.specs.Tally.{gxid_cmp, node_cmp}

pub gxid-other : (g h : Gxid) → h.0 ≢ g.0 → is_at (gxid_cmp g) h ≡ false
gxid-other g h other = grind (arith, nat_tests)

pub node-other : (m n : Node) → n.0 ≢ m.0 → is_at (node_cmp m) n ≡ false
node-other m n other = grind (arith, nat_tests)

-- what is written through a borrow leaves the other keys
pub others-through : {K X : Type 0} (cmp : K → K → Ordering) (m n : BTreeMap K X) (k : K) (old w : X) → Some old ≡ get_by (cmp k) m → WritesThrough cmp (cmp k) m w n
    → (q : K) → is_at (cmp k) q ≡ false → get cmp n q ≡ get cmp m q
others-through cmp m n k old w found through = (through.3 (subst (λ o. IsSome o) found refl)).2

pub always-ok : {A E : Type 0} (r : Result A E) (P : Type 0) → P → OnOk r P
always-ok (Ok a) P p = p
always-ok (Err e) P p = tt

pub ok_then : {A E P Q R : Type 0} (r : Result A E) → (P → Q → R) → OnOk r P → OnOk r Q → OnOk r R
ok_then (Ok a) f p q = f p q
ok_then (Err e) f p q = tt

pub itself : (n : ℕ) → IsTrue (n == n)
itself n = grind (arith, nat_tests)

pub both-themselves : (m n : ℕ) → IsTrue ((m == m) && (n == n))
both-themselves m n = grind (arith, nat_tests)
