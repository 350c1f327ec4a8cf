-- Identities of rows, their order, and lists of rows in it.
use Rattle.std.proofs.Common.{◌≡◌, ℕ, ◌==◌, Bool, true, false, ◌&&◌, refl, ap, ◌∙◌, arith}
use Rattle.std.proofs.lemmas.Bool.Decides.{nat_tests}
use Rattle.gx_ids.specs.declared.rid.Rid.{Rid}
use Rattle.gx_store.specs.Marks.{is_same_rid}

and_left : (a b : Bool) → (a && b) ≡ true → a ≡ true
and_left true b h = refl
and_left false b h = h

and_right : (a b : Bool) → (a && b) ≡ true → b ≡ true
and_right true b h = h
and_right false b h = cc

pub same_number : (m n : ℕ) → (m == n) ≡ true → m ≡ n
same_number m n h = grind (arith, nat_tests)

pub same_gxid : (a b : Rid) → is_same_rid a b ≡ true → a.gxid.0 ≡ b.gxid.0
same_gxid a b h = same_number _ _ (and_left (a.gxid.0 == b.gxid.0) _ h)

abbrev rid_of : ℕ → ℕ → ℕ → Rid
rid_of g c o = record { gxid = record { 0 = g }; cid = record { 0 = c }; ordinal = o }

pub same_rid : (a b : Rid) → is_same_rid a b ≡ true → a ≡ b
same_rid a b h =
    let g : a.gxid.0 ≡ b.gxid.0 = same_gxid a b h in
    let rest : ((a.cid.0 == b.cid.0) && (a.ordinal == b.ordinal)) ≡ true = and_right (a.gxid.0 == b.gxid.0) _ h in
    let c : a.cid.0 ≡ b.cid.0 = same_number _ _ (and_left (a.cid.0 == b.cid.0) _ rest) in
    let o : a.ordinal ≡ b.ordinal = same_number _ _ (and_right (a.cid.0 == b.cid.0) _ rest) in
    ap (λ (x : ℕ). rid_of x a.cid.0 a.ordinal) g ∙ ap (λ (x : ℕ). rid_of b.gxid.0 x a.ordinal) c ∙ ap (λ (x : ℕ). rid_of b.gxid.0 b.cid.0 x) o

pub is_same_rid-refl : (a : Rid) → is_same_rid a a ≡ true
is_same_rid-refl a = grind (arith, nat_tests)
