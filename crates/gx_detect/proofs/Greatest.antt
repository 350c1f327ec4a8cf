-- The greatest of those whom edges name.
use Rattle.std.proofs.Common.{◌≡◌, ◌≤◌, List, [], ◌∷◌, Bool, true, false, cond, ◌⊎◌, inl, inr, ⊎_elim, Some, None, refl, sym, ap, subst, ◌∙◌, arith}
use Rattle.std.proofs.lemmas.Bool.{ltb-false, ltb-true}
use Rattle.std.specs.Prelude.{fold, nat_lt}
use Rattle.gx_ids.specs.declared.ids.Gxid.{Gxid}
use Rattle.gx_waits.specs.declared.placed_edge.PlacedEdge.{PlacedEdge}
use Rattle.gx_waits.specs.Closed.{IsNamedIn}
use Rattle.gx_waits.proofs.Members.{Has}
use Rattle.gx_detect.specs.Verdicts.{greater, greatest_of, named_in}

-- the greater of two is one of them, and no less than either
record IsGreater (g h m : Gxid) : Type 0 where
  one : (m ≡ g) ⊎ (m ≡ h)
  first : g.0 ≤ m.0
  second : h.0 ≤ m.0

is_greater : (g h : Gxid) → IsGreater g h (greater g h)
is_greater g h = go (nat_lt g.0 h.0) refl
  where
    go : (b : Bool) → nat_lt g.0 h.0 ≡ b → IsGreater g h (cond b h g)
    go true t = let l = ltb-true g.0 h.0 t in record { one = inr refl; first = omega arith; second = omega arith }
    go false t = let l = ltb-false g.0 h.0 t in record { one = inl refl; first = omega arith; second = l }

-- one of the list, and no lesser than any
pub record IsGreatest (gs : List Gxid) (m : Gxid) : Type 0 where
  pub member : Has m gs
  pub greatest : (w : Gxid) → Has w gs → w.0 ≤ m.0

fold_greatest : (g : Gxid) (gs : List Gxid) → IsGreatest (g ∷ gs) (fold greater g gs)
fold_greatest g [] = record { member = inl refl; greatest = λ w. ⊎_elim (λ (e : g ≡ w). let n : g.0 ≡ w.0 = ap (λ x. x.0) e in omega arith) (λ m. absurd m) }
fold_greatest g (h ∷ gs) =
    let m = is_greater g h in
    let r = fold_greatest (greater g h) gs in
    record {
      member = ⊎_elim
          (λ (e : greater g h ≡ fold greater (greater g h) gs). ⊎_elim
          (λ (a : greater g h ≡ g). inl (sym a ∙ e))
          (λ (b : greater g h ≡ h). inr (inl (sym b ∙ e))) m.one)
          (λ k. inr (inr k)) r.member;
      greatest = λ w. ⊎_elim
          (λ (e : g ≡ w). let n : g.0 ≡ w.0 = ap (λ x. x.0) e in let l = r.greatest (greater g h) (inl refl) in let f = m.first in omega arith)
          (⊎_elim
          (λ (e : h ≡ w). let n : h.0 ≡ w.0 = ap (λ x. x.0) e in let l = r.greatest (greater g h) (inl refl) in let s = m.second in omega arith)
          (λ k. r.greatest w (inr k)));
    }

pub is_greatest : (gs : List Gxid) (m : Gxid) → greatest_of gs ≡ Some m → IsGreatest gs m
is_greatest [] m e = absurd (cc)
is_greatest (g ∷ gs) m e = let s : fold greater g gs ≡ m = cc in subst (IsGreatest (g ∷ gs)) s (fold_greatest g gs)

-- NAMES
pub name_has : (edges : List PlacedEdge) (v : Gxid) → Has v (named_in edges) → (e : PlacedEdge) × Has e edges × IsNamedIn e v
name_has [] v h = absurd h
name_has (e ∷ es) v (inl w) = (e, inl refl, inl w)
name_has (e ∷ es) v (inr (inl w)) = (e, inl refl, inr w)
name_has (e ∷ es) v (inr (inr h)) = let r = name_has es v h in (r.0, inr r.1, r.2)

pub has_name : (edges : List PlacedEdge) (v : Gxid) (e : PlacedEdge) → Has e edges → IsNamedIn e v → Has v (named_in edges)
has_name [] v e h n = absurd h
has_name (x ∷ xs) v e (inl s) n = ⊎_elim (λ (w : x.edge.waiter ≡ v). inl w) (λ (w : x.edge.holder ≡ v). inr (inl w)) (subst (λ y. IsNamedIn y v) (sym s) n)
has_name (x ∷ xs) v e (inr h) n = inr (inr (has_name xs v e h n))

pub none_named : (edges : List PlacedEdge) → greatest_of (named_in edges) ≡ None → edges ≡ []
none_named [] e = refl
none_named (x ∷ xs) e = absurd (cc)
