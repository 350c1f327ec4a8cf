-- The least of a list.
use Rattle.std.proofs.Common.{◌≡◌, ◌≤◌, List, [], ◌∷◌, refl, arith, ⊎_elim, ◌⊎◌, inl, inr, sym, ◌∙◌}
use Rattle.std.proofs.lemmas.Bool.Decides.{nat_tests}
use Rattle.std.proofs.lemmas.List.Elements.{All-cons, All-nil, Contains-append_right}
use Rattle.std.specs.Prelude.{All, Contains, None}
use Rattle.gx_ids.specs.declared.ids.Gxid.{Gxid}
use Rattle.gx_locks.specs.Locks.{least_of, lesser, least_with, IsLeast}

lesser-le_left : (g h : Gxid) → (lesser g h).0 ≤ g.0
lesser-le_left g h = grind (arith, nat_tests)

lesser-le_right : (g h : Gxid) → (lesser g h).0 ≤ h.0
lesser-le_right g h = grind (arith, nat_tests)

least_of-le_other : (gs : List Gxid) (h : Gxid) → (least_of gs h).0 ≤ h.0
least_of-le_other [] h = omega arith
least_of-le_other (g ∷ gs) h = omega (arith, least_of-le_other gs (lesser g h), lesser-le_right g h)

least_of-le : (gs : List Gxid) (h : Gxid) → All (λ g. (least_of gs h).0 ≤ g.0) gs
least_of-le [] h = All-nil (λ g. h.0 ≤ g.0)
least_of-le (g ∷ gs) h =
    All-cons (λ k. (least_of gs (lesser g h)).0 ≤ k.0) g gs (omega (arith, least_of-le_other gs (lesser g h), lesser-le_left g h)) (least_of-le gs (lesser g h))

lesser-among : (g h : Gxid) → (lesser g h ≡ g) ⊎ (lesser g h ≡ h)
lesser-among g h = grind (arith, nat_tests)

first_contained : (g h : Gxid) (gs : List Gxid) → h ≡ g → Contains (g ∷ gs) h
first_contained g h gs same = (0, omega arith, sym same)

least_of-among : (gs : List Gxid) (h : Gxid) → (least_of gs h ≡ h) ⊎ Contains gs (least_of gs h)
least_of-among [] h = inl refl
least_of-among (g ∷ gs) h =
    ⊎_elim
    (λ (e : least_of gs (lesser g h) ≡ lesser g h). ⊎_elim (λ (a : lesser g h ≡ g). inr (first_contained g (least_of gs (lesser g h)) gs (e ∙ a))) (λ (a : lesser g h ≡ h). inl (e ∙ a)) (lesser-among g h))
    (λ (there : Contains gs (least_of gs (lesser g h))). inr (Contains-append_right (g ∷ []) gs (least_of gs (lesser g h)) there))
    (least_of-among gs (lesser g h))

pub IsLeast-least_with : (gs : List Gxid) → IsLeast (least_with None gs) gs
IsLeast-least_with [] = refl
IsLeast-least_with (g ∷ gs) = (
  ⊎_elim (λ (e : least_of gs g ≡ g). first_contained g (least_of gs g) gs e) (λ (there : Contains gs (least_of gs g)). Contains-append_right (g ∷ []) gs (least_of gs g) there) (least_of-among gs g),
  All-cons (λ h. (least_of gs g).0 ≤ h.0) g gs (least_of-le_other gs g) (least_of-le gs g),
)
