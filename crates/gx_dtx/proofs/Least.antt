-- The least of a list.
use Rattle.std.proofs.Common.{◌≡◌, ◌≤◌, List, [], ◌∷◌, ◌++◌, refl, arith, ⊎_elim, ◌⊎◌, inl, inr, sym, ◌∙◌}
use Rattle.std.proofs.lemmas.Bool.Decides.{nat_tests}
use Rattle.std.specs.Prelude.{All, Contains}
use Rattle.std.proofs.lemmas.List.Elements.{All-cons, All-nil, All-push, Contains-append_right, Contains-append_left}
use Rattle.gx_ids.specs.declared.ids.Gxid.{Gxid}
use Rattle.gx_dsnap.specs.Gxids.{least_of, lesser}

pub least_of-append : (gs hs : List Gxid) (other : Gxid) → least_of (gs ++ hs) other ≡ least_of hs (least_of gs other)
least_of-append [] hs other = refl
least_of-append (g ∷ gs) hs other = least_of-append gs hs (lesser g other)

pub lesser-le_left : (g h : Gxid) → (lesser g h).0 ≤ g.0
lesser-le_left g h = grind (arith, nat_tests)

pub lesser-le_right : (g h : Gxid) → (lesser g h).0 ≤ h.0
lesser-le_right g h = grind (arith, nat_tests)

pub least_of-le_other : (gs : List Gxid) (other : Gxid) → (least_of gs other).0 ≤ other.0
least_of-le_other [] other = omega arith
least_of-le_other (g ∷ gs) other = omega (arith, least_of-le_other gs (lesser g other), lesser-le_right g other)

-- it is at most each of the list
least_of-le : (gs : List Gxid) (other : Gxid) → All (λ g. (least_of gs other).0 ≤ g.0) gs
least_of-le [] other = All-nil (λ g. other.0 ≤ g.0)
least_of-le (g ∷ gs) other =
    All-cons (λ h. (least_of gs (lesser g other)).0 ≤ h.0) g gs (omega (arith, least_of-le_other gs (lesser g other), lesser-le_left g other)) (least_of-le gs (lesser g other))

lesser-among : (g h : Gxid) → (lesser g h ≡ g) ⊎ (lesser g h ≡ h)
lesser-among g h = grind (arith, nat_tests)

first-contained : (g h : Gxid) (gs : List Gxid) → h ≡ g → Contains (g ∷ gs) h
first-contained g h gs same = (0, omega arith, sym same)

later-contained : (g h : Gxid) (gs : List Gxid) → Contains gs h → Contains (g ∷ gs) h
later-contained g h gs = Contains-append_right (g ∷ []) gs h

-- it is the other or stands in the list
least_of-among : (gs : List Gxid) (other : Gxid) → (least_of gs other ≡ other) ⊎ Contains gs (least_of gs other)
least_of-among [] other = inl refl
least_of-among (g ∷ gs) other =
    ⊎_elim
    (λ (e : least_of gs (lesser g other) ≡ lesser g other). ⊎_elim (λ (a : lesser g other ≡ g). inr (first-contained g (least_of gs (lesser g other)) gs (e ∙ a))) (λ (a : lesser g other ≡ other). inl (e ∙ a)) (lesser-among g other))
    (λ (there : Contains gs (least_of gs (lesser g other))). inr (later-contained g (least_of gs (lesser g other)) gs there))
    (least_of-among gs (lesser g other))

pub Contains-least_of : (gs : List Gxid) (other : Gxid) → Contains (gs ++ other ∷ []) (least_of gs other)
Contains-least_of gs other =
    ⊎_elim
    (λ (e : least_of gs other ≡ other). Contains-append_right gs (other ∷ []) (least_of gs other) (first-contained other (least_of gs other) [] e))
    (λ (there : Contains gs (least_of gs other)). Contains-append_left gs (other ∷ []) (least_of gs other) there)
    (least_of-among gs other)

-- it is at most each of the list and the other
pub least_of-le_all : (gs : List Gxid) (other : Gxid) → All (λ g. (least_of gs other).0 ≤ g.0) (gs ++ other ∷ [])
least_of-le_all gs other = All-push (λ g. (least_of gs other).0 ≤ g.0) gs other (least_of-le gs other) (least_of-le_other gs other)
