-- What is asked of all holds is found among those of an object.
use Rattle.std.proofs.Common.{◌≡◌, List, [], ◌∷◌, refl, sym, ap, ◌∙◌, Bool, true, false, not, eqb, ◌||◌, ◌&&◌}
use Rattle.std.proofs.lemmas.Simd.{map-map}
use Rattle.std.specs.Prelude.{filter, find, map}
use Rattle.std.specs.List.{list_any}
use Rattle.gx_ids.specs.declared.ids.Gxid.{Gxid}
use Rattle.gx_modes.specs.Table.{conflict}
use Rattle.gx_waits.specs.declared.claim.Claim.{Claim}
use Rattle.gx_locks.specs.declared.hold.Hold.{Hold}
use Rattle.gx_locks.specs.declared.key.Key.{Key}
use Rattle.gx_locks.specs.declared.key.Key.TheVariants.{On, Of}
use Rattle.gx_waits.specs.Claim.{meets, same_claim, same_object}
use Rattle.gx_waits.specs.Claims.{is_of}
use Rattle.gx_locks.specs.Holds.{same_hold, claims_of, is_under}
use Rattle.gx_locks.specs.Locks.{blockers}
use Rattle.gx_locks.proofs.Filed.{claims_of-filter, list_any-weaker, filter-weaker, find-weaker, filter-swapped, filter-untouched, same_on, is_of-same, on-same}
use Rattle.gx_locks.proofs.Meets.{parts}

list_any-claims : (p : Claim → Bool) (hs : List Hold) → list_any (λ h. p h.claim) hs ≡ list_any p (claims_of hs)
list_any-claims p [] = refl
list_any-claims p (h ∷ hs) = ap (λ b. p h.claim || b) (list_any-claims p hs)

module _ (c : Claim) where
  met_on : (h : Hold) → meets c h.claim ≡ true → same_object c.object h.claim.object ≡ true
  met_on h is = (parts (eqb c.gxid.0 h.claim.gxid.0) (same_object c.object h.claim.object) (conflict c.mode h.claim.mode) is).1.0

  module _ (hs held : List Hold) (on : held ≡ filter (λ h. is_under (On c.object) h.claim) hs) where
    pub meets-filed : list_any (λ h. meets c h.claim) held ≡ list_any (meets c) (claims_of hs)
    meets-filed =
        ap (list_any (λ h. meets c h.claim)) on
        ∙ list_any-weaker (λ h. meets c h.claim) (λ h. same_object c.object h.claim.object) met_on hs
        ∙ list_any-claims (meets c) hs

    pub same-filed : list_any (λ h. same_claim c h.claim) held ≡ list_any (same_claim c) (claims_of hs)
    same-filed =
        ap (list_any (λ h. same_claim c h.claim)) on
        ∙ list_any-weaker (λ h. same_claim c h.claim) (λ h. same_object c.object h.claim.object) (λ h. same_on c h.claim) hs
        ∙ list_any-claims (same_claim c) hs

    pub blockers-filed : map (λ h. h.claim.gxid) (filter (λ h. meets c h.claim) held) ≡ blockers (claims_of hs) c
    blockers-filed =
        ap (λ (xs : List Hold). map (λ h. h.claim.gxid) (filter (λ h. meets c h.claim) xs)) on
        ∙ ap (map (λ (h : Hold). h.claim.gxid)) (filter-weaker (λ h. meets c h.claim) (λ h. same_object c.object h.claim.object) met_on hs)
        ∙ sym (map-map (λ (d : Claim). d.gxid) (λ (h : Hold). h.claim) (filter (λ h. meets c h.claim) hs))
        ∙ ap (map (λ (d : Claim). d.gxid)) (claims_of-filter (meets c) hs)

    -- whether it meets what a transaction holds
    pub own-filed : (g : Gxid) → list_any (λ h. eqb h.claim.gxid.0 g.0 && meets c h.claim) held ≡ list_any (λ d. eqb d.gxid.0 g.0 && meets c d) (claims_of hs)
    own-filed g =
        ap (list_any (λ h. eqb h.claim.gxid.0 g.0 && meets c h.claim)) on
        ∙ list_any-weaker (λ h. eqb h.claim.gxid.0 g.0 && meets c h.claim) (λ h. same_object c.object h.claim.object) (λ h is. met_on h (later (eqb h.claim.gxid.0 g.0) (meets c h.claim) is)) hs
        ∙ list_any-claims (λ d. eqb d.gxid.0 g.0 && meets c d) hs
      where
        later : (a b : Bool) → (a && b) ≡ true → b ≡ true
        later true b e = e
        later false b e = absurd (cc)

    pub find-filed : find (λ h. same_claim c h.claim) held ≡ find (λ h. same_claim c h.claim) hs
    find-filed =
        ap (find (λ h. same_claim c h.claim)) on
        ∙ find-weaker (λ h. same_claim c h.claim) (λ h. same_object c.object h.claim.object) (λ h. same_on c h.claim) hs

pub of-filed : (g : Gxid) (hs held : List Hold) → held ≡ filter (λ h. is_under (Of g) h.claim) hs → claims_of held ≡ filter (is_of g) (claims_of hs)
of-filed g hs held e = ap claims_of e ∙ claims_of-filter (is_of g) hs

pub is_under-same : (k : Key) (a b : Claim) → same_claim a b ≡ true → is_under k b ≡ is_under k a
is_under-same (On o) a b same = on-same o a b same
is_under-same (Of g) a b same = is_of-same g a b same

-- a hold that is taken out of all lists where it stands leaves them filed
module _ (h : Hold) (p r : Key → List Hold) (hs hs' : List Hold) (filed : (k : Key) → p k ≡ filter (λ x. is_under k x.claim) hs) (less : hs' ≡ filter (λ x. not (same_hold h x)) hs) where
  struck_there : (k : Key) → r k ≡ filter (λ x. not (same_hold h x)) (p k) → r k ≡ filter (λ x. is_under k x.claim) hs'
  struck_there k e =
      e ∙ ap (filter (λ x. not (same_hold h x))) (filed k)
      ∙ filter-swapped (λ x. not (same_hold h x)) (λ x. is_under k x.claim) hs
      ∙ ap (filter (λ x. is_under k x.claim)) (sym less)

  pub struck_elsewhere : (k : Key) → is_under k h.claim ≡ false → r k ≡ p k → r k ≡ filter (λ x. is_under k x.claim) hs'
  struck_elsewhere k isnt e =
      e ∙ filed k
      ∙ sym (filter-untouched h (is_under k) (λ c. is_under-same k h.claim c) isnt hs)
      ∙ ap (filter (λ x. is_under k x.claim)) (sym less)

  struck : (k : Key) (b : Bool) → is_under k h.claim ≡ b → (is_under k h.claim ≡ true → r k ≡ filter (λ x. not (same_hold h x)) (p k)) → (is_under k h.claim ≡ false → r k ≡ p k) → r k ≡ filter (λ x. is_under k x.claim) hs'
  struck k true is there elsewhere = struck_there k (there is)
  struck k false isnt there elsewhere = struck_elsewhere k isnt (elsewhere isnt)

  pub filed-struck : ((k : Key) → is_under k h.claim ≡ true → r k ≡ filter (λ x. not (same_hold h x)) (p k)) → ((k : Key) → is_under k h.claim ≡ false → r k ≡ p k) → (k : Key) → r k ≡ filter (λ x. is_under k x.claim) hs'
  filed-struck there elsewhere k = struck k (is_under k h.claim) refl (there k) (elsewhere k)
