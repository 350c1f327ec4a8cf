-- All holds of a transaction are taken out one after another.
use Rattle.std.proofs.Common.{◌≡◌, ◌≢◌, ℕ, ◌≤◌, List, [], ◌∷◌, length, drop, suc, eqb, refl, sym, ap, ◌∙◌, subst, true, false, not, arith, ⊎_elim, ◌⊎◌}
use Rattle.std.proofs.lemmas.Bool.Decides.{nat_tests}
use Rattle.std.specs.Prelude.{filter}
use Rattle.std.proofs.lemmas.List.{at_drop_all}
use Rattle.std.proofs.lemmas.List.Kept.{AllPairs-filter}
use Rattle.gx_ids.specs.declared.ids.Gxid.{Gxid}
use Rattle.gx_locks.specs.declared.book.Book.{Book}
use Rattle.gx_locks.specs.declared.hold.Hold.{Hold}
use Rattle.gx_locks.specs.declared.key.Key.{Key}
use Rattle.gx_locks.specs.declared.key.Key.TheVariants.{On, Of}
use Rattle.gx_locks.specs.Book.{IsFiled, claims_in}
use Rattle.gx_waits.specs.Claim.{same_claim}
use Rattle.gx_waits.specs.Claims.{is_of, without}
use Rattle.gx_locks.specs.Holds.{is_under, same_hold, claims_of}
use Rattle.gx_locks.specs.Index.{holds_at, places_at}
use Rattle.gx_locks.specs.Kept.{AreOnce}
use Rattle.gx_locks.proofs.Filed.{claims_of-filter, filter-swapped, filter-untouched, filter-none, passes-first, filter-first_alone, is_of-same}
use Rattle.gx_locks.proofs.Found.{is_under-same}
use Rattle.gx_locks.proofs.Keys.{stands, on_isnt_of, of_isnt_on}

-- what is left of the transaction's holds is a list, of which the index has nothing under its key
pub record IsEmptied (g : Gxid) (old new : Book) (rest : List Hold) : Type 0 where
  pub places : new.ledger.places ≡ old.ledger.places
  pub room : (k : Key) → places_at new.index k ≡ places_at old.index k
  pub filed : (k : Key) → k ≢ Of g → holds_at new.index k ≡ filter (λ hold. is_under k hold.claim) new.ledger.holds
  pub emptied : holds_at new.index (Of g) ≡ []
  pub others : filter (λ hold. not (is_of g hold.claim)) new.ledger.holds ≡ filter (λ hold. not (is_of g hold.claim)) old.ledger.holds
  pub left : filter (λ hold. is_of g hold.claim) new.ledger.holds ≡ rest
  pub once : AreOnce (claims_of rest)

once_rest : (h : Hold) (rest : List Hold) → AreOnce (claims_of (h ∷ rest)) → AreOnce (claims_of rest)
once_rest h rest once i j d before inside = once (suc i) (suc j) d (omega (arith, before)) (omega (arith, inside))

-- one more of them
module _ (g : Gxid) (old mid new : Book) (h : Hold) (rest : List Hold) (is : IsEmptied g old mid (h ∷ rest)) (less : new.ledger.holds ≡ filter (λ x. not (same_hold h x)) mid.ledger.holds) (there : holds_at new.index (On h.claim.object) ≡ filter (λ x. not (same_hold h x)) (holds_at mid.index (On h.claim.object))) (elsewhere : (k : Key) → k ≢ On h.claim.object → holds_at new.index k ≡ holds_at mid.index k) where
  its : is_of g h.claim ≡ true
  its = passes-first (λ x. is_of g x.claim) mid.ledger.holds h rest is.left

  pub others_kept : filter (λ x. not (is_of g x.claim)) new.ledger.holds ≡ filter (λ x. not (is_of g x.claim)) old.ledger.holds
  others_kept =
      ap (filter (λ (x : Hold). not (is_of g x.claim))) less
      ∙ filter-untouched h (λ c. not (is_of g c)) (λ c same. ap not (is_of-same g h.claim c same)) (ap not its) mid.ledger.holds
      ∙ is.others

  pub left_less : filter (λ x. is_of g x.claim) new.ledger.holds ≡ rest
  left_less =
      ap (filter (λ (x : Hold). is_of g x.claim)) less
      ∙ filter-swapped (λ x. is_of g x.claim) (λ x. not (same_hold h x)) mid.ledger.holds
      ∙ ap (filter (λ x. not (same_hold h x))) is.left
      ∙ filter-first_alone h rest is.once

  at_object : (k : Key) → k ≢ Of g → k ≡ On h.claim.object → holds_at new.index k ≡ filter (λ x. is_under k x.claim) new.ledger.holds
  at_object k other same =
      subst (λ l. holds_at new.index l ≡ filter (λ x. not (same_hold h x)) (holds_at mid.index l)) (sym same) there
      ∙ ap (filter (λ x. not (same_hold h x))) (is.filed k other)
      ∙ filter-swapped (λ x. not (same_hold h x)) (λ x. is_under k x.claim) mid.ledger.holds
      ∙ ap (filter (λ (x : Hold). is_under k x.claim)) (sym less)

  at_other : (k : Key) → k ≢ Of g → k ≢ On h.claim.object → is_under k h.claim ≡ false → holds_at new.index k ≡ filter (λ x. is_under k x.claim) new.ledger.holds
  at_other k other apart isnt =
      elsewhere k apart ∙ is.filed k other
      ∙ sym (filter-untouched h (is_under k) (λ c. is_under-same k h.claim c) isnt mid.ledger.holds)
      ∙ ap (filter (λ (x : Hold). is_under k x.claim)) (sym less)

  of_its : Of h.claim.gxid ≡ Of g
  of_its = ap Of (same (h.claim.gxid) g its)
    where
      same : (a b : Gxid) → eqb a.0 b.0 ≡ true → a ≡ b
      same a b e = grind (arith, nat_tests)

  pub filed_less : (k : Key) → k ≢ Of g → holds_at new.index k ≡ filter (λ x. is_under k x.claim) new.ledger.holds
  filed_less k other =
      ⊎_elim
      (λ (s : (k ≡ On h.claim.object) × (is_under k h.claim ≡ true)). at_object k other s.0)
      (λ more. ⊎_elim
      (λ (s : (k ≡ Of h.claim.gxid) × (is_under k h.claim ≡ true)). absurd (other (s.0 ∙ of_its)))
      (λ (s : (k ≢ On h.claim.object) × (k ≢ Of h.claim.gxid) × (is_under k h.claim ≡ false)). at_other k other s.0 s.2)
      more)
      (stands k h.claim)

  pub IsEmptied-more : new.ledger.places ≡ mid.ledger.places → ((k : Key) → places_at new.index k ≡ places_at mid.index k) → IsEmptied g old new rest
  IsEmptied-more places room = record {
    places = places ∙ is.places;
    room = λ k. room k ∙ is.room k;
    filed = filed_less;
    emptied = elsewhere (Of g) (of_isnt_on h.claim.object g) ∙ is.emptied;
    others = others_kept;
    left = left_less;
    once = once_rest h rest is.once;
  }

-- the first of them
pub IsEmptied-taken : (g : Gxid) (old new : Book) (taken : List Hold) → IsFiled old → AreOnce (claims_in old) → new.ledger.holds ≡ old.ledger.holds → taken ≡ holds_at old.index (Of g) → holds_at new.index (Of g) ≡ [] → ((k : Key) → k ≢ Of g → holds_at new.index k ≡ holds_at old.index k) → IsEmptied g new new taken
IsEmptied-taken g old new taken filed once same is there elsewhere =
    let left : taken ≡ filter (λ x. is_of g x.claim) old.ledger.holds = is ∙ filed (Of g) in
    record {
      places = refl;
      room = λ k. refl;
      filed = λ k other. elsewhere k other ∙ filed k ∙ ap (filter (λ (x : Hold). is_under k x.claim)) (sym same);
      emptied = there;
      others = refl;
      left = ap (filter (λ (x : Hold). is_of g x.claim)) same ∙ sym left;
      once = subst AreOnce (sym (ap claims_of left ∙ claims_of-filter (is_of g) old.ledger.holds)) (AllPairs-filter (λ earlier later. same_claim later earlier ≡ false) (is_of g) (claims_in old) once);
    }

-- and none left
module _ (g : Gxid) (old new : Book) (is : IsEmptied g old new []) where
  none_at : (k : Key) → k ≡ Of g → holds_at new.index k ≡ filter (λ x. is_under k x.claim) new.ledger.holds
  none_at k same = subst (λ l. holds_at new.index l ≡ filter (λ x. is_under l x.claim) new.ledger.holds) (sym same) (is.emptied ∙ sym is.left)

  pub IsFiled-emptied : IsFiled new
  IsFiled-emptied (On o) = is.filed (On o) (on_isnt_of o g)
  IsFiled-emptied (Of h) = ⊎_elim (λ (same : Of h ≡ Of g). none_at (Of h) same) (λ (other : Of h ≢ Of g). is.filed (Of h) other) (gxids h g)
    where
      gxids : (a b : Gxid) → (Of a ≡ Of b) ⊎ (Of a ≢ Of b)
      gxids a b = grind (arith, nat_tests)

  pub claims-emptied : claims_in new ≡ without g (claims_in old)
  claims-emptied =
      ap claims_of (sym (filter-none (λ x. is_of g x.claim) new.ledger.holds is.left) ∙ is.others)
      ∙ claims_of-filter (λ c. not (is_of g c)) old.ledger.holds

pub drop_past : (hs : List Hold) (i : ℕ) → length hs ≤ i → drop i hs ≡ []
drop_past hs i past = at_drop_all (λ (rest : List Hold). rest) hs i past
