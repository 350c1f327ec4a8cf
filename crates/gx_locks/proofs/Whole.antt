-- What the calls keep of the book and the waits.
use Rattle.std.proofs.Common.{◌≡◌, ◌≢◌, ℕ, ◌+◌, ◌<◌, ◌≤◌, List, [], ◌∷◌, ◌++◌, length, get_or, refl, sym, ap, ◌∙◌, subst, Bool, true, false, not, cond, eqb, arith, ⊎_elim, ◌⊎◌, inl, inr, ◌||◌}
use Rattle.std.proofs.lemmas.Bool.Decides.{nat_tests}
use Rattle.std.proofs.lemmas.List.Folds.{list_any_at}
use Rattle.std.proofs.lemmas.List.Kept.{AllPairs-filter}
use Rattle.std.proofs.lemmas.List.Quantifiers.{all_pairs_push}
use Rattle.std.specs.Prelude.{filter, find, Option, Some, None}
use Rattle.std.specs.List.{list_any}
use Rattle.gx_ids.specs.declared.ids.Gxid.{Gxid}
use Rattle.gx_waits.specs.declared.claim.Claim.{Claim}
use Rattle.gx_waits.specs.declared.object.Object.{Object}
use Rattle.gx_locks.specs.declared.book.Book.{Book}
use Rattle.gx_locks.specs.declared.key.Key.{Key}
use Rattle.gx_locks.specs.declared.key.Key.TheVariants.{On, Of}
use Rattle.gx_locks.specs.Book.{IsFiled, IsWhole, claims_in, HasSameHolds, HasSamePlaces, HasPlaceLess, HasPlace}
use Rattle.gx_waits.specs.Claim.{meets, same_claim}
use Rattle.gx_waits.specs.Claims.{is_free, is_of, without}
use Rattle.gx_locks.specs.Holds.{is_under, claims_of}
use Rattle.gx_locks.specs.Index.{IsTidy, places_at}
use Rattle.gx_locks.specs.Kept.{AreExclusive, AreOnce, WaitOnce}
use Rattle.gx_locks.specs.Locks.{Locks, is_ready}
use Rattle.gx_locks.specs.Room.{bit, awaited}
use Rattle.gx_locks.proofs.Filed.{filter-all, filter-unfound, filter-none}
use Rattle.gx_locks.proofs.Ways.{clear-free}
use Rattle.gx_locks.proofs.Ready.{once_head, once_tail, same_gxid_is}

pub none_passes : (p : Claim → Bool) (xs : List Claim) (k : ℕ) (d : Claim) (b : Bool) → p (get_or xs k d) ≡ b → list_any p xs ≡ false → k < length xs → b ≡ false
none_passes p xs k d true is none inside = let some = list_any_at p xs k d inside is in absurd (cc)
none_passes p xs k d false is none inside = refl

pub free_is : (b : Bool) → not b ≡ true → b ≡ false
free_is true free = absurd (cc)
free_is false free = refl

pub not_false : (b : Bool) → not b ≡ false → b ≡ true
not_false true e = refl
not_false false e = absurd (cc)

-- a transaction whose wait comes first has no other
only-first : (g : Gxid) (x : Claim) (xs : List Claim) → WaitOnce (x ∷ xs) → is_of g x ≡ true → without g xs ≡ xs
only-first g x xs once is =
    subst (λ h. without h xs ≡ xs) (same_gxid_is g x is) (filter-all (λ c. not (is_of x.gxid c)) xs (λ k d inside. ap not (once_head x xs once k d inside)))

module _ (p : Claim → Bool) where
  count_here : (x : Claim) (xs : List Claim) (b : Bool) → length (filter p xs) + bit b ≡ length (cond b (x ∷ filter p xs) (filter p xs))
  count_here x xs true = omega arith
  count_here x xs false = omega arith

  count_later : (x : Claim) (ys xs : List Claim) (n : ℕ) (b : Bool) → length (filter p ys) + n ≡ length (filter p xs) → length (cond b (x ∷ filter p ys) (filter p ys)) + n ≡ length (cond b (x ∷ filter p xs) (filter p xs))
  count_later x ys xs n true less = omega (arith, less)
  count_later x ys xs n false less = omega (arith, less)

  count_once : (g : Gxid) (x w : Claim) (xs : List Claim) (b : Bool) → is_of g x ≡ b → WaitOnce (x ∷ xs) → cond b (Some x) (find (is_of g) xs) ≡ Some w → (find (is_of g) xs ≡ Some w → length (filter p (without g xs)) + bit (p w) ≡ length (filter p xs)) → length (filter p (cond (not b) (x ∷ without g xs) (without g xs))) + bit (p w) ≡ length (cond (p x) (x ∷ filter p xs) (filter p xs))
  count_once g x w xs true is once found more =
      let same : x ≡ w = cc in
      subst (λ v. length (filter p (without g xs)) + bit (p v) ≡ length (cond (p x) (x ∷ filter p xs) (filter p xs))) same
      (ap (λ (ys : List Claim). length (filter p ys) + bit (p x)) (only-first g x xs once is) ∙ count_here x xs (p x))
  count_once g x w xs false is once found more = count_later x (without g xs) xs (bit (p w)) (p x) (more found)

  -- without the wait of a transaction there is one less of its kinds
  pub count-without : (g : Gxid) (ws : List Claim) (w : Claim) → WaitOnce ws → find (is_of g) ws ≡ Some w → length (filter p (without g ws)) + bit (p w) ≡ length (filter p ws)
  count-without g [] w once found = absurd (cc)
  count-without g (x ∷ xs) w once found = count_once g x w xs (is_of g x) refl once found (count-without g xs w (once_tail x xs once))

filter_true : (xs : List Claim) → filter (λ _. true) xs ≡ xs
filter_true [] = refl
filter_true (x ∷ xs) = ap (λ (ys : List Claim). x ∷ ys) (filter_true xs)

length-without : (g : Gxid) (ws : List Claim) (w : Claim) → WaitOnce ws → find (is_of g) ws ≡ Some w → length (without g ws) + 1 ≡ length ws
length-without g ws w once found =
    ap (λ (xs : List Claim). length xs + 1) (sym (filter_true (without g ws))) ∙ count-without (λ _. true) g ws w once found ∙ ap length (filter_true ws)

-- some claims less
pub IsWhole-fewer : (p : Claim → Bool) (b b' : Book) (ws : List Claim) → IsWhole b ws → IsFiled b' → claims_in b' ≡ filter p (claims_in b) → b'.ledger.places ≡ b.ledger.places → ((k : Key) → places_at b'.index k ≡ awaited k ws) → (IsTidy b.index → IsTidy b'.index) → IsWhole b' ws
IsWhole-fewer p b b' ws whole filed e places room tidy = record {
  filed = filed;
  exclusive = subst (λ (cs : List Claim). AreExclusive cs) (sym e) (AllPairs-filter (λ earlier later. meets later earlier ≡ false) p (claims_in b) whole.exclusive);
  held_once = subst (λ (cs : List Claim). AreOnce cs) (sym e) (AllPairs-filter (λ earlier later. same_claim later earlier ≡ false) p (claims_in b) whole.held_once);
  once = whole.once;
  places = places ∙ whole.places;
  room = room;
  tidy = tidy whole.tidy;
}

-- one more, which meets none and isn't held
pub IsWhole-held : (b b' : Book) (ws ws' : List Claim) (c : Claim) → IsWhole b ws → WaitOnce ws' → is_free (claims_in b) c ≡ true → list_any (same_claim c) (claims_in b) ≡ false → IsFiled b' → claims_in b' ≡ claims_in b ++ c ∷ [] → b'.ledger.places ≡ length ws' → ((k : Key) → places_at b'.index k ≡ awaited k ws') → (IsTidy b.index → IsTidy b'.index) → IsWhole b' ws'
IsWhole-held b b' ws ws' c whole once free new filed e places room tidy =
    let none : list_any (meets c) (claims_in b) ≡ false = free_is (list_any (meets c) (claims_in b)) free in
    record {
      filed = filed;
      exclusive = subst (λ (cs : List Claim). AreExclusive cs) (sym e) (all_pairs_push (λ earlier later. meets later earlier ≡ false) (claims_in b) c whole.exclusive (λ k d inside. none_passes (meets c) (claims_in b) k d (meets c (get_or (claims_in b) k d)) refl none inside));
      held_once = subst (λ (cs : List Claim). AreOnce cs) (sym e) (all_pairs_push (λ earlier later. same_claim later earlier ≡ false) (claims_in b) c whole.held_once (λ k d inside. none_passes (same_claim c) (claims_in b) k d (same_claim c (get_or (claims_in b) k d)) refl new inside));
      once = once;
      places = places;
      room = room;
      tidy = tidy whole.tidy;
    }

-- a hold beside the places
pub IsWhole-added : (b b' : Book) (ws : List Claim) (c : Claim) → IsWhole b ws → is_free (claims_in b) c ≡ true → list_any (same_claim c) (claims_in b) ≡ false → IsFiled b' → claims_in b' ≡ claims_in b ++ c ∷ [] → HasSamePlaces b b' → (IsTidy b.index → IsTidy b'.index) → IsWhole b' ws
IsWhole-added b b' ws c whole free new filed e same tidy =
    IsWhole-held b b' ws ws c whole whole.once free new filed e (same.ledger ∙ whole.places) (λ k. same.index k ∙ whole.room k) tidy

-- the waits without a transaction's
once-without : (g : Gxid) (ws ws' : List Claim) → WaitOnce ws → ws' ≡ without g ws → WaitOnce ws'
once-without g ws ws' once e = subst (λ (xs : List Claim). WaitOnce xs) (sym e) (AllPairs-filter (λ a b. is_of a.gxid b ≡ false) (λ c. not (is_of g c)) ws once)

module _ (b b' : Book) (ws ws' : List Claim) (g : Gxid) (w : Claim) (whole : IsWhole b ws) (e : ws' ≡ without g ws) (found : find (is_of g) ws ≡ Some w) (less : HasPlaceLess b b' w) (tidy : (IsTidy b.index → IsTidy b'.index)) where
  places_left : b'.ledger.places ≡ length ws'
  places_left = omega (arith, length-without g ws w whole.once found, ap length e, whole.places, less.ledger)

  room_left : (k : Key) → places_at b'.index k ≡ awaited k ws'
  room_left k = omega (arith, count-without (is_under k) g ws w whole.once found, ap (awaited k) e, whole.room k, less.index k)

  -- a wait is dropped with its place
  pub IsWhole-dropped : HasSameHolds b b' → IsWhole b' ws'
  IsWhole-dropped same =
      let claims : claims_in b' ≡ claims_in b = ap claims_of same.ledger in
      record {
        filed = λ k. same.index k ∙ whole.filed k ∙ ap (filter (λ h. is_under k h.claim)) (sym same.ledger);
        exclusive = subst (λ (cs : List Claim). AreExclusive cs) (sym claims) whole.exclusive;
        held_once = subst (λ (cs : List Claim). AreOnce cs) (sym claims) whole.held_once;
        once = once-without g ws ws' whole.once e;
        places = places_left;
        room = room_left;
        tidy = tidy whole.tidy;
      }

  -- or held in its place
  pub IsWhole-resumed : is_free (claims_in b) w ≡ true → list_any (same_claim w) (claims_in b) ≡ false → IsFiled b' → claims_in b' ≡ claims_in b ++ w ∷ [] → IsWhole b' ws'
  IsWhole-resumed free new filed claims = IsWhole-held b b' ws ws' w whole (once-without g ws ws' whole.once e) free new filed claims places_left room_left tidy

-- each wait has a place
pub HasPlace-found : (b : Book) (ws : List Claim) (g : Gxid) (w : Claim) → IsWhole b ws → find (is_of g) ws ≡ Some w → HasPlace b w
HasPlace-found b ws g w whole found = record {
  ledger = omega (arith, length-without g ws w whole.once found, whole.places);
  index = λ k. omega (arith, count-without (is_under k) g ws w whole.once found, whole.room k);
}

none_of : (g : Gxid) (ws : List Claim) → filter (is_of g) (without g ws) ≡ []
none_of g [] = refl
none_of g (w ∷ ws) = once (is_of g w) refl (none_of g ws)
  where
    once : (a : Bool) → is_of g w ≡ a → filter (is_of g) (without g ws) ≡ [] → filter (is_of g) (cond (not a) (w ∷ without g ws) (without g ws)) ≡ []
    once true is more = more
    once false isnt more = ap (λ b. cond b (w ∷ filter (is_of g) (without g ws)) (filter (is_of g) (without g ws))) isnt ∙ more

key_cases : (g : Gxid) (k : Key) → (k ≡ Of g) ⊎ (k ≢ Of g)
key_cases g (On o) = inr (λ same. cc)
key_cases g (Of h) = ⊎_elim (λ (same : h ≡ g). inl (ap Of same)) (λ (other : h ≢ g). inr (λ same. other (cc))) (gxids h g)
  where
    gxids : (a b : Gxid) → (a ≡ b) ⊎ (a ≢ b)
    gxids a b = grind (arith, nat_tests)

-- all claims of a transaction that doesn't wait are given back
pub IsWhole-emptied : (g : Gxid) (b b' : Book) (ws ws0 : List Claim) → IsWhole b ws → ws ≡ without g ws0 → IsFiled b' → claims_in b' ≡ without g (claims_in b) → b'.ledger.places ≡ b.ledger.places → places_at b'.index (Of g) ≡ 0 → ((k : Key) → k ≢ Of g → places_at b'.index k ≡ places_at b.index k) → (IsTidy b.index → IsTidy b'.index) → IsWhole b' ws
IsWhole-emptied g b b' ws ws0 whole e filed claims places none room tidy =
    IsWhole-fewer (λ c. not (is_of g c)) b b' ws whole filed claims places (λ k. ⊎_elim (λ (same : k ≡ Of g). its k same) (λ (other : k ≢ Of g). room k other ∙ whole.room k) (key_cases g k)) tidy
  where
    its : (k : Key) → k ≡ Of g → places_at b'.index k ≡ awaited k ws
    its k same = subst (λ l. places_at b'.index l ≡ awaited l ws) (sym same) (none ∙ sym (ap length (ap (filter (is_of g)) e ∙ none_of g ws0)))

-- where a transaction doesn't wait, its waits are none
pub without-unfound : (g : Gxid) (ws : List Claim) → find (is_of g) ws ≡ None → without g ws ≡ ws
without-unfound g ws none = filter-unfound (is_of g) ws none

-- the wait that was found is ready
pub ready_is_free : (locks : Locks) (o : Option Claim) (wait : Claim) → is_ready locks o ≡ true → o ≡ Some wait → is_free locks.holds wait ≡ true
ready_is_free locks o wait ready found = clear-free locks.holds locks.waits wait (subst (λ (p : Option Claim). is_ready locks p ≡ true) found ready)

nothing_long : (xs : List Claim) → length xs ≤ 0 → xs ≡ []
nothing_long [] none = refl
nothing_long (x ∷ xs) none = absurd (omega (arith, none))

no_place : (n : ℕ) → eqb n 0 ≡ true → n ≤ 0
no_place n is = grind (arith, nat_tests)

none_any : (p : Claim → Bool) (x : Claim) (xs : List Claim) (b : Bool) → cond b (x ∷ filter p xs) (filter p xs) ≡ [] → (filter p xs ≡ [] → list_any p xs ≡ false) → (b || list_any p xs) ≡ false
none_any p x xs true none more = absurd (cc)
none_any p x xs false none more = more none

list_any-filter_none : (p : Claim → Bool) (xs : List Claim) → filter p xs ≡ [] → list_any p xs ≡ false
list_any-filter_none p [] none = refl
list_any-filter_none p (x ∷ xs) none = none_any p x xs (p x) none (list_any-filter_none p xs)

-- a transaction for which there is no place doesn't wait
module _ (b : Book) (ws : List Claim) (g : Gxid) (whole : IsWhole b ws) (full : eqb (places_at b.index (Of g)) 0 ≡ true) where
  no_wait : filter (is_of g) ws ≡ []
  no_wait = nothing_long (filter (is_of g) ws) (omega (arith, whole.room (Of g), no_place (places_at b.index (Of g)) full))

  pub without-full : without g ws ≡ ws
  without-full = filter-none (is_of g) ws no_wait

  pub list_any-full : list_any (is_of g) ws ≡ false
  list_any-full = list_any-filter_none (is_of g) ws no_wait

-- where there is no place on an object, nobody waits for it
pub none-awaits : (b : Book) (ws : List Claim) (o : Object) → IsWhole b ws → eqb (places_at b.index (On o)) 0 ≡ true → list_any (is_under (On o)) ws ≡ false
none-awaits b ws o whole full =
    list_any-filter_none (is_under (On o)) ws (nothing_long (filter (is_under (On o)) ws) (omega (arith, whole.room (On o), no_place (places_at b.index (On o)) full)))
