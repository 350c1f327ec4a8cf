-- What a step has sent is found at the places that were noted.
use Rattle.std.proofs.Common.{◌≡◌, ◌<◌, ◌⊎◌, inl, inr, ℕ, zero, suc, ◌+◌, List, [], ◌∷◌, ◌++◌, Some, None, Bool, true, false, eqb, refl, sym, subst, ap, ◌∙◌, if◌then◌else◌, ◌&&◌, arith, length, append-nil}
use Rattle.std.proofs.lemmas.Bool.{eqb-true}
use Rattle.std.proofs.lemmas.Bool.Decides.{nat_tests}
use Rattle.std.proofs.lemmas.List.{append_assoc}
use Rattle.std.specs.Prelude.{slice_get}
use Rattle.gx_lemmas.proofs.Numbers.{plus-none}
use Rattle.gx_lemmas.proofs.Options.{some-same}
use Rattle.gx_lemmas.proofs.Lists.{length-push}
use Rattle.gx_ids.specs.declared.ids.Node.{Node}
use Rattle.gx_msg.specs.declared.message.Envelope.{Envelope}
use Rattle.gx_msg.specs.declared.message.Message.{Message}
use Rattle.gx_store.specs.declared.mark.Mark.{Mark}
use Rattle.gx_store.specs.declared.mark.Mark.TheVariants as mark
use Rattle.gx_store.specs.declared.run.Step.{Step}
use Rattle.gx_store.specs.Journals.{is_same_node}
use Rattle.gx_store.specs.Ordered.{AreNumbered, sent_count, sent_in}
use Rattle.gx_rules.specs.Machine.{Letter, found, posted}
use Rattle.gx_world.specs.declared.letters.Place.{Place}
use Rattle.gx_world.specs.Links.{letter_at, places_from, sent_by, sent_in_step, stands_at}
use Rattle.gx_law_order.proofs.Letters.{same_node}
use Rattle.gx_law_order.proofs.Lists.{get_last}
use Rattle.gx_law_order.proofs.Sent.{sent_count-append}

-- LISTS
pub get-push : {A : Type 0} (xs : List A) (x : A) (k : ℕ) → slice_get (xs ++ x ∷ []) k ≡ (if eqb k (length xs) then Some x else slice_get xs k)
get-push [] x zero = refl
get-push [] x (suc k) = ap (λ (b : Bool). if b then Some x else None) (sym (positive k))
  where
    positive : (i : ℕ) → eqb (suc i) 0 ≡ false
    positive i = grind (arith, nat_tests)
get-push (y ∷ xs) x zero = ap (λ (b : Bool). if b then Some x else Some y) (sym (under (length xs)))
  where
    under : (i : ℕ) → eqb 0 (suc i) ≡ false
    under i = grind (arith, nat_tests)
get-push (y ∷ xs) x (suc k) = get-push xs x k ∙ ap (λ (b : Bool). if b then Some x else slice_get xs k) (both k (length xs))
  where
    both : (i j : ℕ) → eqb i j ≡ eqb (suc i) (suc j)
    both i j = grind (arith, nat_tests)

pub length-both : {A : Type 0} (xs ys : List A) → length (xs ++ ys) ≡ length xs + length ys
length-both [] ys = grind arith
length-both (y ∷ xs) ys = grind (arith, length-both xs ys)

pub get-kept : {A : Type 0} (xs ys : List A) (k : ℕ) → k < length xs → slice_get (xs ++ ys) k ≡ slice_get xs k
get-kept [] ys k h = absurd (omega arith)
get-kept (x ∷ xs) ys zero h = refl
get-kept (x ∷ xs) ys (suc k) h = get-kept xs ys k (omega arith)

-- a place in an append is in either list
pub record IsIn {A : Type 0} (xs : List A) (x : A) : Type 0 where
  pub at : ℕ
  pub is : slice_get xs at ≡ Some x

pub get-either : {A : Type 0} (xs ys : List A) (k : ℕ) (x : A) → slice_get (xs ++ ys) k ≡ Some x → (slice_get xs k ≡ Some x) ⊎ IsIn ys x
get-either [] ys k x e = inr (record { at = k; is = e })
get-either (y ∷ xs) ys zero x e = inl e
get-either (y ∷ xs) ys (suc k) x e = get-either xs ys k x e

-- PLACES
pub places-count : (step k : ℕ) (to : Node) (ms : List Mark) → length (places_from step k to ms) ≡ sent_count to ms
places-count step k to [] = refl
places-count step k to (mark.Sent t n told ∷ ms) = grind (arith, nat_tests, places-count step (k + 1) to ms)
places-count step k to (m ∷ ms) = places-count step (k + 1) to ms

pub places-step : (step k : ℕ) (to : Node) (ms : List Mark) (j : ℕ) (p : Place) → slice_get (places_from step k to ms) j ≡ Some p → p.step ≡ step
places-step step k to [] j p e = absurd (cc)
places-step step k to (mark.Sent t n told ∷ ms) j p e = by_test (is_same_node t to) j e (λ i. places-step step (k + 1) to ms i p)
  where
    by_test : (b : Bool) (i : ℕ) → slice_get (if b then record { step = step; mark = k } ∷ places_from step (k + 1) to ms else places_from step (k + 1) to ms) i ≡ Some p
        → ((i : ℕ) → slice_get (places_from step (k + 1) to ms) i ≡ Some p → p.step ≡ step) → p.step ≡ step
    by_test true zero h later = ap (λ (x : Place). x.step) (sym (some-same _ p h))
    by_test true (suc i) h later = later i h
    by_test false i h later = later i h
places-step step k to (m ∷ ms) j p e = places-step step (k + 1) to ms j p e

-- THE LINKS OF THE NODE ITSELF
module _ (node to : Node) (steps all : List Step) (s : Step) (last : slice_get all (length steps) ≡ Some s) where
  abbrev here : ℕ → Place
  here k = record { step = length steps; mark = k }

  abbrev mine : Node → ℕ → List Place
  mine t k = if is_same_node t to then here k ∷ [] else []

  abbrev letter : Node → ℕ → Message → Letter
  letter t k told = record { from = node; to = t; envelope = record { number = k; clock = s.stamp.clock; incarnation = 1; message = told } }

  one-place : (k : ℕ) (t : Node) (n : ℕ) (told : Message) (ms : List Mark) → places_from (length steps) k to (mark.Sent t n told ∷ ms) ≡ mine t k ++ places_from (length steps) (k + 1) to ms
  one-place k t n told ms = by_test (is_same_node t to)
    where
      by_test : (b : Bool) → (if b then here k ∷ places_from (length steps) (k + 1) to ms else places_from (length steps) (k + 1) to ms) ≡ (if b then here k ∷ [] else []) ++ places_from (length steps) (k + 1) to ms
      by_test true = refl
      by_test false = refl

  one-longer : (old : List Place) (earlier : List Mark) (t : Node) (n : ℕ) (told : Message) (a : ℕ) → length old ≡ a + sent_count to earlier → length (old ++ mine t (length earlier)) ≡ a + sent_count to (earlier ++ mark.Sent t n told ∷ [])
  one-longer old earlier t n told a h =
      length-both old (mine t (length earlier)) ∙ by_test (is_same_node t to) ∙ ap (λ c. a + c) (sym (sent_count-append to earlier (mark.Sent t n told ∷ [])))
    where
      by_test : (b : Bool) → length old + length (if b then here (length earlier) ∷ [] else []) ≡ a + (sent_count to earlier + (if b then 0 + 1 else 0))
      by_test true = omega (arith, h)
      by_test false = omega (arith, h)

  same-first : (b : Bool) → (is_same_node node node && b) ≡ b
  same-first b = grind (arith, nat_tests)

  -- one message more, with the next number
  one-more : (earlier ms : List Mark) (old : List Place) (sent : List Letter) (t : Node) (k : ℕ) (told : Message) → s.marks ≡ earlier ++ mark.Sent t k told ∷ ms → (is_same_node t to ≡ true → k ≡ length old + 1) → ((n : ℕ) → letter_at all old n ≡ found node to n sent) → (n : ℕ) → letter_at all (old ++ mine t (length earlier)) n ≡ found node to n (letter t k told ∷ sent)
  one-more earlier ms old sent t k told e next h n =
      by_test (is_same_node t to) next ∙ ap (λ (b : Bool). if b then Some (letter t k told).envelope else found node to n sent) (sym (same-first (is_same_node t to && eqb k n)))
    where
      is_there : (number : ℕ) → stands_at all number (Some (here (length earlier))) ≡ Some (record { number = number; clock = s.stamp.clock; incarnation = 1; message = told })
      is_there number =
          ap (sent_in_step number (length earlier)) last
          ∙ ap (λ ms. sent_by number s.stamp.clock (slice_get ms (length earlier))) e
          ∙ ap (sent_by number s.stamp.clock) (get_last earlier ms (mark.Sent t k told))

      not_zero : (a : ℕ) → a ≡ length old + 1 → eqb a 0 ≡ false
      not_zero a is = grind (arith, nat_tests)

      same_test : (a i : ℕ) → a ≡ length old + 1 → eqb a (suc i) ≡ eqb i (length old)
      same_test a i is = grind (arith, nat_tests)

      same_number : (a i : ℕ) → eqb a i ≡ true → i ≡ a
      same_number a i x = sym (eqb-true a i x)

      own : (i : ℕ) → k ≡ length old + 1 → letter_at all (old ++ here (length earlier) ∷ []) i ≡ (if eqb k i then Some (letter t k told).envelope else found node to i sent)
      own zero is = h 0 ∙ ap (λ (b : Bool). if b then Some (letter t k told).envelope else found node to 0 sent) (sym (not_zero k is))
      own (suc i) is =
          ap (stands_at all (suc i)) (get-push old (here (length earlier)) i)
          ∙ by_place (eqb i (length old)) (same_test k i is)
          ∙ ap (λ (b : Bool). if b then Some (letter t k told).envelope else found node to (suc i) sent) (sym (same_test k i is))
        where
          by_place : (b : Bool) → eqb k (suc i) ≡ b → stands_at all (suc i) (if b then Some (here (length earlier)) else slice_get old i) ≡ (if b then Some (letter t k told).envelope else found node to (suc i) sent)
          by_place true x = is_there (suc i) ∙ ap (λ a. let y : Envelope = record { number = a; clock = s.stamp.clock; incarnation = 1; message = told } in Some y) (same_number k (suc i) x)
          by_place false x = h (suc i)

      by_test : (b : Bool) → (b ≡ true → k ≡ length old + 1) → letter_at all (old ++ (if b then here (length earlier) ∷ [] else [])) n ≡ (if b && eqb k n then Some (letter t k told).envelope else found node to n sent)
      by_test true is = own n (is refl)
      by_test false is = ap (λ x. letter_at all x n) (append-nil old) ∙ h n

  pub own-link : (earlier ms : List Mark) (old : List Place) (sent : List Letter) → s.marks ≡ earlier ++ ms → AreNumbered node steps earlier ms → length old ≡ sent_in node to steps + sent_count to earlier → ((n : ℕ) → letter_at all old n ≡ found node to n sent) → (n : ℕ) → letter_at all (old ++ places_from (length steps) (length earlier) to ms) n ≡ found node to n (posted node s.stamp.clock ms sent)
  own-link earlier [] old sent e h len is n = ap (λ x. letter_at all x n) (append-nil old) ∙ is n
  own-link earlier (mark.Sent t k told ∷ ms) old sent e h len is n =
      ap (λ x. letter_at all (old ++ x) n) (one-place (length earlier) t k told ms)
      ∙ ap (λ x. letter_at all x n) (sym (append_assoc old (mine t (length earlier)) (places_from (length steps) (length earlier + 1) to ms)))
      ∙ ap (λ x. letter_at all ((old ++ mine t (length earlier)) ++ places_from (length steps) x to ms) n) (sym (length-push earlier (mark.Sent t k told)))
      ∙ own-link (earlier ++ mark.Sent t k told ∷ []) ms (old ++ mine t (length earlier)) (letter t k told ∷ sent) (e ∙ sym (append_assoc earlier (mark.Sent t k told ∷ []) ms)) h.1
      (one-longer old earlier t k told (sent_in node to steps) len)
      (one-more earlier ms old sent t k told e (λ same. h.0 ∙ subst (λ x. sent_in node x steps + sent_count x earlier + 1 ≡ length old + 1) (sym (same_node t to same)) (ap (λ a. a + 1) (sym len))) is) n
  own-link earlier (m ∷ ms) old sent e h len is n =
      ap (λ x. letter_at all (old ++ places_from (length steps) x to ms) n) (sym (length-push earlier m))
      ∙ own-link (earlier ++ m ∷ []) ms old sent (e ∙ sym (append_assoc earlier (m ∷ []) ms)) h (len ∙ ap (λ a. sent_in node to steps + a) (sym (nothing-more m refl))) is n
    where
      nothing-more : (x : Mark) → x ≡ m → sent_count to (earlier ++ m ∷ []) ≡ sent_count to earlier
      nothing-more x same = sent_count-append to earlier (m ∷ []) ∙ plus-none (sent_count to earlier)
