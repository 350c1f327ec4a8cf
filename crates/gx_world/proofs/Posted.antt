-- What was noted of a step's messages, on every link.
use Rattle.std.proofs.Common.{◌≡◌, ◌<◌, ⊎_elim, ℕ, zero, suc, ◌+◌, List, [], ◌∷◌, ◌++◌, Option, Some, None, Bool, true, false, refl, sym, subst, ap, ◌∙◌, if◌then◌else◌, ◌&&◌, arith, length, append-nil}
use Rattle.std.proofs.lemmas.Bool.Decides.{nat_tests}
use Rattle.std.specs.Prelude.{slice_get, ◌==◌}
use Rattle.gx_lemmas.proofs.Lists.{length-push}
use Rattle.gx_lemmas.proofs.Numbers.{same-plus-none}
use Rattle.gx_ids.specs.declared.ids.Node.{Node}
use Rattle.gx_store.specs.declared.mark.Mark.{Mark}
use Rattle.gx_store.specs.declared.mark.Mark.TheVariants as mark
use Rattle.gx_store.specs.declared.run.Step.{Step}
use Rattle.gx_store.specs.Journals.{is_same_node}
use Rattle.gx_store.specs.Ordered.{AreNumbered, sent_count, sent_in}
use Rattle.gx_rules.specs.Machine.{Letter, found, posted}
use Rattle.gx_world.specs.declared.letters.Letters.{Letters}
use Rattle.gx_world.specs.declared.letters.Place.{Place}
use Rattle.gx_world.specs.Links.{ArePosted, letter_at, link_in, places_from, sent_in_step, stands_at}
use Rattle.gx_law_order.proofs.Letters.{same_node}
use Rattle.gx_law_order.proofs.Lists.{get_last}
use Rattle.gx_law_order.proofs.Sent.{sent_in-last}
use Rattle.gx_world.specs.Networks.{ArePlaced}
use Rattle.gx_world.proofs.Links.{IsIn, get-either, get-kept, length-both, own-link, places-count, places-step}

-- another node's links have nothing new
found-other : (from to : Node) (n : ℕ) (node : Node) (clock : ℕ) (ms : List Mark) (sent : List Letter) → is_same_node node from ≡ false → found from to n (posted node clock ms sent) ≡ found from to n sent
found-other from to n node clock [] sent e = refl
found-other from to n node clock (mark.Sent t k told ∷ ms) sent e =
    found-other from to n node clock ms (letter ∷ sent) e ∙ ap (λ (b : Bool). if b && (is_same_node t to && (k == n)) then Some letter.envelope else found from to n sent) e
  where
    letter : Letter
    letter = record { from = node; to = t; envelope = record { number = k; clock = clock; incarnation = 1; message = told } }
found-other from to n node clock (m ∷ ms) sent e = found-other from to n node clock ms sent e

turned-round : (a b : Node) → is_same_node a b ≡ false → is_same_node b a ≡ false
turned-round a b e = grind (arith, nat_tests)

module _ (steps : List Step) (sent : List Letter) (s : Step) (old new : Letters) (were : ArePosted old steps sent) (placed : ArePlaced old steps) (numbers : AreNumbered s.stamp.node steps [] s.marks) (links : (f t : Node) → link_in new f t ≡ link_in old f t ++ (if is_same_node f s.stamp.node then places_from (length steps) 0 t s.marks else [])) where
  abbrev all : List Step
  all = steps ++ s ∷ []

  abbrev added : Bool → Node → List Place
  added b t = if b then places_from (length steps) 0 t s.marks else []

  old-letter : (f t : Node) (n : ℕ) → letter_at all (link_in old f t) n ≡ found f t n sent
  old-letter f t zero = were.is f t 0
  old-letter f t (suc m) = by_place (slice_get (link_in old f t) m) refl ∙ were.is f t (suc m)
    where
      by_place : (o : Option Place) → slice_get (link_in old f t) m ≡ o → stands_at all (suc m) o ≡ stands_at steps (suc m) o
      by_place None e = refl
      by_place (Some p) e = ap (sent_in_step (suc m) p.mark) (get-kept steps (s ∷ []) p.step (placed f t m p e))

  own-count : (t : Node) → length (link_in old s.stamp.node t) ≡ sent_in s.stamp.node t steps + 0
  own-count t = were.count s.stamp.node t ∙ same-plus-none (sent_in s.stamp.node t steps)

  letter-now : (f t : Node) (n : ℕ) → letter_at all (link_in new f t) n ≡ found f t n (posted s.stamp.node s.stamp.clock s.marks sent)
  letter-now f t n = ap (λ x. letter_at all x n) (links f t) ∙ by_test (is_same_node f s.stamp.node) refl
    where
      mine : letter_at all (link_in old s.stamp.node t ++ places_from (length steps) 0 t s.marks) n ≡ found s.stamp.node t n (posted s.stamp.node s.stamp.clock s.marks sent)
      mine = own-link s.stamp.node t steps all s (get_last steps [] s) [] s.marks (link_in old s.stamp.node t) sent refl numbers (own-count t) (old-letter s.stamp.node t) n

      by_test : (b : Bool) → is_same_node f s.stamp.node ≡ b → letter_at all (link_in old f t ++ added b t) n ≡ found f t n (posted s.stamp.node s.stamp.clock s.marks sent)
      by_test true e = subst (λ x. letter_at all (link_in old x t ++ places_from (length steps) 0 t s.marks) n ≡ found x t n (posted s.stamp.node s.stamp.clock s.marks sent)) (sym (same_node f s.stamp.node e)) mine
      by_test false e = ap (λ x. letter_at all x n) (append-nil (link_in old f t)) ∙ old-letter f t n ∙ sym (found-other f t n s.stamp.node s.stamp.clock s.marks sent (turned-round f s.stamp.node e))

  count-now : (f t : Node) → length (link_in new f t) ≡ sent_in f t all
  count-now f t =
      ap length (links f t) ∙ length-both (link_in old f t) (added (is_same_node f s.stamp.node) t)
      ∙ ap (λ a. a + length (added (is_same_node f s.stamp.node) t)) (were.count f t)
      ∙ ap (λ a. sent_in f t steps + a) (by_test (is_same_node f s.stamp.node) ∙ ap (λ (b : Bool). if b then sent_count t s.marks else 0) (either-way f s.stamp.node))
      ∙ sym (sent_in-last f t steps s)
    where
      by_test : (b : Bool) → length (added b t) ≡ (if b then sent_count t s.marks else 0)
      by_test true = places-count (length steps) 0 t s.marks
      by_test false = refl

      either-way : (a b : Node) → is_same_node a b ≡ is_same_node b a
      either-way a b = grind (arith, nat_tests)

  pub noted-posted : ArePosted new all (posted s.stamp.node s.stamp.clock s.marks sent)
  noted-posted = record { count = count-now; is = letter-now }

  pub noted-placed : ArePlaced new all
  noted-placed f t k p e =
      ⊎_elim (λ (h : slice_get (link_in old f t) k ≡ Some p). before p.step (length steps) (length all) (placed f t k p h) (length-push steps s))
      (λ (h : IsIn (added (is_same_node f s.stamp.node) t) p). last p.step (length steps) (length all) (own (is_same_node f s.stamp.node) h.at h.is) (length-push steps s))
      (get-either (link_in old f t) (added (is_same_node f s.stamp.node) t) k p (subst (λ x. slice_get x k ≡ Some p) (links f t) e))
    where
      before : (a b c : ℕ) → a < b → c ≡ b + 1 → a < c
      before a b c h is = omega arith

      last : (a b c : ℕ) → a ≡ b → c ≡ b + 1 → a < c
      last a b c h is = omega arith

      own : (b : Bool) (j : ℕ) → slice_get (added b t) j ≡ Some p → p.step ≡ length steps
      own true j h = places-step (length steps) 0 t s.marks j p h
      own false j h = absurd (cc)
