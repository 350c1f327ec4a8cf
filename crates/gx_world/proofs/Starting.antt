-- A new network.
use Rattle.std.proofs.Common.{◌≡◌, ℕ, zero, suc, ◌+◌, List, [], ◌∷◌, ◌++◌, Some, None, Bool, true, false, eqb, refl, sym, subst, ap, ◌∙◌, if◌then◌else◌, length, replicate}
use Rattle.std.proofs.lemmas.Bool.{eqb-true}
use Rattle.std.specs.Prelude.{slice_get}
use Rattle.gx_lemmas.proofs.Options.{some-same}
use Rattle.gx_lemmas.proofs.Lists.{length-push}
use Rattle.gx_ids.specs.declared.ids.Node.{Node}
use Rattle.gx_script.specs.declared.Script.{Script}
use Rattle.gx_store.specs.Journals.{is_same_node}
use Rattle.gx_store.specs.Refusals.{the_coordinator}
use Rattle.gx_rules.specs.Machine.{new_world}
use Rattle.gx_segment.specs.declared.segment.Segment.{Segment}
use Rattle.gx_world.specs.declared.letters.Letters.{Letters}
use Rattle.gx_world.specs.declared.letters.Place.{Place}
use Rattle.gx_world.specs.Links.{ArePosted, IsLong, letter_at, link_in, nth_link}
use Rattle.gx_world.specs.Made.{AreNew}
use Rattle.gx_world.specs.Networks.{ArePlaced, IsAt}
use Rattle.gx_world.proofs.Links.{get-push}

pub more-new : (script : Script) (xs : List Segment) (s : Segment) (count : ℕ) → (length xs ≡ count) × AreNew script xs → IsAt script new_world (count + 1) s → (ys : List Segment) → ys ≡ xs ++ s ∷ [] → (length ys ≡ count + 1) × AreNew script ys
more-new script xs s count were is ys same = (
  ap length same ∙ length-push xs s ∙ ap (λ a. a + 1) were.0,
  λ k x e. by_place k x (eqb k (length xs)) refl (sym (get-push xs s k) ∙ subst (λ zs. slice_get zs k ≡ Some x) same e),
)
  where
    at_end : (x : Segment) → Some s ≡ Some x → (k : ℕ) → k ≡ length xs → IsAt script new_world (k + 1) x
    at_end x e k h = subst (λ i. IsAt script new_world (i + 1) x) (sym (h ∙ were.0)) (subst (IsAt script new_world (count + 1)) (some-same s x e) is)

    by_place : (k : ℕ) (x : Segment) (b : Bool) → eqb k (length xs) ≡ b → (if eqb k (length xs) then Some s else slice_get xs k) ≡ Some x → IsAt script new_world (k + 1) x
    by_place k x true t e = at_end x (sym (ap (λ (b : Bool). if b then Some s else slice_get xs k) t) ∙ e) k (eqb-true k (length xs) t)
    by_place k x false t e = were.1 k x (sym (ap (λ (b : Bool). if b then Some s else slice_get xs k) t) ∙ e)

-- NO MESSAGES
nth-empty : (n k : ℕ) → nth_link (replicate n []) k ≡ []
nth-empty zero k = refl
nth-empty (suc n) zero = refl
nth-empty (suc n) (suc k) = nth-empty n k

length-replicate : {A : Type 0} (n : ℕ) (x : A) → length (replicate n x) ≡ n
length-replicate zero x = refl
length-replicate (suc n) x = ap suc (length-replicate n x)

module _ (letters : Letters) (n : ℕ) (to : letters.to.items ≡ replicate n []) (from : letters.from.items ≡ replicate n []) where
  no-link : (f t : Node) → link_in letters f t ≡ []
  no-link f t = by_test (is_same_node f the_coordinator) (is_same_node t the_coordinator)
    where
      by_test : (a b : Bool) → (if a then nth_link letters.to.items t.0 else (if b then nth_link letters.from.items f.0 else [])) ≡ []
      by_test true b = ap (λ (xs : List (List Place)). nth_link xs t.0) to ∙ nth-empty n t.0
      by_test false true = ap (λ (xs : List (List Place)). nth_link xs f.0) from ∙ nth-empty n f.0
      by_test false false = refl

  pub none-long : (segments : ℕ) → n ≡ segments + 1 → IsLong segments letters
  none-long segments h = record { to = ap length to ∙ length-replicate n [] ∙ h; from = ap length from ∙ length-replicate n [] ∙ h }

  pub none-posted : ArePosted letters [] []
  none-posted = record { count = λ f t. ap length (no-link f t); is = λ f t k. ap (λ x. letter_at [] x k) (no-link f t) ∙ nothing k }
    where
      nothing : (k : ℕ) → letter_at [] [] k ≡ None
      nothing zero = refl
      nothing (suc k) = refl

  pub none-placed : ArePlaced letters []
  none-placed f t k p e = absurd (nowhere k p (subst (λ xs. slice_get xs k ≡ Some p) (no-link f t) e))
    where
      nowhere : (k : ℕ) (p : Place) → slice_get [] k ≡ Some p → ⊥
      nowhere k p e = (cc)
