-- Lists that are made piece by piece: what is still to come stands behind what was made.
use Rattle.std.proofs.Common.{◌≡◌, ◌<◌, ◌≤◌, ℕ, ◌+◌, ◌-◌, List, [], ◌∷◌, ◌++◌, Bool, true, false, if◌then◌else◌, refl, sym, ap, ◌∙◌, arith, append_assoc, append-nil}
use Rattle.std.specs.List.{flat_map}
use Rattle.gx_ids.specs.declared.ids.Node.{Node}
use Rattle.gx_ids.specs.declared.ids.SessionId.{SessionId}
use Rattle.gx_meaning.specs.Plan.{nodes_from}
use Rattle.gx_store.specs.declared.event.Event.{Event}
use Rattle.gx_store.specs.declared.event.Event.TheVariants.{End}
use Rattle.gx_drive.proofs.Firsts.{nodes-next, passing, passing-next, passing-skips}

-- BY NODE
module _ (f : Node → List Event) where
  pub nodes-push : (k m : ℕ) (old new all : List Event) → k < m → new ≡ old ++ f (record { 0 = k }) → old ++ flat_map f (nodes_from k (m - k)) ≡ all
      → new ++ flat_map f (nodes_from (k + 1) (m - (k + 1))) ≡ all
  nodes-push k m old new all inside added before =
      ap (λ xs. xs ++ flat_map f (nodes_from (k + 1) (m - (k + 1)))) added
      ∙ append_assoc old (f (record { 0 = k })) (flat_map f (nodes_from (k + 1) (m - (k + 1))))
      ∙ ap (λ xs. old ++ xs) (sym (nodes-next f k m inside))
      ∙ before

  pub nodes-all : (k m : ℕ) (old all : List Event) → m ≤ k → old ++ flat_map f (nodes_from k (m - k)) ≡ all → old ≡ all
  nodes-all k m old all past before = sym (append-nil old) ∙ ap (λ n. old ++ flat_map f (nodes_from k n)) none ∙ before
    where
      none : 0 ≡ m - k
      none = omega (arith, past)

-- BY SESSION
module _ (p : SessionId → Bool) where
  sessions-next : (k m : ℕ) (b : Bool) → k < m → p (record { 0 = k }) ≡ b → passing p k (m - k) ≡ (if b then End (record { 0 = k }) ∷ [] else []) ++ passing p (k + 1) (m - (k + 1))
  sessions-next k m true inside is = passing-next p k m inside is
  sessions-next k m false inside is = passing-skips p k m inside is

  pub sessions-push : (k m : ℕ) (old new all : List Event) → k < m → new ≡ old ++ (if p (record { 0 = k }) then End (record { 0 = k }) ∷ [] else []) → old ++ passing p k (m - k) ≡ all
      → new ++ passing p (k + 1) (m - (k + 1)) ≡ all
  sessions-push k m old new all inside added before =
      ap (λ xs. xs ++ passing p (k + 1) (m - (k + 1))) added
      ∙ append_assoc old (if p (record { 0 = k }) then End (record { 0 = k }) ∷ [] else []) (passing p (k + 1) (m - (k + 1)))
      ∙ ap (λ xs. old ++ xs) (sym (sessions-next k m (p (record { 0 = k })) inside refl))
      ∙ before

  pub sessions-all : (k m : ℕ) (old all : List Event) → m ≤ k → old ++ passing p k (m - k) ≡ all → old ≡ all
  sessions-all k m old all past before = sym (append-nil old) ∙ ap (λ n. old ++ passing p k n) none ∙ before
    where
      none : 0 ≡ m - k
      none = omega (arith, past)

-- piece behind piece
pub pieces : (a b c d e f g none one two three four five six seven : List Event) → none ≡ [] → one ≡ none ++ a → two ≡ one ++ b → three ≡ two ++ c → four ≡ three ++ d → five ≡ four ++ e → six ≡ five ++ f → seven ≡ six ++ g
    → seven ≡ a ++ b ++ c ++ d ++ e ++ f ++ g
pieces a b c d e f g none one two three four five six seven empty first second third fourth fifth sixth last =
    last
    ∙ ap (λ xs. xs ++ g)
    (sixth
    ∙ ap (λ xs. xs ++ f) (fifth ∙ ap (λ xs. xs ++ e) (fourth ∙ ap (λ xs. xs ++ d) (third ∙ ap (λ xs. xs ++ c) (second ∙ ap (λ xs. xs ++ b) (first ∙ ap (λ xs. xs ++ a) empty))))))
