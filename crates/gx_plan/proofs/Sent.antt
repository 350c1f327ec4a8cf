-- One more segment.
use Rattle.std.proofs.Common.{ℕ, zero, suc, ◌≡◌, ◌∙◌, ◌+◌, sym, ap, arith, List, [], ◌∷◌, ◌++◌}
use Rattle.std.specs.Prelude.{map}
use Rattle.gx_tree.specs.declared.slice.Slice.{Slice}
use Rattle.gx_meaning.specs.Plan.{nodes_from, piece}
use Rattle.gx_meaning.specs.declared.piece.Piece.{Piece}

sent_from : (s : Slice) (k count : ℕ) → map (piece s) (nodes_from k (suc count)) ≡ map (piece s) (nodes_from k count) ++ piece s (record { 0 = k + count }) ∷ []
sent_from s k zero = let same : k ≡ k + 0 = omega arith in ap (λ j. piece s (record { 0 = j }) ∷ []) same
sent_from s k (suc count) =
    let same : (k + 1) + count ≡ k + suc count = omega arith in
    ap (λ l. piece s (record { 0 = k }) ∷ l) (sent_from s (k + 1) count ∙ ap (λ j. map (piece s) (nodes_from (k + 1) count) ++ piece s (record { 0 = j }) ∷ []) same)

-- a loop's step: one more segment
pub sent_more : (s : Slice) (count : ℕ) (old new : List Piece) → old ≡ map (piece s) (nodes_from 1 count) → new ≡ old ++ piece s (record { 0 = count + 1 }) ∷ [] → new ≡ map (piece s) (nodes_from 1 (count + 1))
sent_more s count old new is added =
    let one : suc count ≡ count + 1 = omega arith in
    let next : 1 + count ≡ count + 1 = omega arith in
    added ∙ ap (λ l. l ++ piece s (record { 0 = count + 1 }) ∷ []) is ∙ ap (λ j. map (piece s) (nodes_from 1 count) ++ piece s (record { 0 = j }) ∷ []) (sym next) ∙ sym (sent_from s 1 count) ∙ ap (λ j. map (piece s) (nodes_from 1 j)) one
