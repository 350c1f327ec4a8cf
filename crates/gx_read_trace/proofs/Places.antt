-- The numbers of a session's lines are at most as many as the lines.
use Rattle.std.proofs.Common.{ℕ, zero, suc, ◌+◌, ◌<◌, ◌≤◌, ◌==◌, Bool, true, false, if◌then◌else◌, List, [], ◌∷◌, length, map, arith}
use Rattle.std.specs.Prelude.{All}
use Rattle.std.specs.List.{range_with_len}
use Rattle.std.proofs.lemmas.List.Elements.{All-append, All-cons, All-nil}
use Rattle.gx_script.specs.declared.Line.{Line}
use Rattle.gx_store.specs.Language.{lines_in}
use Rattle.gx_trace.specs.Shown.{all_places, places_in}

few-lines : (session : ℕ) (lines : List Line) → lines_in session lines ≤ length lines
few-lines session [] = omega arith
few-lines session (l ∷ ls) = by (l.session.0 == session) (few-lines session ls)
  where
    by : (c : Bool) → lines_in session ls ≤ length ls → (if c then lines_in session ls + 1 else lines_in session ls) ≤ length (l ∷ ls)
    by true less = omega (arith, less)
    by false less = omega (arith, less)

abbrev IsBelow : ℕ → ℕ × ℕ → Type 0
IsBelow most p = p.1 < most

below-from : (session first n most : ℕ) → first + n ≤ most → All (IsBelow most) (map (λ (number : ℕ). let p : ℕ × ℕ = (session, number) in p) (range_with_len first n))
below-from session first zero most few = All-nil (IsBelow most)
below-from session first (suc n) most few =
    All-cons (IsBelow most) (session, first) (map (λ (number : ℕ). let p : ℕ × ℕ = (session, number) in p) (range_with_len (first + 1) n)) (omega (arith, few)) (below-from session (first + 1) n most (omega (arith, few)))

pub few-places : (lines : List Line) (session : ℕ) (names : List (List ℕ)) (most : ℕ) → 1 + length lines ≤ most → All (IsBelow most) (all_places lines session names)
few-places lines session [] most few = All-nil (IsBelow most)
few-places lines session (name ∷ names) most few =
    All-append (IsBelow most) (places_in lines session) (all_places lines (session + 1) names)
    (below-from session 1 (lines_in session lines) most (omega (arith, few, few-lines session lines))) (few-places lines (session + 1) names most few)
