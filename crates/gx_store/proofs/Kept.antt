-- Steps whose marks stand in one list.
use Rattle.std.proofs.Common.{◌≡◌, ◌≤◌, ◌-◌, ◌+◌, ◌∙◌, ◌++◌, ◌∷◌, ℕ, [], List, length, take, drop, ap, refl, sym, arith}
use Rattle.std.specs.Prelude.{All, map}
use Rattle.std.proofs.lemmas.List.{drop-append-le, length-append, length-drop, map-append, take-append-le}
use Rattle.std.proofs.lemmas.List.Elements.{All-head, All-tail}
use Rattle.std.proofs.Math.Seq.{drop-append_seam, take-length}
use Rattle.gx_store.specs.declared.mark.Mark.{Mark}
use Rattle.gx_store.specs.declared.run.Step.{Step}
use Rattle.gx_store.specs.declared.steps.Head.{Head}
use Rattle.gx_store.specs.Kept.{AreWithin, IsWithin, step_at, steps_in}

-- a part of a list stands where it stood when more comes behind
part-append : (marks more : List Mark) (first last : ℕ) → first ≤ last → last ≤ length marks → take (last - first) (drop first (marks ++ more)) ≡ take (last - first) (drop first marks)
part-append marks more first last some inside =
    ap (take (last - first)) (drop-append-le first marks more (omega (arith, some, inside)))
    ∙ take-append-le (last - first) (drop first marks) more (let left : length (drop first marks) ≡ length marks - first = length-drop first marks in omega (arith, some, inside, left))

step_at-append : (marks more : List Mark) (head : Head) → IsWithin marks head → step_at (marks ++ more) head ≡ step_at marks head
step_at-append marks more head (some, inside) =
    ap (λ part. let step : Step = record { stamp = head.stamp; event = head.event; marks = part } in step) (part-append marks more head.first head.last some inside)

pub steps_in-append : (heads : List Head) (marks more : List Mark) → AreWithin heads marks → steps_in heads (marks ++ more) ≡ steps_in heads marks
steps_in-append [] marks more within = refl
steps_in-append (head ∷ heads) marks more within =
    ap (λ step. step ∷ steps_in heads (marks ++ more)) (step_at-append marks more head (All-head (IsWithin marks) head heads within))
    ∙ ap (λ steps. step_at marks head ∷ steps) (steps_in-append heads marks more (All-tail (IsWithin marks) head heads within))

-- what comes behind is a part of its own
part-behind : (marks more : List Mark) → take (length (marks ++ more) - length marks) (drop (length marks) (marks ++ more)) ≡ more
part-behind marks more =
    ap (take (length (marks ++ more) - length marks)) (drop-append_seam marks more)
    ∙ ap (λ n. take n more) (let all : length (marks ++ more) ≡ length marks + length more = length-append marks more in omega (arith, all))
    ∙ take-length more

pub steps_in-push : (heads : List Head) (marks more : List Mark) (head : Head) → AreWithin heads marks → head.first ≡ length marks → head.last ≡ length (marks ++ more)
    → steps_in (heads ++ head ∷ []) (marks ++ more) ≡ steps_in heads marks ++ record { stamp = head.stamp; event = head.event; marks = more } ∷ []
steps_in-push heads marks more head within first last =
    map-append (step_at (marks ++ more)) heads (head ∷ [])
    ∙ ap (λ steps. steps ++ step_at (marks ++ more) head ∷ []) (steps_in-append heads marks more within)
    ∙ ap (λ part. let step : Step = record { stamp = head.stamp; event = head.event; marks = part } in steps_in heads marks ++ step ∷ [])
    (ap (λ n. take (head.last - n) (drop n (marks ++ more))) first ∙ ap (λ n. take (n - length marks) (drop (length marks) (marks ++ more))) last ∙ part-behind marks more)

-- steps whose marks have more behind them are as they were
pub steps_longer : (heads same : List Head) (marks all more : List Mark) (steps : List Step) → AreWithin heads marks → steps_in heads marks ≡ steps → same ≡ heads → all ≡ marks ++ more → steps_in same all ≡ steps
steps_longer heads same marks all more steps within is heads-same marks-more = ap (λ h. steps_in h all) heads-same ∙ ap (steps_in heads) marks-more ∙ steps_in-append heads marks more within ∙ is

pub steps_pushed : (heads new : List Head) (marks all more : List Mark) (steps : List Step) (head : Head) → AreWithin heads marks → steps_in heads marks ≡ steps → new ≡ heads ++ head ∷ [] → all ≡ marks ++ more
    → head.first ≡ length marks → head.last ≡ length all → steps_in new all ≡ steps ++ record { stamp = head.stamp; event = head.event; marks = more } ∷ []
steps_pushed heads new marks all more steps head within is heads-more marks-more first last =
    ap (λ h. steps_in h all) heads-more
    ∙ ap (steps_in (heads ++ head ∷ [])) marks-more
    ∙ steps_in-push heads marks more head within first (last ∙ ap length marks-more)
    ∙ ap (λ s. s ++ record { stamp = head.stamp; event = head.event; marks = more } ∷ []) is
