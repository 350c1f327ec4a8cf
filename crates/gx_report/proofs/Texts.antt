-- The texts at the places of a session's answers are the session's text.
use Rattle.std.proofs.Common.{◌≡◌, ◌<◌, ℕ, ◌+◌, ◌==◌, Bool, true, false, if◌then◌else◌, List, [], ◌∷◌, ◌++◌, length, drop, get_or, refl, sym, ap, ◌∙◌, arith, append_assoc, append-nil, length-append}
use Rattle.std.proofs.Math.Seq.{get_or-append_seam}
use Rattle.std.proofs.lemmas.Grind.{flat_map-append}
use Rattle.std.proofs.lemmas.List.{drop_more}
use Rattle.std.proofs.lemmas.Option.{slice_get_read}
use Rattle.std.specs.List.{flat_map}
use Rattle.std.specs.Prelude.{slice_get, unwrap_or, Some}
use Rattle.gx_store.specs.declared.mark.Mark.{Mark}
use Rattle.gx_store.specs.declared.mark.Mark.TheVariants.{Answer}
use Rattle.gx_store.specs.declared.run.Step.{Step}
use Rattle.gx_report.specs.Places.{ArePlaces, place_in, places_among, places_of, said_by, said_in, text_at}
use Rattle.gx_report.specs.Text.{mark_text, session_text, sessions_text, step_text}
use Rattle.gx_report.specs.declared.places.Place.{Place}

get-seam : {X : Type 0} (xs : List X) (x : X) (ys : List X) → slice_get (xs ++ x ∷ ys) (length xs) ≡ Some x
get-seam xs x ys = slice_get_read (xs ++ x ∷ ys) (length (xs ++ x ∷ ys)) (length xs) x refl (omega (arith, length-append xs (x ∷ ys))) (sym (get_or-append_seam xs x ys x))

length-one_more : {X : Type 0} (xs : List X) (x : X) → length (xs ++ x ∷ []) ≡ length xs + 1
length-one_more xs x = length-append xs (x ∷ [])

flat_map-if : {X Y : Type 0} (f : X → List Y) (x : X) (b : Bool) → flat_map f (if b then x ∷ [] else []) ≡ (if b then f x else [])
flat_map-if f x true = append-nil (f x)
flat_map-if f x false = refl

-- of one mark
text-mark : (session : ℕ) (name : List ℕ) (steps : List Step) (place : Place) (m : Mark) → text_at name steps place ≡ said_by name (Some m) → flat_map (text_at name steps) (place_in session place m) ≡ mark_text session name m
text-mark session name steps place (Answer s number said) e = flat_map-if (text_at name steps) place (s.0 == session) ∙ ap (λ t. if s.0 == session then t else []) e
text-mark session name steps place m e = refl

-- of the marks of a step behind others of the step
texts-marks : (session : ℕ) (name : List ℕ) (steps : List Step) (at : ℕ) (s : Step) → slice_get steps at ≡ Some s → (before ms : List Mark) → s.marks ≡ before ++ ms → flat_map (text_at name steps) (places_among session at (length before) ms) ≡ flat_map (mark_text session name) ms
texts-marks session name steps at s found before [] e = refl
texts-marks session name steps at s found before (m ∷ ms) e =
    flat_map-append (text_at name steps) (place_in session (record { step = at; mark = length before }) m) (places_among session at (length before + 1) ms)
    ∙ ap (λ t. t ++ flat_map (text_at name steps) (places_among session at (length before + 1) ms)) (text-mark session name steps (record { step = at; mark = length before }) m here)
    ∙ ap (λ t. mark_text session name m ++ t) (
    ap (λ n. flat_map (text_at name steps) (places_among session at n ms)) (sym (length-one_more before m))
    ∙ texts-marks session name steps at s found (before ++ m ∷ []) ms (e ∙ sym (append_assoc before (m ∷ []) ms)))
  where
    here : text_at name steps (record { step = at; mark = length before }) ≡ said_by name (Some m)
    here = ap (said_in name (length before)) found ∙ ap (λ l. said_by name (slice_get l (length before))) e ∙ ap (said_by name) (get-seam before m ms)

-- of the steps behind others
texts-steps : (session : ℕ) (name : List ℕ) (steps before ss : List Step) → steps ≡ before ++ ss → flat_map (text_at name steps) (places_of session (length before) ss) ≡ flat_map (step_text session name) ss
texts-steps session name steps before [] e = refl
texts-steps session name steps before (s ∷ ss) e =
    flat_map-append (text_at name steps) (places_among session (length before) 0 s.marks) (places_of session (length before + 1) ss)
    ∙ ap (λ t. t ++ flat_map (text_at name steps) (places_of session (length before + 1) ss)) (texts-marks session name steps (length before) s (ap (λ l. slice_get l (length before)) e ∙ get-seam before s ss) [] s.marks refl)
    ∙ ap (λ t. step_text session name s ++ t) (
    ap (λ n. flat_map (text_at name steps) (places_of session n ss)) (sym (length-one_more before s))
    ∙ texts-steps session name steps (before ++ s ∷ []) ss (e ∙ sym (append_assoc before (s ∷ []) ss)))

pub texts-session : (session : ℕ) (name : List ℕ) (steps : List Step) → flat_map (text_at name steps) (places_of session 0 steps) ≡ session_text session name steps
texts-session session name steps = texts-steps session name steps [] steps refl

-- the answers of one session more
pub sessions-next : (steps : List Step) (names : List (List ℕ)) (index : List (List Place)) (k : ℕ) (name : List ℕ) (places : List Place) (old new all : List ℕ) → ArePlaces (length names) steps index → k < length names → name ≡ get_or names k name → places ≡ get_or index k places → new ≡ old ++ flat_map (text_at name steps) places → old ++ sessions_text steps k (drop k names) ≡ all → new ++ sessions_text steps (k + 1) (drop (k + 1) names) ≡ all
sessions-next steps names index k name places old new all found inside named placed added before =
    ap (λ t. t ++ rest) added
    ∙ append_assoc old (flat_map (text_at name steps) places) rest
    ∙ ap (λ t. old ++ (t ++ rest)) (ap (flat_map (text_at name steps)) same ∙ texts-session k name steps)
    ∙ ap (λ l. old ++ sessions_text steps k l) (sym (drop_more names k name inside ∙ ap (λ n. n ∷ drop (k + 1) names) (sym named)))
    ∙ before
  where
    rest : List ℕ
    rest = sessions_text steps (k + 1) (drop (k + 1) names)

    same : places ≡ places_of k 0 steps
    same = sym (ap (λ o. unwrap_or o []) (slice_get_read index (length names) k places (sym found.whole) inside placed)) ∙ found.places k inside
