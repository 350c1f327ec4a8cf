-- The places of answers, mark by mark and step by step.
use Rattle.std.proofs.Common.{◌≡◌, ◌<◌, ℕ, ◌+◌, List, [], ◌∷◌, ◌++◌, length, take, get_or, sym, ap, ◌∙◌, arith, add-zero, append-nil, append_assoc}
use Rattle.std.proofs.lemmas.List.{length-take-le, take_more}
use Rattle.gx_store.specs.declared.mark.Mark.{Mark}
use Rattle.gx_store.specs.declared.run.Step.{Step}
use Rattle.gx_report.specs.Places.{ArePlaces, IsNoted, nth_places, place_in, places_among, places_of}
use Rattle.gx_report.specs.declared.places.Place.{Place}

places_among-last : (session step base : ℕ) (xs : List Mark) (m : Mark) → places_among session step base (xs ++ m ∷ []) ≡ places_among session step base xs ++ place_in session (record { step = step; mark = base + length xs }) m
places_among-last session step base [] m = grind arith
places_among-last session step base (x ∷ xs) m = grind (arith, places_among-last session step (base + 1) xs m)

places_of-last : (session base : ℕ) (xs : List Step) (s : Step) → places_of session base (xs ++ s ∷ []) ≡ places_of session base xs ++ places_among session (base + length xs) 0 s.marks
places_of-last session base [] s = append-nil (places_among session base 0 s.marks) ∙ ap (λ n. places_among session n 0 s.marks) (sym (add-zero base))
places_of-last session base (x ∷ xs) s =
    ap (λ l. places_among session base 0 x.marks ++ l) (places_of-last session (base + 1) xs s)
    ∙ sym (append_assoc (places_among session base 0 x.marks) (places_of session (base + 1) xs) (places_among session (base + 1 + length xs) 0 s.marks))
    ∙ ap (λ n. (places_among session base 0 x.marks ++ places_of session (base + 1) xs) ++ places_among session n 0 s.marks) (omega arith)

-- one more item of a list that is gone through from its start
next_of : {X : Type 0} (F : List X → List Place) (G : ℕ → X → List Place) → ((xs : List X) (x : X) → F (xs ++ x ∷ []) ≡ F xs ++ G (0 + length xs) x) → (xs : List X) (k : ℕ) (x : X) → k < length xs → x ≡ get_or xs k x → F (take (k + 1) xs) ≡ F (take k xs) ++ G k x
next_of F G last xs k x inside is =
    ap F (take_more xs k x inside)
    ∙ last (take k xs) (get_or xs k x)
    ∙ ap (λ n. F (take k xs) ++ G n (get_or xs k x)) count
    ∙ ap (λ y. F (take k xs) ++ G k y) (sym is)
  where
    count : 0 + length (take k xs) ≡ k
    count = let most : length (take k xs) ≡ k = length-take-le k xs (omega arith) in omega arith

pub noted-next : (old mid new : List (List Place)) (f g h : ℕ → List Place) → IsNoted old mid f → IsNoted mid new g → ((session : ℕ) → h session ≡ f session ++ g session) → IsNoted old new h
noted-next old mid new f g h a b e = record {
  whole = b.whole ∙ a.whole;
  places = λ s inside.
      b.places s (omega arith) ∙ ap (λ l. l ++ g s) (a.places s inside) ∙ append_assoc (nth_places old s) (f s) (g s) ∙ ap (λ l. nth_places old s ++ l) (sym (e s));
}

pub places_among-next : (session step : ℕ) (ms : List Mark) (k : ℕ) (m : Mark) → k < length ms → m ≡ get_or ms k m → places_among session step 0 (take (k + 1) ms) ≡ places_among session step 0 (take k ms) ++ place_in session (record { step = step; mark = k }) m
places_among-next session step = next_of (places_among session step 0) (λ k m. place_in session (record { step = step; mark = k }) m) (places_among-last session step 0)

pub places-next : (sessions : ℕ) (steps : List Step) (k : ℕ) (s : Step) (old new : List (List Place)) → k < length steps → s ≡ get_or steps k s → ArePlaces sessions (take k steps) old → IsNoted old new (λ session. places_among session k 0 s.marks) → ArePlaces sessions (take (k + 1) steps) new
places-next sessions steps k s old new inside is a b = record {
  whole = b.whole ∙ a.whole;
  places = λ n low.
      b.places n (omega arith)
      ∙ ap (λ l. l ++ places_among n k 0 s.marks) (a.places n low)
      ∙ sym (next_of (places_of n 0) (λ j t. places_among n j 0 t.marks) (places_of-last n 0) steps k s inside is);
}
