-- The sessions of groups, while heads are read.
use Rattle.std.proofs.Common.{◌≡◌, ◌⊎◌, inl, inr, ℕ, ◌+◌, ◌<◌, ◌≤◌, nat_eq, Bool, true, false, ◌||◌, cond, if◌then◌else◌, List, [], ◌∷◌, ◌++◌, length, drop, get_or, Option, Some, None, Vec, Result, Ok, Err, is_ok, is_some, refl, sym, ◌∙◌, ap, subst, arith}
use Rattle.std.proofs.lemmas.List.{append_assoc, drop_more}
use Rattle.std.specs.Map.{lookup}
use Rattle.std.specs.Cmp.Lexicographic.{pointwise}
use Rattle.std.specs.declared.alloc.Global.{Global}
use Rattle.gx_ids.specs.declared.ids.SessionId.{SessionId}
use Rattle.gx_sql.specs.declared.refusal.LineFault.{LineFault}
use Rattle.gx_sql.specs.declared.refusal.LineFault.TheVariants as fault
use Rattle.gx_sql.specs.declared.refusal.LineError.{LineError}
use Rattle.gx_sql.specs.declared.refusal.LineError.TheVariants as error
use Rattle.gx_sql.specs.Groups.{before_standing, is_at, or_standing, place_among, sessions_at, with_member, with_members}
use Rattle.gx_sql.specs.Held.{Ends, OnFault, named}
use Rattle.gx_sql.specs.Progress.{counted}
use Rattle.gx_sql.proofs.Held.{is_key}

pub at-item : {A : Type 0} (xs : List A) (k : ℕ) (x : A) → k < length xs → x ≡ get_or xs k x → drop k xs ≡ x ∷ drop (k + 1) xs
at-item xs k x inside is = drop_more xs k x inside ∙ ap (λ y. y ∷ drop (k + 1) xs) (sym is)

-- THE MAP
place-at : (b : Bool) (v : ℕ) (p o : Option ℕ) → p ≡ o → (if b then Some v else p) ≡ cond b (Some v) o
place-at true v p o e = refl
place-at false v p o e = e

pub place_among-named : (name : List ℕ) (es : List (Vec ℕ Global × ℕ)) → place_among name (named es) ≡ lookup (is_key name) es
place_among-named name [] = refl
place_among-named name (e ∷ es) = place-at (pointwise nat_eq name e.0.items) e.1 (place_among name (named es)) (lookup (is_key name) es) (place_among-named name es)

pub counted-absent : (name : List ℕ) (v : ℕ) (ss : List (List ℕ × ℕ)) → place_among name ss ≡ None → counted name v ss ≡ ss ++ (name, v) ∷ []
counted-absent name v [] e = refl
counted-absent name v (s ∷ ss) e = pick (pointwise nat_eq name s.0) (counted-absent name v ss) e
  where
    pick : (b : Bool) → (place_among name ss ≡ None → counted name v ss ≡ ss ++ (name, v) ∷ []) → (if b then Some s.1 else place_among name ss) ≡ None → (if b then (s.0, v) ∷ ss else s ∷ counted name v ss) ≡ s ∷ (ss ++ (name, v) ∷ [])
    pick true more e = absurd cc
    pick false more e = ap (λ (t : List (List ℕ × ℕ)). s ∷ t) (more e)

-- ONE BEHIND THE OTHER
fails : (place : ℕ) (names : List (List ℕ)) (r : Result (List (List ℕ × ℕ)) LineFault) (f : LineFault) → r ≡ Err f → with_members place names r ≡ Err f
fails place names r f e = ap (with_members place names) e

module _ (place k : ℕ) (names : List (List ℕ)) (name : List ℕ) (members : List (List ℕ × ℕ)) (whole : Result (List (List ℕ × ℕ)) LineFault) where
  next-is : k < length names → name ≡ get_or names k name → with_members place (drop k names) (Ok members) ≡ whole → with_members place (drop (k + 1) names) (with_member place name members) ≡ whole
  next-is inside is so_far = sym (ap (λ (ns : List (List ℕ)). with_members place ns (Ok members)) (at-item names k name inside is)) ∙ so_far

  pub member-ends : (e : LineError) (x : List (List ℕ × ℕ)) → k < length names → name ≡ get_or names k name → with_members place (drop k names) (Ok members) ≡ whole → Ends (Err e) x (with_member place name members) → Ends (Err e) x whole
  member-ends (error.Fault f) x inside is so_far ends = sym (next-is inside is so_far) ∙ fails place (drop (k + 1) names) (with_member place name members) f ends
  member-ends error.OutOfMemory x inside is so_far ends = tt

  pub member-joins : (x : List (List ℕ × ℕ)) → k < length names → name ≡ get_or names k name → with_members place (drop k names) (Ok members) ≡ whole → with_member place name members ≡ Ok x → with_members place (drop (k + 1) names) (Ok x) ≡ whole
  member-joins x inside is so_far joined = ap (with_members place (drop (k + 1) names)) (sym joined) ∙ next-is inside is so_far

-- of all, or of some the first of which is wrong
abbrev AreJoined : ℕ → List (List ℕ × ℕ) → List (List ℕ) → ℕ → Result (List (List ℕ × ℕ)) LineFault → Type 0
AreJoined place members names count r = ((count ≡ length names) × (is_ok r ≡ true)) ⊎ ((count < length names) × (r ≡ Err fault.Syntax))

joined : (place : ℕ) (members : List (List ℕ × ℕ)) (names : List (List ℕ)) → AreJoined place members names (before_standing place members names) (with_members place names (Ok members))
joined place members [] = inl (refl, refl)
joined place members (name ∷ names) = pick (place_among name members) (joined place (members ++ (name, place) ∷ []) names)
  where
    Rest : Type 0
    Rest = AreJoined place (members ++ (name, place) ∷ []) names (before_standing place (members ++ (name, place) ∷ []) names) (with_members place names (Ok (members ++ (name, place) ∷ [])))

    pick : (o : Option ℕ) → Rest → AreJoined place members (name ∷ names) (if is_some o then 0 else before_standing place (members ++ (name, place) ∷ []) names + 1) (with_members place names (or_standing name place members o))
    pick (Some at) rest = inr (omega arith, refl)
    pick None (inl (e, w)) = inl (omega (arith, e), w)
    pick None (inr (l, w)) = inr (omega (arith, l), w)

pub wrong-one : (place : ℕ) (members : List (List ℕ × ℕ)) (names : List (List ℕ)) → before_standing place members names < length names → with_members place names (Ok members) ≡ Err fault.Syntax
wrong-one place members names less = pick (joined place members names)
  where
    pick : AreJoined place members names (before_standing place members names) (with_members place names (Ok members)) → with_members place names (Ok members) ≡ Err fault.Syntax
    pick (inl (e, w)) = absurd (omega (arith, e, less))
    pick (inr (l, w)) = w

pub all-right : (place : ℕ) (members : List (List ℕ × ℕ)) (names : List (List ℕ)) → length names ≤ before_standing place members names → is_ok (with_members place names (Ok members)) ≡ true
all-right place members names more = pick (joined place members names)
  where
    pick : AreJoined place members names (before_standing place members names) (with_members place names (Ok members)) → is_ok (with_members place names (Ok members)) ≡ true
    pick (inl (e, w)) = w
    pick (inr (l, w)) = absurd (omega (arith, l, more))

pub never-faulty : (r : Result (Unit {0}) LineError) (x : List (List ℕ × ℕ)) (whole : Result (List (List ℕ × ℕ)) LineFault) (P : Type 0) → Ends r x whole → is_ok whole ≡ true → OnFault r P
never-faulty (Ok u) x whole P ends right = tt
never-faulty (Err (error.Fault f)) x whole P ends right = absurd (no (ap is_ok (sym ends) ∙ right))
  where
    no : false ≡ true → ⊥
    no e = cc
never-faulty (Err error.OutOfMemory) x whole P ends right = tt

-- BOTH MAPS
pub standing-append : (name : List ℕ) (ms ns : List (List ℕ × ℕ)) → is_some (place_among name (ms ++ ns)) ≡ (is_some (place_among name ms) || is_some (place_among name ns))
standing-append name [] ns = refl
standing-append name (m ∷ ms) ns = pick (pointwise nat_eq name m.0) (standing-append name ms ns)
  where
    pick : (b : Bool) → is_some (place_among name (ms ++ ns)) ≡ (is_some (place_among name ms) || is_some (place_among name ns))
        → is_some (if b then Some m.1 else place_among name (ms ++ ns)) ≡ (is_some (if b then Some m.1 else place_among name ms) || is_some (place_among name ns))
    pick true e = refl
    pick false e = e

module _ (name : List ℕ) (ms ns : List (List ℕ × ℕ)) where
  pub first-stands : (r : Bool) → r ≡ is_some (place_among name ms) → r ≡ true → r ≡ is_some (place_among name (ms ++ ns))
  first-stands r e t = t ∙ sym (standing-append name ms ns ∙ ap (λ (b : Bool). b || is_some (place_among name ns)) (sym e ∙ t))

  pub second-stands : (r s : Bool) → r ≡ is_some (place_among name ms) → r ≡ false → s ≡ is_some (place_among name ns) → s ≡ is_some (place_among name (ms ++ ns))
  second-stands r s e f is = is ∙ sym (standing-append name ms ns ∙ ap (λ (b : Bool). b || is_some (place_among name ns)) (sym e ∙ f))

  pub none-in-line : (r : Bool) → r ≡ is_some (place_among name (ms ++ ns)) → r ≡ false → place_among name ns ≡ None
  none-in-line r e f = absent (place_among name ns) (right (is_some (place_among name ms)) (is_some (place_among name ns)) (sym (standing-append name ms ns) ∙ sym e ∙ f))
    where
      right : (a b : Bool) → (a || b) ≡ false → b ≡ false
      right true b e = absurd cc
      right false b e = e

      absent : (o : Option ℕ) → is_some o ≡ false → o ≡ None
      absent None e = refl
      absent (Some at) e = absurd cc

module _ (place k : ℕ) (names : List (List ℕ)) (name : List ℕ) (members line : List (List ℕ × ℕ)) (whole : ℕ) (inside : k < length names) (is : name ≡ get_or names k name) (so_far : k + before_standing place (members ++ line) (drop k names) ≡ whole) where
  next-counts : k + (if is_some (place_among name (members ++ line)) then 0 else before_standing place ((members ++ line) ++ (name, place) ∷ []) (drop (k + 1) names) + 1) ≡ whole
  next-counts = ap (λ (ns : List (List ℕ)). k + before_standing place (members ++ line) ns) (sym (at-item names k name inside is)) ∙ so_far

  pub stops-here : is_some (place_among name (members ++ line)) ≡ true → k ≡ whole
  stops-here e =
      let counts = ap (λ (b : Bool). k + (if b then 0 else before_standing place ((members ++ line) ++ (name, place) ∷ []) (drop (k + 1) names) + 1)) (sym e) ∙ next-counts in
      omega (arith, counts)

  pub counts-on : (more : List (List ℕ × ℕ)) → is_some (place_among name (members ++ line)) ≡ false → more ≡ line ++ (name, place) ∷ [] → (k + 1) + before_standing place (members ++ more) (drop (k + 1) names) ≡ whole
  counts-on more e m =
      let counts = ap (λ (b : Bool). k + (if b then 0 else before_standing place ((members ++ line) ++ (name, place) ∷ []) (drop (k + 1) names) + 1)) (sym e) ∙ next-counts in
      let same = ap (λ (ms : List (List ℕ × ℕ)). before_standing place ms (drop (k + 1) names)) (ap (λ (t : List (List ℕ × ℕ)). members ++ t) m ∙ sym (append_assoc members line ((name, place) ∷ []))) in
      omega (arith, counts, same)

-- IN THE SCRIPT
module _ (members : List (List ℕ × ℕ)) (place number : ℕ) (names : List (List ℕ)) (name : List ℕ) (done whole : List SessionId) where
  pub session-in : number < length names → name ≡ get_or names number name → done ++ sessions_at members place number (drop number names) ≡ whole → is_at place (place_among name members) ≡ true
      → (done ++ record { 0 = number } ∷ []) ++ sessions_at members place (number + 1) (drop (number + 1) names) ≡ whole
  session-in inside is so_far here =
      append_assoc done (record { 0 = number } ∷ []) (sessions_at members place (number + 1) (drop (number + 1) names))
      ∙ ap (λ (b : Bool). done ++ (if b then record { 0 = number } ∷ sessions_at members place (number + 1) (drop (number + 1) names) else sessions_at members place (number + 1) (drop (number + 1) names))) (sym here)
      ∙ ap (λ (ns : List (List ℕ)). done ++ sessions_at members place number ns) (sym (at-item names number name inside is)) ∙ so_far

  pub session-out : number < length names → name ≡ get_or names number name → done ++ sessions_at members place number (drop number names) ≡ whole → is_at place (place_among name members) ≡ false
      → done ++ sessions_at members place (number + 1) (drop (number + 1) names) ≡ whole
  session-out inside is so_far not_here =
      ap (λ (b : Bool). done ++ (if b then record { 0 = number } ∷ sessions_at members place (number + 1) (drop (number + 1) names) else sessions_at members place (number + 1) (drop (number + 1) names))) (sym not_here)
      ∙ ap (λ (ns : List (List ℕ)). done ++ sessions_at members place number ns) (sym (at-item names number name inside is)) ∙ so_far
