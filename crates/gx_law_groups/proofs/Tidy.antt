-- What the marks of a legal history say of the transactions that are open.
use Rattle.std.proofs.Common.{◌≡◌, ℕ, ◌+◌, ◌<◌, Bool, true, false, cond, ◌||◌, List, [], ◌∷◌, ◌++◌, Option, Some, None, refl, sym, ap, ◌∙◌, subst, arith}
use Rattle.std.proofs.lemmas.Bool.Decides.{nat_tests}
use Rattle.std.specs.Prelude.{not, if◌then◌else◌}
use Rattle.gx_ids.specs.declared.ids.Gxid.{Gxid}
use Rattle.gx_ids.specs.declared.ids.SessionId.{SessionId}
use Rattle.gx_script.specs.declared.Script.{Script}
use Rattle.gx_lemmas.proofs.Tests.{or-false}
use Rattle.gx_store.specs.declared.mark.Mark.{Mark}
use Rattle.gx_store.specs.declared.opened.Opened.{Opened}
use Rattle.gx_store.specs.Groups.{draws_next, open_in, opener, without}
use Rattle.gx_store.specs.Lines.{BlockState, Failed, InBlock, Outside, state_of, stmt_of, transaction_of}
use Rattle.gx_store.specs.Marks.{answer_count, is_begun, is_ended, is_same_gxid, session_of, start_count, started_after}
use Rattle.gx_store.proofs.Lines.{state_from-append}
use Rattle.gx_store.proofs.Marks.{answer_count-append, is_begun_after-append, is_ended-append, started_after-append}
use Rattle.gx_law_groups.proofs.Marks.{IsEndOf, IsStill, open_from-append, or_else, session_of-append, start_count-append}

abbrev pub Each : {A : Type 0} → (A → Type 0) → List A → Type 0
Each P [] = Unit {0}
Each P (x ∷ xs) = P x × Each P xs

pub each-map : {A : Type 0} (P Q : A → Type 0) → ((x : A) → P x → Q x) → (xs : List A) → Each P xs → Each Q xs
each-map P Q f [] e = tt
each-map P Q f (x ∷ xs) e = (f x e.0, each-map P Q f xs e.1)

pub each-push : {A : Type 0} (P : A → Type 0) (xs : List A) (x : A) → Each P xs → P x → Each P (xs ++ x ∷ [])
each-push P [] x e p = (p, tt)
each-push P (y ∷ ys) x e p = (e.0, each-push P ys x e.1 p)

-- WHOSE A TRANSACTION IS
-- by where a session stands, whether it has begun a transaction since its last answer, and which it began last
abbrev pub held : BlockState → Bool → Option Gxid → Option Gxid
held Outside begun g = if begun then g else None
held (InBlock level commands) begun g = g
held Failed begun g = None

abbrev pub own : Script → List Mark → SessionId → Option Gxid
own script marks k = held (state_of script k marks) (is_begun k marks) (started_after k None marks)

pub own-is : (script : Script) (marks : List Mark) (k : SessionId) → transaction_of (state_of script k marks) k marks ≡ own script marks k
own-is script marks k = by_state (state_of script k marks)
  where
    by_state : (st : BlockState) → transaction_of st k marks ≡ held st (is_begun k marks) (started_after k None marks)
    by_state Outside = refl
    by_state (InBlock level commands) = refl
    by_state Failed = refl

-- the session's next line, where it has begun no transaction, begins one
abbrev pub opens : Script → List Mark → SessionId → Bool
opens script marks k = draws_next (state_of script k marks) (stmt_of k (answer_count k marks + 1) script.lines)

-- an open transaction is its session's, and hasn't ended
abbrev pub IsOwn : Script → List Mark → Opened → Type 0
IsOwn script marks o = (own script marks o.session ≡ Some o.gxid) × (is_ended marks o.gxid ≡ false)

pub record Tidy (script : Script) (marks : List Mark) (started : SessionId → ℕ) : Type 0 where
  pub unended : (g : Gxid) → start_count marks < g.0 → is_ended marks g ≡ false
  pub unbegun : (g : Gxid) → start_count marks < g.0 → session_of marks g ≡ None
  pub home : (k : SessionId) (g : Gxid) → started_after k None marks ≡ Some g → session_of marks g ≡ Some k
  pub each : Each (IsOwn script marks) (open_in marks)
  pub found : (k : SessionId) (g : Gxid) → own script marks k ≡ Some g → is_ended marks g ≡ false → opener (open_in marks) g ≡ Some k
  pub begun : (k : SessionId) → is_begun k marks ≡ true → (opens script marks k ≡ true) × (started k ≡ answer_count k marks + 1)

-- whoever has a transaction has begun it
pub own-started : (st : BlockState) (begun : Bool) (o : Option Gxid) (g : Gxid) → held st begun o ≡ Some g → o ≡ Some g
own-started Outside true o g e = e
own-started Outside false o g e = absurd (cc)
own-started (InBlock level commands) begun o g e = e
own-started Failed begun o g e = absurd (cc)

pub own-home : (script : Script) (marks : List Mark) (started : SessionId → ℕ) → Tidy script marks started → (k : SessionId) (g : Gxid) → own script marks k ≡ Some g → session_of marks g ≡ Some k
own-home script marks started t k g e = t.home k g (own-started (state_of script k marks) (is_begun k marks) (started_after k None marks) g e)

pub held-by : (st su : BlockState) (b c : Bool) (o p : Option Gxid) → st ≡ su → b ≡ c → o ≡ p → held st b o ≡ held su c p
held-by st su b c o p x y z = ap (λ s. held s b o) x ∙ ap (λ d. held su d o) y ∙ ap (held su c) z

-- outside a block, whoever has begun no transaction has none
pub none-held : (st : BlockState) (o : Option Gxid) → st ≡ Outside → held st false o ≡ None
none-held Outside o e = refl
none-held (InBlock level commands) o e = absurd (cc)
none-held Failed o e = absurd (cc)

-- A MARK THAT CHANGES NOTHING OF THIS
module _ (script : Script) (marks : List Mark) (m : Mark) (started : SessionId → ℕ) where
  abbrev more : List Mark
  more = marks ++ m ∷ []

  pub ended-more : (g : Gxid) → is_ended more g ≡ (is_ended marks g || is_ended (m ∷ []) g)
  ended-more g = is_ended-append marks (m ∷ []) g

  pub state-more : (k : SessionId) (st : BlockState) → state_of script k more ≡ state_of script k more
  state-more k st = refl

  module _ (s : IsStill m) (t : Tidy script marks started) where
    count-still : start_count more ≡ start_count marks
    count-still = let e = s.count in omega (arith, start_count-append marks (m ∷ []))

    pub ended-still : (g : Gxid) → is_ended more g ≡ is_ended marks g
    ended-still g = ended-more g ∙ ap (λ b. is_ended marks g || b) (s.ended g) ∙ or-false (is_ended marks g)

    or-none : (o : Option SessionId) → or_else o None ≡ o
    or-none (Some x) = refl
    or-none None = refl

    home-still : (g : Gxid) → session_of more g ≡ session_of marks g
    home-still g = session_of-append marks (m ∷ []) g ∙ ap (or_else (session_of marks g)) (s.home g) ∙ or-none (session_of marks g)

    started-still : (k : SessionId) → started_after k None more ≡ started_after k None marks
    started-still k = started_after-append k None marks (m ∷ []) ∙ s.started k (started_after k None marks)

    begun-still : (k : SessionId) → is_begun k more ≡ is_begun k marks
    begun-still k = is_begun_after-append k false marks (m ∷ []) ∙ s.begun k (is_begun k marks)

    pub state-still : (k : SessionId) → state_of script k more ≡ state_of script k marks
    state-still k = state_from-append script k Outside marks (m ∷ []) ∙ s.state script k (state_of script k marks)

    pub answers-still : (k : SessionId) → answer_count k more ≡ answer_count k marks
    answers-still k = let e = s.answers k in omega (arith, answer_count-append k marks (m ∷ []))

    pub open-still : open_in more ≡ open_in marks
    open-still = open_from-append [] marks (m ∷ []) ∙ s.ongoing (open_in marks)

    own-still : (k : SessionId) → own script more k ≡ own script marks k
    own-still k = held-by (state_of script k more) (state_of script k marks) (is_begun k more) (is_begun k marks) (started_after k None more) (started_after k None marks) (state-still k) (begun-still k) (started-still k)

    opens-still : (k : SessionId) → opens script more k ≡ opens script marks k
    opens-still k =
        ap (λ st. draws_next st (stmt_of k (answer_count k more + 1) script.lines)) (state-still k)
        ∙ ap (λ n. draws_next (state_of script k marks) (stmt_of k (n + 1) script.lines)) (answers-still k)

    pub tidy-still : Tidy script more started
    tidy-still = record {
      unended = λ g l. ended-still g ∙ t.unended g (subst (λ n. n < g.0) count-still l);
      unbegun = λ g l. home-still g ∙ t.unbegun g (subst (λ n. n < g.0) count-still l);
      home = λ k g e. home-still g ∙ t.home k g (sym (started-still k) ∙ e);
      each = subst (Each (IsOwn script more)) (sym open-still) (each-map (IsOwn script marks) (IsOwn script more) (λ o x. (own-still o.session ∙ x.0, ended-still o.gxid ∙ x.1)) (open_in marks) t.each);
      found = λ k g e u. ap (λ o. opener o g) open-still ∙ t.found k g (sym (own-still k) ∙ e) (sym (ended-still g) ∙ u);
      begun = λ k b. let was = t.begun k (sym (begun-still k) ∙ b) in (opens-still k ∙ was.0, was.1 ∙ ap (λ n. n + 1) (sym (answers-still k)));
    }

  -- A TRANSACTION ENDS
  module _ (g : Gxid) (k0 : SessionId) (s : IsEndOf g m) (t : Tidy script marks started) (whose : own script marks k0 ≡ Some g) where
    end-count : start_count more ≡ start_count marks
    end-count = let e = s.count in omega (arith, start_count-append marks (m ∷ []))

    pub end-ended : (h : Gxid) → is_ended more h ≡ (is_ended marks h || is_same_gxid g h)
    end-ended h = ended-more h ∙ ap (λ b. is_ended marks h || b) (s.ended h)

    end-none : (o : Option SessionId) → or_else o None ≡ o
    end-none (Some x) = refl
    end-none None = refl

    end-home : (h : Gxid) → session_of more h ≡ session_of marks h
    end-home h = session_of-append marks (m ∷ []) h ∙ ap (or_else (session_of marks h)) (s.home h) ∙ end-none (session_of marks h)

    end-started : (k : SessionId) → started_after k None more ≡ started_after k None marks
    end-started k = started_after-append k None marks (m ∷ []) ∙ s.started k (started_after k None marks)

    end-begun : (k : SessionId) → is_begun k more ≡ is_begun k marks
    end-begun k = is_begun_after-append k false marks (m ∷ []) ∙ s.begun k (is_begun k marks)

    pub end-state : (k : SessionId) → state_of script k more ≡ state_of script k marks
    end-state k = state_from-append script k Outside marks (m ∷ []) ∙ s.state script k (state_of script k marks)

    pub end-answers : (k : SessionId) → answer_count k more ≡ answer_count k marks
    end-answers k = let e = s.answers k in omega (arith, answer_count-append k marks (m ∷ []))

    pub end-open : open_in more ≡ without g (open_in marks)
    end-open = open_from-append [] marks (m ∷ []) ∙ s.ongoing (open_in marks)

    end-own : (k : SessionId) → own script more k ≡ own script marks k
    end-own k = held-by (state_of script k more) (state_of script k marks) (is_begun k more) (is_begun k marks) (started_after k None more) (started_after k None marks) (end-state k) (end-begun k) (end-started k)

    end-opens : (k : SessionId) → opens script more k ≡ opens script marks k
    end-opens k =
        ap (λ st. draws_next st (stmt_of k (answer_count k more + 1) script.lines)) (end-state k)
        ∙ ap (λ n. draws_next (state_of script k marks) (stmt_of k (n + 1) script.lines)) (end-answers k)

    -- it isn't one that is still to come
    begun-before : (h : Gxid) → start_count marks < h.0 → is_same_gxid g h ≡ false
    begun-before h l = by_test (is_same_gxid g h) refl
      where
        same : is_same_gxid g h ≡ true → g ≡ h
        same e = let n : g.0 ≡ h.0 = grind (arith, nat_tests) in ap (λ (x : ℕ). let y : Gxid = record { 0 = x } in y) n

        by_test : (b : Bool) → is_same_gxid g h ≡ b → is_same_gxid g h ≡ false
        by_test true e =
            let known : session_of marks h ≡ Some k0 = subst (λ (x : Gxid). session_of marks x ≡ Some k0) (same e) (own-home script marks started t k0 g whose) in
            let none : session_of marks h ≡ None = t.unbegun h l in absurd (cc)
        by_test false e = e

    not-or : (a b : Bool) → (a || b) ≡ false → (a ≡ false) × (b ≡ false)
    not-or false b e = (refl, e)
    not-or true b e = absurd (cc)

    gxid-swap : (a b : Gxid) → is_same_gxid a b ≡ is_same_gxid b a
    gxid-swap a b = grind (arith, nat_tests)

    left-one : (o : Opened) (rest : List Opened) → IsOwn script marks o → Each (IsOwn script more) rest → (b : Bool) → is_same_gxid o.gxid g ≡ b → Each (IsOwn script more) (cond (not b) (o ∷ rest) rest)
    left-one o rest x e true q = e
    left-one o rest x e false q = ((end-own o.session ∙ x.0, end-ended o.gxid ∙ ap (λ b. b || is_same_gxid g o.gxid) x.1 ∙ gxid-swap g o.gxid ∙ q), e)

    left : (os : List Opened) → Each (IsOwn script marks) os → Each (IsOwn script more) (without g os)
    left [] e = tt
    left (o ∷ os) e = left-one o (without g os) e.0 (left os e.1) (is_same_gxid o.gxid g) refl

    aside : (o : Opened) (h : Gxid) → is_same_gxid g h ≡ false → is_same_gxid o.gxid g ≡ true → is_same_gxid o.gxid h ≡ false
    aside o h other q = grind (arith, nat_tests)

    opener-one : (o : Opened) (os : List Opened) (h : Gxid) → is_same_gxid g h ≡ false → opener (without g os) h ≡ opener os h → (b : Bool) → is_same_gxid o.gxid g ≡ b
        → opener (cond (not b) (o ∷ without g os) (without g os)) h ≡ cond (is_same_gxid o.gxid h) (Some o.session) (opener os h)
    opener-one o os h other rest true q = rest ∙ sym (ap (λ b. cond b (Some o.session) (opener os h)) (aside o h other q))
    opener-one o os h other rest false q = ap (cond (is_same_gxid o.gxid h) (Some o.session)) rest

    opener-left : (os : List Opened) (h : Gxid) → is_same_gxid g h ≡ false → opener (without g os) h ≡ opener os h
    opener-left [] h other = refl
    opener-left (o ∷ os) h other = opener-one o os h other (opener-left os h other) (is_same_gxid o.gxid g) refl

    pub tidy-end : Tidy script more started
    tidy-end = record {
      unended = λ h l. let below = subst (λ n. n < h.0) end-count l in end-ended h ∙ ap (λ b. b || is_same_gxid g h) (t.unended h below) ∙ begun-before h below;
      unbegun = λ h l. end-home h ∙ t.unbegun h (subst (λ n. n < h.0) end-count l);
      home = λ k h e. end-home h ∙ t.home k h (sym (end-started k) ∙ e);
      each = subst (Each (IsOwn script more)) (sym end-open) (left (open_in marks) t.each);
      found = λ k h e u. let apart = not-or (is_ended marks h) (is_same_gxid g h) (sym (end-ended h) ∙ u) in
          ap (λ o. opener o h) end-open ∙ opener-left (open_in marks) h apart.1 ∙ t.found k h (sym (end-own k) ∙ e) apart.0;
      begun = λ k b. let was = t.begun k (sym (end-begun k) ∙ b) in (end-opens k ∙ was.0, was.1 ∙ ap (λ n. n + 1) (sym (end-answers k)));
    }
