-- Whom the marks of a legal step name: it has begun, it hadn't aborted before, and it aborts in that step.
use Rattle.std.proofs.Common.{◌≡◌, ◌⊎◌, inl, inr, ◌≤◌, ℕ, ◌+◌, ◌&&◌, ◌||◌, Bool, true, false, cond, List, [], ◌∷◌, ◌++◌, Option, Some, None, refl, sym, ap, ◌∙◌, subst, append_assoc, append-nil, arith}
use Rattle.std.proofs.lemmas.Bool.{eqb-true, or_left, or_right}
use Rattle.std.specs.List.{list_any}
use Rattle.gx_ids.specs.declared.ids.Gxid.{Gxid}
use Rattle.gx_ids.specs.declared.ids.SessionId.{SessionId}
use Rattle.gx_script.specs.declared.Script.{Script}
use Rattle.gx_lemmas.proofs.Numbers.{eqb-self}
use Rattle.gx_lemmas.proofs.Tests.{and-first, and-second, false-true, or-assoc, true-false}
use Rattle.gx_waits.proofs.Members.{each_from_all}
use Rattle.gx_waits.specs.declared.verdict.Verdict.{Verdict}
use Rattle.gx_waits.specs.declared.verdict.Verdict.TheVariants.{Dropped, Nothing, Victims}
use Rattle.gx_store.specs.declared.event.Event.{Event}
use Rattle.gx_store.specs.declared.mark.Mark.{Mark}
use Rattle.gx_store.specs.declared.mark.Mark.TheVariants.{Abort, Recheck, Start}
use Rattle.gx_store.specs.declared.run.Step.{Step}
use Rattle.gx_store.specs.Legal.{AreLegalMarks, IsCancelled, LegalMark, LegalVerdict}
use Rattle.gx_store.specs.Marks.{is_aborted, is_committed, is_same_gxid, session_of, start_count}
use Rattle.gx_store.specs.Points.{Point, marks_in}
use Rattle.gx_store.proofs.Marks.{is_aborted-append}
use Rattle.gx_law_groups.proofs.Marks.{or_else, session_of-append, start_count-append}
use Rattle.gx_law_lone.specs.Victims.{NamesSomebody, verdict_in}
use Rattle.gx_law_progress.specs.LoneRounds.{is_victim}

-- MORE MARKS
pub is_victim-append : (xs ys : List Mark) (g : Gxid) → is_victim (xs ++ ys) g ≡ (is_victim xs g || is_victim ys g)
is_victim-append [] ys g = refl
is_victim-append (Recheck round own (Victims victims) ∷ xs) ys g =
    ap (λ b. list_any (is_same_gxid g) victims || b) (is_victim-append xs ys g) ∙ or-assoc (list_any (is_same_gxid g) victims) (is_victim xs g) (is_victim ys g)
is_victim-append (_ ∷ xs) ys g = is_victim-append xs ys g

abbrev pub is_cancelled : List Mark → Gxid → Bool
is_cancelled marks g = is_victim marks g && is_aborted marks g

both : (a b : Bool) → a ≡ true → b ≡ true → (a && b) ≡ true
both true b e f = f
both false b e f = absurd (false-true e)

pub cancelled-front : (xs ys : List Mark) (g : Gxid) → is_cancelled xs g ≡ true → is_cancelled (xs ++ ys) g ≡ true
cancelled-front xs ys g e =
    both (is_victim (xs ++ ys) g) (is_aborted (xs ++ ys) g)
    (is_victim-append xs ys g ∙ or_left (is_victim xs g) (is_victim ys g) (and-first (is_victim xs g) (is_aborted xs g) e))
    (is_aborted-append xs ys g ∙ or_left (is_aborted xs g) (is_aborted ys g) (and-second (is_victim xs g) (is_aborted xs g) e))

pub cancelled-back : (xs ys : List Mark) (g : Gxid) → is_victim ys g ≡ true → is_aborted ys g ≡ true → is_cancelled (xs ++ ys) g ≡ true
cancelled-back xs ys g named aborted =
    both (is_victim (xs ++ ys) g) (is_aborted (xs ++ ys) g) (is_victim-append xs ys g ∙ or_right (is_victim xs g) (is_victim ys g) named) (is_aborted-append xs ys g ∙ or_right (is_aborted xs g) (is_aborted ys g) aborted)

pub not-cancelled : (xs : List Mark) (g : Gxid) → is_aborted xs g ≡ false → is_cancelled xs g ≡ false
not-cancelled xs g e = ap (λ b. is_victim xs g && b) e ∙ none (is_victim xs g)
  where
    none : (b : Bool) → (b && false) ≡ false
    none true = refl
    none false = refl

-- WHO HAS BEGUN
-- who has a session is among the first
abbrev pub AreNumbered : List Mark → Type 0
AreNumbered marks = (g : Gxid) (session : SessionId) → session_of marks g ≡ Some session → (1 ≤ g.0) × (g.0 ≤ start_count marks)

first-none : (a b : Bool) → (a || b) ≡ false → a ≡ false
first-none true b e = e
first-none false b e = refl

second-none : (a b : Bool) → (a || b) ≡ false → b ≡ false
second-none true b e = absurd (true-false true refl e)
second-none false b e = e

same-gxid : (g h : Gxid) → is_same_gxid g h ≡ true → g ≡ h
same-gxid g h e = ap (λ (n : ℕ). let x : Gxid = record { 0 = n } in x) (eqb-true g.0 h.0 e)

module _ (script : Script) (steps : List Step) (e : Event) where
  abbrev told : List Mark → List Mark
  told earlier = marks_in steps ++ earlier

  abbrev at : List Mark → List Mark → Point
  at earlier later = record { steps = steps; event = e; earlier = earlier; later = later }

  -- one mark more
  next-told : (earlier : List Mark) (m : Mark) → told (earlier ++ m ∷ []) ≡ told earlier ++ m ∷ []
  next-told earlier m = sym (append_assoc (marks_in steps) earlier (m ∷ []))

  pub numbered-next : (earlier later : List Mark) (m : Mark) → LegalMark script (at earlier later) m → AreNumbered (told earlier) → AreNumbered (told (earlier ++ m ∷ []))
  numbered-next earlier later m legal known = subst AreNumbered (sym (next-told earlier m)) (by_mark m legal)
    where
      wider : (g : Gxid) (n k : ℕ) → (1 ≤ g.0) × (g.0 ≤ n) → (1 ≤ g.0) × (g.0 ≤ n + k)
      wider g n k b = (b.0, more g.0 n k b.1)
        where
          more : (a n k : ℕ) → a ≤ n → a ≤ n + k
          more a n k l = omega arith

      newest : (g n : ℕ) → g ≡ n + 1 → (1 ≤ g) × (g ≤ n + 1)
      newest g n q = (one g n q, all g n q)
        where
          one : (g n : ℕ) → g ≡ n + 1 → 1 ≤ g
          one g n q = omega arith

          all : (g n : ℕ) → g ≡ n + 1 → g ≤ n + 1
          all g n q = omega arith

      of_two : (g : Gxid) (session : SessionId) (o p : Option SessionId) → or_else o p ≡ Some session → (o ≡ Some session) ⊎ (p ≡ Some session)
      of_two g session (Some x) p q = inl q
      of_two g session None p q = inr q

      quiet : (x : Mark) → ((g : Gxid) (session : SessionId) → session_of (x ∷ []) g ≡ Some session → (1 ≤ g.0) × (g.0 ≤ start_count (told earlier) + start_count (x ∷ []))) → AreNumbered (told earlier ++ x ∷ [])
      quiet x new g session q =
          subst (λ n. (1 ≤ g.0) × (g.0 ≤ n)) (sym (start_count-append (told earlier) (x ∷ [])))
          (by_side (of_two g session (session_of (told earlier) g) (session_of (x ∷ []) g) (sym (session_of-append (told earlier) (x ∷ []) g) ∙ q)))
        where
          by_side : (session_of (told earlier) g ≡ Some session) ⊎ (session_of (x ∷ []) g ≡ Some session) → (1 ≤ g.0) × (g.0 ≤ start_count (told earlier) + start_count (x ∷ []))
          by_side (inl o) = wider g (start_count (told earlier)) (start_count (x ∷ [])) (known g session o)
          by_side (inr o) = new g session o

      started : (h : Gxid) (s : SessionId) → h.0 ≡ start_count (told earlier) + 1 → (g : Gxid) (session : SessionId) → session_of (Start h s ∷ []) g ≡ Some session → (1 ≤ g.0) × (g.0 ≤ start_count (told earlier) + 1)
      started h s n g session q = by_test (is_same_gxid h g) refl q
        where
          by_test : (b : Bool) → is_same_gxid h g ≡ b → cond b (Some s) None ≡ Some session → (1 ≤ g.0) × (g.0 ≤ start_count (told earlier) + 1)
          by_test true is f = subst (λ k. (1 ≤ k) × (k ≤ start_count (told earlier) + 1)) (eqb-true h.0 g.0 is) (newest h.0 (start_count (told earlier)) n)
          by_test false is f = absurd (cc)

      by_mark : (x : Mark) → LegalMark script (at earlier later) x → AreNumbered (told earlier ++ x ∷ [])
      by_mark (Start h s) l = quiet (Start h s) (started h s l.number)
      by_mark x l = quiet x (λ g session q. absurd (cc))

  pub numbered-behind : (earlier ms later : List Mark) → AreLegalMarks script steps e earlier ms later → AreNumbered (told earlier) → AreNumbered (told (earlier ++ ms))
  numbered-behind earlier [] later legal known = subst (λ x. AreNumbered (told x)) (sym (append-nil earlier)) known
  numbered-behind earlier (m ∷ ms) later legal known =
      subst (λ x. AreNumbered (told x)) (append_assoc earlier (m ∷ []) ms) (numbered-behind (earlier ++ m ∷ []) ms later legal.1 (numbered-next earlier (ms ++ later) m legal.0 known))

  -- WHO ABORTS
  -- it hadn't aborted before the step
  pub aborts-anew : (g : Gxid) (earlier ms later : List Mark) → AreLegalMarks script steps e earlier ms later → is_aborted ms g ≡ true → is_aborted (marks_in steps) g ≡ false
  aborts-anew g earlier [] later legal a = absurd (false-true a)
  aborts-anew g earlier (Abort h ∷ ms) later legal a = by_test (is_same_gxid h g) refl a (aborts-anew g (earlier ++ Abort h ∷ []) ms later legal.1)
    where
      running : is_aborted (marks_in steps) h ≡ false
      running =
          first-none (is_aborted (marks_in steps) h) (is_aborted earlier h)
          (sym (is_aborted-append (marks_in steps) earlier h) ∙ second-none (is_committed (told earlier) h) (is_aborted (told earlier) h) legal.0.running)

      by_test : (b : Bool) → is_same_gxid h g ≡ b → (b || is_aborted ms g) ≡ true → (is_aborted ms g ≡ true → is_aborted (marks_in steps) g ≡ false) → is_aborted (marks_in steps) g ≡ false
      by_test true is f rest = subst (λ x. is_aborted (marks_in steps) x ≡ false) (same-gxid h g is) running
      by_test false is f rest = rest f
  aborts-anew g earlier (m ∷ ms) later legal a = aborts-anew g (earlier ++ m ∷ []) ms later legal.1 a

  -- WHO IS NAMED
  pub record Names (ms later : List Mark) (begun : ℕ) : Type 0 where
    pub who : Gxid
    pub named : is_victim ms who ≡ true
    pub aborted : is_aborted (ms ++ later) who ≡ true
    pub first : 1 ≤ who.0
    pub last : who.0 ≤ begun

  up-to : (a b k : ℕ) → a ≤ b → a ≤ b + k
  up-to a b k l = omega arith

  names-next : (earlier ms later : List Mark) (m : Mark) → ((g : Gxid) → is_victim ms g ≡ true → is_victim (m ∷ ms) g ≡ true) → ((g : Gxid) → is_aborted (ms ++ later) g ≡ true → is_aborted (m ∷ (ms ++ later)) g ≡ true)
      → Names ms later (start_count (told ((earlier ++ m ∷ []) ++ ms))) → Names (m ∷ ms) later (start_count (told (earlier ++ m ∷ ms)))
  names-next earlier ms later m v a n = record { who = n.who; named = v n.who n.named; aborted = a n.who n.aborted; first = n.first; last = subst (λ x. n.who.0 ≤ start_count (told x)) (append_assoc earlier (m ∷ []) ms) n.last }

  pub names-somebody : (earlier ms later : List Mark) (verdict : Verdict) → AreLegalMarks script steps e earlier ms later → AreNumbered (told earlier) → verdict_in ms ≡ Some verdict → NamesSomebody verdict
      → Names ms later (start_count (told (earlier ++ ms)))
  names-somebody earlier [] later verdict legal known q n = absurd (cc)
  names-somebody earlier (Recheck round own decided ∷ ms) later verdict legal known q n = by_verdict decided legal.0 (subst NamesSomebody (sym (same decided verdict q)) n)
    where
      same : (x y : Verdict) → Some x ≡ Some y → x ≡ y
      same x y f = cc

      as-long : start_count (told (earlier ++ Recheck round own decided ∷ ms)) ≡ start_count (told earlier) + start_count (Recheck round own decided ∷ ms)
      as-long = ap start_count (sym (append_assoc (marks_in steps) earlier (Recheck round own decided ∷ ms))) ∙ start_count-append (told earlier) (Recheck round own decided ∷ ms)

      by_verdict : (d : Verdict) → LegalVerdict (at earlier (ms ++ later)) round d → NamesSomebody d → Names (Recheck round own d ∷ ms) later (start_count (told (earlier ++ Recheck round own decided ∷ ms)))
      by_verdict (Victims []) l k = absurd k
      by_verdict (Victims (v ∷ vs)) l k =
          let c = each_from_all (IsCancelled (at earlier (ms ++ later)) round) (v ∷ vs) l v (inl refl) in
          let b = known v c.session c.of in
          record {
            who = v;
            named = ap (λ t. (t || list_any (is_same_gxid v) vs) || is_victim ms v) (eqb-self v.0);
            aborted = c.aborted;
            first = b.0;
            last = subst (λ k. v.0 ≤ k) (sym as-long) (up-to v.0 (start_count (told earlier)) (start_count (Recheck round own decided ∷ ms)) b.1);
          }
      by_verdict Nothing l k = absurd k
      by_verdict (Dropped g) l k = absurd k
  names-somebody earlier (Abort h ∷ ms) later verdict legal known q n =
      names-next earlier ms later (Abort h) (λ g x. x) (λ g x. or_right (is_same_gxid h g) (is_aborted (ms ++ later) g) x)
      (names-somebody (earlier ++ Abort h ∷ []) ms later verdict legal.1 (numbered-next earlier (ms ++ later) (Abort h) legal.0 known) q n)
  names-somebody earlier (m ∷ ms) later verdict legal known q n =
      names-next earlier ms later m (λ g x. x) (λ g x. x) (names-somebody (earlier ++ m ∷ []) ms later verdict legal.1 (numbered-next earlier (ms ++ later) m legal.0 known) q n)
