-- A transaction begins.
use Rattle.std.proofs.Common.{◌≡◌, ℕ, ◌+◌, ◌<◌, Bool, true, false, cond, ◌||◌, List, [], ◌∷◌, ◌++◌, Some, None, refl, sym, ap, ◌∙◌, subst, arith}
use Rattle.std.proofs.lemmas.Bool.Decides.{nat_tests}
use Rattle.gx_ids.specs.declared.ids.Gxid.{Gxid}
use Rattle.gx_ids.specs.declared.ids.SessionId.{SessionId}
use Rattle.gx_script.specs.declared.Script.{Script}
use Rattle.gx_lemmas.proofs.Tests.{or-false}
use Rattle.gx_store.specs.declared.mark.Mark.{Mark}
use Rattle.gx_store.specs.declared.mark.Mark.TheVariants.{Start}
use Rattle.gx_store.specs.declared.opened.Opened.{Opened}
use Rattle.gx_store.specs.Groups.{draws_next, open_in, opener}
use Rattle.gx_store.specs.Lines.{Outside, state_of, stmt_of}
use Rattle.gx_store.specs.Marks.{answer_count, is_begun, is_ended, is_same_gxid, is_same_session, session_of, start_count, started_after}
use Rattle.gx_store.proofs.Lines.{state_from-append}
use Rattle.gx_store.proofs.Marks.{answer_count-append, is_begun_after-append, is_ended-append, started_after-append}
use Rattle.gx_law_groups.proofs.Marks.{open_from-append, or_else, session_of-append, start_count-append}
use Rattle.gx_law_groups.proofs.Tidy.{Each, IsOwn, Tidy, each-map, each-push, held, opens, own, own-home}

module _ (script : Script) (marks : List Mark) (started : SessionId
    → ℕ) (g : Gxid) (s : SessionId) (t : Tidy script marks started) (number : g.0 ≡ start_count marks + 1) (outside : state_of script s marks ≡ Outside) (once : is_begun s marks ≡ false)
    (opening : opens script marks s ≡ true) (busy : started s ≡ answer_count s marks + 1) where
  abbrev more : List Mark
  more = marks ++ Start g s ∷ []

  new : start_count marks < g.0
  new = omega (arith, number)

  count-start : start_count more ≡ start_count marks + 1
  count-start = omega (arith, start_count-append marks (Start g s ∷ []))

  pub ended-start : (h : Gxid) → is_ended more h ≡ is_ended marks h
  ended-start h = is_ended-append marks (Start g s ∷ []) h ∙ or-false (is_ended marks h)

  home-start : (h : Gxid) → session_of more h ≡ or_else (session_of marks h) (cond (is_same_gxid g h) (Some s) None)
  home-start h = session_of-append marks (Start g s ∷ []) h

  started-start : (k : SessionId) → started_after k None more ≡ cond (is_same_session s k) (Some g) (started_after k None marks)
  started-start k = started_after-append k None marks (Start g s ∷ [])

  begun-start : (k : SessionId) → is_begun k more ≡ (is_same_session s k || is_begun k marks)
  begun-start k = is_begun_after-append k false marks (Start g s ∷ [])

  pub state-start : (k : SessionId) → state_of script k more ≡ state_of script k marks
  state-start k = state_from-append script k Outside marks (Start g s ∷ [])

  pub answers-start : (k : SessionId) → answer_count k more ≡ answer_count k marks
  answers-start k = omega (arith, answer_count-append k marks (Start g s ∷ []))

  abbrev opened : Opened
  opened = record { gxid = g; session = s }

  pub open-start : open_in more ≡ open_in marks ++ opened ∷ []
  open-start = open_from-append [] marks (Start g s ∷ [])

  opens-start : (k : SessionId) → opens script more k ≡ opens script marks k
  opens-start k =
      ap (λ st. draws_next st (stmt_of k (answer_count k more + 1) script.lines)) (state-start k)
      ∙ ap (λ n. draws_next (state_of script k marks) (stmt_of k (n + 1) script.lines)) (answers-start k)

  same : (k : SessionId) → is_same_session s k ≡ true → s ≡ k
  same k e = let n : s.0 ≡ k.0 = grind (arith, nat_tests) in ap (λ (x : ℕ). let y : SessionId = record { 0 = x } in y) n

  -- whoever else has a transaction has the one that it had
  own-other : (k : SessionId) → is_same_session s k ≡ false → own script more k ≡ own script marks k
  own-other k e =
      ap (λ st. held st (is_begun k more) (started_after k None more)) (state-start k)
      ∙ ap (λ b. held (state_of script k marks) b (started_after k None more)) (begun-start k ∙ ap (λ b. b || is_begun k marks) e)
      ∙ ap (held (state_of script k marks) (is_begun k marks)) (started-start k ∙ ap (λ b. cond b (Some g) (started_after k None marks)) e)

  pub own-none : own script marks s ≡ None
  own-none = ap (λ st. held st (is_begun s marks) (started_after s None marks)) outside ∙ ap (λ b. cond b (started_after s None marks) None) once

  itself : is_same_session s s ≡ true
  itself = grind (arith, nat_tests)

  own-new : own script more s ≡ Some g
  own-new =
      ap (λ st. held st (is_begun s more) (started_after s None more)) (state-start s ∙ outside)
      ∙ ap (λ b. cond b (started_after s None more) None) (begun-start s ∙ ap (λ b. b || is_begun s marks) itself)
      ∙ started-start s
      ∙ ap (λ b. cond b (Some g) (started_after s None marks)) itself

  -- an open transaction is another one
  other-gxid : (o : Opened) → IsOwn script marks o → is_same_gxid o.gxid g ≡ false
  other-gxid o x = by_test (is_same_gxid o.gxid g) refl
    where
      alike : is_same_gxid o.gxid g ≡ true → o.gxid ≡ g
      alike e = let n : o.gxid.0 ≡ g.0 = grind (arith, nat_tests) in ap (λ (y : ℕ). let z : Gxid = record { 0 = y } in z) n

      by_test : (b : Bool) → is_same_gxid o.gxid g ≡ b → is_same_gxid o.gxid g ≡ false
      by_test true e =
          let known : session_of marks g ≡ Some o.session = subst (λ (h : Gxid). session_of marks h ≡ Some o.session) (alike e) (own-home script marks started t o.session o.gxid x.0) in
          let none : session_of marks g ≡ None = t.unbegun g new in absurd (cc)
      by_test false e = e

  other-session : (o : Opened) → IsOwn script marks o → is_same_session s o.session ≡ false
  other-session o x = by_test (is_same_session s o.session) refl
    where
      by_test : (b : Bool) → is_same_session s o.session ≡ b → is_same_session s o.session ≡ false
      by_test true e = let none : own script marks o.session ≡ None = subst (λ k. own script marks k ≡ None) (same o.session e) own-none in let some = x.0 in absurd (cc)
      by_test false e = e

  still-own : (o : Opened) → IsOwn script marks o → IsOwn script more o
  still-own o x = (own-other o.session (other-session o x) ∙ x.0, ended-start o.gxid ∙ x.1)

  opener-none : (os : List Opened) → Each (IsOwn script marks) os → opener os g ≡ None
  opener-none [] e = refl
  opener-none (o ∷ os) e = ap (λ b. cond b (Some o.session) (opener os g)) (other-gxid o e.0) ∙ opener-none os e.1

  opener-more : (os : List Opened) (h : Gxid) → opener (os ++ opened ∷ []) h ≡ or_else (opener os h) (cond (is_same_gxid g h) (Some s) None)
  opener-more [] h = refl
  opener-more (o ∷ os) h = ap (cond (is_same_gxid o.gxid h) (Some o.session)) (opener-more os h) ∙ first (is_same_gxid o.gxid h)
    where
      first : (b : Bool) → cond b (Some o.session) (or_else (opener os h) (cond (is_same_gxid g h) (Some s) None)) ≡ or_else (cond b (Some o.session) (opener os h)) (cond (is_same_gxid g h) (Some s) None)
      first true = refl
      first false = refl

  own-gxid : is_same_gxid g g ≡ true
  own-gxid = grind (arith, nat_tests)

  pub tidy-start : Tidy script more started
  tidy-start = record {
    unended = λ h l. ended-start h ∙ t.unended h (below h l);
    unbegun = λ h l. home-start h ∙ ap (λ o. or_else o (cond (is_same_gxid g h) (Some s) None)) (t.unbegun h (below h l)) ∙ ap (λ b. cond b (Some s) None) (apart h l);
    home = home-of;
    each = subst (Each (IsOwn script more)) (sym open-start) (each-push (IsOwn script more) (open_in marks) opened (each-map (IsOwn script marks) (IsOwn script more) still-own (open_in marks) t.each)
        (own-new, ended-start g ∙ t.unended g new));
    found = found-of;
    begun = begun-of;
  }
    where
      below : (h : Gxid) → start_count more < h.0 → start_count marks < h.0
      below h l = omega (arith, count-start)

      apart : (h : Gxid) → start_count more < h.0 → is_same_gxid g h ≡ false
      apart h l = let c = count-start in let n = number in grind (arith, nat_tests)

      home-of : (k : SessionId) (h : Gxid) → started_after k None more ≡ Some h → session_of more h ≡ Some k
      home-of k h e = by_test (is_same_session s k) refl
        where
          by_test : (b : Bool) → is_same_session s k ≡ b → session_of more h ≡ Some k
          by_test true q =
              let now : Some g ≡ Some h = sym (started-start k ∙ ap (λ b. cond b (Some g) (started_after k None marks)) q) ∙ e in
              let is : g ≡ h = cc in
              subst (λ (x : Gxid). session_of more x ≡ Some k) is (home-start g ∙ ap (λ o. or_else o (cond (is_same_gxid g g) (Some s) None)) (t.unbegun g new) ∙ ap (λ b. cond b (Some s) None) own-gxid ∙ ap Some (same k q))
          by_test false q = home-start h ∙ ap (λ o. or_else o (cond (is_same_gxid g h) (Some s) None)) (t.home k h (sym (started-start k ∙ ap (λ b. cond b (Some g) (started_after k None marks)) q) ∙ e))

      found-of : (k : SessionId) (h : Gxid) → own script more k ≡ Some h → is_ended more h ≡ false → opener (open_in more) h ≡ Some k
      found-of k h e u = by_test (is_same_session s k) refl
        where
          by_test : (b : Bool) → is_same_session s k ≡ b → opener (open_in more) h ≡ Some k
          by_test true q =
              let now : Some g ≡ Some h = sym (subst (λ x. own script more x ≡ Some g) (same k q) own-new) ∙ e in
              let is : g ≡ h = cc in
              subst (λ (x : Gxid). opener (open_in more) x ≡ Some k) is
              (ap (λ o. opener o g) open-start ∙ opener-more (open_in marks) g ∙ ap (λ o. or_else o (cond (is_same_gxid g g) (Some s) None)) (opener-none (open_in marks) t.each) ∙ ap (λ b. cond b (Some s) None) own-gxid
              ∙ ap Some (same k q))
          by_test false q =
              ap (λ o. opener o h) open-start ∙ opener-more (open_in marks) h
              ∙ ap (λ o. or_else o (cond (is_same_gxid g h) (Some s) None)) (t.found k h (sym (own-other k q) ∙ e) (sym (ended-start h) ∙ u))

      begun-of : (k : SessionId) → is_begun k more ≡ true → (opens script more k ≡ true) × (started k ≡ answer_count k more + 1)
      begun-of k b = by_test (is_same_session s k) refl
        where
          by_test : (c : Bool) → is_same_session s k ≡ c → (opens script more k ≡ true) × (started k ≡ answer_count k more + 1)
          by_test true q =
              let own_opens : opens script marks k ≡ true = subst (λ x. opens script marks x ≡ true) (same k q) opening in
              let own_busy : started k ≡ answer_count k marks + 1 = subst (λ x. started x ≡ answer_count x marks + 1) (same k q) busy in
              (opens-start k ∙ own_opens, own_busy ∙ ap (λ n. n + 1) (sym (answers-start k)))
          by_test false q =
              let was = t.begun k (sym (begun-start k ∙ ap (λ x. x || is_begun k marks) q) ∙ b) in
              (opens-start k ∙ was.0, was.1 ∙ ap (λ n. n + 1) (sym (answers-start k)))
