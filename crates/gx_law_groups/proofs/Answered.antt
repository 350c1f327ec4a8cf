-- Open transactions behind an answer.
use Rattle.std.proofs.Common.{◌≡◌, inl, inr, ℕ, ◌+◌, ◌<◌, Bool, true, false, cond, List, [], ◌∷◌, ◌++◌, Option, Some, None, refl, sym, ap, ◌∙◌, subst, arith}
use Rattle.std.proofs.lemmas.Bool.Decides.{nat_tests}
use Rattle.gx_ids.specs.declared.ids.Gxid.{Gxid}
use Rattle.gx_ids.specs.declared.ids.SessionId.{SessionId}
use Rattle.gx_tree.specs.declared.stmt.Stmt.{Stmt}
use Rattle.gx_script.specs.declared.Script.{Script}
use Rattle.gx_lemmas.proofs.Tests.{or-false}
use Rattle.gx_store.specs.declared.answer.StmtAnswer.{StmtAnswer}
use Rattle.gx_store.specs.declared.mark.Mark.{Mark}
use Rattle.gx_store.specs.declared.mark.Mark.TheVariants.{Answer}
use Rattle.gx_store.specs.declared.opened.Opened.{Opened}
use Rattle.gx_store.specs.Answers.{IsAnswer}
use Rattle.gx_store.specs.Groups.{draws_next, open_in, opener}
use Rattle.gx_store.specs.Lines.{Outside, state_after, state_after_line, state_of, stmt_of}
use Rattle.gx_store.specs.Marks.{answer_count, is_begun, is_ended, is_same_session, session_of, start_count, started_after}
use Rattle.gx_store.specs.Points.{Point, before}
use Rattle.gx_store.proofs.Lines.{state_from-append}
use Rattle.gx_store.proofs.Marks.{answer_count-append, is_begun_after-append, is_ended-append, started_after-append}
use Rattle.gx_law_groups.proofs.Answering.{Outcome, outcome}
use Rattle.gx_law_groups.proofs.Marks.{open_from-append, or_else, session_of-append, start_count-append}
use Rattle.gx_law_groups.proofs.Tidy.{Each, IsOwn, Tidy, each-map, held, opens, own}

module _ (script : Script) (point : Point) (started : SessionId
    → ℕ) (s : SessionId) (n : ℕ) (reply : StmtAnswer) (line : Stmt) (t : Tidy script (before point) started) (order : n ≡ answer_count s (before point) + 1) (running : stmt_of s n script.lines ≡ Some line)
    (is : IsAnswer script point s (state_of script s (before point)) line reply) where
  abbrev marks : List Mark
  marks = before point

  abbrev more : List Mark
  more = marks ++ Answer s n reply ∷ []

  count-answer : start_count more ≡ start_count marks
  count-answer = omega (arith, start_count-append marks (Answer s n reply ∷ []))

  pub ended-answer : (h : Gxid) → is_ended more h ≡ is_ended marks h
  ended-answer h = is_ended-append marks (Answer s n reply ∷ []) h ∙ or-false (is_ended marks h)

  or-none : (o : Option SessionId) → or_else o None ≡ o
  or-none (Some x) = refl
  or-none None = refl

  home-answer : (h : Gxid) → session_of more h ≡ session_of marks h
  home-answer h = session_of-append marks (Answer s n reply ∷ []) h ∙ or-none (session_of marks h)

  started-answer : (k : SessionId) → started_after k None more ≡ started_after k None marks
  started-answer k = started_after-append k None marks (Answer s n reply ∷ [])

  begun-answer : (k : SessionId) → is_begun k more ≡ cond (is_same_session s k) false (is_begun k marks)
  begun-answer k = is_begun_after-append k false marks (Answer s n reply ∷ [])

  state-answer : (k : SessionId) → state_of script k more ≡ cond (is_same_session s k) (state_after_line (state_of script k marks) (stmt_of k n script.lines) reply) (state_of script k marks)
  state-answer k = state_from-append script k Outside marks (Answer s n reply ∷ [])

  answers-answer : (k : SessionId) → answer_count k more ≡ answer_count k marks + cond (is_same_session s k) 1 0
  answers-answer k = answer_count-append k marks (Answer s n reply ∷ [])

  pub open-answer : open_in more ≡ open_in marks
  open-answer = open_from-append [] marks (Answer s n reply ∷ [])

  same : (k : SessionId) → is_same_session s k ≡ true → s ≡ k
  same k e = let m : s.0 ≡ k.0 = grind (arith, nat_tests) in ap (λ (x : ℕ). let y : SessionId = record { 0 = x } in y) m

  itself : is_same_session s s ≡ true
  itself = grind (arith, nat_tests)

  -- OTHER SESSIONS
  pub state-other : (k : SessionId) → is_same_session s k ≡ false → state_of script k more ≡ state_of script k marks
  state-other k e = state-answer k ∙ ap (λ b. cond b (state_after_line (state_of script k marks) (stmt_of k n script.lines) reply) (state_of script k marks)) e

  pub answers-other : (k : SessionId) → is_same_session s k ≡ false → answer_count k more ≡ answer_count k marks
  answers-other k e = answers-answer k ∙ ap (λ b. answer_count k marks + cond b 1 0) e ∙ plus-none (answer_count k marks)
    where
      plus-none : (n : ℕ) → n + 0 ≡ n
      plus-none n = omega arith

  own-other : (k : SessionId) → is_same_session s k ≡ false → own script more k ≡ own script marks k
  own-other k e =
      ap (λ st. held st (is_begun k more) (started_after k None more)) (state-other k e)
      ∙ ap (λ b. held (state_of script k marks) b (started_after k None more)) (begun-answer k ∙ ap (λ b. cond b false (is_begun k marks)) e)
      ∙ ap (held (state_of script k marks) (is_begun k marks)) (started-answer k)

  -- THE SESSION THAT IS ANSWERED
  goes : Outcome (is_begun s marks) (started_after s None marks) (is_ended marks) (state_of script s marks) (state_after (state_of script s marks) line reply)
  goes = outcome script point s (started_after s None marks) refl (state_of script s marks) line reply is on
    where
      on : state_of script s marks ≡ Outside → is_begun s marks ≡ true → draws_next Outside (Some line) ≡ true
      on e b = ap (λ st. draws_next st (Some line)) (sym e) ∙ ap (λ o. draws_next (state_of script s marks) o) (sym (ap (λ m. stmt_of s m script.lines) (sym order) ∙ running)) ∙ (t.begun s b).0

  own-own : own script more s ≡ held (state_after (state_of script s marks) line reply) false (started_after s None marks)
  own-own =
      ap (λ st. held st (is_begun s more) (started_after s None more)) (state-answer s ∙ ap (λ b. cond b (state_after_line (state_of script s marks) (stmt_of s n script.lines) reply) (state_of script s marks)) itself
      ∙ ap (λ o. state_after_line (state_of script s marks) o reply) running)
      ∙ ap (λ b. held (state_after (state_of script s marks) line reply) b (started_after s None more)) (begun-answer s ∙ ap (λ b. cond b false (is_begun s marks)) itself)
      ∙ ap (held (state_after (state_of script s marks) line reply) false) (started-answer s)

  -- a transaction that is open stays its session's
  own-kept : (g : Gxid) → own script marks s ≡ Some g → is_ended marks g ≡ false → own script more s ≡ Some g
  own-kept g e u = by_kind goes
    where
      by_kind : Outcome (is_begun s marks) (started_after s None marks) (is_ended marks) (state_of script s marks) (state_after (state_of script s marks) line reply) → own script more s ≡ Some g
      by_kind (inl x) = own-own ∙ x ∙ e
      by_kind (inr x) = let ended = x.1 g e in absurd (cc)

  -- and nobody has another one than before
  own-was : (g : Gxid) → own script more s ≡ Some g → own script marks s ≡ Some g
  own-was g e = by_kind goes
    where
      by_kind : Outcome (is_begun s marks) (started_after s None marks) (is_ended marks) (state_of script s marks) (state_after (state_of script s marks) line reply) → own script marks s ≡ Some g
      by_kind (inl x) = sym x ∙ sym own-own ∙ e
      by_kind (inr x) = let none : None ≡ Some g = sym x.0 ∙ sym own-own ∙ e in absurd (cc)

  own-each : (o : Opened) → IsOwn script marks o → IsOwn script more o
  own-each o x = (by_test (is_same_session s o.session) refl, ended-answer o.gxid ∙ x.1)
    where
      by_test : (b : Bool) → is_same_session s o.session ≡ b → own script more o.session ≡ Some o.gxid
      by_test true e = subst (λ k. own script more k ≡ Some o.gxid) (same o.session e) (own-kept o.gxid (subst (λ k. own script marks k ≡ Some o.gxid) (sym (same o.session e)) x.0) x.1)
      by_test false e = own-other o.session e ∙ x.0

  pub tidy-answer : Tidy script more started
  tidy-answer = record {
    unended = λ h l. ended-answer h ∙ t.unended h (subst (λ m. m < h.0) count-answer l);
    unbegun = λ h l. home-answer h ∙ t.unbegun h (subst (λ m. m < h.0) count-answer l);
    home = λ k h e. home-answer h ∙ t.home k h (sym (started-answer k) ∙ e);
    each = subst (Each (IsOwn script more)) (sym open-answer) (each-map (IsOwn script marks) (IsOwn script more) own-each (open_in marks) t.each);
    found = λ k h e u. ap (λ o. opener o h) open-answer ∙ t.found k h (was k h e (is_same_session s k) refl) (sym (ended-answer h) ∙ u);
    begun = λ k b. others k b (is_same_session s k) refl;
  }
    where
      was : (k : SessionId) (h : Gxid) → own script more k ≡ Some h → (b : Bool) → is_same_session s k ≡ b → own script marks k ≡ Some h
      was k h e true q = subst (λ x. own script marks x ≡ Some h) (same k q) (own-was h (subst (λ x. own script more x ≡ Some h) (sym (same k q)) e))
      was k h e false q = sym (own-other k q) ∙ e

      others : (k : SessionId) → is_begun k more ≡ true → (b : Bool) → is_same_session s k ≡ b → (opens script more k ≡ true) × (started k ≡ answer_count k more + 1)
      others k b true q = let none : is_begun k more ≡ false = begun-answer k ∙ ap (λ c. cond c false (is_begun k marks)) q in absurd (cc)
      others k b false q =
          let was = t.begun k (sym (begun-answer k ∙ ap (λ c. cond c false (is_begun k marks)) q) ∙ b) in (
            ap (λ st. draws_next st (stmt_of k (answer_count k more + 1) script.lines)) (state-other k q) ∙ ap (λ m. draws_next (state_of script k marks) (stmt_of k (m + 1) script.lines)) (answers-other k q) ∙ was.0,
            was.1
                ∙ ap (λ m. m + 1) (sym (answers-other k q)),
          )
