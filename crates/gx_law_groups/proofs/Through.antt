-- Open transactions and slots, mark by mark.
use Rattle.std.proofs.Common.{◌≡◌, ℕ, ◌+◌, ◌<◌, ◌==◌, Bool, true, false, cond, ◌||◌, ◌&&◌, List, [], ◌∷◌, ◌++◌, length, Option, Some, None, refl, sym, ap, ◌∙◌, subst, arith, append_assoc, append-nil}
use Rattle.std.proofs.lemmas.Bool.Decides.{nat_tests}
use Rattle.std.specs.Prelude.{is_some, not}
use Rattle.std.specs.List.{list_any}
use Rattle.gx_ids.specs.declared.ids.Gxid.{Gxid}
use Rattle.gx_ids.specs.declared.ids.SessionId.{SessionId}
use Rattle.gx_tree.specs.declared.stmt.Stmt.{Stmt}
use Rattle.gx_script.specs.declared.Line.{Line}
use Rattle.gx_script.specs.declared.Script.{Script}
use Rattle.gx_groups.specs.Slots.{is}
use Rattle.gx_groups.specs.Table.{Table, after_give, after_take, holds, may}
use Rattle.gx_groups.specs.Calls.{only_if}
use Rattle.gx_lemmas.proofs.Tests.{true-false}
use Rattle.gx_store.specs.declared.event.Event.{Event}
use Rattle.gx_store.specs.declared.event.Event.TheVariants as event
use Rattle.gx_store.specs.declared.mark.Mark.{Mark}
use Rattle.gx_store.specs.declared.mark.Mark.TheVariants.{Answer, Start}
use Rattle.gx_store.specs.declared.opened.Opened.{Opened}
use Rattle.gx_store.specs.declared.run.Step.{Step}
use Rattle.gx_store.specs.Groups.{draws_next, giving, is_to_open, open_in, opener, taking, without}
use Rattle.gx_store.specs.Legal.{LegalAnswer, LegalEvent, LegalStart, draws}
use Rattle.gx_store.specs.Lines.{BlockState, Failed, InBlock, Outside, next_stmt, state_after_line, state_from, state_of, stmt_of, transaction_of}
use Rattle.gx_store.specs.Marks.{answer_count, is_begun, is_begun_after, is_ended, is_same_gxid, is_same_session, session_of, started_after}
use Rattle.gx_store.specs.Points.{Point, marks_in, starts_by, starts_in}
use Rattle.gx_store.proofs.Lines.{state_from-append}
use Rattle.gx_store.proofs.Marks.{answer_count-append, is_begun_after-append, started_after-append}
use Rattle.gx_law_groups.specs.Openers.{is_of}
use Rattle.gx_law_groups.proofs.Answered.{open-answer, tidy-answer}
use Rattle.gx_law_groups.proofs.Marks.{IsEndOf, IsStill, is_key, still}
use Rattle.gx_law_groups.proofs.Slots.{Slotted, any-left, any-push, begun_at, begun_at-append, is_at, slotted-give, slotted-same, slotted-take}
use Rattle.gx_law_groups.proofs.Starting.{open-start, tidy-start}
use Rattle.gx_law_groups.proofs.Tidy.{Each, IsOwn, Tidy, each-map, end-open, open-still, opens, own, own-home, own-is, tidy-end, tidy-still}

-- WHAT MARKS LEAVE OF A SESSION WHOSE LINES THEY DON'T ANSWER
pub same-of : (s k : SessionId) → is_same_session s k ≡ true → s ≡ k
same-of s k e = let m : s.0 ≡ k.0 = grind (arith, nat_tests) in ap (λ (x : ℕ). let y : SessionId = record { 0 = x } in y) m

more-none : (b : Bool) (n : ℕ) → cond b (n + 1) n ≡ 0 → (b ≡ false) × (n ≡ 0)
more-none true n e = absurd (omega arith)
more-none false n e = (refl, e)

pub unanswered-state : (script : Script) (k : SessionId) (st : BlockState) (ms : List Mark) → answer_count k ms ≡ 0 → state_from script k st ms ≡ st
unanswered-state script k st [] e = refl
unanswered-state script k st (Answer s n a ∷ ms) e =
    let m = more-none (is_same_session s k) (answer_count k ms) e in
    ap (λ b. state_from script k (cond b (state_after_line st (stmt_of k n script.lines) a) st) ms) m.0 ∙ unanswered-state script k st ms m.1
unanswered-state script k st (_ ∷ ms) e = unanswered-state script k st ms e

begun-stays : (k : SessionId) (ms : List Mark) → answer_count k ms ≡ 0 → is_begun_after k true ms ≡ true
begun-stays k [] e = refl
begun-stays k (Answer s n a ∷ ms) e =
    let m = more-none (is_same_session s k) (answer_count k ms) e in
    ap (λ b. is_begun_after k (cond b false true) ms) m.0 ∙ begun-stays k ms m.1
begun-stays k (Start g s ∷ ms) e = ap (λ b. is_begun_after k b ms) (or-true (is_same_session s k)) ∙ begun-stays k ms e
  where
    or-true : (b : Bool) → (b || true) ≡ true
    or-true true = refl
    or-true false = refl
begun-stays k (_ ∷ ms) e = begun-stays k ms e

pub unstarted : (k : SessionId) (b : Bool) (ms : List Mark) → answer_count k ms ≡ 0 → is_begun_after k b ms ≡ false → started_after k None ms ≡ None
unstarted k b [] e f = refl
unstarted k b (Answer s n a ∷ ms) e f =
    let m = more-none (is_same_session s k) (answer_count k ms) e in unstarted k (cond (is_same_session s k) false b) ms m.1 f
unstarted k b (Start g s ∷ ms) e f = by_test (is_same_session s k) refl (λ c h. unstarted k c ms e h)
  where
    by_test : (c : Bool) → is_same_session s k ≡ c → ((d : Bool) → is_begun_after k d ms ≡ false → started_after k None ms ≡ None) → started_after k (cond (is_same_session s k) (Some g) None) ms ≡ None
    by_test true q rest = let on : is_begun_after k true ms ≡ false = sym (ap (λ d. is_begun_after k (d || b) ms) q) ∙ f in let stays = begun-stays k ms e in absurd (cc)
    by_test false q rest = ap (λ d. started_after k (cond d (Some g) None) ms) q ∙ rest b (sym (ap (λ d. is_begun_after k (d || b) ms) q) ∙ f)
unstarted k b (_ ∷ ms) e f = unstarted k b ms e f

draws-outside : (st : BlockState) (line : Stmt) → draws st line ≡ true → st ≡ Outside
draws-outside Outside line e = refl
draws-outside (InBlock level commands) line e = absurd (cc)
draws-outside Failed line e = absurd (cc)

-- a session that has a line is one of the script's
pub has-line : (k : SessionId) (number n : ℕ) (lines : List Line) (line : Stmt) → Each (λ (l : Line). l.session.0 < n) lines → stmt_of k number lines ≡ Some line → k.0 < n
has-line k number n [] line e f = absurd (cc)
has-line k number n (l ∷ ls) line e f = by_test (is_same_session l.session k && (l.number == number)) refl (λ g. has-line k number n ls line e.1 g)
  where
    first : (a b : Bool) → (a && b) ≡ true → a ≡ true
    first true b x = refl
    first false b x = absurd (cc)

    by_test : (b : Bool) → (is_same_session l.session k && (l.number == number)) ≡ b → (stmt_of k number ls ≡ Some line → k.0 < n) → k.0 < n
    by_test true q rest = subst (λ (s : SessionId). s.0 < n) (same-of l.session k (first (is_same_session l.session k) (l.number == number) q)) e.0
    by_test false q rest = rest (sym (ap (λ b. cond b (Some l.stmt) (stmt_of k number ls)) q) ∙ f)

-- OPENERS
opener-holds : (os : List Opened) (g : Gxid) (s : SessionId) → opener os g ≡ Some s → list_any (is_of s) os ≡ true
opener-holds [] g s e = absurd (cc)
opener-holds (o ∷ os) g s e = by_test (is_same_gxid o.gxid g) refl (opener-holds os g s)
  where
    itself : (k : SessionId) → is k k ≡ true
    itself k = grind (arith, nat_tests)

    or-true : (b : Bool) → (b || true) ≡ true
    or-true true = refl
    or-true false = refl

    by_test : (b : Bool) → is_same_gxid o.gxid g ≡ b → (opener os g ≡ Some s → list_any (is_of s) os ≡ true) → (is s o.session || list_any (is_of s) os) ≡ true
    by_test true q rest =
        let now : Some o.session ≡ Some s = sym (ap (λ b. cond b (Some o.session) (opener os g)) q) ∙ e in
        let same : o.session ≡ s = cc in ap (λ b. b || list_any (is_of s) os) (ap (is s) same ∙ itself s)
    by_test false q rest = ap (λ b. is s o.session || b) (rest (sym (ap (λ b. cond b (Some o.session) (opener os g)) q) ∙ e)) ∙ or-true (is s o.session)

opener-known : (P : SessionId → Type 0) (os : List Opened) (g : Gxid) (s : SessionId) → Each (λ o. P o.session) os → opener os g ≡ Some s → P s
opener-known P [] g s e f = absurd (cc)
opener-known P (o ∷ os) g s e f = by_test (is_same_gxid o.gxid g) refl (opener-known P os g s e.1)
  where
    by_test : (b : Bool) → is_same_gxid o.gxid g ≡ b → (opener os g ≡ Some s → P s) → P s
    by_test true q rest = let now : Some o.session ≡ Some s = sym (ap (λ b. cond b (Some o.session) (opener os g)) q) ∙ f in let same : o.session ≡ s = cc in subst P same e.0
    by_test false q rest = rest (sym (ap (λ b. cond b (Some o.session) (opener os g)) q) ∙ f)

-- nobody without a transaction has an open one
pub none-open : (script : Script) (marks : List Mark) (k : SessionId) (os : List Opened) → Each (IsOwn script marks) os → own script marks k ≡ None → list_any (is_of k) os ≡ false
none-open script marks k [] e f = refl
none-open script marks k (o ∷ os) e f = by_test (is k o.session) refl (none-open script marks k os e.1 f)
  where
    by_test : (b : Bool) → is k o.session ≡ b → list_any (is_of k) os ≡ false → (is k o.session || list_any (is_of k) os) ≡ false
    by_test true q rest =
        let same : o.session ≡ k = same-of o.session k q in
        let both : None ≡ Some o.gxid = sym f ∙ ap (own script marks) (sym same) ∙ e.0.0 in absurd (cc)
    by_test false q rest = ap (λ b. b || list_any (is_of k) os) q ∙ rest

-- WITHIN A STEP
pub record Stands (script : Script) (steps : List Step) (happens : Event) (asked : ℕ → List SessionId) (t : Table) (earlier : List Mark) : Type 0 where
  pub tidy : Tidy script (marks_in steps ++ earlier) (λ k. starts_in k steps + starts_by k happens)
  pub slotted : Slotted script t (marks_in steps ++ earlier) asked (λ k. is_to_open script steps k && not (is_some (started_after k None earlier)))
  pub free : (k : SessionId) → happens ≡ event.Start k → is_to_open script steps k ≡ true → is_some (started_after k None earlier) ≡ false → may t k ≡ true
  pub apart : (k : SessionId) → (is_to_open script steps k && not (is_some (started_after k None earlier))) ≡ true → list_any (is_of k) (open_in (marks_in steps ++ earlier)) ≡ false

-- the state of everything behind the marks of a step so far; what the step's event asks of the steps before it
module _ (script : Script) (lines : Each (λ (l : Line). l.session.0 < length script.sessions) script.lines) (steps : List Step) (happens : Event) (whole : List Mark) (legal : LegalEvent script steps happens whole)
    (asked : ℕ → List SessionId) where
  abbrev starts : SessionId → ℕ
  starts k = starts_in k steps + starts_by k happens

  abbrev asking : List Mark → SessionId → Bool
  asking earlier k = is_to_open script steps k && not (is_some (started_after k None earlier))

  abbrev Now : Table → List Mark → Type 0
  Now t earlier = Stands script steps happens asked t earlier

  abbrev point : List Mark → List Mark → Point
  point earlier later = record { steps = steps; event = happens; earlier = earlier; later = later }

  module _ (t : Table) (earlier : List Mark) (m : Mark) (now : Now t earlier) where
    abbrev marks : List Mark
    marks = marks_in steps ++ earlier

    more : marks_in steps ++ (earlier ++ m ∷ []) ≡ marks ++ m ∷ []
    more = sym (append_assoc (marks_in steps) earlier (m ∷ []))

    started-more : (k : SessionId) → started_after k None (earlier ++ m ∷ []) ≡ started_after k (started_after k None earlier) (m ∷ [])
    started-more k = started_after-append k None earlier (m ∷ [])

    -- a mark that changes no slot, begins nothing and ends nothing
    aside : Tidy script (marks ++ m ∷ []) starts → open_in (marks ++ m ∷ []) ≡ open_in marks → ((place : ℕ) → begun_at script place (m ∷ []) ≡ []) → ((k : SessionId) (o : Option Gxid) → started_after k o (m ∷ []) ≡ o)
        → Now t (earlier ++ m ∷ [])
    aside tidy still_open begins started = record {
      tidy = subst (λ ms. Tidy script ms starts) (sym more) tidy;
      slotted = slotted-same script t marks (marks_in steps ++ (earlier ++ m ∷ [])) asked asked (asking earlier) (asking (earlier ++ m ∷ []))
          (ap open_in more ∙ still_open)
          (λ place. ap (begun_at script place) more ∙ begun_at-append script place marks (m ∷ []) ∙ ap (λ xs. begun_at script place marks ++ xs) (begins place) ∙ append-nil (begun_at script place marks))
          (λ place. refl)
          (λ k l. ap (λ o. is_to_open script steps k && not (is_some o)) (same k))
          now.slotted;
      free = λ k e f g. now.free k e f (ap is_some (sym (same k)) ∙ g);
      apart = λ k e. ap (list_any (is_of k)) (ap open_in more ∙ still_open) ∙ now.apart k (ap (λ o. is_to_open script steps k && not (is_some o)) (sym (same k)) ∙ e);
    }
      where
        same : (k : SessionId) → started_after k None (earlier ++ m ∷ []) ≡ started_after k None earlier
        same k = started-more k ∙ started k (started_after k None earlier)

    pub still-mark : is_key m ≡ false → Now t (earlier ++ m ∷ [])
    still-mark e =
        let s : IsStill m = still m e in
        aside (tidy-still script marks m starts s now.tidy) (open-still script marks m starts s now.tidy) (λ place. nothing m e place) s.started
      where
        nothing : (x : Mark) → is_key x ≡ false → (place : ℕ) → begun_at script place (x ∷ []) ≡ []
        nothing (Start g s) e place = absurd (cc)
        nothing _ e place = refl

  module _ (t : Table) (earlier later : List Mark) (now : Now t earlier) where
    abbrev here : List Mark
    here = marks_in steps ++ earlier

    pub answer-mark : (s : SessionId) (n : ℕ) (a : _) → LegalAnswer script (point earlier later) s n a → Now t (earlier ++ Answer s n a ∷ [])
    answer-mark s n a l =
        let running : stmt_of s n script.lines ≡ Some l.line = ap (λ i. stmt_of s i script.lines) l.order ∙ l.runs.line in
        aside t earlier (Answer s n a) now (tidy-answer script (point earlier later) starts s n a l.line now.tidy l.order running l.is) (open-answer script
        (point earlier later) starts s n a l.line now.tidy l.order running l.is) (λ place. refl) (λ k o. refl)

    -- A TRANSACTION ENDS
    module _ (g : Gxid) (s : SessionId) (m : Mark) (ends : IsEndOf g m) (whose : transaction_of (state_of script s here) s here ≡ Some g) (running : is_ended here g ≡ false) where
      owns : own script here s ≡ Some g
      owns = sym (own-is script here s) ∙ whose

      opens-it : opener (open_in here) g ≡ Some s
      opens-it = now.tidy.found s g owns running

      there : s.0 < length script.sessions
      there = opener-known (λ k. k.0 < length script.sessions) (open_in here) g s now.slotted.known opens-it

      slot : list_any (is_of s) (open_in here) ≡ true
      slot = opener-holds (open_in here) g s opens-it

      not-asking : asking earlier s ≡ false
      not-asking = by_test (asking earlier s) refl
        where
          by_test : (b : Bool) → asking earlier s ≡ b → asking earlier s ≡ false
          by_test true e = absurd (true-false (list_any (is_of s) (open_in here)) slot (now.apart s e))
          by_test false e = e

      gxid-same : (h : Gxid) → is_same_gxid h g ≡ true → h ≡ g
      gxid-same h e = let n : h.0 ≡ g.0 = grind (arith, nat_tests) in ap (λ (y : ℕ). let z : Gxid = record { 0 = y } in z) n

      itself : (k : SessionId) → is k k ≡ true
      itself k = grind (arith, nat_tests)

      gxid-itself : (h : Gxid) → is_same_gxid h h ≡ true
      gxid-itself h = grind (arith, nat_tests)

      pointwise : (o : Opened) → IsOwn script here o → is s o.session ≡ is_same_gxid o.gxid g
      pointwise o x = by_test (is s o.session) refl (is_same_gxid o.gxid g) refl
        where
          by_test : (b : Bool) → is s o.session ≡ b → (c : Bool) → is_same_gxid o.gxid g ≡ c → is s o.session ≡ is_same_gxid o.gxid g
          by_test true p true q = p ∙ sym q
          by_test false p false q = p ∙ sym q
          by_test true p false q =
              let same : o.session ≡ s = same-of o.session s p in
              let both : Some o.gxid ≡ Some g = sym x.0 ∙ ap (own script here) same ∙ owns in
              let one : o.gxid ≡ g = cc in
              let on : is_same_gxid o.gxid g ≡ true = ap (λ h. is_same_gxid h g) one ∙ gxid-itself g in absurd (true-false (is_same_gxid o.gxid g) on q)
          by_test false p true q =
              let one : o.gxid ≡ g = gxid-same o.gxid q in
              let home : session_of here g ≡ Some o.session = subst (λ h. session_of here h ≡ Some o.session) one (own-home script here starts now.tidy o.session o.gxid x.0) in
              let also : session_of here g ≡ Some s = own-home script here starts now.tidy s g owns in
              let same : o.session ≡ s = cc in
              let on : is s o.session ≡ true = ap (is s) same ∙ itself s in absurd (true-false (is s o.session) on p)

      each-own : Each (λ o. is s o.session ≡ is_same_gxid o.gxid g) (open_in here)
      each-own = each-map (IsOwn script here) (λ o. is s o.session ≡ is_same_gxid o.gxid g) pointwise (open_in here) now.tidy.each

      gives : giving t (opener (open_in here) g) ≡ after_give t s
      gives = ap (giving t) opens-it ∙ ap (λ b. cond b (after_give t s) t) (now.slotted.who_holds s there ∙ slot)

      open-end : open_in (marks_in steps ++ (earlier ++ m ∷ [])) ≡ without g (open_in here)
      open-end = ap open_in (more t earlier m now) ∙ end-open script here m starts g s ends now.tidy owns

      pub end-mark : ((k : SessionId) → may t k ≡ true → holds t s ≡ true → may (after_give t s) k ≡ true) → ((place : ℕ) → begun_at script place (m ∷ []) ≡ []) → Now (giving t (opener (open_in here) g)) (earlier ++ m ∷ [])
      end-mark stays begins = subst (λ x. Now x (earlier ++ m ∷ [])) (sym gives) (record {
        tidy = subst (λ ms. Tidy script ms starts) (sym (more t earlier m now)) (tidy-end script here m starts g s ends now.tidy owns);
        slotted = slotted-same script (after_give t s) (here ++ m ∷ []) (marks_in steps ++ (earlier ++ m ∷ [])) asked asked (asking earlier) (asking (earlier ++ m ∷ []))
            (ap open_in (more t earlier m now)) (λ place. ap (begun_at script place) (more t earlier m now)) (λ place. refl) (λ k l. ap (λ o. is_to_open script steps k && not (is_some o)) (same k))
            (slotted-give script t here asked (asking earlier) now.slotted g s there slot not-asking each-own (here ++ m ∷ []) (end-open script here m starts g s ends now.tidy owns)
            (λ place. begun_at-append script place here (m ∷ []) ∙ ap (λ xs. begun_at script place here ++ xs) (begins place) ∙ append-nil (begun_at script place here)));
        free = λ k e f u. stays k (now.free k e f (ap is_some (sym (same k)) ∙ u)) (now.slotted.who_holds s there ∙ slot);
        apart = λ k e.
            ap (list_any (is_of k)) open-end ∙ any-left script t here asked (asking earlier) now.slotted g s there slot not-asking each-own k (open_in here) each-own
            ∙ off (is k s) (list_any (is_of k) (open_in here)) (now.apart k (ap (λ o. is_to_open script steps k && not (is_some o)) (sym (same k)) ∙ e));
      })
        where
          same : (k : SessionId) → started_after k None (earlier ++ m ∷ []) ≡ started_after k None earlier
          same k = started-more t earlier m now k ∙ ends.started k (started_after k None earlier)

          off : (a b : Bool) → b ≡ false → cond a false b ≡ false
          off true b e = refl
          off false b e = e

    -- A TRANSACTION BEGINS
    module _ (g : Gxid) (s : SessionId) (l : LegalStart script (point earlier later) g s) where
      busy : starts s ≡ answer_count s here + 1
      busy = l.runs.started

      outside : state_of script s here ≡ Outside
      outside = draws-outside (state_of script s here) l.line l.drawing

      opening : opens script here s ≡ true
      opening = ap (draws_next (state_of script s here)) l.runs.line ∙ l.drawing

      known-start : s.0 < length script.sessions
      known-start = has-line s (answer_count s here + 1) (length script.sessions) script.lines l.line lines l.runs.line

      idle-at : (e : Event) → e ≡ event.Start s → LegalEvent script steps e whole → starts_in s steps ≡ answer_count s (marks_in steps)
      idle-at e q legal_there = (subst (λ x. LegalEvent script steps x whole) q legal_there).0

      idle : starts_in s steps ≡ answer_count s (marks_in steps)
      idle = idle-at happens l.event legal

      starts-one : starts_by s happens ≡ 1
      starts-one = ap (starts_by s) l.event ∙ ap (λ b. cond b 1 0) itself
        where
          itself : is_same_session s s ≡ true
          itself = grind (arith, nat_tests)

      unanswered : answer_count s earlier ≡ 0
      unanswered = let a = busy in let b = idle in let c = starts-one in omega (arith, answer_count-append s (marks_in steps) earlier)

      same-state : state_of script s here ≡ state_of script s (marks_in steps)
      same-state = state_from-append script s Outside (marks_in steps) earlier ∙ unanswered-state script s (state_of script s (marks_in steps)) earlier unanswered

      same-answers : answer_count s here ≡ answer_count s (marks_in steps)
      same-answers = let a = unanswered in omega (arith, answer_count-append s (marks_in steps) earlier)

      was-idle : (starts_in s steps == answer_count s (marks_in steps)) ≡ true
      was-idle = let a = idle in grind (arith, nat_tests)

      to-open : is_to_open script steps s ≡ true
      to-open =
          ap (λ b. b && draws_next (state_of script s (marks_in steps)) (next_stmt s script (marks_in steps))) was-idle
          ∙ ap (λ n. draws_next (state_of script s (marks_in steps)) (stmt_of s (n + 1) script.lines)) (sym same-answers)
          ∙ ap (λ st. draws_next st (stmt_of s (answer_count s here + 1) script.lines)) (sym same-state)
          ∙ opening

      not-started : started_after s None earlier ≡ None
      not-started = unstarted s (is_begun s (marks_in steps)) earlier unanswered (sym (is_begun_after-append s false (marks_in steps) earlier) ∙ l.once)

      free : may t s ≡ true
      free = now.free s l.event to-open (ap is_some not-started)

      takes : taking t s ≡ after_take t s
      takes = ap (λ b. cond b (after_take t s) t) free

      open-more : open_in (here ++ Start g s ∷ []) ≡ open_in here ++ (let o : Opened = record { gxid = g; session = s } in o) ∷ []
      open-more = open-start script here starts g s now.tidy l.number outside l.once opening busy

      some-if : (b : Bool) (o : Option Gxid) → is_some (cond b (Some g) o) ≡ cond b true (is_some o)
      some-if true o = refl
      some-if false o = refl

      started-now : (k : SessionId) → is_some (started_after k None (earlier ++ Start g s ∷ [])) ≡ cond (is_same_session s k) true (is_some (started_after k None earlier))
      started-now k = ap is_some (started-more t earlier (Start g s) now k) ∙ some-if (is_same_session s k) (started_after k None earlier)

      and-not : (a b c : Bool) → ((a && not b) && not c) ≡ (a && not (cond c true b))
      and-not true true true = refl
      and-not true true false = refl
      and-not true false true = refl
      and-not true false false = refl
      and-not false b c = refl

      asking-now : (k : SessionId) → asking (earlier ++ Start g s ∷ []) k ≡ (asking earlier k && not (is k s))
      asking-now k = ap (λ b. is_to_open script steps k && not b) (started-now k) ∙ sym (and-not (is_to_open script steps k) (is_some (started_after k None earlier)) (is k s))

      only-one : (k : SessionId) → happens ≡ event.Start k → k ≡ s
      only-one k e = let both : event.Start k ≡ event.Start s = sym e ∙ l.event in cc

      pub start-mark : Now (taking t s) (earlier ++ Start g s ∷ [])
      start-mark = subst (λ x. Now x (earlier ++ Start g s ∷ [])) (sym takes) (record {
        tidy = subst (λ ms. Tidy script ms starts) (sym (more t earlier (Start g s) now)) (tidy-start script here starts g s now.tidy l.number outside l.once opening busy);
        slotted = slotted-same script (after_take t s) (here ++ Start g s ∷ []) (marks_in steps ++ (earlier ++ Start g s ∷ [])) asked asked (λ k. asking earlier k && not (is k s)) (asking (earlier ++ Start g s ∷ []))
            (ap open_in (more t earlier (Start g s) now)) (λ place. ap (begun_at script place) (more t earlier (Start g s) now)) (λ place. refl) (λ k r. asking-now k)
            (slotted-take script t here asked (asking earlier) now.slotted g s known-start free (here ++ Start g s ∷ []) open-more
            (λ place. begun_at-append script place here (Start g s ∷ []) ∙ ap (λ xs. begun_at script place here ++ xs) (append-nil (only_if (is_at script place s) s))));
        free = λ k e f u. absurd (let off = sym (started-now k) ∙ u in let on : is_same_session s k ≡ true = ap (λ x. is_same_session s x) (only-one k e)
            ∙ itself in let x : true ≡ false = sym (ap (λ b. cond b true (is_some (started_after k None earlier))) on) ∙ off in cc);
        apart = λ k e. ap (list_any (is_of k)) (ap open_in (more t earlier (Start g s) now) ∙ open-more) ∙ any-push script t here asked (asking earlier) now.slotted g s known-start free k (open_in here) ∙ off k (sym (asking-now k) ∙ e);
      })
        where
          itself : is_same_session s s ≡ true
          itself = grind (arith, nat_tests)

          split : (a b : Bool) → (a && not b) ≡ true → (a ≡ true) × (b ≡ false)
          split true false e = (refl, refl)
          split true true e = absurd (cc)
          split false b e = absurd (cc)

          off : (k : SessionId) → (asking earlier k && not (is k s)) ≡ true → cond (is k s) true (list_any (is_of k) (open_in here)) ≡ false
          off k e = let p = split (asking earlier k) (is k s) e in ap (λ b. cond b true (list_any (is_of k) (open_in here))) p.1 ∙ now.apart k p.0
