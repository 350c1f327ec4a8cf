-- The load, once it has committed, has written each account: its answer, which says so, stands in the same step.
use Rattle.std.proofs.Common.{◌≡◌, inl, inr, ◌≤◌, ℕ, ◌+◌, Bool, true, false, if◌then◌else◌, ◌||◌, ◌&&◌, ◌==◌, List, [], ◌∷◌, ◌++◌, Option, Some, None, refl, sym, ap, ◌∙◌, subst, append_assoc, arith}
use Rattle.std.proofs.lemmas.Bool.{eqb-true}
use Rattle.gx_ids.specs.declared.ids.Cid.{Cid}
use Rattle.gx_ids.specs.declared.ids.Gxid.{Gxid}
use Rattle.gx_ids.specs.declared.ids.SessionId.{SessionId}
use Rattle.gx_ids.specs.declared.rid.Rid.{Rid}
use Rattle.gx_script.specs.declared.Script.{Script}
use Rattle.gx_work.specs.declared.transfer.Transfer.{Transfer}
use Rattle.gx_lemmas.proofs.Options.{some-same}
use Rattle.gx_lemmas.proofs.Tests.{and-first, false-true, or-false, true-false}
use Rattle.gx_store.specs.declared.answer.StmtAnswer.{StmtAnswer}
use Rattle.gx_store.specs.declared.answer.StmtAnswer.TheVariants as answer
use Rattle.gx_store.specs.declared.event.Event.{Event}
use Rattle.gx_store.specs.declared.mark.Mark.{Mark}
use Rattle.gx_store.specs.declared.mark.Mark.TheVariants.{Start, Skip, Write, Commit, Answer}
use Rattle.gx_store.specs.declared.run.Step.{Step}
use Rattle.gx_store.specs.Answers.{IsAnswer}
use Rattle.gx_store.specs.Legal.{AreLegalMarks, LegalMark}
use Rattle.gx_store.specs.Lines.{Outside, state_of, transaction_of}
use Rattle.gx_store.specs.Marks.{answer_count, is_aborted, is_answered, is_command_of, is_committed, is_processed, is_same_gxid, is_same_rid, is_same_session, start_count, started_after}
use Rattle.gx_store.specs.Points.{Point, before, marks_in}
use Rattle.gx_store.proofs.Marks.{is_aborted-append, is_committed-append, is_processed-append, started_after-append}
use Rattle.gx_work.specs.Work.{loading}
use Rattle.gx_law_sums.specs.Transfers.{AreTransfers, loader}
use Rattle.gx_law_sums.proofs.Neat.{AreAccounts, AreKnown, IsWhole, committed-stays, known-next, neat-next, of-session, row_of, same-gxid, sessions-same, skips-next}
use Rattle.gx_law_sums.proofs.Standing.{Standing, standing-next, standing-first}
use Rattle.gx_law_sums.proofs.Under.{is-loading}
use Rattle.gx_law_sums.proofs.Writes.{load-stays}

-- PLAIN FACTS
or-right : (a b : Bool) → b ≡ true → (a || b) ≡ true
or-right true b e = refl
or-right false b e = e

or-first : (a b : Bool) → (a || b) ≡ false → a ≡ false
or-first true b e = absurd (true-false true refl e)
or-first false b e = refl

not-both : (a b : Bool) → (a ≡ true → b ≡ true → ⊥) → (a && b) ≡ true → ⊥
not-both true b f e = f refl e
not-both false b f e = false-true e

false-of : (b : Bool) → (b ≡ true → ⊥) → b ≡ false
false-of true f = absurd (f refl)
false-of false f = refl

same-count : (a b : ℕ) → b ≡ 0 → a + b ≡ a
same-count a b e = omega arith

abbrev pub the_first : Cid
the_first = record { 0 = 1 }

module _ (script : Script) (transfer : ℕ → ℕ → Option Transfer) (are : AreTransfers script transfer) where
  -- who has committed writes and skips nothing
  pub unprocessed : (point : Point) (m : Mark) (L : Gxid) (c : Cid) (rid : Rid) → Standing script transfer (before point) → is_committed (before point) L ≡ true → LegalMark script point m → is_processed (m ∷ []) L c rid ≡ false
  unprocessed point (Write h d node t r image) L c rid k e legal = or-false (is_command_of L c h d && is_same_rid r rid) ∙ false-of (is_command_of L c h d && is_same_rid r rid) (λ f. by_case legal (eqb-true h.0 L.0 (and-first (is_same_gxid h L) (d.0 == c.0) (and-first (is_command_of L c h d) (is_same_rid r rid) f))))
    where
      by_case : LegalMark script point (Write h d node t r image) → h.0 ≡ L.0 → ⊥
      by_case (inl live) f = true-false (is_committed (before point) L) e (or-first (is_committed (before point) L) (is_aborted (before point) L) (subst (λ x. (is_committed (before point) x || is_aborted (before point) x) ≡ false) (same-gxid h L f) live.runs.running))
      by_case (inr late) f = true-false (is_aborted (before point) L) (subst (λ x. is_aborted (before point) x ≡ true) (same-gxid h L f) late.late.aborted) (k.once L e)
  unprocessed point (Skip h d r) L c rid k e legal = or-false (is_command_of L c h d && is_same_rid r rid) ∙ false-of (is_command_of L c h d && is_same_rid r rid) (λ f. by_case legal (eqb-true h.0 L.0 (and-first (is_same_gxid h L) (d.0 == c.0) (and-first (is_command_of L c h d) (is_same_rid r rid) f))))
    where
      by_case : LegalMark script point (Skip h d r) → h.0 ≡ L.0 → ⊥
      by_case (inl live) f = true-false (is_committed (before point) L) e (or-first (is_committed (before point) L) (is_aborted (before point) L) (subst (λ x. (is_committed (before point) x || is_aborted (before point) x) ≡ false) (same-gxid h L f) live.runs.running))
      by_case (inr late) f = true-false (is_aborted (before point) L) (subst (λ x. is_aborted (before point) x ≡ true) (same-gxid h L f) late.late.aborted) (k.once L e)
  unprocessed point m L c rid k e legal = refl

  abbrev AllDone : List Mark → Gxid → Type 0
  AllDone N L = (o : ℕ) → 1 ≤ o → o ≤ 64 → is_processed N L the_first (row_of L o) ≡ true

  -- the answer to the load says that it has written all
  answer-says : (point : Point) (L : Gxid) (n : ℕ) (a : StmtAnswer) → Standing script transfer (before point) → started_after loader None (before point) ≡ Some L → is_committed (before point) L ≡ true
      → LegalMark script point (Answer loader n a) → AllDone (before point) L
  answer-says point L n a k own done legal =
      by_answer a
      (subst (λ l. IsAnswer script point loader Outside l a) (is-loading script transfer are (answer_count loader (before point)) legal.line k.placed.load.1 legal.runs.line).1
      (subst (λ b. IsAnswer script point loader b legal.line a) k.placed.load.0 legal.is))
    where
      the-own : (g : Gxid) → transaction_of Outside loader (before point) ≡ Some g → g ≡ L
      the-own g e = some-same g L (sym (of-session script transfer are point k loader g Outside e) ∙ own)

      by_answer : (x : StmtAnswer) → IsAnswer script point loader Outside loading x → AllDone (before point) L
      by_answer (answer.Inserted n) d = λ o l m. subst (λ g. is_processed (before point) g the_first (row_of g o) ≡ true) (the-own d.g d.transaction) (d.told.each o l (subst (λ j. o ≤ j) (sym d.told.count) m))
      by_answer (answer.Refused r) d =
          absurd (true-false (is_aborted (before point) L) (is_aborted-append (marks_in point.steps) point.earlier L ∙ or-right (is_aborted (marks_in point.steps) L) (is_aborted point.earlier L) (subst (λ g. is_aborted point.earlier g ≡ true) (the-own d.g d.transaction) d.aborted)) (k.once L done))
      by_answer x d = absurd d.told

  module _ (steps : List Step) (e : Event) where
    abbrev told : List Mark → List Mark
    told earlier = marks_in steps ++ earlier

    abbrev at : List Mark → List Mark → Point
    at earlier later = record { steps = steps; event = e; earlier = earlier; later = later }

    more : (earlier : List Mark) (m : Mark) → told earlier ++ m ∷ [] ≡ told (earlier ++ m ∷ [])
    more earlier m = append_assoc (marks_in steps) earlier (m ∷ [])

    past : (earlier : List Mark) (m : Mark) (later : List Mark) (L : Gxid) → LegalMark script (at earlier later) m → Standing script transfer (told earlier) → is_committed (told earlier) L ≡ true → AllDone (told (earlier ++ m ∷ [])) L → AllDone (told earlier) L
    past earlier m later L legal k done next = λ o l h.
        sym (ap (λ b. is_processed (told earlier) L the_first (row_of L o) || b) (unprocessed (at earlier later) m L the_first (row_of L o) k done legal) ∙ or-false (is_processed (told earlier) L the_first (row_of L o)))
        ∙ sym (is_processed-append (told earlier) (m ∷ []) L the_first (row_of L o))
        ∙ ap (λ N. is_processed N L the_first (row_of L o)) (more earlier m)
        ∙ next o l h

    -- what holds one mark on
    own-on : (earlier : List Mark) (m : Mark) (later : List Mark) (L : Gxid) → LegalMark script (at earlier later) m → Standing script transfer (told earlier) → started_after loader None (told earlier) ≡ Some L → started_after loader None (told (earlier ++ m ∷ [])) ≡ Some L
    own-on earlier m later L legal k own = ap (started_after loader None) (sym (more earlier m)) ∙ load-stays script transfer are (at earlier later) k m L legal own

    done-on : (earlier : List Mark) (m : Mark) (L : Gxid) → is_committed (told earlier) L ≡ true → is_committed (told (earlier ++ m ∷ [])) L ≡ true
    done-on earlier m L done = ap (λ N. is_committed N L) (sym (more earlier m)) ∙ committed-stays (told earlier) m L done

    stands-on : (earlier : List Mark) (m : Mark) (later : List Mark) → LegalMark script (at earlier later) m → Standing script transfer (told earlier) → Standing script transfer (told (earlier ++ m ∷ []))
    stands-on earlier m later legal k = subst (Standing script transfer) (more earlier m) (standing-next script transfer are (at earlier later) m legal k)

    load-ahead : (earlier ms : List Mark) (L : Gxid) → AreLegalMarks script steps e earlier ms [] → Standing script transfer (told earlier) → started_after loader None (told earlier) ≡ Some L → is_committed (told earlier) L ≡ true
        → is_answered loader (ms ++ []) ≡ true → AllDone (told earlier) L
    load-ahead earlier [] L legal k own done said = absurd (false-true said)
    load-ahead earlier (Answer s n a ∷ ms) L legal k own done said =
        by_test (is_same_session s loader) refl said
        (load-ahead (earlier ++ Answer s n a ∷ []) ms L legal.1 (stands-on earlier (Answer s n a) (ms ++ []) legal.0 k) (own-on earlier (Answer s n a) (ms ++ []) L legal.0 k own) (done-on earlier (Answer s n a) L done))
      where
        by_test : (b : Bool) → is_same_session s loader ≡ b → (b || is_answered loader (ms ++ [])) ≡ true → (is_answered loader (ms ++ []) ≡ true → AllDone (told (earlier ++ Answer s n a ∷ [])) L) → AllDone (told earlier) L
        by_test true f g next = answer-says (at earlier (ms ++ [])) L n a k own done (subst (λ x. LegalMark script (at earlier (ms ++ [])) (Answer x n a)) (ap (λ z. let x : SessionId = record { 0 = z } in x) (eqb-true s.0 0 f)) legal.0)
        by_test false f g next = past earlier (Answer s n a) (ms ++ []) L legal.0 k done (next g)
    load-ahead earlier (m ∷ ms) L legal k own done said =
        past earlier m (ms ++ []) L legal.0 k done
        (load-ahead (earlier ++ m ∷ []) ms L legal.1 (stands-on earlier m (ms ++ []) legal.0 k) (own-on earlier m (ms ++ []) L legal.0 k own) (done-on earlier m L done) said)

    pub whole-next : (earlier : List Mark) (m : Mark) (ms : List Mark) → LegalMark script (at earlier (ms ++ [])) m → AreLegalMarks script steps e (earlier ++ m ∷ []) ms []
        → Standing script transfer (told earlier) → AreKnown (told earlier) → IsWhole (told earlier) → IsWhole (told earlier ++ m ∷ [])
    whole-next earlier m ms legal rest k known whole L own done o l h = is_processed-append (told earlier) (m ∷ []) L the_first (row_of L o) ∙ by_before (started_after loader None (told earlier)) refl (is_committed (told earlier) L) refl
      where
        front : (a b : Bool) → a ≡ true → (a || b) ≡ true
        front true b e = refl
        front false b e = absurd (false-true e)

        newest : (a b : ℕ) → a ≤ b → a ≡ b + 1 → ⊥
        newest a b l e = omega arith

        none-is : (x : Gxid) (o : Option Gxid) → o ≡ None → o ≡ Some x → ⊥
        none-is x o e f = cc

        -- it commits now
        now : (x : Mark) → LegalMark script (at earlier (ms ++ [])) x → AreLegalMarks script steps e (earlier ++ x ∷ []) ms [] → started_after loader None (told earlier) ≡ Some L → is_committed (x ∷ []) L ≡ true → is_processed (told earlier) L the_first (row_of L o) ≡ true
        now (Commit g) z r f q =
            let g_is = same-gxid g L (eqb-true g.0 L.0 (sym (or-false (is_same_gxid g L)) ∙ q)) in
            let own_g = subst (λ x. started_after z.session None (told earlier) ≡ Some x) g_is (of-session script transfer are (at earlier (ms ++ [])) k z.session g (state_of script z.session (told earlier)) z.transaction) in
            let s_is = sessions-same script transfer are (at earlier (ms ++ [])) k z.session loader L own_g f in
            sym (ap (λ b. is_processed (told earlier) L the_first (row_of L o) || b) refl ∙ or-false (is_processed (told earlier) L the_first (row_of L o)))
            ∙ sym (is_processed-append (told earlier) (Commit g ∷ []) L the_first (row_of L o))
            ∙ ap (λ N. is_processed N L the_first (row_of L o)) (more earlier (Commit g))
            ∙ load-ahead (earlier ++ Commit g ∷ []) ms L r (subst (Standing script transfer) (more earlier (Commit g)) (standing-next script transfer are (at earlier (ms ++ [])) (Commit g) z k))
            (ap (started_after loader None) (sym (more earlier (Commit g))) ∙ load-stays script transfer are (at earlier (ms ++ [])) k (Commit g) L z f)
            (ap (λ N. is_committed N L) (sym (more earlier (Commit g))) ∙ is_committed-append (told earlier) (Commit g ∷ []) L ∙ or-right (is_committed (told earlier) L) (is_same_gxid g L || false) q)
            (subst (λ x. is_answered x (ms ++ []) ≡ true) s_is z.answered) o l h
        now x z r f q = absurd (false-true q)

        -- it starts now
        starts : (x : Mark) → LegalMark script (at earlier (ms ++ [])) x → started_after loader None (told earlier) ≡ None → started_after loader None (told earlier ++ x ∷ []) ≡ Some L → is_committed (told earlier ++ x ∷ []) L ≡ true → is_processed (told earlier) L the_first (row_of L o) ≡ true
        starts (Start g s) z f q d = by_test (is_same_session s loader) (sym (started_after-append loader None (told earlier) (Start g s ∷ [])) ∙ q)
          where
            by_test : (b : Bool) → (if b then Some g else started_after loader None (told earlier)) ≡ Some L → is_processed (told earlier) L the_first (row_of L o) ≡ true
            by_test true t = absurd (newest g.0 (start_count (told earlier)) (known g (subst (λ x. is_committed (told earlier) x ≡ true) (sym (some-same g L t)) (sym (or-false (is_committed (told earlier) L)) ∙ sym (is_committed-append (told earlier) (Start g s ∷ []) L) ∙ d))) z.number)
            by_test false t = absurd (none-is L (started_after loader None (told earlier)) f t)
        starts x z f q d = absurd (none-is L (started_after loader None (told earlier)) f (sym (started_after-append loader None (told earlier) (x ∷ [])) ∙ q))

        by_before : (x : Option Gxid) → started_after loader None (told earlier) ≡ x → (b : Bool) → is_committed (told earlier) L ≡ b → (is_processed (told earlier) L the_first (row_of L o) || is_processed (m ∷ []) L the_first (row_of L o)) ≡ true
        by_before None f b g = front (is_processed (told earlier) L the_first (row_of L o)) (is_processed (m ∷ []) L the_first (row_of L o)) (starts m legal f own done)
        by_before (Some x) f b g = front (is_processed (told earlier) L the_first (row_of L o)) (is_processed (m ∷ []) L the_first (row_of L o)) (by_test b g)
          where
            own_L : started_after loader None (told earlier) ≡ Some L
            own_L = f ∙ sym (load-stays script transfer are (at earlier (ms ++ [])) k m x legal f) ∙ own

            by_test : (b : Bool) → is_committed (told earlier) L ≡ b → is_processed (told earlier) L the_first (row_of L o) ≡ true
            by_test true c = whole L own_L c o l h
            by_test false c = now m legal rest own_L (sym (ap (λ y. y || is_committed (m ∷ []) L) c) ∙ sym (is_committed-append (told earlier) (m ∷ []) L) ∙ done)

    pub accounts-next : (earlier : List Mark) (m : Mark) (ms : List Mark) → LegalMark script (at earlier (ms ++ [])) m → AreLegalMarks script steps e (earlier ++ m ∷ []) ms [] → AreAccounts script transfer (told earlier) → AreAccounts script transfer (told earlier ++ m ∷ [])
    accounts-next earlier m ms legal rest a = record {
      standing = standing-next script transfer are (at earlier (ms ++ [])) m legal a.standing;
      neat = neat-next script transfer are (at earlier (ms ++ [])) a.standing a.neat m legal;
      skips = skips-next script transfer are (at earlier (ms ++ [])) a.standing a.skips m legal;
      known = known-next script transfer are (at earlier (ms ++ [])) a.standing a.known m legal;
      whole = whole-next earlier m ms legal rest a.standing a.known a.whole;
    }

  pub accounts-first : AreAccounts script transfer []
  accounts-first = record { standing = standing-first script transfer are; neat = tt; skips = tt; known = λ g e. absurd (false-true e); whole = λ L own done. absurd (false-true done) }
