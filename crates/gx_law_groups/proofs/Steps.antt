-- Open transactions and slots, step by step.
use Rattle.std.proofs.Common.{◌≡◌, ◌⊎◌, inl, inr, ℕ, ◌<◌, true, List, [], ◌∷◌, ◌++◌, length, refl, sym, ap, ◌∙◌, subst, append_assoc, append-nil}
use Rattle.gx_ids.specs.declared.ids.Gxid.{Gxid}
use Rattle.gx_ids.specs.declared.ids.SessionId.{SessionId}
use Rattle.gx_script.specs.declared.Line.{Line}
use Rattle.gx_script.specs.declared.Script.{Script}
use Rattle.gx_groups.specs.Table.{Table, after_give, holds, may}
use Rattle.gx_store.specs.declared.event.Event.{Event}
use Rattle.gx_store.specs.declared.mark.Mark.{Mark}
use Rattle.gx_store.specs.declared.mark.Mark.TheVariants.{Abort, Answer, Commit, Start}
use Rattle.gx_store.specs.declared.run.Step.{Step}
use Rattle.gx_store.specs.Groups.{open_after, open_in, slots_by, slots_through}
use Rattle.gx_store.specs.Legal.{AbortsAtEnd, AbortsWithLine, AreLegalMarks, LegalAbort, LegalEvent, LegalMark}
use Rattle.gx_store.specs.Points.{marks_in}
use Rattle.gx_law_groups.proofs.Giving.{may-give}
use Rattle.gx_law_groups.proofs.Marks.{abort-ends, commit-ends, open_from-append}
use Rattle.gx_law_groups.proofs.Slots.{whole}
use Rattle.gx_law_groups.proofs.Through.{Stands, answer-mark, end-mark, start-mark, still-mark}
use Rattle.gx_law_groups.proofs.Tidy.{Each}

-- THE MARKS OF A STEP
module _ (script : Script) (lines : Each (λ (l : Line). l.session.0 < length script.sessions) script.lines) (steps : List Step) (happens : Event) (marks : List Mark) (legal : LegalEvent script steps happens marks)
    (asked : ℕ → List SessionId) where
  abbrev Now : Table → List Mark → Type 0
  Now t earlier = Stands script steps happens asked t earlier

  abort-mark : (t : Table) (earlier later : List Mark) (now : Now t earlier) (g : Gxid) → LegalAbort script (record { steps = steps; event = happens; earlier = earlier; later = later }) g
      → Now (slots_by (open_in (marks_in steps ++ earlier)) t (Abort g)) (earlier ++ Abort g ∷ [])
  abort-mark t earlier later now g l = by_cause l.cause
    where
      stays : (s k : SessionId) → may t k ≡ true → holds t s ≡ true → may (after_give t s) k ≡ true
      stays s k m h = may-give t k s (whole script t (marks_in steps ++ earlier) asked _ now.slotted) m h

      by_cause : AbortsWithLine script (record { steps = steps; event = happens; earlier = earlier; later = later }) g ⊎ AbortsAtEnd script (record { steps = steps; event = happens; earlier = earlier; later = later }) g
          → Now (slots_by (open_in (marks_in steps ++ earlier)) t (Abort g)) (earlier ++ Abort g ∷ [])
      by_cause (inl a) = end-mark script lines steps happens marks legal asked t earlier later now g a.session (Abort g) (abort-ends g) a.transaction l.running (stays a.session) (λ place. refl)
      by_cause (inr a) = end-mark script lines steps happens marks legal asked t earlier later now g a.session (Abort g) (abort-ends g) a.transaction l.running (stays a.session) (λ place. refl)

  one-mark : (t : Table) (earlier later : List Mark) (m : Mark) → Now t earlier → LegalMark script (record { steps = steps; event = happens; earlier = earlier; later = later }) m
      → Now (slots_by (open_in (marks_in steps ++ earlier)) t m) (earlier ++ m ∷ [])
  one-mark t earlier later (Start g s) now l = start-mark script lines steps happens marks legal asked t earlier later now g s l
  one-mark t earlier later (Commit g) now l =
      end-mark script lines steps happens marks legal asked t earlier later now g l.session (Commit g) (commit-ends g) l.transaction l.running
      (λ k m h. may-give t k l.session (whole script t (marks_in steps ++ earlier) asked _ now.slotted) m h) (λ place. refl)
  one-mark t earlier later (Abort g) now l = abort-mark t earlier later now g l
  one-mark t earlier later (Answer s n a) now l = answer-mark script lines steps happens marks legal asked t earlier later now s n a l
  one-mark t earlier later m now l = still-mark script lines steps happens marks legal asked t earlier m now refl

  pub through : (ms later earlier : List Mark) (t : Table) → AreLegalMarks script steps happens earlier ms later → Now t earlier → Now (slots_through (open_in (marks_in steps ++ earlier)) t ms) (earlier ++ ms)
  through [] later earlier t l now = subst (Now t) (sym (append-nil earlier)) now
  through (m ∷ ms) later earlier t l now =
      let more : open_in (marks_in steps ++ (earlier ++ m ∷ [])) ≡ open_after (open_in (marks_in steps ++ earlier)) m =
      ap open_in (sym (append_assoc (marks_in steps) earlier (m ∷ []))) ∙ open_from-append [] (marks_in steps ++ earlier) (m ∷ []) in
      let one = one-mark t earlier (ms ++ later) m now l.0 in
      let rest = through ms later (earlier ++ m ∷ []) (slots_by (open_in (marks_in steps ++ earlier)) t m) l.1 one in
      subst (λ o. Now (slots_through o (slots_by (open_in (marks_in steps ++ earlier)) t m) ms) (earlier ++ m ∷ ms)) more
      (subst (λ xs. Now (slots_through (open_in (marks_in steps ++ (earlier ++ m ∷ []))) (slots_by (open_in (marks_in steps ++ earlier)) t m) ms) xs) (append_assoc earlier (m ∷ []) ms) rest)
