-- A session's line under way at a point of a step, and the marks that may stand there.
use Rattle.std.proofs.Common.{◌≡◌, inl, ℕ, ◌+◌, List, [], ◌∷◌, ◌++◌, Option, Some, None, Bool, true, false, sym, subst, ap, ◌∙◌, if◌then◌else◌}
use Rattle.std.proofs.lemmas.List.{append_assoc}
use Rattle.gx_lemmas.proofs.Tests.{false-true}
use Rattle.gx_ids.specs.declared.ids.Gxid.{Gxid}
use Rattle.gx_ids.specs.declared.ids.SessionId.{SessionId}
use Rattle.gx_tree.specs.declared.stmt.Stmt.{Stmt}
use Rattle.gx_dsnap.specs.declared.snapshot.Snapshot.{Snapshot}
use Rattle.gx_script.specs.declared.Script.{Script}
use Rattle.gx_store.specs.declared.answer.StmtAnswer.{StmtAnswer}
use Rattle.gx_store.specs.declared.event.Event.{Event}
use Rattle.gx_store.specs.declared.event.Event.TheVariants as event
use Rattle.gx_store.specs.declared.mark.Mark.{Mark}
use Rattle.gx_store.specs.declared.mark.Mark.TheVariants as mark
use Rattle.gx_store.specs.declared.run.Step.{Step}
use Rattle.gx_store.specs.Answers.{IsAnswer}
use Rattle.gx_store.specs.Commands.{IsUnderWay, RunsCommand, RunsLine, has_own_snapshot, state_at}
use Rattle.gx_store.specs.Legal.{LegalAbort, LegalAnswer, LegalCommit, LegalSnap, LegalStart, draws, may_abort}
use Rattle.gx_store.specs.Lines.{BlockState, Outside, InBlock, Failed, cid_of, is_command, is_on_rows, level_of, may_commit, state_after_line, stmt_of, transaction_of}
use Rattle.gx_store.specs.Marks.{is_answered, is_ended, start_count, started_after}
use Rattle.gx_store.specs.Points.{Point, before, marks_in, starts_by, starts_in}
use Rattle.gx_law_order.specs.Seen.{SeesEnded}
use Rattle.gx_law_order.specs.Lists.{Each}
use Rattle.gx_law_order.proofs.Said.{CalmFor, Said, said-answer, said-calm, said-start}

pub record AtLine (script : Script) (steps : List Step) (e : Event) (k : SessionId) (line : Stmt) (n : ℕ) (b : BlockState) (u : Bool) (g : Option Gxid) (earlier : List Mark) : Type 0 where
  pub said : Said script k (marks_in steps ++ earlier) n b u g
  pub starts : starts_in k steps + starts_by k e ≡ n + 1
  pub is_line : stmt_of k (n + 1) script.lines ≡ Some line

-- the block has a transaction, or the line outside has one
abbrev pub has_txn : BlockState → Bool → Bool
has_txn Outside u = u
has_txn (InBlock level commands) u = true
has_txn Failed u = false

pub at-calm : (script : Script) (steps : List Step) (e : Event) (k : SessionId) (line : Stmt) (n : ℕ) (b : BlockState) (u : Bool) (g : Option Gxid) (earlier ns : List Mark) → AtLine script steps e k line n b u g earlier → Each (CalmFor k) ns → AtLine script steps e k line n b u g (earlier ++ ns)
at-calm script steps e k line n b u g earlier ns a calm =
    record { said = subst (λ m. Said script k m n b u g) (append_assoc (marks_in steps) earlier ns) (said-calm script k (marks_in steps ++ earlier) ns n b u g a.said calm); starts = a.starts; is_line = a.is_line }

pub at-start : (script : Script) (steps : List Step) (e : Event) (k : SessionId) (line : Stmt) (n : ℕ) (b : BlockState) (u : Bool) (g : Option Gxid) (h : Gxid) (earlier : List Mark) → AtLine script steps e k line n b u g earlier → AtLine script steps e k line n b true (Some h) (earlier ++ mark.Start h k ∷ [])
at-start script steps e k line n b u g h earlier a =
    record { said = subst (λ m. Said script k m n b true (Some h)) (append_assoc (marks_in steps) earlier (mark.Start h k ∷ [])) (said-start script k (marks_in steps ++ earlier) n b u g h a.said); starts = a.starts; is_line = a.is_line }

module _ (script : Script) (steps : List Step) (e : Event) (k : SessionId) (line : Stmt) (n : ℕ) (b : BlockState) (u : Bool) (g : Option Gxid) (earlier : List Mark) (a : AtLine script steps e k line n b u g earlier) where
  abbrev ms : List Mark
  ms = marks_in steps ++ earlier

  abbrev at : List Mark → Point
  at later = record { steps = steps; event = e; earlier = earlier; later = later }

  pub runs-line : (later : List Mark) → RunsLine script (at later) k line
  runs-line later = record { started = a.starts ∙ ap (λ i. i + 1) (sym a.said.answered); line = ap (λ i. stmt_of k (i + 1) script.lines) a.said.answered ∙ a.is_line }

  pub transaction-is : (later : List Mark) (h : Gxid) → has_txn b u ≡ true → g ≡ Some h → transaction_of (state_at script k (at later)) k (before (at later)) ≡ Some h
  transaction-is later h has same = subst (λ q. transaction_of q k ms ≡ Some h) (sym a.said.state) (by_state b has)
    where
      by_state : (q : BlockState) → has_txn q u ≡ true → transaction_of q k ms ≡ Some h
      by_state Outside t = ap (λ x. if x then started_after k None ms else None) (a.said.begun ∙ t) ∙ a.said.started ∙ same
      by_state (InBlock l c) t = a.said.started ∙ same
      by_state Failed t = absurd (false-true t)

  pub runs-command : (later : List Mark) (h : Gxid) → has_txn b u ≡ true → g ≡ Some h → is_command b line ≡ true → RunsCommand script (at later) k line (level_of b) h (cid_of b)
  runs-command later h has same c =
      record {
        line = runs-line later;
        command = subst (λ q. is_command q line ≡ true) (sym a.said.state) c;
        transaction = transaction-is later h has same;
        number = ap cid_of (sym a.said.state);
        isolation = ap level_of (sym a.said.state);
      }

  pub under-way : (later : List Mark) (h : Gxid) → has_txn b u ≡ true → g ≡ Some h → is_command b line ≡ true → is_ended ms h ≡ false → IsUnderWay script (at later) k line (level_of b) h (cid_of b)
  under-way later h has same c runs = record { runs = runs-command later h has same c; running = runs }

  pub legal-start : (later : List Mark) (h : Gxid) → e ≡ event.Start k → draws b line ≡ true → u ≡ false → h.0 ≡ start_count ms + 1 → LegalStart script (at later) h k
  legal-start later h here d none number =
      record { number = number; event = here; line = line; runs = runs-line later; drawing = subst (λ q. draws q line ≡ true) (sym a.said.state) d; once = a.said.begun ∙ none }

  pub legal-snap : (later : List Mark) (h : Gxid) (x : Snapshot) → has_txn b u ≡ true → g ≡ Some h → is_command b line ≡ true → is_ended ms h ≡ false → is_on_rows line ≡ true → has_own_snapshot (level_of b) ms h (cid_of b) ≡ false → SeesEnded ms x → LegalSnap script (at later) h (cid_of b) x
  legal-snap later h x has same c runs rows once seen =
      record { session = k; line = line; level = level_of b; runs = under-way later h has same c runs; on_rows = rows; once = once; committed = seen.committed; ended = seen.ended }

  pub legal-commit : (later : List Mark) (h : Gxid) → has_txn b u ≡ true → g ≡ Some h → is_ended ms h ≡ false → may_commit b line ≡ true → is_answered k later ≡ true → LegalCommit script (at later) h
  legal-commit later h has same runs may answered =
      record { session = k; line = line; runs = runs-line later; transaction = transaction-is later h has same; running = runs; committing = subst (λ q. may_commit q line ≡ true) (sym a.said.state) may; answered = answered }

  pub legal-abort : (later : List Mark) (h : Gxid) → has_txn b u ≡ true → g ≡ Some h → is_ended ms h ≡ false → may_abort b line ≡ true → is_answered k later ≡ true → LegalAbort script (at later) h
  legal-abort later h has same runs may answered =
      record { running = runs; cause = inl (record { session = k; line = line; runs = runs-line later; transaction = transaction-is later h has same; aborting = subst (λ q. may_abort q line ≡ true) (sym a.said.state) may; answered = answered }) }

  pub legal-answer : (later : List Mark) (i : ℕ) (r : StmtAnswer) → i ≡ n + 1 → IsAnswer script (at later) k b line r → LegalAnswer script (at later) k i r
  legal-answer later i r number is =
      record { order = number ∙ ap (λ j. j + 1) (sym a.said.answered); line = line; runs = runs-line later; is = subst (λ q. IsAnswer script (at later) k q line r) (sym a.said.state) is }

  -- the answer leaves the session there
  pub answered-now : (i : ℕ) (r : StmtAnswer) → i ≡ n + 1 → Said script k (marks_in steps ++ (earlier ++ mark.Answer k i r ∷ [])) (n + 1) (state_after_line b (Some line) r) false g
  answered-now i r number =
      subst (λ m. Said script k m (n + 1) (state_after_line b (Some line) r) false g) (append_assoc (marks_in steps) earlier (mark.Answer k i r ∷ []))
      (subst (λ q. Said script k (ms ++ mark.Answer k i r ∷ []) (n + 1) (state_after_line b q r) false g) (ap (λ j. stmt_of k j script.lines) number ∙ a.is_line) (said-answer script k ms n b u g i r a.said))
