-- The lines of answers are read as they are printed.
use Rattle.std.proofs.Common.{◌≡◌, ℕ, ◌^◌, ◌<◌, ◌==◌, Bool, true, false, if◌then◌else◌, List, [], ◌∷◌, ◌++◌, codes, Some, None, refl, sym, ◌∙◌, ap, subst, arith, append_assoc, append-nil}
use Rattle.std.specs.Prelude.{option_and_then}
use Rattle.std.specs.Fmt.{decimal}
use Rattle.std.proofs.lemmas.Option.{none-some, some_pair_parts, option_and_then_some}
use Rattle.gx_ids.specs.declared.ids.Gxid.{Gxid}
use Rattle.gx_ids.specs.declared.ids.Node.{Node}
use Rattle.gx_ids.specs.declared.rid.Rid.{Rid}
use Rattle.gx_report.specs.Words.{gxid_text, number_text}
use Rattle.gx_store.specs.declared.answer.Refused.{Refused}
use Rattle.gx_store.specs.declared.answer.Refused.TheVariants as refused
use Rattle.gx_store.specs.declared.answer.StmtAnswer.{StmtAnswer}
use Rattle.gx_store.specs.declared.answer.StmtAnswer.TheVariants as answer
use Rattle.gx_trace.specs.Fields.{count, gxid, node, rid}
use Rattle.gx_trace.specs.Lawful.{IsGxid, IsNode, IsRefused, IsRid}
use Rattle.gx_trace.specs.Readers.{Front, behind, both, number_below, word, EndsNumber, IsEnd, IsReaderOf}
use Rattle.gx_trace.specs.Texts.{rid_word}
use Rattle.gx_trace.proofs.ReadFields.{counts, gxids, nodes, rids}
use Rattle.gx_trace.proofs.Readers.{behind-word, numbers-below, one-behind-other}
use Rattle.gx_trace.proofs.Words.{if-true, word-again, word-sound}
use Rattle.gx_trace_lines.specs.Answers.{answer_head, answer_head_text, behind_number, exactly, kept_number}
use Rattle.gx_trace_lines.specs.Choices.{just, nothing, on}
use Rattle.gx_trace_lines.specs.Heads.{IsHead, counted, deleted_of, head, head_text, inserted_of, journal, journal_of, restarted, restarted_of, refusal, refused_head, refused_of, refused_text, rows_of, serialization, serialization_of, updated_of, victim, victim_of}
use Rattle.gx_trace_lines.specs.declared.heads.AnswerHead.{AnswerHead}
use Rattle.gx_trace_lines.specs.declared.heads.AnswerHead.TheVariants.{Said, Rows}
use Rattle.gx_trace_lines.proofs.FirstWords.{IsSoundBehind, as-sound, made-again, made-sound, nothing-sound, on-sound}

-- a word that is read is there
pub words : {Ends : List ℕ → Type 0} (w : List ℕ) → IsReaderOf (λ (x : Unit {0}). w) (λ x. Unit {0}) Ends (word w)
words w = record { again = λ x rest is ends. word-again w rest; sound = λ bytes rest x e. (tt, word-sound w bytes rest e) }

pub ends-number : (rest : List ℕ) → IsEnd rest → EndsNumber rest
ends-number rest end = subst EndsNumber (sym end) tt

-- REFUSALS
serializations : IsReaderOf (λ (x : Rid × Gxid). rid_word x.0 ++ (codes " changed by" ++ gxid_text x.1)) (λ x. IsRid x.0 × IsGxid x.1) EndsNumber (both rid (behind (codes " changed by") gxid))
serializations = one-behind-other rids (behind-word (codes " changed by") gxids) (λ b rest is ends. refl)

journals : IsReaderOf (λ (x : Node × Unit {0}). number_text x.0.0 ++ codes " failed") (λ x. IsNode x.0 × Unit {0}) EndsNumber (both node (word (codes " failed")))
journals = one-behind-other nodes (words (codes " failed")) (λ b rest is ends. refl)

restarts : IsReaderOf (λ (x : Node × Unit {0}). number_text x.0.0 ++ codes " restarted") (λ x. IsNode x.0 × Unit {0}) EndsNumber (both node (word (codes " restarted")))
restarts = one-behind-other nodes (words (codes " restarted")) (λ b rest is ends. refl)

refusal-again : (why : Refused) (rest : List ℕ) → IsRefused why → IsEnd rest → refusal (refused_text why ++ rest) ≡ Some (why, rest)
refusal-again (refused.Serialization rid newer) rest is end =
    made-again refused_text refusal (codes "ERROR 1 serialization row") serialization_of serializations (λ bytes. refl) (rid, newer) rest is (ends-number rest end) refl
refusal-again (refused.Victim round) rest is end = made-again refused_text refusal (codes "ERROR 2 victim of round") victim_of counts (λ bytes. refl) round rest is (ends-number rest end) refl
refusal-again refused.Overflow rest is end = refl
refusal-again refused.DivisionByZero rest is end = refl
refusal-again refused.InFailedBlock rest is end = refl
refusal-again (refused.JournalFault node) rest is end =
    made-again refused_text refusal (codes "ERROR 6 journal of node") journal_of journals (λ bytes. refl) (node, tt) rest (is, tt) (ends-number rest end) refl
refusal-again refused.NotInBlock rest is end = refl
refusal-again (refused.Restarted node) rest is end =
    made-again refused_text refusal (codes "ERROR 8 segment") restarted_of restarts (λ bytes. refl) (node, tt) rest (is, tt) (ends-number rest end) refl

refusal-sound : IsSoundBehind [] refused_text IsRefused refusal
refusal-sound =
    on-sound refused_text IsRefused (codes "ERROR 1 serialization row") (made-sound (codes "ERROR 1 serialization row") refused_text IsRefused serialization_of serializations (λ a is. (is, refl)))
    (on-sound refused_text IsRefused (codes "ERROR 2 victim of round") (made-sound (codes "ERROR 2 victim of round") refused_text IsRefused victim_of counts (λ a is. (is, refl)))
    (on-sound refused_text IsRefused (codes "ERROR 3 overflow") (as-sound refused_text IsRefused refused.Overflow tt)
    (on-sound refused_text IsRefused (codes "ERROR 4 division by zero") (as-sound refused_text IsRefused refused.DivisionByZero tt)
    (on-sound refused_text IsRefused (codes "ERROR 5 block has failed") (as-sound refused_text IsRefused refused.InFailedBlock tt)
    (on-sound refused_text IsRefused (codes "ERROR 6 journal of node") (made-sound (codes "ERROR 6 journal of node") refused_text IsRefused journal_of journals (λ a is. (is.0, refl)))
    (on-sound refused_text IsRefused (codes "ERROR 7 not in a block") (as-sound refused_text IsRefused refused.NotInBlock tt)
    (on-sound refused_text IsRefused (codes "ERROR 8 segment") (made-sound (codes "ERROR 8 segment") refused_text IsRefused restarted_of restarts (λ a is. (is.0, refl))) (nothing-sound refused_text IsRefused))))))))

refusals : IsReaderOf refused_text IsRefused IsEnd refusal
refusals = record { again = refusal-again; sound = λ bytes rest a e. refusal-sound bytes rest a e }

-- HEADS
no-other : (why : Refused) (rest : List ℕ) → head (refused_text why ++ rest) ≡ refused_head (refused_text why ++ rest)
no-other (refused.Serialization rid newer) rest = refl
no-other (refused.Victim round) rest = refl
no-other refused.Overflow rest = refl
no-other refused.DivisionByZero rest = refl
no-other refused.InFailedBlock rest = refl
no-other (refused.JournalFault node) rest = refl
no-other refused.NotInBlock rest = refl
no-other (refused.Restarted node) rest = refl

counted-again : (w : List ℕ) (f : ℕ → AnswerHead) → ((n : ℕ) → head_text (f n) ≡ w ++ number_text n) → ((bytes : List ℕ) → head (w ++ bytes) ≡ counted f bytes)
    → (n : ℕ) (rest : List ℕ) → n < 2 ^ 64 → IsEnd rest → head (head_text (f n) ++ rest) ≡ Some (f n, rest)
counted-again w f text here n rest is end = made-again head_text head w f counts here n rest is (ends-number rest end) (text n)

head-again : (h : AnswerHead) (rest : List ℕ) → IsHead h → IsEnd rest → head (head_text h ++ rest) ≡ Some (h, rest)
head-again (Said answer.Begin) rest is end = refl
head-again (Said answer.Commit) rest is end = refl
head-again (Said answer.Rollback) rest is end = refl
head-again (Said answer.Locked) rest is end = refl
head-again (Said (answer.Inserted n)) rest is end = counted-again (codes "INSERT") inserted_of (λ n. refl) (λ bytes. refl) n rest is end
head-again (Said (answer.Updated n)) rest is end = counted-again (codes "UPDATE") updated_of (λ n. refl) (λ bytes. refl) n rest is end
head-again (Said (answer.Deleted n)) rest is end = counted-again (codes "DELETE") deleted_of (λ n. refl) (λ bytes. refl) n rest is end
head-again (Said (answer.Rows rows)) rest is end = absurd is
head-again (Said (answer.Refused why)) rest is end = no-other why rest ∙ made-again head_text refused_head [] refused_of refusals (λ bytes. refl) why rest is end refl
head-again (Rows n) rest is end = counted-again (codes "SELECT") rows_of (λ n. refl) (λ bytes. refl) n rest is end

head-sound : IsSoundBehind [] head_text IsHead head
head-sound =
    on-sound head_text IsHead (codes "BEGIN") (as-sound head_text IsHead (Said answer.Begin) tt)
    (on-sound head_text IsHead (codes "COMMIT") (as-sound head_text IsHead (Said answer.Commit) tt)
    (on-sound head_text IsHead (codes "ROLLBACK") (as-sound head_text IsHead (Said answer.Rollback) tt)
    (on-sound head_text IsHead (codes "LOCK TABLE") (as-sound head_text IsHead (Said answer.Locked) tt)
    (on-sound head_text IsHead (codes "INSERT") (made-sound (codes "INSERT") head_text IsHead inserted_of counts (λ n is. (is, refl)))
    (on-sound head_text IsHead (codes "UPDATE") (made-sound (codes "UPDATE") head_text IsHead updated_of counts (λ n is. (is, refl)))
    (on-sound head_text IsHead (codes "DELETE") (made-sound (codes "DELETE") head_text IsHead deleted_of counts (λ n is. (is, refl)))
    (on-sound head_text IsHead (codes "SELECT") (made-sound (codes "SELECT") head_text IsHead rows_of counts (λ n is. (is, refl)))
    (made-sound [] head_text IsHead refused_of refusals (λ why is. (is, refl))))))))))

pub heads : IsReaderOf head_text IsHead IsEnd head
heads = record { again = head-again; sound = λ bytes rest a e. head-sound bytes rest a e }

-- WITH SESSION AND NUMBER
same-number : (m n : ℕ) → (m == n) ≡ true → m ≡ n
same-number m n e = grind arith

these : (n : ℕ) → n < 2 ^ 32 → IsReaderOf (λ (x : Unit {0}). decimal n) (λ x. Unit {0}) EndsNumber (exactly n)
these n small = record {
  again = λ x rest is ends. ap (option_and_then (kept_number n)) (below.again n rest small ends) ∙ if-true (n == n) (Some (tt, rest)) None (grind arith);
  sound = λ bytes rest x e. option_and_then_some (kept_number n) (number_below (2 ^ 32) bytes) (x, rest) e (λ y is kept. (tt, stands bytes rest x y.0 y.1 (y.0 == n) refl is kept));
}
  where
    below : IsReaderOf decimal (λ k. k < 2 ^ 32) EndsNumber (number_below (2 ^ 32))
    below = numbers-below (2 ^ 32) (omega arith)

    stands : (bytes rest : List ℕ) (x : Unit {0}) (m : ℕ) (left : List ℕ) (c : Bool) → (m == n) ≡ c → number_below (2 ^ 32) bytes ≡ Some (m, left)
        → ◌≡◌ {A = Front (Unit {0})} (if c then Some (tt, left) else None) (Some (x, rest)) → bytes ≡ decimal n ++ rest
    stands bytes rest x m left false c is e = absurd (none-some _ e)
    stands bytes rest x m left true c is e =
        let (_, q) = some_pair_parts tt x left rest e in
        (below.sound bytes left m is).1 ∙ (λ i. decimal (same-number m n c i) ++ q i)

behind-it : {A : Type 0} {text : A → List ℕ} {Is : A → Type 0} {Ends : List ℕ → Type 0} {read : List ℕ → Front A} (n : ℕ) → n < 2 ^ 32
    → IsReaderOf text Is Ends read → ((a : A) (rest : List ℕ) → Is a → Ends rest → EndsNumber (text a ++ rest)) → IsReaderOf (λ a. decimal n ++ text a) Is Ends (behind_number n read)
behind-it {text = text} {read = read} n small r joins = record {
  again = λ a rest is ends.
      ap (λ y. behind_number n read y) (append_assoc (decimal n) (text a) rest) ∙ ap (option_and_then (λ x. read x.1)) ((these n small).again tt (text a ++ rest) tt (joins a rest is ends)) ∙ r.again a rest is ends;
  sound = λ bytes rest a e. option_and_then_some (λ x. read x.1) (exactly n bytes) (a, rest) e (λ x stands is.
      let (lawful, text_is) = r.sound x.1 rest a is in
      (lawful, ((these n small).sound bytes x.1 x.0 stands).1 ∙ ap (λ y. decimal n ++ y) text_is ∙ sym (append_assoc (decimal n) (text a) rest)));
}

pub answer-heads : (name : List ℕ) (number : ℕ) → number < 2 ^ 32 → IsReaderOf (answer_head_text name number) IsHead IsEnd (answer_head name number)
answer-heads name number small = behind-word name (behind-word (codes ".") (behind-it number small (behind-word (codes " ") heads) (λ a rest is ends. refl)))
