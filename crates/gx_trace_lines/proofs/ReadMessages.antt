-- Messages are read as they are printed.
use Rattle.std.proofs.Common.{◌≡◌, ℕ, ◌^◌, ◌<◌, Bool, true, false, ◌||◌, if◌then◌else◌, List, [], ◌∷◌, ◌++◌, codes, Option, Some, None, refl, sym, ◌∙◌, ap, subst, arith, append_assoc, append-nil}
use Rattle.std.specs.Fmt.{decimal}
use Rattle.std.specs.Prelude.{◌⊎◌}
use Rattle.std.proofs.Common.{inl, inr}
use Rattle.std.proofs.lemmas.List.Elements.{All-nil}
use Rattle.std.proofs.lemmas.Option.{none-some, some_pair_parts}
use Rattle.gx_ids.specs.declared.ids.Cid.{Cid}
use Rattle.gx_ids.specs.declared.ids.Gxid.{Gxid}
use Rattle.gx_msg.specs.MessageText.{text_of_message}
use Rattle.gx_msg.specs.declared.message.Message.{Message}
use Rattle.gx_msg.specs.declared.message.Message.TheVariants as message
use Rattle.gx_msg.specs.declared.reply.Cause.TheVariants.{Overflow}
use Rattle.gx_msg.specs.declared.reply.Reply.{Reply}
use Rattle.gx_msg.specs.declared.reply.Reply.TheVariants as reply
use Rattle.gx_report.specs.Words.{gxid_text, number_text, word_text}
use Rattle.gx_store.specs.Refusals.{the_coordinator}
use Rattle.gx_modes.specs.declared.modes.Mode.TheVariants.{AccessShare}
use Rattle.gx_tree.specs.declared.part.Part.TheVariants as part
use Rattle.gx_tree.specs.declared.stmt.Level.TheVariants.{ReadCommitted}
use Rattle.gx_tree.specs.declared.slice.Slice.TheVariants as slice
use Rattle.gx_trace.specs.Fields.{cid, count, gxid}
use Rattle.gx_trace.specs.Lawful.{IsCid, IsGxid, IsMessage, IsMessageText, IsReply}
use Rattle.gx_trace.specs.Readers.{Front, behind, both, EndsNumber, IsEnd, IsReaderOf}
use Rattle.gx_trace.proofs.ReadFields.{cids, counts, gxids}
use Rattle.gx_trace.proofs.Readers.{behind-word, one-behind-other}
use Rattle.gx_trace.proofs.Words.{if-true}
use Rattle.gx_trace_lines.specs.Messages.{commanded, is_all, is_message, is_numbered, is_of_command, is_of_restart, is_of_slice, is_reply, is_request, is_up, message as read_message, message_words, numbered}
use Rattle.gx_trace_lines.proofs.ReadHeads.{ends-number, words}

numbers : (name : List ℕ) → IsReaderOf (λ n. name ++ number_text n) (λ n. n < 2 ^ 64) EndsNumber (numbered name)
numbers name = behind-word name counts

commands : (name : List ℕ) → IsReaderOf (λ (x : Gxid × Cid). name ++ (gxid_text x.0 ++ number_text x.1.0)) (λ x. IsGxid x.0 × IsCid x.1) EndsNumber (commanded name)
commands name = behind-word name (one-behind-other gxids cids (λ b rest is ends. refl))

-- whatever is read to the end stands there
module _ {A : Type 0} {text : A → List ℕ} {Is : A → Type 0} {read : List ℕ → Front A} (r : IsReaderOf text Is EndsNumber read) where
  all-there : (bytes : List ℕ) → is_all (read bytes) ≡ true → (a : A) × Is a × (bytes ≡ text a)
  all-there bytes e = by (read bytes) refl e
    where
      by : (o : Front A) → read bytes ≡ o → is_all o ≡ true → (a : A) × Is a × (bytes ≡ text a)
      by None is e = absurd (grind (arith, e))
      by (Some (a, [])) is e = let (lawful, t) = r.sound bytes [] a is in (a, lawful, t ∙ append-nil (text a))
      by (Some (a, b ∷ bs)) is e = absurd (grind (arith, e))

  there-all : (a : A) → Is a → is_all (read (text a)) ≡ true
  there-all a is = ap (λ y. is_all (read y)) (sym (append-nil (text a))) ∙ ap is_all (r.again a [] is tt)

either-of : (p q : Bool) → (p || q) ≡ true → (p ≡ true) ⊎ (q ≡ true)
either-of true q e = inl refl
either-of false q e = inr e

left-of : (p q : Bool) → p ≡ true → (p || q) ≡ true
left-of p q e = grind (arith, e)

right-of : (p q : Bool) → q ≡ true → (p || q) ≡ true
right-of p q e = grind (arith, e)

-- FROM WORDS
numbered-is : (name bytes : List ℕ) (m : ℕ → Message) → ((n : ℕ) → n < 2 ^ 64 → IsMessage (m n) × (text_of_message (m n) ≡ name ++ number_text n)) → is_numbered name bytes ≡ true → IsMessageText bytes
numbered-is name bytes m whole e =
    let (n, small, t) = all-there (numbers name) bytes e in
    let (is, same) = whole n small in
    (m n, is, t ∙ sym same)

commanded-is : (name bytes : List ℕ) (m : Gxid × Cid → Message) → ((x : Gxid × Cid) → IsGxid x.0 × IsCid x.1 → IsMessage (m x) × (text_of_message (m x) ≡ name ++ (gxid_text x.0 ++ number_text x.1.0)))
    → is_of_command name bytes ≡ true → IsMessageText bytes
commanded-is name bytes m whole e =
    let (x, small, t) = all-there (commands name) bytes e in
    let (is, same) = whole x small in
    (m x, is, t ∙ sym same)

abbrev exec_of : Gxid × Cid → Message
exec_of x = message.Exec x.0 x.1 ReadCommitted None x.0 (slice.Lock (record { 0 = 0 }) AccessShare)

abbrev done_of : Gxid × Cid → Message
done_of x = message.Answer x.0 (reply.Done x.1 false 0 (part.Rows []))

abbrev failed_of : Gxid × Cid → Message
failed_of x = message.Answer x.0 (reply.Failed x.1 Overflow)

abbrev of_txn : ℕ → Gxid
of_txn n = record { 0 = n }

of-slice : (bytes : List ℕ) → is_of_slice bytes ≡ true → IsMessageText bytes
of-slice bytes e =
    elim (either-of (is_of_command (codes "exec") bytes) (is_of_command (codes "done") bytes || is_of_command (codes "failed") bytes) e) [
      | inl h ↦ commanded-is (codes "exec") bytes exec_of (λ x is. (is, simp append_assoc)) h
      | inr h ↦ elim (either-of (is_of_command (codes "done") bytes) (is_of_command (codes "failed") bytes) h) [
        | inl k ↦ commanded-is (codes "done") bytes done_of (λ x is. (is, simp append_assoc)) k
        | inr k ↦ commanded-is (codes "failed") bytes failed_of (λ x is. (is, simp append_assoc)) k
      ]
    ]

request : (bytes : List ℕ) → is_request bytes ≡ true → IsMessageText bytes
request bytes e =
    elim (either-of (is_numbered (codes "prepare") bytes) _ e) [
      | inl h ↦ numbered-is (codes "prepare") bytes (λ n. message.Prepare (of_txn n)) (λ n small. (small, refl)) h
      | inr h ↦
          elim (either-of (is_numbered (codes "commit") bytes) _ h) [
            | inl h ↦ numbered-is (codes "commit") bytes (λ n. message.Commit (of_txn n)) (λ n small. (small, refl)) h
            | inr h ↦
                elim (either-of (is_numbered (codes "commit prepared") bytes) _ h) [
                  | inl h ↦ numbered-is (codes "commit prepared") bytes (λ n. message.CommitPrepared (of_txn n)) (λ n small. (small, refl)) h
                  | inr h ↦
                      elim (either-of (is_numbered (codes "abort") bytes) _ h) [
                        | inl h ↦ numbered-is (codes "abort") bytes (λ n. message.Abort (of_txn n)) (λ n small. (small, refl)) h
                        | inr h ↦
                            elim (either-of (is_numbered (codes "forget") bytes) _ h) [
                              | inl h ↦ numbered-is (codes "forget") bytes (λ n. message.Forget (of_txn n)) (λ n small. (small, refl)) h
                              | inr h ↦ numbered-is (codes "collect") bytes (λ n. message.Collect n) (λ n small. (small, refl)) h
                            ]
                      ]
                ]
          ]
    ]

replied : (bytes : List ℕ) → is_reply bytes ≡ true → IsMessageText bytes
replied bytes e =
    elim (either-of (is_numbered (codes "prepared") bytes) _ e) [
      | inl h ↦ numbered-is (codes "prepared") bytes (λ n. message.Answer (of_txn n) reply.Prepared) (λ n small. ((small, tt), refl)) h
      | inr h ↦
          elim (either-of (is_numbered (codes "committed") bytes) _ h) [
            | inl h ↦ numbered-is (codes "committed") bytes (λ n. message.Answer (of_txn n) reply.Committed) (λ n small. ((small, tt), refl)) h
            | inr h ↦
                elim (either-of (is_numbered (codes "jfault") bytes) _ h) [
                  | inl h ↦ numbered-is (codes "jfault") bytes (λ n. message.Answer (of_txn n) reply.Jfault) (λ n small. ((small, tt), refl)) h
                  | inr h ↦
                      elim (either-of (is_numbered (codes "again") bytes) _ h) [
                        | inl h ↦ numbered-is (codes "again") bytes (λ n. message.Answer (of_txn n) reply.Again) (λ n small. ((small, tt), refl)) h
                        | inr h ↦
                            elim (either-of (is_numbered (codes "aborted") bytes) _ h) [
                              | inl h ↦ numbered-is (codes "aborted") bytes (λ n. message.Answer (of_txn n) reply.Aborted) (λ n small. ((small, tt), refl)) h
                              | inr h ↦
                                  elim (either-of (is_numbered (codes "forgotten") bytes) _ h) [
                                    | inl h ↦ numbered-is (codes "forgotten") bytes (λ n. message.Answer (of_txn n) reply.Forgotten) (λ n small. ((small, tt), refl)) h
                                    | inr h ↦ numbered-is (codes "graph") bytes (λ n. message.Graph n (record { node = the_coordinator; edges = [] })) (λ n small. (small, refl)) h
                                  ]
                            ]
                      ]
                ]
          ]
    ]

up-is : (bytes : List ℕ) → is_up bytes ≡ true → IsMessageText bytes
up-is bytes e = let (x, whole, t) = all-there (words (codes "up")) bytes e in (message.Up, tt, t)

of-restart : (bytes : List ℕ) → is_of_restart bytes ≡ true → IsMessageText bytes
of-restart bytes e =
    elim (either-of (is_numbered (codes "restarted") bytes) (is_up bytes) e) [
      | inl h ↦ numbered-is (codes "restarted") bytes (λ n. message.Answer (of_txn n) reply.Restarted) (λ n small. ((small, tt), refl)) h
      | inr h ↦ up-is bytes h
    ]

message-sound : (bytes : List ℕ) → is_message bytes ≡ true → IsMessageText bytes
message-sound bytes e =
    elim (either-of (is_of_slice bytes) _ e) [
      | inl h ↦ of-slice bytes h
      | inr h ↦ elim (either-of (is_request bytes) _ h) [
        | inl k ↦ request bytes k
        | inr k ↦ elim (either-of (is_reply bytes) (is_of_restart bytes) k) [ inl j ↦ replied bytes j | inr j ↦ of-restart bytes j ]
      ]
    ]

-- TO WORDS
numbered-there : (name : List ℕ) (n : ℕ) → n < 2 ^ 64 → is_numbered name (name ++ number_text n) ≡ true
numbered-there name n small = there-all (numbers name) n small

commanded-there : (name : List ℕ) (g : Gxid) (c : Cid) (text : List ℕ) → IsGxid g × IsCid c → text ≡ name ++ (gxid_text g ++ number_text c.0) → is_of_command name text ≡ true
commanded-there name g c text is same = ap (is_of_command name) same ∙ there-all (commands name) (g, c) is

is-slice : (bytes : List ℕ) → is_of_slice bytes ≡ true → is_message bytes ≡ true
is-slice bytes e = left-of (is_of_slice bytes) (is_request bytes || (is_reply bytes || is_of_restart bytes)) e

is-request : (bytes : List ℕ) → is_request bytes ≡ true → is_message bytes ≡ true
is-request bytes e = right-of (is_of_slice bytes) (is_request bytes || (is_reply bytes || is_of_restart bytes)) (left-of (is_request bytes) (is_reply bytes || is_of_restart bytes) e)

is-reply : (bytes : List ℕ) → is_reply bytes ≡ true → is_message bytes ≡ true
is-reply bytes e =
    right-of (is_of_slice bytes) (is_request bytes || (is_reply bytes || is_of_restart bytes))
    (right-of (is_request bytes) (is_reply bytes || is_of_restart bytes) (left-of (is_reply bytes) (is_of_restart bytes) e))

is-of-restart : (bytes : List ℕ) → is_of_restart bytes ≡ true → is_message bytes ≡ true
is-of-restart bytes e =
    right-of (is_of_slice bytes) (is_request bytes || (is_reply bytes || is_of_restart bytes))
    (right-of (is_request bytes) (is_reply bytes || is_of_restart bytes) (right-of (is_reply bytes) (is_of_restart bytes) e))

exec-is : (t : List ℕ) → is_of_command (codes "exec") t ≡ true → is_message t ≡ true
exec-is t e = is-slice t (left-of (is_of_command (codes "exec") t) (is_of_command (codes "done") t || is_of_command (codes "failed") t) e)

done-is : (t : List ℕ) → is_of_command (codes "done") t ≡ true → is_message t ≡ true
done-is t e = is-slice t (right-of (is_of_command (codes "exec") t) (is_of_command (codes "done") t || is_of_command (codes "failed") t) (left-of (is_of_command (codes "done") t) (is_of_command (codes "failed") t) e))

failed-is : (t : List ℕ) → is_of_command (codes "failed") t ≡ true → is_message t ≡ true
failed-is t e = is-slice t (right-of (is_of_command (codes "exec") t) (is_of_command (codes "done") t || is_of_command (codes "failed") t) (right-of (is_of_command (codes "done") t) (is_of_command (codes "failed") t) e))

prepare-is : (t : List ℕ) → is_numbered (codes "prepare") t ≡ true → is_message t ≡ true
prepare-is t e = is-request t
    (left-of (is_numbered (codes "prepare") t)
    (is_numbered (codes "commit") t || (is_numbered (codes "commit prepared") t || (is_numbered (codes "abort") t || (is_numbered (codes "forget") t || is_numbered (codes "collect") t)))) e)

commit-is : (t : List ℕ) → is_numbered (codes "commit") t ≡ true → is_message t ≡ true
commit-is t e = is-request t
    (right-of (is_numbered (codes "prepare") t)
    (is_numbered (codes "commit") t || (is_numbered (codes "commit prepared") t || (is_numbered (codes "abort") t || (is_numbered (codes "forget") t || is_numbered (codes "collect") t))))
    (left-of (is_numbered (codes "commit") t) (is_numbered (codes "commit prepared") t || (is_numbered (codes "abort") t || (is_numbered (codes "forget") t || is_numbered (codes "collect") t))) e))

commit-prepared-is : (t : List ℕ) → is_numbered (codes "commit prepared") t ≡ true → is_message t ≡ true
commit-prepared-is t e = is-request t
    (right-of (is_numbered (codes "prepare") t)
    (is_numbered (codes "commit") t || (is_numbered (codes "commit prepared") t || (is_numbered (codes "abort") t || (is_numbered (codes "forget") t || is_numbered (codes "collect") t))))
    (right-of (is_numbered (codes "commit") t) (is_numbered (codes "commit prepared") t || (is_numbered (codes "abort") t || (is_numbered (codes "forget") t || is_numbered (codes "collect") t)))
    (left-of (is_numbered (codes "commit prepared") t) (is_numbered (codes "abort") t || (is_numbered (codes "forget") t || is_numbered (codes "collect") t)) e)))

abort-is : (t : List ℕ) → is_numbered (codes "abort") t ≡ true → is_message t ≡ true
abort-is t e = is-request t
    (right-of (is_numbered (codes "prepare") t)
    (is_numbered (codes "commit") t || (is_numbered (codes "commit prepared") t || (is_numbered (codes "abort") t || (is_numbered (codes "forget") t || is_numbered (codes "collect") t))))
    (right-of (is_numbered (codes "commit") t) (is_numbered (codes "commit prepared") t || (is_numbered (codes "abort") t || (is_numbered (codes "forget") t || is_numbered (codes "collect") t)))
    (right-of (is_numbered (codes "commit prepared") t) (is_numbered (codes "abort") t || (is_numbered (codes "forget") t || is_numbered (codes "collect") t))
    (left-of (is_numbered (codes "abort") t) (is_numbered (codes "forget") t || is_numbered (codes "collect") t) e))))

forget-is : (t : List ℕ) → is_numbered (codes "forget") t ≡ true → is_message t ≡ true
forget-is t e = is-request t
    (right-of (is_numbered (codes "prepare") t)
    (is_numbered (codes "commit") t || (is_numbered (codes "commit prepared") t || (is_numbered (codes "abort") t || (is_numbered (codes "forget") t || is_numbered (codes "collect") t))))
    (right-of (is_numbered (codes "commit") t) (is_numbered (codes "commit prepared") t || (is_numbered (codes "abort") t || (is_numbered (codes "forget") t || is_numbered (codes "collect") t)))
    (right-of (is_numbered (codes "commit prepared") t) (is_numbered (codes "abort") t || (is_numbered (codes "forget") t || is_numbered (codes "collect") t))
    (right-of (is_numbered (codes "abort") t) (is_numbered (codes "forget") t || is_numbered (codes "collect") t)
    (left-of (is_numbered (codes "forget") t) (is_numbered (codes "collect") t) e)))))

collect-is : (t : List ℕ) → is_numbered (codes "collect") t ≡ true → is_message t ≡ true
collect-is t e = is-request t
    (right-of (is_numbered (codes "prepare") t)
    (is_numbered (codes "commit") t || (is_numbered (codes "commit prepared") t || (is_numbered (codes "abort") t || (is_numbered (codes "forget") t || is_numbered (codes "collect") t))))
    (right-of (is_numbered (codes "commit") t) (is_numbered (codes "commit prepared") t || (is_numbered (codes "abort") t || (is_numbered (codes "forget") t || is_numbered (codes "collect") t)))
    (right-of (is_numbered (codes "commit prepared") t) (is_numbered (codes "abort") t || (is_numbered (codes "forget") t || is_numbered (codes "collect") t))
    (right-of (is_numbered (codes "abort") t) (is_numbered (codes "forget") t || is_numbered (codes "collect") t)
    (right-of (is_numbered (codes "forget") t) (is_numbered (codes "collect") t) e)))))

prepared-is : (t : List ℕ) → is_numbered (codes "prepared") t ≡ true → is_message t ≡ true
prepared-is t e = is-reply t
    (left-of (is_numbered (codes "prepared") t)
    (is_numbered (codes "committed") t || (is_numbered (codes "jfault") t || (is_numbered (codes "again") t || (is_numbered (codes "aborted") t || (is_numbered (codes "forgotten") t || is_numbered (codes "graph") t))))) e)

committed-is : (t : List ℕ) → is_numbered (codes "committed") t ≡ true → is_message t ≡ true
committed-is t e = is-reply t
    (right-of (is_numbered (codes "prepared") t)
    (is_numbered (codes "committed") t || (is_numbered (codes "jfault") t || (is_numbered (codes "again") t || (is_numbered (codes "aborted") t || (is_numbered (codes "forgotten") t || is_numbered (codes "graph") t)))))
    (left-of (is_numbered (codes "committed") t)
    (is_numbered (codes "jfault") t || (is_numbered (codes "again") t || (is_numbered (codes "aborted") t || (is_numbered (codes "forgotten") t || is_numbered (codes "graph") t)))) e))

jfault-is : (t : List ℕ) → is_numbered (codes "jfault") t ≡ true → is_message t ≡ true
jfault-is t e = is-reply t
    (right-of (is_numbered (codes "prepared") t)
    (is_numbered (codes "committed") t || (is_numbered (codes "jfault") t || (is_numbered (codes "again") t || (is_numbered (codes "aborted") t || (is_numbered (codes "forgotten") t || is_numbered (codes "graph") t)))))
    (right-of (is_numbered (codes "committed") t)
    (is_numbered (codes "jfault") t || (is_numbered (codes "again") t || (is_numbered (codes "aborted") t || (is_numbered (codes "forgotten") t || is_numbered (codes "graph") t))))
    (left-of (is_numbered (codes "jfault") t) (is_numbered (codes "again") t || (is_numbered (codes "aborted") t || (is_numbered (codes "forgotten") t || is_numbered (codes "graph") t))) e)))

again-is : (t : List ℕ) → is_numbered (codes "again") t ≡ true → is_message t ≡ true
again-is t e = is-reply t
    (right-of (is_numbered (codes "prepared") t)
    (is_numbered (codes "committed") t || (is_numbered (codes "jfault") t || (is_numbered (codes "again") t || (is_numbered (codes "aborted") t || (is_numbered (codes "forgotten") t || is_numbered (codes "graph") t)))))
    (right-of (is_numbered (codes "committed") t)
    (is_numbered (codes "jfault") t || (is_numbered (codes "again") t || (is_numbered (codes "aborted") t || (is_numbered (codes "forgotten") t || is_numbered (codes "graph") t))))
    (right-of (is_numbered (codes "jfault") t) (is_numbered (codes "again") t || (is_numbered (codes "aborted") t || (is_numbered (codes "forgotten") t || is_numbered (codes "graph") t)))
    (left-of (is_numbered (codes "again") t) (is_numbered (codes "aborted") t || (is_numbered (codes "forgotten") t || is_numbered (codes "graph") t)) e))))

aborted-is : (t : List ℕ) → is_numbered (codes "aborted") t ≡ true → is_message t ≡ true
aborted-is t e = is-reply t
    (right-of (is_numbered (codes "prepared") t)
    (is_numbered (codes "committed") t || (is_numbered (codes "jfault") t || (is_numbered (codes "again") t || (is_numbered (codes "aborted") t || (is_numbered (codes "forgotten") t || is_numbered (codes "graph") t)))))
    (right-of (is_numbered (codes "committed") t)
    (is_numbered (codes "jfault") t || (is_numbered (codes "again") t || (is_numbered (codes "aborted") t || (is_numbered (codes "forgotten") t || is_numbered (codes "graph") t))))
    (right-of (is_numbered (codes "jfault") t) (is_numbered (codes "again") t || (is_numbered (codes "aborted") t || (is_numbered (codes "forgotten") t || is_numbered (codes "graph") t)))
    (right-of (is_numbered (codes "again") t) (is_numbered (codes "aborted") t || (is_numbered (codes "forgotten") t || is_numbered (codes "graph") t))
    (left-of (is_numbered (codes "aborted") t) (is_numbered (codes "forgotten") t || is_numbered (codes "graph") t) e)))))

forgotten-is : (t : List ℕ) → is_numbered (codes "forgotten") t ≡ true → is_message t ≡ true
forgotten-is t e = is-reply t
    (right-of (is_numbered (codes "prepared") t)
    (is_numbered (codes "committed") t || (is_numbered (codes "jfault") t || (is_numbered (codes "again") t || (is_numbered (codes "aborted") t || (is_numbered (codes "forgotten") t || is_numbered (codes "graph") t)))))
    (right-of (is_numbered (codes "committed") t)
    (is_numbered (codes "jfault") t || (is_numbered (codes "again") t || (is_numbered (codes "aborted") t || (is_numbered (codes "forgotten") t || is_numbered (codes "graph") t))))
    (right-of (is_numbered (codes "jfault") t) (is_numbered (codes "again") t || (is_numbered (codes "aborted") t || (is_numbered (codes "forgotten") t || is_numbered (codes "graph") t)))
    (right-of (is_numbered (codes "again") t) (is_numbered (codes "aborted") t || (is_numbered (codes "forgotten") t || is_numbered (codes "graph") t))
    (right-of (is_numbered (codes "aborted") t) (is_numbered (codes "forgotten") t || is_numbered (codes "graph") t)
    (left-of (is_numbered (codes "forgotten") t) (is_numbered (codes "graph") t) e))))))

graph-is : (t : List ℕ) → is_numbered (codes "graph") t ≡ true → is_message t ≡ true
graph-is t e = is-reply t
    (right-of (is_numbered (codes "prepared") t)
    (is_numbered (codes "committed") t || (is_numbered (codes "jfault") t || (is_numbered (codes "again") t || (is_numbered (codes "aborted") t || (is_numbered (codes "forgotten") t || is_numbered (codes "graph") t)))))
    (right-of (is_numbered (codes "committed") t)
    (is_numbered (codes "jfault") t || (is_numbered (codes "again") t || (is_numbered (codes "aborted") t || (is_numbered (codes "forgotten") t || is_numbered (codes "graph") t))))
    (right-of (is_numbered (codes "jfault") t) (is_numbered (codes "again") t || (is_numbered (codes "aborted") t || (is_numbered (codes "forgotten") t || is_numbered (codes "graph") t)))
    (right-of (is_numbered (codes "again") t) (is_numbered (codes "aborted") t || (is_numbered (codes "forgotten") t || is_numbered (codes "graph") t))
    (right-of (is_numbered (codes "aborted") t) (is_numbered (codes "forgotten") t || is_numbered (codes "graph") t)
    (right-of (is_numbered (codes "forgotten") t) (is_numbered (codes "graph") t) e))))))

restarted-is : (t : List ℕ) → is_numbered (codes "restarted") t ≡ true → is_message t ≡ true
restarted-is t e = is-of-restart t (left-of (is_numbered (codes "restarted") t) (is_up t) e)

up-there : is_message (codes "up") ≡ true
up-there = is-of-restart (codes "up") (right-of (is_numbered (codes "restarted") (codes "up")) (is_up (codes "up")) (there-all (words (codes "up")) tt tt))

reply-there : (g : Gxid) (r : Reply) → IsGxid g × IsReply r → is_message (text_of_message (message.Answer g r)) ≡ true
reply-there g (reply.Done c wrote count part) is =
    done-is (text_of_message (message.Answer g (reply.Done c wrote count part))) (commanded-there (codes "done") g c (text_of_message (message.Answer g (reply.Done c wrote count part))) is (simp append_assoc))
reply-there g (reply.Failed c cause) is =
    failed-is (text_of_message (message.Answer g (reply.Failed c cause))) (commanded-there (codes "failed") g c (text_of_message (message.Answer g (reply.Failed c cause))) is (simp append_assoc))
reply-there g reply.Prepared is = prepared-is (codes "prepared" ++ number_text g.0) (numbered-there (codes "prepared") g.0 is.0)
reply-there g reply.Committed is = committed-is (codes "committed" ++ number_text g.0) (numbered-there (codes "committed") g.0 is.0)
reply-there g reply.Jfault is = jfault-is (codes "jfault" ++ number_text g.0) (numbered-there (codes "jfault") g.0 is.0)
reply-there g reply.Again is = again-is (codes "again" ++ number_text g.0) (numbered-there (codes "again") g.0 is.0)
reply-there g reply.Aborted is = aborted-is (codes "aborted" ++ number_text g.0) (numbered-there (codes "aborted") g.0 is.0)
reply-there g reply.Forgotten is = forgotten-is (codes "forgotten" ++ number_text g.0) (numbered-there (codes "forgotten") g.0 is.0)
reply-there g reply.Restarted is = restarted-is (codes "restarted" ++ number_text g.0) (numbered-there (codes "restarted") g.0 is.0)

message-there : (m : Message) → IsMessage m → is_message (text_of_message m) ≡ true
message-there (message.Exec g c level snapshot horizon part) is =
    exec-is (text_of_message (message.Exec g c level snapshot horizon part)) (commanded-there (codes "exec") g c (text_of_message (message.Exec g c level snapshot horizon part)) is (simp append_assoc))
message-there (message.Prepare g) is = prepare-is (codes "prepare" ++ number_text g.0) (numbered-there (codes "prepare") g.0 is)
message-there (message.Commit g) is = commit-is (codes "commit" ++ number_text g.0) (numbered-there (codes "commit") g.0 is)
message-there (message.CommitPrepared g) is = commit-prepared-is (codes "commit prepared" ++ number_text g.0) (numbered-there (codes "commit prepared") g.0 is)
message-there (message.Abort g) is = abort-is (codes "abort" ++ number_text g.0) (numbered-there (codes "abort") g.0 is)
message-there (message.Forget g) is = forget-is (codes "forget" ++ number_text g.0) (numbered-there (codes "forget") g.0 is)
message-there (message.Collect round) is = collect-is (codes "collect" ++ number_text round) (numbered-there (codes "collect") round is)
message-there (message.Answer g r) is = reply-there g r is
message-there (message.Graph round graph) is = graph-is (codes "graph" ++ number_text round) (numbered-there (codes "graph") round is)
message-there message.Up is = up-there

words-by : (bytes text rest : List ℕ) (c : Bool) → is_message bytes ≡ c → ◌≡◌ {A = Front (List ℕ)} (if c then Some (bytes, []) else None) (Some (text, rest)) → IsMessageText text × (bytes ≡ text ++ rest)
words-by bytes text rest false is e = absurd (none-some _ e)
words-by bytes text rest true is e =
    let (p, q) = some_pair_parts bytes text [] rest e in
    (subst IsMessageText p (message-sound bytes is), sym (append-nil bytes) ∙ (λ i. p i ++ q i))

all-words : IsReaderOf (λ text. text) IsMessageText IsEnd message_words
all-words = record {
  again = λ text rest is end.
      let whole : text ++ rest ≡ text = ap (λ y. text ++ y) end ∙ append-nil text in
      ap message_words whole ∙ if-true (is_message text) (Some (text, [])) None (ap is_message is.2 ∙ message-there is.0 is.1) ∙ ap (λ y. Some (text, y)) (sym end);
  sound = λ bytes rest text e. words-by bytes text rest (is_message bytes) refl e;
}

pub messages : IsReaderOf word_text IsMessageText IsEnd read_message
messages = behind-word (codes " ") all-words
