-- Every message that the machine has sent is in its steps.
use Rattle.std.proofs.Common.{◌≡◌, ℕ, List, [], ◌∷◌, ◌++◌, Some, Bool, true, false, refl, sym, subst, ap, ◌∙◌, if◌then◌else◌, length}
use Rattle.std.proofs.lemmas.Bool.{and_parts, eqb-true}
use Rattle.std.proofs.lemmas.List.{append_assoc}
use Rattle.std.specs.Prelude.{slice_get}
use Rattle.gx_lemmas.proofs.Lists.{get-append}
use Rattle.gx_ids.specs.declared.ids.Node.{Node}
use Rattle.gx_msg.specs.declared.message.Envelope.{Envelope}
use Rattle.gx_script.specs.declared.Script.{Script}
use Rattle.gx_store.specs.declared.mark.Mark.{Mark}
use Rattle.gx_store.specs.declared.mark.Mark.TheVariants.{Sent}
use Rattle.gx_store.specs.declared.run.Step.{Step}
use Rattle.gx_store.specs.Journals.{is_same_node}
use Rattle.gx_store.specs.Messages.{IsSending}
use Rattle.gx_store.specs.Ordered.{IsAtNode, IsLink}
use Rattle.gx_rules.specs.Machine.{Letter, found, is_at, posted}
use Rattle.gx_law_order.proofs.Lists.{get_last}
use Rattle.gx_law_order.specs.Lists.{Each}

pub record IsLetter (script : Script) (steps : List Step) (l : Letter) : Type 0 where
  pub link : IsLink script l.from l.to
  pub step : ℕ
  pub mark : ℕ
  pub sending : IsSending steps step mark l.from l.to l.envelope.number l.envelope.message
  pub clock : sending.sender.stamp.clock ≡ l.envelope.clock
  pub incarnation : l.envelope.incarnation ≡ 1

pub same_node : (a b : Node) → is_same_node a b ≡ true → a ≡ b
same_node a b e = ap (λ (k : ℕ). let n : Node = record { 0 = k } in n) (eqb-true a.0 b.0 e)

letter_kept : (script : Script) (steps : List Step) (s : Step) (l : Letter) → IsLetter script steps l → IsLetter script (steps ++ s ∷ []) l
letter_kept script steps s l e =
    record {
      link = e.link;
      step = e.step;
      mark = e.mark;
      sending = record { sender = e.sending.sender; at = get-append steps (s ∷ []) e.step e.sending.sender e.sending.at; node = e.sending.node; sent = e.sending.sent };
      clock = e.clock;
      incarnation = e.incarnation;
    }

pub letters_kept : (script : Script) (steps : List Step) (s : Step) (ls : List Letter) → Each (IsLetter script steps) ls → Each (IsLetter script (steps ++ s ∷ [])) ls
letters_kept script steps s [] e = tt
letters_kept script steps s (l ∷ ls) e = (letter_kept script steps s l e.0, letters_kept script steps s ls e.1)

-- what a step's marks send is in the step
pub posted_from : (script : Script) (steps : List Step) (s : Step) (done ms : List Mark) (sent : List Letter) → s.marks ≡ done ++ ms → Each (IsAtNode script s.stamp.node) ms → Each (IsLetter script (steps ++ s ∷ [])) sent → Each (IsLetter script (steps ++ s ∷ [])) (posted s.stamp.node s.stamp.clock ms sent)
posted_from script steps s done [] sent e h ls = ls
posted_from script steps s done (Sent to number told ∷ ms) sent e h ls =
    posted_from script steps s (done ++ Sent to number told ∷ []) ms _ (e ∙ sym (append_assoc done (Sent to number told ∷ []) ms)) h.1 (
      record {
        link = h.0;
        step = length steps;
        mark = length done;
        sending = record { sender = s; at = get_last steps [] s; node = refl; sent = subst (λ x. slice_get x (length done) ≡ Some (Sent to number told)) (sym e) (get_last done ms (Sent to number told)) };
        clock = refl;
        incarnation = refl;
      },
      ls,
    )
posted_from script steps s done (m ∷ ms) sent e h ls = posted_from script steps s (done ++ m ∷ []) ms sent (e ∙ sym (append_assoc done (m ∷ []) ms)) h.1 ls

pub posted_letters : (script : Script) (steps : List Step) (s : Step) (sent : List Letter) → Each (IsAtNode script s.stamp.node) s.marks → Each (IsLetter script steps) sent → Each (IsLetter script (steps ++ s ∷ [])) (posted s.stamp.node s.stamp.clock s.marks sent)
posted_letters script steps s sent h ls = posted_from script steps s [] s.marks sent refl h (letters_kept script steps s sent ls)

-- a message that is found was sent
pub record IsFound (P : Letter → Type 0) (from to : Node) (number : ℕ) (envelope : Envelope) : Type 0 where
  pub letter : Letter
  pub is : P letter
  pub source : letter.from ≡ from
  pub target : letter.to ≡ to
  pub counted : letter.envelope.number ≡ number
  pub told : letter.envelope ≡ envelope

pub found_is : (P : Letter → Type 0) (from to : Node) (number : ℕ) (ls : List Letter) (envelope : Envelope) → Each P ls → found from to number ls ≡ Some envelope → IsFound P from to number envelope
found_is P from to number [] envelope h e = absurd (cc)
found_is P from to number (l ∷ ls) envelope h e = at (is_at from to number l) refl e (found_is P from to number ls envelope h.1)
  where
    here : is_at from to number l ≡ true → Some l.envelope ≡ Some envelope → IsFound P from to number envelope
    here a b =
        let x = and_parts _ _ a in
        let y = and_parts _ _ x.1 in
        record { letter = l; is = h.0; source = same_node l.from from x.0; target = same_node l.to to y.0; counted = eqb-true l.envelope.number number y.1; told = (cc) }

    at : (b : Bool) → is_at from to number l ≡ b → (if b then Some l.envelope else found from to number ls) ≡ Some envelope → (found from to number ls ≡ Some envelope → IsFound P from to number envelope) → IsFound P from to number envelope
    at true a b later = here a b
    at false a b later = later b
