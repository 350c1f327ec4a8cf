-- What marks have sent, mark by mark.
use Rattle.std.proofs.Common.{◌≡◌, ◌<◌, ℕ, suc, ◌+◌, List, [], ◌∷◌, ◌++◌, Bool, true, false, if◌then◌else◌, refl, sym, ap, ◌∙◌, arith, get_or, length, take}
use Rattle.std.proofs.Math.Seq.{take-suc}
use Rattle.std.proofs.lemmas.List.{append_assoc}
use Rattle.gx_ids.specs.declared.ids.Node.{Node}
use Rattle.gx_msg.specs.declared.message.Envelope.{Envelope}
use Rattle.gx_store.specs.declared.mark.Mark.{Mark}
use Rattle.gx_store.specs.declared.mark.Mark.TheVariants.{Sent}
use Rattle.gx_store.specs.Journals.{is_same_node}
use Rattle.gx_law_merge.specs.Apart.{envelope_of, sent_in_step}

sent-append : (to : Node) (clock : ℕ) (xs ys : List Mark) → sent_in_step to clock (xs ++ ys) ≡ sent_in_step to clock xs ++ sent_in_step to clock ys
sent-append to clock [] ys = refl
sent-append to clock (Sent t number message ∷ xs) ys = by (is_same_node t to) (envelope_of clock number message) _ _ _ (sent-append to clock xs ys)
  where
    by : (b : Bool) (e : Envelope) (all xs ys : List Envelope) → all ≡ xs ++ ys → (if b then e ∷ all else all) ≡ (if b then e ∷ xs else xs) ++ ys
    by true e all xs ys h = ap (λ l. e ∷ l) h
    by false e all xs ys h = h
sent-append to clock (m ∷ xs) ys = sent-append to clock xs ys

-- one mark more
pub sent-next : (to : Node) (clock : ℕ) (before : List Envelope) (now now' : List Envelope) (ms : List Mark) (k : ℕ) (m : Mark) → k < length ms → m ≡ get_or ms k m
    → now ≡ before ++ sent_in_step to clock (take k ms) → now' ≡ now ++ sent_in_step to clock (m ∷ []) → now' ≡ before ++ sent_in_step to clock (take (k + 1) ms)
sent-next to clock before now now' ms k m inside is so new =
    new ∙ ap (λ es. es ++ sent_in_step to clock (m ∷ [])) so ∙ append_assoc before (sent_in_step to clock (take k ms)) (sent_in_step to clock (m ∷ []))
    ∙ ap (λ es. before ++ es)
    (sym (ap (λ n. sent_in_step to clock (take n ms)) (add-one k) ∙ ap (sent_in_step to clock) (take-suc ms k m inside) ∙ sent-append to clock (take k ms) (get_or ms k m ∷ [])
    ∙ ap (λ x. sent_in_step to clock (take k ms) ++ sent_in_step to clock (x ∷ [])) (sym is)))
  where
    add-one : (n : ℕ) → n + 1 ≡ suc n
    add-one n = omega arith
