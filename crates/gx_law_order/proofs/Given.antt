-- Marks that are legal if the rest is, step by step.
use Rattle.std.proofs.Common.{ℕ, List, [], ◌∷◌, ◌++◌, sym, subst, append_assoc, append-nil}
use Rattle.gx_script.specs.declared.Script.{Script}
use Rattle.gx_msg.specs.declared.message.Out.{Out}
use Rattle.gx_store.specs.declared.event.Event.{Event}
use Rattle.gx_store.specs.declared.mark.Mark.{Mark}
use Rattle.gx_store.specs.declared.run.Step.{Step}
use Rattle.gx_store.specs.Legal.{AreLegalMarks, LegalMark}
use Rattle.gx_store.specs.Points.{Point}
use Rattle.gx_rules.specs.Sending.{counted, numbered}
use Rattle.gx_law_order.specs.Rest.{EachMark, Rest}

abbrev pub Given : Script → Point → Mark → Type 0
Given script point m = Rest script point m → LegalMark script point m

pub marks-append : (P : Point → Mark → Type 0) (steps : List Step) (event : Event) (earlier xs ys later : List Mark) → EachMark P steps event earlier xs (ys ++ later) → EachMark P steps event (earlier ++ xs) ys later → EachMark P steps event earlier (xs ++ ys) later
marks-append P steps event earlier [] ys later h k = subst (λ b. EachMark P steps event b ys later) (append-nil earlier) k
marks-append P steps event earlier (x ∷ xs) ys later h k = (
  subst (λ b. P (record { steps = steps; event = event; earlier = earlier; later = b }) x) (sym (append_assoc xs ys later)) h.0,
  marks-append P steps event (earlier ++ x ∷ []) xs ys later h.1 (subst (λ b. EachMark P steps event b ys later) (sym (append_assoc earlier (x ∷ []) xs)) k),
)

pub sent-given : (script : Script) (steps : List Step) (event : Event) (f : ℕ → ℕ) (outs : List Out) (earlier later : List Mark) → EachMark (Given script) steps event earlier (numbered f outs) later
sent-given script steps event f [] earlier later = tt
sent-given script steps event f (o ∷ outs) earlier later = (λ r. tt, sent-given script steps event (counted f o) outs _ later)

pub sent-rest : (script : Script) (steps : List Step) (event : Event) (f : ℕ → ℕ) (outs : List Out) (earlier later : List Mark) → EachMark (Rest script) steps event earlier (numbered f outs) later
sent-rest script steps event f [] earlier later = tt
sent-rest script steps event f (o ∷ outs) earlier later = (tt, sent-rest script steps event (counted f o) outs _ later)

pub given-legal : (script : Script) (steps : List Step) (event : Event) (earlier ms later : List Mark) → EachMark (Given script) steps event earlier ms later → EachMark (Rest script) steps event earlier ms later → AreLegalMarks script steps event earlier ms later
given-legal script steps event earlier [] later g r = tt
given-legal script steps event earlier (m ∷ ms) later g r = (g.0 r.0, given-legal script steps event (earlier ++ m ∷ []) ms later g.1 r.1)
