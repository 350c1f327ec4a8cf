-- Marks that ask for no lock and write no row; and the walk over all steps, whatever comes behind a mark in its step.
use Rattle.std.proofs.Common.{ℕ, List, [], ◌∷◌, ◌++◌, subst, append-nil}
use Rattle.gx_msg.specs.declared.message.Out.{Out}
use Rattle.gx_script.specs.declared.Script.{Script}
use Rattle.gx_store.specs.Asking.{AreAsked, AreAskedMarks, IsAsked}
use Rattle.gx_store.specs.declared.event.Event.{Event}
use Rattle.gx_store.specs.declared.mark.Mark.{Mark}
use Rattle.gx_store.specs.declared.mark.Mark.TheVariants as mark
use Rattle.gx_store.specs.declared.run.Step.{Step}
use Rattle.gx_store.specs.Points.{Point}
use Rattle.gx_rules.specs.Sending.{counted, numbered}
use Rattle.gx_law_order.specs.Lists.{Each}
use Rattle.gx_law_order.specs.Rest.{EachMark}
use Rattle.gx_law_writes.proofs.Always.{AreAlways, IsOfVictim}

abbrev pub NoAsk : Mark → Type 0
NoAsk (mark.Hold n g object mode) = ⊥
NoAsk (mark.Wait n g object mode) = ⊥
NoAsk (mark.Write g c n table rid image) = ⊥
NoAsk _ = Unit {0}

not-asking : (script : Script) (point : Point) (m : Mark) → NoAsk m → IsAsked script point m
not-asking script point (mark.Hold n g object mode) e = absurd e
not-asking script point (mark.Wait n g object mode) e = absurd e
not-asking script point (mark.Write g c n table rid image) e = absurd e
not-asking script point m e = tt

pub none-asked : (script : Script) (steps : List Step) (e : Event) (earlier ms later : List Mark) → Each NoAsk ms → EachMark (IsAsked script) steps e earlier ms later
none-asked script steps e earlier [] later n = tt
none-asked script steps e earlier (m ∷ ms) later n =
    (not-asking script (record { steps = steps; event = e; earlier = earlier; later = ms ++ later }) m n.0, none-asked script steps e (earlier ++ m ∷ []) ms later n.1)

pub sent-no-ask : (f : ℕ → ℕ) (outs : List Out) → Each NoAsk (numbered f outs)
sent-no-ask f [] = tt
sent-no-ask f (o ∷ outs) = (tt, sent-no-ask (counted f o) outs)

-- a victim asks for nothing more
pub victim-asked : (script : Script) (point : Point) (m : Mark) → IsOfVictim m → IsAsked script point m
victim-asked script point (mark.Hold n g object mode) e = absurd e
victim-asked script point (mark.Wait n g object mode) e = absurd e
victim-asked script point (mark.Write g c n table rid image) e = absurd e
victim-asked script point m e = tt

-- ALL STEPS
asked-marks : (script : Script) (steps : List Step) (e : Event) (earlier ms : List Mark) → EachMark (IsAsked script) steps e earlier ms [] → AreAskedMarks script steps e earlier ms
asked-marks script steps e earlier [] h = tt
asked-marks script steps e earlier (m ∷ ms) h =
    (subst (λ later. IsAsked script (record { steps = steps; event = e; earlier = earlier; later = later }) m) (append-nil ms) h.0, asked-marks script steps e (earlier ++ m ∷ []) ms h.1)

pub asked-steps : (script : Script) (before ss : List Step) → AreAlways (IsAsked script) before ss → AreAsked script before ss
asked-steps script before [] h = tt
asked-steps script before (s ∷ ss) h = (asked-marks script before s.event [] s.marks (h.0 []), asked-steps script (before ++ s ∷ []) ss h.1)
