-- What an answer asks for.
use Rattle.std.proofs.Common.{◌≡◌, ◌∙◌, List, [], ◌∷◌, refl, sym, ap, Bool, true, false, cond, arith}
use Rattle.std.proofs.lemmas.Bool.Decides.{nat_tests}
use Rattle.gx_ids.specs.declared.ids.Gxid.{Gxid}
use Rattle.gx_ids.specs.declared.ids.Node.{Node}
use Rattle.gx_msg.specs.declared.reply.Reply.{Reply}
use Rattle.gx_msg.specs.declared.reply.Reply.TheVariants as reply
use Rattle.gx_dtx.specs.declared.change.Change.{Change}
use Rattle.gx_dtx.specs.declared.due.Due.{Due}
use Rattle.gx_dtx.specs.declared.due.Due.TheVariants as due
use Rattle.gx_dtx.specs.declared.outcome.Outcome.TheVariants as outcome
use Rattle.gx_dtx.specs.declared.phase.Phase.{Phase}
use Rattle.gx_dtx.specs.declared.phase.Phase.TheVariants.{Preparing, CommittingTwo, Ended, Aborting}
use Rattle.gx_dtx.specs.Due.{answered, change_due, is_decision, is_only, once_all, struck}
use Rattle.gx_dtx.specs.Nodes.{has, without}
use Rattle.gx_dtx.specs.Rules.{is_last, decides_in, stays, goes_to, prepares, finishes, forgets, gives_up}

only-last : (i : Node) (ns : List Node) → is_only i ns ≡ is_last (without i ns)
only-last i [] = refl
only-last i (j ∷ ns) = grind (arith, nat_tests, only-last i ns)

module _ (g : Gxid) (ps : List Node) (i : Node) (refused : Bool) (p : Phase) (last : Due) (k : List Node → Change) (wait : List Node → Phase) where
  step : (b only : Bool) (rest : List Node) → only ≡ is_last rest → struck i p ≡ wait rest → k [] ≡ change_due last g ps i refused p → ((j : Node) (js : List Node) → k (j ∷ js) ≡ goes_to (wait (j ∷ js)) [] outcome.Pending)
      → cond b (k rest) stays ≡ change_due (cond b (cond only last due.Wait) due.Nothing) g ps i refused p
  step false only rest is same none some = refl
  step true only [] is same none some = none ∙ ap (λ b. change_due (cond b last due.Wait) g ps i refused p) (sym is)
  step true only (j ∷ js) is same none some = some j js ∙ ap (λ q. goes_to q [] outcome.Pending) (sym same) ∙ ap (λ b. change_due (cond b last due.Wait) g ps i refused p) (sym is)

module _ (g : Gxid) (ps : List Node) (i : Node) (refused : Bool) (awaited : List Node) where
  prepared : (writers : List Node) → answered g ps i refused (Preparing writers awaited) reply.Prepared ≡ change_due (once_all i awaited due.Decision) g ps i refused (Preparing writers awaited)
  prepared writers = step g ps i refused (Preparing writers awaited) due.Decision (λ rest. prepares g writers ps rest refused) (λ rest. Preparing writers rest) (has i awaited) (is_only i awaited) (without i awaited) (only-last i awaited) refl refl (λ j js. refl)

  committed : answered g ps i refused (CommittingTwo awaited) reply.Committed ≡ change_due (once_all i awaited due.Commit) g ps i refused (CommittingTwo awaited)
  committed = step g ps i refused (CommittingTwo awaited) due.Commit (λ rest. finishes g ps rest) (λ rest. CommittingTwo rest) (has i awaited) (is_only i awaited) (without i awaited) (only-last i awaited) refl refl (λ j js. refl)

  forgotten : answered g ps i refused (Ended awaited) reply.Forgotten ≡ change_due (once_all i awaited due.Forgotten) g ps i refused (Ended awaited)
  forgotten = step g ps i refused (Ended awaited) due.Forgotten (λ rest. forgets rest) (λ rest. Ended rest) (has i awaited) (is_only i awaited) (without i awaited) (only-last i awaited) refl refl (λ j js. refl)

  aborted : answered g ps i refused (Aborting awaited) reply.Aborted ≡ change_due (once_all i awaited due.Aborted) g ps i refused (Aborting awaited)
  aborted = step g ps i refused (Aborting awaited) due.Aborted (λ rest. gives_up rest) (λ rest. Aborting rest) (has i awaited) (is_only i awaited) (without i awaited) (only-last i awaited) refl refl (λ j js. refl)

  at : (p q : Phase) (a b : Reply) (r s : Due) → p ≡ q → a ≡ b → r ≡ s → answered g ps i refused q b ≡ change_due s g ps i refused q → answered g ps i refused p a ≡ change_due r g ps i refused p
  at p q a b r s same is asks e =
      ap (λ x. answered g ps i refused x a) same ∙ ap (λ x. answered g ps i refused q x) is ∙ e ∙ ap (λ x. change_due x g ps i refused q) (sym asks) ∙ ap (λ x. change_due r g ps i refused x) (sym same)

  module _ (p : Phase) (a : Reply) (r : Due) where
    pub due-prepared : (writers : List Node) → p ≡ Preparing writers awaited → a ≡ reply.Prepared → r ≡ once_all i awaited due.Decision → answered g ps i refused p a ≡ change_due r g ps i refused p
    due-prepared writers same is asks = at p (Preparing writers awaited) a reply.Prepared r _ same is asks (prepared writers)

    pub due-committed : p ≡ CommittingTwo awaited → a ≡ reply.Committed → r ≡ once_all i awaited due.Commit → answered g ps i refused p a ≡ change_due r g ps i refused p
    due-committed same is asks = at p (CommittingTwo awaited) a reply.Committed r _ same is asks committed

    pub due-forgotten : p ≡ Ended awaited → a ≡ reply.Forgotten → r ≡ once_all i awaited due.Forgotten → answered g ps i refused p a ≡ change_due r g ps i refused p
    due-forgotten same is asks = at p (Ended awaited) a reply.Forgotten r _ same is asks forgotten

    pub due-aborted : p ≡ Aborting awaited → a ≡ reply.Aborted → r ≡ once_all i awaited due.Aborted → answered g ps i refused p a ≡ change_due r g ps i refused p
    due-aborted same is asks = at p (Aborting awaited) a reply.Aborted r _ same is asks aborted

decision_at : (b only : Bool) (rest : List Node) → only ≡ is_last rest → cond b (is_last rest) false ≡ is_decision (cond b (cond only due.Decision due.Wait) due.Nothing)
decision_at false only rest is = refl
decision_at true true rest is = sym is
decision_at true false rest is = sym is

pub is_decision-prepared : (i : Node) (writers awaited : List Node) (p : Phase) (a : Reply) (r : Due) → p ≡ Preparing writers awaited → a ≡ reply.Prepared → r ≡ once_all i awaited due.Decision → decides_in p i a ≡ is_decision r
is_decision-prepared i writers awaited p a r same is asks =
    ap (λ x. decides_in x i a) same ∙ ap (decides_in (Preparing writers awaited) i) is ∙ decision_at (has i awaited) (is_only i awaited) (without i awaited) (only-last i awaited) ∙ ap is_decision (sym asks)
