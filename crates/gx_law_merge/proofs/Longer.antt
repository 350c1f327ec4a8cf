-- Where links have more, a history follows its rule as before, and comes to the same.
use Rattle.std.proofs.Common.{◌≡◌, ℕ, List, [], ◌∷◌, ◌++◌, Option, Some, None, refl, sym, subst, ap, ◌∙◌}
use Rattle.gx_ids.specs.declared.ids.Node.{Node}
use Rattle.gx_msg.specs.declared.message.Envelope.{Envelope}
use Rattle.gx_store.specs.declared.event.Event.{Event}
use Rattle.gx_store.specs.declared.event.Event.TheVariants as event
use Rattle.gx_store.specs.declared.node.NodeEvent.{NodeEvent}
use Rattle.gx_store.specs.declared.run.Step.{Step}
use Rattle.gx_rules.specs.Machine.{delivered}
use Rattle.gx_law_runs.specs.Replays.{has_failed}
use Rattle.gx_law_merge.specs.Apart.{DoesFollow, HasMore, IsSameBy, IsTurn, Post, Rule, event_in, here_in, holds_after, holds_by, takes_by, takes_in}

module _ (post more : Post) (has : HasMore post more) where
  same-receipt : (from to : Node) (place : ℕ) (o : Option Envelope) (x : NodeEvent) → post from to place ≡ o → delivered from o ≡ Some x → delivered from (more from to place) ≡ delivered from (post from to place)
  same-receipt from to place None x is at = absurd (cc)
  same-receipt from to place (Some e) x is at = ap (delivered from) (has from to place e is ∙ sym is)

  same-event : (e : Event) (x : NodeEvent) → event_in post e ≡ Some x → event_in more e ≡ event_in post e
  same-event (event.Receive from to place) x is = same-receipt from to place (post from to place) x refl is
  same-event (event.Resume n g) x is = refl
  same-event (event.Start s) x is = refl
  same-event (event.End s) x is = refl
  same-event (event.Resend i g) x is = refl
  same-event event.Round x is = refl
  same-event (event.Restart n) x is = refl

  module _ {Data : Type 0} (rule : Rule Data) (at : Node) where
    same-here : (held : Data) (s : Step) → IsTurn rule at held (here_in post s) s → here_in more s ≡ here_in post s
    same-here held s t = same-event s.event t.here t.is

    follows-more : (held : Data) (ss : List Step) → DoesFollow rule at post held ss → DoesFollow rule at more held ss
    follows-more held [] f = tt
    follows-more held (s ∷ ss) f =
        let same = sym (same-here held s f.0) in
        (subst (λ o. IsTurn rule at held o s) same f.0, subst (λ o. DoesFollow rule at more (holds_by rule held o (has_failed s.marks)) ss) same (follows-more (holds_by rule held (here_in post s) (has_failed s.marks)) ss f.1))

    holds-more : (held : Data) (ss : List Step) → DoesFollow rule at post held ss → holds_after rule more held ss ≡ holds_after rule post held ss
    holds-more held [] f = refl
    holds-more held (s ∷ ss) f = ap (λ o. holds_after rule more (holds_by rule held o (has_failed s.marks)) ss) (same-here held s f.0) ∙ holds-more (holds_by rule held (here_in post s) (has_failed s.marks)) ss f.1

    takes-more : (held : Data) (ss : List Step) → DoesFollow rule at post held ss → takes_in rule more held ss ≡ takes_in rule post held ss
    takes-more held [] f = refl
    takes-more held (s ∷ ss) f =
        ap (λ o. takes_by rule held o (has_failed s.marks) ++ takes_in rule more (holds_by rule held o (has_failed s.marks)) ss) (same-here held s f.0)
        ∙ ap (λ its. takes_by rule held (here_in post s) (has_failed s.marks) ++ its) (takes-more (holds_by rule held (here_in post s) (has_failed s.marks)) ss f.1)

    pub same-by : (held : Data) (ss : List Step) → DoesFollow rule at post held ss → IsSameBy rule at post more held ss
    same-by held ss f = record { follows = follows-more held ss f; holds = holds-more held ss f; takes = takes-more held ss f }
