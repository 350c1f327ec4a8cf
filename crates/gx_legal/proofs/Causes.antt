-- Causes of refusals, part by part.
use Rattle.std.proofs.Common.{◌≡◌, ◌↔◌, ℕ, zero, suc, Bool, IsTrue, Option, List, [], ◌∷◌, Some, slice_get, refl, subst, ap, ◌∙◌, arith}
use Rattle.std.specs.Prelude.{Contains}
use Rattle.gx_ids.specs.declared.ids.Cid.{Cid}
use Rattle.gx_ids.specs.declared.ids.Gxid.{Gxid}
use Rattle.gx_ids.specs.declared.ids.Node.{Node}
use Rattle.gx_ids.specs.declared.rid.Rid.{Rid}
use Rattle.gx_lemmas.proofs.Options.{some-same}
use Rattle.gx_msg.specs.declared.message.Message.{Message}
use Rattle.gx_msg.specs.declared.message.Message.TheVariants as message
use Rattle.gx_msg.specs.declared.reply.Cause.{Cause}
use Rattle.gx_msg.specs.declared.reply.Reply.TheVariants as reply
use Rattle.gx_store.specs.declared.event.Event.{Event}
use Rattle.gx_store.specs.declared.event.Event.TheVariants as event
use Rattle.gx_store.specs.declared.mark.Mark.{Mark}
use Rattle.gx_store.specs.declared.mark.Mark.TheVariants.{Fault, Recheck}
use Rattle.gx_store.specs.declared.run.Step.{Step}
use Rattle.gx_store.specs.Messages.{Receives}
use Rattle.gx_store.specs.Points.{Point}
use Rattle.gx_store.specs.Refusals.{HearsCause, IsNamed, IsWord}
use Rattle.gx_tree.specs.declared.value.Value.{Value}
use Rattle.gx_waits.specs.declared.verdict.Verdict.TheVariants.{Victims}
use Rattle.gx_legal.specs.Causes.{HadNoted, NamesAt, StandsAt}
use Rattle.gx_legal.specs.Words.{Delivers}
use Rattle.gx_legal.specs.declared.word.Word.TheVariants as word

-- MARKS AT PLACES
stands-contains : {A : Type 0} (xs : List A) (x : A) (k : ℕ) → slice_get xs k ≡ Some x → Contains xs x
stands-contains [] x k e = absurd (cc)
stands-contains (y ∷ ys) x zero e = (0, omega arith, some-same y x e)
stands-contains (y ∷ ys) x (suc k) e = let r = stands-contains ys x k e in (suc r.0, omega (arith, r.1), r.2)

contains-stands : {A : Type 0} (xs : List A) (x : A) → Contains xs x → (place : ℕ) × (slice_get xs place ≡ Some x)
contains-stands [] x h = absurd (omega (arith, h.1))
contains-stands (y ∷ ys) x (zero, inside, is) = (0, ap Some is)
contains-stands (y ∷ ys) x (suc k, inside, is) = let r = contains-stands ys x (k, omega (arith, inside), is) in (suc r.0, r.1)

pub stands-is : (marks : List Mark) (x : Mark) (b : Bool) → IsTrue b ↔ ((place : ℕ) × StandsAt x marks place) → IsTrue b ↔ Contains marks x
stands-is marks x b h =
    (λ t. let s = h.0 t in stands-contains marks x s.0 (s.1.1 ∙ ap Some s.1.2), λ c. let s = contains-stands marks x c in h.1 (s.0, (x, s.1, refl)))

-- VICTIMS
pub named-is : (marks : List Mark) (round : ℕ) (g : Gxid) (b : Bool) → IsTrue b ↔ ((place : ℕ) × NamesAt round g marks place) → IsTrue b ↔ IsNamed marks round g
named-is marks round g b h = (λ t. to (h.0 t), λ n. h.1 (n.place, (Recheck round n.own (Victims n.victims), n.verdict, (n.own, Victims n.victims, refl, (n.victims, refl, n.named)))))
  where
    to : (place : ℕ) × NamesAt round g marks place → IsNamed marks round g
    to (place, (mark, at, (own, verdict, e, (victims, v, among)))) = record {
      place = place;
      own = own;
      victims = victims;
      verdict = at ∙ ap Some (e ∙ ap (λ x. Recheck round own x) v);
      named = among;
    }

-- WORDS
module _ (g : Gxid) (from to : Node) (steps : List Step) (event : Event) (b : Bool) where
  pub fault-told : IsTrue b ↔ Delivers g word.Jfault from to steps event → IsTrue b ↔ Receives steps event from to (message.Answer g reply.Jfault)
  fault-told h = (λ t. of (h.0 t), λ r. h.1 (message.Answer g reply.Jfault, (reply.Jfault, refl, refl), r))
    where
      of : Delivers g word.Jfault from to steps event → Receives steps event from to (message.Answer g reply.Jfault)
      of (told, (answer, e, i), r) = subst (λ (t : Message). Receives steps event from to t) (e ∙ ap (λ a. message.Answer g a) i) r

  pub failed-told : (c : Cid) (why : Cause) → IsTrue b ↔ Delivers g (word.FailedFor c why) from to steps event → IsTrue b ↔ Receives steps event from to (message.Answer g (reply.Failed c why))
  failed-told c why h = (λ t. of (h.0 t), λ r. h.1 (message.Answer g (reply.Failed c why), (reply.Failed c why, refl, refl), r))
    where
      of : Delivers g (word.FailedFor c why) from to steps event → Receives steps event from to (message.Answer g (reply.Failed c why))
      of (told, (answer, e, i), r) = subst (λ (t : Message). Receives steps event from to t) (e ∙ ap (λ a. message.Answer g a) i) r

-- A SEGMENT'S WORD
pub sender-same : (a b x y : Node) (m n : ℕ) → event.Receive a b m ≡ event.Receive x y n → a ≡ x
sender-same a b x y m n e = cc

pub word-noted : (point : Point) (g : Gxid) (c : Cid) (rid : Rid) (image : Option (List Value)) (reason : Cause) (from : Node) → HearsCause point from g c reason → HadNoted g c rid image from point.steps → IsWord point g c rid image reason
word-noted point g c rid image reason from said (then, first, (place, inside, (step, at, (node, (p, (found, there, is)))))) = record {
  segment = from;
  received = (reason, said);
  content = said;
  then = then;
  first = first;
  place = place;
  step = step;
  at = at;
  by_then = inside;
  node = node;
  noted = stands-contains step.marks (Fault g c rid image) p (there ∙ ap Some is);
}

pub noted-by : (point : Point) (g : Gxid) (c : Cid) (rid : Rid) (image : Option (List Value)) (reason : Cause) (from : Node) (w : IsWord point g c rid image reason) → w.segment ≡ from → HadNoted g c rid image from point.steps
noted-by point g c rid image reason from w same =
    let s = contains-stands w.step.marks (Fault g c rid image) w.noted in
    subst (λ (n : Node). HadNoted g c rid image n point.steps) same (w.then, w.first, (w.place, w.by_then, (w.step, w.at, (w.node, (s.0, (Fault g c rid image, s.1, refl))))))
