-- What is asked, one mark and one step later.
use Rattle.std.proofs.Common.{◌≡◌, Bool, true, false, cond, ◌&&◌, ◌||◌, refl, sym, ap, ◌∙◌, List, [], ◌∷◌, ◌++◌, append-nil, ℕ, ◌+◌, ◌<◌, length, get_or, subst, take}
use Rattle.std.proofs.lemmas.List.{append_assoc, take_more}
use Rattle.std.specs.List.{list_any}
use Rattle.std.specs.Prelude.{Option, Some, None, if◌then◌else◌, is_some}
use Rattle.gx_ids.specs.declared.ids.Gxid.{Gxid}
use Rattle.gx_ids.specs.declared.ids.Node.{Node}
use Rattle.gx_msg.specs.declared.message.Message.{Message}
use Rattle.gx_msg.specs.declared.message.Message.TheVariants as message
use Rattle.gx_msg.specs.declared.reply.Reply.{Reply}
use Rattle.gx_store.specs.declared.event.Event.{Event}
use Rattle.gx_store.specs.declared.event.Event.TheVariants as event
use Rattle.gx_store.specs.declared.mark.Mark.{Mark}
use Rattle.gx_store.specs.declared.mark.Mark.TheVariants as mark
use Rattle.gx_store.specs.declared.run.Step.{Step}
use Rattle.gx_store.specs.Journals.{is_same_node}
use Rattle.gx_store.specs.Marks.{is_same_gxid}
use Rattle.gx_store.specs.Refusals.{the_coordinator}
use Rattle.gx_store.specs.Schedule.{asked, asked_by, asked_from, is_about, is_answer_to, is_reply_to, sent_message, unless_answered}
use Rattle.gx_agenda.specs.Awaited.{told_in}
use Rattle.gx_agenda.specs.Following.{IsOrderOf}
use Rattle.gx_agenda.proofs.Changes.{at_same}

-- A MARK
asked_by-append : (i : Node) (g : Gxid) (a : Option Message) (ms ns : List Mark) → asked_by i g a (ms ++ ns) ≡ asked_by i g (asked_by i g a ms) ns
asked_by-append i g a [] ns = refl
asked_by-append i g a (mark.Sent to number told ∷ ms) ns = asked_by-append i g (if is_same_node to i && is_about g told then Some told else a) ms ns
asked_by-append i g a (m ∷ ms) ns = asked_by-append i g a ms ns

pub asked_by-next : (i : Node) (g : Gxid) (a : Option Message) (ms : List Mark) (k : ℕ) (m : Mark) → k < length ms → m ≡ get_or ms k m → asked_by i g a (take (k + 1) ms) ≡ asked_by i g (asked_by i g a (take k ms)) (m ∷ [])
asked_by-next i g a ms k m inside is =
    ap (asked_by i g a) (take_more ms k m inside ∙ ap (λ x. take k ms ++ x ∷ []) (sym is)) ∙ asked_by-append i g a (take k ms) (m ∷ [])

-- A STEP
abbrev pub next_asked : List Step → Node → Gxid → Option Message → Step → Option Message
next_asked steps i g a s = if is_same_node s.stamp.node the_coordinator then asked_by i g (unless_answered steps i g a s.event) s.marks else a

asked_from-push : (before : List Step) (i : Node) (g : Gxid) (a : Option Message) (ss : List Step) (s : Step) → asked_from before i g a (ss ++ s ∷ []) ≡ next_asked (before ++ ss) i g (asked_from before i g a ss) s
asked_from-push before i g a [] s = ap (λ x. next_asked x i g a s) (sym (append-nil before))
asked_from-push before i g a (x ∷ ss) s =
    asked_from-push (before ++ x ∷ []) i g (next_asked before i g a x) ss s
    ∙ ap (λ y. next_asked y i g (asked_from (before ++ x ∷ []) i g (next_asked before i g a x) ss) s) (append_assoc before (x ∷ []) ss)

asked-push : (steps : List Step) (s : Step) (i : Node) (g : Gxid) → asked (steps ++ s ∷ []) i g ≡ next_asked steps i g (asked steps i g) s
asked-push steps s i g = asked_from-push [] i g None steps s

-- a step of the coordinator, and one of another node
pub asked-own : (steps : List Step) (s : Step) (i : Node) (g : Gxid) → is_same_node s.stamp.node the_coordinator ≡ true → asked (steps ++ s ∷ []) i g ≡ asked_by i g (unless_answered steps i g (asked steps i g) s.event) s.marks
asked-own steps s i g own = asked-push steps s i g ∙ ap (λ (b : Bool). if b then asked_by i g (unless_answered steps i g (asked steps i g) s.event) s.marks else asked steps i g) own

pub asked-other : (steps : List Step) (s : Step) (i : Node) (g : Gxid) → is_same_node s.stamp.node the_coordinator ≡ false → asked (steps ++ s ∷ []) i g ≡ asked steps i g
asked-other steps s i g other = asked-push steps s i g ∙ ap (λ (b : Bool). if b then asked_by i g (unless_answered steps i g (asked steps i g) s.event) s.marks else asked steps i g) other

-- WHAT IS ASKED IS AN ORDER
order_if : (g : Gxid) (told : Message) (a : Option Message) (there about : Bool) → is_about g told ≡ about → IsOrderOf g a → IsOrderOf g (cond (there && about) (Some told) a)
order_if g told a true true e old = e
order_if g told a true false e old = old
order_if g told a false about e old = old

asked_by-order : (i : Node) (g : Gxid) (a : Option Message) (ms : List Mark) → IsOrderOf g a → IsOrderOf g (asked_by i g a ms)
asked_by-order i g a [] old = old
asked_by-order i g a (mark.Sent to number told ∷ ms) old =
    asked_by-order i g (if is_same_node to i && is_about g told then Some told else a) ms (order_if g told a (is_same_node to i) (is_about g told) refl old)
asked_by-order i g a (m ∷ ms) old = asked_by-order i g a ms old

none_if : (g : Gxid) (a : Option Message) (b : Bool) → IsOrderOf g a → IsOrderOf g (cond b None a)
none_if g a true old = tt
none_if g a false old = old

unless_answered-order : (steps : List Step) (i : Node) (g : Gxid) (a : Option Message) (e : Event) → IsOrderOf g a → IsOrderOf g (unless_answered steps i g a e)
unless_answered-order steps i g a (event.Receive from to number) old = none_if g a (is_same_node from i && is_answer_to a g (sent_message from to number steps)) old
unless_answered-order steps i g a _ old = old

next_asked-order : (steps : List Step) (i : Node) (g : Gxid) (a : Option Message) (s : Step) → IsOrderOf g a → IsOrderOf g (next_asked steps i g a s)
next_asked-order steps i g a s old = by (is_same_node s.stamp.node the_coordinator)
  where
    by : (own : Bool) → IsOrderOf g (if own then asked_by i g (unless_answered steps i g a s.event) s.marks else a)
    by true = asked_by-order i g (unless_answered steps i g a s.event) s.marks (unless_answered-order steps i g a s.event old)
    by false = old

asked_from-order : (before : List Step) (i : Node) (g : Gxid) (a : Option Message) (ss : List Step) → IsOrderOf g a → IsOrderOf g (asked_from before i g a ss)
asked_from-order before i g a [] old = old
asked_from-order before i g a (s ∷ ss) old = asked_from-order (before ++ s ∷ []) i g (next_asked before i g a s) ss (next_asked-order before i g a s old)

pub asked-order : (steps : List Step) (i : Node) (g : Gxid) → IsOrderOf g (asked steps i g)
asked-order steps i g = asked_from-order [] i g None steps tt

-- WHAT IS ASKED ANEW
-- where one of the marks asks, what was asked before makes no difference
any-asks : (i : Node) (g : Gxid) (a b : Option Message) (ms : List Mark) → list_any (λ m. is_some (asked_by i g None (m ∷ []))) ms ≡ true → asked_by i g a ms ≡ asked_by i g b ms
any-asks i g a b [] any = absurd (cc)
any-asks i g a b (mark.Sent to number told ∷ ms) any = by (is_same_node to i && is_about g told) (any-asks i g a b ms) any
  where
    by : (t : Bool) → (list_any (λ m. is_some (asked_by i g None (m ∷ []))) ms ≡ true → asked_by i g a ms ≡ asked_by i g b ms)
        → (is_some (cond t (Some told) None) || list_any (λ m. is_some (asked_by i g None (m ∷ []))) ms) ≡ true → asked_by i g (cond t (Some told) a) ms ≡ asked_by i g (cond t (Some told) b) ms
    by true rest any = refl
    by false rest any = rest any
any-asks i g a b (m ∷ ms) any = any-asks i g a b ms any

first-true : (a b : Bool) → (a && b) ≡ true → a ≡ true
first-true true b e = refl
first-true false b e = e

-- an answer is one for its transaction
answers-own : (x : Bool) (h g : Gxid) (was : Option Message) (r : Reply) → (x && is_answer_to was g (Some (message.Answer h r))) ≡ true → (x && is_same_gxid h g) ≡ true
answers-own true h g (Some asked) r e = first-true (is_same_gxid h g) (is_reply_to asked r) e
answers-own true h g None r e = absurd (cc)
answers-own false h g was r e = e

pub made-up : (from : Node) (h : Gxid) (r : Reply) (ms : List Mark) → list_any (λ m. is_some (asked_by from h None (m ∷ []))) ms ≡ true → (i : Node) (g : Gxid) (was : Option Message)
    → asked_by i g (cond (is_same_node from i && is_answer_to was g (Some (message.Answer h r))) None was) ms ≡ asked_by i g was ms
made-up from h r ms any i g was = by (is_same_node from i && is_answer_to was g (Some (message.Answer h r))) (answers-own (is_same_node from i) h g was r)
  where
    by : (b : Bool) → (b ≡ true → (is_same_node from i && is_same_gxid h g) ≡ true) → asked_by i g (cond b None was) ms ≡ asked_by i g was ms
    by true own = at_same (λ j k. asked_by j k None ms) from i h g (own refl) ∙ any-asks from h None was ms any ∙ sym (at_same (λ j k. asked_by j k was ms) from i h g (own refl))
    by false own = refl

-- what a message answers, where it was received
pub anew-received : (steps : List Step) (e : Event) (from to : Node) (number : ℕ) (o : Option Message) (ms : List Mark) → e ≡ event.Receive from to number → o ≡ told_in steps e
    → ((i : Node) (g : Gxid) (was : Option Message) → asked_by i g (cond (is_same_node from i && is_answer_to was g o) None was) ms ≡ asked_by i g was ms)
    → (i : Node) (g : Gxid) (was : Option Message) → asked_by i g (unless_answered steps i g was e) ms ≡ asked_by i g was ms
anew-received steps e from to number o ms is told same i g was =
    subst (λ (x : Event). o ≡ told_in steps x → asked_by i g (unless_answered steps i g was x) ms ≡ asked_by i g was ms) (sym is)
    (λ t. ap (λ m. asked_by i g (cond (is_same_node from i && is_answer_to was g m) None was) ms) (sym t) ∙ same i g was) told
