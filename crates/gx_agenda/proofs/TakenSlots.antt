-- Slots that are taken and given back, mark by mark.
use Rattle.std.proofs.Common.{◌≡◌, ℕ, ◌+◌, ◌<◌, ◌≤◌, Bool, true, false, List, [], ◌∷◌, Option, Some, None, length, drop, refl, sym, ap, ◌∙◌, subst, arith, get_or}
use Rattle.std.specs.Prelude.{if◌then◌else◌, nat_lt}
use Rattle.std.proofs.lemmas.Bool.Decides.{nat_tests}
use Rattle.std.proofs.lemmas.List.{drop_more}
use Rattle.std.proofs.Math.ListN.{drop_of_length-le}
use Rattle.gx_ids.specs.declared.ids.SessionId.{SessionId}
use Rattle.gx_ids.specs.declared.ids.Gxid.{Gxid}
use Rattle.gx_ids.specs.declared.ids.Node.{Node}
use Rattle.gx_msg.specs.declared.message.Message.{Message}
use Rattle.gx_script.specs.declared.Line.{Line}
use Rattle.gx_groups.specs.Table.{Table}
use Rattle.gx_store.specs.declared.answer.StmtAnswer.{StmtAnswer}
use Rattle.gx_store.specs.declared.mark.Mark.{Mark}
use Rattle.gx_store.specs.declared.mark.Mark.TheVariants as mark
use Rattle.gx_store.specs.declared.opened.Opened.{Opened}
use Rattle.gx_store.specs.Groups.{open_after, open_from, slots_by, slots_through}
use Rattle.gx_store.specs.Ordered.{sent_count}
use Rattle.gx_store.specs.Schedule.{asked_by}
use Rattle.gx_store.specs.Waits.{waits_from}
use Rattle.gx_waits.specs.declared.claim.Claim.{Claim}
use Rattle.gx_agenda.specs.declared.slots.Slots.{Slots}
use Rattle.gx_agenda.specs.declared.span.Span.{Span}
use Rattle.gx_agenda.specs.declared.standing.Standing.{Standing}
use Rattle.gx_agenda.specs.Moves.{session_answered}
use Rattle.gx_agenda.specs.Slotted.{HasGone, HasTaken, beyond_from, is_of_slots, lowest_from, noted}

-- NOTHING, AND ONE MARK MORE
pub gone-nowhere : (slots : Option Slots) → HasGone [] slots slots
gone-nowhere None = tt
gone-nowhere (Some s) = record { groups = refl; begun = refl; outside = refl; from = refl; past = refl }

taken-more : (m : Mark) (ms : List Mark) (a b c : Slots) → HasTaken (m ∷ []) a b → HasTaken ms b c → HasTaken (m ∷ ms) a c
taken-more m ms a b c one rest = record {
  groups =
      rest.groups
      ∙ ap (λ (begun : List Opened). slots_through begun b.groups ms) one.begun
      ∙ ap (λ (t : Table). slots_through (open_after a.begun.items m) t ms) one.groups;
  begun = rest.begun ∙ ap (λ (begun : List Opened). open_from begun ms) one.begun;
  outside = rest.outside ∙ one.outside;
  from = rest.from ∙ ap (λ n. lowest_from n ms) one.from ∙ lowest-more m ms a.answered.from;
  past = rest.past ∙ ap (λ n. beyond_from n ms) one.past ∙ beyond-more m ms a.answered.past;
}
  where
    lowest-more : (m : Mark) (ms : List Mark) (n : ℕ) → lowest_from (lowest_from n (m ∷ [])) ms ≡ lowest_from n (m ∷ ms)
    lowest-more (mark.Answer s k reply) ms n = refl
    lowest-more _ ms n = refl

    beyond-more : (m : Mark) (ms : List Mark) (n : ℕ) → beyond_from (beyond_from n (m ∷ [])) ms ≡ beyond_from n (m ∷ ms)
    beyond-more (mark.Answer s k reply) ms n = refl
    beyond-more _ ms n = refl

gone-more : (m : Mark) (ms : List Mark) (a b c : Option Slots) → HasGone (m ∷ []) a b → HasGone ms b c → HasGone (m ∷ ms) a c
gone-more m ms None None None one rest = tt
gone-more m ms (Some a) (Some b) (Some c) one rest = taken-more m ms a b c one rest
gone-more m ms None None (Some c) one rest = absurd rest
gone-more m ms None (Some b) c one rest = absurd one
gone-more m ms (Some a) None c one rest = absurd one
gone-more m ms (Some a) (Some b) None one rest = absurd rest

-- what the rest of the marks makes of what has come of those before it, all make of what was
abbrev pub LeadsOn : List Mark → ℕ → Option Slots → Option Slots → Type 0
LeadsOn marks i was now = (final : Option Slots) → HasGone (drop i marks) now final → HasGone marks was final

pub leads-on : (marks : List Mark) (i : ℕ) (m : Mark) (was now next : Option Slots) → i < length marks → m ≡ get_or marks i m → LeadsOn marks i was now → HasGone (m ∷ []) now next → LeadsOn marks (i + 1) was next
leads-on marks i m was now next inside is so_far one = λ final rest.
    so_far final (subst (λ ms. HasGone ms now final) (ap (λ (x : Mark). x ∷ drop (i + 1) marks) is ∙ sym (drop_more marks i m inside)) (gone-more m (drop (i + 1) marks) now next final one rest))

pub leads-there : (marks : List Mark) (i : ℕ) (was now : Option Slots) → length marks ≤ i → LeadsOn marks i was now → HasGone marks was now
leads-there marks i was now past so_far = so_far now (subst (λ ms. HasGone ms now now) (sym (drop_of_length-le marks past)) (gone-nowhere now))

-- ONE MARK
pub gone-answered : (m : Mark) (session : SessionId) → session_answered m ≡ Some session → (a b : Option Slots) → ((number : ℕ) (reply : StmtAnswer) → HasGone (mark.Answer session number reply ∷ []) a b) → HasGone (m ∷ []) a b
gone-answered (mark.Answer t number reply) session is a b gone = let same : session ≡ t = cc in subst (λ (s : SessionId). HasGone (mark.Answer s number reply ∷ []) a b) same (gone number reply)
gone-answered _ session is a b gone = absurd (cc)

untold : (m : Mark) → session_answered m ≡ None → is_of_slots m ≡ false → (s : Slots) → HasTaken (m ∷ []) s s
untold (mark.Answer t number reply) none not_told s = absurd (cc)
untold (mark.Start g t) none not_told s = absurd (cc)
untold (mark.Commit g) none not_told s = absurd (cc)
untold (mark.Abort g) none not_told s = absurd (cc)
untold _ none not_told s = record { groups = refl; begun = refl; outside = refl; from = refl; past = refl }

pub gone-untold : (m : Mark) → session_answered m ≡ None → is_of_slots m ≡ false → (slots : Option Slots) → HasGone (m ∷ []) slots slots
gone-untold m none not_told None = tt
gone-untold m none not_told (Some s) = untold m none not_told s

unanswered-span : (m : Mark) → is_of_slots m ≡ true → (n : ℕ) → (n ≡ lowest_from n (m ∷ [])) × (n ≡ beyond_from n (m ∷ []))
unanswered-span (mark.Start g t) told n = (refl, refl)
unanswered-span (mark.Commit g) told n = (refl, refl)
unanswered-span (mark.Abort g) told n = (refl, refl)
unanswered-span _ told n = absurd (cc)

pub taken-told : (m : Mark) → is_of_slots m ≡ true → (a b : Slots) → b.groups ≡ slots_by a.begun.items a.groups m → b.begun.items ≡ open_after a.begun.items m → b.outside.items ≡ a.outside.items → b.answered ≡ a.answered → HasTaken (m ∷ []) a b
taken-told m told a b groups begun outside answered = record {
  groups = groups;
  begun = begun;
  outside = outside;
  from = ap (λ (s : Span). s.from) answered ∙ (unanswered-span m told a.answered.from).0;
  past = ap (λ (s : Span). s.past) answered ∙ (unanswered-span m told a.answered.past).1;
}

-- a mark by which a transaction begins or ends sends nothing, asks nothing, answers no line, and no wait begins or ends by it
pub told-sends : (m : Mark) → is_of_slots m ≡ true → (to : Node) → sent_count to (m ∷ []) ≡ 0
told-sends (mark.Start g t) told to = refl
told-sends (mark.Commit g) told to = refl
told-sends (mark.Abort g) told to = refl
told-sends _ told to = absurd (cc)

pub told-asks : (m : Mark) → is_of_slots m ≡ true → (i : Node) (g : Gxid) (was : Option Message) → asked_by i g was (m ∷ []) ≡ was
told-asks (mark.Start h t) told i g was = refl
told-asks (mark.Commit h) told i g was = refl
told-asks (mark.Abort h) told i g was = refl
told-asks _ told i g was = absurd (cc)

pub told-waits : (m : Mark) → is_of_slots m ≡ true → (node : Node) (ws : List Claim) → waits_from node ws (m ∷ []) ≡ ws
told-waits (mark.Start g t) told node ws = refl
told-waits (mark.Commit g) told node ws = refl
told-waits (mark.Abort g) told node ws = refl
told-waits _ told node ws = absurd (cc)

-- WHOM MARKS ANSWER
beyond-least : (n : ℕ) (ms : List Mark) → n ≤ beyond_from n ms
beyond-least n [] = omega arith
beyond-least n (mark.Answer s k reply ∷ ms) = grind (arith, nat_tests, beyond-least n ms, beyond-least (s.0 + 1) ms)
beyond-least n (_ ∷ ms) = beyond-least n ms

some-answer : (s : SessionId) (ms : List Mark) → beyond_from (if nat_lt s.0 0 then 0 else s.0 + 1) ms ≡ 0 → ⊥
some-answer s ms none = let least = beyond-least (s.0 + 1) ms in grind (arith, nat_tests)

pub nobody-noted : (lines : List Line) (standings : List Standing) (outside : List Bool) (ms : List Mark) → beyond_from 0 ms ≡ 0 → outside ≡ noted lines standings outside ms
nobody-noted lines standings outside [] none = refl
nobody-noted lines standings outside (mark.Answer s k reply ∷ ms) none = absurd (some-answer s ms none)
nobody-noted lines standings outside (_ ∷ ms) none = nobody-noted lines standings outside ms none

pub nobody-lowest : (ms : List Mark) → beyond_from 0 ms ≡ 0 → lowest_from 256 ms ≡ 256
nobody-lowest [] none = refl
nobody-lowest (mark.Answer s k reply ∷ ms) none = absurd (some-answer s ms none)
nobody-lowest (_ ∷ ms) none = nobody-lowest ms none
