-- Over every run of the machine, a command holds its table from its snapshot, or its first sending, to its answer.
use Rattle.std.proofs.Common.{◌≡◌, ◌≤◌, ◌<◌, ◌==◌, ◌||◌, ◌⊎◌, inl, inr, ℕ, ◌+◌, List, [], ◌∷◌, ◌++◌, Option, Some, None, Bool, true, false, refl, sym, subst, ap, ◌∙◌, if◌then◌else◌, append_assoc, append-nil, cond, arith}
use Rattle.std.specs.List.{list_any}
use Rattle.std.specs.Prelude.{Contains, filter}
use Rattle.std.proofs.lemmas.Bool.{and_parts, or_left, or_right}
use Rattle.std.proofs.lemmas.Bool.Decides.{nat_tests}
use Rattle.std.proofs.lemmas.List.Elements.{Contains-append_cases, Contains-append_left, Contains-push_cases}
use Rattle.gx_lemmas.proofs.Numbers.{eqb-self, one-le-zero, same-plus-none}
use Rattle.gx_lemmas.proofs.Options.{none-some, some-same}
use Rattle.gx_lemmas.proofs.Tests.{true-false}
use Rattle.gx_ids.specs.declared.ids.Cid.{Cid}
use Rattle.gx_ids.specs.declared.ids.Gxid.{Gxid}
use Rattle.gx_ids.specs.declared.ids.Node.{Node}
use Rattle.gx_ids.specs.declared.ids.SessionId.{SessionId}
use Rattle.gx_tree.specs.declared.stmt.Stmt.{Stmt}
use Rattle.gx_waits.specs.declared.claim.Claim.{Claim}
use Rattle.gx_locks.specs.Locks.{wait_of}
use Rattle.gx_waits.specs.Claims.{claim, with_claim, without_claim}
use Rattle.gx_msg.specs.declared.message.Message.{Message}
use Rattle.gx_msg.specs.declared.message.Message.TheVariants as message
use Rattle.gx_script.specs.Session.{after_line, line_step}
use Rattle.gx_script.specs.declared.Script.{Script}
use Rattle.gx_script.specs.declared.state.Block.{Block}
use Rattle.gx_script.specs.declared.state.Block.TheVariants as block
use Rattle.gx_script.specs.declared.state.Pending.{Pending}
use Rattle.gx_script.specs.declared.state.Pending.TheVariants as pending
use Rattle.gx_store.proofs.Exclusive.{holds_from-append}
use Rattle.gx_store.proofs.Marks.{is_snapped-append}
use Rattle.gx_store.proofs.Runs.{marks_in-push, starts_in-push}
use Rattle.gx_store.specs.Lines.{BlockState, Failed, InBlock, Outside, cid_of, state_of, stmt_of, transaction_of}
use Rattle.gx_store.specs.Locks.{HasGoneOut, LocksWhileReading, table_lock}
use Rattle.gx_store.specs.Marks.{answer_count, is_begun, is_same_session, is_snapped, started_after}
use Rattle.gx_store.specs.Ordered.{IsAtNode, IsSegment}
use Rattle.gx_store.specs.Points.{marks_in, starts_by, starts_in}
use Rattle.gx_store.specs.Refusals.{the_coordinator}
use Rattle.gx_store.specs.Waits.{holds_at, holds_from}
use Rattle.gx_store.specs.declared.event.Event.{Event}
use Rattle.gx_store.specs.declared.event.Event.TheVariants as event
use Rattle.gx_store.specs.declared.mark.Mark.{Mark}
use Rattle.gx_store.specs.declared.mark.Mark.TheVariants as mark
use Rattle.gx_store.specs.declared.node.NodeEvent.{NodeEvent}
use Rattle.gx_store.specs.declared.node.NodeEvent.TheVariants as here
use Rattle.gx_store.specs.declared.run.Step.{Step}
use Rattle.gx_rules.specs.AtCoordinator.{awaited, awaited_collect, cancel_turn, cancels, coord_can, coord_turn, is_nothing, next_line, on_event, on_line, resends, resumes, starts, starts_line}
use Rattle.gx_rules.specs.AtSegment.{seg_rule}
use Rattle.gx_rules.specs.Coordinators.{Coord, CoordTurn, Work, session_of, work_of}
use Rattle.gx_rules.specs.Locks.{hold_mark}
use Rattle.gx_rules.specs.Machine.{World, and_cancelled, coord_did, seg_did, with_more, world_of}
use Rattle.gx_rules.proofs.Turns.{with_more-last}
use Rattle.gx_rules.specs.Sending.{clock_after, numbered}
use Rattle.gx_law_order.specs.Moves.{Move, world_by}
use Rattle.gx_law_order.proofs.Dispatches.{without_wait}
use Rattle.gx_law_order.proofs.Induction.{IsThere, at-events, marks-by-victim}
use Rattle.gx_law_order.proofs.Lists.{each_append, each_weaker}
use Rattle.gx_law_order.specs.Lists.{Each}
use Rattle.gx_law_order.proofs.Moves.{HasNamed}
use Rattle.gx_law_order.proofs.Ordered.{seg_marks}
use Rattle.gx_law_order.proofs.Sent.{at}
use Rattle.gx_law_order.specs.Sessions.{is_nothing_in, is_open_in}
use Rattle.gx_law_order.specs.Stages.{stage_of}
use Rattle.gx_law_order.specs.Stages.Stage.{Live}
use Rattle.gx_law_order.proofs.Waiting.{GoesOut, going-out}
use Rattle.gx_law_order.proofs.World.{Knows, moves_knows}
use Rattle.gx_law_order.proofs.Always as always
use Rattle.gx_law_order.proofs.Everywhere as commit
use Rattle.gx_law_reads.proofs.Reading.{at-self}
use Rattle.gx_law_order.proofs.Others.{unsnapped}
use Rattle.gx_law_order.proofs.Said.{CalmFor, Said, said-start}
use Rattle.gx_law_order.proofs.Stepping as sessions
use Rattle.gx_law_order.proofs.Legality as world
use Rattle.gx_law_order.specs.Standing.{IsSession, IsStanding, Owns, under_way}
use Rattle.gx_law_locks.proofs.Lasting.{IsIn, granted-held}
use Rattle.gx_law_locks.proofs.Marks.{Quiet, quiet-holds}
use Rattle.gx_law_locks.proofs.Orders.{Ordered, moves-orders}
use Rattle.gx_law_writes.specs.Commands.{AreReadsHeld, AreUnsent, EachPoint, IsOther}
use Rattle.gx_law_writes.proofs.Answering.{IsHome}
use Rattle.gx_law_writes.proofs.Commands.{HoldsTableOf, IsCommandOf, IsRun, IsWaitingOf, Runs, as-meant, out-holds, run-between, runs-back, runs-here, runs-on}
use Rattle.gx_law_writes.proofs.Shapes.{Anyone, Body, Ebbs, cancel-told, Ends, Free, Locking, Opening, Plain, Shape, Silent, body-more, each-behind, end-ebbs, ends-other, ends-split, line-opens, locked-shape, message-told, plain-ebbs, sent-ebbs, shape-more}
use Rattle.gx_law_writes.proofs.AnswersHold.{runs-later}
use Rattle.gx_law_writes.proofs.Unsent.{HasLetter, moves-have, new-unsent, next-unsent}

-- WHAT HAS GONE OUT
-- the command has a snapshot of its own, or was sent to some segment
abbrev IsOut : List Mark → Gxid → Cid → Type 0
IsOut marks g c = (is_snapped marks g c ≡ true) ⊎ HasGoneOut marks g c

-- the mark takes no snapshot and sends nothing
abbrev Still : Mark → Type 0
Still (mark.Snap g c x) = ⊥
Still (mark.Sent to number told) = ⊥
Still _ = Unit {0}

contains-none : {A : Type 0} (x : A) → Contains [] x → ⊥
contains-none x h = below h.0 h.1
  where
    below : (i : ℕ) → i < 0 → ⊥
    below i l = omega arith

each-contains : {A : Type 0} (P : A → Type 0) (x : A) (xs : List A) → Each P xs → Contains xs x → P x
each-contains P x [] e h = absurd (contains-none x h)
each-contains P x (y ∷ ys) e h = by_part (Contains-append_cases (y ∷ []) ys x h) (each-contains P x ys e.1)
  where
    by_first : Contains [] x ⊎ (y ≡ x) → P x
    by_first (inl i) = absurd (contains-none x i)
    by_first (inr i) = subst P i e.0

    by_part : Contains (y ∷ []) x ⊎ Contains ys x → (Contains ys x → P x) → P x
    by_part (inl i) more = by_first (Contains-push_cases [] y x i)
    by_part (inr i) more = more i

still-unsnapped : (g : Gxid) (c : Cid) (ms : List Mark) → Each Still ms → is_snapped ms g c ≡ false
still-unsnapped g c [] e = refl
still-unsnapped g c (mark.Snap h d x ∷ ms) e = absurd e.0
still-unsnapped g c (m ∷ ms) e = still-unsnapped g c ms e.1

either-true : (a b : Bool) → (a || b) ≡ true → b ≡ false → a ≡ true
either-true a b e f = grind arith

out-front : (g : Gxid) (c : Cid) (xs ys : List Mark) → Each Still ys → IsOut (xs ++ ys) g c → IsOut xs g c
out-front g c xs ys still (inl e) = inl (either-true (is_snapped xs g c) (is_snapped ys g c) (sym (is_snapped-append xs ys g c) ∙ e) (still-unsnapped g c ys still))
out-front g c xs ys still (inr o) = by_part (Contains-append_cases xs ys _ o.sent)
  where
    by_part : Contains xs (mark.Sent o.node o.number (message.Exec g c o.level o.snapshot o.horizon o.slice)) ⊎ Contains ys (mark.Sent o.node o.number (message.Exec g c o.level o.snapshot o.horizon o.slice)) → IsOut xs g c
    by_part (inl h) = inr (record { node = o.node; number = o.number; level = o.level; snapshot = o.snapshot; horizon = o.horizon; slice = o.slice; sent = h })
    by_part (inr h) = absurd (each-contains Still _ ys still h)

out-more : (g : Gxid) (c : Cid) (xs ys : List Mark) → IsOut xs g c → IsOut (xs ++ ys) g c
out-more g c xs ys (inl e) = inl (is_snapped-append xs ys g c ∙ or_left (is_snapped xs g c) _ e)
out-more g c xs ys (inr o) =
    inr (record { node = o.node; number = o.number; level = o.level; snapshot = o.snapshot; horizon = o.horizon; slice = o.slice; sent = Contains-append_left xs ys _ o.sent })

abbrev Unsent : Gxid → Cid → Mark → Type 0
Unsent g c (mark.Sent to number told) = IsOther g c told
Unsent g c _ = Unit {0}

each-unsent : (g : Gxid) (c : Cid) (ms : List Mark) → AreUnsent g c ms → Each (Unsent g c) ms
each-unsent g c [] e = tt
each-unsent g c (mark.Sent to number told ∷ ms) e = (e.0, each-unsent g c ms e.1)
each-unsent g c (m ∷ ms) e = (tt, each-unsent g c ms e.1)

not-out : (g : Gxid) (c : Cid) (ms : List Mark) → is_snapped ms g c ≡ false → AreUnsent g c ms → IsOut ms g c → ⊥
not-out g c ms unsnapped unsent (inl e) = true-false (is_snapped ms g c) e unsnapped
not-out g c ms unsnapped unsent (inr o) = each-contains (Unsent g c) (mark.Sent o.node o.number (message.Exec g c o.level o.snapshot o.horizon o.slice)) ms (each-unsent g c ms unsent) o.sent (refl, refl)

-- HOLDS
any-filter : {A : Type 0} (p q : A → Bool) (xs : List A) → list_any p (filter q xs) ≡ true → list_any p xs ≡ true
any-filter p q [] e = e
any-filter p q (x ∷ xs) e = by_test (q x) e (any-filter p q xs)
  where
    by_first : (b : Bool) (u v : Bool) → (b || u) ≡ true → (u ≡ true → v ≡ true) → (b || v) ≡ true
    by_first true u v e f = refl
    by_first false u v e f = f e

    by_test : (b : Bool) → list_any p (cond b (x ∷ filter q xs) (filter q xs)) ≡ true → (list_any p (filter q xs) ≡ true → list_any p xs ≡ true) → list_any p (x ∷ xs) ≡ true
    by_test true e f = by_first (p x) (list_any p (filter q xs)) (list_any p xs) e f
    by_test false e f = or_right (p x) (list_any p xs) (f e)

-- what is held behind marks that grant nothing was held before them
held-back : (k : SessionId) (c : Claim) (ms : List Mark) (holds : List Claim) → Each (Ebbs k) ms → IsIn (holds_from the_coordinator holds ms) c → IsIn holds c
held-back k c [] holds e h = h
held-back k c (mark.Hold n g object mode ∷ ms) holds e h = subst (λ b. IsIn (if b then with_claim (claim g object mode) holds else holds) c) e.0 (held-back k c ms _ e.1 h)
held-back k c (mark.Release n g object mode ∷ ms) holds e h = by_test (n.0 == 0) (held-back k c ms _ e.1 h)
  where
    by_test : (b : Bool) → IsIn (if b then without_claim (claim g object mode) holds else holds) c → IsIn holds c
    by_test true i = any-filter _ _ holds i
    by_test false i = i
held-back k c (mark.Start h s ∷ ms) holds e i = held-back k c ms holds e.1 i
held-back k c (mark.Answer s n a ∷ ms) holds e i = held-back k c ms holds e.1 i
held-back k c (m ∷ ms) holds e i = held-back k c ms holds e.1 i

table-back : (script : Script) (k : SessionId) (g : Gxid) (line : Stmt) (xs ys : List Mark) → Each (Ebbs k) ys → HoldsTableOf script (xs ++ ys) g line → HoldsTableOf script xs g line
table-back script k g line xs ys e h wanted takes = held-back k wanted ys (holds_at xs the_coordinator) e (subst (λ hs. IsIn hs wanted) (holds_from-append the_coordinator [] xs ys) (h wanted takes))

table-quiet : (script : Script) (g : Gxid) (line : Stmt) (xs ys : List Mark) → Each Quiet ys → HoldsTableOf script xs g line → HoldsTableOf script (xs ++ ys) g line
table-quiet script g line xs ys e h wanted takes = subst (λ hs. IsIn hs wanted) (sym (holds_from-append the_coordinator [] xs ys ∙ quiet-holds the_coordinator (holds_at xs the_coordinator) ys e)) (h wanted takes)

-- MARKS
ebbs-calm : (k : SessionId) (m : Mark) → Ebbs k m → CalmFor k m
ebbs-calm k (mark.Start h s) e = e
ebbs-calm k (mark.Answer s n a) e = e
ebbs-calm k m e = tt

silent-calm : (k : SessionId) (m : Mark) → Silent m → CalmFor k m
silent-calm k (mark.Start h s) e = absurd e
silent-calm k (mark.Answer s n a) e = absurd e
silent-calm k m e = tt

silent-quiet : (m : Mark) → Silent m → Quiet m
silent-quiet (mark.Hold n h object mode) e = e
silent-quiet (mark.Release n h object mode) e = e
silent-quiet m e = tt

silent-still : (m : Mark) → Silent m → Still m
silent-still (mark.Snap g c x) e = e
silent-still (mark.Sent to number told) e = e
silent-still m e = tt

plain-calm : (k : SessionId) (m : Mark) → Plain m → CalmFor k m
plain-calm k (mark.Start h s) e = absurd e
plain-calm k (mark.Answer s n a) e = absurd e
plain-calm k m e = tt

plain-quiet : (m : Mark) → Plain m → Quiet m
plain-quiet (mark.Hold n h object mode) e = e
plain-quiet (mark.Release n h object mode) e = e
plain-quiet m e = tt

free-ebbs : (script : Script) (k : SessionId) (h : Gxid) (line : Stmt) (m : Mark) → Free script h line m → Ebbs k m
free-ebbs script k h line m e = plain-ebbs k m e.0

-- a segment starts, answers and grants nothing at the coordinator
at-node-ebbs : (script : Script) (k : SessionId) (i : Node) → 1 ≤ i.0 → (ms : List Mark) → Each (IsAtNode script i) ms → Each (Ebbs k) ms
at-node-ebbs script k i one [] e = tt
at-node-ebbs script k i one (mark.Start h s ∷ ms) e = absurd (one-le-zero i.0 one (ap (λ (n : Node). n.0) e.0))
at-node-ebbs script k i one (mark.Answer s n a ∷ ms) e = absurd (one-le-zero i.0 one (ap (λ (n : Node). n.0) e.0))
at-node-ebbs script k i one (mark.Hold n h object mode ∷ ms) e = (ap (λ (m : Node). m.0 == 0) e.0 ∙ apart i.0 one, at-node-ebbs script k i one ms e.1)
  where
    apart : (j : ℕ) → 1 ≤ j → (j == 0) ≡ false
    apart j l = grind (arith, nat_tests)
at-node-ebbs script k i one (m ∷ ms) e = (tt, at-node-ebbs script k i one ms e.1)

-- WHO STARTS A LINE
same-session : (a b : SessionId) → (a.0 == b.0) ≡ true → a ≡ b
same-session a b e = grind (arith, nat_tests)

idle-counts : (script : Script) (s : SessionId) (marks : List Mark) (next : ℕ) (b : Block) (p : Pending) (lines : ℕ) (h : Gxid) (w : Work) (ends : ℕ) → is_nothing p ≡ true → IsStanding script s marks next b p lines h w ends → answer_count s marks ≡ lines
idle-counts script s marks next b pending.Nothing lines h w ends q (inl z) = plus (answer_count s marks) lines z.1.answered
  where
    plus : (a l : ℕ) → a + 0 ≡ l → a ≡ l
    plus a l e = omega arith
idle-counts script s marks next b pending.Command lines h w ends q (inl z) = absurd (cc)
idle-counts script s marks next b pending.Commit lines h w ends q (inl z) = absurd (cc)
idle-counts script s marks next b p lines h w ends q (inr z) = z.1.answered

nothing-in : (p : Pending) → is_nothing p ≡ true → is_nothing_in p ≡ true
nothing-in pending.Nothing e = refl
nothing-in pending.Command e = absurd (cc)
nothing-in pending.Commit e = absurd (cc)

le-same : (n : ℕ) → n ≤ n
le-same n = omega arith

-- before the marks of the step that starts its line, the session is in its block
record IsInBlock (marks : List Mark) (b : Block) (h : Gxid) (w : Work) (g : Gxid) (c : Cid) : Type 0 where
  stands : is_open_in b ≡ true
  txn : g ≡ h
  unread : is_snapped marks g c ≡ false
  later : w.last < c.0

idle-block : (script : Script) (s : SessionId) (marks : List Mark) (next : ℕ) (b : Block) (p : Pending) (lines : ℕ) (h : Gxid) (w : Work) (ends begun : ℕ) (asked line : Stmt) (g : Gxid) (c : Cid) → is_nothing p ≡ true → stmt_of s (lines + 1) script.lines ≡ Some asked → IsStanding script s marks next b p lines h w ends → Runs script s marks begun line g c → IsInBlock marks b h w g c
idle-block script s marks next b pending.Command lines h w ends begun asked line g c q is (inl z) r = absurd (cc)
idle-block script s marks next b pending.Commit lines h w ends begun asked line g c q is (inl z) r = absurd (cc)
idle-block script s marks next b p lines h w ends begun asked line g c q is (inr z) r = absurd (none-some (stmt_of s (lines + 1) script.lines) asked z.1.none is)
idle-block script s marks next block.Outside pending.Nothing lines h w ends begun asked line g c q is (inl z) r =
    absurd (none-some (transaction_of (state_of script s marks) s marks) g (ap (λ x. transaction_of x s marks) z.1.state ∙ ap (λ u. if u then started_after s None marks else None) z.1.begun) r.transaction)
idle-block script s marks next block.Failed pending.Nothing lines h w ends begun asked line g c q is (inl z) r = absurd (none-some (transaction_of (state_of script s marks) s marks) g (ap (λ x. transaction_of x s marks) z.1.state) r.transaction)
idle-block script s marks next (block.Open level) pending.Nothing lines h w ends begun asked line g c q is (inl z) r =
    record { stands = refl; txn = same; unread = subst (λ x. is_snapped marks x c ≡ false) (sym same) (own.unsnapped c above); later = above }
  where
    own : Owns s z.1.commands marks next (block.Open level) h w
    own = (z.1.owns refl).0

    same : g ≡ h
    same = some-same g h (sym r.transaction ∙ ap (λ x. transaction_of x s marks) z.1.state ∙ own.started)

    less : (commands under last i : ℕ) → commands + under ≡ last → under ≡ 0 → i ≡ commands + 1 → last < i
    less commands under last i e f d = omega arith

    above : w.last < c.0
    above = less z.1.commands (under_way w.command) w.last c.0 (own.counted refl) (ap under_way (z.1.owns refl).1) (ap (λ (x : Cid). x.0) (r.number ∙ ap cid_of z.1.state))

-- A STEP
-- at a point of the step behind these marks
abbrev Held : Script → List Step → Event → SessionId → List Mark → Type 0
Held script steps e k earlier =
    (line : Stmt) (g : Gxid) (c : Cid) → Runs script k (marks_in steps ++ earlier) (starts_in k steps + starts_by k e) line g c → IsOut (marks_in steps ++ earlier) g c
    → HoldsTableOf script (marks_in steps ++ earlier) g line

abbrev AreHeld : Script → List Step → Event → List Mark → Type 0
AreHeld script steps e ms = (k : SessionId) (xs ys : List Mark) → ms ≡ xs ++ ys → Held script steps e k xs

at-point : (script : Script) (steps : List Step) (e : Event) (earlier later : List Mark) → ((k : SessionId) → Held script steps e k (earlier ++ [])) → LocksWhileReading script (record { steps = steps; event = e; earlier = earlier; later = later })
at-point script steps e earlier later f =
    λ k line level g c r o. as-meant script (marks_in steps ++ earlier) g line (subst (Held script steps e k) (append-nil earlier) (f k) line g c (runs-here script steps e earlier later k line level g c r) o)

each-held : (script : Script) (steps : List Step) (e : Event) (earlier ms : List Mark) → ((k : SessionId) (xs ys : List Mark) → ms ≡ xs ++ ys → Held script steps e k (earlier ++ xs)) → EachPoint (LocksWhileReading script) steps e earlier ms
each-held script steps e earlier [] f = at-point script steps e earlier [] (λ k. f k [] [] refl)
each-held script steps e earlier (m ∷ ms) f = (
  at-point script steps e earlier ms (λ k. f k [] (m ∷ ms) refl),
  each-held script steps e (earlier ++ m ∷ []) ms (λ k xs ys q. subst (Held script steps e k) (sym (append_assoc earlier (m ∷ []) xs)) (f k (m ∷ xs) ys (ap (λ zs. m ∷ zs) q))),
)

reads-last : (script : Script) (done ss : List Step) (s : Step) → AreReadsHeld script done ss → EachPoint (LocksWhileReading script) (done ++ ss) s.event [] s.marks → AreReadsHeld script done (ss ++ s ∷ [])
reads-last script done [] s e h = (subst (λ x. EachPoint (LocksWhileReading script) x s.event [] s.marks) (append-nil done) h, tt)
reads-last script done (x ∷ ss) s e h = (e.0, reads-last script (done ++ x ∷ []) ss s e.1 (subst (λ y. EachPoint (LocksWhileReading script) y s.event [] s.marks) (sym (append_assoc done (x ∷ []) ss)) h))

-- what comes later says nothing of a point, and more marks may stand behind
reads-later : (script : Script) (steps : List Step) (e : Event) (earlier xs ys : List Mark) → LocksWhileReading script (record { steps = steps; event = e; earlier = earlier; later = xs }) → LocksWhileReading script (record { steps = steps; event = e; earlier = earlier; later = ys })
reads-later script steps e earlier xs ys f = λ s line level g c r o. f s line level g c (runs-later script steps e earlier ys xs s line level g c r) o

points-join : (script : Script) (steps : List Step) (e : Event) (earlier ms more : List Mark) → EachPoint (LocksWhileReading script) steps e earlier ms → EachPoint (LocksWhileReading script) steps e (earlier ++ ms) more → EachPoint (LocksWhileReading script) steps e earlier (ms ++ more)
points-join script steps e earlier [] more h t = subst (λ q. EachPoint (LocksWhileReading script) steps e q more) (append-nil earlier) t
points-join script steps e earlier (m ∷ ms) more h t = (
  reads-later script steps e earlier ms (ms ++ more) h.0,
  points-join script steps e (earlier ++ m ∷ []) ms more h.1 (subst (λ q. EachPoint (LocksWhileReading script) steps e q more) (sym (append_assoc earlier (m ∷ []) ms)) t),
)

reads-more : (script : Script) (done before : List Step) (s : Step) (more : List Mark) → AreReadsHeld script done (before ++ s ∷ []) → EachPoint (LocksWhileReading script) (done ++ before) s.event s.marks more
    → AreReadsHeld script done (before ++ record s { marks = s.marks ++ more } ∷ [])
reads-more script done [] s more e h = (points-join script done s.event [] s.marks more e.0 (subst (λ q. EachPoint (LocksWhileReading script) q s.event s.marks more) (append-nil done) h), tt)
reads-more script done (x ∷ before) s more e h =
    (e.0, reads-more script (done ++ x ∷ []) before s more e.1 (subst (λ q. EachPoint (LocksWhileReading script) q s.event s.marks more) (sym (append_assoc done (x ∷ []) before)) h))

-- WHAT IS KNOWN OF EACH WORLD
record IsMet (script : Script) (w : World) : Type 0 where
  knows : Knows script w
  holds : commit.Holds script w
  sessions : sessions.Holds script w
  orders : Ordered script w
  has : Each (HasLetter w.sent) (marks_in w.steps)

moves-met : (script : Script) (some : 1 ≤ script.segments) (ms : List Move) → IsMet script (world_by script ms)
moves-met script some ms =
    record { knows = moves_knows script some ms; holds = always.moves-holds script some ms; sessions = world.moves-holds script some ms; orders = moves-orders script some ms; has = moves-have script some ms }

module _ (script : Script) (some : 1 ≤ script.segments) where
  -- between steps
  between : (w : World) (met : IsMet script w) (k : SessionId) (line : Stmt) (g : Gxid) (c : Cid) → Runs script k (marks_in w.steps) (starts_in k w.steps) line g c → IsOut (marks_in w.steps) g c → IsCommandOf (work_of w.coord (session_of w.coord k).transaction) line × HoldsTableOf script (marks_in w.steps) g line
  between w met k line g c r o = by_way its.way
    where
      its : IsRun (marks_in w.steps) w.coord k line g c
      its = run-between script w met.sessions.sessions k line g c r

      by_way : IsCommandOf (work_of w.coord (session_of w.coord k).transaction) line ⊎ IsWaitingOf (marks_in w.steps) (work_of w.coord (session_of w.coord k).transaction) line (session_of w.coord k).transaction c → IsCommandOf (work_of w.coord (session_of w.coord k).transaction) line × HoldsTableOf script (marks_in w.steps) g line
      by_way (inl it) = (
        it,
        subst (λ ms. HoldsTableOf script ms g line) (append-nil (marks_in w.steps))
            (out-holds script w met.sessions.sessions met.knows.kept met.orders.going met.orders.locked.marked.coordinator.holds met.orders.locked.marked.coordinator.waits [] k line g tt its.txn it),
      )
      by_way (inr it) =
          absurd
          (not-out g c (marks_in w.steps) (subst (λ x. is_snapped (marks_in w.steps) x c ≡ false) (sym its.txn) it.unsnapped)
          (next-unsent script w met.knows met.holds g c ((met.knows.kept.tied g.0).waits line waits).0 (subst (λ x. (work_of w.coord x).last < c.0) (sym its.txn) it.next) met.has) o)
        where
          waits : (work_of w.coord g).waiting ≡ Some line
          waits = subst (λ x. (work_of w.coord x).waiting ≡ Some line) (sym its.txn) it.has_it

  module _ (w : World) (met : IsMet script w) (e : Event) where
    -- behind marks that say nothing of the session and change no hold
    still-held : (k : SessionId) (xs : List Mark) → starts_by k e ≡ 0 → Each (CalmFor k) xs → Each Quiet xs → Each Still xs → Held script w.steps e k xs
    still-held k xs none calm quiet still line g c r o =
        table-quiet script g line (marks_in w.steps) xs quiet
        (between w met k line g c
        (subst (λ n. Runs script k (marks_in w.steps) n line g c) (plus-none (starts_in k w.steps) (starts_by k e) none) (runs-back script k (marks_in w.steps) xs _ line g c calm r))
        (out-front g c (marks_in w.steps) xs still o)).1
      where
        plus-none : (a b : ℕ) → b ≡ 0 → a + b ≡ a
        plus-none a b e = omega arith

    -- the point behind the beginning of a transaction whose statement goes out
    abbrev Says : SessionId → List Mark → Gxid → Stmt → Type 0
    Says k pre h asked =
        (line : Stmt) (g : Gxid) (c : Cid) → Runs script k (marks_in w.steps ++ pre) (starts_in k w.steps + starts_by k e) line g c
        → (g ≡ h) × (line ≡ asked) × (IsOut (marks_in w.steps ++ pre) g c → ⊥)

    module _ (v : World) (then_met : IsMet script v) (ms : List Mark)
        (marks-are : marks_in v.steps ≡ marks_in w.steps ++ ms)
        (starts-are : (k : SessionId) → starts_in k v.steps ≡ starts_in k w.steps + starts_by k e)
      where
        -- what is held behind the step was held before marks that ebb
        ebb-held : (k : SessionId) (xs ys : List Mark) → ms ≡ xs ++ ys → Each (Ebbs k) ys → Held script w.steps e k xs
        ebb-held k xs ys split ebbs line g c r o =
            table-back script k g line (marks_in w.steps ++ xs) ys ebbs
            (subst (λ zs. HoldsTableOf script zs g line) all
            (between v then_met k line g c
            (subst (λ zs. Runs script k zs (starts_in k v.steps) line g c) (sym all)
            (subst (λ n. Runs script k ((marks_in w.steps ++ xs) ++ ys) n line g c) (sym (starts-are k))
            (runs-on script k (marks_in w.steps ++ xs) ys _ line g c (each_weaker (Ebbs k) (CalmFor k) (ebbs-calm k) ys ebbs) r)))
            (subst (λ zs. IsOut zs g c) (sym all) (out-more g c (marks_in w.steps ++ xs) ys o))).1)
          where
            all : marks_in v.steps ≡ (marks_in w.steps ++ xs) ++ ys
            all = marks-are ∙ ap (λ zs. marks_in w.steps ++ zs) split ∙ sym (append_assoc (marks_in w.steps) xs ys)

        all-ebbs : ((k : SessionId) → Each (Ebbs k) ms) → AreHeld script w.steps e ms
        all-ebbs f k xs ys split = ebb-held k xs ys split (each-behind (Ebbs k) xs ys (subst (Each (Ebbs k)) split (f k)))

        -- where segments' answers are heard
        told-held : ((k : SessionId) → starts_by k e ≡ 0) → ((k : SessionId) → Shape Silent Anyone k ms) → AreHeld script w.steps e ms
        told-held none f k xs ys split = by_shape (subst (Shape Silent Anyone k) split (f k))
          where
            by_part : Each (Ebbs k) ys ⊎ (Each Silent xs × Ends Silent Anyone k ys) → Held script w.steps e k xs
            by_part (inl b) = ebb-held k xs ys split b
            by_part (inr b) = still-held k xs (none k) (each_weaker Silent (CalmFor k) (silent-calm k) xs b.0) (each_weaker Silent Quiet silent-quiet xs b.0) (each_weaker Silent Still silent-still xs b.0)

            by_shape : Shape Silent Anyone k (xs ++ ys) → Held script w.steps e k xs
            by_shape (inl b) = ebb-held k xs ys split (each-behind (Ebbs k) xs ys b)
            by_shape (inr b) = by_part (ends-split Silent Anyone k xs ys b)

        module _ (k : SessionId) (pre body : List Mark) (h : Gxid) (asked : Stmt) (Q : SessionId → Type 0) (is : ms ≡ pre ++ body) where
          whole : (zs ys : List Mark) → body ≡ zs ++ ys → ms ≡ (pre ++ zs) ++ ys
          whole zs ys split = is ∙ ap (λ m. pre ++ m) split ∙ sym (append_assoc pre zs ys)

          ebb-body : (zs ys : List Mark) → body ≡ zs ++ ys → Each (Ebbs k) body → Held script w.steps e k (pre ++ zs)
          ebb-body zs ys split f = ebb-held k (pre ++ zs) ys (whole zs ys split) (each-behind (Ebbs k) zs ys (subst (Each (Ebbs k)) split f))

          heads : (x y : Mark) (xs ys : List Mark) → x ∷ xs ≡ y ∷ ys → (x ≡ y) × (xs ≡ ys)
          heads x y xs ys q = (cc, cc)

          -- its own session
          module _ (says : Says k pre h asked) where
            at-first : Held script w.steps e k (pre ++ [])
            at-first = subst (Held script w.steps e k) (sym (append-nil pre)) (λ line g c r o. absurd ((says line g c r).2 o))

            said-behind : (zs : List Mark) → Each (CalmFor k) zs → (line : Stmt) (g : Gxid) (c : Cid) → Runs script k (marks_in w.steps ++ (pre ++ zs)) (starts_in k w.steps + starts_by k e) line g c → (wanted : Claim) → table_lock script g line ≡ Some wanted → table_lock script h asked ≡ Some wanted
            said-behind zs calm line g c r wanted takes = subst (λ x. table_lock script x asked ≡ Some wanted) i.0 (subst (λ l. table_lock script g l ≡ Some wanted) i.1 takes)
              where
                i : (g ≡ h) × (line ≡ asked) × (IsOut (marks_in w.steps ++ pre) g c → ⊥)
                i = says line g c (runs-back script k (marks_in w.steps ++ pre) zs _ line g c calm (subst (λ m. Runs script k m (starts_in k w.steps + starts_by k e) line g c) (sym (append_assoc (marks_in w.steps) pre zs)) r))

            behind-free : (zs : List Mark) → Each (Free script h asked) zs → Held script w.steps e k (pre ++ zs)
            behind-free [] f = at-first
            behind-free (z ∷ zs) f = λ line g c r o wanted takes. absurd (none-some (table_lock script h asked) wanted f.0.1 (said-behind (z ∷ zs) (each_weaker (Free script h asked) (CalmFor k) (λ m q. plain-calm k m q.0) (z ∷ zs) f) line g c r wanted takes))

            behind-hold : (own : Claim) → table_lock script h asked ≡ Some own → (zs : List Mark) → Each Plain zs → Held script w.steps e k (pre ++ hold_mark the_coordinator own ∷ zs)
            behind-hold own takes zs f =
                λ line g c r o wanted wants.
                subst (λ (x : Claim). IsIn (holds_at (marks_in w.steps ++ (pre ++ hold_mark the_coordinator own ∷ zs)) the_coordinator) x)
                (some-same own wanted (sym takes ∙ said-behind (hold_mark the_coordinator own ∷ zs) (tt, each_weaker Plain (CalmFor k) (plain-calm k) zs f) line g c r wanted wants))
                (subst (λ m. IsIn (holds_at m the_coordinator) own) (append_assoc (marks_in w.steps) pre (hold_mark the_coordinator own ∷ zs))
                (granted-held (marks_in w.steps ++ pre) zs the_coordinator own.gxid own.object own.mode (each_weaker Plain Quiet plain-quiet zs f)))

            own-lock : (l : Locking script k h asked Q body) → (zs ys : List Mark) → body ≡ zs ++ ys → Held script w.steps e k (pre ++ zs)
            own-lock l [] ys split = at-first
            own-lock l (z ∷ zs) ys split = by_shape (subst (Shape Plain Q k) same.1 l.shape)
              where
                same : (hold_mark the_coordinator l.wanted ≡ z) × (l.rest ≡ zs ++ ys)
                same = heads (hold_mark the_coordinator l.wanted) z l.rest (zs ++ ys) (sym l.is ∙ split)

                by_part : Each (Ebbs k) ys ⊎ (Each Plain zs × Ends Plain Q k ys) → Held script w.steps e k (pre ++ z ∷ zs)
                by_part (inl f) = ebb-held k (pre ++ z ∷ zs) ys (whole (z ∷ zs) ys split) f
                by_part (inr f) = subst (λ m. Held script w.steps e k (pre ++ m ∷ zs)) same.0 (behind-hold l.wanted l.takes zs f.0)

                by_shape : Shape Plain Q k (zs ++ ys) → Held script w.steps e k (pre ++ z ∷ zs)
                by_shape (inl f) = by_part (inl (each-behind (Ebbs k) zs ys f))
                by_shape (inr f) = by_part (ends-split Plain Q k zs ys f)

            own-held : Body script k h asked Q body → (zs ys : List Mark) → body ≡ zs ++ ys → Held script w.steps e k (pre ++ zs)
            own-held (inl f) zs ys split = ebb-body zs ys split f
            own-held (inr (inl l)) zs ys split = own-lock l zs ys split
            own-held (inr (inr f)) zs ys split = by_part (ends-split (Free script h asked) Q k zs ys (subst (Ends (Free script h asked) Q k) split f))
              where
                by_part : Each (Ebbs k) ys ⊎ (Each (Free script h asked) zs × Ends (Free script h asked) Q k ys) → Held script w.steps e k (pre ++ zs)
                by_part (inl b) = ebb-held k (pre ++ zs) ys (whole zs ys split) b
                by_part (inr b) = behind-free zs b.0

          -- another session
          module _ (other : (s : SessionId) → Q s → is_same_session s k ≡ false) (before-it : Held script w.steps e k pre) where
            other-lock : (l : Locking script k h asked Q body) → (zs ys : List Mark) → body ≡ zs ++ ys → Held script w.steps e k (pre ++ zs)
            other-lock l [] ys split = subst (Held script w.steps e k) (sym (append-nil pre)) before-it
            other-lock l (z ∷ zs) ys split = ebb-held k (pre ++ z ∷ zs) ys (whole (z ∷ zs) ys split) (each-behind (Ebbs k) zs ys (subst (Each (Ebbs k)) (heads (hold_mark the_coordinator l.wanted) z l.rest (zs ++ ys) (sym l.is ∙ split)).1 (by_shape l.shape)))
              where
                by_shape : Shape Plain Q k l.rest → Each (Ebbs k) l.rest
                by_shape (inl f) = f
                by_shape (inr f) = ends-other Plain Q k (plain-ebbs k) other l.rest f

            other-held : Body script k h asked Q body → (zs ys : List Mark) → body ≡ zs ++ ys → Held script w.steps e k (pre ++ zs)
            other-held (inl f) zs ys split = ebb-body zs ys split f
            other-held (inr (inl l)) zs ys split = other-lock l zs ys split
            other-held (inr (inr f)) zs ys split = ebb-body zs ys split (ends-other (Free script h asked) Q k (free-ebbs script k h asked) other body f)

  -- what happens at the coordinator
  abbrev starts_there : SessionId → NodeEvent → ℕ
  starts_there k (here.Start s) = if is_same_session s k then 1 else 0
  starts_there k _ = 0

  starts-at : (w : World) (e : Event) (x : NodeEvent) → IsThere script w e the_coordinator x → (k : SessionId) → starts_by k e ≡ starts_there k x
  starts-at w e (here.Deliver from envelope) t k = ap (starts_by k) t.event
  starts-at w e (here.Resume g) t k = ap (starts_by k) t
  starts-at w e (here.Start s) t k = ap (starts_by k) t
  starts-at w e (here.End s) t k = ap (starts_by k) t
  starts-at w e (here.Resend i g) t k = ap (starts_by k) t
  starts-at w e here.Round t k = ap (starts_by k) t

  -- A STEP OF THE COORDINATOR
  module _ (w : World) (met : IsMet script w) (e : Event) (x : NodeEvent) (fails : Bool) (t : IsThere script w e the_coordinator x) (ok : coord_can script w.coord x ≡ true) (next_met : IsMet script (coord_did w e (coord_turn script w.coord x fails))) where
    abbrev next : World
    next = coord_did w e (coord_turn script w.coord x fails)

    abbrev step : Step
    step = record { stamp = record { clock = clock_after w.coord.clock x; node = the_coordinator }; event = e; marks = (coord_turn script w.coord x fails).marks }

    marks-are : marks_in (coord_did w e (coord_turn script w.coord x fails)).steps ≡ marks_in w.steps ++ (coord_turn script w.coord x fails).marks
    marks-are = marks_in-push w.steps step

    starts-are : (k : SessionId) → starts_in k (coord_did w e (coord_turn script w.coord x fails)).steps ≡ starts_in k w.steps + starts_by k e
    starts-are k = starts_in-push k w.steps step

    abbrev HeldHere : Type 0
    HeldHere = AreHeld script w.steps e (coord_turn script w.coord x fails).marks

    ebbing : ((k : SessionId) → Each (Ebbs k) (on_event script w.coord x fails).marks) → HeldHere
    ebbing f = all-ebbs w met e next next_met (coord_turn script w.coord x fails).marks marks-are starts-are
        (λ k. each_append (Ebbs k) (on_event script w.coord x fails).marks _ (f k) (sent-ebbs k _ (on_event script w.coord x fails).outs))

    heard : ((k : SessionId) → starts_by k e ≡ 0) → ((k : SessionId) → Shape Silent Anyone k (on_event script w.coord x fails).marks) → HeldHere
    heard none f = told-held w met e next next_met (coord_turn script w.coord x fails).marks marks-are starts-are none
        (λ k. shape-more Silent Anyone k (on_event script w.coord x fails).marks _ (sent-ebbs k _ (on_event script w.coord x fails).outs) (f k))

    -- a statement that has waited
    abbrev Home : Gxid → SessionId → Type 0
    Home g s = s ≡ (work_of w.coord g).session

    resumed : (g : Gxid) → x ≡ here.Resume g → GoesOut script w.coord g → ((k : SessionId) → starts_by k e ≡ 0) → (on_event script w.coord x fails).marks ≡ (resumes script w.coord g (wait_of w.coord.locks g) (work_of w.coord g).waiting).marks → HeldHere
    resumed g is d none same k xs ys split = by_session (is_same_session (work_of w.coord g).session k) refl
      where
        out-is : (o : Option Claim) (l : Option Stmt) → o ≡ Some d.wanted → l ≡ Some d.line → resumes script w.coord g o l ≡ resumes script w.coord g (Some d.wanted) (Some d.line)
        out-is o l p q = cc

        shaped : Locking script k g d.line (Home g) (on_event script w.coord x fails).marks
        shaped = record {
          wanted = d.wanted;
          takes = d.lock;
          rest = _;
          is = same ∙ ap (λ (t : CoordTurn). t.marks) (out-is (wait_of w.coord.locks g) (work_of w.coord g).waiting d.claims d.is);
          shape = locked-shape k (Home g) script (without_wait w.coord g d.wanted) g d.line (ap (λ (v : Work). v.session) (at-self w.coord.works g.0 (record (work_of w.coord g) { waiting = None })));
        }

        body : Body script k g d.line (Home g) (coord_turn script w.coord x fails).marks
        body = body-more script k g d.line (Home g) (on_event script w.coord x fails).marks _ (sent-ebbs k _ (on_event script w.coord x fails).outs) (inr (inl shaped))

        plus-none : (a b : ℕ) → b ≡ 0 → a + b ≡ a
        plus-none a b q = omega arith

        own : (work_of w.coord g).session ≡ k → Says w met e k [] g d.line
        own home line f c r = (txn, by_way its.way, λ o. clash (between w met k line f c run (subst (λ m. IsOut m f c) (append-nil (marks_in w.steps)) o)).0)
          where
            run : Runs script k (marks_in w.steps) (starts_in k w.steps) line f c
            run = subst (λ n. Runs script k (marks_in w.steps) n line f c) (plus-none (starts_in k w.steps) (starts_by k e) (none k)) (subst (λ m. Runs script k m (starts_in k w.steps + starts_by k e) line f c) (append-nil (marks_in w.steps)) r)

            its : IsRun (marks_in w.steps) w.coord k line f c
            its = run-between script w met.sessions.sessions k line f c run

            here-is : (session_of w.coord k).transaction ≡ g
            here-is = subst (λ s. (session_of w.coord s).transaction ≡ g) home d.home

            txn : f ≡ g
            txn = its.txn ∙ here-is

            clash : IsCommandOf (work_of w.coord (session_of w.coord k).transaction) line → ⊥
            clash it = none-some (work_of w.coord g).command it.command d.idle (subst (λ j. (work_of w.coord j).command ≡ Some it.command) here-is it.has_it)

            by_way : IsCommandOf (work_of w.coord (session_of w.coord k).transaction) line ⊎ IsWaitingOf (marks_in w.steps) (work_of w.coord (session_of w.coord k).transaction) line (session_of w.coord k).transaction c → line ≡ d.line
            by_way (inl it) = absurd (clash it)
            by_way (inr it) = some-same line d.line (sym (subst (λ j. (work_of w.coord j).waiting ≡ Some line) here-is it.has_it) ∙ d.is)

        by_session : (b : Bool) → is_same_session (work_of w.coord g).session k ≡ b → Held script w.steps e k xs
        by_session true q =
            own-held w met e next next_met _ marks-are starts-are k [] (coord_turn script w.coord x fails).marks g d.line (Home g) refl (own (same-session (work_of w.coord g).session k q)) body xs ys split
        by_session false q =
            other-held w met e next next_met _ marks-are starts-are k [] (coord_turn script w.coord x fails).marks g d.line (Home g) refl (λ s home. subst (λ j. is_same_session j k ≡ false) (sym home) q) (still-held w met e k [] (none k) tt tt tt) body xs ys split

    -- the session whose line starts
    module _ (s : SessionId) (is : x ≡ here.Start s) (idle : is_nothing (session_of w.coord s).state.pending ≡ true) (asked : Stmt) (is_next : next_line script w.coord s ≡ Some asked) where
      abbrev own_txn : Gxid
      own_txn = (session_of w.coord s).transaction

      abbrev stands : IsSession script s w.steps w.coord
      stands = met.sessions.sessions s

      counts : answer_count s (marks_in w.steps) ≡ (session_of w.coord s).lines
      counts = idle-counts script s (marks_in w.steps) w.coord.table.next.0 (session_of w.coord s).state.block (session_of w.coord s).state.pending (session_of w.coord s).lines own_txn (work_of w.coord own_txn) _ idle (stands.stands)

      line-is : (ms : List Mark) (line : Stmt) → answer_count s ms ≡ answer_count s (marks_in w.steps) → stmt_of s (answer_count s ms + 1) script.lines ≡ Some line → line ≡ asked
      line-is ms line same l = some-same line asked (sym l ∙ ap (λ i. stmt_of s (i + 1) script.lines) (same ∙ counts) ∙ is_next)

      -- before all marks
      first-says : Says w met e s [] own_txn asked
      first-says line g c r = (in-block.txn, line-is (marks_in w.steps) line refl run.is_line, λ o. not-out g c (marks_in w.steps) in-block.unread unsent (subst (λ m. IsOut m g c) (append-nil (marks_in w.steps)) o))
        where
          run : Runs script s (marks_in w.steps) (starts_in s w.steps + starts_by s e) line g c
          run = subst (λ m. Runs script s m (starts_in s w.steps + starts_by s e) line g c) (append-nil (marks_in w.steps)) r

          in-block : IsInBlock (marks_in w.steps) (session_of w.coord s).state.block own_txn (work_of w.coord own_txn) g c
          in-block = idle-block script s (marks_in w.steps) w.coord.table.next.0 (session_of w.coord s).state.block (session_of w.coord s).state.pending (session_of w.coord s).lines own_txn (work_of w.coord own_txn) _ _ asked line g c idle is_next stands.stands run

          live : stage_of w.coord g.0 ≡ Live
          live = subst (λ (j : Gxid). stage_of w.coord j.0 ≡ Live) (sym in-block.txn) ((met.knows.kept.placed s.0).free in-block.stands (nothing-in (session_of w.coord s).state.pending idle))

          unsent : AreUnsent g c (marks_in w.steps)
          unsent = next-unsent script w met.knows met.holds g c live (subst (λ (j : Gxid). (work_of w.coord j).last < c.0) (sym in-block.txn) in-block.later) met.has

      -- behind the start of a transaction
      new-says : Says w met e s (mark.Start w.coord.table.next s ∷ []) w.coord.table.next asked
      new-says line g c r = (txn, line-is (marks_in w.steps ++ mark.Start w.coord.table.next s ∷ []) line z.answered r.is_line, λ o. none (out-front g c (marks_in w.steps) (mark.Start w.coord.table.next s ∷ []) (tt, tt) o))
        where
          z : Said script s (marks_in w.steps ++ mark.Start w.coord.table.next s ∷ []) (answer_count s (marks_in w.steps)) (state_of script s (marks_in w.steps)) true (Some w.coord.table.next)
          z = said-start script s (marks_in w.steps) _ _ (is_begun s (marks_in w.steps)) (started_after s None (marks_in w.steps)) w.coord.table.next (record { answered = refl; state = refl; begun = refl; started = refl })

          by_state : (q : BlockState) → transaction_of q s (marks_in w.steps ++ mark.Start w.coord.table.next s ∷ []) ≡ Some g → g ≡ w.coord.table.next
          by_state Outside t = some-same g w.coord.table.next (sym t ∙ ap (λ u. if u then started_after s None (marks_in w.steps ++ mark.Start w.coord.table.next s ∷ []) else None) z.begun ∙ z.started)
          by_state (InBlock l n) t = some-same g w.coord.table.next (sym t ∙ z.started)
          by_state Failed t = absurd (cc)

          txn : g ≡ w.coord.table.next
          txn = by_state (state_of script s (marks_in w.steps ++ mark.Start w.coord.table.next s ∷ [])) r.transaction

          undrawn : w.coord.table.next.0 ≤ g.0
          undrawn = subst (λ (j : Gxid). w.coord.table.next.0 ≤ j.0) (sym txn) (le-same w.coord.table.next.0)

          none : IsOut (marks_in w.steps) g c → ⊥
          none = not-out g c (marks_in w.steps) (unsnapped (marks_in w.steps) g c (met.sessions.fresh.unread g undrawn)) (new-unsent script w met.knows met.holds g c undrawn met.has)

      abbrev led : Coord
      led = starts_line w.coord s (line_step (session_of w.coord s).state.block asked)

      same-txn : (session_of led s).transaction ≡ own_txn
      same-txn = ap (λ (t : Bool). (if t then record (session_of w.coord s) { lines = (session_of w.coord s).lines + 1; state = after_line (session_of w.coord s).state.block (line_step (session_of w.coord s).state.block asked) } else w.coord.sessions s.0).transaction) (eqb-self s.0)

      home : (b : Block) → (session_of w.coord s).state.block ≡ b → IsHome led s b
      home (block.Open level) q = ap (λ (j : Gxid). (w.coord.works j.0).session) same-txn ∙ in-block-home
        where
          owner : (a b : SessionId) → a.0 ≡ b.0 → a ≡ b
          owner a b q = ap (λ i. let y : SessionId = record { 0 = i } in y) q

          in-block-home : (work_of w.coord own_txn).session ≡ s
          in-block-home = owner _ s ((met.knows.kept.placed s.0).stands (ap is_open_in q)).1
      home block.Outside q = tt
      home block.Failed q = tt

      abbrev all_marks : List Mark
      all_marks = (coord_turn script w.coord x fails).marks

      module _ (same : (coord_turn script w.coord x fails).marks ≡ (on_line script led s asked (line_step (session_of w.coord s).state.block asked)).marks ++ numbered (on_event script w.coord x fails).coord.sent (on_event script w.coord x fails).outs) where
        abbrev line_marks : List Mark
        line_marks = (on_line script led s asked (line_step (session_of w.coord s).state.block asked)).marks

        opens : (k : SessionId) → Opening k script s led asked line_marks
        opens k = line-opens k script s led (session_of w.coord s).state.block asked (home (session_of w.coord s).state.block refl)

        abbrev Its : SessionId → Type 0
        Its j = j ≡ s

        -- a new transaction's start stands first
        split-first : (body xs ys : List Mark) → mark.Start w.coord.table.next s ∷ body ≡ xs ++ ys → (k : SessionId) → Held script w.steps e k [] → ((zs : List Mark) → body ≡ zs ++ ys → Held script w.steps e k (mark.Start w.coord.table.next s ∷ zs)) → Held script w.steps e k xs
        split-first body [] ys q k f g = f
        split-first body (z ∷ zs) ys q k f g = subst (λ m. Held script w.steps e k (m ∷ zs)) first (g zs rest)
          where
            first : mark.Start w.coord.table.next s ≡ z
            first = cc

            rest : body ≡ zs ++ ys
            rest = cc

        own-start : (xs ys : List Mark) → all_marks ≡ xs ++ ys → Held script w.steps e s xs
        own-start xs ys split = by_opening (opens s)
          where
            by_opening : Opening s script s led asked line_marks → Held script w.steps e s xs
            by_opening (inl b) =
                own-held w met e next next_met all_marks marks-are starts-are s [] all_marks own_txn asked Its refl first-says
                (subst (Body script s own_txn asked Its) (sym same) (body-more script s own_txn asked Its line_marks _ (sent-ebbs s _ (on_event script w.coord x fails).outs) (subst (λ j. Body script s j asked Its line_marks) same-txn b))) xs ys split
            by_opening (inr b) =
                split-first (b.0 ++ numbered (on_event script w.coord x fails).coord.sent (on_event script w.coord x fails).outs) xs ys (sym (same ∙ ap (λ m. m ++ numbered (on_event script w.coord x fails).coord.sent (on_event script w.coord x fails).outs) b.1) ∙ split) s
                (λ line g c r o. absurd ((first-says line g c r).2 o))
                (λ zs q. own-held w met e next next_met all_marks marks-are starts-are s (mark.Start w.coord.table.next s ∷ []) _ w.coord.table.next asked Its (same ∙ ap (λ m. m ++ numbered (on_event script w.coord x fails).coord.sent (on_event script w.coord x fails).outs) b.1) new-says
                (body-more script s w.coord.table.next asked Its b.0 _ (sent-ebbs s _ (on_event script w.coord x fails).outs) b.2) zs ys q)

        other-start : (k : SessionId) → is_same_session s k ≡ false → starts_by k e ≡ 0 → (xs ys : List Mark) → all_marks ≡ xs ++ ys → Held script w.steps e k xs
        other-start k apart none xs ys split = by_opening (opens k)
          where
            by_opening : Opening k script s led asked line_marks → Held script w.steps e k xs
            by_opening (inl b) =
                other-held w met e next next_met all_marks marks-are starts-are k [] all_marks (session_of led s).transaction asked Its refl (λ j q. subst (λ i. is_same_session i k ≡ false) (sym q) apart) (still-held w met e k [] none tt tt tt)
                (subst (Body script k (session_of led s).transaction asked Its) (sym same) (body-more script k (session_of led s).transaction asked Its line_marks _ (sent-ebbs k _ (on_event script w.coord x fails).outs) b)) xs ys split
            by_opening (inr b) =
                split-first (b.0 ++ numbered (on_event script w.coord x fails).coord.sent (on_event script w.coord x fails).outs) xs ys (sym (same ∙ ap (λ m. m ++ numbered (on_event script w.coord x fails).coord.sent (on_event script w.coord x fails).outs) b.1) ∙ split) k
                (still-held w met e k [] none tt tt tt)
                (λ zs q. other-held w met e next next_met all_marks marks-are starts-are k (mark.Start w.coord.table.next s ∷ []) _ w.coord.table.next asked Its (same ∙ ap (λ m. m ++ numbered (on_event script w.coord x fails).coord.sent (on_event script w.coord x fails).outs) b.1) (λ j i. subst (λ t. is_same_session t k ≡ false) (sym i) apart)
                (still-held w met e k (mark.Start w.coord.table.next s ∷ []) none (apart, tt) (tt, tt) (tt, tt))
                (body-more script k w.coord.table.next asked Its b.0 _ (sent-ebbs k _ (on_event script w.coord x fails).outs) b.2) zs ys q)

        started : ((k : SessionId) → starts_by k e ≡ (if is_same_session s k then 1 else 0)) → HeldHere
        started starts k xs ys split = by_session (is_same_session s k) refl
          where
            by_session : (b : Bool) → is_same_session s k ≡ b → Held script w.steps e k xs
            by_session true q = subst (λ j. Held script w.steps e j xs) (same-session s k q) (own-start xs ys split)
            by_session false q = other-start k q (starts k ∙ ap (λ b. if b then 1 else 0) q) xs ys split

  -- ALL STEPS
  resent-ebbs : (k : SessionId) (c : Coord) (i : Node) (m : Option Message) → Each (Ebbs k) (resends c i m).marks
  resent-ebbs k c i None = tt
  resent-ebbs k c i (Some told) = tt

  here-held : (w : World) (met : IsMet script w) (e : Event) (x : NodeEvent) (fails : Bool) → IsThere script w e the_coordinator x → coord_can script w.coord x ≡ true → IsMet script (coord_did w e (coord_turn script w.coord x fails))
      → AreHeld script w.steps e (coord_turn script w.coord x fails).marks
  here-held w met e (here.Deliver from envelope) fails t ok next_met =
      heard w met e (here.Deliver from envelope) fails t ok next_met (starts-at w e (here.Deliver from envelope) t) (λ k. message-told k w.coord from fails envelope.message)
  here-held w met e (here.Start s) fails t ok next_met = by_line (next_line script w.coord s) refl
    where
      by_line : (o : Option Stmt) → next_line script w.coord s ≡ o → AreHeld script w.steps e (coord_turn script w.coord (here.Start s) fails).marks
      by_line None q = ebbing w met e (here.Start s) fails t ok next_met (λ k. subst (λ o. Each (Ebbs k) (starts script w.coord s o).marks) (sym q) tt)
      by_line (Some asked) q =
          started w met e (here.Start s) fails t ok next_met s refl (and_parts _ _ ok).0 asked q
          (ap (λ o. (starts script w.coord s o).marks ++ numbered (on_event script w.coord (here.Start s) fails).coord.sent (on_event script w.coord (here.Start s) fails).outs) q)
          (starts-at w e (here.Start s) t)
  here-held w met e (here.End s) fails t ok next_met = ebbing w met e (here.End s) fails t ok next_met (λ k. end-ebbs k w.coord s (session_of w.coord s).state.block)
  here-held w met e (here.Resend i (Some g)) fails t ok next_met = ebbing w met e (here.Resend i (Some g)) fails t ok next_met (λ k. resent-ebbs k w.coord i (awaited w.coord g i))
  here-held w met e (here.Resend i None) fails t ok next_met = ebbing w met e (here.Resend i None) fails t ok next_met (λ k. resent-ebbs k w.coord i (awaited_collect w.coord i))
  here-held w met e (here.Resume g) fails t ok next_met =
      resumed w met e (here.Resume g) fails t ok next_met g refl (going-out script w met.knows g ok) (starts-at w e (here.Resume g) t) refl
  here-held w met e here.Round fails t ok next_met = ebbing w met e here.Round fails t ok next_met (λ k. tt)

  coord-reads : (w : World) (met : IsMet script w) → AreReadsHeld script [] w.steps → (e : Event) (x : NodeEvent) (fails : Bool) → IsThere script w e the_coordinator x → coord_can script w.coord x ≡ true
      → IsMet script (coord_did w e (coord_turn script w.coord x fails)) → AreReadsHeld script [] (coord_did w e (coord_turn script w.coord x fails)).steps
  coord-reads w met q e x fails t ok next_met =
      reads-last script [] w.steps (step w met e x fails t ok next_met) q (each-held script w.steps e [] (coord_turn script w.coord x fails).marks (here-held w met e x fails t ok next_met))

  -- A VICTIM
  module _ (w : World) (met : IsMet script w) (g : Gxid) (h : HasNamed w.steps w.coord.clock w.coord.rounds g) (next_met : IsMet script (and_cancelled w g)) where
    abbrev more : List Mark
    more = (cancel_turn w.coord g).marks

    steps-are : (and_cancelled w g).steps ≡ h.before ++ record h.step { marks = h.step.marks ++ more } ∷ []
    steps-are = ap (λ ss. with_more ss more) h.is ∙ with_more-last h.before h.step more

    starts-same : (k : SessionId) → starts_in k (and_cancelled w g).steps ≡ starts_in k w.steps + 0
    starts-same k =
        ap (starts_in k) steps-are ∙ starts_in-push k h.before (record h.step { marks = h.step.marks ++ more }) ∙ sym (starts_in-push k h.before h.step) ∙ sym (ap (starts_in k) h.is) ∙ same-plus-none (starts_in k w.steps)

    -- as in a step that starts no line
    beside : AreHeld script w.steps event.Round more
    beside =
        told-held w met event.Round (and_cancelled w g) next_met more (marks-by-victim w g h) starts-same (λ k. refl)
        (λ k. shape-more Silent Anyone k (cancels w.coord g).marks _ (sent-ebbs k _ (cancels w.coord g).outs) (cancel-told k w.coord g))

    marks-there : (xs : List Mark) → marks_in w.steps ++ xs ≡ marks_in h.before ++ (h.step.marks ++ xs)
    marks-there xs = ap (λ q. q ++ xs) (ap marks_in h.is ∙ marks_in-push h.before h.step) ∙ append_assoc (marks_in h.before) h.step.marks xs

    starts-there : (k : SessionId) → starts_in k w.steps + 0 ≡ starts_in k h.before + starts_by k h.step.event
    starts-there k = sym (same-plus-none (starts_in k w.steps)) ∙ ap (starts_in k) h.is ∙ starts_in-push k h.before h.step

    there-held : (k : SessionId) (xs ys : List Mark) → more ≡ xs ++ ys → Held script h.before h.step.event k (h.step.marks ++ xs)
    there-held k xs ys split =
        subst (λ zs. (line : Stmt) (f : Gxid) (c : Cid) → Runs script k zs (starts_in k h.before + starts_by k h.step.event) line f c → IsOut zs f c → HoldsTableOf script zs f line) (marks-there xs)
        (subst (λ i. (line : Stmt) (f : Gxid) (c : Cid) → Runs script k (marks_in w.steps ++ xs) i line f c → IsOut (marks_in w.steps ++ xs) f c → HoldsTableOf script (marks_in w.steps ++ xs) f line) (starts-there k) (beside k xs ys split))

    victim-reads : AreReadsHeld script [] w.steps → AreReadsHeld script [] (and_cancelled w g).steps
    victim-reads q =
        subst (AreReadsHeld script []) (sym steps-are)
        (reads-more script [] h.before h.step more (subst (AreReadsHeld script []) h.is q) (each-held script h.before h.step.event h.step.marks more there-held))

  -- A STEP OF A SEGMENT
  module _ (w : World) (met : IsMet script w) (e : Event) (x : NodeEvent) (fails : Bool) (i : ℕ) (place : IsSegment script (at i)) (next_met : IsMet script (seg_did w (at i) e (seg_rule script (w.segs i) x fails))) where
    abbrev seg_step : Step
    seg_step = record { stamp = record { clock = clock_after (w.segs i).clock x; node = at i }; event = e; marks = (seg_rule script (w.segs i) x fails).marks }

    at-held : AreHeld script w.steps e (seg_rule script (w.segs i) x fails).marks
    at-held =
        all-ebbs w met e (seg_did w (at i) e (seg_rule script (w.segs i) x fails)) next_met (seg_rule script (w.segs i) x fails).marks (marks_in-push w.steps seg_step) (λ k. starts_in-push k w.steps seg_step)
        (λ k. at-node-ebbs script k (at i) place.0 (seg_rule script (w.segs i) x fails).marks (seg_marks script w met.knows.well e x fails i place))

    seg-reads : AreReadsHeld script [] w.steps → AreReadsHeld script [] (seg_did w (at i) e (seg_rule script (w.segs i) x fails)).steps
    seg-reads q = reads-last script [] w.steps seg_step q (each-held script w.steps e [] (seg_rule script (w.segs i) x fails).marks at-held)

  pub reads-held : (es : List (Event × Bool)) → AreReadsHeld script [] (world_of script es).steps
  reads-held =
      at-events script some (IsMet script) (λ w. AreReadsHeld script [] w.steps) (moves-met script some) tt (λ w met q e x fails t ok next_met. coord-reads w met q e x fails t ok next_met) (λ w met q g h next_met. victim-reads w met g h next_met q)
      (λ w met q e x fails i place t ok next_met. seg-reads w met e x fails i place next_met q)
