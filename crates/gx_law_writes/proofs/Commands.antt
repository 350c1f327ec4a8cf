-- A command under way holds its table at the coordinator.
use Rattle.std.proofs.Common.{◌≡◌, ◌<◌, ◌⊎◌, ◌||◌, not, cond, ◌==◌, inl, inr, ℕ, ◌+◌, List, [], ◌∷◌, ◌++◌, Option, Some, None, Bool, true, false, refl, sym, subst, ap, ◌∙◌, if◌then◌else◌, arith}
use Rattle.std.specs.List.{list_any}
use Rattle.std.specs.Prelude.{find, is_some}
use Rattle.std.proofs.lemmas.Bool.{or_right}
use Rattle.gx_lemmas.proofs.Options.{some-same}
use Rattle.gx_lemmas.proofs.Tests.{true-false}
use Rattle.gx_ids.specs.declared.ids.Cid.{Cid}
use Rattle.gx_ids.specs.declared.ids.Gxid.{Gxid}
use Rattle.gx_ids.specs.declared.ids.SessionId.{SessionId}
use Rattle.gx_tree.specs.declared.stmt.Level.{Level}
use Rattle.gx_tree.specs.declared.stmt.Stmt.{Stmt}
use Rattle.gx_tree.specs.declared.stmt.Stmt.TheVariants as stmt
use Rattle.gx_waits.specs.declared.claim.Claim.{Claim}
use Rattle.gx_script.specs.declared.Script.{Script}
use Rattle.gx_script.specs.declared.state.Block.{Block}
use Rattle.gx_script.specs.declared.state.Block.TheVariants as block
use Rattle.gx_script.specs.declared.state.Pending.{Pending}
use Rattle.gx_script.specs.declared.state.Pending.TheVariants as pending
use Rattle.gx_store.specs.declared.event.Event.{Event}
use Rattle.gx_store.specs.declared.mark.Mark.{Mark}
use Rattle.gx_store.specs.declared.mark.Mark.TheVariants as mark
use Rattle.gx_store.specs.declared.run.Step.{Step}
use Rattle.gx_store.proofs.Exclusive.{holds_from-append}
use Rattle.gx_store.specs.Commands.{RunsCommand}
use Rattle.gx_store.specs.Lines.{BlockState, Failed, InBlock, Outside, cid_of, is_command, state_of, stmt_of, transaction_of}
use Rattle.gx_store.specs.Locks.{HoldsTable, table_lock}
use Rattle.gx_store.specs.Marks.{answer_count, is_begun, is_snapped, started_after}
use Rattle.gx_store.specs.Points.{marks_in, starts_by, starts_in}
use Rattle.gx_store.specs.Refusals.{the_coordinator}
use Rattle.gx_store.specs.Waits.{holds_at, holds_from, is_held, waits_at, waits_from}
use Rattle.gx_waits.specs.Claims.{claim, is_of, with_claim, without_claim}
use Rattle.gx_rules.specs.Coordinators.{Command, Coord, Work, session_of, work_of}
use Rattle.gx_rules.specs.Machine.{World}
use Rattle.gx_locks.specs.Locks.{wait_of}
use Rattle.gx_locks.proofs.Filed.{same_claim-along, same_claim-itself, same_claim-turned}
use Rattle.gx_waits.specs.Claim.{same_claim}
use Rattle.gx_law_order.specs.Lists.{Each}
use Rattle.gx_law_order.proofs.Queued.{lock-of, statement-waits}
use Rattle.gx_law_order.specs.Sessions.{Kept}
use Rattle.gx_law_order.specs.Stages.{stage_of}
use Rattle.gx_law_order.specs.Stages.Stage.{Live}
use Rattle.gx_law_locks.proofs.Marks.{waits_from-append}
use Rattle.gx_law_order.proofs.Said.{CalmFor, Said, said-calm}
use Rattle.gx_law_order.specs.Standing.{IsLineOf, IsSession, IsStanding, Owns, Stands, is_alone, is_busy, is_sound, state_in}
use Rattle.gx_law_writes.specs.Commands.{AreLeftAlone, AreUnsent, AwaitsTable, DoCommandsHold, HasNotGoneOut}
use Rattle.gx_law_locks.proofs.Going.{CommandLocked, HasLock}
use Rattle.gx_law_locks.proofs.Lasting.{IsIn, in-added, in-filter, in-new, in-without}

-- THE TABLE
-- the transaction holds at the coordinator the lock that the statement takes on its table
abbrev pub HoldsTableOf : Script → List Mark → Gxid → Stmt → Type 0
HoldsTableOf script marks g line = (wanted : Claim) → table_lock script g line ≡ Some wanted → is_held marks the_coordinator wanted.gxid wanted.object wanted.mode ≡ true

-- what the rule takes is what is meant
pub as-meant : (script : Script) (marks : List Mark) (g : Gxid) (line : Stmt) → HoldsTableOf script marks g line → HoldsTable script marks g line
as-meant script marks g (stmt.Select query) h = h _ refl
as-meant script marks g (stmt.Insert table tuples) h = h _ refl
as-meant script marks g (stmt.Update table assigns cond) h = h _ refl
as-meant script marks g (stmt.Delete table cond) h = h _ refl
as-meant script marks g (stmt.Lock table mode) h = h _ refl
as-meant script marks g (stmt.Begin level) h = tt
as-meant script marks g stmt.Commit h = tt
as-meant script marks g stmt.Rollback h = tt

-- MARKS
calm-for : (k : SessionId) (g : Gxid) (ms : List Mark) → AreLeftAlone k g ms → Each (CalmFor k) ms
calm-for k g [] e = tt
calm-for k g (mark.Start h s ∷ ms) e = (e.0, calm-for k g ms e.1)
calm-for k g (mark.Answer s n a ∷ ms) e = (e.0, calm-for k g ms e.1)
calm-for k g (m ∷ ms) e = (tt, calm-for k g ms e.1)

stays-in : (k : SessionId) (g : Gxid) (c : Claim) (holds : List Claim) (ms : List Mark) → c.gxid ≡ g → AreLeftAlone k g ms → IsIn holds c → IsIn (holds_from the_coordinator holds ms) c
stays-in k g c holds [] own e h = h
stays-in k g c holds (mark.Hold n f object mode ∷ ms) own e h = stays-in k g c (if n.0 == 0 then with_claim (claim f object mode) holds else holds) ms own e.1 (by_test (n.0 == 0))
  where
    by_test : (b : Bool) → IsIn (if b then with_claim (claim f object mode) holds else holds) c
    by_test true = in-added (claim f object mode) c holds h
    by_test false = h
stays-in k g c holds (mark.Release n f object mode ∷ ms) own e h = stays-in k g c (if n.0 == 0 then without_claim (claim f object mode) holds else holds) ms own e.1 (by_test (n.0 == 0))
  where
    by_test : (b : Bool) → IsIn (if b then without_claim (claim f object mode) holds else holds) c
    by_test true = in-without (claim f object mode) c holds (ap (λ (x : Gxid). x.0 == f.0) own ∙ e.0) h
    by_test false = h
stays-in k g c holds (m ∷ ms) own e h = stays-in k g c holds ms own e.1 h

-- what waits there goes on waiting, or has its lock
same-in : (a b : Claim) (xs : List Claim) → same_claim a b ≡ true → IsIn xs a → IsIn xs b
same-in a b [] e h = h
same-in a b (x ∷ xs) e h = by_test (same_claim a x) (sym (same_claim-along a b x e)) h (same-in a b xs e)
  where
    by_test : (q : Bool) → same_claim b x ≡ q → (q || list_any (same_claim a) xs) ≡ true → (IsIn xs a → IsIn xs b) → (same_claim b x || list_any (same_claim b) xs) ≡ true
    by_test true f h more = ap (λ q. q || list_any (same_claim b) xs) f
    by_test false f h more = ap (λ q. q || list_any (same_claim b) xs) f ∙ more h

in-apart : (old c : Claim) (xs : List Claim) → same_claim old c ≡ false → IsIn xs c → IsIn (without_claim old xs) c
in-apart old c xs e h = in-filter (λ x. not (same_claim old x)) c xs (λ x s. differs x s (same_claim old x) refl) h
  where
    differs : (x : Claim) → same_claim c x ≡ true → (b : Bool) → same_claim old x ≡ b → not (same_claim old x) ≡ true
    differs x s false f = ap not f
    differs x s true f = absurd (true-false (same_claim old c) (same_claim-along old x c f ∙ same_claim-turned c x s) e)

stays-either : (k : SessionId) (g : Gxid) (c : Claim) (holds waits : List Claim) (ms : List Mark) → c.gxid ≡ g → AreLeftAlone k g ms → IsIn holds c ⊎ IsIn waits c → IsIn (holds_from the_coordinator holds ms) c ⊎ IsIn (waits_from the_coordinator waits ms) c
stays-either k g c holds waits [] own e h = h
stays-either k g c holds waits (mark.Hold n f object mode ∷ ms) own e h =
    stays-either k g c (if n.0 == 0 then with_claim (claim f object mode) holds else holds) (if n.0 == 0 then without_claim (claim f object mode) waits else waits) ms own e.1 (by_test (n.0 == 0) h)
  where
    by_claim : (b : Bool) → same_claim (claim f object mode) c ≡ b → IsIn waits c → IsIn (with_claim (claim f object mode) holds) c ⊎ IsIn (without_claim (claim f object mode) waits) c
    by_claim true q w = inl (same-in (claim f object mode) c (with_claim (claim f object mode) holds) q (in-new (claim f object mode) holds))
    by_claim false q w = inr (in-apart (claim f object mode) c waits q w)

    by_test : (b : Bool) → IsIn holds c ⊎ IsIn waits c → IsIn (if b then with_claim (claim f object mode) holds else holds) c ⊎ IsIn (if b then without_claim (claim f object mode) waits else waits) c
    by_test true (inl x) = inl (in-added (claim f object mode) c holds x)
    by_test true (inr x) = by_claim (same_claim (claim f object mode) c) refl x
    by_test false x = x
stays-either k g c holds waits (mark.Wait n f object mode ∷ ms) own e h = stays-either k g c holds (if n.0 == 0 then with_claim (claim f object mode) waits else waits) ms own e.1 (by_test (n.0 == 0) h)
  where
    by_test : (b : Bool) → IsIn holds c ⊎ IsIn waits c → IsIn holds c ⊎ IsIn (if b then with_claim (claim f object mode) waits else waits) c
    by_test true (inl x) = inl x
    by_test true (inr x) = inr (in-added (claim f object mode) c waits x)
    by_test false x = x
stays-either k g c holds waits (mark.Release n f object mode ∷ ms) own e h =
    stays-either k g c (if n.0 == 0 then without_claim (claim f object mode) holds else holds) (if n.0 == 0 then without_claim (claim f object mode) waits else waits) ms own e.1 (by_test (n.0 == 0) h)
  where
    apart : (c.gxid.0 == f.0) ≡ false
    apart = ap (λ (x : Gxid). x.0 == f.0) own ∙ e.0

    by_test : (b : Bool) → IsIn holds c ⊎ IsIn waits c → IsIn (if b then without_claim (claim f object mode) holds else holds) c ⊎ IsIn (if b then without_claim (claim f object mode) waits else waits) c
    by_test true (inl x) = inl (in-without (claim f object mode) c holds apart x)
    by_test true (inr x) = inr (in-without (claim f object mode) c waits apart x)
    by_test false x = x
stays-either k g c holds waits (mark.Start f s ∷ ms) own e h = stays-either k g c holds waits ms own e.1 h
stays-either k g c holds waits (mark.Answer s n a ∷ ms) own e h = stays-either k g c holds waits ms own e.1 h
stays-either k g c holds waits (m ∷ ms) own e h = stays-either k g c holds waits ms own e.1 h

-- WHAT RUNS BETWEEN STEPS
pub record Runs (script : Script) (k : SessionId) (marks : List Mark) (starts : ℕ) (line : Stmt) (g : Gxid) (c : Cid) : Type 0 where
  pub started : starts ≡ answer_count k marks + 1
  pub is_line : stmt_of k (answer_count k marks + 1) script.lines ≡ Some line
  pub command : is_command (state_of script k marks) line ≡ true
  pub transaction : transaction_of (state_of script k marks) k marks ≡ Some g
  pub number : c ≡ cid_of (state_of script k marks)

-- where the session's own marks say the same
runs-same : (script : Script) (k : SessionId) (xs ys : List Mark) (starts : ℕ) (line : Stmt) (g : Gxid) (c : Cid) → answer_count k ys ≡ answer_count k xs → state_of script k ys ≡ state_of script k xs → is_begun k ys ≡ is_begun k xs → started_after k None ys ≡ started_after k None xs → Runs script k xs starts line g c → Runs script k ys starts line g c
runs-same script k xs ys starts line g c answered state begun started r =
    record {
      started = r.started ∙ ap (λ i. i + 1) (sym answered);
      is_line = subst (λ i. stmt_of k (i + 1) script.lines ≡ Some line) (sym answered) r.is_line;
      command = subst (λ b. is_command b line ≡ true) (sym state) r.command;
      transaction = ap (λ q. transaction_of q k ys) state ∙ by_state (state_of script k xs) ∙ r.transaction;
      number = r.number ∙ ap cid_of (sym state);
    }
  where
    by_state : (q : BlockState) → transaction_of q k ys ≡ transaction_of q k xs
    by_state Outside = ap (λ u. if u then started_after k None ys else None) begun ∙ ap (λ h. if is_begun k xs then h else None) started
    by_state (InBlock l n) = started
    by_state Failed = refl

module _ (script : Script) (k : SessionId) (xs ys : List Mark) (starts : ℕ) (line : Stmt) (g : Gxid) (c : Cid) (calm : Each (CalmFor k) ys) where
  z : Said script k (xs ++ ys) (answer_count k xs) (state_of script k xs) (is_begun k xs) (started_after k None xs)
  z = said-calm script k xs ys _ _ _ _ (record { answered = refl; state = refl; begun = refl; started = refl }) calm

  pub runs-on : Runs script k xs starts line g c → Runs script k (xs ++ ys) starts line g c
  runs-on r = runs-same script k xs (xs ++ ys) starts line g c z.answered z.state z.begun z.started r

  pub runs-back : Runs script k (xs ++ ys) starts line g c → Runs script k xs starts line g c
  runs-back r = runs-same script k (xs ++ ys) xs starts line g c (sym z.answered) (sym z.state) (sym z.begun) (sym z.started) r

pub runs-here : (script : Script) (steps : List Step) (event : Event) (earlier later : List Mark) (k : SessionId) (line : Stmt) (level : Level) (g : Gxid) (c : Cid) → RunsCommand script (record { steps = steps; event = event; earlier = earlier; later = later }) k line level g c → Runs script k (marks_in steps ++ earlier) (starts_in k steps + starts_by k event) line g c
runs-here script steps event earlier later k line level g c r = record { started = r.line.started; is_line = r.line.line; command = r.command; transaction = r.transaction; number = r.number }

-- it ran so before marks that leave it alone
ran-before : (script : Script) (steps : List Step) (event : Event) (earlier later : List Mark) (k : SessionId) (line : Stmt) (level : Level) (g : Gxid) (c : Cid) → starts_by k event ≡ 0 → Each (CalmFor k) earlier → RunsCommand script (record { steps = steps; event = event; earlier = earlier; later = later }) k line level g c → Runs script k (marks_in steps) (starts_in k steps) line g c
ran-before script steps event earlier later k line level g c none calm r =
    subst (λ n. Runs script k (marks_in steps) n line g c) (plus-none (starts_in k steps) (starts_by k event) none)
    (runs-back script k (marks_in steps) earlier (starts_in k steps + starts_by k event) line g c calm (runs-here script steps event earlier later k line level g c r))
  where
    plus-none : (a b : ℕ) → b ≡ 0 → a + b ≡ a
    plus-none a b e = omega arith

-- the line under way is the coordinator's command
pub record IsCommandOf (w : Work) (line : Stmt) : Type 0 where
  pub command : Command
  pub has_it : w.command ≡ Some command
  pub is_line : command.stmt ≡ line

-- or the statement that waits there, which has no snapshot yet
pub record IsWaitingOf (marks : List Mark) (w : Work) (line : Stmt) (h : Gxid) (c : Cid) : Type 0 where
  pub has_it : w.waiting ≡ Some line
  pub next : w.last < c.0
  pub unsnapped : is_snapped marks h c ≡ false

module _ (script : Script) (k : SessionId) (marks : List Mark) (next starts lines : ℕ) (line : Stmt) (g h : Gxid) (c : Cid) (w : Work) (r : Runs script k marks starts line g c) (same : starts ≡ lines) where
  abbrev Way : Type 0
  Way = IsCommandOf w line ⊎ IsWaitingOf marks w line h c

  its-line : stmt_of k lines script.lines ≡ Some line
  its-line = subst (λ i. stmt_of k i script.lines ≡ Some line) (sym r.started ∙ same) r.is_line

  by-line : (b : Block) (n : ℕ) → state_of script k marks ≡ state_in b n → Owns k n marks next b h w → IsLineOf script k lines b n w pending.Command → Way
  by-line b n state o (inl l) = inl (record { command = l.0; has_it = l.1; is_line = some-same l.0.stmt line (sym l.2 ∙ its-line) })
  by-line b n state o (inr l) =
      inr
      (record {
        has_it = l.1 ∙ ap (λ x. Some x) (some-same l.0 line (sym l.3 ∙ its-line));
        next = later w.last c.0 (ap (λ (x : Cid). x.0) (r.number ∙ ap cid_of state) ∙ l.5);
        unsnapped = o.unsnapped c (later w.last c.0 (ap (λ (x : Cid). x.0) (r.number ∙ ap cid_of state) ∙ l.5));
      })
    where
      later : (a b : ℕ) → b ≡ a + 1 → a < b
      later a b e = omega arith

  by-transaction : (b : Block) (n : ℕ) → is_busy b pending.Command ≡ true → state_of script k marks ≡ state_in b n → is_begun k marks ≡ is_alone b pending.Command → started_after k None marks ≡ Some h → g ≡ h
  by-transaction block.Outside n busy state begun started = some-same g h (sym r.transaction ∙ ap (λ q. transaction_of q k marks) state ∙ ap (λ u. if u then started_after k None marks else None) begun ∙ started)
  by-transaction (block.Open level) n busy state begun started = some-same g h (sym r.transaction ∙ ap (λ q. transaction_of q k marks) state ∙ started)
  by-transaction block.Failed n busy state begun started = absurd (true-false (is_busy block.Failed pending.Command) busy refl)

  not-commit : (b : Block) (n : ℕ) → state_of script k marks ≡ state_in b n → line ≡ stmt.Commit → ⊥
  not-commit b n state is = true-false (is_command (state_of script k marks) line) r.command (ap (λ l. is_command (state_of script k marks) l) is ∙ commit-none (state_of script k marks))
    where
      commit-none : (q : BlockState) → is_command q stmt.Commit ≡ false
      commit-none Outside = refl
      commit-none (InBlock l c) = refl
      commit-none Failed = refl

  waits-none : answer_count k marks + 0 ≡ lines → ⊥
  waits-none e = over (answer_count k marks) starts lines r.started same e
    where
      over : (a s l : ℕ) → s ≡ a + 1 → s ≡ l → a + 0 ≡ l → ⊥
      over a s l e f h = omega arith

  stands-so : (b : Block) (p : Pending) → Stands script k marks next b p lines h w → (g ≡ h) × Way
  stands-so b pending.Nothing s = absurd (waits-none s.answered)
  stands-so block.Outside pending.Command s = let o = s.owns refl in (by-transaction block.Outside s.commands refl s.state s.begun o.0.started, by-line block.Outside s.commands s.state o.0 o.1)
  stands-so (block.Open l) pending.Command s = let o = s.owns refl in (by-transaction (block.Open l) s.commands refl s.state s.begun o.0.started, by-line (block.Open l) s.commands s.state o.0 o.1)
  stands-so block.Failed pending.Command s = absurd (true-false (is_sound block.Failed pending.Command) s.sound refl)
  stands-so (block.Open l) pending.Commit s = let o = s.owns refl in absurd (not-commit (block.Open l) s.commands s.state (some-same line stmt.Commit (sym its-line ∙ o.1.1)))
  stands-so block.Outside pending.Commit s = absurd (true-false (is_sound block.Outside pending.Commit) s.sound refl)
  stands-so block.Failed pending.Commit s = absurd (true-false (is_sound block.Failed pending.Commit) s.sound refl)

  standing-so : (b : Block) (p : Pending) (ends : ℕ) → IsStanding script k marks next b p lines h w ends → (g ≡ h) × Way
  standing-so b p ends (inl s) = stands-so b p s.1
  standing-so b p ends (inr o) = absurd (waits-none (plus (answer_count k marks) lines o.1.answered))
    where
      plus : (a l : ℕ) → a ≡ l → a + 0 ≡ l
      plus a l e = omega arith

-- AT EACH POINT
-- the transaction is its session's, which has the command, or the statement that waits
pub record IsRun (marks : List Mark) (c : Coord) (k : SessionId) (line : Stmt) (g : Gxid) (n : Cid) : Type 0 where
  pub txn : g ≡ (session_of c k).transaction
  pub way : IsCommandOf (work_of c (session_of c k).transaction) line ⊎ IsWaitingOf marks (work_of c (session_of c k).transaction) line (session_of c k).transaction n

pub run-between : (script : Script) (w : World) → ((k : SessionId) → IsSession script k w.steps w.coord) → (k : SessionId) (line : Stmt) (g : Gxid) (c : Cid) → Runs script k (marks_in w.steps) (starts_in k w.steps) line g c → IsRun (marks_in w.steps) w.coord k line g c
run-between script w sessions k line g c r = record { txn = its.0; way = its.1 }
  where
    h : Gxid
    h = (session_of w.coord k).transaction

    its : (g ≡ (session_of w.coord k).transaction) × (IsCommandOf (work_of w.coord (session_of w.coord k).transaction) line ⊎ IsWaitingOf (marks_in w.steps) (work_of w.coord (session_of w.coord k).transaction) line (session_of w.coord k).transaction c)
    its = standing-so script k (marks_in w.steps) w.coord.table.next.0 (starts_in k w.steps) (session_of w.coord k).lines line g h c (work_of w.coord h) r (sessions k).starts (session_of w.coord k).state.block (session_of w.coord k).state.pending _ (sessions k).stands

pub run-is : (script : Script) (w : World) → ((k : SessionId) → IsSession script k w.steps w.coord) → (event : Event) (earlier later : List Mark) (k : SessionId) (line : Stmt) (level : Level) (g : Gxid) (c : Cid) → starts_by k event ≡ 0 → AreLeftAlone k g earlier → RunsCommand script (record { steps = w.steps; event = event; earlier = earlier; later = later }) k line level g c → IsRun (marks_in w.steps) w.coord k line g c
run-is script w sessions event earlier later k line level g c none alone runs =
    run-between script w sessions k line g c (ran-before script w.steps event earlier later k line level g c none (calm-for k g earlier alone) runs)

-- a wait is among the waits
wait-in : (g : Gxid) (waits : List Claim) (wanted : Claim) → find (is_of g) waits ≡ Some wanted → IsIn waits wanted
wait-in g [] wanted e = absurd (cc)
wait-in g (x ∷ xs) wanted e = by_test (is_of g x) e (wait-in g xs wanted)
  where
    by_test : (b : Bool) → cond b (Some x) (find (is_of g) xs) ≡ Some wanted → (find (is_of g) xs ≡ Some wanted → IsIn xs wanted) → IsIn (x ∷ xs) wanted
    by_test true q more = subst (λ y. IsIn (x ∷ xs) y) (some-same x wanted q) (ap (λ b. b || list_any (same_claim x) xs) (same_claim-itself x))
    by_test false q more = or_right (same_claim wanted x) (list_any (same_claim wanted) xs) (more q)

module _ (script : Script) (w : World) (sessions : (k : SessionId) → IsSession script k w.steps w.coord) (kept : Kept script w.coord) (locked : (j : ℕ) → CommandLocked script w.coord.locks.holds j (w.coord.works j).command) (marked : w.coord.locks.holds ≡ holds_at (marks_in w.steps) the_coordinator) (queued : w.coord.locks.waits ≡ waits_at (marks_in w.steps) the_coordinator) where
  has : (h : Gxid) (q : Option Command) → CommandLocked script w.coord.locks.holds h.0 q → (m : Command) → q ≡ Some m → HasLock script w.coord.locks.holds h m.stmt
  has h None e m same = absurd (cc)
  has h (Some a) e m same = subst (λ (x : Command). HasLock script w.coord.locks.holds h x.stmt) (some-same a m same) e.0

  -- a command that has gone out holds its table
  pub out-holds : (earlier : List Mark) (k : SessionId) (line : Stmt) (g : Gxid) → AreLeftAlone k g earlier → g ≡ (session_of w.coord k).transaction → IsCommandOf (work_of w.coord (session_of w.coord k).transaction) line → HoldsTableOf script (marks_in w.steps ++ earlier) g line
  out-holds earlier k line g alone txn it wanted takes =
      subst (λ hs. IsIn hs wanted) (sym (holds_from-append the_coordinator [] (marks_in w.steps) earlier))
      (stays-in k g wanted (holds_at (marks_in w.steps) the_coordinator) earlier (lock-of script g line wanted takes) alone (subst (λ hs. IsIn hs wanted) marked (there wanted takes)))
    where
      there : HasLock script w.coord.locks.holds g line
      there =
          subst (λ x. HasLock script w.coord.locks.holds x line) (sym txn)
          (subst (λ l. HasLock script w.coord.locks.holds (session_of w.coord k).transaction l) it.is_line (has (session_of w.coord k).transaction (work_of w.coord (session_of w.coord k).transaction).command (locked (session_of w.coord k).transaction.0) it.command it.has_it))

  -- a statement that waits holds it or waits for it
  some-lock : (o : Option Claim) → is_some o ≡ true → (wanted : Claim) × (o ≡ Some wanted)
  some-lock None e = absurd (cc)
  some-lock (Some wanted) e = (wanted, refl)

  same-lock : (o : Option Claim) (a b : Claim) → o ≡ Some a → o ≡ Some b → a ≡ b
  same-lock o a b e f = cc

  waits-or : (earlier : List Mark) (k : SessionId) (line : Stmt) (g : Gxid) (c : Cid) → AreLeftAlone k g earlier → (work_of w.coord g).waiting ≡ Some line → HoldsTableOf script (marks_in w.steps ++ earlier) g line ⊎ AwaitsTable script (marks_in w.steps ++ earlier) g line
  waits-or earlier k line g c alone it = by_either (stays-either k g wanted (holds_at (marks_in w.steps) the_coordinator) (waits_at (marks_in w.steps) the_coordinator) earlier (lock-of script g line wanted takes) alone (inr (subst (λ ws. IsIn ws wanted) queued (wait-in g w.coord.locks.waits wanted stands))))
    where
      found : (wanted : Claim) × (table_lock script g line ≡ Some wanted)
      found = some-lock (table_lock script g line) ((kept.queued g.0).locks line it)

      wanted : Claim
      wanted = found.0

      takes : table_lock script g line ≡ Some wanted
      takes = found.1

      stands : wait_of w.coord.locks g ≡ Some wanted
      stands = statement-waits g.0 (work_of w.coord g).waiting w.coord.locks (kept.queued g.0) line it ∙ takes

      by_either : IsIn (holds_from the_coordinator (holds_at (marks_in w.steps) the_coordinator) earlier) wanted ⊎ IsIn (waits_from the_coordinator (waits_at (marks_in w.steps) the_coordinator) earlier) wanted → HoldsTableOf script (marks_in w.steps ++ earlier) g line ⊎ AwaitsTable script (marks_in w.steps ++ earlier) g line
      by_either (inl h) = inl (λ v q. subst (λ hs. IsIn hs v) (sym (holds_from-append the_coordinator [] (marks_in w.steps) earlier)) (subst (λ v. IsIn (holds_from the_coordinator (holds_at (marks_in w.steps) the_coordinator) earlier) v) (same-lock (table_lock script g line) wanted v takes q) h))
      by_either (inr h) = inr (record { wanted = wanted; takes = takes; stands = subst (λ ws. IsIn ws wanted) (sym (waits_from-append the_coordinator [] (marks_in w.steps) earlier)) h })

  pub commands-hold : ((g : Gxid) (c : Cid) → stage_of w.coord g.0 ≡ Live → (w.coord.works g.0).last < c.0 → AreUnsent g c (marks_in w.steps)) → DoCommandsHold script w.steps
  commands-hold next-unsent event earlier later k line level g c none alone runs = by_way its.way
    where
      its : IsRun (marks_in w.steps) w.coord k line g c
      its = run-is script w sessions event earlier later k line level g c none alone runs

      either : {A B C D : Type 0} → (A → D) → A ⊎ B → C → D ⊎ (B × C)
      either f (inl a) c = inl (f a)
      either f (inr b) c = inr (b, c)

      by_way : IsCommandOf (work_of w.coord (session_of w.coord k).transaction) line ⊎ IsWaitingOf (marks_in w.steps) (work_of w.coord (session_of w.coord k).transaction) line (session_of w.coord k).transaction c → HoldsTable script (marks_in w.steps ++ earlier) g line ⊎ (AwaitsTable script (marks_in w.steps ++ earlier) g line × HasNotGoneOut (marks_in w.steps) g c)
      by_way (inl it) = inl (as-meant script (marks_in w.steps ++ earlier) g line (out-holds earlier k line g alone its.txn it))
      by_way (inr it) =
          let waits : (work_of w.coord g).waiting ≡ Some line = subst (λ x. (work_of w.coord x).waiting ≡ Some line) (sym its.txn) it.has_it in
          either (as-meant script (marks_in w.steps ++ earlier) g line) (waits-or earlier k line g c alone waits)
          (record {
            unsnapped = subst (λ x. is_snapped (marks_in w.steps) x c ≡ false) (sym its.txn) it.unsnapped;
            unsent = next-unsent g c ((kept.tied g.0).waits line waits).0 (subst (λ x. (work_of w.coord x).last < c.0) (sym its.txn) it.next);
          })
