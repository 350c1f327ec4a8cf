-- In every run, what is sent is let through where it comes to.
use Rattle.std.proofs.Common.{◌≡◌, ◌≤◌, ◌<◌, ◌⊎◌, inl, inr, ℕ, ◌+◌, ◌-◌, zero, suc, List, [], ◌∷◌, Option, Some, None, Bool, true, false, not, is_some, refl, sym, subst, ap, ◌∙◌, if◌then◌else◌, ◌&&◌, ◌||◌, ◌==◌, nat_lt, arith}
use Rattle.std.proofs.lemmas.Bool.{and_from, and_parts}
use Rattle.std.proofs.lemmas.Bool.Decides.{nat_tests}
use Rattle.std.proofs.lemmas.List.Elements.{All-contains, recursion_from_All}
use Rattle.std.specs.List.{AllByRecursion}
use Rattle.std.specs.Prelude.{length, nat_le}
use Rattle.gx_lemmas.proofs.Tests.{true-false}
use Rattle.gx_ids.specs.declared.ids.Cid.{Cid}
use Rattle.gx_ids.specs.declared.ids.Gxid.{Gxid}
use Rattle.gx_ids.specs.declared.ids.Node.{Node}
use Rattle.gx_ids.specs.declared.ids.SessionId.{SessionId}
use Rattle.gx_tree.specs.declared.slice.Slice.{Slice}
use Rattle.gx_tree.specs.declared.slice.Slice.TheVariants as slice
use Rattle.gx_tree.specs.declared.stmt.Level.{Level}
use Rattle.gx_tree.specs.declared.stmt.Stmt.{Stmt}
use Rattle.gx_tree.specs.declared.stmt.Stmt.TheVariants as stmt
use Rattle.gx_dsnap.specs.declared.snapshot.Snapshot.{Snapshot}
use Rattle.gx_meaning.specs.Statements.{IsStmtOf}
use Rattle.gx_meaning.specs.declared.piece.Piece.{Piece}
use Rattle.gx_msg.specs.declared.message.Message.{Message}
use Rattle.gx_msg.specs.declared.message.Message.TheVariants as message
use Rattle.gx_msg.specs.declared.reply.Reply.TheVariants as reply
use Rattle.gx_script.specs.declared.Line.{Line}
use Rattle.gx_script.specs.declared.Script.{Script}
use Rattle.gx_store.specs.Language.{IsLine, IsScript}
use Rattle.gx_store.specs.Lines.{InBlock, is_command, stmt_of}
use Rattle.gx_store.specs.Marks.{is_same_session}
use Rattle.gx_store.specs.Points.{marks_in}
use Rattle.gx_store.specs.Refusals.{the_coordinator}
use Rattle.gx_store.specs.Whole.{HasItem, HaveItems}
use Rattle.gx_store.specs.Writes.{dist_of}
use Rattle.gx_store.specs.declared.event.Event.{Event}
use Rattle.gx_rules.specs.AtCoordinator.{table_of}
use Rattle.gx_rules.specs.Fits.{holds_locks, is_right_slice, reads_nothing}
use Rattle.gx_rules.specs.Machine.{Letter, World, world_of}
use Rattle.gx_rules.specs.Maps.{each_below}
use Rattle.gx_rules.specs.Rounds.{awaits_graph}
use Rattle.gx_rules.specs.Segments.{Seg}
use Rattle.gx_rules.proofs.RightPieces.{pieces-right}
use Rattle.gx_dtx.specs.Nodes.{has}
use Rattle.gx_law_order.specs.Horizons.{AreBelowIn, IsBelowHolders, IsBelowIn}
use Rattle.gx_law_order.specs.Lists.{Each}
use Rattle.gx_law_order.specs.Orders.{IsOrder, IsReadBy}
use Rattle.gx_law_order.specs.Pairs.{Pair}
use Rattle.gx_law_order.specs.Said.{IsCommand as IsSaidCommand, SaidIn}
use Rattle.gx_law_order.specs.Scanned.{began_from, closes_block, command_at, command_from, nth_command}
use Rattle.gx_law_order.specs.Standings.{Known, Part as Side, known_at, part_at}
use Rattle.gx_law_order.specs.Standings.Standing.{Live, One, Preparing}
use Rattle.gx_law_order.proofs.Above.{IsBelowOwn, world-above, world-above-own}
use Rattle.gx_law_order.proofs.Always as always
use Rattle.gx_law_order.proofs.Legality as histories
use Rattle.gx_law_order.proofs.Letters.{IsLetter}
use Rattle.gx_law_order.proofs.Sendings.{IsOrderLetter}
use Rattle.gx_law_order.proofs.World.{world_knows}
use Rattle.gx_law_locks.specs.Gathered.{AreNoted}
use Rattle.gx_law_locks.proofs.Noted.{sent-reported}
use Rattle.gx_law_locks.proofs.StuckRechecks.{noted-of}
use Rattle.gx_law_locks.proofs.Whole.{world-rounds}
use Rattle.gx_law_writes.proofs.Pieces.{IsSliceOf, order-slice}
use Rattle.gx_law_runs.specs.Fits.{DoLettersFit, FitsHere, FitsThere}
use Rattle.gx_law_runs.proofs.Awaited.{world-asks}
use Rattle.gx_law_runs.proofs.Fitted.{LetterServes, Served}

-- A COMMAND'S STATEMENT IS ONE OF THE SCRIPT'S
some-same : (a b : Stmt) → Some a ≡ Some b → a ≡ b
some-same a b e = cc

module _ (P : Stmt → Type 0) where
  abbrev AreSo : List Line → Type 0
  AreSo lines = AllByRecursion (λ (l : Line). P l.stmt) lines

  line-so : (session : SessionId) (number : ℕ) (lines : List Line) (line : Stmt) → AreSo lines → stmt_of session number lines ≡ Some line → P line
  line-so session number [] line all e = absurd (cc)
  line-so session number (l ∷ ls) line all e = by_test (is_same_session l.session session && (l.number == number)) e (line-so session number ls line all.1)
    where
      by_test : (b : Bool) → (if b then Some l.stmt else stmt_of session number ls) ≡ Some line → (stmt_of session number ls ≡ Some line → P line) → P line
      by_test true f later = subst P (some-same l.stmt line f) all.0
      by_test false f later = later f

  nth-so : (session : SessionId) (first c : ℕ) (lines : List Line) (line : Stmt) → AreSo lines → nth_command session first c lines ≡ Some line → P line
  nth-so session first c [] line all e = absurd (cc)
  nth-so session first c (l ∷ ls) line all e =
      by_tests (is_same_session l.session session && nat_le first l.number) (is_command (InBlock Rattle.gx_tree.specs.declared.stmt.Level.TheVariants.ReadCommitted 0) l.stmt) (c == 1) (closes_block l.stmt) e
      (λ f. nth-so session first (c - 1) ls line all.1 f) (λ f. nth-so session first c ls line all.1 f)
    where
      none : None ≡ Some line → ⊥
      none e = cc

      by_tests : (a b d z : Bool) → (if a then (if b then (if d then Some l.stmt else nth_command session first (c - 1) ls) else (if z then None else nth_command session first c ls)) else nth_command session first c ls) ≡ Some line
          → (nth_command session first (c - 1) ls ≡ Some line → P line) → (nth_command session first c ls ≡ Some line → P line) → P line
      by_tests true true true z f one more = subst P (some-same l.stmt line f) all.0
      by_tests true true false z f one more = one f
      by_tests true false d true f one more = absurd (none f)
      by_tests true false d false f one more = more f
      by_tests false b d z f one more = more f

  only : (its line : Stmt) → P its → (b : Bool) → (if b then (let o : Option Stmt = Some its in o) else None) ≡ Some line → P line
  only its line p true e = subst P (some-same its line e) p
  only its line p false e = absurd (cc)

  module _ (script : Script) (all : AreSo script.lines) where
    from-so : (session : SessionId) (number : ℕ) (o : Option Stmt) (c : ℕ) (line : Stmt) → ((first : Stmt) → o ≡ Some first → P first) → command_from script session number o c ≡ Some line → P line
    from-so session number (Some (stmt.Begin level)) c line f e = nth-so session (number + 1) c script.lines line all e
    from-so session number None c line f e = absurd (none (c == 1) e)
      where
        none : (b : Bool) → (let o : Option Stmt = None in if b then o else None) ≡ Some line → ⊥
        none true e = cc
        none false e = cc
    from-so session number (Some stmt.Commit) c line f e = only stmt.Commit line (f stmt.Commit refl) (c == 1) e
    from-so session number (Some stmt.Rollback) c line f e = only stmt.Rollback line (f stmt.Rollback refl) (c == 1) e
    from-so session number (Some (stmt.Select q)) c line f e = only (stmt.Select q) line (f (stmt.Select q) refl) (c == 1) e
    from-so session number (Some (stmt.Insert t x)) c line f e = only (stmt.Insert t x) line (f (stmt.Insert t x) refl) (c == 1) e
    from-so session number (Some (stmt.Update t x y)) c line f e = only (stmt.Update t x y) line (f (stmt.Update t x y) refl) (c == 1) e
    from-so session number (Some (stmt.Delete t x)) c line f e = only (stmt.Delete t x) line (f (stmt.Delete t x) refl) (c == 1) e
    from-so session number (Some (stmt.Lock t m)) c line f e = only (stmt.Lock t m) line (f (stmt.Lock t m) refl) (c == 1) e

    at-so : (o : Option (SessionId × ℕ)) (c : ℕ) (line : Stmt) → command_at script o c ≡ Some line → P line
    at-so None c line e = absurd (cc)
    at-so (Some began) c line e = from-so began.0 began.1 (stmt_of began.0 began.1 script.lines) c line (λ first f. line-so began.0 began.1 script.lines first all f) e

-- TESTS
le-of : {a b : ℕ} → a ≤ b → nat_le a b ≡ true
le-of l = grind (arith, nat_tests, l)

below-each : (n : ℕ) (test : ℕ → Bool) → ((h : ℕ) → h < n → test h ≡ true) → each_below n test ≡ true
below-each zero test f = refl
below-each (suc n) test f = and_from (test n) (each_below n test) (f n (omega arith)) (below-each n test (λ h l. f h (omega (arith, l))))

not-held : (n : ℕ) (s : Seg) → IsBelowHolders s n → (h : ℕ) → h < n → not (holds_locks (s.locals h)) ≡ true
not-held n s above h less = by_test (holds_locks (s.locals h)) refl
  where
    over : (a b : ℕ) → a < b → b ≤ a → ⊥
    over a b l m = omega arith

    by_test : (b : Bool) → holds_locks (s.locals h) ≡ b → not b ≡ true
    by_test true e = absurd (over h n less (above h e))
    by_test false e = refl

reads-so : (ms : List _) (level : Level) (g : Gxid) (c : Cid) (line : Stmt) (snapshot : Option Snapshot) (x : Slice) → IsSliceOf line x → IsReadBy ms level g c line snapshot → (is_some snapshot || reads_nothing x) ≡ true
reads-so ms level g c (stmt.Lock t m) snapshot x e r = ap (λ y. is_some snapshot || reads_nothing y) e ∙ either (is_some snapshot)
  where
    either : (b : Bool) → (b || true) ≡ true
    either b = grind arith
reads-so ms level g c (stmt.Select q) snapshot x e r = ap (λ o. is_some o || reads_nothing x) r.1
reads-so ms level g c (stmt.Insert t y) snapshot x e r = ap (λ o. is_some o || reads_nothing x) r.1
reads-so ms level g c (stmt.Update t y z) snapshot x e r = ap (λ o. is_some o || reads_nothing x) r.1
reads-so ms level g c (stmt.Delete t y) snapshot x e r = ap (λ o. is_some o || reads_nothing x) r.1
reads-so ms level g c (stmt.Begin l) snapshot x e r = ap (λ o. is_some o || reads_nothing x) r.1
reads-so ms level g c stmt.Commit snapshot x e r = ap (λ o. is_some o || reads_nothing x) r.1
reads-so ms level g c stmt.Rollback snapshot x e r = ap (λ o. is_some o || reads_nothing x) r.1

-- WHAT WAITS
-- a slice of one that hasn't aborted is of its last command, which is under way
module _ (k : Known) (p : Side) (pair : Pair k p) (fair : p.waits ≡ true → k.aborted ≡ false) where
  live : p.waits ≡ true → k.at ≡ Live
  live e = by_way (pair.waits e).2
    where
      by_way : (k.at ≡ Live) ⊎ (k.aborted ≡ true) → k.at ≡ Live
      by_way (inl l) = l
      by_way (inr a) = absurd (true-false k.aborted a (fair e))

  command-free : (c : ℕ) → IsSaidCommand k p c → not (nat_lt p.last c && p.waits) ≡ true
  command-free c said = by_wait p.waits refl
    where
      over : (a b c : ℕ) → a ≡ b → c ≤ b → not (nat_lt a c && true) ≡ true
      over a b c e l = grind (arith, nat_tests, e, l)

      by_wait : (b : Bool) → p.waits ≡ b → not (nat_lt p.last c && b) ≡ true
      by_wait false e = none (nat_lt p.last c)
        where
          none : (b : Bool) → not (b && false) ≡ true
          none b = grind arith
      by_wait true e = let l = live e in over p.last k.last c (pair.awaited l e).1 (said.last l)

  prepare-free : (p.vote ≡ None → (k.at ≡ Preparing true) ⊎ (k.aborted ≡ true)) → p.waits ≡ false
  prepare-free said = by_wait p.waits refl
    where
      clash : {b : Bool} → k.at ≡ Live → k.at ≡ Preparing b → ⊥
      clash e f = no (sym e ∙ f)
        where
          no : {b : Bool} → Live ≡ Preparing b → ⊥
          no q = cc

      by_wait : (b : Bool) → p.waits ≡ b → b ≡ false
      by_wait false e = refl
      by_wait true e = absurd (by_way (said (pair.live (live e)).1))
        where
          by_way : (k.at ≡ Preparing true) ⊎ (k.aborted ≡ true) → ⊥
          by_way (inl q) = clash (live e) q
          by_way (inr a) = true-false k.aborted a (fair e)

  commit-free : (p.vote ≡ None → k.at ≡ One true) → p.waits ≡ false
  commit-free said = by_wait p.waits refl
    where
      no : Live ≡ One true → ⊥
      no q = cc

      by_wait : (b : Bool) → p.waits ≡ b → b ≡ false
      by_wait false e = refl
      by_wait true e = absurd (no (sym (live e) ∙ said (pair.live (live e)).1))

-- A WORLD
module _ (script : Script) (is : IsScript script) (items : HaveItems script.lines) (es : List (Event × Bool)) where
  abbrev w : World
  w = world_of script es

  stmts-so : AllByRecursion (λ (l : Line). IsStmtOf script.tables l.stmt) script.lines
  stmts-so = each script.lines (recursion_from_All (IsLine script.tables (length script.sessions)) script.lines is.lines)
    where
      each : (ls : List Line) → AllByRecursion (IsLine script.tables (length script.sessions)) ls → AllByRecursion (λ (l : Line). IsStmtOf script.tables l.stmt) ls
      each [] e = tt
      each (l ∷ ls) e = (e.0.1, each ls e.1)

  items-so : (ls : List Line) → HaveItems ls → AllByRecursion (λ (l : Line). HasItem l.stmt) ls
  items-so [] e = tt
  items-so (l ∷ ls) e = (e.0, items-so ls e.1)

  pairs : (i g : ℕ) → Pair (known_at (world_of script es).coord (marks_in (world_of script es).steps) i g) (part_at ((world_of script es).segs i) (marks_in (world_of script es).steps) i g)
  pairs i g = (always.world-holds script is.some_segments es).stands.pairs i g

  -- a command
  module _ (to : Node) (g : Gxid) (c : Cid) (level : Level) (snapshot : Option Snapshot) (horizon : Gxid) (x : Slice) (order : IsOrder script (marks_in (world_of script es).steps) to g c level snapshot x) where
    right : is_right_slice script g c x ≡ true
    right =
        All-contains (λ (p : Piece). is_right_slice script g c p.slice ≡ true) order.pieces (record { node = to; slice = x })
        (pieces-right script g c (dist_of script.tables (table_of order.line)) order.line order.pieces
        (at-so (IsStmtOf script.tables) script stmts-so (began_from [] (marks_in w.steps) g) c.0 order.line order.of)
        (at-so HasItem script (items-so script.lines items) (began_from [] (marks_in w.steps) g) c.0 order.line order.of) order.plan) order.among

    command-fits : IsBelowOwn script is.some_segments (world_of script es).segs to.0 (message.Exec g c level snapshot horizon x) → IsBelowIn ((world_of script es).segs to.0) (message.Exec g c level snapshot horizon x)
        → IsSaidCommand (known_at (world_of script es).coord (marks_in (world_of script es).steps) to.0 g.0) (part_at ((world_of script es).segs to.0) (marks_in (world_of script es).steps) to.0 g.0) c.0
        → FitsThere script (world_of script es) to (message.Exec g c level snapshot horizon x)
    command-fits own above said unended fair =
        and_from (nat_le horizon.0 g.0) _ (le-of (own unended))
        (and_from (each_below horizon.0 (λ h. not (holds_locks ((w.segs to.0).locals h)))) _ (below-each horizon.0 (λ h. not (holds_locks ((w.segs to.0).locals h))) (not-held horizon.0 (w.segs to.0) above))
        (and_from (is_some snapshot || reads_nothing x) _ (reads-so (marks_in w.steps) level g c order.line snapshot x (order-slice script (marks_in w.steps) to g c level snapshot x order) order.read)
        (and_from (is_right_slice script g c x) _ right (command-free (known_at w.coord (marks_in w.steps) to.0 g.0) (part_at (w.segs to.0) (marks_in w.steps) to.0 g.0) (pairs to.0 g.0) fair c.0 said))))

  fits-there : (l : Letter) → l.from ≡ the_coordinator → IsOrderLetter script (marks_in (world_of script es).steps) l → SaidIn (world_of script es) l → IsBelowIn ((world_of script es).segs l.to.0) l.envelope.message → IsBelowOwn script is.some_segments (world_of script es).segs l.to.0 l.envelope.message
      → FitsThere script (world_of script es) l.to l.envelope.message
  fits-there l source order said above own = by_message l.envelope.message (order source) said above own
    where
      by_message : (m : Message) → Rattle.gx_law_order.proofs.Outs.MessageIs script (marks_in (world_of script es).steps) l.to m
          → SaidIn (world_of script es) (record l { envelope = record l.envelope { message = m } }) → IsBelowIn ((world_of script es).segs l.to.0) m → IsBelowOwn script is.some_segments (world_of script es).segs l.to.0 m → FitsThere script (world_of script es) l.to m
      by_message (message.Exec g c level snapshot horizon x) o s a b = command-fits l.to g c level snapshot horizon x (o is.numbers) b a s
      by_message (message.Prepare g) o s a b = λ fair. prepare-free (known_at w.coord (marks_in w.steps) l.to.0 g.0) (part_at (w.segs l.to.0) (marks_in w.steps) l.to.0 g.0) (pairs l.to.0 g.0) fair s.1
      by_message (message.Commit g) o s a b = λ fair. commit-free (known_at w.coord (marks_in w.steps) l.to.0 g.0) (part_at (w.segs l.to.0) (marks_in w.steps) l.to.0 g.0) (pairs l.to.0 g.0) fair s
      by_message (message.CommitPrepared g) o s a b = tt
      by_message (message.Abort g) o s a b = tt
      by_message (message.Forget g) o s a b = tt
      by_message (message.Collect round) o s a b = tt
      by_message (message.Answer g r) o s a b = tt
      by_message (message.Graph round graph) o s a b = tt
      by_message message.Up o s a b = tt

  noted : AreNoted [] (world_of script es).steps
  noted = noted-of script [] w.steps (world-rounds script is.some_segments es)

  fits-here : (l : Letter) → 1 ≤ l.from.0 → IsLetter script (world_of script es).steps l → LetterServes (world_of script es).coord l → FitsHere (world_of script es) l.from l.envelope.message
  fits-here l one letter serves = by_message l.envelope.message refl (serves.1 one)
    where
      by_message : (m : Message) → l.envelope.message ≡ m → Rattle.gx_law_runs.proofs.Fitting.SaysSo (Served (world_of script es).coord) (Rattle.gx_law_runs.proofs.Fitted.partless (world_of script es).coord) m → FitsHere (world_of script es) l.from m
      by_message (message.Answer g (reply.Done c wrote count part)) told s = λ k command awaited. s k command (same k.cid c (and_parts (k.cid.0 == c.0) (has l.from k.awaited) awaited).0)
        where
          same : (a b : Cid) → (a.0 == b.0) ≡ true → a ≡ b
          same a b e = grind (arith, nat_tests)
      by_message (message.Answer g (reply.Failed c x)) told s = tt
      by_message (message.Answer g reply.Prepared) told s = tt
      by_message (message.Answer g reply.Committed) told s = tt
      by_message (message.Answer g reply.Jfault) told s = tt
      by_message (message.Answer g reply.Again) told s = tt
      by_message (message.Answer g reply.Restarted) told s = tt
      by_message (message.Answer g reply.Aborted) told s = tt
      by_message (message.Answer g reply.Forgotten) told s = tt
      by_message (message.Graph round graph) told s = λ now awaits.
          and_from (graph.node.0 == l.from.0) _ (own (sent-reported w.steps noted l.from l.to l.envelope.number round graph
          (record { step = letter.step; mark = letter.mark; sending = subst (Rattle.gx_store.specs.Messages.IsSending w.steps letter.step letter.mark l.from l.to l.envelope.number) told letter.sending })).0)
          (and_from (round == w.coord.rounds) (awaits_graph w.coord l.from) (itself round w.coord.rounds now) awaits)
        where
          itself : (a b : ℕ) → a ≡ b → (a == b) ≡ true
          itself a b e = grind (arith, nat_tests)

          own : graph.node ≡ l.from → (graph.node.0 == l.from.0) ≡ true
          own e = ap (λ (n : Node). n.0 == l.from.0) e ∙ itself l.from.0 l.from.0 refl
      by_message message.Up told s = tt
      by_message (message.Exec g c level snapshot horizon x) told s = tt
      by_message (message.Prepare g) told s = tt
      by_message (message.Commit g) told s = tt
      by_message (message.CommitPrepared g) told s = tt
      by_message (message.Abort g) told s = tt
      by_message (message.Forget g) told s = tt
      by_message (message.Collect round) told s = tt

  letters-fit : (ls : List Letter) → Each (IsLetter script (world_of script es).steps) ls → Each (IsOrderLetter script (marks_in (world_of script es).steps)) ls → Each (SaidIn (world_of script es)) ls → AreBelowIn (world_of script es).segs ls
      → Each (λ (l : Letter). IsBelowOwn script is.some_segments (world_of script es).segs l.to.0 l.envelope.message) ls → Each (LetterServes (world_of script es).coord) ls → DoLettersFit script (world_of script es) ls
  letters-fit [] a b d e f h = tt
  letters-fit (l ∷ ls) a b d e f h = ((λ source. fits-there l source b.0 d.0 e.0 f.0, λ one. fits-here l one a.0 h.0), letters-fit ls a.1 b.1 d.1 e.1 f.1 h.1)

  pub world-fits : DoLettersFit script (world_of script es) (world_of script es).sent
  world-fits =
      letters-fit w.sent (world_knows script is.some_segments es).well.letters (histories.world-holds script is.some_segments es).orders (always.world-holds script is.some_segments es).said (world-above script is.some_segments es).commands
      (world-above-own script is.some_segments es) (world-asks script is.some_segments es).served.letters
