-- A gathered command did what its answer says.
use Rattle.std.proofs.Common.{◌≡◌, ◌≤◌, ◌<◌, inl, inr, ℕ, List, [], ◌∷◌, ◌++◌, Some, None, Ok, Bool, true, false, refl, sym, subst, ap, ◌∙◌, ◌||◌, arith, eqb, ◌+◌}
use Rattle.std.proofs.lemmas.Bool.{eqb-true}
use Rattle.std.proofs.lemmas.Bool.Decides.{nat_tests}
use Rattle.std.specs.List.{list_any}
use Rattle.std.specs.Prelude.{take}
use Rattle.gx_lemmas.proofs.Tests.{false-true}
use Rattle.gx_ids.specs.declared.ids.Cid.{Cid}
use Rattle.gx_ids.specs.declared.ids.Gxid.{Gxid}
use Rattle.gx_ids.specs.declared.ids.Node.{Node}
use Rattle.gx_ids.specs.declared.ids.SessionId.{SessionId}
use Rattle.gx_ids.specs.declared.ids.Table.{Table}
use Rattle.gx_modes.specs.declared.modes.Mode.{Mode}
use Rattle.gx_waits.specs.Claim.{same_claim}
use Rattle.gx_waits.specs.declared.object.Object.TheVariants.{Relation}
use Rattle.gx_tree.specs.declared.cell.Cell.{Cell}
use Rattle.gx_tree.specs.declared.query.Query.{Query}
use Rattle.gx_tree.specs.declared.slice.Slice.TheVariants as slice
use Rattle.gx_tree.specs.declared.stmt.Level.{Level}
use Rattle.gx_tree.specs.declared.stmt.Stmt.{Stmt}
use Rattle.gx_tree.specs.declared.stmt.Stmt.TheVariants as stmt
use Rattle.gx_dtx.specs.Nodes.{has}
use Rattle.gx_msg.specs.declared.message.Message.TheVariants as message
use Rattle.gx_msg.specs.declared.reply.Reply.TheVariants as reply
use Rattle.gx_meaning.specs.Target.{target_of}
use Rattle.gx_meaning.specs.declared.target.Target.TheVariants.{All as AllOfThem}
use Rattle.gx_meaning.specs.Plan.{nodes_of, plan_of}
use Rattle.gx_meaning.specs.declared.piece.Piece.{Piece}
use Rattle.gx_script.specs.declared.Script.{Script}
use Rattle.gx_store.specs.declared.answer.StmtAnswer.{StmtAnswer}
use Rattle.gx_store.specs.declared.mark.Mark.{Mark}
use Rattle.gx_store.specs.Answers.{Locks, Shows, Tells}
use Rattle.gx_store.specs.Commands.{IsSnapshotAt, RunsCommand}
use Rattle.gx_store.specs.Messages.{HasReceived}
use Rattle.gx_store.specs.Points.{marks_in}
use Rattle.gx_store.specs.Refusals.{the_coordinator}
use Rattle.gx_store.specs.View.{image, is_shown_to}
use Rattle.gx_store.specs.Waits.{holds_at, is_held}
use Rattle.gx_waits.specs.Claims.{claim}
use Rattle.gx_store.proofs.Exclusive.{holds_from-append}
use Rattle.gx_store.specs.Writes.{dist_of}
use Rattle.gx_rules.specs.AtCoordinator.{nodes_in}
use Rattle.gx_rules.specs.Machine.{world_of}
use Rattle.gx_meaning.specs.Merged.{merged_answer}
use Rattle.gx_law_order.specs.Lists.{Each}
use Rattle.gx_law_order.specs.Scanned.{began_from}
use Rattle.gx_law_order.specs.Finish.{point_at}
use Rattle.gx_law_order.specs.Gathering.{AreAll, AreApart, IsGathered, Taken, nodes_taken, parts_taken}
use Rattle.gx_law_order.specs.Orders.{level_of_began}
use Rattle.gx_store.specs.Language.{AreLinesNumbered}
use Rattle.gx_law_order.proofs.Said.{CalmFor}
use Rattle.gx_law_order.proofs.Commits.{take-kept}
use Rattle.gx_law_locks.proofs.Marks.{Quiet, quiet-holds}
use Rattle.gx_law_writes.proofs.Turns.{NoWrite}
use Rattle.gx_law_writes.proofs.World as writes
use Rattle.gx_law_answers.specs.Earned.{Events, IsEarned}
use Rattle.gx_law_answers.specs.Keyed.{AreRowsKeyed}
use Rattle.gx_law_answers.specs.Once.{IsOneSnapshot}
use Rattle.gx_law_answers.specs.Parts.{SaysItsPart}
use Rattle.gx_law_answers.specs.Truth.{IsTruePart, IsTruth}
use Rattle.gx_law_writes.proofs.Statements.{IsOf}
use Rattle.gx_law_answers.proofs.Heard.{heard, lock-now, part-now, unaborted-then}
use Rattle.gx_law_answers.proofs.Ours.{covers-pieces, its-level, its-slice, nodes-of-pieces, ok-same, some-node}
use Rattle.gx_law_answers.proofs.Rows.{has-from, seen, whole}
use Rattle.gx_law_answers.proofs.Select.{have-parts, merged}
use Rattle.gx_law_answers.proofs.Updated.{changed}
use Rattle.gx_law_answers.proofs.Truths.{image-more, snapshot-more}
use Rattle.gx_law_writes.proofs.Views.{view-is}
use Rattle.gx_store.specs.declared.event.Event.{Event}

-- ---- what a SELECT shows stays, where nothing is written
pub shows-more : (ms extra : List Mark) → Each NoWrite extra → (level : Level) (g : Gxid) (c : Cid) (query : Query) (answer : List (List Cell)) → Shows ms level g c query answer → Shows (ms ++ extra) level g c query answer
shows-more ms extra quiet level g c query answer s =
    record {
      rows = s.rows;
      sees = record {
        place = s.sees.place;
        taken = snapshot-more ms extra level g c s.sees.place s.sees.taken;
        view = record {
          rising = s.sees.view.rising;
          images = λ rid.
              s.sees.view.images rid
              ∙ sym (image-more (is_shown_to (Some (g, c)) (take s.sees.place (ms ++ extra))) query.table rid None ms extra quiet
              ∙ ap (λ b. image ms b (Some (g, c)) query.table rid) (take-kept ms extra s.sees.place _ s.sees.taken.taken));
        };
      };
      whole = s.whole;
      answered = s.answered;
    }

module _ (script : Script) (some : 1 ≤ script.segments) (numbered : AreLinesNumbered [] script.lines) (keyed : AreRowsKeyed script) (es : Events) where
  abbrev ms : List Mark
  ms = marks_in (world_of script es).steps

  -- A SELECT
  module _ (once : IsOneSnapshot script ms) (query : Query) (level : Level) (g : Gxid) (c : Cid) (is : IsOf script ms (stmt.Select query) level g c) where
    true-part : (t : Taken) → IsEarned script es t.node g c (reply.Done c t.wrote t.count t.part) → IsTruePart ms t.node level g c query t.part
    true-part t x = by_truth (subst (λ s. IsTruth (marks_in (world_of script x.given.before).steps) (marks_in (world_of script x.upto).steps) t.node x.level g c s (reply.Done c t.wrote t.count t.part)) (its-slice script some numbered es t.node (stmt.Select query) level g c is _ x) x.truth)
      where
        by_truth : IsTruth (marks_in (world_of script x.given.before).steps) (marks_in (world_of script x.upto).steps) t.node x.level g c (slice.Select query) (reply.Done c t.wrote t.count t.part) → IsTruePart ms t.node level g c query t.part
        by_truth (inl a) = absurd (unaborted-then script some numbered es t.node g c _ x is.running a)
        by_truth (inr p) = subst (λ l. IsTruePart ms t.node l g c query t.part) (its-level script some numbered es t.node (stmt.Select query) level g c is _ x) (part-now script some numbered es t.node g c _ x x.level query t.part p)

    true-parts : (taken : List Taken) → AreAll (λ t. IsEarned script es t.node g c (reply.Done c t.wrote t.count t.part)) taken → AreAll (λ t. IsTruePart ms t.node level g c query t.part) taken
    true-parts [] h = tt
    true-parts (t ∷ ts) h = (true-part t h.0, true-parts ts h.1)

    -- all by one snapshot
    at-place : (place : ℕ) → IsSnapshotAt ms level g c place → (taken : List Taken) → AreAll (λ t. IsTruePart ms t.node level g c query t.part) taken → AreAll (λ t. SaysItsPart ms (take place ms) t.node g c query t.part) taken
    at-place place s [] h = tt
    at-place place s (t ∷ ts) h = (subst (λ p. SaysItsPart ms (take p ms) t.node g c query t.part) (once g c h.0.place place (by_level h.0.place h.0.taken) (by_level place s)) h.0.says, at-place place s ts h.1)
      where
        by_level : (p : ℕ) → IsSnapshotAt ms level g c p → IsSnapshotAt ms (level_of_began script (began_from [] ms g)) g c p
        by_level p x = subst (λ l. IsSnapshotAt ms l g c p) is.level_is x

    shows : (pieces : List Piece) → plan_of script.segments (dist_of script.tables query.table.0) g c (stmt.Select query) ≡ Ok pieces → (taken : List Taken) → AreAll (λ t. IsTruePart ms t.node level g c query t.part) taken → AreApart taken → ((i : Node) → has i (nodes_in pieces) ≡ has i (nodes_taken taken)) → Shows ms level g c query (merged_answer query (parts_taken taken))
    shows pieces plan [] h distinct all =
        let i = some-node script.segments (target_of script.segments (dist_of script.tables query.table.0) query.cond) some in
        absurd (false-true (sym (all i.0) ∙ ap (has i.0) (ap nodes_in (sym (ok-same plan)) ∙ nodes-of-pieces (slice.Select query) _) ∙ i.1))
    shows pieces plan (t ∷ ts) h distinct all =
        record {
          rows = seen script some keyed ms before placed g c query.table query.cond;
          sees = record { place = h.0.place; taken = h.0.taken; view = view-is ms before (Some (g, c)) query.table };
          whole = whole script some keyed ms before placed g c query.table query.cond (t ∷ ts) covers (have-parts script some keyed ms before placed g c query (t ∷ ts) says);
          answered = merged script some keyed ms before placed g c query (t ∷ ts) says distinct covers;
        }
      where
        before : List Mark
        before = take h.0.place ms

        placed : Each (Rattle.gx_law_writes.specs.Homes.IsPlacedMark script ms) ms
        placed = writes.world-placed script some numbered es

        says : AreAll (λ t. SaysItsPart ms (take h.0.place ms) t.node g c query t.part) (t ∷ ts)
        says = at-place h.0.place h.0.taken (t ∷ ts) h

        covers : (i : Node) → has i (nodes_of script.segments (target_of script.segments (dist_of script.tables query.table.0) query.cond)) ≡ has i (nodes_taken (t ∷ ts))
        covers i = sym (ap (has i) (ap nodes_in (sym (ok-same plan)) ∙ nodes-of-pieces (slice.Select query) _)) ∙ all i

  -- A COMMAND THAT WAS GATHERED
  module _ (once : IsOneSnapshot script ms) (now : Event) (earlier later : List Mark) (session : SessionId) (level : Level) (g : Gxid) (c : Cid) (answer : StmtAnswer) (calm : Each (CalmFor session) earlier) (quiet : Each NoWrite earlier) (holding : Each Quiet earlier) where
    true-replies : (taken : List Taken) → AreAll (λ t. HasReceived (point_at (world_of script es).steps now earlier later) t.node the_coordinator (message.Answer g (reply.Done c t.wrote t.count t.part))) taken → AreAll (λ t. IsEarned script es t.node g c (reply.Done c t.wrote t.count t.part)) taken
    true-replies [] h = tt
    true-replies (t ∷ ts) h = ((heard script some numbered es now earlier later t.node _ h.0).word_earned g (reply.Done c t.wrote t.count t.part) refl, true-replies ts h.1)

    heard-replies : (taken : List Taken) → AreAll (λ t. HasReceived (point_at (world_of script es).steps now earlier later) t.node the_coordinator (message.Answer g (reply.Done c t.wrote t.count t.part))) taken → AreAll (λ t. (1 ≤ t.node.0) × IsEarned script es t.node g c (reply.Done c t.wrote t.count t.part)) taken
    heard-replies [] h = tt
    heard-replies (t ∷ ts) h = let x = heard script some numbered es now earlier later t.node _ h.0 in ((x.segment.0, x.word_earned g (reply.Done c t.wrote t.count t.part) refl), heard-replies ts h.1)

    -- LOCK TABLE: each segment has told that the mode is held there, and at the coordinator
    module _ (table : Table) (mode : Mode) (is : IsOf script ms (stmt.Lock table mode) level g c) where
      both-hold : (t : Taken) → IsEarned script es t.node g c (reply.Done c t.wrote t.count t.part) → (is_held ms t.node g (Relation table) mode ≡ true) × (is_held ms the_coordinator g (Relation table) mode ≡ true)
      both-hold t x =
          lock-now script some numbered es t.node g c _ x table mode is.running
          (subst (λ s. IsTruth (marks_in (world_of script x.given.before).steps) (marks_in (world_of script x.upto).steps) t.node x.level g c s (reply.Done c t.wrote t.count t.part)) (its-slice script some numbered es t.node (stmt.Lock table mode) level g c is _ x) x.truth).1

      no-one : false ≡ true → ⊥
      no-one e = cc

      node-is : (a b : Node) → eqb a.0 b.0 ≡ true → a ≡ b
      node-is a b q = ap (λ n. let r : Node = record { 0 = n } in r) (eqb-true a.0 b.0 q)

      segment-holds : (taken : List Taken) → AreAll (λ t. IsEarned script es t.node g c (reply.Done c t.wrote t.count t.part)) taken → (node : Node) → has node (nodes_taken taken) ≡ true → is_held ms node g (Relation table) mode ≡ true
      segment-holds [] h node e = absurd (no-one e)
      segment-holds (t ∷ ts) h node e = by_test (eqb t.node.0 node.0) refl e (segment-holds ts h.1 node)
        where
          by_test : (b : Bool) → eqb t.node.0 node.0 ≡ b → (b || has node (nodes_taken ts)) ≡ true → (has node (nodes_taken ts) ≡ true → is_held ms node g (Relation table) mode ≡ true) → is_held ms node g (Relation table) mode ≡ true
          by_test true q e more = subst (λ n. is_held ms n g (Relation table) mode ≡ true) (node-is t.node node q) (both-hold t h.0).0
          by_test false q e more = more e

      coordinator-holds : (taken : List Taken) → AreAll (λ t. IsEarned script es t.node g c (reply.Done c t.wrote t.count t.part)) taken → (i : Node) → has i (nodes_taken taken) ≡ true → is_held ms the_coordinator g (Relation table) mode ≡ true
      coordinator-holds [] h i e = absurd (no-one e)
      coordinator-holds (t ∷ ts) h i e = (both-hold t h.0).1

      -- nothing of it is given back at the point
      held-still : (node : Node) → is_held ms node g (Relation table) mode ≡ true → is_held (ms ++ earlier) node g (Relation table) mode ≡ true
      held-still node h = subst (λ hs. list_any (same_claim (claim g (Relation table) mode)) hs ≡ true) (sym (holds_from-append node [] ms earlier ∙ quiet-holds node (holds_at ms node) earlier holding)) h

      pub locks : (taken : List Taken) → AreAll (λ t. IsEarned script es t.node g c (reply.Done c t.wrote t.count t.part)) taken → ((i : Node) → has i (nodes_of script.segments AllOfThem) ≡ has i (nodes_taken taken)) → Locks script (ms ++ earlier) g table mode
      locks taken h all node low = held-still node (by_test (eqb node.0 0) refl)
        where
          one : eqb node.0 0 ≡ false → 1 ≤ node.0
          one q = grind (arith, nat_tests)

          below : (k n : ℕ) → k ≤ n → k < 1 + n
          below k n l = omega (arith, l)

          by_test : (b : Bool) → eqb node.0 0 ≡ b → is_held ms node g (Relation table) mode ≡ true
          by_test true q = let i = some-node script.segments AllOfThem some in subst (λ n. is_held ms n g (Relation table) mode ≡ true) (sym (node-is node the_coordinator q)) (coordinator-holds taken h i.0 (sym (all i.0) ∙ i.1))
          by_test false q = segment-holds taken h node (sym (all node) ∙ has-from node.0 1 script.segments (one q) (below node.0 script.segments low))

    pub tells-by : (line : Stmt) → IsOf script ms line level g c → RunsCommand script (point_at (world_of script es).steps now earlier later) session line level g c → IsGathered script (point_at (world_of script es).steps now earlier later) g c line answer
        → ((table : _) (tuples : _) → line ≡ stmt.Insert table tuples → Tells script (ms ++ earlier) level g c (stmt.Insert table tuples) answer) → Tells script (ms ++ earlier) level g c line answer
    tells-by (stmt.Select q) is runs x inserts =
        subst (Tells script (ms ++ earlier) level g c (stmt.Select q)) (sym x.is)
        (shows-more ms earlier quiet level g c q (merged_answer q (parts_taken x.taken))
        (shows once q level g c is x.pieces x.plan x.taken (true-parts once q level g c is x.taken (true-replies x.taken x.received)) x.apart x.all))
    tells-by (stmt.Insert t v) is runs x inserts = inserts t v refl
    tells-by (stmt.Update t a d) is runs x inserts =
        subst (Tells script (ms ++ earlier) level g c (stmt.Update t a d)) (sym x.is)
        (changed script some numbered keyed es once (stmt.Update t a d) (slice.Update t a d) t d level g c is (λ s e. e) (λ b m n l w k p z. z) x.pieces x.plan (λ ts all. covers-pieces (slice.Update t a d) _ x.pieces ts x.plan all) earlier quiet x.taken (heard-replies x.taken x.received) x.apart x.all)
    tells-by (stmt.Delete t d) is runs x inserts =
        subst (Tells script (ms ++ earlier) level g c (stmt.Delete t d)) (sym x.is)
        (changed script some numbered keyed es once (stmt.Delete t d) (slice.Delete t d) t d level g c is (λ s e. e) (λ b m n l w k p z. z) x.pieces x.plan (λ ts all. covers-pieces (slice.Delete t d) _ x.pieces ts x.plan all) earlier quiet x.taken (heard-replies x.taken x.received) x.apart x.all)
    tells-by (stmt.Lock t m) is runs x inserts =
        subst (Tells script (ms ++ earlier) level g c (stmt.Lock t m)) (sym x.is)
        (locks t m is x.taken (true-replies x.taken x.received) (covers-pieces (slice.Lock t m) (nodes_of script.segments AllOfThem) x.pieces x.taken x.plan x.all))
    tells-by (stmt.Begin l) is runs x inserts = absurd (no-begin _ l runs.command)
      where
        no-begin : (b : Rattle.gx_store.specs.Lines.BlockState) (l : Level) → Rattle.gx_store.specs.Lines.is_command b (stmt.Begin l) ≡ true → ⊥
        no-begin Rattle.gx_store.specs.Lines.Outside l e = cc
        no-begin (Rattle.gx_store.specs.Lines.InBlock k n) l e = cc
        no-begin Rattle.gx_store.specs.Lines.Failed l e = cc
    tells-by stmt.Commit is runs x inserts = absurd (no-commit _ runs.command)
      where
        no-commit : (b : Rattle.gx_store.specs.Lines.BlockState) → Rattle.gx_store.specs.Lines.is_command b stmt.Commit ≡ true → ⊥
        no-commit Rattle.gx_store.specs.Lines.Outside e = cc
        no-commit (Rattle.gx_store.specs.Lines.InBlock k n) e = cc
        no-commit Rattle.gx_store.specs.Lines.Failed e = cc
    tells-by stmt.Rollback is runs x inserts = absurd (no-rollback _ runs.command)
      where
        no-rollback : (b : Rattle.gx_store.specs.Lines.BlockState) → Rattle.gx_store.specs.Lines.is_command b stmt.Rollback ≡ true → ⊥
        no-rollback Rattle.gx_store.specs.Lines.Outside e = cc
        no-rollback (Rattle.gx_store.specs.Lines.InBlock k n) e = cc
        no-rollback Rattle.gx_store.specs.Lines.Failed e = cc
