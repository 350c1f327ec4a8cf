-- An INSERT that was gathered has written its rows.
use Rattle.std.proofs.Common.{◌≡◌, ◌≤◌, inl, inr, ℕ, ◌+◌, List, [], ◌∷◌, ◌++◌, length, Some, Result, Ok, Err, Bool, true, false, refl, sym, subst, ap, ◌∙◌, if◌then◌else◌, ◌||◌, arith, eqb}
use Rattle.std.proofs.lemmas.Bool.{eqb-true}
use Rattle.gx_lemmas.proofs.Tests.{false-true}
use Rattle.gx_lemmas.proofs.Options.{some-same}
use Rattle.gx_lemmas.proofs.Numbers.{eqb-self, none-plus, plus-none}
use Rattle.gx_ids.specs.declared.ids.Cid.{Cid}
use Rattle.gx_ids.specs.declared.ids.Gxid.{Gxid}
use Rattle.gx_ids.specs.declared.ids.Node.{Node}
use Rattle.gx_ids.specs.declared.ids.Table.{Table}
use Rattle.gx_tree.specs.declared.expr.Expr.{Expr}
use Rattle.gx_tree.specs.declared.row.KeyedRow.{KeyedRow}
use Rattle.gx_tree.specs.declared.slice.Slice.TheVariants as slice
use Rattle.gx_tree.specs.declared.stmt.Level.{Level}
use Rattle.gx_tree.specs.declared.stmt.Stmt.TheVariants as stmt
use Rattle.gx_meaning.specs.Expressions.{and_then}
use Rattle.gx_meaning.specs.declared.fault.ArithFault.{ArithFault}
use Rattle.gx_dtx.specs.Nodes.{has, without}
use Rattle.gx_msg.specs.declared.message.Message.TheVariants as message
use Rattle.gx_msg.specs.declared.reply.Reply.TheVariants as reply
use Rattle.gx_meaning.specs.Constants.{rows_of}
use Rattle.gx_meaning.specs.Plan.{insert_pieces, plan_of}
use Rattle.gx_meaning.specs.declared.piece.Piece.{Piece}
use Rattle.gx_script.specs.declared.Script.{Script}
use Rattle.gx_store.specs.declared.answer.StmtAnswer.{StmtAnswer}
use Rattle.gx_store.specs.declared.mark.Mark.{Mark}
use Rattle.gx_store.specs.Answers.{Inserts, Tells}
use Rattle.gx_store.specs.Commands.{has_own_snapshot}
use Rattle.gx_store.specs.Lines.{is_on_rows}
use Rattle.gx_store.specs.Messages.{HasReceived, IsSending}
use Rattle.gx_store.specs.Points.{marks_in}
use Rattle.gx_store.specs.Refusals.{the_coordinator}
use Rattle.gx_store.specs.Writes.{dist_of}
use Rattle.gx_rules.specs.AtCoordinator.{nodes_in, with_done}
use Rattle.gx_rules.specs.Coordinators.{Command}
use Rattle.gx_rules.specs.Machine.{world_of}
use Rattle.gx_law_order.specs.Finish.{point_at}
use Rattle.gx_law_order.specs.Gathering.{AreAll, AreApart, IsGathered, Taken, nodes_taken, total}
use Rattle.gx_store.specs.Language.{AreLinesNumbered}
use Rattle.gx_law_order.proofs.Nodes.{has-without}
use Rattle.gx_law_writes.proofs.Counts.{all-there}
use Rattle.gx_law_writes.proofs.Alive.{own-more, read-served}
use Rattle.gx_law_writes.proofs.Plans.{insert-slice, rows-are}
use Rattle.gx_law_writes.proofs.Progress.{Progress, place_of, progress-done, progress-end, progress-new}
use Rattle.gx_law_writes.proofs.Told.{IsDoneSlice, IsReport, taken-told, written-more}
use Rattle.gx_law_writes.specs.Rows.{AreRowsOf}
use Rattle.gx_law_writes.proofs.World as writes
use Rattle.gx_law_answers.specs.Earned.{Events}
use Rattle.gx_law_answers.specs.Keyed.{AreInsertsFilled}
use Rattle.gx_law_writes.proofs.Statements.{IsOf}
use Rattle.gx_law_answers.proofs.Heard.{Heard, heard}
use Rattle.gx_store.specs.declared.event.Event.{Event}

-- ---- nodes
without-at : (i j : Node) (xs : List Node) (b : Bool) → has i xs ≡ (eqb j.0 i.0 || b) → (eqb j.0 i.0 ≡ true → b ≡ false) → has i (without j xs) ≡ b
without-at i j xs b e f = has-without i j xs ∙ by_test (eqb j.0 i.0) refl e
  where
    by_test : (t : Bool) → eqb j.0 i.0 ≡ t → has i xs ≡ (t || b) → (if t then false else has i xs) ≡ b
    by_test true q z = sym (f q)
    by_test false q z = z

no-nodes : (xs : List Node) → ((i : Node) → has i xs ≡ false) → xs ≡ []
no-nodes [] h = refl
no-nodes (x ∷ xs) h = absurd (differ (eqb x.0 x.0) (eqb-self x.0) (h x))
  where
    differ : (b : Bool) → b ≡ true → (b || has x xs) ≡ false → ⊥
    differ b e f = grind arith

module _ (script : Script) (some : 1 ≤ script.segments) (numbered : AreLinesNumbered [] script.lines) (filled : AreInsertsFilled script) (es : Events) (table : Table) (tuples : List (List Expr)) (level : Level) (g : Gxid) (c : Cid) (is : IsOf script (marks_in (world_of script es).steps) (stmt.Insert table tuples) level g c) where
  abbrev ms : List Mark
  ms = marks_in (world_of script es).steps

  abbrev Reported : Taken → Type 0
  Reported t = IsReport script ms t.node g c t.count

  line-is : (t : Taken) (r : Reported t) → r.order.line ≡ stmt.Insert table tuples
  line-is t r = some-same r.order.line (stmt.Insert table tuples) (sym r.order.of ∙ is.of)

  -- one segment after the other
  steps : (taken : List Taken) (m : Command) (p : Progress script table ms g.0 level m tuples) → m.cid ≡ c → ((i : Node) → has i m.awaited ≡ has i (nodes_taken taken)) → AreApart taken → AreAll Reported taken → Inserts ms level g c tuples (m.count + total taken)
  steps [] m p same all distinct reported =
      subst (λ n. Inserts ms level g c tuples n) (sym (plus-none m.count))
      (subst (λ d. Inserts ms level g d tuples m.count) same (progress-end script ms g.0 level m table tuples p (no-nodes m.awaited all)))
  steps (t ∷ ts) m p same all distinct reported =
      subst (λ n. Inserts ms level g c tuples n) (plus-more m.count t.count (total ts))
      (steps ts (with_done m t.node t.count t.part) (progress-done script table ms g.0 level m tuples t.node t.count t.part (all t.node ∙ itself (eqb t.node.0 t.node.0) (eqb-self t.node.0)) p done) same
      (λ i. without-at i t.node m.awaited (has i (nodes_taken ts)) (all i) (λ q. subst (λ k. has (let n : Node = record { 0 = k } in n) (nodes_taken ts) ≡ false) (eqb-true t.node.0 i.0 q) distinct.0)) distinct.1 reported.1)
    where
      plus-more : (a b d : ℕ) → (a + b) + d ≡ a + (b + d)
      plus-more a b d = omega arith

      itself : (b : Bool) → b ≡ true → (b || has t.node (nodes_taken ts)) ≡ true
      itself true e = refl
      itself false e = cc

      planned : plan_of script.segments (dist_of script.tables table.0) g c (stmt.Insert table tuples) ≡ Ok reported.0.order.pieces
      planned = subst (λ l. plan_of script.segments (dist_of script.tables (Rattle.gx_rules.specs.AtCoordinator.table_of l)) g c l ≡ Ok reported.0.order.pieces) (line-is t reported.0) reported.0.order.plan

      slice-is : reported.0.slice ≡ slice.Insert table (Rattle.gx_meaning.specs.Plan.rows_at script.segments (dist_of script.tables table.0) p.rows t.node.0)
      slice-is = insert-slice script.segments (dist_of script.tables) g c t.node table tuples p.rows reported.0.order.pieces reported.0.slice (subst (λ d. rows_of g d tuples ≡ Ok p.rows) same p.planned) planned reported.0.order.among

      done : IsDoneSlice ms (slice.Insert table (Rattle.gx_meaning.specs.Plan.rows_at script.segments (dist_of script.tables table.0) p.rows t.node.0)) t.count
      done = subst (λ s. IsDoneSlice ms s t.count) slice-is reported.0.done

  -- what the segments have told
  module _ (now : Event) (earlier later : List Mark) where
    report : (t : Taken) → HasReceived (point_at (world_of script es).steps now earlier later) t.node the_coordinator (message.Answer g (reply.Done c t.wrote t.count t.part)) → Reported t
    report t h = by_way h
      where
        one : 1 ≤ t.node.0
        one = (heard script some numbered es now earlier later t.node _ h).segment.0

        told-by : (n step mark k : ℕ) → IsSending (Rattle.std.specs.Prelude.take n (world_of script es).steps) step mark t.node the_coordinator k (message.Answer g (reply.Done c t.wrote t.count t.part)) → Reported t
        told-by n step mark k x = (taken-told script ms (writes.locals_in (world_of script es).segs) (world_of script es).steps n step mark t.node the_coordinator k (message.Answer g (reply.Done c t.wrote t.count t.part)) one (writes.world-holds script some numbered es).told x).1

        whole : {A : Type 0} (xs : List A) → Rattle.std.specs.Prelude.take (length xs) xs ≡ xs
        whole xs = Rattle.gx_law_answers.proofs.Heard.take-whole script some numbered es xs

        by_way : HasReceived (point_at (world_of script es).steps now earlier later) t.node the_coordinator (message.Answer g (reply.Done c t.wrote t.count t.part)) → Reported t
        by_way (k, inl x) = told-by k x.2.sent.step x.2.sent.mark x.2.number x.2.sent.sending
        by_way (k, inr x) = told-by (length (world_of script es).steps) x.1.sent.step x.1.sent.mark x.1.number (subst (λ ss. IsSending ss x.1.sent.step x.1.sent.mark t.node the_coordinator x.1.number (message.Answer g (reply.Done c t.wrote t.count t.part))) (sym (whole (world_of script es).steps)) x.1.sent.sending)

    reports : (taken : List Taken) → AreAll (λ t. HasReceived (point_at (world_of script es).steps now earlier later) t.node the_coordinator (message.Answer g (reply.Done c t.wrote t.count t.part))) taken → AreAll Reported taken
    reports [] h = tt
    reports (t ∷ ts) h = (report t h.0, reports ts h.1)

    ok-same : {xs ys : List Piece} → (let o : Result (List Piece) ArithFault = Ok xs in o) ≡ Ok ys → xs ≡ ys
    ok-same q = cc

    snapped-by : (t : Taken) → Reported t → has_own_snapshot level ms g c ≡ true
    snapped-by t r = subst (λ l. has_own_snapshot l ms g c ≡ true) (r.order.level_is ∙ sym is.level_is) (read-served ms r.level g c r.order.line r.snapshot (ap is_on_rows (line-is t r)) r.order.read)

    none-taken : (vs : List (List Expr)) → tuples ≡ vs → (pieces : List Piece) (o : Result (List KeyedRow) ArithFault) → rows_of g c tuples ≡ o → and_then o (λ rows. Ok (insert_pieces script.segments (dist_of script.tables table.0) table rows)) ≡ Ok pieces → ((i : Node) → has i (nodes_in pieces) ≡ false) → ⊥
    none-taken vs v pieces (Err f) r e h = cc
    none-taken [] v pieces (Ok rows) r e h = filled ms g c table (is.of ∙ ap (λ z. Some (stmt.Insert table z)) v)
    none-taken (t ∷ ts) v pieces (Ok []) r e h = subst (λ z. AreRowsOf g c 1 z []) v (rows-are g c 1 tuples [] r)
    none-taken (t ∷ ts) v pieces (Ok (row ∷ rows)) r e h =
        false-true (sym (h _) ∙ ap (λ ps. has (let n : Node = record { 0 = place_of script table row } in n) (nodes_in ps)) (sym (ok-same e)) ∙ (all-there script.segments (dist_of script.tables table.0) table [] (row ∷ rows) (row ∷ rows) some refl).0)

    snapped : (pieces : List Piece) → plan_of script.segments (dist_of script.tables table.0) g c (stmt.Insert table tuples) ≡ Ok pieces → (taken : List Taken) → AreAll Reported taken → ((i : Node) → has i (nodes_in pieces) ≡ has i (nodes_taken taken)) → has_own_snapshot level ms g c ≡ true
    snapped pieces plan [] h all = absurd (none-taken tuples refl pieces (rows_of g c tuples) refl plan all)
    snapped pieces plan (t ∷ ts) h all = snapped-by t h.0

    inserts-more : (n : ℕ) → Inserts ms level g c tuples n → Inserts (ms ++ earlier) level g c tuples n
    inserts-more n x = record { count = x.count; snapped = own-more level ms earlier g c x.snapped; values = x.values; each = λ o a b. written-more ms earlier _ (x.each o a b) }

    pub insert-tells : (answer : StmtAnswer) → IsGathered script (point_at (world_of script es).steps now earlier later) g c (stmt.Insert table tuples) answer → Tells script (ms ++ earlier) level g c (stmt.Insert table tuples) answer
    insert-tells answer x =
        let r = reports x.taken x.received in
        subst (Tells script (ms ++ earlier) level g c (stmt.Insert table tuples)) (sym x.is)
        (inserts-more (total x.taken)
        (subst (λ n. Inserts ms level g c tuples n) (none-plus (total x.taken))
        (steps x.taken _ (progress-new script table ms g.0 level c (stmt.Insert table tuples) tuples x.pieces [] some x.plan (snapped x.pieces x.plan x.taken r x.all)) refl x.all x.apart r)))
