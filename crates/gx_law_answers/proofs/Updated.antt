-- A gathered UPDATE or DELETE has processed what it selects, and its answer counts what it has written.
use Rattle.std.proofs.Common.{◌≡◌, ◌≤◌, ◌⊎◌, inl, inr, ℕ, ◌+◌, List, [], ◌∷◌, ◌++◌, Option, Some, None, Ok, Bool, true, false, refl, sym, subst, ap, ◌∙◌, ◌||◌, if◌then◌else◌, arith, eqb}
use Rattle.std.proofs.lemmas.Bool.{eqb-true}
use Rattle.std.proofs.lemmas.Bool.Decides.{nat_tests}
use Rattle.std.specs.Prelude.{take}
use Rattle.gx_lemmas.proofs.Options.{some-same}
use Rattle.gx_lemmas.proofs.Tests.{false-true}
use Rattle.gx_ids.specs.declared.ids.Cid.{Cid}
use Rattle.gx_ids.specs.declared.ids.Gxid.{Gxid}
use Rattle.gx_ids.specs.declared.ids.Node.{Node}
use Rattle.gx_ids.specs.declared.ids.Table.{Table}
use Rattle.gx_ids.specs.declared.rid.Rid.{Rid}
use Rattle.gx_tree.specs.declared.cond.Cond.{Cond}
use Rattle.gx_tree.specs.declared.part.Part.{Part}
use Rattle.gx_tree.specs.declared.slice.Slice.{Slice}
use Rattle.gx_tree.specs.declared.stmt.Level.{Level}
use Rattle.gx_tree.specs.declared.stmt.Stmt.{Stmt}
use Rattle.gx_tree.specs.declared.value.Value.{Value}
use Rattle.gx_dtx.specs.Nodes.{has}
use Rattle.gx_msg.specs.declared.reply.Reply.TheVariants as reply
use Rattle.gx_meaning.specs.Target.{target_of}
use Rattle.gx_meaning.specs.Plan.{nodes_of, plan_of}
use Rattle.gx_meaning.specs.declared.piece.Piece.{Piece}
use Rattle.gx_script.specs.declared.Script.{Script}
use Rattle.gx_store.specs.declared.mark.Mark.{Mark}
use Rattle.gx_store.specs.declared.mark.Mark.TheVariants as mark
use Rattle.gx_store.specs.Answers.{Changes}
use Rattle.gx_store.specs.Commands.{IsSnapshotAt, condition_on}
use Rattle.gx_store.specs.Language.{AreLinesNumbered}
use Rattle.gx_store.specs.Marks.{is_aborted, is_command_of, is_processed, write_count}
use Rattle.gx_store.specs.Points.{marks_in}
use Rattle.gx_store.specs.View.{image, is_shown_to}
use Rattle.gx_store.specs.Writes.{dist_of}
use Rattle.gx_rules.specs.AtCoordinator.{nodes_in, table_of}
use Rattle.gx_rules.specs.Machine.{world_of}
use Rattle.gx_law_order.specs.Lists.{Each}
use Rattle.gx_law_order.specs.Gathering.{AreAll, AreApart, Taken, nodes_taken, total}
use Rattle.gx_law_order.specs.Orders.{level_of_began}
use Rattle.gx_law_order.specs.Scanned.{began_from}
use Rattle.gx_law_order.proofs.Commits.{take-kept}
use Rattle.gx_law_writes.specs.Says.{IsPartDone, count_at}
use Rattle.gx_law_writes.proofs.Views.{view-is}
use Rattle.gx_law_writes.specs.Homes.{IsPlacedMark}
use Rattle.gx_law_writes.proofs.Pieces.{IsSliceOf}
use Rattle.gx_law_writes.proofs.Turns.{NoWrite}
use Rattle.gx_law_writes.proofs.World as writes
use Rattle.gx_law_answers.specs.Earned.{Events, IsEarned}
use Rattle.gx_law_answers.specs.Keyed.{AreRowsKeyed}
use Rattle.gx_law_answers.specs.Once.{IsOneSnapshot}
use Rattle.gx_law_answers.specs.Parts.{HasItsPart}
use Rattle.gx_law_answers.specs.Truth.{IsTruth}
use Rattle.gx_law_answers.proofs.Changed.{processed-more}
use Rattle.gx_law_writes.proofs.Statements.{IsOf}
use Rattle.gx_law_answers.proofs.Heard.{done-now, unaborted-then}
use Rattle.gx_law_answers.proofs.Ordered.{HasOrder, IsOrderedMark, world-ordered}
use Rattle.gx_law_answers.proofs.Ours.{its-level, its-slice, ok-same, some-node}
use Rattle.gx_law_answers.proofs.Rows.{IsTaken, row-taken, seen, whole}
use Rattle.gx_law_answers.proofs.Totals.{IsAtOne, node-among, total-is}
use Rattle.gx_law_answers.proofs.Truths.{image-more, snapshot-more}

-- ---- marks that write nothing change nothing of it
writes-more : (xs ys : List Mark) (g : Gxid) (c : Cid) → Each NoWrite ys → write_count (xs ++ ys) g c ≡ write_count xs g c
writes-more [] [] g c e = refl
writes-more [] (mark.Write h d n t r x ∷ ys) g c e = absurd e.0
writes-more [] (y ∷ ys) g c e = writes-more [] ys g c e.1
writes-more (mark.Write h d n t r x ∷ xs) ys g c e = ap (λ k. if is_command_of g c h d then k + 1 else k) (writes-more xs ys g c e)
writes-more (m ∷ xs) ys g c e = writes-more xs ys g c e

changes-more : (ms extra : List Mark) → Each NoWrite extra → (level : Level) (g : Gxid) (c : Cid) (table : Table) (cond : Option Cond) (n : ℕ) → Changes ms level g c table cond n → Changes (ms ++ extra) level g c table cond n
changes-more ms extra quiet level g c table cond n x =
    record {
      rows = x.rows;
      sees = record {
        place = x.sees.place;
        taken = snapshot-more ms extra level g c x.sees.place x.sees.taken;
        view = record {
          rising = x.sees.view.rising;
          images = λ rid.
              x.sees.view.images rid
              ∙ sym (image-more (is_shown_to (Some (g, c)) (take x.sees.place (ms ++ extra))) table rid None ms extra quiet
              ∙ ap (λ b. image ms b (Some (g, c)) table rid) (take-kept ms extra x.sees.place _ x.sees.taken.taken));
        };
      };
      whole = x.whole;
      count = x.count ∙ sym (writes-more ms extra g c quiet);
      each = λ rid row there chosen. processed-more ms extra g c rid (x.each rid row there chosen);
    }

-- the node is of one that was taken, of which this holds
record IsOne (P : Taken → Type 0) (node : Node) : Type 0 where
  t : Taken
  same : t.node ≡ node
  holds : P t

one-of : (P : Taken → Type 0) (taken : List Taken) (node : Node) → AreAll P taken → has node (nodes_taken taken) ≡ true → IsOne P node
one-of P [] node h e = absurd (false-true e)
one-of P (t ∷ ts) node h e = by_test (eqb t.node.0 node.0) refl e (λ q. one-of P ts node h.1 q)
  where
    by_test : (b : Bool) → eqb t.node.0 node.0 ≡ b → (b || has node (nodes_taken ts)) ≡ true → (has node (nodes_taken ts) ≡ true → IsOne P node) → IsOne P node
    by_test true q z more = record { t = t; same = ap (λ n. let r : Node = record { 0 = n } in r) (eqb-true t.node.0 node.0 q); holds = h.0 }
    by_test false q z more = more z

-- ---- the command
module _ (script : Script) (some : 1 ≤ script.segments) (numbered : AreLinesNumbered [] script.lines) (keyed : AreRowsKeyed script) (es : Events) (once : IsOneSnapshot script (marks_in (world_of script es).steps)) (line : Stmt) (s : Slice) (table : Table) (cond : Option Cond) (level : Level) (g : Gxid) (c : Cid) (is : IsOf script (marks_in (world_of script es).steps) line level g c)
    (same : (x : Slice) → IsSliceOf line x → x ≡ s)
    (truth : (before marks : List Mark) (node : Node) (l : Level) (wrote : Bool) (count : ℕ) (part : Part) → IsTruth before marks node l g c s (reply.Done c wrote count part) → (is_aborted marks g ≡ true) ⊎ IsPartDone marks node l g c table cond count)
    (pieces : List Piece) (plan : plan_of script.segments (dist_of script.tables (table_of line)) g c line ≡ Ok pieces) where
  abbrev ms : List Mark
  ms = marks_in (world_of script es).steps

  abbrev Told : Taken → Type 0
  Told t = (1 ≤ t.node.0) × IsEarned script es t.node g c (reply.Done c t.wrote t.count t.part)

  abbrev IsDone : Taken → Type 0
  IsDone t = IsPartDone ms t.node level g c table cond t.count

  done-there : (t : Taken) → Told t → IsDone t
  done-there t (one, x) =
      by_truth (truth _ _ t.node x.level t.wrote t.count t.part
      (subst (λ y. IsTruth (marks_in (world_of script x.given.before).steps) (marks_in (world_of script x.upto).steps) t.node x.level g c y (reply.Done c t.wrote t.count t.part)) (same x.slice (its-slice script some numbered es t.node line level g c is _ x)) x.truth))
    where
      by_truth : (is_aborted (marks_in (world_of script x.upto).steps) g ≡ true) ⊎ IsPartDone (marks_in (world_of script x.upto).steps) t.node x.level g c table cond t.count → IsDone t
      by_truth (inl a) = absurd (unaborted-then script some numbered es t.node g c _ x is.running a)
      by_truth (inr p) = subst (λ l. IsPartDone ms t.node l g c table cond t.count) (its-level script some numbered es t.node line level g c is _ x) (done-now script some numbered es t.node one g c t.wrote t.count t.part x x.level table cond p)

  all-done : (taken : List Taken) → AreAll Told taken → AreAll IsDone taken
  all-done [] h = tt
  all-done (t ∷ ts) h = (done-there t h.0, all-done ts h.1)

  -- all by one snapshot
  abbrev IsDoneBy : ℕ → Taken → Type 0
  IsDoneBy place t = (d : IsPartDone ms t.node level g c table cond t.count) × (d.place ≡ place)

  at-place : (place : ℕ) → IsSnapshotAt ms level g c place → (taken : List Taken) → AreAll IsDone taken → AreAll (IsDoneBy place) taken
  at-place place z [] h = tt
  at-place place z (t ∷ ts) h = ((h.0, once g c h.0.place place (by_level h.0.place h.0.taken) (by_level place z)), at-place place z ts h.1)
    where
      by_level : (p : ℕ) → IsSnapshotAt ms level g c p → IsSnapshotAt ms (level_of_began script (began_from [] ms g)) g c p
      by_level p x = subst (λ l. IsSnapshotAt ms l g c p) is.level_is x

  -- WHAT IT HAS WRITTEN
  module _ (taken : List Taken) (apart : AreApart taken) (all : (i : Node) → has i (nodes_in pieces) ≡ has i (nodes_taken taken)) where
    at-one : (n : Node) (h : Gxid) (d : Cid) → HasOrder script ms n h d → is_command_of g c h d ≡ true → has n (nodes_taken taken) ≡ true
    at-one n h d o e = sym (all n) ∙ ap (λ ps. has n (nodes_in ps)) (sym same-pieces) ∙ node-among o.order.pieces _ o.order.among
      where
        gxids : (a b : Gxid) (x y : Cid) → is_command_of a x b y ≡ true → b ≡ a
        gxids a b x y e = grind (arith, nat_tests)

        cids : (a b : Gxid) (x y : Cid) → is_command_of a x b y ≡ true → y ≡ x
        cids a b x y e = grind (arith, nat_tests)

        of : Rattle.gx_law_order.specs.Scanned.stmt_of_command script ms g c ≡ Some o.order.line
        of = ap (λ b. Rattle.gx_law_order.specs.Scanned.stmt_of_command script ms b c) (sym (gxids g h c d e)) ∙ ap (Rattle.gx_law_order.specs.Scanned.stmt_of_command script ms h) (sym (cids g h c d e)) ∙ o.order.of

        line-is : o.order.line ≡ line
        line-is = some-same o.order.line line (sym of ∙ is.of)

        same-pieces : o.order.pieces ≡ pieces
        same-pieces =
            ok-same (sym o.order.plan ∙ ap (λ b. plan_of script.segments (dist_of script.tables (table_of o.order.line)) b d o.order.line) (gxids g h c d e) ∙ ap (λ b. plan_of script.segments (dist_of script.tables (table_of o.order.line)) g b o.order.line) (cids g h c d e)
            ∙ ap (λ l. plan_of script.segments (dist_of script.tables (table_of l)) g c l) line-is ∙ plan)

    each-at-one : (xs : List Mark) → Each (IsOrderedMark script ms) xs → Each (IsAtOne g c taken apart) xs
    each-at-one [] e = tt
    each-at-one (mark.Write h d n t r x ∷ xs) e = (λ q. at-one n h d e.0 q, each-at-one xs e.1)
    each-at-one (m ∷ xs) e = (tt, each-at-one xs e.1)

    counts : (ts : List Taken) → AreAll IsDone ts → AreAll (λ t. t.count ≡ count_at t.node g c ms) ts
    counts [] h = tt
    counts (t ∷ ts) h = (h.0.counted, counts ts h.1)

    total-written : AreAll IsDone taken → total taken ≡ write_count ms g c
    total-written h = total-is g c taken apart ms (each-at-one ms (world-ordered script some numbered es)) (counts taken h)

  -- WHAT IT HAS PROCESSED
  module _ (cover : (taken : List Taken) → ((i : Node) → has i (nodes_in pieces) ≡ has i (nodes_taken taken)) → (i : Node) → has i (nodes_of script.segments (target_of script.segments (dist_of script.tables table.0) cond)) ≡ has i (nodes_taken taken)) where
    placed : Each (IsPlacedMark script ms) ms
    placed = writes.world-placed script some numbered es

    by-one : (place : ℕ) → IsSnapshotAt ms level g c place → (taken : List Taken) → AreAll IsDone taken → AreApart taken → ((i : Node) → has i (nodes_in pieces) ≡ has i (nodes_taken taken)) → Changes ms level g c table cond (total taken)
    by-one place z taken h apart all =
        record {
          rows = seen script some keyed ms (take place ms) placed g c table cond;
          sees = record { place = place; taken = z; view = view-is ms (take place ms) (Some (g, c)) table };
          whole = whole script some keyed ms (take place ms) placed g c table cond taken (cover taken all) (parts taken ours);
          count = total-written taken apart all h;
          each = λ rid row there chosen. by_taken rid row chosen (row-taken script some keyed ms (take place ms) placed g c table cond taken (cover taken all) rid row there chosen);
        }
      where
        ours : AreAll (IsDoneBy place) taken
        ours = at-place place z taken h

        has-part : (t : Taken) → IsDoneBy place t → HasItsPart ms (take place ms) t.node g c table cond
        has-part t d = subst (λ p. HasItsPart ms (take p ms) t.node g c table cond) d.1 (record { rows = d.0.rows; of = d.0.of; whole = d.0.whole })

        parts : (ts : List Taken) → AreAll (IsDoneBy place) ts → AreAll (λ t. HasItsPart ms (take place ms) t.node g c table cond) ts
        parts [] d = tt
        parts (t ∷ ts) d = (has-part t d.0, parts ts d.1)

        by_taken : (rid : Rid) (row : List Value) → condition_on cond row ≡ Ok true → IsTaken script some keyed ms (take place ms) placed g c table cond taken (cover taken all) rid row → is_processed ms g c rid ≡ true
        by_taken rid row chosen k =
            let one = one-of (IsDoneBy place) taken k.node ours k.among in
            let d = one.holds in
            d.0.each rid row (k.there d.0.rows (subst (λ n. Rattle.gx_law_writes.specs.Parts.IsPartOf ms (take place ms) n g c table d.0.rows) one.same (subst (λ p. Rattle.gx_law_writes.specs.Parts.IsPartOf ms (take p ms) one.t.node g c table d.0.rows) d.1 d.0.of))) chosen

    pub changed : (earlier : List Mark) → Each NoWrite earlier → (taken : List Taken) → AreAll Told taken → AreApart taken → ((i : Node) → has i (nodes_in pieces) ≡ has i (nodes_taken taken)) → Changes (ms ++ earlier) level g c table cond (total taken)
    changed earlier quiet [] told apart all =
        let i = some-node script.segments (target_of script.segments (dist_of script.tables table.0) cond) some in
        absurd (false-true (sym (cover [] all i.0) ∙ i.1))
    changed earlier quiet (t ∷ ts) told apart all =
        let done = all-done (t ∷ ts) told in
        changes-more ms earlier quiet level g c table cond (total (t ∷ ts)) (by-one done.0.place done.0.taken (t ∷ ts) done apart all)
