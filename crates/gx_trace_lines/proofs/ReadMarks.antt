-- The lines of marks are read as they are printed.
use Rattle.std.proofs.Common.{◌≡◌, ◌≢◌, ℕ, ◌^◌, ◌<◌, ◌==◌, Bool, true, false, if◌then◌else◌, List, [], ◌∷◌, ◌++◌, codes}
use Rattle.std.proofs.Common.{Option, Some, None, refl, sym, ◌∙◌, ap, subst, arith, append_assoc, append-nil}
use Rattle.std.specs.Prelude.{All, option_and_then}
use Rattle.std.specs.List.{flat_map}
use Rattle.std.specs.Fmt.{decimal}
use Rattle.std.proofs.lemmas.Option.{none-some, some_pair_parts, option_and_then_some}
use Rattle.gx_dsnap.specs.declared.snapshot.Snapshot.{Snapshot}
use Rattle.gx_ids.specs.declared.ids.Cid.{Cid}
use Rattle.gx_ids.specs.declared.ids.Gxid.{Gxid}
use Rattle.gx_ids.specs.declared.ids.Node.{Node}
use Rattle.gx_ids.specs.declared.ids.SessionId.{SessionId}
use Rattle.gx_ids.specs.declared.ids.Table.{Table}
use Rattle.gx_ids.specs.declared.rid.Rid.{Rid}
use Rattle.gx_meaning.specs.Order.{in_order}
use Rattle.gx_modes.specs.Table.{number_of}
use Rattle.gx_modes.specs.declared.modes.Mode.{Mode}
use Rattle.gx_msg.specs.ItemBytes.{bytes_of_image}
use Rattle.gx_report.specs.LockText.{edge_order, edge_text, object_text, verdict_text}
use Rattle.gx_report.specs.Words.{gxid_text, number_text, session_name, table_name, word_text}
use Rattle.gx_script.specs.declared.Script.{Script}
use Rattle.gx_store.specs.Refusals.{the_coordinator}
use Rattle.gx_store.specs.declared.mark.Mark.{Mark}
use Rattle.gx_store.specs.declared.mark.Mark.TheVariants as mark
use Rattle.gx_tree.specs.declared.value.Value.{Value}
use Rattle.gx_waits.specs.declared.edge.Edge.{Edge}
use Rattle.gx_waits.specs.declared.graph.LocalGraph.{LocalGraph}
use Rattle.gx_waits.specs.declared.object.Object.{Object}
use Rattle.gx_waits.specs.declared.object.Object.TheVariants as object
use Rattle.gx_waits.specs.declared.verdict.Verdict.{Verdict}
use Rattle.gx_waits.specs.declared.verdict.Verdict.TheVariants as verdict
use Rattle.gx_trace.specs.Fields.{cid, count, gxid, node, rid}
use Rattle.gx_trace.specs.Lawful.{IsCid, IsEdge, IsGraph, IsGxid, IsImage, IsMessageText, IsNode, IsObject, IsRid, IsSession, IsSnapshot, IsTable, IsVerdict}
use Rattle.gx_trace.specs.Lists.{edges}
use Rattle.gx_trace.specs.Names.{session}
use Rattle.gx_trace.specs.Readers.{Front, behind, both, number_below, word, EndsName, EndsNumber, IsEnd, IsReaderOf}
use Rattle.gx_trace.specs.Texts.{rid_word}
use Rattle.gx_trace.specs.Values.{image}
use Rattle.gx_trace.specs.declared.seen.SeenMark.{SeenMark}
use Rattle.gx_trace.specs.declared.seen.SeenMark.TheVariants as seen
use Rattle.gx_trace.proofs.Alternatives.{edge-lists, modes, objects}
use Rattle.gx_trace.proofs.Names.{sessions, tables}
use Rattle.gx_trace.proofs.ReadFields.{cids, counts, gxid-lists, gxids, nodes, rids}
use Rattle.gx_trace.proofs.Readers.{behind-word, made-into, numbers-below, one-behind-other}
use Rattle.gx_trace.proofs.Rows.{images}
use Rattle.gx_trace.proofs.Words.{if-true}
use Rattle.gx_trace_lines.specs.Edges.{are_in_order}
use Rattle.gx_trace_lines.specs.Marks.{IsAlone, IsMarkLine, abort_of, addressed, answer_of, begin_of, colon_of, command, command_at, command_on, commit_of, decided_of, dropped_of, ended_of, fault_of, graph, hold_of, journal_of, kept_order}
use Rattle.gx_trace_lines.specs.Marks.{local_of, locked, mark_line, mark_line_text, node_and_gxid, prepared_of, release_of, report_of, restart_of, reported, round, sent_of, skip_of, snap_of, spot, verdict_at, victims_of, wait_of, write_of}
use Rattle.gx_trace_lines.specs.Messages.{message}
use Rattle.gx_trace_lines.specs.Snapshots.{snapshot}
use Rattle.gx_trace_lines.specs.declared.marks.MarkLine.{MarkLine}
use Rattle.gx_trace_lines.specs.declared.marks.MarkLine.TheVariants.{Alone, Own, Ended}
use Rattle.gx_trace_lines.proofs.EdgeOrder.{order-stands, stands-order}
use Rattle.gx_trace_lines.proofs.FirstWords.{IsSoundBehind, as-sound, made-again, made-sound, nothing-sound, on-sound}
use Rattle.gx_trace_lines.proofs.ReadEvents.{at-nodes, ends-name}
use Rattle.gx_trace_lines.proofs.ReadHeads.{ends-number, words}
use Rattle.gx_trace_lines.proofs.ReadMessages.{messages}
use Rattle.gx_trace_lines.proofs.ReadSnapshots.{snapshot_text, snapshots}

-- FIELDS
abbrev command_text : Gxid × Cid → List ℕ
command_text x = gxid_text x.0 ++ number_text x.1.0

abbrev IsCommand : Gxid × Cid → Type 0
IsCommand x = IsGxid x.0 × IsCid x.1

commands : IsReaderOf command_text IsCommand EndsNumber command
commands = one-behind-other gxids cids (λ b rest is ends. refl)

answers : (script : Script) → IsReaderOf (λ (x : SessionId × ℕ). word_text (session_name script x.0) ++ (codes "." ++ decimal x.1)) (λ x. IsSession script x.0 × (x.1 < 2 ^ 32)) EndsNumber
    (both (session script) (behind (codes ".") (number_below (2 ^ 32))))
answers script = one-behind-other (sessions script) (behind-word (codes ".") (numbers-below (2 ^ 32) (omega arith))) (λ b rest is ends. refl)

begins : (script : Script) → IsReaderOf (λ (x : Gxid × SessionId). gxid_text x.0 ++ word_text (session_name script x.1)) (λ x. IsGxid x.0 × IsSession script x.1) EndsName (both gxid (session script))
begins script = one-behind-other gxids (sessions script) (λ b rest is ends. refl)

sendings : IsReaderOf (λ (x : (Node × ℕ) × List ℕ). (number_text x.0.0.0 ++ number_text x.0.1) ++ word_text x.1) (λ x. (IsNode x.0.0 × (x.0.1 < 2 ^ 64)) × IsMessageText x.1) IsEnd (both addressed message)
sendings = one-behind-other (one-behind-other nodes counts (λ b rest is ends. refl)) messages (λ b rest is ends. refl)

snaps : IsReaderOf (λ (x : (Gxid × Cid) × Snapshot). command_text x.0 ++ snapshot_text x.1) (λ x. IsCommand x.0 × IsSnapshot x.1) IsEnd (both command snapshot)
snaps = one-behind-other commands snapshots (λ b rest is ends. refl)

abbrev Place : Type 0
Place = (Gxid × Cid) × (Node × (Table × Rid))

abbrev place_text : Script → Place → List ℕ
place_text script x = command_text x.0 ++ (number_text x.1.0.0 ++ (word_text (table_name script x.1.1.0) ++ rid_word x.1.1.1))

abbrev IsPlace : Script → Place → Type 0
IsPlace script x = IsCommand x.0 × (IsNode x.1.0 × (IsTable script x.1.1.0 × IsRid x.1.1.1))

places : (script : Script) → IsReaderOf (place_text script) (IsPlace script) EndsNumber (command_at script)
places script = one-behind-other commands (one-behind-other nodes (one-behind-other (tables script) rids (λ b rest is ends. refl)) (λ b rest is ends. refl)) (λ b rest is ends. refl)

writes : (script : Script) → IsReaderOf (λ (x : Place × Option (List Value)). place_text script x.0 ++ word_text (bytes_of_image x.1)) (λ x. IsPlace script x.0 × IsImage x.1) IsEnd (both (command_at script) image)
writes script = one-behind-other (places script) images (λ b rest is ends. refl)

on-rows : IsReaderOf (λ (x : (Gxid × Cid) × Rid). command_text x.0 ++ rid_word x.1) (λ x. IsCommand x.0 × IsRid x.1) EndsNumber command_on
on-rows = one-behind-other commands rids (λ b rest is ends. refl)

faults : IsReaderOf (λ (x : ((Gxid × Cid) × Rid) × Option (List Value)). (command_text x.0.0 ++ rid_word x.0.1) ++ word_text (bytes_of_image x.1)) (λ x. (IsCommand x.0.0 × IsRid x.0.1) × IsImage x.1) IsEnd (both command_on image)
faults = one-behind-other on-rows images (λ b rest is ends. refl)

abbrev Lock : Type 0
Lock = Node × (Gxid × (Object × Mode))

abbrev locked_text : Script → Lock → List ℕ
locked_text script x = number_text x.0.0 ++ (gxid_text x.1.0 ++ (object_text script x.1.1.0 ++ number_text (number_of x.1.1.1)))

abbrev IsLocked : Script → Lock → Type 0
IsLocked script x = IsNode x.0 × (IsGxid x.1.0 × (IsObject script x.1.1.0 × Unit {0}))

blank-behind : (script : Script) (o : Object) (more : List ℕ) → EndsNumber (object_text script o ++ more)
blank-behind script (object.Relation t) more = refl
blank-behind script (object.Tuple r) more = refl
blank-behind script (object.Transaction g) more = refl

locks : (script : Script) → IsReaderOf (locked_text script) (IsLocked script) EndsNumber (locked script)
locks script =
    one-behind-other nodes
    (one-behind-other gxids (one-behind-other (objects script) modes (λ b rest is ends. refl))
    (λ b rest is ends. subst EndsNumber (sym (append_assoc (object_text script b.0) (number_text (number_of b.1)) rest)) (blank-behind script b.0 (number_text (number_of b.1) ++ rest))))
    (λ b rest is ends. refl)

-- whatever comes
abbrev IsAny : List ℕ → Type 0
IsAny rest = Unit {0}

-- GRAPHS
kept-by : (es fs : List Edge) (left rest : List ℕ) (c : Bool) → ◌≡◌ {A = Front (List Edge)} (if c then Some (es, left) else None) (Some (fs, rest)) → (c ≡ true) × (es ≡ fs) × (left ≡ rest)
kept-by es fs left rest false e = absurd (none-some _ e)
kept-by es fs left rest true e = let (p, q) = some_pair_parts es fs left rest e in (refl, p, q)

abbrev IsOrdered : List Edge → Type 0
IsOrdered es = All IsEdge es × (in_order edge_order es ≡ es)

graphs : IsReaderOf (flat_map edge_text) IsOrdered IsEnd graph
graphs = record {
  again = λ es rest is end. ap (option_and_then kept_order) (edge-lists.again es rest is.0 end) ∙ if-true (are_in_order es) (Some (es, rest)) None (stands-order es is.1);
  sound = λ bytes rest es e. option_and_then_some kept_order (edges bytes) (es, rest) e (λ x is kept.
      let (order, p, q) = kept-by x.0 es x.1 rest (are_in_order x.0) kept in
      let (all, t) = edge-lists.sound bytes x.1 x.0 is in
      (subst IsOrdered p (all, order-stands x.0 order), t ∙ (λ i. flat_map edge_text (p i) ++ q i)));
}

rounds : {Ends : List ℕ → Type 0} → IsReaderOf (λ n. number_text n ++ codes ":") (λ n. n < 2 ^ 64) Ends round
rounds = made-into (λ n. number_text n ++ codes ":") (λ n. n < 2 ^ 64) colon_of (one-behind-other counts (words (codes ":")) (λ b rest is ends. refl)) (λ n is. ((n, tt), refl, (is, tt))) (λ x is. (is.0, refl))

abbrev Reported : Type 0
Reported = (Node × ℕ) × List Edge

abbrev reported_text : Reported → List ℕ
reported_text x = (number_text x.0.0.0 ++ (number_text x.0.1 ++ codes ":")) ++ flat_map edge_text x.1

abbrev IsReported : Reported → Type 0
IsReported x = (IsNode x.0.0 × (x.0.1 < 2 ^ 64)) × IsOrdered x.1

reports : IsReaderOf reported_text IsReported IsEnd (both reported graph)
reports = one-behind-other {EndsA = IsAny} (one-behind-other nodes rounds (λ b rest is ends. refl)) graphs (λ b rest is ends. tt)

-- VERDICTS
verdict-again : (v : Verdict) (rest : List ℕ) → IsVerdict v → IsEnd rest → verdict_at (verdict_text v ++ rest) ≡ Some (v, rest)
verdict-again verdict.Nothing rest is end = refl
verdict-again (verdict.Dropped g) rest is end = made-again verdict_text verdict_at (codes " dropped") dropped_of gxids (λ bytes. refl) g rest is (ends-number rest end) (simp append-nil)
verdict-again (verdict.Victims gs) rest is end = made-again verdict_text verdict_at (codes " victims") victims_of gxid-lists (λ bytes. refl) gs rest is end refl

verdict-sound : IsSoundBehind [] verdict_text IsVerdict verdict_at
verdict-sound =
    on-sound verdict_text IsVerdict (codes " nothing") (as-sound verdict_text IsVerdict verdict.Nothing tt)
    (on-sound verdict_text IsVerdict (codes " dropped") (made-sound (codes " dropped") verdict_text IsVerdict dropped_of gxids (λ g is. (is, simp append-nil)))
    (on-sound verdict_text IsVerdict (codes " victims") (made-sound (codes " victims") verdict_text IsVerdict victims_of gxid-lists (λ gs is. (is, refl))) (nothing-sound verdict_text IsVerdict)))

verdicts : IsReaderOf verdict_text IsVerdict IsEnd verdict_at
verdicts = record { again = verdict-again; sound = λ bytes rest v e. verdict-sound bytes rest v e }

rechecks : IsReaderOf (λ (x : ℕ × Verdict). (number_text x.0 ++ codes ":") ++ verdict_text x.1) (λ x. (x.0 < 2 ^ 64) × IsVerdict x.1) IsEnd (both round verdict_at)
rechecks = one-behind-other {EndsA = IsAny} rounds verdicts (λ b rest is ends. tt)

-- ONE BEHIND THE OTHER
two-and : (w a b t : List ℕ) → (w ++ (a ++ (b ++ []))) ++ t ≡ w ++ ((a ++ b) ++ t)
two-and w a b t = simp (append_assoc, append-nil)

three-and : (w a b c t r i : List ℕ) → ((w ++ (a ++ (b ++ (c ++ [])))) ++ t) ++ (r ++ i) ≡ w ++ (((a ++ b) ++ (c ++ (t ++ r))) ++ i)
three-and w a b c t r i = simp (append_assoc, append-nil)

two-and-two : (w a b r i : List ℕ) → (w ++ (a ++ (b ++ []))) ++ (r ++ i) ≡ w ++ (((a ++ b) ++ r) ++ i)
two-and-two w a b r i = simp (append_assoc, append-nil)

two-and-lock : (w a b o m : List ℕ) → (w ++ (a ++ (b ++ []))) ++ (o ++ m) ≡ w ++ (a ++ (b ++ (o ++ m)))
two-and-lock w a b o m = simp (append_assoc, append-nil)

two-and-bounds : (w a b p c q d k rs : List ℕ) → ((((w ++ (a ++ (b ++ []))) ++ (p ++ (c ++ []))) ++ (q ++ (d ++ []))) ++ k) ++ rs ≡ w ++ ((a ++ b) ++ (((p ++ c) ++ (q ++ d)) ++ (k ++ rs)))
two-and-bounds w a b p c q d k rs = simp (append_assoc, append-nil)

two-and-graph : (w a b k es : List ℕ) → (w ++ (a ++ (b ++ []))) ++ (k ++ es) ≡ w ++ ((a ++ (b ++ k)) ++ es)
two-and-graph w a b k es = simp (append_assoc, append-nil)

two-then-graph : (w a b k es : List ℕ) → ((w ++ (a ++ (b ++ []))) ++ k) ++ es ≡ w ++ ((a ++ (b ++ k)) ++ es)
two-then-graph w a b k es = simp (append_assoc, append-nil)

-- LINES
module _ (script : Script) where
  abbrev text : MarkLine → List ℕ
  text = mark_line_text script

  abbrev Is : MarkLine → Type 0
  Is = IsMarkLine script

  abbrev read : List ℕ → Front MarkLine
  read = mark_line script

  begin-text : (x : Gxid × SessionId) → text (begin_of x) ≡ codes "begin" ++ (gxid_text x.0 ++ word_text (session_name script x.1))
  begin-text x = simp (append_assoc, append-nil)

  commit-text : (x : Gxid) → text (commit_of x) ≡ codes "commit" ++ (gxid_text x)
  commit-text x = simp (append_assoc, append-nil)

  abort-text : (x : Gxid) → text (abort_of x) ≡ codes "abort" ++ (gxid_text x)
  abort-text x = simp (append_assoc, append-nil)

  answer-text : (x : SessionId × ℕ) → text (answer_of x) ≡ codes "answer" ++ (word_text (session_name script x.0) ++ (codes "." ++ decimal x.1))
  answer-text x = simp (append_assoc, append-nil)

  decided-text : (x : Gxid) → text (decided_of x) ≡ codes "decided" ++ (gxid_text x)
  decided-text x = simp (append_assoc, append-nil)

  prepared-text : (x : Node × Gxid) → text (prepared_of x) ≡ codes "prepared" ++ (number_text x.0.0 ++ gxid_text x.1)
  prepared-text x = simp (append_assoc, append-nil)

  local-text : (x : Node × Gxid) → text (local_of x) ≡ codes "local" ++ (number_text x.0.0 ++ gxid_text x.1)
  local-text x = simp (append_assoc, append-nil)

  journal-text : (x : Node × Gxid) → text (journal_of x) ≡ codes "journal" ++ (number_text x.0.0 ++ gxid_text x.1)
  journal-text x = simp (append_assoc, append-nil)

  restart-text : (n : Node) → text (restart_of n) ≡ codes "restart" ++ number_text n.0
  restart-text n = simp (append_assoc, append-nil)

  send-text : (x : (Node × ℕ) × List ℕ) → text (sent_of x) ≡ codes "send" ++ ((number_text x.0.0.0 ++ number_text x.0.1) ++ word_text x.1)
  send-text x = two-and (codes "send") (number_text x.0.0.0) (number_text x.0.1) (word_text x.1)

  write-text : (x : Place × Option (List Value)) → text (write_of x) ≡ codes "write" ++ (place_text script x.0 ++ word_text (bytes_of_image x.1))
  write-text x = three-and (codes "write") (gxid_text x.0.0.0) (number_text x.0.0.1.0) (number_text x.0.1.0.0) (word_text (table_name script x.0.1.1.0)) (rid_word x.0.1.1.1) (word_text (bytes_of_image x.1))

  skip-text : (x : (Gxid × Cid) × Rid) → text (skip_of x) ≡ codes "skip" ++ (command_text x.0 ++ rid_word x.1)
  skip-text x = simp (append_assoc, append-nil)

  fault-text : (x : ((Gxid × Cid) × Rid) × Option (List Value)) → text (fault_of x) ≡ codes "fault" ++ ((command_text x.0.0 ++ rid_word x.0.1) ++ word_text (bytes_of_image x.1))
  fault-text x = two-and-two (codes "fault") (gxid_text x.0.0.0) (number_text x.0.0.1.0) (rid_word x.0.1) (word_text (bytes_of_image x.1))

  hold-text : (x : Lock) → text (hold_of x) ≡ codes "hold" ++ (locked_text script x)
  hold-text x = two-and-lock (codes "hold") (number_text x.0.0) (gxid_text x.1.0) (object_text script x.1.1.0) (number_text (number_of x.1.1.1))

  wait-text : (x : Lock) → text (wait_of x) ≡ codes "wait" ++ (locked_text script x)
  wait-text x = two-and-lock (codes "wait") (number_text x.0.0) (gxid_text x.1.0) (object_text script x.1.1.0) (number_text (number_of x.1.1.1))

  release-text : (x : Lock) → text (release_of x) ≡ codes "release" ++ (locked_text script x)
  release-text x = two-and-lock (codes "release") (number_text x.0.0) (gxid_text x.1.0) (object_text script x.1.1.0) (number_text (number_of x.1.1.1))

  recheck-text : (x : ℕ × Verdict) → text (ended_of x) ≡ codes "recheck" ++ ((number_text x.0 ++ codes ":") ++ verdict_text x.1)
  recheck-text x = simp (append_assoc, append-nil)

  snap-text : (x : (Gxid × Cid) × Snapshot) → text (snap_of x) ≡ codes "snap" ++ (command_text x.0 ++ snapshot_text x.1)
  snap-text x = two-and-bounds (codes "snap") (gxid_text x.0.0) (number_text x.0.1.0) (codes " xmin") (gxid_text x.1.xmin) (codes " xmax") (gxid_text x.1.xmax) (codes " running") (flat_map gxid_text x.1.running)

  other-node : (n : Node) (x y : MarkLine) → n ≢ the_coordinator → (if n.0 == 0 then x else y) ≡ y
  other-node n x y other = by (n.0 == 0) refl
    where
      by : (c : Bool) → (n.0 == 0) ≡ c → (if c then x else y) ≡ y
      by true e = absurd (other (node-is n.0 0 e))
        where
          node-is : (a b : ℕ) → (a == b) ≡ true → ◌≡◌ {A = Node} (record { 0 = a }) (record { 0 = b })
          node-is a b q = let same : a ≡ b = grind (arith, q) in ap (λ k. record { 0 = k }) same
      by false e = refl

  report-line : (x : Reported) → IsReported x → (c : Bool) → (x.0.0.0 == 0) ≡ c
      → IsMarkLine script (if c then Own x.0.1 x.1 else Alone (seen.Whole (mark.Report x.0.0 x.0.1 (record { node = x.0.0; edges = x.1 }))))
      × (text (if c then Own x.0.1 x.1 else Alone (seen.Whole (mark.Report x.0.0 x.0.1 (record { node = x.0.0; edges = x.1 })))) ≡ codes "report" ++ reported_text x)
  report-line x is true e =
      let zero : 0 ≡ x.0.0.0 = grind (arith, e) in (
        (is.0.1, record { here = refl; edges = is.1.0; order = is.1.1 }),
        own-text x ∙ ap (λ n. codes "report" ++ ((number_text n ++ (number_text x.0.1 ++ codes ":")) ++ flat_map edge_text x.1)) zero,
      )
    where
      own-text : (x : Reported) → text (Own x.0.1 x.1) ≡ codes "report" ++ ((number_text 0 ++ (number_text x.0.1 ++ codes ":")) ++ flat_map edge_text x.1)
      own-text x = two-and-graph (codes "report") (number_text 0) (number_text x.0.1) (codes ":") (flat_map edge_text x.1)
  report-line x is false e = (
    (is.0.0, (λ same. absurd (clash x.0.0 e same)), is.0.1, record { here = refl; edges = is.1.0; order = is.1.1 }),
    whole-text x ∙ ap (λ es. codes "report" ++ ((number_text x.0.0.0 ++ (number_text x.0.1 ++ codes ":")) ++ flat_map edge_text es)) is.1.1,
  )
    where
      clash : (n : Node) → (n.0 == 0) ≡ false → n ≡ the_coordinator → ⊥
      clash n e same = let q : n.0 ≡ 0 = ap (λ (m : Node). m.0) same in absurd (grind (arith, e, q))

      whole-text : (x : Reported) → text (Alone (seen.Whole (mark.Report x.0.0 x.0.1 (record { node = x.0.0; edges = x.1 }))))
          ≡ codes "report" ++ ((number_text x.0.0.0 ++ (number_text x.0.1 ++ codes ":")) ++ flat_map edge_text (in_order edge_order x.1))
      whole-text x = two-then-graph (codes "report") (number_text x.0.0.0) (number_text x.0.1) (codes ":") (flat_map edge_text (in_order edge_order x.1))

  report-whole : (x : Reported) → IsReported x → IsMarkLine script (report_of x) × (text (report_of x) ≡ codes "report" ++ reported_text x)
  report-whole x is = report-line x is (x.0.0.0 == 0) refl

  report-again : (x : Reported) (rest : List ℕ) → IsReported x → IsEnd rest → read (text (report_of x) ++ rest) ≡ Some (report_of x, rest)
  report-again x rest is end = made-again text read (codes "report") report_of reports (λ bytes. refl) x rest is end (report-whole x is).1

  line-again : (m : MarkLine) (rest : List ℕ) → Is m → IsEnd rest → read (text m ++ rest) ≡ Some (m, rest)
  line-again (Alone (seen.Whole (mark.Start g s))) rest is end = made-again text read (codes "begin") begin_of (begins script) (λ bytes. refl) (g, s) rest is (ends-name rest end) (begin-text (g, s))
  line-again (Alone (seen.Whole (mark.Commit g))) rest is end = made-again text read (codes "commit") commit_of gxids (λ bytes. refl) g rest is (ends-number rest end) (commit-text g)
  line-again (Alone (seen.Whole (mark.Abort g))) rest is end = made-again text read (codes "abort") abort_of gxids (λ bytes. refl) g rest is (ends-number rest end) (abort-text g)
  line-again (Alone (seen.Answer s n)) rest is end = made-again text read (codes "answer") answer_of (answers script) (λ bytes. refl) (s, n) rest is (ends-number rest end) (answer-text (s, n))
  line-again (Alone (seen.Whole (mark.Decided g))) rest is end = made-again text read (codes "decided") decided_of gxids (λ bytes. refl) g rest is (ends-number rest end) (decided-text g)
  line-again (Alone (seen.Whole (mark.Prepared n g))) rest is end = made-again text read (codes "prepared") prepared_of at-nodes (λ bytes. refl) (n, g) rest is (ends-number rest end) (prepared-text (n, g))
  line-again (Alone (seen.Whole (mark.LocalCommit n g))) rest is end = made-again text read (codes "local") local_of at-nodes (λ bytes. refl) (n, g) rest is (ends-number rest end) (local-text (n, g))
  line-again (Alone (seen.Whole (mark.JournalFailed n g))) rest is end = made-again text read (codes "journal") journal_of at-nodes (λ bytes. refl) (n, g) rest is (ends-number rest end) (journal-text (n, g))
  line-again (Alone (seen.Whole (mark.Restart n))) rest is end = made-again text read (codes "restart") restart_of nodes (λ bytes. refl) n rest is (ends-number rest end) (restart-text n)
  line-again (Alone (seen.Sent to n m)) rest is end = made-again text read (codes "send") sent_of sendings (λ bytes. refl) ((to, n), m) rest ((is.0, is.1), is.2) end (send-text ((to, n), m))
  line-again (Alone (seen.Whole (mark.Write g c n t r i))) rest is end =
      made-again text read (codes "write") write_of (writes script) (λ bytes. refl) (((g, c), (n, (t, r))), i) rest (((is.0, is.1), (is.2, (is.3, is.4))), is.5) end (write-text (((g, c), (n, (t, r))), i))
  line-again (Alone (seen.Whole (mark.Skip g c r))) rest is end = made-again text read (codes "skip") skip_of on-rows (λ bytes. refl) ((g, c), r) rest ((is.0, is.1), is.2) (ends-number rest end) (skip-text ((g, c), r))
  line-again (Alone (seen.Whole (mark.Fault g c r i))) rest is end = made-again text read (codes "fault") fault_of faults (λ bytes. refl) (((g, c), r), i) rest (((is.0, is.1), is.2), is.3) end (fault-text (((g, c), r), i))
  line-again (Alone (seen.Whole (mark.Hold n g o m))) rest is end =
      made-again text read (codes "hold") hold_of (locks script) (λ bytes. refl) (n, (g, (o, m))) rest (is.0, (is.1, (is.2, tt))) (ends-number rest end) (hold-text (n, (g, (o, m))))
  line-again (Alone (seen.Whole (mark.Wait n g o m))) rest is end =
      made-again text read (codes "wait") wait_of (locks script) (λ bytes. refl) (n, (g, (o, m))) rest (is.0, (is.1, (is.2, tt))) (ends-number rest end) (wait-text (n, (g, (o, m))))
  line-again (Alone (seen.Whole (mark.Release n g o m))) rest is end =
      made-again text read (codes "release") release_of (locks script) (λ bytes. refl) (n, (g, (o, m))) rest (is.0, (is.1, (is.2, tt))) (ends-number rest end) (release-text (n, (g, (o, m))))
  line-again (Alone (seen.Whole (mark.Report n round graph))) rest is end =
      let x : Reported = ((n, round), graph.edges) in
      let same : report_of x ≡ Alone (seen.Whole (mark.Report n round graph)) =
      other-node n (Own round graph.edges) (Alone (seen.Whole (mark.Report n round (record { node = n; edges = graph.edges })))) is.1
      ∙ ap (λ k. Alone (seen.Whole (mark.Report n round (record { node = k; edges = graph.edges })))) (sym is.3.here) in
      subst (λ m. read (text m ++ rest) ≡ Some (m, rest)) same (report-again x rest ((is.0, is.2), (is.3.edges, is.3.order)) end)
  line-again (Own round graph) rest is end = report-again ((the_coordinator, round), graph) rest ((omega arith, is.0), (is.1.edges, is.1.order)) end
  line-again (Ended n v) rest is end = made-again text read (codes "recheck") ended_of rechecks (λ bytes. refl) (n, v) rest is end (recheck-text (n, v))
  line-again (Alone (seen.Whole (mark.Snap g c s))) rest is end = made-again text read (codes "snap") snap_of snaps (λ bytes. refl) ((g, c), s) rest ((is.0, is.1), is.2) end (snap-text ((g, c), s))
  line-again (Alone (seen.Whole (mark.Answer session number said))) rest is end = absurd is
  line-again (Alone (seen.Whole (mark.Sent to number message))) rest is end = absurd is
  line-again (Alone (seen.Whole (mark.Recheck round own verdict))) rest is end = absurd is

  line-sound : IsSoundBehind [] text Is read
  line-sound =
      on-sound text Is (codes "begin") (made-sound (codes "begin") text Is begin_of (begins script) (λ x is. (is, begin-text x)))
      (on-sound text Is (codes "commit") (made-sound (codes "commit") text Is commit_of gxids (λ x is. (is, commit-text x)))
      (on-sound text Is (codes "abort") (made-sound (codes "abort") text Is abort_of gxids (λ x is. (is, abort-text x)))
      (on-sound text Is (codes "answer") (made-sound (codes "answer") text Is answer_of (answers script) (λ x is. (is, answer-text x)))
      (on-sound text Is (codes "decided") (made-sound (codes "decided") text Is decided_of gxids (λ x is. (is, decided-text x)))
      (on-sound text Is (codes "prepared") (made-sound (codes "prepared") text Is prepared_of at-nodes (λ x is. (is, prepared-text x)))
      (on-sound text Is (codes "local") (made-sound (codes "local") text Is local_of at-nodes (λ x is. (is, local-text x)))
      (on-sound text Is (codes "journal") (made-sound (codes "journal") text Is journal_of at-nodes (λ x is. (is, journal-text x)))
      (on-sound text Is (codes "send") (made-sound (codes "send") text Is sent_of sendings (λ x is. ((is.0.0, is.0.1, is.1), send-text x)))
      (on-sound text Is (codes "write") (made-sound (codes "write") text Is write_of (writes script) (λ x is. ((is.0.0.0, is.0.0.1, is.0.1.0, is.0.1.1.0, is.0.1.1.1, is.1), write-text x)))
      (on-sound text Is (codes "skip") (made-sound (codes "skip") text Is skip_of on-rows (λ x is. ((is.0.0, is.0.1, is.1), skip-text x)))
      (on-sound text Is (codes "fault") (made-sound (codes "fault") text Is fault_of faults (λ x is. ((is.0.0.0, is.0.0.1, is.0.1, is.1), fault-text x)))
      (on-sound text Is (codes "hold") (made-sound (codes "hold") text Is hold_of (locks script) (λ x is. ((is.0, is.1.0, is.1.1.0), hold-text x)))
      (on-sound text Is (codes "wait") (made-sound (codes "wait") text Is wait_of (locks script) (λ x is. ((is.0, is.1.0, is.1.1.0), wait-text x)))
      (on-sound text Is (codes "release") (made-sound (codes "release") text Is release_of (locks script) (λ x is. ((is.0, is.1.0, is.1.1.0), release-text x)))
      (on-sound text Is (codes "report") (made-sound (codes "report") text Is report_of reports report-whole)
      (on-sound text Is (codes "recheck") (made-sound (codes "recheck") text Is ended_of rechecks (λ x is. (is, recheck-text x)))
      (on-sound text Is (codes "snap") (made-sound (codes "snap") text Is snap_of snaps (λ x is. ((is.0.0, is.0.1, is.1), snap-text x)))
      (on-sound text Is (codes "restart") (made-sound (codes "restart") text Is restart_of nodes (λ x is. (is, restart-text x)))
      (nothing-sound text Is)))))))))))))))))))

pub mark-lines : (script : Script) → IsReaderOf (mark_line_text script) (IsMarkLine script) IsEnd (mark_line script)
mark-lines script = record { again = line-again script; sound = λ bytes rest m e. line-sound script bytes rest m e }
