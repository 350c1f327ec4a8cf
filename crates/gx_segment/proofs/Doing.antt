-- What a message came to.
use Rattle.std.proofs.Common.{◌≡◌, ◌≤◌, Bool, false, if◌then◌else◌, Option, Some, None, List, [], refl, sym, ap, ◌∙◌, subst, arith}
use Rattle.std.proofs.lemmas.Bool.Decides.{nat_tests}
use Rattle.gx_ids.specs.declared.ids.Gxid.{Gxid}
use Rattle.gx_ids.specs.declared.ids.Node.{Node}
use Rattle.gx_ids.specs.declared.rid.Rid.{Rid}
use Rattle.std.specs.Prelude.{◌++◌}
use Rattle.gx_tree.specs.declared.schema.Schema.{Schema}
use Rattle.gx_dsnap.specs.Gxids.{is_below}
use Rattle.gx_dtx.specs.declared.order.Order.{Order}
use Rattle.gx_msg.specs.declared.item.JournalItem.{JournalItem}
use Rattle.gx_msg.specs.declared.item.Kept.{Kept}
use Rattle.gx_msg.specs.declared.reply.Reply.{Reply}
use Rattle.gx_locks.specs.Locks.{Locks}
use Rattle.gx_node.specs.Changes.{Change, change_of, left_locks, left_marks, marks_in, outs_in, turn_of}
use Rattle.gx_outside.specs.Shelves.{Shelf}
use Rattle.gx_node.specs.Orders.{IsLaterBy, Took}
use Rattle.gx_node.specs.Outcomes.{Outcome}
use Rattle.gx_node.proofs.Turns.{turn-makes}
use Rattle.gx_rules.specs.Segments.{Local, Seg, SegTurn, Suspended, local_of, stays, tells_kept}
use Rattle.gx_store.specs.declared.mark.Mark.{Mark}
use Rattle.gx_rules.specs.Shown.{kept_of}
use Rattle.gx_rules.specs.Running.{goes_on}
use Rattle.gx_rules.specs.Slices.{Moved}
use Rattle.gx_slices.specs.Agrees.{IsHeld, entry_at, local_in, rows_in}
use Rattle.gx_slices.specs.Ran.{HasProgressed, replies}
use Rattle.gx_slices.specs.declared.held.Held.{Held}
use Rattle.gx_slices.specs.declared.progress.Progress.{Progress}
use Rattle.gx_segment.specs.Done.{Came, HasDone, answer_of, to_coordinator}
use Rattle.gx_segment.specs.Moves.{HasMoved, order_turn}
use Rattle.gx_segment.proofs.Following.{follows-change_of}
use Rattle.gx_segment.proofs.Lasting.{lasts-change_of}
use Rattle.gx_segment.proofs.Moving.{IsHeld-moved}
use Rattle.gx_segment.proofs.Standing.{Fixed, goes_on-stands}

out-answer_of : (g : Gxid) (r : Option Reply) → to_coordinator (answer_of g r) ≡ outs_in g r
out-answer_of g None = refl
out-answer_of g (Some r) = refl

HasDone-kept : (tables : List Schema) (held : Held) (horizon : Gxid) (s : Seg) (g : Gxid) (answer : Option Reply) → IsHeld tables held s → horizon ≡ s.horizon → HasDone tables held horizon (record { marks = []; answer = answer_of g answer; fails = false }) (tells_kept s g answer)
HasDone-kept tables held horizon s g None is e = record { held = is; horizon = e; marks = refl; outs = refl }
HasDone-kept tables held horizon s g (Some r) is e = record { held = is; horizon = e; marks = refl; outs = refl }

-- ORDERS
module _ (o : Order) (s : Seg) (g : Gxid) (fails : Bool) where
  abbrev made : Change
  made = change_of o s.node g (kept_of s g) fails (local_of s g)

  above : s.horizon.0 ≤ g.0 → order_turn o s g fails ≡ turn_of o s g fails (local_of s g)
  above alive = ap (λ (b : Bool). if b then stays s else turn_of o s g fails (local_of s g)) (not_below alive)
    where
      not_below : s.horizon.0 ≤ g.0 → is_below s.horizon g ≡ false
      not_below alive = grind (arith, nat_tests)

  -- the change that was made is the rule's
  made-held : (tables : List Schema) (held : Held) (node : Node) → IsHeld tables held s → node ≡ s.node → s.horizon.0 ≤ g.0 → change_of o node g (rows_in (entry_at held g)) fails (local_in (entry_at held g)) ≡ made
  made-held tables held node is e alive =
      ap (λ (i : Node). change_of o i g (rows_in (entry_at held g)) fails (local_in (entry_at held g))) e
      ∙ ap (λ (ks : List Kept). change_of o s.node g ks fails (local_in (entry_at held g))) (is.kept g alive)
      ∙ ap (λ (l : Local). change_of o s.node g (kept_of s g) fails l) (is.locals g alive)

  HasDone-ordered : (tables : List Schema) (held held' : Held) (horizon : Gxid) (change : Change) (taken : Outcome) (done : Came) (node : Node) (locks : Locks) → IsHeld tables held s → node ≡ s.node → horizon ≡ s.horizon → s.horizon.0 ≤ g.0 → HasMoved held held' g change taken → change ≡ made → done ≡ record { marks = marks_in taken.mark ++ left_marks taken.ends node held'.locks g; answer = answer_of g taken.reply; fails = fails } → locks ≡ left_locks taken.ends held'.locks g → HasDone tables (record held' { locks = locks }) horizon done (order_turn o s g fails)
  HasDone-ordered tables held held' horizon change taken done node locks is n e alive moved same d left =
      let makes = turn-makes o s g fails in
      let m : HasMoved held held' g made taken = subst (λ (c : Change). HasMoved held held' g c taken) same moved in
      subst (HasDone tables (record held' { locks = locks }) horizon done) (sym (above alive)) (record {
        held =
            IsHeld-moved tables held held' s g made taken (turn_of o s g fails (local_of s g)) is alive m makes (follows-change_of o s.node g (kept_of s g) fails (local_of s g)) (lasts-change_of o s.node g (kept_of s g) fails (local_of s g)) locks
            (left ∙ ap (λ (b : Bool). left_locks b held'.locks g) m.ends);
        horizon = e ∙ sym (ap (λ (x : Seg). x.horizon) makes.others);
        marks =
            ap (λ (x : Came). x.marks) d
            ∙ ap (λ (mark : Option Mark). marks_in mark ++ left_marks taken.ends node held'.locks g) m.mark
            ∙ ap (λ (b : Bool). marks_in made.mark ++ left_marks b node held'.locks g) m.ends
            ∙ ap (λ (i : Node). marks_in made.mark ++ left_marks made.ends i held'.locks g) n
            ∙ ap (λ (x : Locks). marks_in made.mark ++ left_marks made.ends s.node x g) (m.locks ∙ is.locks)
            ∙ sym makes.marks;
        outs = ap (λ (x : Came). to_coordinator x.answer) d ∙ out-answer_of g taken.reply ∙ ap (outs_in g) m.reply ∙ sym makes.outs;
      })

  item-ordered : (change : Change) → s.horizon.0 ≤ g.0 → change ≡ made → change.item ≡ (order_turn o s g fails).item
  item-ordered change alive same =
      let makes = turn-makes o s g fails in ap (λ (c : Change). c.item) same ∙ sym makes.item ∙ sym (ap (λ (t : SegTurn). t.item) (above alive))

-- the journal may have the turn's item more
pub later-order : (o : Order) (s : Seg) (g : Gxid) (tables : List Schema) (held : Held) (node : Node) {before after : Shelf} → IsHeld tables held s → node ≡ s.node → s.horizon.0 ≤ g.0
    → IsLaterBy before after (change_of o node g (rows_in (entry_at held g)) false (local_in (entry_at held g))).item → IsLaterBy before after (order_turn o s g false).item
later-order o s g tables held node {before = before} {after = after} is n alive later =
    subst (λ (it : Option JournalItem). IsLaterBy before after it) (item-ordered o s g false _ alive (made-held o s g false tables held node is n alive)) later

-- SLICES
replies-answer_of : (g : Gxid) (r : Option Reply) → to_coordinator (answer_of g r) ≡ replies g r
replies-answer_of g None = refl
replies-answer_of g (Some r) = refl

-- a slice has gone on behind these marks
pub HasDone-progressed : (tables : List Schema) (held : Held) (m : Moved) (g : Gxid) (w : Suspended) (row : Option Rid) (progress : Progress) (done : Came) → HasProgressed tables held g progress (goes_on m g w row) → done ≡ record { marks = progress.marks; answer = answer_of g progress.reply; fails = false } → HasDone tables held m.seg.horizon done (goes_on m g w row)
HasDone-progressed tables held m g w row progress done is d =
    subst (λ (x : Came). HasDone tables held m.seg.horizon x (goes_on m g w row)) (sym d) (record {
      held = is.agrees;
      horizon = sym (ap (λ (x : Fixed). x.horizon) (goes_on-stands m g w row));
      marks = is.marks;
      outs = replies-answer_of g progress.reply ∙ sym is.outs;
    })

pub HasDone-told : (tables : List Schema) (held : Held) (s : Seg) (g : Gxid) (r : Option Reply) (done : Came) → IsHeld tables held s → s.horizon.0 ≤ g.0 → r ≡ (local_in (entry_at held g)).answer → done ≡ record { marks = []; answer = answer_of g r; fails = false } → HasDone tables held s.horizon done (tells_kept s g (local_of s g).answer)
HasDone-told tables held s g r done is alive e d =
    let same : r ≡ (local_of s g).answer = e ∙ ap (λ (l : Local). l.answer) (is.locals g alive) in
    subst (λ (x : Came). HasDone tables held s.horizon x (tells_kept s g (local_of s g).answer)) (sym d)
    (subst (λ (x : Option Reply). HasDone tables held s.horizon (record { marks = []; answer = answer_of g r; fails = false }) (tells_kept s g x)) same (HasDone-kept tables held s.horizon s g r is refl))

-- AN ORDER IS DONE
module _ (o : Order) (s : Seg) (g : Gxid) (tables : List Schema) (held held' : Held) (node : Node) (taken : Outcome) (done : Came) (is : IsHeld tables held s) (n : node ≡ s.node) (alive : s.horizon.0 ≤ g.0) (d : done ≡ record { marks = marks_in taken.mark ++ left_marks taken.ends node held'.locks g; answer = answer_of g taken.reply; fails = taken.fails }) where
  abbrev change : Change
  change = change_of o node g (rows_in (entry_at held g)) taken.fails (local_in (entry_at held g))

  abbrev turn : Bool → SegTurn
  turn b = order_turn o s g b

  pub HasDone-order : (horizon : Gxid) (locks : Locks) → horizon ≡ s.horizon → HasMoved held held' g change taken → locks ≡ left_locks taken.ends held'.locks g → HasDone tables (record held' { locks = locks }) horizon done (turn done.fails)
  HasDone-order horizon locks e moved left =
      subst (λ (b : Bool). HasDone tables (record held' { locks = locks }) horizon done (turn b)) (sym (ap (λ (x : Came). x.fails) d))
      (HasDone-ordered o s g taken.fails tables held held' horizon change taken done node locks is n e alive moved (made-held o s g taken.fails tables held node is n alive) d left)

  pub Took-order : (before after : Shelf) → Took before after taken.fails change.item → Took before after done.fails (turn done.fails).item
  Took-order before after took =
      subst (λ (b : Bool). Took before after b (turn b).item) (sym (ap (λ (x : Came). x.fails) d))
      (subst (λ (it : Option JournalItem). Took before after taken.fails it) (item-ordered o s g taken.fails change alive (made-held o s g taken.fails tables held node is n alive)) took)
