-- What a segment's turn does to rows: they are its one transaction's, at their node, and no other slice waits anew.
use Rattle.std.proofs.Common.{◌≡◌, ◌≤◌, ◌<◌, ◌⊎◌, inl, inr, ℕ, ◌+◌, List, [], ◌∷◌, ◌++◌, Option, Some, None, Bool, true, false, refl, sym, subst, ap, ◌∙◌, if◌then◌else◌, arith, eqb, append-nil}
use Rattle.std.proofs.lemmas.Bool.{eqb-true}
use Rattle.std.proofs.lemmas.List.{append_assoc}
use Rattle.std.specs.Prelude.{fold, length}
use Rattle.gx_lemmas.proofs.Numbers.{eqb-self}
use Rattle.gx_ids.specs.declared.ids.Cid.{Cid}
use Rattle.gx_ids.specs.declared.ids.Gxid.{Gxid}
use Rattle.gx_ids.specs.declared.ids.Node.{Node}
use Rattle.gx_ids.specs.declared.ids.Table.{Table}
use Rattle.gx_ids.specs.declared.rid.Rid.{Rid}
use Rattle.gx_tree.specs.declared.query.Query.{Query}
use Rattle.gx_tree.specs.declared.row.KeyedRow.{KeyedRow}
use Rattle.gx_tree.specs.declared.value.Value.{Value}
use Rattle.gx_meaning.specs.declared.fault.ArithFault.{ArithFault}
use Rattle.gx_script.specs.declared.Script.{Script}
use Rattle.gx_msg.specs.declared.message.Message.{Message}
use Rattle.gx_msg.specs.declared.message.Out.{Out}
use Rattle.gx_msg.specs.declared.reply.Reply.{Reply}
use Rattle.gx_store.specs.declared.mark.Mark.{Mark}
use Rattle.gx_store.specs.declared.mark.Mark.TheVariants as mark
use Rattle.gx_store.specs.Marks.{is_aborted, node_of}
use Rattle.gx_rules.specs.AtSegment.{raised}
use Rattle.gx_rules.specs.Locks.{wait_mark, with_wait}
use Rattle.gx_rules.specs.Segments.{Local, Seg, SegTurn, Suspended, Version, after_marks, local_of, reply as reply_out, with_local}
use Rattle.gx_rules.specs.Running.{suspended_slice}
use Rattle.gx_rules.specs.Slices.{Moved, answers, inserted, inserts, inserts_row, locks as locks_only, own_lock, selects, starts_from, takes_lock, version}
use Rattle.gx_law_order.proofs.Lists.{each_append, each_weaker}
use Rattle.gx_law_order.specs.Lists.{Each}
use Rattle.gx_law_writes.proofs.Half.{IsHalf, IsHalfAt}
use Rattle.gx_law_writes.proofs.Undone.{undone, undone-drops, undone_at, undone_by}
use Rattle.gx_law_writes.proofs.Moves.{IsBase}
use Rattle.gx_law_writes.proofs.Next.{new-next, next_command}
use Rattle.gx_law_writes.proofs.Rows.{IsStillAt, by-own, still-added, still-itself, still-locked, wrote}
use Rattle.gx_law_writes.proofs.Turns.{IsKeptOrDropped, NoRow, NoWrite, Quiet, Waited}

-- a mark of the transaction at the node, of one of its commands below this number; a row that it skips stands there, unless it has
-- aborted
abbrev pub IsIts : List Mark → Node → Gxid → ℕ → Mark → Type 0
IsIts all node actor first (mark.Write g c n t r x) = (g ≡ actor) × (c.0 < first) × (n ≡ node)
IsIts all node actor first (mark.Skip g c r) = (g ≡ actor) × (c.0 < first) × (is_aborted all g ≡ false → node_of all r ≡ Some node)
IsIts all node actor first _ = Unit {0}

-- a write is of a command from this number on
abbrev pub IsFrom : ℕ → Mark → Type 0
IsFrom low (mark.Write g c n t r x) = low ≤ c.0
IsFrom low _ = Unit {0}

-- the transaction's slice goes on waiting, or is dropped, and nothing is done to rows
pub record IsIdle (was is : Option Suspended) (marks : List Mark) (own : List Version) : Type 0 where
  pub waits : IsKeptOrDropped was is
  pub none : Each NoWrite marks
  pub same : own ≡ []

pub record Works (ms : List Mark) (node : Node) (s : Seg) (turn : SegTurn) : Type 0 where
  pub actor : Gxid
  pub rises : (h : ℕ) → undone (s.locals h) ≤ undone (turn.seg.locals h)
  pub marks : Each (IsIts (ms ++ turn.marks) node actor (undone (turn.seg.locals actor.0))) turn.marks
  pub starts : Each (IsFrom (next_command (s.locals actor.0))) turn.marks
  pub own : List Version
  pub versions : turn.seg.versions ≡ s.versions ++ own
  pub mine : Each (λ (v : Version). v.gxid ≡ actor) own
  pub others : (h : ℕ) → eqb h actor.0 ≡ false → IsKeptOrDropped (s.locals h).suspended (turn.seg.locals h).suspended
  pub its : IsIdle (s.locals actor.0).suspended (turn.seg.locals actor.0).suspended turn.marks own ⊎ IsHalf (ms ++ turn.marks) turn.seg.versions node actor (turn.seg.locals actor.0).suspended

no-row-write : (m : Mark) → NoRow m → NoWrite m
no-row-write (mark.Write g c n t r x) k = absurd k
no-row-write (mark.Skip g c r) k = absurd k
no-row-write m k = tt

pub no-write-its : (all : List Mark) (node : Node) (actor : Gxid) (first : ℕ) (m : Mark) → NoWrite m → IsIts all node actor first m
no-write-its all node actor first (mark.Write g c n t r x) e = absurd e
no-write-its all node actor first (mark.Skip g c r) e = absurd e
no-write-its all node actor first m e = tt

pub no-write-from : (low : ℕ) (m : Mark) → NoWrite m → IsFrom low m
no-write-from low (mark.Write g c n t r x) e = absurd e
no-write-from low m e = tt

same-le : {a b : ℕ} → b ≡ a → a ≤ b
same-le e = omega arith

le-same : {a b c : ℕ} → a ≤ b → c ≡ b → a ≤ c
le-same l e = omega arith

le-trans : {a b c : ℕ} → a ≤ b → b ≤ c → a ≤ c
le-trans l m = omega arith

-- IT DOES NOTHING TO ROWS
rise-by : (a b : Local) → IsKeptOrDropped a.suspended b.suspended → b.last ≡ a.last → undone a ≤ undone b
rise-by a b (inl e) f = same-le (ap (λ o. undone_by o b.last) e ∙ ap (undone_by a.suspended) f)
rise-by a b (inr e) f = le-same (undone-drops a.suspended a.last) (ap (λ o. undone_by o b.last) e ∙ ap (λ n. n + 1) f)

pub quiet-works : (ms : List Mark) (node : Node) (s : Seg) (turn : SegTurn) → Quiet s turn → Works ms node s turn
quiet-works ms node s turn q =
    record {
      actor = record { 0 = 0 };
      rises = λ h. rise-by (s.locals h) (turn.seg.locals h) (q.waits h) (q.lasts h);
      marks = each_weaker NoRow (IsIts (ms ++ turn.marks) node (record { 0 = 0 }) (undone (turn.seg.locals 0))) (λ m e. no-write-its (ms ++ turn.marks) node (record { 0 = 0 }) (undone (turn.seg.locals 0)) m (no-row-write m e)) turn.marks q.marks;
      starts = each_weaker NoRow (IsFrom (next_command (s.locals 0))) (λ m e. no-write-from (next_command (s.locals 0)) m (no-row-write m e)) turn.marks q.marks;
      own = [];
      versions = q.versions ∙ sym (append-nil s.versions);
      mine = tt;
      others = λ h e. q.waits h;
      its = inl (record { waits = q.waits 0; none = each_weaker NoRow NoWrite no-row-write turn.marks q.marks; same = refl });
    }

-- A SLICE STOPS, WITH AN ANSWER OR IN A WAIT FOR ITS TABLE
abbrev pub IsRowless : Option Suspended → Type 0
IsRowless None = Unit {0}
IsRowless (Some x) = x.row ≡ None

rowless-half : (ms : List Mark) (versions : List Version) (node : Node) (g : Gxid) (o : Option Suspended) → IsRowless o → IsHalf ms versions node g o
rowless-half ms versions node g None e = tt
rowless-half ms versions node g (Some x) e = subst (IsHalfAt ms versions node g x) (sym e) tt

rowless-above : (o : Option Suspended) (c : ℕ) → IsRowless o → c ≤ undone_by o c
rowless-above None c e = omega arith
rowless-above (Some x) c e = subst (λ row. c ≤ undone_at row c) (sym e) (same-le refl)

-- marks of a command that writes
abbrev pub IsMine : Gxid → Cid → Node → Mark → Type 0
IsMine g c node (mark.Write h d n t r x) = (h ≡ g) × (d ≡ c) × (n ≡ node)
IsMine g c node (mark.Skip h d r) = ⊥
IsMine g c node _ = Unit {0}

pub record InsertWork (b : Seg) (g : Gxid) (c : Cid) (m : Moved) : Type 0 where
  pub still : IsStillAt b g m.seg
  pub marks : Each (IsMine g c b.node) m.marks
  pub own : List Version
  pub versions : m.seg.versions ≡ b.versions ++ own
  pub mine : Each (λ (v : Version). v.gxid ≡ g) own

none-work : (b : Seg) (g : Gxid) (c : Cid) → InsertWork b g c (starts_from b)
none-work b g c = record { still = still-itself b g; marks = tt; own = []; versions = sym (append-nil b.versions); mine = tt }

fault-work : (b : Seg) (g : Gxid) (c : Cid) (rid : Rid) (image : Option (List Value)) → InsertWork b g c (record { seg = b; marks = mark.Fault g c rid image ∷ [] })
fault-work b g c rid image = record { still = still-itself b g; marks = (tt, tt); own = []; versions = sym (append-nil b.versions); mine = tt }

module _ (b : Seg) (g : Gxid) (c : Cid) (table : Table) where
  wrote-work : (m : Moved) (rid : Rid) (image : Option (List Value)) → InsertWork b g c m → InsertWork b g c (wrote g c table m rid image)
  wrote-work m rid image f =
      record {
        still = still-added b g c table m rid image f.still;
        marks = each_append (IsMine g c b.node) m.marks _ f.marks ((refl, refl, f.still.node), tt);
        own = f.own ++ version g c table rid image ∷ [];
        versions = ap (λ vs. vs ++ version g c table rid image ∷ []) f.versions ∙ append_assoc b.versions f.own (version g c table rid image ∷ []);
        mine = each_append (λ (v : Version). v.gxid ≡ g) f.own _ f.mine (refl, tt);
      }

  held-work : (m : Moved) → InsertWork b g c m → InsertWork b g c (takes_lock (own_lock g) m)
  held-work m f =
      record { still = still-locked b g m.seg _ f.still; marks = each_append (IsMine g c b.node) m.marks _ f.marks (tt, tt); own = f.own; versions = f.versions; mine = f.mine }

  row-work : (m : Moved) (row : KeyedRow) → InsertWork b g c m → InsertWork b g c (inserts_row g c table m row)
  row-work m row f =
      let now = wrote-work m row.rid (Some row.row) f in
      by-own (InsertWork b g c) g (local_of m.seg g).phase (wrote g c table m row.rid (Some row.row)) (held-work (wrote g c table m row.rid (Some row.row)) now) now

  rows-work : (rows : List KeyedRow) (m : Moved) → InsertWork b g c m → InsertWork b g c (fold (inserts_row g c table) m rows)
  rows-work [] m f = f
  rows-work (r ∷ rs) m f = rows-work rs (inserts_row g c table m r) (row-work m r f)

module _ (ms : List Mark) (node : Node) (s : Seg) (named : s.node ≡ node) (g : Gxid) (c : Cid) (fresh : undone (s.locals g.0) ≤ c.0) (starts : next_command (s.locals g.0) ≤ c.0) (b : Seg) (on : IsBase s g b) (lead : List Mark) (silent : Each NoWrite lead) where
  module _ (m : Moved) (f : InsertWork b g c m) (y : Local) (o : Option Suspended) (last : y.last ≡ c.0) (waits : y.suspended ≡ o) (rowless : IsRowless o) (writes : Each NoWrite m.marks ⊎ (o ≡ None)) (outs : List Out) where
    abbrev turn : SegTurn
    turn = after_marks lead (record { seg = with_local m.seg g y; marks = m.marks; outs = outs; item = None })

    here : turn.seg.locals g.0 ≡ y
    here = ap (λ q. if q then y else m.seg.locals g.0) (eqb-self g.0)

    away : (h : ℕ) → eqb h g.0 ≡ false → turn.seg.locals h ≡ s.locals h
    away h q = ap (λ z. if z then y else m.seg.locals h) q ∙ f.still.others h q ∙ on.others h q

    undone-is : undone (turn.seg.locals g.0) ≡ undone_by o c.0
    undone-is = ap undone here ∙ ap (λ z. undone_by z y.last) waits ∙ ap (undone_by o) last

    rises : (h : ℕ) → undone (s.locals h) ≤ undone (turn.seg.locals h)
    rises h = by_test (eqb h g.0) refl
      where
        by_test : (q : Bool) → eqb h g.0 ≡ q → undone (s.locals h) ≤ undone (turn.seg.locals h)
        by_test true q = subst (λ j. undone (s.locals j) ≤ undone (turn.seg.locals j)) (sym (eqb-true h g.0 q)) (le-same (le-trans fresh (rowless-above o c.0 rowless)) undone-is)
        by_test false q = same-le (ap undone (away h q))

    last-one : {a b : ℕ} → b ≡ a + 1 → a < b
    last-one e = omega arith

    mine-its : o ≡ None → (x : Mark) → IsMine g c b.node x → IsIts (ms ++ turn.marks) node g (undone (turn.seg.locals g.0)) x
    mine-its none (mark.Write h d n t r z) e = (e.0, subst (λ (k : Cid). k.0 < undone (turn.seg.locals g.0)) (sym e.1) (last-one (undone-is ∙ ap (λ q. undone_by q c.0) none)), e.2 ∙ on.node ∙ named)
    mine-its none (mark.Skip h d r) e = absurd e
    mine-its none x e = tt

    own-marks : Each NoWrite m.marks ⊎ (o ≡ None) → Each (IsIts (ms ++ turn.marks) node g (undone (turn.seg.locals g.0))) m.marks
    own-marks (inl none) = each_weaker NoWrite (IsIts (ms ++ turn.marks) node g (undone (turn.seg.locals g.0))) (λ x e. no-write-its (ms ++ turn.marks) node g (undone (turn.seg.locals g.0)) x e) m.marks none
    own-marks (inr e) = each_weaker (IsMine g c b.node) (IsIts (ms ++ turn.marks) node g (undone (turn.seg.locals g.0))) (λ x k. mine-its e x k) m.marks f.marks

    mine-from : (x : Mark) → IsMine g c b.node x → IsFrom (next_command (s.locals g.0)) x
    mine-from (mark.Write h d n t r z) e = subst (λ (k : Cid). next_command (s.locals g.0) ≤ k.0) (sym e.1) starts
    mine-from (mark.Skip h d r) e = absurd e
    mine-from x e = tt

    pub stopped-works : Works ms node s (after_marks lead (record { seg = with_local m.seg g y; marks = m.marks; outs = outs; item = None }))
    stopped-works =
        record {
          actor = g;
          rises = rises;
          marks = each_append (IsIts (ms ++ turn.marks) node g (undone (turn.seg.locals g.0))) lead m.marks
              (each_weaker NoWrite (IsIts (ms ++ turn.marks) node g (undone (turn.seg.locals g.0))) (λ x e. no-write-its (ms ++ turn.marks) node g (undone (turn.seg.locals g.0)) x e) lead silent) (own-marks writes);
          starts = each_append (IsFrom (next_command (s.locals g.0))) lead m.marks (each_weaker NoWrite (IsFrom (next_command (s.locals g.0))) (no-write-from (next_command (s.locals g.0))) lead silent)
              (each_weaker (IsMine g c b.node) (IsFrom (next_command (s.locals g.0))) mine-from m.marks f.marks);
          own = f.own;
          versions = f.versions ∙ ap (λ vs. vs ++ f.own) on.versions;
          mine = f.mine;
          others = λ h q. inl (ap (λ (l : Local). l.suspended) (away h q));
          its = inr (subst (IsHalf (ms ++ turn.marks) turn.seg.versions node g) (sym (ap (λ (l : Local). l.suspended) here ∙ waits)) (rowless-half (ms ++ turn.marks) turn.seg.versions node g o rowless));
        }

  -- none of it waits any more
  alone-still : (m : Moved) → InsertWork b g c m → (local_of m.seg g).suspended ≡ None
  alone-still m f = f.still.suspended ∙ on.alone

  answered-works : (m : Moved) → InsertWork b g c m → (r : Reply) → Works ms node s (after_marks lead (answers m.seg g c m.marks r))
  answered-works m f r = stopped-works m f (record (local_of m.seg g) { last = c.0; answer = Some r }) None refl (alone-still m f) tt (inr refl) (reply_out g r ∷ [])

  pub select-works : (query : Query) (rows : List KeyedRow) (f : Option (KeyedRow × ArithFault)) → Works ms node s (after_marks lead (selects b g c query rows f))
  select-works query rows None = answered-works (starts_from b) (none-work b g c) _
  select-works query rows (Some f) = answered-works (record { seg = b; marks = mark.Fault g c f.0.rid (Some f.0.row) ∷ [] }) (fault-work b g c f.0.rid (Some f.0.row)) _

  pub lock-works : Works ms node s (after_marks lead (locks_only b g c))
  lock-works = answered-works (starts_from b) (none-work b g c) _

  pub insert-works : (table : Table) (rows : List KeyedRow) → Works ms node s (after_marks lead (inserts g c (length rows) (inserted b g c table rows)))
  insert-works table rows = answered-works (inserted b g c table rows) (rows-work b g c table rows (starts_from b) (none-work b g c)) _

-- a new command, where nobody waits
pub new-undone : (l : Local) (c : ℕ) → l.suspended ≡ None → l.last < c → undone l ≤ c
new-undone l c e h = subst (λ o. undone_by o l.last ≤ c) (sym e) (above l.last c h)
  where
    above : (a b : ℕ) → a < b → a + 1 ≤ b
    above a b h = omega arith

-- one that waits for its table has done nothing yet
pub table-undone : (l : Local) (x : Suspended) → l.suspended ≡ Some x → x.row ≡ None → l.last ≡ x.cid.0 → undone l ≤ x.cid.0
table-undone l x e row h = subst (λ o. undone_by o l.last ≤ x.cid.0) (sym e) (subst (λ r. undone_at r l.last ≤ x.cid.0) (sym row) (same-le (sym h)))

pub waited-works : (script : Script) (ms : List Mark) (node : Node) (s : Seg) → s.node ≡ node → (m : Message) (turn : SegTurn) → Waited script s m turn → Works ms node s turn
waited-works script ms node s named m turn x =
    subst (Works ms node s) (sym x.ran)
    (stopped-works ms node s named x.g x.c (new-undone (s.locals x.g.0) x.c.0 x.alone x.fresh) (new-next (s.locals x.g.0) x.c.0 x.alone x.fresh) (raised s x.horizon) on [] tt (record { seg = waiting; marks = wait_mark s.node x.wanted ∷ [] }) waits now (Some slice-waits) refl refl refl (inl (tt, tt)) [])
  where
    on : IsBase s x.g (raised s x.horizon)
    on = record { node = refl; versions = refl; alone = x.alone; others = λ h q. refl }

    slice-waits : Suspended
    slice-waits = suspended_slice x.c x.level x.snapshot x.slice

    now : Local
    now = record (s.locals x.g.0) { last = x.c.0; answer = None; suspended = Some slice-waits }

    waiting : Seg
    waiting = record (raised s x.horizon) { locks = with_wait s.locks x.wanted }

    waits : InsertWork (raised s x.horizon) x.g x.c (record { seg = waiting; marks = wait_mark s.node x.wanted ∷ [] })
    waits = record { still = still-locked (raised s x.horizon) x.g (raised s x.horizon) _ (still-itself (raised s x.horizon) x.g); marks = (tt, tt); own = []; versions = sym (append-nil s.versions); mine = tt }
