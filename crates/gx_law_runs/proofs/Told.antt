-- What a list of messages leaves asked of a node about a transaction, and how many of them go to it.
use Rattle.std.proofs.Common.{◌≡◌, ◌≤◌, ◌<◌, ℕ, zero, suc, ◌+◌, List, [], ◌∷◌, ◌++◌, Option, Some, Result, Ok, Err, Bool, true, false, refl, sym, subst, ap, ◌∙◌, if◌then◌else◌, ◌&&◌, ◌||◌, arith, eqb}
use Rattle.std.proofs.lemmas.Bool.Decides.{nat_tests}
use Rattle.std.specs.Prelude.{map}
use Rattle.std.specs.List.{flat_map, range_with_len}
use Rattle.gx_lemmas.proofs.Numbers.{eqb-self}
use Rattle.gx_ids.specs.declared.ids.Cid.{Cid}
use Rattle.gx_ids.specs.declared.ids.Gxid.{Gxid}
use Rattle.gx_ids.specs.declared.ids.Node.{Node}
use Rattle.gx_ids.specs.declared.ids.Table.{Table}
use Rattle.gx_tree.specs.declared.row.KeyedRow.{KeyedRow}
use Rattle.gx_tree.specs.declared.schema.Dist.{Dist}
use Rattle.gx_tree.specs.declared.slice.Slice.{Slice}
use Rattle.gx_tree.specs.declared.slice.Slice.TheVariants as slice
use Rattle.gx_tree.specs.declared.stmt.Level.{Level}
use Rattle.gx_tree.specs.declared.stmt.Stmt.{Stmt}
use Rattle.gx_tree.specs.declared.stmt.Stmt.TheVariants.{Begin, Commit, Rollback, Select, Insert, Update, Delete, Lock}
use Rattle.gx_dsnap.specs.declared.snapshot.Snapshot.{Snapshot}
use Rattle.gx_dtx.specs.Nodes.{has, to_each}
use Rattle.gx_detect.specs.Rounds.{collects}
use Rattle.gx_meaning.specs.Expressions.{and_then}
use Rattle.gx_meaning.specs.declared.fault.ArithFault.{ArithFault}
use Rattle.gx_msg.specs.declared.message.Message.{Message}
use Rattle.gx_msg.specs.declared.message.Message.TheVariants as message
use Rattle.gx_msg.specs.declared.message.Out.{Out}
use Rattle.gx_meaning.specs.Target.{target_of}
use Rattle.gx_meaning.specs.declared.target.Target.{Target}
use Rattle.gx_meaning.specs.declared.target.Target.TheVariants.{One, All}
use Rattle.gx_meaning.specs.Constants.{rows_of}
use Rattle.gx_meaning.specs.Plan.{insert_pieces, nodes_from, nodes_of, piece, pieces, plan_of, row_pieces, rows_at}
use Rattle.gx_meaning.specs.declared.piece.Piece.{Piece}
use Rattle.gx_store.specs.declared.mark.Mark.{Mark}
use Rattle.gx_store.specs.declared.mark.Mark.TheVariants as mark
use Rattle.gx_store.specs.Journals.{is_same_node}
use Rattle.gx_store.specs.Ordered.{sent_count}
use Rattle.gx_store.specs.Schedule.{asked_by, is_about}
use Rattle.gx_rules.specs.AtCoordinator.{nodes_in, order_to, orders_of}
use Rattle.gx_rules.specs.Sending.{counted, numbered}
use Rattle.gx_script.specs.declared.Script.{Script}
use Rattle.gx_law_order.proofs.AtSegments.{PlainAt}
use Rattle.gx_law_order.proofs.Lists.{each_weaker}
use Rattle.gx_law_order.specs.Lists.{Each}
use Rattle.gx_law_order.proofs.Nodes.{AreApart}

abbrev pub told_by : Node → Gxid → Option Message → List Out → Option Message
told_by i g asked [] = asked
told_by i g asked (o ∷ os) = told_by i g (if is_same_node o.node i && is_about g o.message then Some o.message else asked) os

abbrev pub sends : Node → List Out → ℕ
sends i [] = 0
sends i (o ∷ os) = if is_same_node o.node i then sends i os + 1 else sends i os

-- in marks
pub asked-numbered : (i : Node) (g : Gxid) (asked : Option Message) (f : ℕ → ℕ) (outs : List Out) → asked_by i g asked (numbered f outs) ≡ told_by i g asked outs
asked-numbered i g asked f [] = refl
asked-numbered i g asked f (o ∷ os) = asked-numbered i g (if is_same_node o.node i && is_about g o.message then Some o.message else asked) (counted f o) os

pub asked-plain : (script : Script) (node i : Node) (g : Gxid) (asked : Option Message) (ms ns : List Mark) → Each (PlainAt script node) ms → asked_by i g asked (ms ++ ns) ≡ asked_by i g asked ns
asked-plain script node i g asked [] ns e = refl
asked-plain script node i g asked (mark.Sent to number told ∷ ms) ns e = absurd e.0
asked-plain script node i g asked (m ∷ ms) ns e = asked-plain script node i g asked ms ns e.1

pub asked-append : (i : Node) (g : Gxid) (asked : Option Message) (ms ns : List Mark) → asked_by i g asked (ms ++ ns) ≡ asked_by i g (asked_by i g asked ms) ns
asked-append i g asked [] ns = refl
asked-append i g asked (mark.Sent to number told ∷ ms) ns = asked-append i g (if is_same_node to i && is_about g told then Some told else asked) ms ns
asked-append i g asked (m ∷ ms) ns = asked-append i g asked ms ns

pub sent-numbered : (i : Node) (f : ℕ → ℕ) (outs : List Out) → sent_count i (numbered f outs) ≡ sends i outs
sent-numbered i f [] = refl
sent-numbered i f (o ∷ os) = ap (λ n. if is_same_node o.node i then n + 1 else n) (sent-numbered i (counted f o) os)

-- MESSAGES ABOUT ANOTHER TRANSACTION
pub told-other : (i : Node) (g : Gxid) (asked : Option Message) (outs : List Out) → Each (λ (o : Out). is_about g o.message ≡ false) outs → told_by i g asked outs ≡ asked
told-other i g asked [] e = refl
told-other i g asked (o ∷ os) e = ap (λ a. told_by i g a os) (not (is_same_node o.node i) (is_about g o.message) e.0) ∙ told-other i g asked os e.1
  where
    not : (a b : Bool) → b ≡ false → (if a && b then Some o.message else asked) ≡ asked
    not true b e = ap (λ (b : Bool). if b then Some o.message else asked) e
    not false b e = refl

-- ONE MESSAGE TO EACH OF SOME NODES
pub told-each : (i : Node) (g : Gxid) (asked : Option Message) (m : Message) (nodes : List Node) → is_about g m ≡ true → told_by i g asked (to_each m nodes) ≡ (if has i nodes then Some m else asked)
told-each i g asked m [] e = refl
told-each i g asked m (x ∷ xs) e = ap (λ a. told_by i g a (to_each m xs)) (test (eqb x.0 i.0) (is_about g m) e) ∙ told-each i g (if eqb x.0 i.0 then Some m else asked) m xs e ∙ joined (eqb x.0 i.0) (has i xs)
  where
    test : (a b : Bool) → b ≡ true → (if a && b then Some m else asked) ≡ (if a then Some m else asked)
    test true b e = ap (λ (b : Bool). if b then Some m else asked) e
    test false b e = refl

    joined : (a b : Bool) → (if b then Some m else (if a then Some m else asked)) ≡ (if a || b then Some m else asked)
    joined true true = refl
    joined true false = refl
    joined false b = refl

-- nodes of which this is none
none-sent : (i : Node) (m : Message) (nodes : List Node) → Each (λ (y : Node). eqb y.0 i.0 ≡ false) nodes → sends i (to_each m nodes) ≡ 0
none-sent i m [] e = refl
none-sent i m (x ∷ xs) e = ap (λ (b : Bool). if b then sends i (to_each m xs) + 1 else sends i (to_each m xs)) e.0 ∙ none-sent i m xs e.1

back : (i : Node) (x : Node) (nodes : List Node) → eqb x.0 i.0 ≡ true → Each (λ (y : Node). eqb x.0 y.0 ≡ false) nodes → Each (λ (y : Node). eqb y.0 i.0 ≡ false) nodes
back i x nodes e f = each_weaker (λ (y : Node). eqb x.0 y.0 ≡ false) (λ (y : Node). eqb y.0 i.0 ≡ false) (λ y q. plain x.0 y.0 i.0 e q) nodes f
  where
    plain : (x y i : ℕ) → eqb x i ≡ true → eqb x y ≡ false → eqb y i ≡ false
    plain x y i e f = grind (arith, nat_tests)

pub sends-each : (i : Node) (m : Message) (nodes : List Node) → AreApart nodes → sends i (to_each m nodes) ≤ 1
sends-each i m [] e = none
  where
    none : 0 ≤ 1
    none = omega arith
sends-each i m (x ∷ xs) e = by_test (eqb x.0 i.0) refl (sends-each i m xs e.1)
  where
    first : (n : ℕ) → n ≡ 0 → n + 1 ≤ 1
    first n e = omega arith

    by_test : (b : Bool) → eqb x.0 i.0 ≡ b → sends i (to_each m xs) ≤ 1 → (if b then sends i (to_each m xs) + 1 else sends i (to_each m xs)) ≤ 1
    by_test true q r = first (sends i (to_each m xs)) (none-sent i m xs (back i x xs q e.0))
    by_test false q r = r

-- A ROUND ASKS EACH SEGMENT ONCE
abbrev asks : ℕ → ℕ → Out
asks round k = record { node = record { 0 = k }; message = message.Collect round }

none-asked : (i : Node) (round k n : ℕ) → i.0 < k → sends i (map (asks round) (range_with_len k n)) ≡ 0
none-asked i round k zero l = refl
none-asked i round k (suc n) l = ap (λ (b : Bool). if b then sends i (map (asks round) (range_with_len (k + 1) n)) + 1 else sends i (map (asks round) (range_with_len (k + 1) n))) (away i.0 k l) ∙ none-asked i round (k + 1) n (next i.0 k l)
  where
    away : (a k : ℕ) → a < k → eqb k a ≡ false
    away a k l = grind (arith, nat_tests)

    next : (a k : ℕ) → a < k → a < k + 1
    next a k l = omega arith

asked-once : (i : Node) (round k n : ℕ) → sends i (map (asks round) (range_with_len k n)) ≤ 1
asked-once i round k zero = none
  where
    none : 0 ≤ 1
    none = omega arith
asked-once i round k (suc n) = by_test (eqb k i.0) refl (asked-once i round (k + 1) n)
  where
    first : (n : ℕ) → n ≡ 0 → n + 1 ≤ 1
    first n e = omega arith

    here : (a k : ℕ) → eqb k a ≡ true → a < k + 1
    here a k e = grind (arith, nat_tests)

    by_test : (b : Bool) → eqb k i.0 ≡ b → sends i (map (asks round) (range_with_len (k + 1) n)) ≤ 1 → (if b then sends i (map (asks round) (range_with_len (k + 1) n)) + 1 else sends i (map (asks round) (range_with_len (k + 1) n))) ≤ 1
    by_test true q r = first (sends i (map (asks round) (range_with_len (k + 1) n))) (none-asked i round (k + 1) n (here i.0 k q))
    by_test false q r = r

pub sends-collects : (i : Node) (n round : ℕ) → sends i (collects n round) ≤ 1
sends-collects i n round = asked-once i round 1 n

-- THE ORDERS OF A COMMAND
module _ (g : Gxid) (c : Cid) (level : Level) (snapshot : Option Snapshot) (horizon : Gxid) where
  abbrev orders : List Piece → List Out
  orders ps = orders_of g c level snapshot horizon ps

  no-order : (i : Node) (asked : Option Message) (ps : List Piece) → Each (λ (y : Node). eqb y.0 i.0 ≡ false) (nodes_in ps) → told_by i g asked (orders ps) ≡ asked
  no-order i asked [] e = refl
  no-order i asked (p ∷ ps) e =
      ap (λ (b : Bool). told_by i g (if b && eqb g.0 g.0 then Some (message.Exec g c level snapshot horizon p.slice) else asked) (orders ps)) e.0 ∙ no-order i asked ps e.1

  pub told-orders : (i : Node) (asked : Option Message) (ps : List Piece) → AreApart (nodes_in ps) → told_by i g asked (orders ps) ≡ (if has i (nodes_in ps) then order_to i (orders ps) else asked)
  told-orders i asked [] e = refl
  told-orders i asked (p ∷ ps) e = by_test (eqb p.node.0 i.0) refl (told-orders i asked ps e.1)
    where
      by_test : (b : Bool) → eqb p.node.0 i.0 ≡ b → told_by i g asked (orders ps) ≡ (if has i (nodes_in ps) then order_to i (orders ps) else asked) → told_by i g (if b && eqb g.0 g.0 then Some (message.Exec g c level snapshot horizon p.slice) else asked) (orders ps) ≡ (if b || has i (nodes_in ps) then (if b then Some (message.Exec g c level snapshot horizon p.slice) else order_to i (orders ps)) else asked)
      by_test true q r = ap (λ (b : Bool). told_by i g (if b then Some (message.Exec g c level snapshot horizon p.slice) else asked) (orders ps)) (eqb-self g.0) ∙ no-order i (Some (message.Exec g c level snapshot horizon p.slice)) ps (back i p.node (nodes_in ps) q e.0)
      by_test false q r = r

  none-ordered : (i : Node) (ps : List Piece) → Each (λ (y : Node). eqb y.0 i.0 ≡ false) (nodes_in ps) → sends i (orders ps) ≡ 0
  none-ordered i [] e = refl
  none-ordered i (p ∷ ps) e = ap (λ (b : Bool). if b then sends i (orders ps) + 1 else sends i (orders ps)) e.0 ∙ none-ordered i ps e.1

  pub sends-orders : (i : Node) (ps : List Piece) → AreApart (nodes_in ps) → sends i (orders ps) ≤ 1
  sends-orders i [] e = none
    where
      none : 0 ≤ 1
      none = omega arith
  sends-orders i (p ∷ ps) e = by_test (eqb p.node.0 i.0) refl (sends-orders i ps e.1)
    where
      first : (n : ℕ) → n ≡ 0 → n + 1 ≤ 1
      first n e = omega arith

      by_test : (b : Bool) → eqb p.node.0 i.0 ≡ b → sends i (orders ps) ≤ 1 → (if b then sends i (orders ps) + 1 else sends i (orders ps)) ≤ 1
      by_test true q r = first (sends i (orders ps)) (none-ordered i ps (back i p.node (nodes_in ps) q e.0))
      by_test false q r = r

  pub orders-other : (h : Gxid) → eqb g.0 h.0 ≡ false → (ps : List Piece) → Each (λ (o : Out). is_about h o.message ≡ false) (orders ps)
  orders-other h e [] = tt
  orders-other h e (p ∷ ps) = (e, orders-other h e ps)

-- A PLAN HAS ONE PIECE A NODE
abbrev IsFrom : ℕ → Node → Type 0
IsFrom a y = a ≤ y.0

from-later : (a b : ℕ) (nodes : List Node) → a ≤ b → Each (IsFrom b) nodes → Each (IsFrom a) nodes
from-later a b nodes l e = each_weaker (IsFrom b) (IsFrom a) (λ y h. le a b y.0 l h) nodes e
  where
    le : (a b c : ℕ) → a ≤ b → b ≤ c → a ≤ c
    le a b c l h = omega arith

apart-first : (a : ℕ) (nodes : List Node) → Each (IsFrom (a + 1)) nodes → Each (λ (y : Node). eqb a y.0 ≡ false) nodes
apart-first a nodes e = each_weaker (IsFrom (a + 1)) (λ (y : Node). eqb a y.0 ≡ false) (λ y h. not a y.0 h) nodes e
  where
    not : (a y : ℕ) → a + 1 ≤ y → eqb a y ≡ false
    not a y h = grind (arith, nat_tests)

same-le : (a : ℕ) → a ≤ a
same-le a = omega arith

next-le : (a : ℕ) → a ≤ a + 1
next-le a = omega arith

nodes-from : (a n : ℕ) → AreApart (nodes_from a n) × Each (IsFrom a) (nodes_from a n)
nodes-from a zero = (tt, tt)
nodes-from a (suc n) =
    let r = nodes-from (a + 1) n in
    ((apart-first a (nodes_from (a + 1) n) r.1, r.0), (same-le a, from-later a (a + 1) (nodes_from (a + 1) n) (next-le a) r.1))

nodes-of : (n : ℕ) (t : Target) → AreApart (nodes_of n t)
nodes-of n (One node) = (tt, tt)
nodes-of n All = (nodes-from 1 n).0

nodes-pieces : (s : Slice) (nodes : List Node) → nodes_in (map (piece s) nodes) ≡ nodes
nodes-pieces s [] = refl
nodes-pieces s (x ∷ xs) = ap (λ ys. x ∷ ys) (nodes-pieces s xs)

pieces-apart : (n : ℕ) (t : Target) (s : Slice) → AreApart (nodes_in (pieces n t s))
pieces-apart n t s = subst AreApart (sym (nodes-pieces s (nodes_of n t))) (nodes-of n t)

rows-apart : (n : ℕ) (dist : Dist) (table : Table) (rows : List KeyedRow) (a k : ℕ) → AreApart (nodes_in (flat_map (λ node. row_pieces table node (rows_at n dist rows node.0)) (nodes_from a k))) × Each (IsFrom a) (nodes_in (flat_map (λ node. row_pieces table node (rows_at n dist rows node.0)) (nodes_from a k)))
rows-apart n dist table rows a zero = (tt, tt)
rows-apart n dist table rows a (suc k) = by_rows (rows_at n dist rows a) (rows-apart n dist table rows (a + 1) k)
  where
    rest : List Piece
    rest = flat_map (λ node. row_pieces table node (rows_at n dist rows node.0)) (nodes_from (a + 1) k)

    by_rows : (found : List KeyedRow) → AreApart (nodes_in rest) × Each (IsFrom (a + 1)) (nodes_in rest) → AreApart (nodes_in (row_pieces table (record { 0 = a }) found ++ rest)) × Each (IsFrom a) (nodes_in (row_pieces table (record { 0 = a }) found ++ rest))
    by_rows [] r = (r.0, from-later a (a + 1) (nodes_in rest) (next-le a) r.1)
    by_rows (y ∷ ys) r = ((apart-first a (nodes_in rest) r.1, r.0), (same-le a, from-later a (a + 1) (nodes_in rest) (next-le a) r.1))

abbrev pub ArePlanApart : Result (List Piece) ArithFault → Type 0
ArePlanApart (Ok ps) = AreApart (nodes_in ps)
ArePlanApart (Err f) = Unit {0}

pub plan-apart : (n : ℕ) (dist : Dist) (g : Gxid) (c : Cid) (line : Stmt) → ArePlanApart (plan_of n dist g c line)
plan-apart n dist g c (Select q) = pieces-apart n (target_of n dist q.cond) (slice.Select q)
plan-apart n dist g c (Insert table tuples) = by_rows (rows_of g c tuples)
  where
    by_rows : (r : Result (List KeyedRow) ArithFault) → ArePlanApart (and_then r (λ rows. Ok (insert_pieces n dist table rows)))
    by_rows (Ok rows) = (rows-apart n dist table rows 1 n).0
    by_rows (Err f) = tt
plan-apart n dist g c (Update table assigns w) = pieces-apart n (target_of n dist w) (slice.Update table assigns w)
plan-apart n dist g c (Delete table w) = pieces-apart n (target_of n dist w) (slice.Delete table w)
plan-apart n dist g c (Lock table mode) = pieces-apart n All (slice.Lock table mode)
plan-apart n dist g c (Begin level) = tt
plan-apart n dist g c Commit = tt
plan-apart n dist g c Rollback = tt
