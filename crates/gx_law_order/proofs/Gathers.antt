-- How a command gathers the answers of its segments.
use Rattle.std.proofs.Common.{◌≡◌, ◌≤◌, ◌<◌, inl, inr, ℕ, zero, suc, ◌+◌, List, [], ◌∷◌, ◌++◌, Option, Some, None, Result, Ok, Bool, true, false, refl, sym, subst, ap, ◌∙◌, ◌||◌, ◌&&◌, not, arith, eqb, length}
use Rattle.std.proofs.Math.Seq.{take-append_seam}
use Rattle.std.proofs.lemmas.Bool.{eqb-true, or_from, or_left}
use Rattle.std.proofs.lemmas.Bool.Decides.{nat_tests}
use Rattle.std.proofs.lemmas.List.{take-append-le}
use Rattle.std.specs.Prelude.{slice_get, slice_index_or}
use Rattle.gx_lemmas.proofs.Lists.{get-append}
use Rattle.gx_lemmas.proofs.Tests.{true-false}
use Rattle.gx_lemmas.proofs.Numbers.{eqb-turned}
use Rattle.gx_lemmas.proofs.Options.{some-same}
use Rattle.gx_ids.specs.declared.ids.Cid.{Cid}
use Rattle.gx_ids.specs.declared.ids.Gxid.{Gxid}
use Rattle.gx_ids.specs.declared.ids.Node.{Node}
use Rattle.gx_ids.specs.declared.ids.Table.{Table}
use Rattle.gx_tree.specs.declared.part.Part.{Part}
use Rattle.gx_tree.specs.declared.stmt.Stmt.{Stmt}
use Rattle.gx_tree.specs.declared.stmt.Stmt.TheVariants as stmt
use Rattle.gx_dtx.specs.Nodes.{has, without}
use Rattle.gx_dtx.proofs.Has.{has-same, has-without}
use Rattle.gx_msg.specs.declared.message.Message.{Message}
use Rattle.gx_msg.specs.declared.message.Message.TheVariants as message
use Rattle.gx_msg.specs.declared.reply.Reply.TheVariants as reply
use Rattle.gx_meaning.specs.Plan.{plan_of}
use Rattle.gx_meaning.specs.Statements.{table_of as named_table}
use Rattle.gx_meaning.specs.declared.fault.ArithFault.{ArithFault}
use Rattle.gx_meaning.specs.declared.piece.Piece.{Piece}
use Rattle.gx_script.specs.declared.Script.{Script}
use Rattle.gx_store.specs.declared.answer.StmtAnswer.{StmtAnswer}
use Rattle.gx_store.specs.declared.event.Event.{Event}
use Rattle.gx_store.specs.declared.mark.Mark.{Mark}
use Rattle.gx_store.specs.declared.run.Step.{Step}
use Rattle.gx_store.specs.Messages.{HasReceived, Receives}
use Rattle.gx_store.specs.Points.{Point}
use Rattle.gx_store.specs.Protocol.{GoesTo, IsReturned}
use Rattle.gx_store.specs.Refusals.{the_coordinator}
use Rattle.gx_store.specs.Writes.{dist_of}
use Rattle.gx_rules.specs.AtCoordinator.{command_answer, nodes_in, table_of, with_done}
use Rattle.gx_rules.specs.Coordinators.{Command}
use Rattle.gx_rules.specs.Fits.{fits_part}
use Rattle.gx_law_order.proofs.Lists.{get_last}
use Rattle.gx_law_order.specs.Alive.{IsHeard}
use Rattle.gx_law_order.specs.Gathering.{AreAll, AreApart, IsGathered, Taken, gathered_answer, nodes_taken, parts_taken, total}

-- WHAT WAS HEARD
-- a message that one of the steps received, or that this event receives behind them
abbrev pub HeardNow : List Step → Event → Node → Message → Type 0
HeardNow steps e from m = HasReceived (record { steps = steps; event = e; earlier = []; later = [] }) from the_coordinator m

pub heard-now : (steps : List Step) (e : Event) (from : Node) (m : Message) → IsHeard steps from m → HeardNow steps e from m
heard-now steps e from m h = (h.place, inl (h.step, h.at, h.is))

pub hears : (steps : List Step) (e : Event) (from : Node) (m : Message) → Receives steps e from the_coordinator m → HeardNow steps e from m
hears steps e from m r = (length steps, inr (refl, r))

get-inside : {A : Type 0} (xs : List A) (k : ℕ) (x : A) → slice_get xs k ≡ Some x → k ≤ length xs
get-inside [] k x e = absurd (cc)
get-inside (y ∷ xs) zero x e = zero-le (length (y ∷ xs))
  where
    zero-le : (a : ℕ) → 0 ≤ a
    zero-le a = omega arith
get-inside (y ∷ xs) (suc k) x e = up k (length xs) (get-inside xs k x e)
  where
    up : (a d : ℕ) → a ≤ d → suc a ≤ suc d
    up a d l = omega arith

pub heard-later : (steps : List Step) (s : Step) (e : Event) (from : Node) (m : Message) → s.event ≡ e → HeardNow steps e from m → IsHeard (steps ++ s ∷ []) from m
heard-later steps s e from m same (k, inl h) =
    record { place = k; step = h.0; at = get-append steps (s ∷ []) k h.0 h.1; is = subst (λ ss. Receives ss h.0.event from the_coordinator m) (sym (take-append-le k steps (s ∷ []) (get-inside steps k h.0 h.1))) h.2 }
heard-later steps s e from m same (k, inr h) =
    record { place = length steps; step = s; at = get_last steps [] s; is = subst (λ ss. Receives ss s.event from the_coordinator m) (sym (take-append_seam steps (s ∷ []))) (subst (λ a. Receives steps a from the_coordinator m) (sym same) h.1) }

-- A COMMAND'S ANSWERS SO FAR
pub record Gathers (script : Script) (Heard : Node → Message → Type 0) (g : Gxid) (m : Command) : Type 0 where
  pub pieces : List Piece
  pub plan : plan_of script.segments (dist_of script.tables (table_of m.stmt)) g m.cid m.stmt ≡ Ok pieces
  pub taken : List Taken
  pub heard : AreAll (λ t. Heard t.node (message.Answer g (reply.Done m.cid t.wrote t.count t.part))) taken
  pub fits : AreAll (λ t. fits_part m.stmt t.part ≡ true) taken
  pub apart : AreApart taken
  pub all : (i : Node) → has i (nodes_in pieces) ≡ (has i m.awaited || has i (nodes_taken taken))
  pub free : (i : Node) → has i m.awaited ≡ true → has i (nodes_taken taken) ≡ false
  pub parts : m.parts ≡ parts_taken taken
  pub counted : m.count ≡ total taken

abbrev pub GathersIn : Script → (Node → Message → Type 0) → Gxid → Option Command → Type 0
GathersIn script Heard g None = Unit {0}
GathersIn script Heard g (Some m) = Gathers script Heard g m

-- lists
all-weaker : (P Q : Taken → Type 0) → ((t : Taken) → P t → Q t) → (ts : List Taken) → AreAll P ts → AreAll Q ts
all-weaker P Q f [] e = tt
all-weaker P Q f (t ∷ ts) e = (f t e.0, all-weaker P Q f ts e.1)

all-last : (P : Taken → Type 0) (ts : List Taken) (t : Taken) → AreAll P ts → P t → AreAll P (ts ++ t ∷ [])
all-last P [] t e p = (p, tt)
all-last P (x ∷ ts) t e p = (e.0, all-last P ts t e.1 p)

has-last : (i : Node) (ts : List Taken) (t : Taken) → has i (nodes_taken (ts ++ t ∷ [])) ≡ (has i (nodes_taken ts) || eqb t.node.0 i.0)
has-last i [] t = grind (arith, nat_tests)
has-last i (x ∷ ts) t = grind (arith, nat_tests, has-last i ts t)

parts-last : (ts : List Taken) (t : Taken) → parts_taken (ts ++ t ∷ []) ≡ parts_taken ts ++ t.part ∷ []
parts-last [] t = refl
parts-last (x ∷ ts) t = ap (λ ps. x.part ∷ ps) (parts-last ts t)

total-last : (ts : List Taken) (t : Taken) → total (ts ++ t ∷ []) ≡ total ts + t.count
total-last [] t = omega arith
total-last (x ∷ ts) t = omega (arith, total-last ts t)

apart-last : (ts : List Taken) (t : Taken) → AreApart ts → has t.node (nodes_taken ts) ≡ false → AreApart (ts ++ t ∷ [])
apart-last [] t e h = (refl, tt)
apart-last (x ∷ ts) t e h =
    (has-last x.node ts t ∙ or_from (has x.node (nodes_taken ts)) (eqb t.node.0 x.node.0) e.0 (first (eqb x.node.0 t.node.0) (has t.node (nodes_taken ts)) h (eqb-turned x.node.0 t.node.0)), apart-last ts t e.1 (rest (eqb x.node.0 t.node.0) (has t.node (nodes_taken ts)) h))
  where
    first : (a b : Bool) {q : Bool} → (a || b) ≡ false → (a ≡ false → q ≡ false) → q ≡ false
    first true b e f = absurd (cc)
    first false b e f = f refl

    rest : (a b : Bool) → (a || b) ≡ false → b ≡ false
    rest a b e = grind arith

pub gathers-weaker : (script : Script) (H K : Node → Message → Type 0) (g : Gxid) (o : Option Command) → ((n : Node) (m : Message) → H n m → K n m) → GathersIn script H g o → GathersIn script K g o
gathers-weaker script H K g None f e = tt
gathers-weaker script H K g (Some m) f e =
    record {
      pieces = e.pieces;
      plan = e.plan;
      taken = e.taken;
      heard = all-weaker _ _ (λ t h. f t.node _ h) e.taken e.heard;
      fits = e.fits;
      apart = e.apart;
      all = e.all;
      free = e.free;
      parts = e.parts;
      counted = e.counted;
    }

-- one answer more
pub gathers-done : (script : Script) (H : Node → Message → Type 0) (g : Gxid) (m : Command) (i : Node) (wrote : Bool) (count : ℕ) (part : Part) → Gathers script H g m → has i m.awaited ≡ true → fits_part m.stmt part ≡ true → H i (message.Answer g (reply.Done m.cid wrote count part)) → Gathers script H g (with_done m i count part)
gathers-done script H g m i wrote count part e waits fit heard =
    record {
      pieces = e.pieces;
      plan = e.plan;
      taken = e.taken ++ t ∷ [];
      heard = all-last _ e.taken t e.heard heard;
      fits = all-last _ e.taken t e.fits fit;
      apart = apart-last e.taken t e.apart (e.free i waits);
      all = λ j. e.all j ∙ sum (has j m.awaited) (has j (nodes_taken e.taken)) (eqb i.0 j.0) (has j (without i m.awaited)) (has j (nodes_taken (e.taken ++ t ∷ []))) (λ q. has-same i j m.awaited q ∙ waits) (has-without j i m.awaited) (has-last j e.taken t);
      free = λ j h. left (has j m.awaited) (has j (nodes_taken e.taken)) (eqb i.0 j.0) (has j (without i m.awaited)) (has j (nodes_taken (e.taken ++ t ∷ []))) (e.free j) (has-without j i m.awaited) (has-last j e.taken t) h;
      parts = ap (λ ps. ps ++ part ∷ []) e.parts ∙ sym (parts-last e.taken t);
      counted = ap (λ n. n + count) e.counted ∙ sym (total-last e.taken t);
    }
  where
    t : Taken
    t = record { node = i; wrote = wrote; count = count; part = part }

    sum : (a b q x y : Bool) → (q ≡ true → a ≡ true) → x ≡ (not q && a) → y ≡ (b || q) → (a || b) ≡ (x || y)
    sum a b true x y w e f = or_left a b (w refl) ∙ sym (ap (λ z. x || z) f ∙ end x b)
      where
        end : (x b : Bool) → (x || (b || true)) ≡ true
        end x b = grind arith
    sum a b false x y w e f = sym (ap (λ z. z || y) e ∙ ap (λ z. a || z) (f ∙ none b))
      where
        none : (b : Bool) → (b || false) ≡ b
        none b = grind arith

    left : (a b q x y : Bool) → (a ≡ true → b ≡ false) → x ≡ (not q && a) → y ≡ (b || q) → x ≡ true → y ≡ false
    left a b true x y f e h k = absurd (true-false x k e)
    left a b false x y f e h k = h ∙ ap (λ z. z || false) (f (sym e ∙ k))

-- all have answered
answer-is : (m : Command) (l : Stmt) → command_answer m l ≡ gathered_answer l m.parts m.count
answer-is m (stmt.Select q) = refl
answer-is m (stmt.Insert t x) = refl
answer-is m (stmt.Update t x y) = refl
answer-is m (stmt.Delete t x) = refl
answer-is m (stmt.Lock t x) = refl
answer-is m (stmt.Begin level) = refl
answer-is m stmt.Commit = refl
answer-is m stmt.Rollback = refl

pub gathered-is : (script : Script) (steps : List Step) (e : Event) (earlier later : List Mark) (g : Gxid) (m : Command) → Gathers script (HeardNow steps e) g m → m.awaited ≡ [] → IsGathered script (record { steps = steps; event = e; earlier = earlier; later = later }) g m.cid m.stmt (command_answer m m.stmt)
gathered-is script steps e earlier later g m h none =
    record {
      pieces = h.pieces;
      plan = h.plan;
      taken = h.taken;
      received = h.heard;
      fits = h.fits;
      apart = h.apart;
      all = λ i. h.all i ∙ ap (λ a. has i a || has i (nodes_taken h.taken)) none;
      is = answer-is m m.stmt ∙ ap (λ p. gathered_answer m.stmt p m.count) h.parts ∙ ap (gathered_answer m.stmt (parts_taken h.taken)) h.counted;
    }

-- EACH NODE OF THE PLAN HAS RETURNED
contains-has : (n : Node) (xs : List Node) (k : ℕ) → k < length xs → slice_index_or xs k n ≡ n → has n xs ≡ true
contains-has n [] k l q = absurd (none k l)
  where
    none : (k : ℕ) → k < 0 → ⊥
    none k l = omega arith
contains-has n (x ∷ xs) zero l q = first x.0 n.0 (has n xs) (ap (λ (m : Node). m.0) q)
  where
    first : (a d : ℕ) (b : Bool) → a ≡ d → (eqb a d || b) ≡ true
    first a d b e = grind (arith, nat_tests)
contains-has n (x ∷ xs) (suc k) l q = rest (eqb x.0 n.0) (has n xs) (contains-has n xs k (below k (length xs) l) q)
  where
    below : (k m : ℕ) → suc k < suc m → k < m
    below k m l = omega arith

    rest : (a b : Bool) → b ≡ true → (a || b) ≡ true
    rest a b e = grind arith

taken-back : (point : Point) (g : Gxid) (c : Cid) (node : Node) (taken : List Taken) → AreAll (λ t. HasReceived point t.node the_coordinator (message.Answer g (reply.Done c t.wrote t.count t.part))) taken → has node (nodes_taken taken) ≡ true → IsReturned point g c node
taken-back point g c node [] r h = absurd (cc)
taken-back point g c node (t ∷ ts) r h = by_test (eqb t.node.0 node.0) refl h (λ q. taken-back point g c node ts r.1 q)
  where
    by_test : (b : Bool) → eqb t.node.0 node.0 ≡ b → (b || has node (nodes_taken ts)) ≡ true → (has node (nodes_taken ts) ≡ true → IsReturned point g c node) → IsReturned point g c node
    by_test true e q rest =
        record { wrote = t.wrote; count = t.count; part = t.part; received = subst (λ n. HasReceived point n the_coordinator (message.Answer g (reply.Done c t.wrote t.count t.part))) (ap (λ n. let x : Node = record { 0 = n } in x) (eqb-true t.node.0 node.0 e)) r.0 }
    by_test false e q rest = rest q

same-table : (line : Stmt) (t : Table) → named_table line ≡ Some t → table_of line ≡ t.0
same-table (stmt.Select q) t e = ap (λ (x : Table). x.0) (some-same q.table t e)
same-table (stmt.Insert u x) t e = ap (λ (x : Table). x.0) (some-same u t e)
same-table (stmt.Update u x y) t e = ap (λ (x : Table). x.0) (some-same u t e)
same-table (stmt.Delete u x) t e = ap (λ (x : Table). x.0) (some-same u t e)
same-table (stmt.Lock u m) t e = ap (λ (x : Table). x.0) (some-same u t e)
same-table (stmt.Begin level) t e = absurd (cc)
same-table stmt.Commit t e = absurd (cc)
same-table stmt.Rollback t e = absurd (cc)

pub gathered-back : (script : Script) (point : Point) (g : Gxid) (c : Cid) (line : Stmt) (answer : StmtAnswer) → IsGathered script point g c line answer → (node : Node) → GoesTo script g c line node → IsReturned point g c node
gathered-back script point g c line answer x node t = taken-back point g c node x.taken x.received (sym (x.all node) ∙ ap (λ ps. has node (nodes_in ps)) same ∙ contains-has node (nodes_in t.pieces) t.among.0 t.among.1 t.among.2)
  where
    ok-same : (a b : List Piece) → (let o : Result (List Piece) ArithFault = Ok a in o) ≡ Ok b → a ≡ b
    ok-same a b e = cc

    same : x.pieces ≡ t.pieces
    same = ok-same x.pieces t.pieces (sym x.plan ∙ ap (λ n. plan_of script.segments (dist_of script.tables n) g c line) (same-table line t.table t.of) ∙ t.plan)
