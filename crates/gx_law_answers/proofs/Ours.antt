-- What a true answer is of, where its command runs; and the nodes of its plan.
use Rattle.std.proofs.Common.{◌≡◌, ◌≤◌, ℕ, List, [], ◌∷◌, Result, Ok, Bool, true, false, refl, sym, subst, ap, ◌∙◌, ◌||◌, arith, eqb, map}
use Rattle.gx_lemmas.proofs.Options.{some-same}
use Rattle.gx_lemmas.proofs.Numbers.{eqb-self}
use Rattle.gx_ids.specs.declared.ids.Cid.{Cid}
use Rattle.gx_ids.specs.declared.ids.Gxid.{Gxid}
use Rattle.gx_ids.specs.declared.ids.Node.{Node}
use Rattle.gx_tree.specs.declared.slice.Slice.{Slice}
use Rattle.gx_tree.specs.declared.stmt.Level.{Level}
use Rattle.gx_tree.specs.declared.stmt.Stmt.{Stmt}
use Rattle.gx_dtx.specs.Nodes.{has}
use Rattle.gx_meaning.specs.declared.fault.ArithFault.{ArithFault}
use Rattle.gx_msg.specs.declared.reply.Reply.{Reply}
use Rattle.gx_meaning.specs.declared.target.Target.{Target}
use Rattle.gx_meaning.specs.declared.target.Target.TheVariants.{One, All as AllOfThem}
use Rattle.gx_meaning.specs.Plan.{nodes_of, piece}
use Rattle.gx_meaning.specs.declared.piece.Piece.{Piece}
use Rattle.gx_script.specs.declared.Script.{Script}
use Rattle.gx_store.specs.declared.mark.Mark.{Mark}
use Rattle.gx_store.specs.Points.{marks_in}
use Rattle.gx_rules.specs.AtCoordinator.{nodes_in}
use Rattle.gx_rules.specs.Machine.{world_of}
use Rattle.gx_law_order.specs.Gathering.{Taken, nodes_taken}
use Rattle.gx_store.specs.Language.{AreLinesNumbered}
use Rattle.gx_law_answers.specs.Earned.{Events, IsEarned}
use Rattle.gx_law_writes.proofs.Statements.{IsOf}
use Rattle.gx_law_answers.proofs.Heard.{order-now}
use Rattle.gx_law_writes.proofs.Pieces.{IsSliceOf, slice-is}
use Rattle.gx_law_answers.proofs.Rows.{has-from}

-- ---- the nodes of a plan
pub nodes-of-pieces : (s : Slice) (nodes : List Node) → nodes_in (map (piece s) nodes) ≡ nodes
nodes-of-pieces s [] = refl
nodes-of-pieces s (n ∷ ns) = ap (λ l. n ∷ l) (nodes-of-pieces s ns)

pub some-node : (n : ℕ) (target : Target) → 1 ≤ n → (i : Node) × (has i (nodes_of n target) ≡ true)
some-node n (One node) some = (node, first (eqb node.0 node.0) (eqb-self node.0))
  where
    first : (b : Bool) → b ≡ true → (b || false) ≡ true
    first true e = refl
    first false e = cc
some-node n AllOfThem some = (record { 0 = 1 }, has-from 1 1 n (omega arith) (omega (arith, some)))

pub ok-same : {xs ys : List Piece} → (let o : Result (List Piece) ArithFault = Ok xs in o) ≡ Ok ys → xs ≡ ys
ok-same q = cc

-- who has answered stands for the plan
pub covers-pieces : (s : Slice) (nodes : List Node) (pieces : List Piece) (taken : List Taken) → (let o : Result (List Piece) ArithFault = Ok (map (piece s) nodes) in o) ≡ Ok pieces → ((i : Node) → has i (nodes_in pieces) ≡ has i (nodes_taken taken)) → (i : Node) → has i nodes ≡ has i (nodes_taken taken)
covers-pieces s nodes pieces taken plan all i = sym (ap (has i) (ap nodes_in (sym (ok-same plan)) ∙ nodes-of-pieces s nodes)) ∙ all i

module _ (script : Script) (some : 1 ≤ script.segments) (numbered : AreLinesNumbered [] script.lines) (es : Events) where
  abbrev ms : List Mark
  ms = marks_in (world_of script es).steps

  -- what a true answer is of, where its command runs
  module _ (node : Node) (line : Stmt) (level : Level) (g : Gxid) (c : Cid) (is : IsOf script ms line level g c) (r : Reply) (t : IsEarned script es node g c r) where
    line-is : (order-now script some numbered es node g c r t).line ≡ line
    line-is = some-same _ line (sym (order-now script some numbered es node g c r t).of ∙ is.of)

    pub its-slice : IsSliceOf line t.slice
    its-slice = subst (λ l. IsSliceOf l t.slice) line-is (slice-is _ _ g c _ (order-now script some numbered es node g c r t).pieces _ (order-now script some numbered es node g c r t).plan (order-now script some numbered es node g c r t).among)

    pub its-level : t.level ≡ level
    its-level = (order-now script some numbered es node g c r t).level_is ∙ sym is.level_is
