-- Enlisting a node keeps a transaction's status.
use Rattle.std.proofs.Common.{◌≡◌, ◌∙◌, ◌<◌, ◌+◌, ◌++◌, ℕ, zero, suc, List, [], ◌∷◌, Option, Some, None, refl, ap, subst, sym, arith, drop, get_or, length, take}
use Rattle.std.specs.Prelude.{option_map}
use Rattle.gx_ids.specs.declared.ids.Gxid.{Gxid}
use Rattle.gx_ids.specs.declared.ids.Node.{Node}
use Rattle.gx_dtx.specs.Rules.{enlisted}
use Rattle.gx_dtx.specs.Table.{IsActive, Table, find_txn, status_in}
use Rattle.gx_dtx.specs.declared.txn.Txn.{Txn}
use Rattle.gx_meaning.specs.declared.piece.Piece.{Piece}
use Rattle.gx_rules.specs.AtCoordinator.{enlisted_all, nodes_in}
use Rattle.gx_coord.proofs.Dispatched.{one-found, with_part}

same-status : (i : Node) (t : Option Txn) → option_map (λ (u : Txn). status_in u.phase) (option_map (with_part i) t) ≡ option_map (λ (u : Txn). status_in u.phase) t
same-status i None = refl
same-status i (Some t) = refl

pub active_enlisted : (d : Table) (g : Gxid) (i : Node) → IsActive d g → IsActive (enlisted d g i) g
active_enlisted d g i e = ap (option_map (λ (u : Txn). status_in u.phase)) (one-found d g.0 i) ∙ same-status i (find_txn d g) ∙ e

pub enlisted-step : (d : Table) (g : Gxid) (nodes : List Node) (i : ℕ) (x : Node) → i < length nodes → enlisted_all (enlisted d g (get_or nodes i x)) g (drop (i + 1) nodes) ≡ enlisted_all d g (drop i nodes)
enlisted-step d g [] i x l = absurd (omega (arith, l))
enlisted-step d g (n ∷ ns) zero x l = refl
enlisted-step d g (n ∷ ns) (suc i) x l = ap (λ k. enlisted_all (enlisted d g (get_or ns i x)) g (drop k (n ∷ ns))) (next i) ∙ enlisted-step d g ns i x (omega (arith, l))
  where
    next : (i : ℕ) → suc i + 1 ≡ suc (i + 1)
    next i = omega arith

pub active-after : (d e : Table) (g : Gxid) (i : Node) → e ≡ enlisted d g i → IsActive d g → IsActive e g
active-after d e g i q a = subst (λ (t : Table). IsActive t g) (sym q) (active_enlisted d g i a)

nodes-step : (pieces : List Piece) (i : ℕ) (x : Piece) → i < length pieces → nodes_in (take i pieces) ++ (get_or pieces i x).node ∷ [] ≡ nodes_in (take (i + 1) pieces)
nodes-step [] i x l = absurd (omega (arith, l))
nodes-step (p ∷ ps) zero x l = refl
nodes-step (p ∷ ps) (suc i) x l = ap (λ ns. p.node ∷ ns) (nodes-step ps i x (omega (arith, l))) ∙ ap (λ k. nodes_in (take k (p ∷ ps))) (next i)
  where
    next : (i : ℕ) → suc (i + 1) ≡ suc i + 1
    next i = omega arith

pub nodes-next : (pieces : List Piece) (i : ℕ) (x y : Piece) (before after : List Node) → y ≡ get_or pieces i x → before ≡ nodes_in (take i pieces) → after ≡ before ++ y.node ∷ [] → i < length pieces → after ≡ nodes_in (take (i + 1) pieces)
nodes-next pieces i x y before after q e h l = h ∙ ap (λ (p : Piece). before ++ p.node ∷ []) q ∙ ap (λ ns. ns ++ (get_or pieces i x).node ∷ []) e ∙ nodes-step pieces i x l
