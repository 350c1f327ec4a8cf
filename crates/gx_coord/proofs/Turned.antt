-- Turns that begin with a smaller change.
use Rattle.std.proofs.Common.{◌≡◌, ◌++◌, ◌∙◌, List, Result, Ok, Err, IfOk, OnOk, ap, refl}
use Rattle.std.proofs.lemmas.List.{append_assoc}
use Rattle.gx_ids.specs.declared.ids.Gxid.{Gxid}
use Rattle.gx_dtx.specs.Rules.{Turn}
use Rattle.gx_dtx.specs.declared.outcome.DtxOut.{DtxOut}
use Rattle.gx_msg.specs.declared.message.Out.{Out}
use Rattle.gx_store.specs.declared.mark.Mark.{Mark}
use Rattle.gx_rules.specs.AtCoordinator.{behind, follows}
use Rattle.gx_rules.specs.Coordinators as rule
use Rattle.gx_coord.specs.Books.{IsFramed}
use Rattle.gx_coord.specs.Turns.{IsTurn}
use Rattle.gx_coord.specs.declared.coord.Coord.{Coord}
use Rattle.gx_coord.proofs.Outcomes.{follows-from}

pub framed-trans : (old mid new : Coord) → IsFramed old mid → IsFramed mid new → IsFramed old new
framed-trans old mid new a b = record { script = b.script ∙ a.script; places = b.places ∙ a.places; sent = b.sent ∙ a.sent; clock = b.clock ∙ a.clock; segments = b.segments ∙ a.segments; count = b.count ∙ a.count }

pub turn-from : (old mid new : Coord) (before after : List Mark) (t u : rule.CoordTurn) → IsFramed old mid → t ≡ u → IsTurn mid new before after t → IsTurn old new before after u
turn-from old mid new before after t u f e h = record { framed = framed-trans old mid new f h.framed; coord = h.coord ∙ ap (λ (x : rule.CoordTurn). x.coord) e; marks = h.marks ∙ ap (λ (x : rule.CoordTurn). before ++ x.marks) e }

pub on_turn-from : {A B : Type 0} (r : Result A B) (old mid new : Coord) (before after : List Mark) (t u : rule.CoordTurn) → IsFramed old mid → t ≡ u → OnOk r (IsTurn mid new before after t) → OnOk r (IsTurn old new before after u)
on_turn-from (Ok x) old mid new before after t u f e h = turn-from old mid new before after t u f e h
on_turn-from (Err x) old mid new before after t u f e h = tt

-- what goes out is what an equal turn sends
pub outs-from : {B : Type 0} (r : Result (List Out) B) (t u : rule.CoordTurn) → t ≡ u → IfOk r (λ outs. outs ≡ t.outs) → IfOk r (λ outs. outs ≡ u.outs)
outs-from (Ok x) t u e h = h ∙ ap (λ (x : rule.CoordTurn). x.outs) e
outs-from (Err x) t u e h = tt

pub commits-from : (c k : rule.Coord) (g : Gxid) (turn : Turn) (out : DtxOut) → k ≡ record c { table = turn.table } → out ≡ turn.out → follows k g (record { table = k.table; out = out }) out.outcome ≡ follows c g turn turn.out.outcome
commits-from c k g turn out e h =
    ap (λ (x : rule.Coord). follows x g (record { table = x.table; out = out }) out.outcome) e
    ∙ ap (λ (o : DtxOut). follows (record c { table = turn.table }) g (record { table = turn.table; out = o }) o.outcome) h
    ∙ follows-from c g turn turn.out.outcome

pub framed-refl : (k : Coord) → IsFramed k k
framed-refl k = record { script = refl; places = refl; sent = refl; clock = refl; segments = refl; count = refl }

pub script-same : (old mid : Coord) → IsFramed old mid → mid.script.value ≡ old.script.value
script-same old mid f = ap (λ a. a.value) f.script

-- marks stand before a turn's
pub behind-turn : (old mid new : Coord) (before middle after first : List Mark) (t u : rule.CoordTurn) → IsFramed old mid → t ≡ u → middle ≡ before ++ first → IsTurn mid new middle after t → IsTurn old new before after (behind first u)
behind-turn old mid new before middle after first t u f e m h =
    record {
      framed = framed-trans old mid new f h.framed;
      coord = h.coord ∙ ap (λ (x : rule.CoordTurn). x.coord) e;
      marks = h.marks ∙ ap (λ xs. xs ++ t.marks) m ∙ append_assoc before first t.marks ∙ ap (λ (x : rule.CoordTurn). before ++ (first ++ x.marks)) e;
    }

pub on_behind-turn : {A B : Type 0} (r : Result A B) (old mid new : Coord) (before middle after first : List Mark) (t u : rule.CoordTurn) → IsFramed old mid → t ≡ u → middle ≡ before ++ first → OnOk r (IsTurn mid new middle after t) → OnOk r (IsTurn old new before after (behind first u))
on_behind-turn (Ok x) old mid new before middle after first t u f e m h = behind-turn old mid new before middle after first t u f e m h
on_behind-turn (Err x) old mid new before middle after first t u f e m h = tt
