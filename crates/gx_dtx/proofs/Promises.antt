-- What each transaction's past promises, by what the table says of it.
use Rattle.std.proofs.Common.{◌≡◌, List, [], ◌∷◌, refl, sym, ap, subst, ◌∙◌, Bool, true, false, cond, arith, inl, inr, ◌⊎◌, ⊎_elim}
use Rattle.std.proofs.lemmas.Bool.Decides.{nat_tests}
use Rattle.std.specs.Prelude.{Option, None, Some, option_map, ◌&&◌, not, ◌↔◌}
use Rattle.gx_ids.specs.declared.ids.Gxid.{Gxid}
use Rattle.gx_ids.specs.declared.ids.Node.{Node}
use Rattle.gx_msg.specs.declared.reply.Reply.{Reply as Answer}
use Rattle.gx_msg.specs.declared.reply.Reply.TheVariants as answer
use Rattle.gx_dtx.specs.declared.order.Order.{Order}
use Rattle.gx_dtx.specs.declared.order.Order.TheVariants as order
use Rattle.gx_dtx.specs.declared.outcome.Outcome.TheVariants as outcome
use Rattle.gx_dtx.specs.declared.phase.Phase.{Phase}
use Rattle.gx_dtx.specs.declared.phase.Phase.TheVariants as phase
use Rattle.gx_dtx.specs.declared.txn.Txn.{Txn}
use Rattle.gx_dtx.specs.Nodes.{has, without}
use Rattle.gx_dtx.specs.Table.{Table, find_txn, horizon_of, status_in}
use Rattle.gx_dtx.specs.Rules.{order_in, order_found, reply_found, takes, stays, forgets, is_awaited}
use Rattle.gx_dtx.specs.Past.{Past, Fate, is_over, AreAmong, IsForgotten, until}
use Rattle.gx_dtx.specs.Past.Fate.{Open, Decided, Committed, GivenUp, Aborted}
use Rattle.gx_dtx.specs.Agrees.{Agrees, Known, Gone, Stands, AreRest, Somebody}
use Rattle.gx_dtx.specs.Laws.{IsLow, KeepsProtocol}
use Rattle.gx_dtx.proofs.Low.{found-low, live_found-low}
use Rattle.gx_dtx.proofs.History.{gone-over}

-- ---- the horizon

gone-low : (horizon g : Gxid) (p : Past) (f : Fate) → p.fate ≡ f → p.live ≡ None → Gone p f → IsLow horizon g p
gone-low horizon g p f is none gone = record {
  running = λ begun isnt. let e : p.begun ≡ is_over p.fate = gone-over p f gone ∙ ap is_over (sym is) in absurd (cc);
  unforgotten = λ i committed there isnt. let all : Gone p Committed = subst (Gone p) (sym is ∙ committed) gone in let has_it = all.2 i there in absurd (cc);
  live = λ x has_one. absurd (cc);
}

pub low-agrees : (d : Table) (g : Gxid) (p : Past) (o : Option Txn) → find_txn d g ≡ o → Agrees p o → IsLow (horizon_of d) g p
low-agrees d g p None found agrees = gone-low (horizon_of d) g p p.fate refl agrees.0 agrees.1
low-agrees d g p (Some t) found k = record {
  running = λ _ _. found-low g t d.txns found d.next;
  unforgotten = λ _ _ _ _. found-low g t d.txns found d.next;
  live = λ x is. live_found-low g t x d.txns (k.live ∙ is) found d.next;
}

-- ---- commit and abort

phase-protocol : (p : Past) (ns : List Node) (ph : Phase) → Stands p ns ph → KeepsProtocol p
phase-protocol p ns phase.Active s = let f = s.0 in record { decided = λ e. absurd (cc); committed = λ e. absurd (cc); given_up = λ e. absurd (cc); aborted = λ e. absurd (cc) }
phase-protocol p ns (phase.Preparing _ _) s = let f = s.0.0 in record { decided = λ e. absurd (cc); committed = λ e. absurd (cc); given_up = λ e. absurd (cc); aborted = λ e. absurd (cc) }
phase-protocol p ns (phase.CommittingOne _) s = let f = s.0.0 in record { decided = λ e. absurd (cc); committed = λ e. absurd (cc); given_up = λ e. absurd (cc); aborted = λ e. absurd (cc) }
phase-protocol p ns (phase.CommittingTwo _) s = let f = s.0 in record { decided = λ e. s.1; committed = λ e. absurd (cc); given_up = λ e. absurd (cc); aborted = λ e. absurd (cc) }
phase-protocol p ns (phase.Ended _) s = let f = s.0 in record { decided = λ e. absurd (cc); committed = λ e. s.2; given_up = λ e. absurd (cc); aborted = λ e. absurd (cc) }
phase-protocol p ns (phase.Aborting _) s = let f = s.0 in record { decided = λ e. absurd (cc); committed = λ e. absurd (cc); given_up = λ e. s.3; aborted = λ e. absurd (cc) }

gone-protocol : (p : Past) (f : Fate) → p.fate ≡ f → Gone p f → KeepsProtocol p
gone-protocol p Open is gone = record { decided = λ e. absurd (cc); committed = λ e. absurd (cc); given_up = λ e. absurd (cc); aborted = λ e. absurd (cc) }
gone-protocol p Decided is gone = absurd gone
gone-protocol p Committed is gone = record { decided = λ e. absurd (cc); committed = λ e. gone.1; given_up = λ e. absurd (cc); aborted = λ e. absurd (cc) }
gone-protocol p GivenUp is gone = absurd gone
gone-protocol p Aborted is gone = record { decided = λ e. absurd (cc); committed = λ e. absurd (cc); given_up = λ e. absurd (cc); aborted = λ e. (gone.2, gone.1) }

pub protocol-agrees : (p : Past) (o : Option Txn) → Agrees p o → KeepsProtocol p
protocol-agrees p None agrees = gone-protocol p p.fate refl agrees.1
protocol-agrees p (Some t) k = phase-protocol p t.participants t.phase k.stands

-- ---- who is told to forget or to abort

rest-told : (o : Order) (awaited here gone : Bool) → awaited ≡ (here && not gone) → here ≡ true → cond awaited (Some o) None ≡ until o gone
rest-told o awaited here true is there = grind (arith, nat_tests)
rest-told o awaited here false is there = grind (arith, nat_tests)

until-done : (o : Order) (gone : Bool) → gone ≡ true → None ≡ until o gone
until-done o gone is = ap (until o) (sym is)

forget-told : (p : Past) (ns : List Node) (i : Node) (ph : Phase) → Stands p ns ph → p.fate ≡ Committed → has i ns ≡ true → order_in ph i ≡ until order.Forget (has i p.forgotten)
forget-told p ns i phase.Active s e there = let f = s.0 in absurd (cc)
forget-told p ns i (phase.Preparing _ _) s e there = let f = s.0.0 in absurd (cc)
forget-told p ns i (phase.CommittingOne _) s e there = let f = s.0.0 in absurd (cc)
forget-told p ns i (phase.CommittingTwo _) s e there = let f = s.0 in absurd (cc)
forget-told p ns i (phase.Ended aw) s e there = rest-told order.Forget (has i aw) (has i ns) (has i p.forgotten) (s.3 i) there
forget-told p ns i (phase.Aborting _) s e there = let f = s.0 in absurd (cc)

abort-told : (p : Past) (ns : List Node) (i : Node) (ph : Phase) → Stands p ns ph → p.fate ≡ GivenUp → has i ns ≡ true → order_in ph i ≡ until order.Abort (has i p.aborted)
abort-told p ns i phase.Active s e there = let f = s.0 in absurd (cc)
abort-told p ns i (phase.Preparing _ _) s e there = let f = s.0.0 in absurd (cc)
abort-told p ns i (phase.CommittingOne _) s e there = let f = s.0.0 in absurd (cc)
abort-told p ns i (phase.CommittingTwo _) s e there = let f = s.0 in absurd (cc)
abort-told p ns i (phase.Ended _) s e there = let f = s.0 in absurd (cc)
abort-told p ns i (phase.Aborting aw) s e there = rest-told order.Abort (has i aw) (has i ns) (has i p.aborted) (s.2 i) there

pub forget-agrees : (p : Past) (o : Option Txn) (i : Node) → Agrees p o → p.fate ≡ Committed → has i p.enlisted ≡ true → order_found i o ≡ until order.Forget (has i p.forgotten)
forget-agrees p None i agrees e there = let all : Gone p Committed = subst (Gone p) e agrees.1 in until-done order.Forget (has i p.forgotten) (all.2 i there)
forget-agrees p (Some t) i k e there = forget-told p t.participants i t.phase k.stands e (k.participants i ∙ there)

pub abort-agrees : (p : Past) (o : Option Txn) (i : Node) → Agrees p o → p.fate ≡ GivenUp → has i p.enlisted ≡ true → order_found i o ≡ until order.Abort (has i p.aborted)
abort-agrees p None i agrees e there = let all : Gone p GivenUp = subst (Gone p) e agrees.1 in absurd all
abort-agrees p (Some t) i k e there = abort-told p t.participants i t.phase k.stands e (k.participants i ∙ there)

-- ---- who has no status

gone-forgotten : (p : Past) (f : Fate) → p.fate ≡ f → Gone p f → IsForgotten p
gone-forgotten p Open is gone = inl gone
gone-forgotten p Decided is gone = absurd gone
gone-forgotten p Committed is gone = inr (inl (is, gone.2))
gone-forgotten p GivenUp is gone = absurd gone
gone-forgotten p Aborted is gone = inr (inr is)

still-there : (p : Past) (ns aw : List Node) → AreRest aw ns p.forgotten → Somebody aw → ((i : Node) → has i ns ≡ has i p.enlisted) → AreAmong p.enlisted p.forgotten → ⊥
still-there p ns aw rest somebody same all =
    let i = somebody.0 in
    let a : has i aw ≡ true = somebody.1 in
    let r : has i aw ≡ (has i ns && not (has i p.forgotten)) = rest i in
    let s : has i ns ≡ has i p.enlisted = same i in
    let f : has i p.enlisted ≡ true → has i p.forgotten ≡ true = all i in
    last (has i aw) (has i ns) (has i p.forgotten) (has i p.enlisted) a r s f
  where
    last : (a n f e : Bool) → a ≡ true → a ≡ (n && not f) → n ≡ e → (e ≡ true → f ≡ true) → ⊥
    last a n f e is rest same all = grind (arith, nat_tests)

phase-there : (p : Past) (ns : List Node) (ph : Phase) → Stands p ns ph → ((i : Node) → has i ns ≡ has i p.enlisted) → p.fate ≡ Committed → AreAmong p.enlisted p.forgotten → ⊥
phase-there p ns phase.Active s same e all = let f = s.0 in absurd (cc)
phase-there p ns (phase.Preparing _ _) s same e all = let f = s.0.0 in absurd (cc)
phase-there p ns (phase.CommittingOne _) s same e all = let f = s.0.0 in absurd (cc)
phase-there p ns (phase.CommittingTwo _) s same e all = let f = s.0 in absurd (cc)
phase-there p ns (phase.Ended aw) s same e all = still-there p ns aw s.3 s.4 same all
phase-there p ns (phase.Aborting _) s same e all = let f = s.0 in absurd (cc)

phase-aborted : (p : Past) (ns : List Node) (ph : Phase) → Stands p ns ph → p.fate ≡ Aborted → ⊥
phase-aborted p ns phase.Active s e = let f = s.0 in cc
phase-aborted p ns (phase.Preparing _ _) s e = let f = s.0.0 in cc
phase-aborted p ns (phase.CommittingOne _) s e = let f = s.0.0 in cc
phase-aborted p ns (phase.CommittingTwo _) s e = let f = s.0 in cc
phase-aborted p ns (phase.Ended _) s e = let f = s.0 in cc
phase-aborted p ns (phase.Aborting _) s e = let f = s.0 in cc

known-there : (p : Past) (t : Txn) → Known p t → IsForgotten p → ⊥
known-there p t k gone =
    ⊎_elim
    (λ (isnt : p.begun ≡ false). let is = k.begun in let no_way : ⊥ = cc in no_way)
    (λ (over : ((p.fate ≡ Committed) × AreAmong p.enlisted p.forgotten) ⊎ (p.fate ≡ Aborted)). ⊎_elim (λ (c : (p.fate ≡ Committed) × AreAmong p.enlisted p.forgotten). phase-there p t.participants t.phase k.stands k.participants c.0 c.1) (λ (e : p.fate ≡ Aborted). phase-aborted p t.participants t.phase k.stands e) over)
    gone

pub status-agrees : (p : Past) (o : Option Txn) → Agrees p o → (option_map (λ t. status_in t.phase) o ≡ None) ↔ IsForgotten p
status-agrees p None agrees = (λ _. gone-forgotten p p.fate refl agrees.1, λ _. refl)
status-agrees p (Some t) k = (λ e. absurd (cc), λ gone. absurd (known-there p t k gone))

-- ---- what is over stays so

forgets-pending : (rest : List Node) → (forgets rest).out.outcome ≡ outcome.Pending
forgets-pending [] = refl
forgets-pending (i ∷ is) = refl

ended-pending : (g : Gxid) (ns : List Node) (i : Node) (fails : Bool) (aw : List Node) (a : Answer) → (takes g ns i fails (phase.Ended aw) a).out.outcome ≡ outcome.Pending
ended-pending g ns i fails aw answer.Forgotten = forgets-pending (without i aw)
ended-pending g ns i fails aw answer.Prepared = refl
ended-pending g ns i fails aw answer.Committed = refl
ended-pending g ns i fails aw answer.Aborted = refl
ended-pending g ns i fails aw answer.Jfault = refl
ended-pending g ns i fails aw answer.Again = refl
ended-pending g ns i fails aw answer.Restarted = refl
ended-pending g ns i fails aw (answer.Done _ _ _ _) = refl
ended-pending g ns i fails aw (answer.Failed _ _) = refl

over-pending_in : (p : Past) (g : Gxid) (ns ms : List Node) (i : Node) (fails : Bool) (ph : Phase) (a : Answer) → Stands p ms ph → is_over p.fate ≡ true → (takes g ns i fails ph a).out.outcome ≡ outcome.Pending
over-pending_in p g ns ms i fails phase.Active a s over = let e = ap is_over s.0 in absurd (cc)
over-pending_in p g ns ms i fails (phase.Preparing _ _) a s over = let e = ap is_over s.0.0 in absurd (cc)
over-pending_in p g ns ms i fails (phase.CommittingOne _) a s over = let e = ap is_over s.0.0 in absurd (cc)
over-pending_in p g ns ms i fails (phase.CommittingTwo _) a s over = let e = ap is_over s.0 in absurd (cc)
over-pending_in p g ns ms i fails (phase.Ended aw) a s over = ended-pending g ns i fails aw a
over-pending_in p g ns ms i fails (phase.Aborting _) a s over = let e = ap is_over s.0 in absurd (cc)

pending_if : (g : Gxid) (ns : List Node) (i : Node) (fails : Bool) (ph : Phase) (a : Answer) (b : Bool) → (takes g ns i fails ph a).out.outcome ≡ outcome.Pending → (cond b (takes g ns i fails ph a) stays).out.outcome ≡ outcome.Pending
pending_if g ns i fails ph a true is = is
pending_if g ns i fails ph a false is = refl

pub over-pending : (p : Past) (o : Option Txn) (g : Gxid) (i : Node) (a : Answer) (fails : Bool) → Agrees p o → is_over p.fate ≡ true → (reply_found g i a fails o).out.outcome ≡ outcome.Pending
over-pending p None g i a fails agrees over = refl
over-pending p (Some t) g i a fails k over = pending_if g t.participants i fails t.phase a (is_awaited t.phase i a) (over-pending_in p g t.participants t.participants i fails t.phase a k.stands over)
