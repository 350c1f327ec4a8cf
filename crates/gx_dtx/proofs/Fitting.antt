-- What each rule makes of a transaction fits it.
use Rattle.std.proofs.Common.{◌≡◌, List, [], ◌∷◌, refl, ap, Bool, true, false, cond, arith}
use Rattle.std.proofs.lemmas.Bool.Decides.{nat_tests}
use Rattle.std.specs.Prelude.{Option, None, Some, option_map, ◌&&◌}
use Rattle.gx_ids.specs.declared.ids.Gxid.{Gxid}
use Rattle.gx_ids.specs.declared.ids.Node.{Node}
use Rattle.gx_msg.specs.declared.reply.Reply.{Reply}
use Rattle.gx_msg.specs.declared.reply.Reply.TheVariants as reply
use Rattle.gx_dtx.specs.declared.phase.Phase.{Phase}
use Rattle.gx_dtx.specs.declared.phase.Phase.TheVariants.{Active, Preparing, CommittingOne, CommittingTwo, Ended, Aborting}
use Rattle.gx_dtx.specs.declared.status.Status.TheVariants as status
use Rattle.gx_dtx.specs.declared.txn.Txn.{Txn}
use Rattle.gx_dtx.specs.Table.{runs, is_running, status_in}
use Rattle.gx_dtx.specs.Rules.{stays, commits, aborts, ends_committed, takes, prepares, decides, finishes, forgets, gives_up, refuses, is_awaited, commit_found, abort_found, reply_found}
use Rattle.gx_dtx.specs.Nodes.{without}
use Rattle.gx_dtx.specs.Fits.{Fits}

and_true : (b : Bool) → b ≡ (b && true)
and_true true = refl
and_true false = refl

pub Fits-stays : (o : Option Txn) → Fits o stays
Fits-stays o = record { ran = λ is. cc; after = and_true (runs o) }

running_in : (p : Phase) → status_in p ≡ status.Active → is_running p ≡ true
running_in Active is = refl
running_in (Preparing _ _) is = refl
running_in (CommittingOne _) is = refl
running_in (CommittingTwo _) is = refl
running_in (Ended _) is = absurd (cc)
running_in (Aborting _) is = refl

-- an active transaction runs
pub active-runs : (o : Option Txn) → option_map (λ t. status_in t.phase) o ≡ Some status.Active → runs o ≡ true
active-runs None is = absurd (cc)
active-runs (Some t) is = running_in t.phase (some_same is)
  where
    some_same : {s : _} → Some s ≡ Some status.Active → s ≡ status.Active
    some_same e = cc

module _ (t : Txn) where
  Fits-ends_committed : (g : Gxid) (participants : List Node) → is_running t.phase ≡ true → Fits (Some t) (ends_committed g participants)
  Fits-ends_committed g [] is = record { ran = λ _. is; after = grind (arith, nat_tests) }
  Fits-ends_committed g (i ∷ is') is = record { ran = λ _. is; after = grind (arith, nat_tests) }

  Fits-refuses : (g : Gxid) (participants : List Node) (i : Node) → is_running t.phase ≡ true → Fits (Some t) (refuses g participants i)
  Fits-refuses g participants i is = record { ran = λ _. is; after = grind (arith, nat_tests) }

  Fits-commits : (g : Gxid) (writers : List Node) → is_running t.phase ≡ true → Fits (Some t) (commits g writers t)
  Fits-commits g [] is = Fits-ends_committed g t.participants is
  Fits-commits g (i ∷ []) is = record { ran = λ _. is; after = grind (arith, nat_tests) }
  Fits-commits g (i ∷ j ∷ js) is = record { ran = λ _. is; after = grind (arith, nat_tests) }

  Fits-aborts : (g : Gxid) (participants : List Node) → is_running t.phase ≡ true → Fits (Some t) (aborts g participants)
  Fits-aborts g [] is = record { ran = λ _. is; after = grind (arith, nat_tests) }
  Fits-aborts g (i ∷ is') is = record { ran = λ _. is; after = grind (arith, nat_tests) }

  Fits-decides : (g : Gxid) (writers participants : List Node) (refused : Bool) → is_running t.phase ≡ true → Fits (Some t) (decides g writers participants refused)
  Fits-decides g writers participants true is = Fits-refuses g participants (record { 0 = 0 }) is
  Fits-decides g writers participants false is = record { ran = λ _. is; after = grind (arith, nat_tests) }

  Fits-prepares : (g : Gxid) (writers participants rest : List Node) (refused : Bool) → is_running t.phase ≡ true → Fits (Some t) (prepares g writers participants rest refused)
  Fits-prepares g writers participants [] refused is = Fits-decides g writers participants refused is
  Fits-prepares g writers participants (i ∷ is') refused is = record { ran = λ _. is; after = grind (arith, nat_tests) }

  Fits-finishes : (g : Gxid) (participants rest : List Node) → is_running t.phase ≡ true → Fits (Some t) (finishes g participants rest)
  Fits-finishes g participants [] is = Fits-ends_committed g participants is
  Fits-finishes g participants (i ∷ is') is = record { ran = λ _. is; after = grind (arith, nat_tests) }

  Fits-forgets : (rest : List Node) → is_running t.phase ≡ false → Fits (Some t) (forgets rest)
  Fits-forgets [] is = record { ran = λ e. cc; after = grind (arith, nat_tests) }
  Fits-forgets (i ∷ is') is = record { ran = λ e. cc; after = grind (arith, nat_tests) }

  Fits-gives_up : (rest : List Node) → is_running t.phase ≡ true → Fits (Some t) (gives_up rest)
  Fits-gives_up [] is = record { ran = λ _. is; after = grind (arith, nat_tests) }
  Fits-gives_up (i ∷ is') is = record { ran = λ _. is; after = grind (arith, nat_tests) }

  Fits-takes : (g : Gxid) (participants : List Node) (i : Node) (refused : Bool) (p : Phase) (answer : Reply) → t.phase ≡ p → Fits (Some t) (takes g participants i refused p answer)
  Fits-takes g participants i refused (Preparing writers awaited) reply.Prepared is = Fits-prepares g writers participants (without i awaited) refused (ap is_running is)
  Fits-takes g participants i refused (Preparing writers awaited) reply.Jfault is = Fits-refuses g participants i (ap is_running is)
  Fits-takes g participants i refused (CommittingOne w) reply.Committed is = Fits-ends_committed g participants (ap is_running is)
  Fits-takes g participants i refused (CommittingOne w) reply.Jfault is = Fits-refuses g participants i (ap is_running is)
  Fits-takes g participants i refused (CommittingTwo awaited) reply.Committed is = Fits-finishes g participants (without i awaited) (ap is_running is)
  Fits-takes g participants i refused (Ended awaited) reply.Forgotten is = Fits-forgets (without i awaited) (ap is_running is)
  Fits-takes g participants i refused (Aborting awaited) reply.Aborted is = Fits-gives_up (without i awaited) (ap is_running is)
  Fits-takes g participants i refused _ _ is = Fits-stays (Some t)

pub Fits-commit : (o : Option Txn) (g : Gxid) (writers : List Node) → option_map (λ t. status_in t.phase) o ≡ Some status.Active → Fits o (commit_found g writers o)
Fits-commit None g writers is = Fits-stays None
Fits-commit (Some t) g writers is = Fits-commits t g writers (active-runs (Some t) is)

pub Fits-abort : (o : Option Txn) (g : Gxid) → option_map (λ t. status_in t.phase) o ≡ Some status.Active → Fits o (abort_found g o)
Fits-abort None g is = Fits-stays None
Fits-abort (Some t) g is = Fits-aborts t g t.participants (active-runs (Some t) is)

pub Fits-reply : (o : Option Txn) (g : Gxid) (i : Node) (answer : Reply) (refused : Bool) → Fits o (reply_found g i answer refused o)
Fits-reply None g i answer refused = Fits-stays None
Fits-reply (Some t) g i answer refused = awaited (is_awaited t.phase i answer)
  where
    awaited : (b : Bool) → Fits (Some t) (cond b (takes g t.participants i refused t.phase answer) stays)
    awaited true = Fits-takes t g t.participants i refused t.phase answer refl
    awaited false = Fits-stays (Some t)
