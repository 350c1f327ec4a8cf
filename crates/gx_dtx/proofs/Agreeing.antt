-- Each rule keeps what the table tells of one transaction's past.
use Rattle.std.proofs.Common.{◌≡◌, List, [], ◌∷◌, refl, sym, ap, subst, ◌∙◌, Bool, true, false, cond, eqb, arith}
use Rattle.std.proofs.lemmas.Bool.Decides.{nat_tests}
use Rattle.std.specs.Prelude.{Option, None, Some, option_map}
use Rattle.gx_ids.specs.declared.ids.Gxid.{Gxid}
use Rattle.gx_ids.specs.declared.ids.Node.{Node}
use Rattle.gx_msg.specs.declared.reply.Reply.{Reply as Answer}
use Rattle.gx_msg.specs.declared.reply.Reply.TheVariants as answer
use Rattle.gx_dtx.specs.declared.change.Change.{Change}
use Rattle.gx_dtx.specs.declared.phase.Phase.{Phase}
use Rattle.gx_dtx.specs.declared.phase.Phase.TheVariants as phase
use Rattle.gx_dtx.specs.declared.status.Status.TheVariants as status
use Rattle.gx_dtx.specs.declared.txn.Txn.{Txn}
use Rattle.gx_dtx.specs.Nodes.{has, without, with_node}
use Rattle.gx_dtx.specs.Table.{new_txn, status_in}
use Rattle.gx_dtx.specs.Rules.{stays, commits, aborts, ends_committed, takes, prepares, decides, finishes, forgets, gives_up as gives_up_at, refuses, is_awaited, commit_found, abort_found, reply_found}
use Rattle.gx_dtx.specs.Past.{Past, Fate, past_of, gives_up, came, answered, asked, AreAmong, HaveCommitted}
use Rattle.gx_dtx.specs.Past.Fate.{Open, Decided, Committed, GivenUp, Aborted}
use Rattle.gx_dtx.specs.Agrees.{Stands, Known, Gone, Agrees, AreIn, AreRest, Somebody, IsOpen, AreSeveral}
use Rattle.gx_dtx.proofs.Has.{has-with, has-without, has-same}
use Rattle.gx_dtx.proofs.Steps.{stepped}

-- ---- lists of nodes

more : (i : Node) (ns : List Node) → AreAmong ns (i ∷ ns)
more i ns = λ j is. grind (arith, nat_tests)

among-more : (i : Node) (ns others : List Node) → AreAmong ns others → AreAmong ns (i ∷ others)
among-more i ns others are = λ j is. grind (arith, nat_tests, are j is)

rest-all : (ns : List Node) → AreRest ns ns []
rest-all ns = λ i. grind (arith, nat_tests)

in-all : (ns others : List Node) → AreIn ns ns others
in-all ns others = λ i is isnt. absurd (cc)

-- nobody is enlisted where nobody takes part
among-nobody : (enlisted participants others : List Node) → ((i : Node) → has i participants ≡ has i enlisted) → participants ≡ [] → AreAmong enlisted others
among-nobody enlisted participants others are none = λ i is. let isnt : has i [] ≡ true = ap (has i) (sym none) ∙ are i ∙ is in absurd (cc)

somebody : (i : Node) (is : List Node) → Somebody (i ∷ is)
somebody i is = (i, grind (arith, nat_tests))

-- one of those that are awaited has answered
in-less : (i : Node) (ns awaited others : List Node) → AreIn ns awaited others → AreIn ns (without i awaited) (i ∷ others)
in-less i ns awaited others are = λ j is isnt. grind (arith, nat_tests, are j is, has-without j i awaited)

rest-less : (i : Node) (awaited ns others : List Node) → AreRest awaited ns others → AreRest (without i awaited) ns (i ∷ others)
rest-less i awaited ns others are = λ j. has-without j i awaited ∙ grind (arith, nat_tests, are j)

-- and was the last
in-last : (ns rest others : List Node) → AreIn ns rest others → rest ≡ [] → AreAmong ns others
in-last ns rest others are none = λ i is. are i is (ap (has i) none)

rest-last : (rest ns others enlisted : List Node) → AreRest rest ns others → rest ≡ [] → ((i : Node) → has i ns ≡ has i enlisted) → AreAmong enlisted others
rest-last rest ns others enlisted are none same = λ i is. grind (arith, nat_tests, are i, same i, ap (has i) none, is)

-- one that wasn't awaited has answered
rest-unawaited : (i : Node) (awaited ns others : List Node) → has i awaited ≡ false → AreRest awaited ns others → AreRest awaited ns (i ∷ others)
rest-unawaited i awaited ns others isnt are = λ j. grind (arith, nat_tests, are j, isnt, has-same i j awaited)

in-more : (i : Node) (ns awaited others : List Node) → AreIn ns awaited others → AreIn ns awaited (i ∷ others)
in-more i ns awaited others are = λ j is isnt. grind (arith, nat_tests, are j is isnt)

committed-more : (d : Bool) (ws : List Node) (prepared finished prepared' finished' : List Node) → AreAmong prepared prepared' → AreAmong finished finished' → HaveCommitted d ws prepared finished → HaveCommitted d ws prepared' finished'
committed-more d [] prepared finished prepared' finished' a b have = have
committed-more d (w ∷ []) prepared finished prepared' finished' a b have = (have.0, λ i is. b i (have.1 i is))
committed-more d (w ∷ v ∷ ws) prepared finished prepared' finished' a b have = (have.0, λ i is. a i (have.1 i is), λ i is. b i (have.2 i is))

committed-all : (d : Bool) (ws prepared finished : List Node) → AreSeveral ws → d ≡ true → AreAmong ws prepared → AreAmong ws finished → HaveCommitted d ws prepared finished
committed-all d [] prepared finished several is a b = absurd several
committed-all d (w ∷ []) prepared finished several is a b = absurd several
committed-all d (w ∷ v ∷ ws) prepared finished several is a b = (is, a, b)

-- ---- a phase

active-is : (p : Phase) → status_in p ≡ status.Active → p ≡ phase.Active
active-is phase.Active is = refl
active-is (phase.Preparing _ _) is = absurd (cc)
active-is (phase.CommittingOne _) is = absurd (cc)
active-is (phase.CommittingTwo _) is = absurd (cc)
active-is (phase.Ended _) is = absurd (cc)
active-is (phase.Aborting _) is = absurd (cc)

stands-active : (p : Past) (ns : List Node) (ph : Phase) → ph ≡ phase.Active → Stands p ns ph → IsOpen p
stands-active p ns ph is s = let P : Phase → Type 0 = λ h. Stands p ns h in subst P is s

-- ---- the rules

-- what an outcome and a step make of a transaction and of its past
abbrev Turns : Past → Option Txn → Change → Type 0
Turns p o c = Agrees (came c.out.outcome p) (stepped c.step o)

module _ (g : Gxid) (t : Txn) (p : Past) (begun : p.begun ≡ true) (same : (i : Node) → has i t.participants ≡ has i p.enlisted) where
  ends : (ns : List Node) → t.participants ≡ ns → HaveCommitted p.decided p.writers p.prepared p.finished → Turns p (Some t) (ends_committed g ns)
  ends [] are have = (refl, (begun, have, among-nobody p.enlisted t.participants [] same are))
  ends (i ∷ is) are have = record { begun = begun; participants = same; live = refl; stands = (refl, refl, have, subst (λ (ns : List Node). AreRest ns t.participants []) are (rest-all t.participants), somebody i is) }

  refused : (i : Node) → p.decided ≡ false → Turns p (Some t) (refuses g t.participants i)
  refused i isnt = record { begun = begun; participants = same; live = refl; stands = (refl, refl, rest-all t.participants, isnt) }

  aborted : (ns : List Node) → t.participants ≡ ns → p.decided ≡ false → Turns (gives_up p) (Some t) (aborts g ns)
  aborted [] are isnt = (refl, (begun, among-nobody p.enlisted t.participants [] same are, isnt))
  aborted (i ∷ is) are isnt = record { begun = begun; participants = same; live = refl; stands = (refl, refl, subst (λ (ns : List Node). AreRest ns t.participants []) are (rest-all t.participants), isnt) }

  decided : (ws : List Node) (fails : Bool) → p.decided ≡ false → AreSeveral ws → p.writers ≡ ws → AreAmong ws p.prepared → t.live ≡ p.live → Turns p (Some t) (decides g ws t.participants fails)
  decided ws true isnt several are all live = refused (record { 0 = 0 }) isnt
  decided ws false isnt several are all live = record {
    begun = begun;
    participants = same;
    live = live;
    stands = (refl, subst (λ (vs : List Node). AreAmong vs p.prepared) (sym are) all, subst (λ (vs : List Node). AreIn vs ws p.finished) (sym are) (in-all ws p.finished), refl, subst AreSeveral (sym are) several);
  }

  prepared : (ws rest : List Node) (fails : Bool) → IsOpen p → AreSeveral ws → p.writers ≡ ws → AreIn ws rest p.prepared → t.live ≡ p.live → Turns p (Some t) (prepares g ws t.participants rest fails)
  prepared ws [] fails undecided several are all live = decided ws fails undecided.1 several are (in-last ws [] p.prepared all refl) live
  prepared ws (i ∷ is) fails undecided several are all live = record { begun = begun; participants = same; live = live; stands = (undecided, are, all, several) }

  finished : (rest : List Node) → p.fate ≡ Decided → p.decided ≡ true → AreSeveral p.writers → AreAmong p.writers p.prepared → AreIn p.writers rest p.finished → t.live ≡ p.live → Turns p (Some t) (finishes g t.participants rest)
  finished [] is was several all have live = ends t.participants refl (committed-all p.decided p.writers p.prepared p.finished several was all (in-last p.writers [] p.finished have refl))
  finished (i ∷ is') is was several all have live = record { begun = begun; participants = same; live = live; stands = (is, all, have, was, several) }

  forgotten : (rest : List Node) → p.fate ≡ Committed → p.live ≡ None → HaveCommitted p.decided p.writers p.prepared p.finished → AreRest rest t.participants p.forgotten → Turns p (Some t) (forgets rest)
  forgotten [] is none have are = (none, subst (Gone p) (sym is) (begun, have, rest-last [] t.participants p.forgotten p.enlisted are refl same))
  forgotten (i ∷ is') is none have are = record { begun = begun; participants = same; live = sym none; stands = (is, none, have, are, somebody i is') }

  given_up : (rest : List Node) → p.fate ≡ GivenUp → p.live ≡ None → p.decided ≡ false → AreRest rest t.participants p.aborted → Turns p (Some t) (gives_up_at rest)
  given_up [] is none isnt are = (refl, (begun, rest-last [] t.participants p.aborted p.enlisted are refl same, isnt))
  given_up (i ∷ is') is none isnt are = record { begun = begun; participants = same; live = sym none; stands = (is, none, are, isnt) }

-- an awaited answer
one-writer : (i w : Node) (d : Bool) (ws finished prepared : List Node) → ws ≡ w ∷ [] → d ≡ false → eqb w.0 i.0 ≡ true → HaveCommitted d ws prepared (i ∷ finished)
one-writer i w d ws finished prepared are isnt same = subst (λ (vs : List Node). HaveCommitted d vs prepared (i ∷ finished)) (sym are) (isnt, λ j is. grind (arith, nat_tests))

module _ (g : Gxid) (t : Txn) (p : Past) (i : Node) (fails : Bool) (k : Known p t) where
  took : (ph : Phase) (a : Answer) → Stands p t.participants ph → is_awaited ph i a ≡ true → Turns (answered i a p) (Some t) (takes g t.participants i fails ph a)
  took (phase.Preparing ws aw) answer.Prepared s is =
      prepared g t (answered i answer.Prepared p) k.begun k.participants ws (without i aw) fails s.0 s.3 s.1 (in-less i ws aw p.prepared s.2) k.live
  took (phase.Preparing ws aw) answer.Jfault s is = refused g t p k.begun k.participants i s.0.1
  took (phase.CommittingOne w) answer.Committed s is =
      ends g t (answered i answer.Committed p) k.begun k.participants t.participants refl (one-writer i w p.decided p.writers p.finished p.prepared s.1 s.0.1 is)
  took (phase.CommittingOne w) answer.Jfault s is = refused g t p k.begun k.participants i s.0.1
  took (phase.CommittingTwo aw) answer.Committed s is =
      finished g t (answered i answer.Committed p) k.begun k.participants (without i aw) s.0 s.3 s.4 s.1 (in-less i p.writers aw p.finished s.2) k.live
  took (phase.Ended aw) answer.Forgotten s is = forgotten g t (answered i answer.Forgotten p) k.begun k.participants (without i aw) s.0 s.1 s.2 (rest-less i aw t.participants p.forgotten s.3)
  took (phase.Aborting aw) answer.Aborted s is = given_up g t (answered i answer.Aborted p) k.begun k.participants (without i aw) s.0 s.1 s.3 (rest-less i aw t.participants p.aborted s.2)
  took _ _ s is = absurd (cc)

-- an answer that isn't awaited
gone-more : (p : Past) (i : Node) (a : Answer) (f : Fate) → Gone p f → Gone (answered i a p) f
gone-more p i answer.Prepared Committed gone = (gone.0, committed-more p.decided p.writers p.prepared p.finished (i ∷ p.prepared) p.finished (more i p.prepared) (λ j is. is) gone.1, gone.2)
gone-more p i answer.Committed Committed gone = (gone.0, committed-more p.decided p.writers p.prepared p.finished p.prepared (i ∷ p.finished) (λ j is. is) (more i p.finished) gone.1, gone.2)
gone-more p i answer.Forgotten Committed gone = (gone.0, gone.1, among-more i p.enlisted p.forgotten gone.2)
gone-more p i answer.Aborted Aborted gone = (gone.0, among-more i p.enlisted p.aborted gone.1, gone.2)
gone-more p i answer.Prepared Open gone = gone
gone-more p i answer.Committed Open gone = gone
gone-more p i answer.Forgotten Open gone = gone
gone-more p i answer.Aborted Open gone = gone
gone-more p i answer.Prepared Aborted gone = gone
gone-more p i answer.Committed Aborted gone = gone
gone-more p i answer.Forgotten Aborted gone = gone
gone-more p i answer.Aborted Committed gone = gone
gone-more p i _ Decided gone = absurd gone
gone-more p i _ GivenUp gone = absurd gone
gone-more p i (answer.Done _ _ _ _) f gone = gone
gone-more p i (answer.Failed _ _) f gone = gone
gone-more p i answer.Jfault f gone = gone
gone-more p i answer.Again f gone = gone
gone-more p i answer.Restarted f gone = gone

-- it leaves all but its own list
pub fate-same : (p : Past) (i : Node) (a : Answer) → (answered i a p).fate ≡ p.fate
fate-same p i answer.Prepared = refl
fate-same p i answer.Committed = refl
fate-same p i answer.Forgotten = refl
fate-same p i answer.Aborted = refl
fate-same p i (answer.Done _ _ _ _) = refl
fate-same p i (answer.Failed _ _) = refl
fate-same p i answer.Jfault = refl
fate-same p i answer.Again = refl
fate-same p i answer.Restarted = refl

decided-same : (p : Past) (i : Node) (a : Answer) → (answered i a p).decided ≡ p.decided
decided-same p i answer.Prepared = refl
decided-same p i answer.Committed = refl
decided-same p i answer.Forgotten = refl
decided-same p i answer.Aborted = refl
decided-same p i (answer.Done _ _ _ _) = refl
decided-same p i (answer.Failed _ _) = refl
decided-same p i answer.Jfault = refl
decided-same p i answer.Again = refl
decided-same p i answer.Restarted = refl

stands-more : (p : Past) (ns : List Node) (i : Node) (ph : Phase) (a : Answer) → is_awaited ph i a ≡ false → Stands p ns ph → Stands (answered i a p) ns ph
stands-more p ns i phase.Active a isnt s = (fate-same p i a ∙ s.0, decided-same p i a ∙ s.1)
stands-more p ns i (phase.Preparing ws aw) answer.Prepared isnt s = (s.0, s.1, in-more i ws aw p.prepared s.2, s.3)
stands-more p ns i (phase.Preparing ws aw) answer.Committed isnt s = s
stands-more p ns i (phase.Preparing ws aw) answer.Forgotten isnt s = s
stands-more p ns i (phase.Preparing ws aw) answer.Aborted isnt s = s
stands-more p ns i (phase.CommittingOne w) answer.Prepared isnt s = s
stands-more p ns i (phase.CommittingOne w) answer.Committed isnt s = s
stands-more p ns i (phase.CommittingOne w) answer.Forgotten isnt s = s
stands-more p ns i (phase.CommittingOne w) answer.Aborted isnt s = s
stands-more p ns i (phase.CommittingTwo aw) answer.Prepared isnt s = (s.0, among-more i p.writers p.prepared s.1, s.2, s.3, s.4)
stands-more p ns i (phase.CommittingTwo aw) answer.Committed isnt s = (s.0, s.1, in-more i p.writers aw p.finished s.2, s.3, s.4)
stands-more p ns i (phase.CommittingTwo aw) answer.Forgotten isnt s = s
stands-more p ns i (phase.CommittingTwo aw) answer.Aborted isnt s = s
stands-more p ns i (phase.Ended aw) answer.Prepared isnt s = (s.0, s.1, committed-more p.decided p.writers p.prepared p.finished (i ∷ p.prepared) p.finished (more i p.prepared) (λ j is. is) s.2, s.3, s.4)
stands-more p ns i (phase.Ended aw) answer.Committed isnt s = (s.0, s.1, committed-more p.decided p.writers p.prepared p.finished p.prepared (i ∷ p.finished) (λ j is. is) (more i p.finished) s.2, s.3, s.4)
stands-more p ns i (phase.Ended aw) answer.Forgotten isnt s = (s.0, s.1, s.2, rest-unawaited i aw ns p.forgotten isnt s.3, s.4)
stands-more p ns i (phase.Ended aw) answer.Aborted isnt s = s
stands-more p ns i (phase.Aborting aw) answer.Prepared isnt s = s
stands-more p ns i (phase.Aborting aw) answer.Committed isnt s = s
stands-more p ns i (phase.Aborting aw) answer.Forgotten isnt s = s
stands-more p ns i (phase.Aborting aw) answer.Aborted isnt s = (s.0, s.1, rest-unawaited i aw ns p.aborted isnt s.2, s.3)
stands-more p ns i ph (answer.Done _ _ _ _) isnt s = s
stands-more p ns i ph (answer.Failed _ _) isnt s = s
stands-more p ns i ph answer.Jfault isnt s = s
stands-more p ns i ph answer.Again isnt s = s
stands-more p ns i ph answer.Restarted isnt s = s

known-more : (p : Past) (t : Txn) (i : Node) (a : Answer) → Stands (answered i a p) t.participants t.phase → Known p t → Known (answered i a p) t
known-more p t i answer.Prepared s k = record { begun = k.begun; participants = k.participants; live = k.live; stands = s }
known-more p t i answer.Committed s k = record { begun = k.begun; participants = k.participants; live = k.live; stands = s }
known-more p t i answer.Forgotten s k = record { begun = k.begun; participants = k.participants; live = k.live; stands = s }
known-more p t i answer.Aborted s k = record { begun = k.begun; participants = k.participants; live = k.live; stands = s }
known-more p t i (answer.Done _ _ _ _) s k = k
known-more p t i (answer.Failed _ _) s k = k
known-more p t i answer.Jfault s k = k
known-more p t i answer.Again s k = k
known-more p t i answer.Restarted s k = k

live-same : (p : Past) (i : Node) (a : Answer) → (answered i a p).live ≡ p.live
live-same p i answer.Prepared = refl
live-same p i answer.Committed = refl
live-same p i answer.Forgotten = refl
live-same p i answer.Aborted = refl
live-same p i (answer.Done _ _ _ _) = refl
live-same p i (answer.Failed _ _) = refl
live-same p i answer.Jfault = refl
live-same p i answer.Again = refl
live-same p i answer.Restarted = refl

replied_if : (p : Past) (t : Txn) (g : Gxid) (i : Node) (a : Answer) (fails : Bool) (b : Bool) → is_awaited t.phase i a ≡ b → Known p t → Turns (answered i a p) (Some t) (cond b (takes g t.participants i fails t.phase a) stays)
replied_if p t g i a fails true is k = took g t p i fails k t.phase a k.stands is
replied_if p t g i a fails false is k = known-more p t i a (stands-more p t.participants i t.phase a is k.stands) k

pub replied : (p : Past) (o : Option Txn) (g : Gxid) (i : Node) (a : Answer) (fails : Bool) → Agrees p o → Turns (answered i a p) o (reply_found g i a fails o)
replied p None g i a fails agrees = (live-same p i a ∙ agrees.0, subst (Gone (answered i a p)) (sym (fate-same p i a)) (gone-more p i a p.fate agrees.1))
replied p (Some t) g i a fails agrees = replied_if p t g i a fails (is_awaited t.phase i a) refl agrees

-- commit and abort
open_in : (p : Past) (t : Txn) → Known p t → status_in t.phase ≡ status.Active → IsOpen p
open_in p t k is = stands-active p t.participants t.phase (active-is t.phase is) k.stands

committed : (p : Past) (t : Txn) (g : Gxid) (ws : List Node) → IsOpen p → Known p t → Turns (asked ws p) (Some t) (commits g ws t)
committed p t g [] undecided k = ends g t (asked [] p) k.begun k.participants t.participants refl undecided.1
committed p t g (w ∷ []) undecided k = record { begun = k.begun; participants = k.participants; live = k.live; stands = (undecided, refl) }
committed p t g (w ∷ v ∷ ws) undecided k = record { begun = k.begun; participants = k.participants; live = k.live; stands = (undecided, refl, in-all (w ∷ v ∷ ws) [], tt) }

same-status : (t : Txn) → Some (status_in t.phase) ≡ Some status.Active → status_in t.phase ≡ status.Active
same-status t is = cc

pub commit-agrees : (p : Past) (o : Option Txn) (g : Gxid) (ws : List Node) → option_map (λ t. status_in t.phase) o ≡ Some status.Active → Agrees p o → Turns (asked ws p) o (commit_found g ws o)
commit-agrees p None g ws is agrees = absurd (cc)
commit-agrees p (Some t) g ws is agrees = committed p t g ws (open_in p t agrees (same-status t is)) agrees

pub abort-agrees : (p : Past) (o : Option Txn) (g : Gxid) → option_map (λ t. status_in t.phase) o ≡ Some status.Active → Agrees p o → Turns (gives_up p) o (abort_found g o)
abort-agrees p None g is agrees = absurd (cc)
abort-agrees p (Some t) g is agrees = aborted g t p agrees.begun agrees.participants t.participants refl (open_in p t agrees (same-status t is)).1

-- snapshots and participants
stands-live : (p : Past) (ns : List Node) (ph : Phase) → Stands p ns ph → Stands (record p { live = None }) ns ph
stands-live p ns phase.Active s = s
stands-live p ns (phase.Preparing _ _) s = s
stands-live p ns (phase.CommittingOne _) s = s
stands-live p ns (phase.CommittingTwo _) s = s
stands-live p ns (phase.Ended _) s = (s.0, refl, s.2, s.3, s.4)
stands-live p ns (phase.Aborting _) s = (s.0, refl, s.2, s.3)

gone-live : (p : Past) (f : Fate) → Gone p f → Gone (record p { live = None }) f
gone-live p Open gone = gone
gone-live p Decided gone = gone
gone-live p Committed gone = gone
gone-live p GivenUp gone = gone
gone-live p Aborted gone = gone

pub dropped : (p : Past) (o : Option Txn) → Agrees p o → Agrees (record p { live = None }) (option_map (λ t. let u : Txn = record t { live = None } in u) o)
dropped p None agrees = (refl, gone-live p p.fate agrees.1)
dropped p (Some t) k = record { begun = k.begun; participants = k.participants; live = refl; stands = stands-live p t.participants t.phase k.stands }

stands-as-active : (p : Past) (ns : List Node) (ph : Phase) → ph ≡ phase.Active → IsOpen p → Stands p ns ph
stands-as-active p ns ph is undecided = let P : Phase → Type 0 = λ h. Stands p ns h in subst P (sym is) undecided

pub snapped : (p : Past) (o : Option Txn) (x : Gxid) → option_map (λ t. status_in t.phase) o ≡ Some status.Active → Agrees p o → Agrees (record p { live = Some x }) (option_map (λ t. let u : Txn = record t { live = Some x } in u) o)
snapped p None x is agrees = absurd (cc)
snapped p (Some t) x is k = record {
  begun = k.begun;
  participants = k.participants;
  live = refl;
  stands = stands-as-active (record p { live = Some x }) t.participants t.phase (active-is t.phase (same-status t is)) (open_in p t k (same-status t is));
}

pub enlisted-agrees : (p : Past) (o : Option Txn) (i : Node) → option_map (λ t. status_in t.phase) o ≡ Some status.Active → Agrees p o → Agrees (record p { enlisted = i ∷ p.enlisted }) (option_map (λ t. let u : Txn = record t { participants = with_node i t.participants } in u) o)
enlisted-agrees p None i is agrees = absurd (cc)
enlisted-agrees p (Some t) i is k = record {
  begun = k.begun;
  participants = λ j. has-with j i t.participants ∙ grind (arith, nat_tests, k.participants j);
  live = k.live;
  stands = stands-as-active (record p { enlisted = i ∷ p.enlisted }) (with_node i t.participants) t.phase (active-is t.phase (same-status t is)) (open_in p t k (same-status t is));
}

pub begun-agrees : Agrees (past_of true) (Some new_txn)
begun-agrees = record { begun = refl; participants = λ i. refl; live = refl; stands = (refl, refl) }
