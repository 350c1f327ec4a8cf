-- The transactions' participants, writers and awaited nodes are segments, and so are the nodes of what is sent for them.
use Rattle.std.proofs.Common.{◌≡◌, ℕ, List, [], ◌∷◌, ◌++◌, Option, Some, None, Bool, true, false, cond, if◌then◌else◌, arith}
use Rattle.std.proofs.lemmas.Bool.Decides.{nat_tests}
use Rattle.std.specs.Prelude.{filter, nat_lt}
use Rattle.std.specs.Map.{lookup, remove_entry, set_value}
use Rattle.std.specs.BTreeMap.{is_at}
use Rattle.gx_ids.specs.declared.ids.Gxid.{Gxid}
use Rattle.gx_ids.specs.declared.ids.Node.{Node}
use Rattle.gx_dsnap.specs.Gxids.{gxid_cmp}
use Rattle.gx_dtx.specs.Nodes.{has, to_each, with_node, without}
use Rattle.gx_dtx.specs.Rules.{Turn, abort_found, aborts, commit_found, commits, decides, ends_committed, enlisted, finishes, forgets, gives_up, is_awaited, moved, on_abort, on_commit, on_reply, prepares, refuses, reply_found, stays, takes, turns, with_live, with_step, with_found, begun}
use Rattle.gx_dtx.specs.Table.{Table, find_txn, new_txn}
use Rattle.gx_dtx.specs.declared.change.Change.{Change}
use Rattle.gx_dtx.specs.declared.change.Step.{Step}
use Rattle.gx_dtx.specs.declared.change.Step.TheVariants.{GoesTo, Leaves, Stays}
use Rattle.gx_dtx.specs.declared.phase.Phase.{Phase}
use Rattle.gx_dtx.specs.declared.phase.Phase.TheVariants.{Preparing, CommittingOne, CommittingTwo, Ended, Aborting}
use Rattle.gx_dtx.specs.declared.txn.Txn.{Txn}
use Rattle.gx_msg.specs.declared.message.Message.{Message}
use Rattle.gx_msg.specs.declared.message.Message.TheVariants as message
use Rattle.gx_msg.specs.declared.reply.Reply.{Reply}
use Rattle.gx_msg.specs.declared.reply.Reply.TheVariants as reply
use Rattle.gx_law_order.proofs.Lists.{each_append, each_filter, each_map}
use Rattle.gx_law_order.specs.Lists.{Each}
use Rattle.gx_law_order.specs.Places.{IsOneOf}
use Rattle.gx_law_order.specs.Places.{AreIn, OutIn, PhaseIn, TableIn, TxnIn}

module _ (n : ℕ) where
  abbrev pub FoundIn : Option Txn → Type 0
  FoundIn None = Unit {0}
  FoundIn (Some t) = TxnIn n t

  -- a change keeps to segments
  abbrev pub StepIn : Step → Type 0
  StepIn Stays = Unit {0}
  StepIn Leaves = Unit {0}
  StepIn (GoesTo p) = PhaseIn n p

  pub record ChangeIn (c : Change) : Type 0 where
    pub step : StepIn c.step
    pub outs : Each (OutIn n) c.out.outs

  pub record TurnIn (t : Turn) : Type 0 where
    pub table : TableIn n t.table
    pub outs : Each (OutIn n) t.out.outs

  -- lists of nodes
  to_each_in : (m : Message) (nodes : List Node) → AreIn n nodes → Each (OutIn n) (to_each m nodes)
  to_each_in m nodes e = each_map (OutIn n) (λ i. record { node = i; message = m }) nodes e

  pub without_in : (i : Node) (nodes : List Node) → AreIn n nodes → AreIn n (without i nodes)
  without_in i nodes e = each_filter (IsOneOf n) _ nodes e

  pub with_in : (i : Node) (nodes : List Node) → IsOneOf n i → AreIn n nodes → AreIn n (with_node i nodes)
  with_in i nodes h e = at (has i nodes)
    where
      at : (b : Bool) → AreIn n (if b then nodes else filter (λ j. nat_lt j.0 i.0) nodes ++ i ∷ [] ++ filter (λ j. nat_lt i.0 j.0) nodes)
      at true = e
      at false = each_append (IsOneOf n) _ _ (each_append (IsOneOf n) _ _ (each_filter (IsOneOf n) (λ j. nat_lt j.0 i.0) nodes e) (h, tt)) (each_filter (IsOneOf n) (λ j. nat_lt i.0 j.0) nodes e)

  -- one transaction
  ends_committed_in : (g : Gxid) (nodes : List Node) → AreIn n nodes → ChangeIn (ends_committed g nodes)
  ends_committed_in g [] e = record { step = tt; outs = tt }
  ends_committed_in g (i ∷ is) e = record { step = e; outs = to_each_in _ (i ∷ is) e }

  refuses_in : (g : Gxid) (nodes : List Node) (i : Node) → AreIn n nodes → ChangeIn (refuses g nodes i)
  refuses_in g nodes i e = record { step = e; outs = to_each_in _ nodes e }

  commits_in : (g : Gxid) (writers : List Node) (t : Txn) → AreIn n writers → TxnIn n t → ChangeIn (commits g writers t)
  commits_in g [] t e h = ends_committed_in g t.participants h.participants
  commits_in g (i ∷ []) t e h = record { step = e.0; outs = to_each_in (message.Commit g) (i ∷ []) e }
  commits_in g (i ∷ j ∷ is) t e h = record { step = (e, e); outs = to_each_in _ (i ∷ j ∷ is) e }

  aborts_in : (g : Gxid) (nodes : List Node) → AreIn n nodes → ChangeIn (aborts g nodes)
  aborts_in g [] e = record { step = tt; outs = tt }
  aborts_in g (i ∷ is) e = record { step = e; outs = to_each_in _ (i ∷ is) e }

  stays_in : ChangeIn stays
  stays_in = record { step = tt; outs = tt }

  decides_in : (g : Gxid) (writers nodes : List Node) (refused : Bool) → AreIn n writers → AreIn n nodes → ChangeIn (decides g writers nodes refused)
  decides_in g writers nodes false w e = record { step = w; outs = to_each_in _ writers w }
  decides_in g writers nodes true w e = refuses_in g nodes _ e

  prepares_in : (g : Gxid) (writers nodes awaited : List Node) (refused : Bool) → AreIn n writers → AreIn n nodes → AreIn n awaited → ChangeIn (prepares g writers nodes awaited refused)
  prepares_in g writers nodes [] refused w e a = decides_in g writers nodes refused w e
  prepares_in g writers nodes (i ∷ is) refused w e a = record { step = (w, a); outs = tt }

  finishes_in : (g : Gxid) (nodes awaited : List Node) → AreIn n nodes → AreIn n awaited → ChangeIn (finishes g nodes awaited)
  finishes_in g nodes [] e a = ends_committed_in g nodes e
  finishes_in g nodes (i ∷ is) e a = record { step = a; outs = tt }

  forgets_in : (awaited : List Node) → AreIn n awaited → ChangeIn (forgets awaited)
  forgets_in [] a = record { step = tt; outs = tt }
  forgets_in (i ∷ is) a = record { step = a; outs = tt }

  gives_up_in : (awaited : List Node) → AreIn n awaited → ChangeIn (gives_up awaited)
  gives_up_in [] a = record { step = tt; outs = tt }
  gives_up_in (i ∷ is) a = record { step = a; outs = tt }

  takes_in : (g : Gxid) (nodes : List Node) (i : Node) (refused : Bool) (p : Phase) (r : Reply) → AreIn n nodes → PhaseIn n p → ChangeIn (takes g nodes i refused p r)
  takes_in g nodes i refused (Preparing writers awaited) reply.Prepared e h = prepares_in g writers nodes (without i awaited) refused h.0 e (without_in i awaited h.1)
  takes_in g nodes i refused (Preparing writers awaited) reply.Jfault e h = refuses_in g nodes i e
  takes_in g nodes i refused (CommittingOne w) reply.Committed e h = ends_committed_in g nodes e
  takes_in g nodes i refused (CommittingOne w) reply.Jfault e h = refuses_in g nodes i e
  takes_in g nodes i refused (CommittingTwo awaited) reply.Committed e h = finishes_in g nodes (without i awaited) e (without_in i awaited h)
  takes_in g nodes i refused (Ended awaited) reply.Forgotten e h = forgets_in (without i awaited) (without_in i awaited h)
  takes_in g nodes i refused (Aborting awaited) reply.Aborted e h = gives_up_in (without i awaited) (without_in i awaited h)
  takes_in g nodes i refused p r e h = stays_in

  -- the table
  found_in : (test : Gxid → Bool) (txns : List (Gxid × Txn)) → Each (λ e. TxnIn n e.1) txns → FoundIn (lookup test txns)
  found_in test [] e = tt
  found_in test (x ∷ xs) e = at (test x.0) (found_in test xs e.1)
    where
      at : (b : Bool) → FoundIn (lookup test xs) → FoundIn (cond b (Some x.1) (lookup test xs))
      at true f = e.0
      at false f = f

  set_in : (test : Gxid → Bool) (t : Txn) (txns : List (Gxid × Txn)) → TxnIn n t → Each (λ e. TxnIn n e.1) txns → Each (λ e. TxnIn n e.1) (set_value test txns t)
  set_in test t [] h e = tt
  set_in test t (x ∷ xs) h e = at (test x.0) (set_in test t xs h e.1)
    where
      at : (b : Bool) → Each (λ e. TxnIn n e.1) (set_value test xs t) → Each (λ e. TxnIn n e.1) (cond b ((x.0, t) ∷ xs) (x ∷ set_value test xs t))
      at true f = (h, e.1)
      at false f = (e.0, f)

  remove_in : (test : Gxid → Bool) (txns : List (Gxid × Txn)) → Each (λ e. TxnIn n e.1) txns → Each (λ e. TxnIn n e.1) (remove_entry test txns)
  remove_in test [] e = tt
  remove_in test (x ∷ xs) e = at (test x.0) (remove_in test xs e.1)
    where
      at : (b : Bool) → Each (λ e. TxnIn n e.1) (remove_entry test xs) → Each (λ e. TxnIn n e.1) (cond b xs (x ∷ remove_entry test xs))
      at true f = e.1
      at false f = (e.0, f)

  with_txn_in : (txns : List (Gxid × Txn)) (g : Gxid) (f : Txn → Txn) (found : Option Txn) → ((t : Txn) → TxnIn n t → TxnIn n (f t)) → Each (λ e. TxnIn n e.1) txns → FoundIn found → Each (λ e. TxnIn n e.1) (with_found txns g f found)
  with_txn_in txns g f None k e h = e
  with_txn_in txns g f (Some t) k e h = set_in (is_at (gxid_cmp g)) (f t) txns (k t h) e

  with_step_in : (txns : List (Gxid × Txn)) (g : Gxid) (s : Step) → StepIn s → Each (λ e. TxnIn n e.1) txns → Each (λ e. TxnIn n e.1) (with_step txns g s)
  with_step_in txns g Stays h e = e
  with_step_in txns g Leaves h e = remove_in (is_at (gxid_cmp g)) txns e
  with_step_in txns g (GoesTo p) h e =
      with_txn_in txns g (moved p) (lookup (is_at (gxid_cmp g)) txns) (λ t k. record { participants = k.participants; phase = h }) e (found_in (is_at (gxid_cmp g)) txns e)

  turns_in : (d : Table) (g : Gxid) (c : Change) → TableIn n d → ChangeIn c → TurnIn (turns d g c)
  turns_in d g c e h = record { table = with_step_in d.txns g c.step h.step e; outs = h.outs }

  pub find_in : (d : Table) (g : Gxid) → TableIn n d → FoundIn (find_txn d g)
  find_in d g e = found_in (is_at (gxid_cmp g)) d.txns e

  -- calls
  pub begun_in : (d : Table) → TableIn n d → TableIn n (begun d)
  begun_in d e = each_append (λ e. TxnIn n e.1) d.txns ((d.next, new_txn) ∷ []) e (record { participants = tt; phase = tt }, tt)

  pub live_in : (d : Table) (g : Gxid) (x : Option Gxid) → TableIn n d → TableIn n (with_live d g x)
  live_in d g x e = with_txn_in d.txns g (λ t. record t { live = x }) (find_txn d g) (λ t k. record { participants = k.participants; phase = k.phase }) e (found_in (is_at (gxid_cmp g)) d.txns e)

  pub enlisted_in : (d : Table) (g : Gxid) (i : Node) → IsOneOf n i → TableIn n d → TableIn n (enlisted d g i)
  enlisted_in d g i h e =
      with_txn_in d.txns g (λ t. record t { participants = with_node i t.participants }) (find_txn d g) (λ t k. record { participants = with_in i t.participants h k.participants; phase = k.phase }) e (found_in (is_at (gxid_cmp g)) d.txns e)

  commit_found_in : (g : Gxid) (writers : List Node) (t : Option Txn) → AreIn n writers → FoundIn t → ChangeIn (commit_found g writers t)
  commit_found_in g writers None w e = stays_in
  commit_found_in g writers (Some t) w e = commits_in g writers t w e

  pub on_commit_in : (d : Table) (g : Gxid) (writers : List Node) → AreIn n writers → TableIn n d → TurnIn (on_commit d g writers)
  on_commit_in d g writers w e = turns_in d g _ e (commit_found_in g writers (find_txn d g) w (found_in (is_at (gxid_cmp g)) d.txns e))

  abort_found_in : (g : Gxid) (t : Option Txn) → FoundIn t → ChangeIn (abort_found g t)
  abort_found_in g None e = stays_in
  abort_found_in g (Some t) e = aborts_in g t.participants e.participants

  pub on_abort_in : (d : Table) (g : Gxid) → TableIn n d → TurnIn (on_abort d g)
  on_abort_in d g e = turns_in d g _ e (abort_found_in g (find_txn d g) (found_in (is_at (gxid_cmp g)) d.txns e))

  reply_found_in : (g : Gxid) (i : Node) (r : Reply) (refused : Bool) (t : Option Txn) → FoundIn t → ChangeIn (reply_found g i r refused t)
  reply_found_in g i r refused None e = stays_in
  reply_found_in g i r refused (Some t) e = at (is_awaited t.phase i r)
    where
      at : (b : Bool) → ChangeIn (if b then takes g t.participants i refused t.phase r else stays)
      at true = takes_in g t.participants i refused t.phase r e.participants e.phase
      at false = stays_in

  pub on_reply_in : (d : Table) (g : Gxid) (i : Node) (r : Reply) (refused : Bool) → TableIn n d → TurnIn (on_reply d g i r refused)
  on_reply_in d g i r refused e = turns_in d g _ e (reply_found_in g i r refused (find_txn d g) (found_in (is_at (gxid_cmp g)) d.txns e))

  -- whoever is awaited is a segment
  pub has_in : (i : Node) (nodes : List Node) → AreIn n nodes → has i nodes ≡ true → IsOneOf n i
  has_in i [] e h = grind arith
  has_in i (j ∷ is) e h = grind (arith, nat_tests, has_in i is)
