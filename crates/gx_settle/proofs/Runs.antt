-- Running a command more.
use Rattle.std.proofs.Common.{◌≡◌, ℕ, ◌*◌, ◌<◌, ◌≤◌, ◌^◌, List, [], ◌∷◌, ◌++◌, Bool, true, false, refl, sym, ap, ◌∙◌, subst, arith, append_assoc, append-nil}
use Rattle.std.specs.Prelude.{Option, None, Result, Ok, Err, IfErr, OnErr}
use Rattle.gx_decide.specs.declared.decision.Decision.{Decision}
use Rattle.gx_decide.specs.declared.decide_fault.DecideFault.{DecideFault}
use Rattle.gx_decide.specs.declared.decide_fault.DecideFault.TheVariants.{Disk, Full, NotLog, OutOfMemory}
use Rattle.gx_decide.specs.Calls.{AreMade, AreMadePartly, opening}
use Rattle.gx_decide.specs.Disk.{DiskState, ReachesTo}
use Rattle.gx_decide.specs.History.{DoesBreak, DoesSettle, Event, Happens, Led, OpenBroken, Opened, SettleBroken, Settled, Stopped}
use Rattle.gx_decide.specs.Kept.{IsOpenRefused, IsSettleRefused, Kept, Knows, verdict_by}
use Rattle.gx_decide.specs.Log.{IsEnd, pairs_before, slots_of, verdict_in}
use Rattle.gx_decide.proofs.Verdicts.{durable, equal}
use Rattle.gx_ids.specs.declared.ids.Gxid.{Gxid}
use Rattle.gx_settle.specs.declared.command.Command.{Command}
use Rattle.gx_settle.specs.declared.command.Command.TheVariants.{Settle, Reopen}
use Rattle.gx_settle.specs.Running.{AreAnswered, AreAnsweredUpTo, IsCause, IsCut, IsFailed, IsLost, IsRun, IsStep, IsStepCut, IsStopped, Lasts, Went, all_asked, asked, text_of, told}

led-went : (events earlier : List Event) (old new : DiskState) (was now : Bool) → Led earlier old was → Went events old was new now → Led (events ++ earlier) new now
led-went [] earlier old new was now led went = subst (λ (d : DiskState). Led earlier d now) (sym went.0) (subst (λ (b : Bool). Led earlier old b) (sym went.1) led)
led-went (event ∷ events) earlier old new was now led went = (went.0, went.1, led-went events earlier old went.0 was went.1 led went.2, went.3)

lasts-went : (events earlier : List Event) (old new : DiskState) (was now : Bool) → Led earlier old was → Went events old was new now → Lasts (events ++ earlier) new now
lasts-went events earlier old new was now led went =
    let more = led-went events earlier old new was now led went in
    record { led = more; durable = durable (events ++ earlier) new now more; equal = equal (events ++ earlier) new now more }

-- a call on a disk of the same size asks for no byte behind the last slot either
pub reaches-next : (size mid before between now : ℕ) → mid ≡ size → ReachesTo (16 * slots_of size) before between → ReachesTo (16 * slots_of mid) between now → ReachesTo (16 * slots_of size) before now
reaches-next size mid before between now same first then_ =
    let equal : slots_of mid ≡ slots_of size = ap slots_of same in
    omega (arith, equal, first, then_)

-- commands in front of the rest were answered
pub record IsUnderWay (commands rest : List Command) (old new : DiskState) (text : List ℕ) : Type 0 where
  pub events : List Event
  pub parts : Reopen ∷ commands ≡ all_asked events ++ rest
  pub answered : AreAnswered events
  pub went : (was : Bool) → Went events old was new true
  pub told : text ≡ text_of events

answered-more : (event : Event) (events : List Event) → AreAnswered (event ∷ []) → AreAnswered events → AreAnswered (event ∷ events)
answered-more Opened events one all = all
answered-more (Settled gxid wish answer) events one all = all
answered-more OpenBroken events one all = one
answered-more (SettleBroken gxid wish) events one all = one
answered-more Stopped events one all = one

pub up-to : (event : Event) (events : List Event) (command : Command) → asked event ≡ command ∷ [] → AreAnswered events → AreAnsweredUpTo (event ∷ events)
up-to Opened events command asks all = all
up-to OpenBroken events command asks all = all
up-to (Settled gxid wish answer) events command asks all = all
up-to (SettleBroken gxid wish) events command asks all = all
up-to Stopped events command asks all = absurd (cc)

pub opened : (commands : List Command) (old new : DiskState) (text : List ℕ) (end : ℕ) → text ≡ [] → IsEnd (slots_of old.size) old.seen end → AreMade (opening (slots_of old.size) old.seen end) old new → IsUnderWay commands commands old new text
opened commands old new text end empty is made = record {
  events = Opened ∷ [];
  parts = refl;
  answered = tt;
  went = λ was. (old, was, (refl, refl), (refl, end, is, made));
  told = empty;
}

parts-more : (commands rest : List Command) (events : List Event) (event : Event) (command : Command) → Reopen ∷ commands ≡ all_asked events ++ command ∷ rest → asked event ≡ command ∷ [] → Reopen ∷ commands ≡ all_asked (event ∷ events) ++ rest
parts-more commands rest events event command parts is =
    parts ∙ sym (append_assoc (all_asked events) (command ∷ []) rest) ∙ ap (λ (t : List Command). (all_asked events ++ t) ++ rest) (sym is)

module _ (commands rest : List Command) (old mid : DiskState) (text : List ℕ) (command : Command) (left : List Command) (next : left ≡ command ∷ rest) (is : IsUnderWay commands left old mid text) where
  parts : Reopen ∷ commands ≡ all_asked is.events ++ command ∷ rest
  parts = is.parts ∙ ap (λ (t : List Command). all_asked is.events ++ t) next

  pub stepped : (new : DiskState) (shown : List ℕ) → IsStep command mid new text shown → IsUnderWay commands rest old new shown
  stepped new shown step = record {
    events = step.event ∷ is.events;
    parts = parts-more commands rest is.events step.event command parts step.asked;
    answered = answered-more step.event is.events step.answered is.answered;
    went = λ was. (mid, true, is.went was, step.happens);
    told = step.told ∙ ap (λ (t : List ℕ). t ++ told step.event) is.told;
  }

  module _ (new : DiskState) (shown : List ℕ) (first before now : ℕ) (later : first ≤ before) where
    cause : (fault : DecideFault) (event : Event) → IsCause fault mid mid new event before now → IsCause fault old mid new event first now
    cause Disk event rose = omega (arith, later, rose)
    cause (Full most) event full = full
    cause (NotLog bad) event found = record {
      is = found.is;
      first = found.first;
      synced = found.synced;
      strange = λ earlier ready led. found.strange (is.events ++ earlier) true (led-went is.events earlier old mid ready true led (is.went ready));
    }
    cause OutOfMemory event t = tt

    stopped : (fault : DecideFault) → IsFailed fault command mid new before now text shown → IsStopped fault commands old new first now shown
    stopped fault f = record {
      events = is.events;
      failed = f.event;
      command = command;
      asked = f.asked;
      rest = rest;
      mid = mid;
      parts = parts-more commands rest is.events f.event command parts f.asked;
      answered = is.answered;
      went = λ was. (true, is.went was, f.happens);
      lasts = λ earlier ready led. lasts-went (f.event ∷ is.events) earlier old new ready false led (mid, true, is.went ready, f.happens);
      cause = cause fault f.event f.cause;
      told = f.same ∙ is.told;
    }

    pub cut : (fault : DecideFault) → IsStepCut fault command mid new before now text shown → IsCut fault commands old new first now shown
    cut Disk f = stopped Disk f
    cut (Full most) f = stopped (Full most) f
    cut (NotLog bad) f = stopped (NotLog bad) f
    cut OutOfMemory lost = record {
      events = lost.event ∷ is.events;
      rest = rest;
      parts = parts-more commands rest is.events lost.event command parts lost.asked;
      answered = up-to lost.event is.events command lost.asked is.answered;
      went = λ was. (lost.now, (mid, true, is.went was, lost.happens));
      lasts = λ earlier ready led. (lost.now, lasts-went (lost.event ∷ is.events) earlier old new ready lost.now led (mid, true, is.went ready, lost.happens));
    }

pub run : (commands left : List Command) (old new : DiskState) (text : List ℕ) → left ≡ [] → IsUnderWay commands left old new text → (events : List Event) × IsRun commands old new events × (text ≡ text_of events)
run commands left old new text none is = (
  is.events,
  record {
    asked = sym (is.parts ∙ ap (λ (t : List Command). all_asked is.events ++ t) none ∙ append-nil (all_asked is.events));
    answered = is.answered;
    went = is.went;
    lasts = λ earlier ready led. lasts-went is.events earlier old new ready true led (is.went ready);
  },
  is.told,
)

module _ (old new : DiskState) (before now : ℕ) (end : ℕ) (is : IsEnd (slots_of old.size) old.seen end) (partly : AreMadePartly (opening (slots_of old.size) old.seen end) old new) where
  -- the open that the run begins with failed
  first-cause : (fault : DecideFault) → IsOpenRefused old new before now fault → IsCause fault old old new OpenBroken before now
  first-cause Disk rose = rose
  first-cause (Full most) never = absurd never
  first-cause (NotLog bad) found = record { is = refl; first = found.0; synced = found.1; strange = found.2 }
  first-cause OutOfMemory t = tt

  broken : (was : Bool) → Happens OpenBroken old was new false
  broken was = (refl, end, is, partly)

  first-stopped : (commands : List Command) (fault : DecideFault) (text : List ℕ) → text ≡ [] → IsOpenRefused old new before now fault → IsStopped fault commands old new before now text
  first-stopped commands fault text empty refused = record {
    events = [];
    failed = OpenBroken;
    command = Reopen;
    asked = refl;
    rest = commands;
    mid = old;
    parts = refl;
    answered = tt;
    went = λ was. (was, (refl, refl), broken was);
    lasts = λ earlier ready led. lasts-went (OpenBroken ∷ []) earlier old new ready false led (old, ready, (refl, refl), broken ready);
    cause = first-cause fault refused;
    told = empty;
  }

  pub first-cut : (commands : List Command) (fault : DecideFault) (text : List ℕ) → text ≡ [] → IsOpenRefused old new before now fault → IsCut fault commands old new before now text
  first-cut commands Disk text empty r = first-stopped commands Disk text empty r
  first-cut commands (Full most) text empty r = first-stopped commands (Full most) text empty r
  first-cut commands (NotLog bad) text empty r = first-stopped commands (NotLog bad) text empty r
  first-cut commands OutOfMemory text empty r = record {
    events = OpenBroken ∷ [];
    rest = commands;
    parts = refl;
    answered = tt;
    went = λ was. (false, (old, was, (refl, refl), broken was));
    lasts = λ earlier ready led. (false, lasts-went (OpenBroken ∷ []) earlier old new ready false led (old, ready, (refl, refl), broken ready));
  }

  reopen-failed : (fault : DecideFault) (text shown : List ℕ) → shown ≡ text → IsOpenRefused old new before now fault → IsFailed fault Reopen old new before now text shown
  reopen-failed fault text shown same refused = record { event = OpenBroken; asked = refl; happens = broken true; cause = first-cause fault refused; same = same }

  pub reopen-cut : (fault : DecideFault) (text shown : List ℕ) → shown ≡ text → IsOpenRefused old new before now fault → IsStepCut fault Reopen old new before now text shown
  reopen-cut Disk text shown same r = reopen-failed Disk text shown same r
  reopen-cut (Full most) text shown same r = reopen-failed (Full most) text shown same r
  reopen-cut (NotLog bad) text shown same r = reopen-failed (NotLog bad) text shown same r
  reopen-cut OutOfMemory text shown same r = record { event = OpenBroken; now = false; asked = refl; happens = broken true }

pub reopen-cut-all : (command : Command) → command ≡ Reopen → (old new : DiskState) (before now : ℕ) (text shown : List ℕ) → shown ≡ text → (result : Result Kept DecideFault)
    → OnErr result ((end : ℕ) × IsEnd (slots_of old.size) old.seen end × AreMadePartly (opening (slots_of old.size) old.seen end) old new)
    → IfErr result (IsOpenRefused old new before now) → IfErr result (λ fault. IsStepCut fault command old new before now text shown)
reopen-cut-all command is old new before now text shown same (Ok decider) broken refused = tt
reopen-cut-all command is old new before now text shown same (Err fault) broken refused =
    subst (λ (c : Command). IsStepCut fault c old new before now text shown) (sym is) (reopen-cut old new before now broken.0 broken.1 broken.2 fault text shown same refused)

pub reopened : (old new : DiskState) (end : ℕ) (text shown : List ℕ) → shown ≡ text → IsEnd (slots_of old.size) old.seen end → AreMade (opening (slots_of old.size) old.seen end) old new → IsStep Reopen old new text shown
reopened old new end text shown same is made = record {
  event = Opened;
  asked = refl;
  answered = tt;
  happens = (refl, end, is, made);
  told = same ∙ sym (append-nil text);
}

module _ (decider : Kept) (old new : DiskState) (gxid : Gxid) (wish : Decision) (know : Knows decider old) (drawn : 0 < gxid.0) (fits : gxid.0 < 2 ^ 64) where
  end_there : IsEnd (slots_of old.size) old.seen decider.used
  end_there = subst (λ (n : ℕ). IsEnd n old.seen decider.used) know.slots know.end

  settles : (answer : Decision) → DoesSettle decider.used gxid.0 wish answer (verdict_by decider gxid.0) old new → Happens (Settled gxid.0 wish answer) old true new true
  settles answer does = (refl, refl, drawn, fits, decider.used, end_there, subst (λ (v : Option Decision). DoesSettle decider.used gxid.0 wish answer v old new) (know.verdicts gxid.0) does)

  breaks : DoesBreak decider.used gxid.0 wish (verdict_by decider gxid.0) old new → Happens (SettleBroken gxid.0 wish) old true new false
  breaks does = (refl, refl, drawn, fits, decider.used, end_there, subst (λ (v : Option Decision). DoesBreak decider.used gxid.0 wish v old new) (know.verdicts gxid.0) does)

  pub settled : (answer : Decision) (text shown : List ℕ) → DoesSettle decider.used gxid.0 wish answer (verdict_by decider gxid.0) old new → shown ≡ text ++ told (Settled gxid.0 wish answer) → IsStep (Settle gxid wish) old new text shown
  settled answer text shown does tells = record { event = Settled gxid.0 wish answer; asked = refl; answered = tt; happens = settles answer does; told = tells }

  pub settled-lost : (answer : Decision) → DoesSettle decider.used gxid.0 wish answer (verdict_by decider gxid.0) old new → IsLost (Settle gxid wish) old new
  settled-lost answer does = record { event = Settled gxid.0 wish answer; now = true; asked = refl; happens = settles answer does }

  module _ (before now : ℕ) (text shown : List ℕ) (same : shown ≡ text) (does : DoesBreak decider.used gxid.0 wish (verdict_by decider gxid.0) old new) where
    settle-cause : (fault : DecideFault) → IsSettleRefused decider gxid.0 old new before now fault → IsCause fault old old new (SettleBroken gxid.0 wish) before now
    settle-cause Disk rose = rose
    settle-cause (Full most) full =
        let slots : decider.slots ≡ most = sym full.0.most in
        record {
          gxid = gxid.0;
          wish = wish;
          is = refl;
          slots = sym know.slots ∙ slots;
          end = subst (λ (n : ℕ). IsEnd n old.seen n) slots (subst (λ (n : ℕ). IsEnd decider.slots old.seen n) full.0.used know.end);
          none = subst (λ (n : ℕ). verdict_in (pairs_before old.seen n) gxid.0 ≡ None) (full.0.used ∙ slots) (sym (know.verdicts gxid.0) ∙ full.0.none);
          same = full.1;
        }
    settle-cause (NotLog bad) never = absurd never
    settle-cause OutOfMemory t = tt

    settle-failed : (fault : DecideFault) → IsSettleRefused decider gxid.0 old new before now fault → IsFailed fault (Settle gxid wish) old new before now text shown
    settle-failed fault refused = record { event = SettleBroken gxid.0 wish; asked = refl; happens = breaks does; cause = settle-cause fault refused; same = same }

    pub settle-cut : (fault : DecideFault) → IsSettleRefused decider gxid.0 old new before now fault → IsStepCut fault (Settle gxid wish) old new before now text shown
    settle-cut Disk r = settle-failed Disk r
    settle-cut (Full most) r = settle-failed (Full most) r
    settle-cut (NotLog bad) r = settle-failed (NotLog bad) r
    settle-cut OutOfMemory r = record { event = SettleBroken gxid.0 wish; now = false; asked = refl; happens = breaks does }
