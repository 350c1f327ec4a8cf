-- Every list of opens, settles and stops leaves the log of its events.
use Rattle.std.proofs.Common.{◌≡◌, inl, inr, ⊎_elim, ℕ, ◌+◌, ◌*◌, ◌<◌, ◌^◌, List, [], ◌∷◌, ◌++◌, length, refl, sym, ap, ◌∙◌, subst, arith, cond, eqb, true, false, Bool, not, ◌&&◌}
use Rattle.std.specs.Prelude.{Option, None, Some, nat_lt, ⊤}
use Rattle.std.proofs.lemmas.Bool.{cases_eq}
use Rattle.gx_decide.specs.declared.decision.Decision.{Decision}
use Rattle.gx_decide.specs.Disk.{DiskState, Image, StopLeaves, Synced}
use Rattle.gx_decide.specs.Log.{IsEnd, IsLog, Pair, gate_at, pairs_before, verdict_in, slots_of}
use Rattle.gx_decide.specs.Calls.{AreMade, AreMadePartly, Write, Sync, opening, settling, shutting}
use Rattle.gx_decide.specs.History.{AreAnswersEqual, AreOf, DoesBreak, DoesSettle, Event, GoesOn, Happens, IsBlank, IsDurable, IsLogOf, Led, OpenBroken, Opened, SettleBroken, Settled, Stopped, WasAnswered, with_pair}
use Rattle.gx_decide.proofs.Images.{IsImageOf, end-once}
use Rattle.gx_decide.proofs.Pairs.{good-all, opened, shut-end, verdict_in-kept, verdict_in-new}
use Rattle.gx_decide.proofs.Steps.{IsQuiet, Reaches, gate-opened, gate-torn, pair-torn, pair-written, shut-made, shut-partly, stayed-left, stayed-reaches, stays, stopped-left, synced-left, synced-reaches, touched-reaches, whole-left}

-- the pair at the end, where there is one, is of a settle that wasn't answered
abbrev IsLast : List Event → List Pair → Option Pair → Type 0
IsLast events pairs None = ⊤
IsLast events pairs (Some pair) = AreOf events (pairs ++ pair ∷ [])

abbrev AllAnswered : List Event → List Pair → Type 0
AllAnswered events pairs = (gxid : ℕ) (answer : Decision) → WasAnswered events gxid answer → verdict_in pairs gxid ≡ Some answer

-- what is known of the disk after events
record Stands (slots : ℕ) (events : List Event) (disk : DiskState) (ready : Bool) : Type 0 where
  pub sized : slots_of disk.size ≡ slots
  pub pairs : List Pair
  pub last : Option Pair
  pub images : (left : DiskState) → StopLeaves disk left → IsImageOf slots pairs last left.seen
  pub are : AreOf events pairs
  pub maybe : IsLast events pairs last
  pub answered : AllAnswered events pairs
  pub settled : ready ≡ true → (last ≡ None) × IsQuiet disk

-- a log whose gate at the end is known
record Ended (slots : ℕ) (events : List Event) (image : Image) : Type 0 where
  pub pairs : List Pair
  pub last : Option Pair
  pub is : IsImageOf slots pairs last image
  pub end : IsEnd slots image (length pairs)
  pub are : AreOf events pairs
  pub maybe : IsLast events pairs last
  pub answered : AllAnswered events pairs

ended : (slots : ℕ) (events : List Event) (pairs : List Pair) (last : Option Pair) (image : Image) → IsImageOf slots pairs last image → AreOf events pairs → IsLast events pairs last → AllAnswered events pairs → Ended slots events image
ended slots events pairs None image is are maybe answered = record {
  pairs = pairs;
  last = None;
  is = is;
  are = are;
  maybe = maybe;
  answered = answered;
  end = shut-end slots pairs None image is (λ inside gate. omega (arith, is.front inside, gate));
}
ended slots events pairs (Some pair) image is are maybe answered = elim (cases_eq (gate_at image (length pairs)) 1) [
  | inl gate ↦
      let more = opened slots pairs pair image is gate in
      record {
        pairs = pairs ++ pair ∷ [];
        last = None;
        is = more;
        are = maybe;
        maybe = tt;
        answered = λ gxid answer was. verdict_in-kept pairs (pair ∷ []) gxid answer (answered gxid answer was);
        end = shut-end slots (pairs ++ pair ∷ []) None image more (λ inside gate'. omega (arith, more.front inside, gate'));
      }
  | inr shut ↦ record {
    pairs = pairs;
    last = Some pair;
    is = is;
    are = are;
    maybe = maybe;
    answered = answered;
    end = shut-end slots pairs (Some pair) image is (λ inside. shut);
  }
]

log-of : (slots : ℕ) (events : List Event) (disk : DiskState) → slots_of disk.size ≡ slots → Ended slots events disk.seen → IsLogOf events disk
log-of slots events disk sized e = record {
  pairs = e.pairs;
  end = subst (λ (n : ℕ). IsEnd n disk.seen (length e.pairs)) (sym sized) e.end;
  log = subst (λ (n : ℕ). IsLog n disk.seen (length e.pairs)) (sym sized) (good-all slots e.pairs e.last disk.seen e.is);
  stand = e.is.stand;
  are = e.are;
  answered = e.answered;
}

zeros : (disk : DiskState) (ready : Bool) → IsBlank disk → ready ≡ false → Stands (slots_of disk.size) [] disk ready
zeros disk ready blank off = record {
  sized = refl;
  pairs = [];
  last = None;
  images = λ left l.
      let zero_at : (slot k : ℕ) → slot < slots_of disk.size → k < 16 → left.seen (16 * slot + k) ≡ 0 = λ slot k inside within.
      let below : 16 * slot + k < disk.size = omega (arith, inside, within) in
      l.seen (16 * slot + k) (blank.durable (16 * slot + k) below) ∙ blank.zeros (16 * slot + k) below in
      record {
        few = omega arith;
        stand = refl;
        gates = λ slot below. absurd (omega (arith, below));
        sound = λ slot below. absurd (omega (arith, below));
        front = λ inside. zero_at 0 9 inside (omega arith);
        behind = λ slot behind inside. zero_at slot 9 inside (omega arith);
        blank = λ slot behind inside. (
          zero_at slot 10 inside (omega arith),
          zero_at slot 11 inside (omega arith),
          zero_at slot 12 inside (omega arith),
          zero_at slot 13 inside (omega arith),
          zero_at slot 14 inside (omega arith),
          zero_at slot 15 inside (omega arith),
        );
      };
  are = refl;
  maybe = tt;
  answered = λ gxid answer was. absurd was;
  settled = λ on. absurd (cc (sym off ∙ on));
}

pub is-end-same : (slots end : ℕ) (old new : Image) → ((place : ℕ) → new place ≡ old place) → IsEnd slots old end → IsEnd slots new end
is-end-same slots end old new same is = record {
  within = is.within;
  gates = λ slot below. same (16 * slot + 9) ∙ is.gates slot below;
  shut = λ inside gate. is.shut inside (sym (same (16 * end + 9)) ∙ gate);
}

module _ (slots : ℕ) (events : List Event) (old : DiskState) (was : Bool) (s : Stands slots events old was) where
  -- what a sync finds
  found : (mid : DiskState) → Synced old mid → Ended slots events mid.seen
  found mid synced = ended slots events s.pairs s.last mid.seen (s.images mid (synced-left old mid synced)) s.are s.maybe s.answered

  test-same : (end : ℕ) (mid : DiskState) → Synced old mid → (k : ℕ) → end ≡ k → (nat_lt end slots && not (eqb (gate_at old.seen end) 0)) ≡ (nat_lt k slots && not (eqb (gate_at mid.seen k) 0))
  test-same end mid synced k e =
      (λ i. nat_lt (e i) slots && not (eqb (gate_at old.seen (e i)) 0)) ∙ ap (λ (b : ℕ). nat_lt k slots && not (eqb b 0)) (sym (synced.seen (16 * k + 9)))

  module _ (end : ℕ) (is_end : IsEnd slots old.seen end) (mid : DiskState) (synced : Synced old mid) where
    abbrev e : Ended slots events mid.seen
    e = found mid synced

    same_end : end ≡ length e.pairs
    same_end = end-once slots mid.seen end (length e.pairs) (is-end-same slots end old.seen mid.seen synced.seen is_end) e.end

    abbrev test : Bool
    test = nat_lt end slots && not (eqb (gate_at old.seen end) 0)

    after-open : (new : DiskState) → AreMade (cond test (shutting end) []) mid new → Stands slots (Opened ∷ events) new true
    after-open new made =
        let made' : AreMade (cond test (shutting (length e.pairs)) []) mid new = subst (λ (n : ℕ). AreMade (cond test (shutting n) []) mid new) same_end made in
        let done = shut-made slots e.pairs e.last mid new test (test-same end mid synced (length e.pairs) same_end) e.is synced.durable made' in
        record {
          sized = ap slots_of (done.0 ∙ synced.size) ∙ s.sized;
          pairs = e.pairs;
          last = None;
          images = λ left l. whole-left slots e.pairs None new left done.1 done.2 l;
          are = e.are;
          maybe = tt;
          answered = e.answered;
          settled = λ on. (refl, done.2);
        }

    after-part : (new : DiskState) → AreMadePartly (cond test (shutting end) []) mid new → Stands slots (OpenBroken ∷ events) new false
    after-part new made =
        let made' : AreMadePartly (cond test (shutting (length e.pairs)) []) mid new = subst (λ (n : ℕ). AreMadePartly (cond test (shutting n) []) mid new) same_end made in
        let part = λ (left : DiskState). shut-partly slots e.pairs e.last mid new left test (test-same end mid synced (length e.pairs) same_end) e.is synced.durable made' in
        record {
          sized = ap slots_of ((part new).0 ∙ synced.size) ∙ s.sized;
          pairs = e.pairs;
          last = e.last;
          images = λ left l. (part left).1 l;
          are = e.are;
          maybe = is-last e.last e.maybe;
          answered = e.answered;
          settled = λ on. absurd (cc on);
        }
      where
        is-last : (last : Option Pair) → IsLast events e.pairs last → IsLast (OpenBroken ∷ events) e.pairs last
        is-last None m = tt
        is-last (Some pair) m = m

  stood : (new : DiskState) → ((left : DiskState) → StopLeaves new left → StopLeaves old left) → new.size ≡ old.size → (event : Event)
      → AreOf (event ∷ events) s.pairs → IsLast (event ∷ events) s.pairs s.last → AllAnswered (event ∷ events) s.pairs → Stands slots (event ∷ events) new false
  stood new left-by same event are maybe answered = record {
    sized = ap slots_of same ∙ s.sized;
    pairs = s.pairs;
    last = s.last;
    images = λ left l. s.images left (left-by left l);
    are = are;
    maybe = maybe;
    answered = answered;
    settled = λ on. absurd (cc on);
  }

  open-broken : (new : DiskState) (end : ℕ) → IsEnd slots old.seen end → AreMadePartly (opening slots old.seen end) old new → Stands slots (OpenBroken ∷ events) new false
  open-broken new end is_end (inl stayed) = stood new (λ left. stayed-left old new left stayed) stayed.size OpenBroken s.are (is-last s.last s.maybe) s.answered
    where
      is-last : (last : Option Pair) → IsLast events s.pairs last → IsLast (OpenBroken ∷ events) s.pairs last
      is-last None m = tt
      is-last (Some pair) m = m
  open-broken new end is_end (inr (mid, synced, made)) = after-part end is_end mid synced new made

  stopped : (new : DiskState) → StopLeaves old new → Stands slots (Stopped ∷ events) new false
  stopped new l = stood new (λ left. stopped-left old new left l) l.size Stopped s.are (is-last s.last s.maybe) s.answered
    where
      is-last : (last : Option Pair) → IsLast events s.pairs last → IsLast (Stopped ∷ events) s.pairs last
      is-last None m = tt
      is-last (Some pair) m = m

  module _ (on : was ≡ true) (gxid : ℕ) (drawn : 0 < gxid) (fits : gxid < 2 ^ 64) (end : ℕ) (is_end : IsEnd slots old.seen end) where
    quiet : IsQuiet old
    quiet = (s.settled on).1

    is : IsImageOf slots s.pairs None old.seen
    is = subst (λ (l : Option Pair). IsImageOf slots s.pairs l old.seen) (s.settled on).0 (s.images old (stays old quiet))

    last_slot : end ≡ length s.pairs
    last_slot = end-once slots old.seen end (length s.pairs) is_end (shut-end slots s.pairs None old.seen is (λ inside gate. omega (arith, is.front inside, gate)))

    verdict : verdict_in (pairs_before old.seen end) gxid ≡ verdict_in s.pairs gxid
    verdict = ap (λ (n : ℕ). verdict_in (pairs_before old.seen n) gxid) last_slot ∙ ap (λ (ps : List Pair). verdict_in ps gxid) is.stand

    settled-kept : (wish answer kept : Decision) (new : DiskState) → verdict_in s.pairs gxid ≡ Some kept → answer ≡ kept → new ≡ old → Stands slots (Settled gxid wish answer ∷ events) new true
    settled-kept wish answer kept new there told same = record {
      sized = ap (λ (d : DiskState). slots_of d.size) same ∙ s.sized;
      pairs = s.pairs;
      last = None;
      images = λ left l. whole-left slots s.pairs None old left is quiet (subst (λ (d : DiskState). StopLeaves d left) same l);
      are = (s.pairs, s.are, sym (ap (with_pair s.pairs gxid answer) there));
      maybe = tt;
      answered = λ g a. ⊎_elim (λ (here : (gxid ≡ g) × (answer ≡ a)). ap (verdict_in s.pairs) (sym here.0) ∙ there ∙ ap Some (sym told ∙ here.1)) (s.answered g a);
      settled = λ again. (refl, subst IsQuiet (sym same) quiet);
    }

    abbrev pair : Decision → Pair
    pair wish = record { gxid = gxid; decision = wish }

    abbrev more : Decision → List Pair
    more wish = s.pairs ++ pair wish ∷ []

    are-more : (wish : Decision) → verdict_in s.pairs gxid ≡ None → more wish ≡ with_pair s.pairs gxid wish (verdict_in s.pairs gxid)
    are-more wish none = sym (ap (with_pair s.pairs gxid wish) none)

    settled-new : (wish answer : Decision) (new : DiskState) → verdict_in s.pairs gxid ≡ None → answer ≡ wish → length s.pairs < slots → AreMade (settling (length s.pairs) gxid wish) old new → Stands slots (Settled gxid wish answer ∷ events) new true
    settled-new wish answer new none told room (one, written, (two, synced, (three, gate, (four, last, same)))) =
        let staged = pair-written slots s.pairs gxid wish old one two is room fits (λ e. omega (arith, e, drawn)) none written synced in
        let done = gate-opened slots s.pairs (pair wish) two three four staged gate last in
        record {
          sized = ap slots_of (ap (λ (d : DiskState). d.size) same ∙ last.size ∙ gate.range.size ∙ synced.size ∙ written.range.size) ∙ s.sized;
          pairs = more wish;
          last = None;
          images = λ left l. whole-left slots (more wish) None four left done last.durable (subst (λ (d : DiskState). StopLeaves d left) same l);
          are = (s.pairs, s.are, are-more wish none ∙ ap (λ (d : Decision). with_pair s.pairs gxid d (verdict_in s.pairs gxid)) (sym told));
          maybe = tt;
          answered = λ g a. ⊎_elim
              (λ (here : (gxid ≡ g) × (answer ≡ a)). ap (verdict_in (more wish)) (sym here.0) ∙ verdict_in-new s.pairs (pair wish) none ∙ ap Some (sym told ∙ here.1))
              (λ (earlier : WasAnswered events g a). verdict_in-kept s.pairs (pair wish ∷ []) g a (s.answered g a earlier));
          settled = λ again. (refl, subst IsQuiet (sym same) last.durable);
        }

    -- the pair isn't there yet
    broken-before : (wish : Decision) (new : DiskState) → Reaches old.size (16 * length s.pairs) 9 old.seen new → Stands slots (SettleBroken gxid wish ∷ events) new false
    broken-before wish new r = record {
      sized = ap slots_of r.sized ∙ s.sized;
      pairs = s.pairs;
      last = None;
      images = λ left l. pair-torn slots s.pairs old.size old.seen new left is r l;
      are = inl s.are;
      maybe = tt;
      answered = s.answered;
      settled = λ again. absurd (cc again);
    }

    -- it is, and its gate may be open
    broken-behind : (wish : Decision) (mid new : DiskState) → verdict_in s.pairs gxid ≡ None → mid.size ≡ old.size → IsImageOf slots s.pairs (Some (pair wish)) mid.seen → Reaches mid.size (16 * length s.pairs + 9) 1 mid.seen new → Stands slots (SettleBroken gxid wish ∷ events) new false
    broken-behind wish mid new none same staged r = record {
      sized = ap slots_of (r.sized ∙ same) ∙ s.sized;
      pairs = s.pairs;
      last = Some (pair wish);
      images = λ left l. gate-torn slots s.pairs mid.size (pair wish) mid.seen new left staged r l;
      are = inl s.are;
      maybe = inr (s.pairs, s.are, are-more wish none);
      answered = s.answered;
      settled = λ again. absurd (cc again);
    }

    broken-same : (wish : Decision) (new : DiskState) → new ≡ old → Stands slots (SettleBroken gxid wish ∷ events) new false
    broken-same wish new same = record {
      sized = ap (λ (d : DiskState). slots_of d.size) same ∙ s.sized;
      pairs = s.pairs;
      last = None;
      images = λ left l. whole-left slots s.pairs None old left is quiet (subst (λ (d : DiskState). StopLeaves d left) same l);
      are = inl s.are;
      maybe = tt;
      answered = s.answered;
      settled = λ again. absurd (cc again);
    }

    broken : (wish : Decision) (new : DiskState) → verdict_in s.pairs gxid ≡ None → length s.pairs < slots → AreMadePartly (settling (length s.pairs) gxid wish) old new → Stands slots (SettleBroken gxid wish ∷ events) new false
    broken wish new none room (inl begun) = broken-before wish new (touched-reaches (16 * length s.pairs) 9 old new quiet begun)
    broken wish new none room (inr (one, written, inl stayed)) =
        broken-before wish new (stayed-reaches old.size (16 * length s.pairs) 9 old.seen one new (touched-reaches (16 * length s.pairs) 9 old one quiet written.range) stayed)
    broken wish new none room (inr (one, written, inr (two, synced, more'))) =
        let staged = pair-written slots s.pairs gxid wish old one two is room fits (λ e. omega (arith, e, drawn)) none written synced in
        broken-behind wish two new none (synced.size ∙ written.range.size) staged (reached more')
      where
        at : ℕ
        at = 16 * length s.pairs + 9

        reached : AreMadePartly (Write (16 * length s.pairs + 9) (1 ∷ []) ∷ Sync ∷ []) two new → Reaches two.size at 1 two.seen new
        reached (inl begun) = touched-reaches at 1 two new synced.durable begun
        reached (inr (three, gate, inl stayed)) = stayed-reaches two.size at 1 two.seen three new (touched-reaches at 1 two three synced.durable gate.range) stayed
        reached (inr (three, gate, inr (four, last, same))) =
            subst (Reaches two.size at 1 two.seen) (sym same) (synced-reaches two.size at 1 two.seen three four (touched-reaches at 1 two three synced.durable gate.range) last)

-- one event more
next : (slots : ℕ) (events : List Event) (event : Event) (old : DiskState) (was : Bool) (new : DiskState) (now : Bool) → Stands slots events old was → Happens event old was new now → Stands slots (event ∷ events) new now
next slots events Opened old was new now s (on, end, is_end, (mid, synced, made)) =
    let is_end' = subst (λ (n : ℕ). IsEnd n old.seen end) s.sized is_end in
    let made' = subst (λ (n : ℕ). AreMade (cond (nat_lt end n && not (eqb (gate_at old.seen end) 0)) (shutting end) []) mid new) s.sized made in
    subst (λ (b : Bool). Stands slots (Opened ∷ events) new b) (sym on) (after-open slots events old was s end is_end' mid synced new made')
next slots events OpenBroken old was new now s (off, end, is_end, made) =
    let is_end' = subst (λ (n : ℕ). IsEnd n old.seen end) s.sized is_end in
    let made' = subst (λ (n : ℕ). AreMadePartly (opening n old.seen end) old new) s.sized made in
    subst (λ (b : Bool). Stands slots (OpenBroken ∷ events) new b) (sym off) (open-broken slots events old was s new end is_end' made')
next slots events Stopped old was new now s (off, left) = subst (λ (b : Bool). Stands slots (Stopped ∷ events) new b) (sym off) (stopped slots events old was s new left)
next slots events (Settled gxid wish answer) old was new now s (on, again, drawn, fits, end, is_end, does) =
    let is_end' = subst (λ (n : ℕ). IsEnd n old.seen end) s.sized is_end in
    let does' = subst (λ (v : Option Decision). DoesSettle end gxid wish answer v old new) (verdict slots events old was s on gxid drawn fits end is_end') does in
    subst (λ (b : Bool). Stands slots (Settled gxid wish answer ∷ events) new b) (sym again) (by-verdict (verdict_in s.pairs gxid) refl is_end' does')
  where
    by-verdict : (v : Option Decision) → verdict_in s.pairs gxid ≡ v → IsEnd slots old.seen end → DoesSettle end gxid wish answer v old new → Stands slots (Settled gxid wish answer ∷ events) new true
    by-verdict (Some kept) there is_end' (told, same) = settled-kept slots events old was s on gxid drawn fits end is_end' wish answer kept new there told same
    by-verdict None there is_end' (told, room, made) =
        let at = last_slot slots events old was s on gxid drawn fits end is_end' in
        settled-new slots events old was s on gxid drawn fits end is_end' wish answer new there told (omega (arith, room, at, s.sized))
        (subst (λ (n : ℕ). AreMade (settling n gxid wish) old new) at made)
next slots events (SettleBroken gxid wish) old was new now s (on, off, drawn, fits, end, is_end, does) =
    let is_end' = subst (λ (n : ℕ). IsEnd n old.seen end) s.sized is_end in
    let does' = subst (λ (v : Option Decision). DoesBreak end gxid wish v old new) (verdict slots events old was s on gxid drawn fits end is_end') does in
    subst (λ (b : Bool). Stands slots (SettleBroken gxid wish ∷ events) new b) (sym off) (by-verdict (verdict_in s.pairs gxid) refl is_end' does')
  where
    by-verdict : (v : Option Decision) → verdict_in s.pairs gxid ≡ v → IsEnd slots old.seen end → DoesBreak end gxid wish v old new → Stands slots (SettleBroken gxid wish ∷ events) new false
    by-verdict (Some kept) there is_end' same = broken-same slots events old was s on gxid drawn fits end is_end' wish new same
    by-verdict None there is_end' (inl same) = broken-same slots events old was s on gxid drawn fits end is_end' wish new same
    by-verdict None there is_end' (inr (room, made)) =
        let at = last_slot slots events old was s on gxid drawn fits end is_end' in
        broken slots events old was s on gxid drawn fits end is_end' wish new there (omega (arith, room, at, s.sized))
        (subst (λ (n : ℕ). AreMadePartly (settling n gxid wish) old new) at made)

record Stood (events : List Event) (disk : DiskState) (ready : Bool) : Type 0 where
  pub slots : ℕ
  pub is : Stands slots events disk ready

stood-led : (events : List Event) (disk : DiskState) (ready : Bool) → Led events disk ready → Stood events disk ready
stood-led [] disk ready (blank, off) = record { slots = slots_of disk.size; is = zeros disk ready blank off }
stood-led (event ∷ events) disk ready (before, was, led, happens) =
    let s = stood-led events before was led in
    record { slots = s.slots; is = next s.slots events event before was disk ready s.is happens }

pub durable : (events : List Event) (disk : DiskState) (ready : Bool) → Led events disk ready → IsDurable events disk
durable events disk ready led left l =
    let s = stood-led events disk ready led in
    log-of s.slots events left (ap slots_of l.size ∙ s.is.sized) (ended s.slots events s.is.pairs s.is.last left.seen (s.is.images left l) s.is.are s.is.maybe s.is.answered)

pub equal : (events : List Event) (disk : DiskState) (ready : Bool) → Led events disk ready → AreAnswersEqual events
equal events disk ready led gxid one other a b =
    let s = stood-led events disk ready led in
    same (sym (s.is.answered gxid one a) ∙ s.is.answered gxid other b)
  where
    same : {a b : Decision} → Some a ≡ Some b → a ≡ b
    same e = cc (e)

-- an event more
pub goes-on : (event : Event) (events : List Event) (before new : DiskState) (was now : Bool) → Led events before was → Happens event before was new now → GoesOn event events new now
goes-on event events before new was now led happens =
    let all : Led (event ∷ events) new now = (before, was, led, happens) in
    record { led = all; durable = durable (event ∷ events) new now all; equal = equal (event ∷ events) new now all }
