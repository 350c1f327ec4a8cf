-- An open is an event of a history, and its decider knows the disk afterwards.
use Rattle.std.proofs.Common.{◌≡◌, ◌≢◌, inl, inr, ⊎_elim, ℕ, ◌+◌, ◌-◌, ◌*◌, ◌<◌, ◌≤◌, List, [], refl, sym, ap, ◌∙◌, subst, arith, cond, eqb, true, false, Bool, not, ◌&&◌}
use Rattle.std.specs.Prelude.{nat_lt}
use Rattle.std.proofs.lemmas.Bool.{cases_lt}
use Rattle.std.proofs.lemmas.Bool.Decides.{nat_tests}
use Rattle.gx_decide.specs.declared.decide_fault.DecideFault.{DecideFault}
use Rattle.gx_decide.specs.declared.decide_fault.DecideFault.TheVariants.{Disk, Full, NotLog, OutOfMemory}
use Rattle.gx_decide.specs.Disk.{DiskState, Stayed, Synced}
use Rattle.gx_decide.specs.Log.{IsEnd, IsFirstBad, IsGood, gate_at, pairs_before, slots_of, verdict_in}
use Rattle.gx_decide.specs.Calls.{AreMade, AreMadePartly, Call, opening, shutting}
use Rattle.gx_decide.specs.Deciding.{IsBadBehind, IsBadFront, IsBehindRefused, IsFront, IsFrontRefused}
use Rattle.gx_decide.specs.History.{Event, GoesOn, Led, OpenBroken, Opened}
use Rattle.gx_decide.specs.Kept.{IsOpenRefused, IsStrange, Kept, Knows, verdict_by}
use Rattle.gx_decide.proofs.Images.{IsSound-same, end-once, ends, pairs_before-same}
use Rattle.gx_decide.proofs.Verdicts.{durable, goes-on, is-end-same}

-- an open that wasn't answered
abbrev pub IsBroken : DiskState → DiskState → Type 0
IsBroken old new = (end : ℕ) × IsEnd (slots_of old.size) old.seen end × AreMadePartly (opening (slots_of old.size) old.seen end) old new

pub broken-goes-on : (old new : DiskState) → IsBroken old new → (events : List Event) (ready : Bool) → Led events old ready → GoesOn OpenBroken events new false
broken-goes-on old new broken events ready led = goes-on OpenBroken events old new ready false led (refl, broken.0, broken.1, broken.2)

-- the log of a history has no slot that is bad
pub never-bad : (old : DiskState) (bad : ℕ) → IsFirstBad (slots_of old.size) old.seen bad → IsStrange old
never-bad old bad is events ready led =
    let left : DiskState = record { size = old.size; seen = old.seen; pending = λ place. false } in
    let log = durable events old ready led left (record { size = refl; seen = λ place quiet. refl; durable = λ place. refl }) in
    is.is (subst (λ (end : ℕ). IsGood old.seen end bad) (end-once (slots_of old.size) old.seen _ is.end log.end is.is_end) (log.log bad is.inside))

still : (test : Bool) (end : ℕ) (disk : DiskState) → AreMadePartly (cond test (shutting end) []) disk disk
still true end disk = inl (record { size = refl; seen = λ place out. refl; pending = λ place out quiet. quiet })
still false end disk = refl

pub broken-sync : (old new : DiskState) → Stayed old new → IsBroken old new
broken-sync old new stayed =
    let e = ends (slots_of old.size) (slots_of old.size) 0 old.seen (omega arith) (λ slot below. absurd (omega (arith, below))) in
    (e.end, e.is, inl stayed)

module _ (old mid : DiskState) (synced : Synced old mid) where
  pub broken-read : (new : DiskState) → new ≡ mid → IsBroken old new
  broken-read new same =
      let e = ends (slots_of old.size) (slots_of old.size) 0 old.seen (omega arith) (λ slot below. absurd (omega (arith, below))) in (
        e.end,
        e.is,
        inr (
          mid,
          synced,
          subst (λ (d : DiskState). AreMadePartly (cond (nat_lt e.end (slots_of old.size) && not (eqb (gate_at old.seen e.end) 0)) (shutting e.end) []) mid d) (sym same)
              (still (nat_lt e.end (slots_of old.size) && not (eqb (gate_at old.seen e.end) 0)) e.end mid),
        ),
      )

  back : (place : ℕ) → old.seen place ≡ mid.seen place
  back place = sym (synced.seen place)

  module _ (slots : ℕ) (is_slots : slots ≡ slots_of old.size) where
    end-old : (end : ℕ) → IsEnd slots mid.seen end → IsEnd (slots_of old.size) old.seen end
    end-old end is = subst (λ (n : ℕ). IsEnd n old.seen end) is_slots (is-end-same slots end mid.seen old.seen back is)

    bad-front : (bad : ℕ) → IsBadFront slots mid.seen bad → IsFirstBad (slots_of old.size) old.seen bad
    bad-front bad is =
        let e = ends (slots - (bad + 1)) slots (bad + 1) mid.seen (omega (arith, is.inside)) is.gates in
        record {
          end = e.end;
          is_end = end-old e.end e.is;
          inside = omega (arith, is.inside, is_slots);
          is = λ good. is.is (IsSound-same old.seen mid.seen bad (λ place below. synced.seen place) (good.before (omega (arith, e.behind))));
          first = λ slot below. record {
            before = λ inside. IsSound-same mid.seen old.seen slot (λ place within. back place) (is.sound slot below);
            behind = λ past. absurd (omega (arith, past, below, e.behind));
          };
        }

    module _ (end shown : ℕ) (front : IsFront slots mid.seen end shown) where
      pub end-front : IsEnd (slots_of old.size) old.seen end
      end-front = end-old end front.is_end

      bad-behind : (bad : ℕ) → IsBadBehind slots mid.seen end bad → IsFirstBad (slots_of old.size) old.seen bad
      bad-behind bad is = record {
        end = end;
        is_end = end-front;
        inside = omega (arith, is.inside, is_slots);
        is = λ good. good.behind is.behind (back (16 * bad + 9) ∙ is.is);
        first = λ slot below. record {
          before = λ inside. IsSound-same mid.seen old.seen slot (λ place within. back place) (front.sound slot inside);
          behind = λ past gate. is.first slot past below (synced.seen (16 * slot + 9) ∙ gate);
        };
      }

      test-is : (nat_lt end (slots_of old.size) && not (eqb (gate_at old.seen end) 0)) ≡ not (eqb shown 0)
      test-is = ⊎_elim
          (λ (inside : end < slots).
          let gate : gate_at old.seen end ≡ shown = back (16 * end + 9) ∙ sym (front.gate inside) in
          let within : nat_lt end (slots_of old.size) ≡ true = grind (arith, nat_tests, inside, is_slots) in
          (λ i. within i && not (eqb (gate i) 0)))
          (λ (most : slots ≤ end).
          let shut : shown ≡ 0 = front.none most in
          let past : nat_lt end (slots_of old.size) ≡ false = grind (arith, nat_tests, most, is_slots) in
          (λ i. past i && not (eqb (gate_at old.seen end) 0)) ∙ sym (ap (λ (n : ℕ). not (eqb n 0)) shut))
          (cases_lt end slots)

      calls-are : (test : Bool) → cond (not test) (shutting end) [] ≡ cond test [] (shutting end)
      calls-are true = refl
      calls-are false = refl

      calls : cond (eqb shown 0) [] (shutting end) ≡ cond (nat_lt end (slots_of old.size) && not (eqb (gate_at old.seen end) 0)) (shutting end) []
      calls = sym (ap (λ (b : Bool). cond b (shutting end) []) test-is ∙ calls-are (eqb shown 0))

      pub made-open : (new : DiskState) → AreMade (cond (eqb shown 0) [] (shutting end)) mid new → AreMade (opening (slots_of old.size) old.seen end) old new
      made-open new made = (mid, synced, subst (λ (cs : List Call). AreMade cs mid new) calls made)

      pub broken-shut : (new : DiskState) → AreMadePartly (cond (eqb shown 0) [] (shutting end)) mid new → IsBroken old new
      broken-shut new made = (end, end-front, inr (mid, synced, subst (λ (cs : List Call). AreMadePartly cs mid new) calls made))

      pub opened-goes-on : (new : DiskState) → AreMade (cond (eqb shown 0) [] (shutting end)) mid new → (events : List Event) (ready : Bool) → Led events old ready → GoesOn Opened events new true
      opened-goes-on new made events ready led = goes-on Opened events old new ready true led (refl, end, end-front, made-open new made)

      -- what the call leaves but the gate at the end
      record Leaves (new : DiskState) : Type 0 where
        pub size : new.size ≡ mid.size
        pub elsewhere : (place : ℕ) → place ≢ 16 * end + 9 → new.seen place ≡ mid.seen place
        pub shut : end < slots → gate_at new.seen end ≢ 1
        pub durable : (place : ℕ) → new.pending place ≡ false

      leaves : (test : Bool) → test ≡ eqb shown 0 → (new : DiskState) → AreMade (cond test [] (shutting end)) mid new → Leaves new
      leaves true is new same = subst Leaves (sym same) (record { size = refl; elsewhere = λ place other. refl; shut = front.is_end.shut; durable = synced.durable })
      leaves false is new (two, written, (three, last, same)) = subst Leaves (sym same) (record {
        size = last.size ∙ written.range.size;
        elsewhere = λ place other. last.seen place ∙ written.range.seen place (⊎_elim (λ (below : place < 16 * end + 9). inl below) (λ (most : 16 * end + 9 ≤ place). inr (omega (arith, most, other))) (cases_lt place (16 * end + 9)));
        shut = λ inside gate.
            let zero_ : gate_at three.seen end ≡ 0 = last.seen (16 * end + 9) ∙ ap two.seen (omega arith) ∙ written.there 0 (omega arith) in
            omega (arith, zero_, gate);
        durable = last.durable;
      })

      pub knows-open : (decider : Kept) (new : DiskState) → decider.slots ≡ slots → decider.used ≡ end → ((slot : ℕ) → end < slot → slot < slots → gate_at mid.seen slot ≢ 1)
          → ((gxid : ℕ) → verdict_by decider gxid ≡ verdict_in (pairs_before mid.seen end) gxid) → AreMade (cond (eqb shown 0) [] (shutting end)) mid new → Knows decider new
      knows-open decider new is used behind verdicts made =
          let l = leaves (eqb shown 0) refl new made in
          record {
            slots = is ∙ is_slots ∙ ap slots_of (sym synced.size ∙ sym l.size);
            end = record {
              within = omega (arith, is, used, front.is_end.within);
              gates = λ slot below. l.elsewhere (16 * slot + 9) (λ e. omega (arith, e, below, used)) ∙ front.is_end.gates slot (omega (arith, below, used));
              shut = λ inside gate. l.shut (omega (arith, inside, is, used)) (ap (gate_at new.seen) (sym used) ∙ gate);
            };
            behind = λ slot past inside gate.
                behind slot (omega (arith, past, used)) (omega (arith, inside, is)) (sym (l.elsewhere (16 * slot + 9) (λ e. omega (arith, e, past, used))) ∙ gate);
            verdicts = λ gxid.
                verdicts gxid ∙ ap (λ ps. verdict_in ps gxid) (sym (ap (pairs_before new.seen) used ∙ pairs_before-same mid.seen new.seen end (λ place below. l.elsewhere place (λ e. omega (arith, e, below)))));
            durable = l.durable;
          }

      pub refused-behind : (new : DiskState) (before between now : ℕ) (fault : DecideFault) → new ≡ mid → before ≤ between → IsBehindRefused slots mid.seen end between now fault → IsOpenRefused old new before now fault
      refused-behind new before between now Disk same later rose = omega (arith, later, rose)
      refused-behind new before between now (Full most) same later none = none
      refused-behind new before between now (NotLog bad) same later is =
          let first = bad-behind bad is in
          (first, subst (Synced old) (sym same) synced, never-bad old bad first)
      refused-behind new before between now OutOfMemory same later none = absurd none

    pub refused-front : (new : DiskState) (before between now : ℕ) (fault : DecideFault) → new ≡ mid → before ≤ between → IsFrontRefused slots mid.seen between now fault → IsOpenRefused old new before now fault
    refused-front new before between now Disk same later rose = omega (arith, later, rose)
    refused-front new before between now (Full most) same later none = none
    refused-front new before between now (NotLog bad) same later is =
        let first = bad-front bad is in
        (first, subst (Synced old) (sym same) synced, never-bad old bad first)
    refused-front new before between now OutOfMemory same later free = subst (Synced old) (sym same) synced
