-- What a command that stops at a row meets among the locks.
use Rattle.std.proofs.Common.{◌≡◌, ℕ, Bool, true, false, eqb, if◌then◌else◌, not, ◌&&◌, ◌||◌, List, [], ◌∷◌, ◌++◌, Some, None, refl, ap, ◌∙◌, arith}
use Rattle.std.proofs.lemmas.Bool.Decides.{nat_tests}
use Rattle.std.proofs.lemmas.List.Folds.{list_any-append}
use Rattle.std.specs.List.{list_any}
use Rattle.gx_ids.specs.declared.ids.Gxid.{Gxid}
use Rattle.gx_ids.specs.declared.rid.Rid.{Rid}
use Rattle.gx_modes.specs.Table.{conflict, number_of}
use Rattle.gx_modes.specs.declared.modes.Mode.{Mode}
use Rattle.gx_modes.specs.declared.modes.Mode.TheVariants.{AccessShare, RowShare, RowExclusive, ShareUpdateExclusive, Share, ShareRowExclusive, Exclusive, AccessExclusive}
use Rattle.gx_waits.specs.Claim.{meets, same_claim, same_object}
use Rattle.gx_waits.specs.declared.claim.Claim.{Claim}
use Rattle.gx_waits.specs.declared.object.Object.TheVariants.{Transaction}
use Rattle.gx_waits.specs.Claims.{is_clear, is_free, is_of, with_claim}
use Rattle.gx_locks.specs.Locks.{Locks}
use Rattle.gx_node.specs.Locking.{asked_locks}
use Rattle.gx_store.specs.Marks.{is_same_gxid}
use Rattle.gx_rules.specs.Changes.{end_lock, tuple_lock}
use Rattle.gx_rules.specs.Slices.{own_lock}
use Rattle.gx_slices.specs.Changing.{awaited_in}
use Rattle.gx_slices.specs.Stopping.{has_row, holds_row, row_locks}
use Rattle.gx_slices.proofs.Lists.{and_parts}

-- WHO IS AWAITED HOLDS ITSELF
record IsAwaited (holds : List Claim) (g writer : Gxid) : Type 0 where
  pub other : is_same_gxid writer g ≡ false
  pub held_by : list_any (same_claim (own_lock writer)) holds ≡ true

awaited-holds : (holds : List Claim) (g writer : Gxid) → awaited_in holds g (Some writer) ≡ Some writer → IsAwaited holds g writer
awaited-holds holds g writer e = either (is_same_gxid writer g) refl (list_any (same_claim (own_lock writer)) holds) refl e
  where
    either : (a : Bool) → is_same_gxid writer g ≡ a → (b : Bool) → list_any (same_claim (own_lock writer)) holds ≡ b → (if a || not b then None else Some writer) ≡ Some writer → IsAwaited holds g writer
    either true p b q f = absurd (cc)
    either false p false q f = absurd (cc)
    either false p true q f = record { other = p; held_by = q }

-- so its end is no free lock
exclusive-meets : (m : Mode) → eqb (number_of Exclusive) (number_of m) ≡ true → conflict Share m ≡ true
exclusive-meets AccessShare e = absurd (cc)
exclusive-meets RowShare e = absurd (cc)
exclusive-meets RowExclusive e = absurd (cc)
exclusive-meets ShareUpdateExclusive e = absurd (cc)
exclusive-meets Share e = absurd (cc)
exclusive-meets ShareRowExclusive e = absurd (cc)
exclusive-meets Exclusive e = refl
exclusive-meets AccessExclusive e = absurd (cc)

other-number : (a b c : ℕ) → eqb a b ≡ false → eqb a c ≡ true → not (eqb b c) ≡ true
other-number a b c e f = grind (arith, nat_tests)

both-true : (a b c : Bool) → a ≡ true → b ≡ true → c ≡ true → (a && (b && c)) ≡ true
both-true true true true e f h = refl
both-true true true false e f h = h
both-true true false c e f h = f
both-true false b c e f h = e

module _ (g writer : Gxid) (other : is_same_gxid writer g ≡ false) where
  meets-one : (hold : Claim) → same_claim (own_lock writer) hold ≡ true → meets (end_lock g writer) hold ≡ true
  meets-one hold e =
      let parts = and_parts (eqb writer.0 hold.gxid.0) (same_object (Transaction writer) hold.object && eqb (number_of Exclusive) (number_of hold.mode)) e in
      let more = and_parts (same_object (Transaction writer) hold.object) (eqb (number_of Exclusive) (number_of hold.mode)) parts.1 in
      both-true _ _ _ (other-number writer.0 g.0 hold.gxid.0 other parts.0) more.0 (exclusive-meets hold.mode more.1)

  meets-some : (holds : List Claim) → list_any (same_claim (own_lock writer)) holds ≡ true → list_any (meets (end_lock g writer)) holds ≡ true
  meets-some [] e = e
  meets-some (hold ∷ holds) e = either (same_claim (own_lock writer) hold) (meets-one hold) (meets-some holds) e
    where
      either : (a : Bool) → (a ≡ true → meets (end_lock g writer) hold ≡ true) → (list_any (same_claim (own_lock writer)) holds ≡ true → list_any (meets (end_lock g writer)) holds ≡ true)
          → (a || list_any (same_claim (own_lock writer)) holds) ≡ true → (meets (end_lock g writer) hold || list_any (meets (end_lock g writer)) holds) ≡ true
      either true one more f = ap (λ (b : Bool). b || list_any (meets (end_lock g writer)) holds) (one refl)
      either false one more f = or-later (meets (end_lock g writer) hold) (list_any (meets (end_lock g writer)) holds) (more f)
        where
          or-later : (a b : Bool) → b ≡ true → (a || b) ≡ true
          or-later true b e = refl
          or-later false b e = e

-- WITH THE ROW'S LOCK
any-held-too : (p : Claim → Bool) (holds : List Claim) (claim : Claim) → list_any p holds ≡ true → list_any p (with_claim claim holds) ≡ true
any-held-too p holds claim e = either (list_any (same_claim claim) holds)
  where
    or-more : (a b : Bool) → a ≡ true → (a || b) ≡ true
    or-more true b f = refl
    or-more false b f = absurd (cc)

    either : (b : Bool) → list_any p (if b then holds else holds ++ claim ∷ []) ≡ true
    either true = e
    either false = list_any-append p holds (claim ∷ []) ∙ or-more (list_any p holds) (p claim || false) e

module _ (g : Gxid) (rid : Rid) (locks : Locks) where
  abbrev some-row : Bool → Bool → Locks
  some-row h f = if h then locks else asked_locks locks (tuple_lock g rid) f

  any-row : (p : Claim → Bool) → list_any p locks.holds ≡ true → list_any p (row_locks g rid locks).holds ≡ true
  any-row p e = either (holds_row g rid locks) (is_clear locks.holds locks.waits (tuple_lock g rid))
    where
      either : (h f : Bool) → list_any p (some-row h f).holds ≡ true
      either true f = e
      either false true = any-held-too p locks.holds (tuple_lock g rid) e
      either false false = e

  pub taken-end : (writer : Gxid) → awaited_in locks.holds g (Some writer) ≡ Some writer → is_free (row_locks g rid locks).holds (end_lock g writer) ≡ false
  taken-end writer e =
      let is = awaited-holds locks.holds g writer e in
      ap not (any-row (meets (end_lock g writer)) (meets-some g writer is.other locks.holds is.held_by))
