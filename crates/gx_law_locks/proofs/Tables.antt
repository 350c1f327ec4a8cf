-- The locks that slices take on their tables.
use Rattle.std.proofs.Common.{◌≡◌, ◌⊎◌, inl, inr, List, Option, Some, None, Bool, true, false, refl, subst, ap, if◌then◌else◌}
use Rattle.gx_lemmas.proofs.Options.{some-same}
use Rattle.gx_ids.specs.declared.ids.Cid.{Cid}
use Rattle.gx_ids.specs.declared.ids.Gxid.{Gxid}
use Rattle.gx_ids.specs.declared.ids.Node.{Node}
use Rattle.gx_ids.specs.declared.ids.Table.{Table}
use Rattle.gx_tree.specs.declared.slice.Slice.{Slice}
use Rattle.gx_tree.specs.declared.slice.Slice.TheVariants as slice
use Rattle.gx_tree.specs.declared.stmt.Level.{Level}
use Rattle.gx_dsnap.specs.declared.snapshot.Snapshot.{Snapshot}
use Rattle.gx_modes.specs.declared.modes.Mode.TheVariants.{Exclusive, RowExclusive}
use Rattle.gx_waits.specs.declared.claim.Claim.{Claim}
use Rattle.gx_waits.specs.declared.object.Object.TheVariants.{Relation}
use Rattle.gx_script.specs.declared.Script.{Script}
use Rattle.gx_waits.specs.Claims.{claim}
use Rattle.gx_rules.specs.Changes.{Change, change_of}
use Rattle.gx_store.specs.Locks.{slice_lock}
use Rattle.gx_law_locks.specs.Lasting.{IsLasting}
use Rattle.gx_law_locks.proofs.Lasting.{IsIn}

-- the lock that a slice takes is for its transaction
pub own-gxid : (script : Script) (g : Gxid) (x : Slice) → (slice_lock script g x).gxid ≡ g
own-gxid script g (slice.Select query) = refl
own-gxid script g (slice.Insert table rows) = refl
own-gxid script g (slice.Update table assigns cond) = refl
own-gxid script g (slice.Delete table cond) = refl
own-gxid script g (slice.Lock table mode) = refl

-- and lasts
pub slice-lasts : (script : Script) (node : Node) (g : Gxid) (x : Slice) → IsLasting node (slice_lock script g x)
slice-lasts script node g (slice.Select query) = λ m. m
slice-lasts script node g (slice.Insert table rows) = λ m. m
slice-lasts script node g (slice.Update table assigns cond) = λ m. m
slice-lasts script node g (slice.Delete table cond) = λ m. m
slice-lasts script node g (slice.Lock table mode) = λ m. m

-- whoever changes rows of a table holds it so
abbrev pub HasTable : Script → List Claim → Gxid → Table → Type 0
HasTable script holds g table = IsIn holds (claim g (Relation table) RowExclusive) ⊎ ((script.detector ≡ false) × IsIn holds (claim g (Relation table) Exclusive))

-- a slice that changes rows of the table
abbrev pub Changes : Slice → Table → Type 0
Changes (slice.Insert t rows) table = t ≡ table
Changes (slice.Update t assigns cond) table = t ≡ table
Changes (slice.Delete t cond) table = t ≡ table
Changes _ table = ⊥

pub change-table : (c : Cid) (level : Level) (snapshot : Option Snapshot) (x : Slice) (k : Change) → change_of c level snapshot x ≡ Some k → Changes x k.table
change-table c level (Some s) (slice.Update table assigns cond) k e = ap (λ (y : Change). y.table) (some-same _ k e)
change-table c level (Some s) (slice.Delete table cond) k e = ap (λ (y : Change). y.table) (some-same _ k e)
change-table c level (Some s) (slice.Select query) k e = absurd (cc)
change-table c level (Some s) (slice.Insert table rows) k e = absurd (cc)
change-table c level (Some s) (slice.Lock table mode) k e = absurd (cc)
change-table c level None (slice.Update table assigns cond) k e = absurd (cc)
change-table c level None (slice.Delete table cond) k e = absurd (cc)
change-table c level None (slice.Select query) k e = absurd (cc)
change-table c level None (slice.Insert table rows) k e = absurd (cc)
change-table c level None (slice.Lock table mode) k e = absurd (cc)

changing : (script : Script) (holds : List Claim) (g : Gxid) (table : Table) (b : Bool) → script.detector ≡ b → IsIn holds (claim g (Relation table) (if b then RowExclusive else Exclusive))
    → HasTable script holds g table
changing script holds g table true e i = inl i
changing script holds g table false e i = inr (e, i)

pub slice-table : (script : Script) (holds : List Claim) (g : Gxid) (x : Slice) (table : Table) → Changes x table → IsIn holds (slice_lock script g x) → HasTable script holds g table
slice-table script holds g (slice.Select query) table e i = absurd e
slice-table script holds g (slice.Insert t rows) table e i = subst (HasTable script holds g) e (inl i)
slice-table script holds g (slice.Update t assigns cond) table e i = subst (HasTable script holds g) e (changing script holds g t script.detector refl i)
slice-table script holds g (slice.Delete t cond) table e i = subst (HasTable script holds g) e (changing script holds g t script.detector refl i)
slice-table script holds g (slice.Lock t mode) table e i = absurd e
