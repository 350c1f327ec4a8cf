-- How the table tells a transaction's past.
use Rattle.std.specs.Prelude.{◌≡◌, true, false, ◌&&◌, not, List, [], ◌∷◌, Option, None, Some}
use Rattle.gx_ids.specs.declared.ids.Node.{Node}
use Rattle.gx_dtx.specs.declared.phase.Phase.{Phase}
use Rattle.gx_dtx.specs.declared.phase.Phase.TheVariants.{Active, Preparing, CommittingOne, CommittingTwo, Ended, Aborting}
use Rattle.gx_dtx.specs.declared.txn.Txn.{Txn}
use Rattle.gx_dtx.specs.Nodes.{has}
use Rattle.gx_dtx.specs.Past.{Past, Fate, AreAmong, HaveCommitted}
use Rattle.gx_dtx.specs.Past.Fate.{Open, Decided, Committed, GivenUp, Aborted}

-- of some nodes, those that aren't awaited are among others
abbrev pub AreIn : List Node → List Node → List Node → Type 0
AreIn nodes awaited others = (i : Node) → has i nodes ≡ true → has i awaited ≡ false → has i others ≡ true

-- those that are awaited are those of some nodes that aren't among others
abbrev pub AreRest : List Node → List Node → List Node → Type 0
AreRest awaited nodes others = (i : Node) → has i awaited ≡ (has i nodes && not (has i others))

-- there is a node
abbrev pub Somebody : List Node → Type 0
Somebody nodes = (i : Node) × (has i nodes ≡ true)

-- nothing was told of its end
abbrev pub IsOpen : Past → Type 0
IsOpen p = (p.fate ≡ Open) × (p.decided ≡ false)

-- there are at least two nodes
abbrev pub AreSeveral : List Node → Type 0
AreSeveral [] = ⊥
AreSeveral (_ ∷ []) = ⊥
AreSeveral (_ ∷ _ ∷ _) = Unit {0}

-- what the phase says of the past
abbrev pub Stands : Past → List Node → Phase → Type 0
Stands p participants Active = IsOpen p
Stands p participants (Preparing writers awaited) = IsOpen p × (p.writers ≡ writers) × AreIn writers awaited p.prepared × AreSeveral writers
Stands p participants (CommittingOne w) = IsOpen p × (p.writers ≡ w ∷ [])
Stands p participants (CommittingTwo awaited) = (p.fate ≡ Decided) × AreAmong p.writers p.prepared × AreIn p.writers awaited p.finished × (p.decided ≡ true) × AreSeveral p.writers
Stands p participants (Ended awaited) = (p.fate ≡ Committed) × (p.live ≡ None) × HaveCommitted p.decided p.writers p.prepared p.finished × AreRest awaited participants p.forgotten × Somebody awaited
Stands p participants (Aborting awaited) = (p.fate ≡ GivenUp) × (p.live ≡ None) × AreRest awaited participants p.aborted × (p.decided ≡ false)

-- a transaction in the table
pub record Known (p : Past) (t : Txn) : Type 0 where
  pub begun : p.begun ≡ true
  pub participants : (i : Node) → has i t.participants ≡ has i p.enlisted
  pub live : t.live ≡ p.live
  pub stands : Stands p t.participants t.phase

-- a transaction that everybody has forgotten, or that was aborted by everybody
abbrev pub Gone : Past → Fate → Type 0
Gone p Open = p.begun ≡ false
Gone p Decided = ⊥
Gone p Committed = (p.begun ≡ true) × HaveCommitted p.decided p.writers p.prepared p.finished × AreAmong p.enlisted p.forgotten
Gone p GivenUp = ⊥
Gone p Aborted = (p.begun ≡ true) × AreAmong p.enlisted p.aborted × (p.decided ≡ false)

-- the table has the transaction as its past says
abbrev pub Agrees : Past → Option Txn → Type 0
Agrees p None = (p.live ≡ None) × Gone p p.fate
Agrees p (Some t) = Known p t
