use Rattle.std.proofs.Common.{◌≡◌, ◌∙◌, ◌+◌, ◌++◌, ◌∷◌, [], List, ap, refl}
use Rattle.gx_ids.specs.declared.ids.Gxid.{Gxid}
use Rattle.gx_dtx.specs.declared.txn.Txn.{Txn}
use Rattle.gx_dtx.specs.Table.{Table, new_txn}
use Rattle.gx_dtx.specs.Rules.{begun}
use Rattle.gx_dtx.proofs.Finds.{find-next}
use Rattle.gx_dtx.proofs.Made.{entries-begun, IsWhole-made_begun}
use Rattle.gx_dtx.proofs.dtx.Dtx.begin.Goals as goal

abbrev table : goal.After-next-1 → Table
table c = record { next = c.self.inside.next; latest_ended = c.self.inside.latest_ended; txns = c.self.inside.txns }

entries : (c : goal.After-next-1) → c.begin.new.self ≡ c.self.inside.txns ++ (c.self.inside.next, new_txn) ∷ []
entries c = entries-begun (table c) new_txn c.begin.new.self c.self.invariant c.in_ok-begin.ensures.ok refl

pub invariant_of-self-2 : goal.invariant_of-self-2
invariant_of-self-2 c = IsWhole-made_begun (table c) c.begin.new.self c.self.invariant (entries c)

pub returns-clause-ok : goal.returns-clause-ok
returns-clause-ok c =
    ap (λ (txns : List (Gxid × Txn)). let d : Table = record { next = record { 0 = c.self.inside.next.0 + 1 }; latest_ended = c.self.inside.latest_ended; txns = txns } in d) (entries c) ∙ ap begun c.self.view_is

pub begin-requires : goal.begin-requires
begin-requires c = find-next c.self.inside.next c.self.inside.txns c.self.invariant.drawn
