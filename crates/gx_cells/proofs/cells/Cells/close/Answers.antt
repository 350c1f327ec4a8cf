use Rattle.std.proofs.Common.{◌≡◌, subst}
use Rattle.std.specs.Prelude.{IfOk, OnOk, map}
use Rattle.gx_store.specs.Groups.{AreStartsLet}
use Rattle.gx_cells.specs.Closed.{AreFailuresCounted, AreHeldThere, AreUnspent, DoHoldItems, histories_of}
use Rattle.gx_cells.specs.Done.{CellsView}
use Rattle.gx_cells.proofs.cells.Cells.close.Goals as goal

pub returns-clause-items : goal.returns-clause-items
returns-clause-items g c =
    subst (λ (v : CellsView). IfOk c.close_cells.result (λ closed. DoHoldItems v.coord.script (histories_of v.coord v.segments) (map g.J.Journal.shelf closed.journals.items))) c.self.view_is c.close_cells.ensures.items

pub returns-clause-holds : goal.returns-clause-holds
returns-clause-holds g c = subst (λ (v : CellsView). OnOk c.close_cells.result (AreHeldThere v.coord v.segments)) c.self.view_is c.close_cells.ensures.holds

pub returns-clause-failures : goal.returns-clause-failures
returns-clause-failures g c = subst (λ (v : CellsView). OnOk c.close_cells.result (AreFailuresCounted v.coord v.segments)) c.self.view_is c.close_cells.ensures.failures

pub returns-clause-histories : goal.returns-clause-histories
returns-clause-histories g c =
    subst (λ (v : CellsView). IfOk c.close_cells.result (λ closed. map (λ h. h.steps) closed.histories.items ≡ histories_of v.coord v.segments)) c.self.view_is c.close_cells.ensures.histories

pub returns-clause-unspent : goal.returns-clause-unspent
returns-clause-unspent g c = subst (λ (v : CellsView). OnOk c.close_cells.result (AreUnspent v.coord v.segments)) c.self.view_is c.close_cells.ensures.unspent

pub returns-clause-starts : goal.returns-clause-starts
returns-clause-starts g c = subst (λ (v : CellsView). OnOk c.close_cells.result (AreStartsLet v.coord.script v.coord.steps)) c.self.view_is c.close_cells.ensures.starts
