use Rattle.std.proofs.Common.{◌≡◌, ◌∙◌, true, List, ap, arith, subst, sym}
use Rattle.std.proofs.lemmas.Bool.Decides.{nat_tests}
use Rattle.std.specs.Ordering.{is_lt}
use Rattle.gx_ids.specs.declared.rid.Rid.{Rid}
use Rattle.gx_meaning.specs.Order.{rid_order}
use Rattle.gx_slices.specs.Kept.{IsRising, listed}
use Rattle.gx_slices.specs.declared.kept.Last.{Last}
use Rattle.gx_slices.proofs.Risen.{kept-behind, rises-on}
use Rattle.gx_slices.proofs.kept.with_row_behind.Goals as goal

pub returns-in_ok-list-clause-put : goal.returns-in_ok-list-clause-put
returns-in_ok-list-clause-put c =
    let above : is_lt (rid_order c.args.top c.args.rid) ≡ true = grind (arith, nat_tests, c.lt.ensures, c.if-lt.true) in
    ap listed c.in_ok-list.ensures ∙ kept-behind c.args.top c.args.rid c.args.last above c.args.list.items c.requires

pub returns-in_ok-list-clause-sound : goal.returns-in_ok-list-clause-sound
returns-in_ok-list-clause-sound c =
    let above : is_lt (rid_order c.args.top c.args.rid) ≡ true = grind (arith, nat_tests, c.lt.ensures, c.if-lt.true) in
    subst (λ (rows : List (Rid × Last)). IsRising c.args.rid rows) (sym c.in_ok-list.ensures) (rises-on c.args.top c.args.rid c.args.last above c.args.list.items c.requires)
