use Rattle.std.proofs.Common.{◌∙◌, List, subst, refl}
use Rattle.std.proofs.lemmas.List.{drop_more}
use Rattle.gx_locks.specs.declared.book.Book.{Book}
use Rattle.gx_locks.specs.declared.hold.Hold.{Hold}
use Rattle.gx_locks.specs.declared.key.Key.TheVariants.{Of}
use Rattle.gx_locks.proofs.Emptied.{IsEmptied, IsEmptied-taken, IsEmptied-more, IsFiled-emptied, claims-emptied, drop_past}
use Rattle.gx_locks.proofs.Found.{of-filed}
use Rattle.gx_locks.proofs.book.Book.release_all.Goals as goal

pub loop-hold-init : goal.loop-hold-init
loop-hold-init c = (
  IsEmptied-taken c.args.gxid c.args.self.now _ c.as_slice-hold-items.result.now c.requires.filed c.requires.once refl (c.as_slice-hold-items.ensures ∙ c.take_of-holds.ensures.taken) c.take_of-holds.ensures.there c.take_of-holds.ensures.elsewhere,
  λ was. was,
)

pub loop-hold-preserved : goal.loop-hold-preserved
loop-hold-preserved c =
    let start : Book = record { ledger = c.args.self.now.ledger; index = c.take_of-holds.new.self } in
    let is = subst (λ (rest : List Hold). IsEmptied c.args.gxid start c.loop-hold.self rest) (drop_more _ c.loop-hold.hold-index _ c.loop-hold-test.true) c.loop-hold.invariant.0 in (
      IsEmptied-more c.args.gxid start c.loop-hold.self (record { ledger = c.strike.new.self; index = c.strike-in-loop-hold.new.self }) _ _ is c.strike.ensures.holds c.strike-in-loop-hold.ensures.there c.strike-in-loop-hold.ensures.elsewhere c.strike.ensures.places c.strike-in-loop-hold.ensures.places,
      λ was. c.strike-in-loop-hold.ensures.tidy (c.loop-hold.invariant.1 was),
    )

pub returns-clause-filed : goal.returns-clause-filed
returns-clause-filed c =
    let start : Book = record { ledger = c.args.self.now.ledger; index = c.take_of-holds.new.self } in
    IsFiled-emptied c.args.gxid start c.loop-hold.self (subst (λ (rest : List Hold). IsEmptied c.args.gxid start c.loop-hold.self rest) (drop_past _ c.loop-hold.hold-index c.loop-hold-test.false) c.loop-hold.invariant.0)

pub returns-clause-claims : goal.returns-clause-claims
returns-clause-claims c =
    let start : Book = record { ledger = c.args.self.now.ledger; index = c.take_of-holds.new.self } in
    claims-emptied c.args.gxid start c.loop-hold.self (subst (λ (rest : List Hold). IsEmptied c.args.gxid start c.loop-hold.self rest) (drop_past _ c.loop-hold.hold-index c.loop-hold-test.false) c.loop-hold.invariant.0)

pub returns-clause-taken : goal.returns-clause-taken
returns-clause-taken c = of-filed c.args.gxid c.args.self.now.ledger.holds _ (c.take_of-holds.ensures.taken ∙ c.requires.filed (Of c.args.gxid))

pub returns-clause-tidy : goal.returns-clause-tidy
returns-clause-tidy c = λ was. c.loop-hold.invariant.1 (c.take_of-holds.ensures.tidy was)
