use Rattle.std.proofs.Common.{◌≡◌, ◌∙◌, ℕ, Bool, true, false, ap, refl, sym}
use Rattle.gx_agenda.specs.Faults.{is_lost, is_repeated, times as times_known, times_of}
use Rattle.gx_agenda.specs.Links.{link_of}
use Rattle.gx_agenda.specs.declared.faults.Faults.{Faults}
use Rattle.gx_cells.proofs.receipts.times_of.Goals as goal

-- by the link's number
times-by : (faults : Faults) (link at number : ℕ) (lost repeated : Bool) → link ≡ at → lost ≡ is_lost faults link number → repeated ≡ is_repeated faults link number → times_of lost repeated ≡ times_known faults at number
times-by faults link at number lost repeated same l r =
    ap (λ b. times_of b repeated) l ∙ ap (times_of (is_lost faults link number)) r ∙ ap (λ k. times_known faults k number) same

pub returns-then-is_lost : goal.returns-then-is_lost
returns-then-is_lost c =
    let link = c.link_between-link.result in
    times-by c.args.faults.now link (link_of c.args.from c.args.to) c.args.number true (is_repeated c.args.faults.now link c.args.number) c.link_between-link.ensures (sym c.if-is_lost.true ∙ c.is_lost.ensures) refl

pub returns-then-is_repeated : goal.returns-then-is_repeated
returns-then-is_repeated c =
    times-by c.args.faults.now c.link_between-link.result (link_of c.args.from c.args.to) c.args.number false true c.link_between-link.ensures (sym c.if-is_lost.false ∙ c.is_lost.ensures) (sym c.if-is_repeated.true ∙ c.is_repeated.ensures)

pub returns-else-is_repeated : goal.returns-else-is_repeated
returns-else-is_repeated c =
    times-by c.args.faults.now c.link_between-link.result (link_of c.args.from c.args.to) c.args.number false false c.link_between-link.ensures (sym c.if-is_lost.false ∙ c.is_lost.ensures) (sym c.if-is_repeated.false ∙ c.is_repeated.ensures)
