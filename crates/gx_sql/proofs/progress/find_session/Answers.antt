use Rattle.std.proofs.Common.{ℕ, Option, sym, ◌∙◌, ap}
use Rattle.std.specs.Option.{unwrap_or}
use Rattle.gx_sql.proofs.Held.{place_found, place_absent, count_of_named}
use Rattle.gx_sql.proofs.progress.find_session.Goals as goal

pub returns-in-Some-clause-place : goal.returns-in-Some-clause-place
returns-in-Some-clause-place c = place_found c.args.name.now c.args.sessions.now.entries c.in-Some.place (sym c.in-Some.ensures.index)

pub returns-in-Some-clause-count : goal.returns-in-Some-clause-count
returns-in-Some-clause-count c = sym (count_of_named c.args.name.now c.args.sessions.now.entries ∙ ap (λ (o : Option ℕ). unwrap_or o 0) (sym c.in-Some.ensures.value))

pub returns-in-None-clause-place : goal.returns-in-None-clause-place
returns-in-None-clause-place c = c.len.ensures.len ∙ place_absent c.args.name.now c.args.sessions.now.entries (sym c.in-None.ensures.index)

pub returns-in-None-clause-count : goal.returns-in-None-clause-count
returns-in-None-clause-count c = sym (count_of_named c.args.name.now c.args.sessions.now.entries ∙ ap (λ (o : Option ℕ). unwrap_or o 0) (sym c.in-None.ensures.value))
