use Rattle.std.proofs.Common.{List, ◌+◌, ◌∙◌, ap, slice_get, sym, ℕ}
use Rattle.gx_store.specs.Lines.{stmt_of}
use Rattle.gx_rules.specs.Coordinators.{Session}
use Rattle.std.specs.Prelude.{option_map}
use Rattle.gx_coord.specs.Books.{stmt_at}
use Rattle.gx_coord.specs.Places.{at_index}
use Rattle.gx_coord.proofs.Nexts.{next-at}
use Rattle.gx_coord.proofs.starting.next_place.Goals as goal

pub returns-clause-line : goal.returns-clause-line
returns-clause-line c =
    let script = c.args.coord.now.script.value in
    let n = c.find_session-lines.result.lines in
    sym (ap (λ (x : Session). stmt_of c.args.id (x.lines + 1) script.lines) c.find_session-lines.ensures)
    ∙ next-at script c.requires.language c.args.coord.now.places.items c.requires.places c.args.id.0 n
    ∙ sym (ap (option_map (stmt_at script.lines)) (c.place_of.ensures ∙ ap (λ k. at_index n (slice_get c.as_slice.result.now k)) c.from.ensures ∙ ap (λ (xs : List (List ℕ)). at_index n (slice_get xs c.args.id.0)) c.as_slice.ensures.value))
