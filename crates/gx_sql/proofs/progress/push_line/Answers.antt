use Rattle.std.proofs.Common.{ℕ, ◌+◌, vec_len, ◌∙◌, ap, arith}
use Rattle.gx_sql.specs.Held.{named}
use Rattle.gx_sql.specs.Progress.{counted}
use Rattle.gx_sql.proofs.Held.{counts_to, counts_counted, place_room, few_counted, length_named}
use Rattle.gx_sql.proofs.progress.push_line.Goals as goal

pub overflow_cast-session : goal.overflow_cast-session
overflow_cast-session c =
    let len = length_named c.args.sessions.now.entries in
    let few = c.requires.sessions in
    let room = place_room c.args.name.now (named c.args.sessions.now.entries) (omega arith) c.requires.few in
    let place = c.find_session-place.ensures.place in
    omega arith

pub overflow_add-number : goal.overflow_add-number
overflow_add-number c =
    let to = counts_to (vec_len c.args.lines.now) c.args.name.now c.args.sessions.now.entries c.requires.counts in
    let count = c.find_session-place.ensures.count in
    let short = c.requires.short in
    omega arith

pub returns-in_ok-push-in-Ok-clause-sessions : goal.returns-in_ok-push-in-Ok-clause-sessions
returns-in_ok-push-in-Ok-clause-sessions c =
    c.in-Ok.ensures.counted
    ∙ ap (λ (n : ℕ). counted c.args.name.now (n + 1) (named c.args.sessions.now.entries)) c.find_session-place.ensures.count

pub returns-in_ok-push-in-Ok-clause-counts : goal.returns-in_ok-push-in-Ok-clause-counts
returns-in_ok-push-in-Ok-clause-counts c =
    let to = counts_to (vec_len c.args.lines.now) c.args.name.now c.args.sessions.now.entries c.requires.counts in
    let count = c.find_session-place.ensures.count in
    let len = c.in_ok-push-in-Ok.ensures.len in
    counts_counted (vec_len c.args.lines.now) (vec_len c.push.new.self) (c.find_session-place.result.1 + 1) c.args.name.now c.args.sessions.now.entries c.note_count.new.sessions.entries
    c.requires.counts (omega arith) (omega arith) c.in-Ok.ensures.counted

pub returns-in_ok-push-in-Ok-clause-few : goal.returns-in_ok-push-in-Ok-clause-few
returns-in_ok-push-in-Ok-clause-few c =
    few_counted c.args.name.now (c.find_session-place.result.1 + 1) c.args.sessions.now.entries c.note_count.new.sessions.entries c.requires.sessions c.requires.few c.in-Ok.ensures.counted
