use Rattle.std.proofs.Common.{◌≡◌, ◌∙◌, ◌≤◌, ap, arith, get_or, length, slice_get, subst, sym}
use Rattle.std.proofs.lemmas.Grind.{common_steps}
use Rattle.std.proofs.lemmas.Option.{slice_get-get_or}
use Rattle.std.specs.Prelude.{Some}
use Rattle.gx_agenda.specs.FreshQueue.{new_standing}
use Rattle.gx_agenda.specs.Moves.{IsAdvancedAt}
use Rattle.gx_agenda.proofs.Advancing.{known-on, unknown}
use Rattle.gx_agenda.proofs.queue.Queue.count.Goals as goal

pub returns-in_ok-go_on : goal.returns-in_ok-go_on
returns-in_ok-go_on c = λ lines started answered queued few few_answered.
    let old = c.args.self.now.standings.items in
    let number = c.from-number.ensures in
    let was = get_or old c.from-number.result new_standing in
    let there : slice_get old c.from-number.result ≡ Some was = slice_get-get_or old c.from-number.result new_standing (grind (arith, common_steps)) in
    known-on lines started answered c.args.session c.args.starts c.args.answers c.args.self.now (record { standings = c.advance-moved.new.standings; next = c.go_on.new.next }) queued was (ap (slice_get old) (sym number) ∙ there) c.advance-moved.result
    (subst (λ n. IsAdvancedAt n old c.advance-moved.new.standings.items was c.args.starts c.args.answers c.advance-moved.result) number (c.advance-moved.ensures was there)) c.in_ok-go_on.ensures few few_answered

pub returns-else-number-len : goal.returns-else-number-len
returns-else-number-len c = λ lines started answered queued few few_answered.
    let past : length c.args.self.now.standings.items ≤ c.args.session.0 = grind (arith, common_steps) in
    unknown lines started answered c.args.session c.args.starts c.args.answers c.args.self.now c.args.self.now queued past
