use Rattle.std.proofs.Common.{◌∙◌, sym, true≢false}
use Rattle.gx.proofs.Language.{keeps_language}
use Rattle.gx.proofs.Reports.{AreAllForThreads, at_status, cut_short, failures, held, known, memory, never-stopped, never-stuck, over, so_far, unfailed}
use Rattle.gx.proofs.top.run_gx.Goals as goal

pub run_alone-requires-clause-alone : goal.run_alone-requires-clause-alone
run_alone-requires-clause-alone g c = λ options asked. sym (c.ask_for_threads.ensures options asked) ∙ c.if-not-ask_for_threads.true

pub make_attempt_in_threads-attempt-requires-clause-threads : goal.make_attempt_in_threads-attempt-requires-clause-threads
make_attempt_in_threads-attempt-requires-clause-threads g c κs within = λ options asked. sym (c.ask_for_threads.ensures options asked) ∙ c.if-not-ask_for_threads.false

-- who asks for threads isn't run alone
pub returns-then-not-ask_for_threads-clause-threads : goal.returns-then-not-ask_for_threads-clause-threads
returns-then-not-ask_for_threads-clause-threads g c =
    λ for. absurd (true≢false (sym for.threads ∙ sym (c.ask_for_threads.ensures for.options for.asked) ∙ c.if-not-ask_for_threads.true))

pub returns : goal.returns
returns g c =
    let a = c.make_attempt_in_threads-attempt.result in
    let of = c.make_attempt_in_threads-attempt.ensures.is in
    let kept = c.make_attempt_in_threads-attempt.ensures.kept in
    let is = c.told_of.ensures in
    let asks : AreAllForThreads c.args.words.now = λ options asked. sym (c.ask_for_threads.ensures options asked) ∙ c.if-not-ask_for_threads.false in
    record {
      known = known _ _ _ _ _ a is;
      done = λ e. at_status _ _ _ _ _ _ _ _ _ _ 0 a of is e (λ q. cc) (λ q. cc);
      usage = λ e. at_status _ _ _ _ _ _ _ _ _ _ 2 a of is e (λ q. cc) (λ q. cc);
      refused = λ e. at_status _ _ _ _ _ _ _ _ _ _ 3 a of is e (λ q. cc) (λ q. cc);
      read_fault = λ e. at_status _ _ _ _ _ _ _ _ _ _ 4 a of is e (λ q. cc) (λ q. cc);
      write_fault = cut_short _ _ _ _ _ _ _ _ _ _ a of is;
      unfailed = unfailed _ _ _ _ _ _ _ _ _ _ a of is;
      memory = memory _ _ _ _ _ _ _ _ _ _ a of is;
      stopped = λ e. at_status _ _ _ _ _ _ _ _ _ _ 7 a of is e (λ q. cc) (λ q. cc);
      stuck = λ e. at_status _ _ _ _ _ _ _ _ _ _ 8 a of is e (λ q. cc) (λ q. cc);
      too_large = λ e. at_status _ _ _ _ _ _ _ _ _ _ 9 a of is e (λ q. cc) (λ q. cc);
      unread = c.make_attempt_in_threads-attempt.ensures.unread;
      threads = λ for. (λ e. never-stopped c.args.words.now _ _ _ _ _ asks (at_status _ _ _ _ _ _ _ _ _ _ 7 a of is e (λ q. cc) (λ q. cc)), λ e. never-stuck c.args.words.now _ _ _ _ _ asks (at_status _ _ _ _ _ _ _ _ _ _ 8 a of is e (λ q. cc) (λ q. cc)));
      language = λ script read. keeps_language _ _ script read;
      count = λ memory. c.make_attempt_in_threads-attempt.ensures.count (λ for. over _ _ _ _ _ a is (memory for));
      held = held _ _ _ _ _ _ _ a is kept;
      so_far = so_far _ _ _ _ _ _ _ a is kept;
      failures = failures _ _ _ _ _ _ _ a is kept;
    }
