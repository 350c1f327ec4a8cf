use Rattle.gx.proofs.Language.{keeps_language}
use Rattle.gx.proofs.Reports.{at_status, cut_short, failures, held, known, memory, so_far, unfailed}
use Rattle.gx.proofs.alone.run_alone.Goals as goal

pub returns : goal.returns
returns g c =
    let a = c.make_attempt-attempt.result in
    let of = c.make_attempt-attempt.ensures.is in
    let kept = c.make_attempt-attempt.ensures.kept in
    let is = c.told_of.ensures in
    record {
      known = known _ _ _ _ _ a is;
      done = λ e. at_status _ _ _ _ _ _ _ _ _ _ 0 a of is e (λ q. cc) (λ q. cc);
      usage = λ e. at_status _ _ _ _ _ _ _ _ _ _ 2 a of is e (λ q. cc) (λ q. cc);
      refused = λ e. at_status _ _ _ _ _ _ _ _ _ _ 3 a of is e (λ q. cc) (λ q. cc);
      read_fault = λ e. at_status _ _ _ _ _ _ _ _ _ _ 4 a of is e (λ q. cc) (λ q. cc);
      write_fault = cut_short _ _ _ _ _ _ _ _ _ _ a of is;
      unfailed = unfailed _ _ _ _ _ _ _ _ _ _ a of is;
      memory = memory _ _ _ _ _ _ _ _ _ _ a of is;
      stopped = λ e. at_status _ _ _ _ _ _ _ _ _ _ 7 a of is e (λ q. cc) (λ q. cc);
      stuck = λ e. at_status _ _ _ _ _ _ _ _ _ _ 8 a of is e (λ q. cc) (λ q. cc);
      too_large = λ e. at_status _ _ _ _ _ _ _ _ _ _ 9 a of is e (λ q. cc) (λ q. cc);
      unread = c.make_attempt-attempt.ensures.unread;
      language = λ script read. keeps_language _ _ script read;
      count = c.make_attempt-attempt.ensures.count;
      held = held _ _ _ _ _ _ _ a is kept;
      so_far = so_far _ _ _ _ _ _ _ a is kept;
      failures = failures _ _ _ _ _ _ _ a is kept;
    }
