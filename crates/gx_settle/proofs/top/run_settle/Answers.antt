use Rattle.gx_settle.proofs.Reports.{at_status, cut_short, known, memory, strange}
use Rattle.gx_settle.proofs.top.run_settle.Goals as goal

pub returns : goal.returns
returns g c =
    let a = c.make_attempt-attempt.result in
    let of = c.make_attempt-attempt.ensures.came in
    let is = c.told_of.ensures in
    record {
      known = known _ _ _ _ _ _ a of is;
      reach = c.make_attempt-attempt.ensures.reach;
      done = λ e. at_status _ _ _ _ _ _ 0 a of is e (λ q. cc) (λ q. cc);
      refused = λ e. at_status _ _ _ _ _ _ 3 a of is e (λ q. cc) (λ q. cc);
      read_fault = λ e. at_status _ _ _ _ _ _ 4 a of is e (λ q. cc) (λ q. cc);
      write_fault = cut_short _ _ _ _ _ _ a of is;
      memory = memory _ _ _ _ _ _ a of is;
      too_large = λ e. at_status _ _ _ _ _ _ 9 a of is e (λ q. cc) (λ q. cc);
      disk_fault = λ e. at_status _ _ _ _ _ _ 13 a of is e (λ q. cc) (λ q. cc);
      full = λ e. at_status _ _ _ _ _ _ 14 a of is e (λ q. cc) (λ q. cc);
      not_log = λ e. at_status _ _ _ _ _ _ 15 a of is e (λ q. cc) (λ q. cc);
      strange = strange _ _ _ _ _ _ a of is;
    }
