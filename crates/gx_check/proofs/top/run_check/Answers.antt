use Rattle.gx_check.proofs.Exactly.{large-ends, left-is, legal-ends, refused-ends, told-as, unlawful-ends, untraced-ends, usage_as}
use Rattle.gx_check.proofs.Reports.{at_status, cut_short, known, memory, unfailed}
use Rattle.gx_check.proofs.top.run_check.Goals as goal

pub returns : goal.returns
returns g c =
    let a = c.make_attempt-attempt.result in
    let of = c.make_attempt-attempt.ensures.is in
    let is = c.told_of.ensures in
    record {
      known = known _ _ _ _ _ _ a of is;
      legal = λ e. at_status _ _ _ _ _ _ 0 a of is e (λ q. cc) (λ q. cc);
      usage = λ e. at_status _ _ _ _ _ _ 2 a of is e (λ q. cc) (λ q. cc);
      refused = λ e. at_status _ _ _ _ _ _ 3 a of is e (λ q. cc) (λ q. cc);
      read_fault = λ e. at_status _ _ _ _ _ _ 4 a of is e (λ q. cc) (λ q. cc);
      write_fault = cut_short _ _ _ _ _ _ a of is;
      unfailed = unfailed _ _ _ _ _ _ a of is;
      memory = memory _ _ _ _ _ _ a of is;
      too_large = λ e. at_status _ _ _ _ _ _ 9 a of is e (λ q. cc) (λ q. cc);
      no_trace = λ e. at_status _ _ _ _ _ _ 11 a of is e (λ q. cc) (λ q. cc);
      not_legal = λ e. at_status _ _ _ _ _ _ 12 a of is e (λ q. cc) (λ q. cc);
      usage_told = λ some. usage_as _ _ _ _ _ a (c.make_attempt-attempt.ensures.usage some) is;
      legal_told = λ none bytes known few legal. told-as 0 _ _ _ _ _ a (legal-ends _ none bytes _ _ _ few legal a (left-is _ _ _ _ _ _ a known of)) is;
      refused_told = λ none bytes known few refusal refused. told-as 3 _ _ _ _ _ a (refused-ends _ none bytes _ _ _ few refusal refused a (left-is _ _ _ _ _ _ a known of)) is;
      large_told = λ none bytes known large. told-as 9 _ _ _ _ _ a (large-ends _ none bytes _ _ _ large a (left-is _ _ _ _ _ _ a known of)) is;
      no_trace_told = λ none bytes known few line bad. told-as 11 _ _ _ _ _ a (untraced-ends _ none bytes _ _ _ few line bad a (left-is _ _ _ _ _ _ a known of)) is;
      not_legal_told = λ none bytes known few least bad. told-as 12 _ _ _ _ _ a (unlawful-ends _ none bytes _ _ _ few least bad a (left-is _ _ _ _ _ _ a known of)) is;
    }
