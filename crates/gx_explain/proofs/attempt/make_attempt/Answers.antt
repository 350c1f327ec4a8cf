use Rattle.std.proofs.Common.{◌≡◌, ℕ, List, rules, arith, subst}
use Rattle.gx_explain.specs.Top.{IsOfBytes, IsRead}
use Rattle.gx_explain.proofs.Attempts.{of-bytes}
use Rattle.gx_explain.proofs.attempt.make_attempt.Goals as goal

pub returns : goal.returns
returns g c =
    let read : IsRead (g.S.Source.left c.args.source.now) (g.S.Source.left c.read_up_to.new.source) c.in-Ok.bytes.items = search (rules, arith) in
    let calm : g.S.Source.fault_count c.read_up_to.new.source ≡ g.S.Source.fault_count c.args.source.now = search (rules, arith) in
    of-bytes _ _ _ _ _ read calm c.explained-attempt.result (subst (λ (bytes : List ℕ). IsOfBytes bytes c.explained-attempt.result) c.as_slice.ensures.value c.explained-attempt.ensures)
