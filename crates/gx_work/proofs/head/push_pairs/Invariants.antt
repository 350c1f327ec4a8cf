use Rattle.std.proofs.Common.{◌≡◌, ◌-◌, ◌++◌}
use Rattle.gx_work.specs.Text.{pairs_from}
use Rattle.gx_work.proofs.head.push_pairs.Given as goal

abbrev pub invariant-loop-account : goal.invariant-loop-account
invariant-loop-account l = l.text.items ++ pairs_from l.account (l.accounts - l.account) ≡ l.initial.text.items ++ pairs_from 0 l.accounts
