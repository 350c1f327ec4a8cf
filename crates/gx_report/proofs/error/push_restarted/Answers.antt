use Rattle.std.proofs.Common.{◌≡◌, ◌++◌, codes, OnOk, subst}
use Rattle.gx_report.specs.Error.{numbered_text}
use Rattle.gx_report.proofs.error.push_restarted.Goals as goal

pub returns : goal.returns
returns c =
    subst (λ n. OnOk c.push_numbered.result (c.push_numbered.new.text.items ≡ c.args.text.now.items ++ numbered_text (codes "ERROR 8 segment ") n (codes " restarted\n"))) c.from.ensures c.push_numbered.ensures
