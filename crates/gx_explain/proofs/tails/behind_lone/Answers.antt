use Rattle.std.proofs.Common.{refl}
use Rattle.gx_explain.proofs.Bytes.{behind-lone, behind-stray}
use Rattle.gx_explain.proofs.tails.behind_lone.Goals as goal

pub returns-in-Some-clause-value : goal.returns-in-Some-clause-value
returns-in-Some-clause-value c = behind-lone c.args.first c.args.behind.now c.in-Some.field-0 c.in-Some.ensures

pub returns-in-None-clause-value : goal.returns-in-None-clause-value
returns-in-None-clause-value c = behind-stray c.args.first c.args.behind.now _ c.requires.blank c.requires.letter c.requires.digit c.requires.quote c.requires.less c.requires.greater c.in-None.ensures refl
