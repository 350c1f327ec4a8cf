use Rattle.std.proofs.Common.{List, ap, drop, map, rules, subst, sym}
use Rattle.std.specs.Prelude.{string_bytes}
use Rattle.std.specs.declared.string.String.{String}
use Rattle.std.specs.declared.alloc.Global.{Global}
use Rattle.std.proofs.lemmas.List.{take_rest}
use Rattle.gx_words.specs.Words.{IsCommand}
use Rattle.gx_judge.proofs.Words.{as-fault, two-and-others}
use Rattle.gx_judge.proofs.asked.read_refusing.Goals as goal

pub returns-in-Err-clause-refused : goal.returns-in-Err-clause-refused
returns-in-Err-clause-refused c e append options r =
    let refused = rw take_rest at c.in-Err.ensures.refused in
    refused (as-fault _ _ e) options (subst (λ (ws : List (String Global)). IsCommand (map string_bytes ws) options) (sym (ap (λ (ws : List (String Global)). drop 2 ws) r.are)) r.asked)

pub returns-in-Ok-clause-read : goal.returns-in-Ok-clause-read
returns-in-Ok-clause-read c = record {
  first = c.first-item.result;
  text = c.text-item.result;
  others = drop 2 c.args.words.now;
  are = two-and-others c.args.words.now c.first-item.result c.text-item.result _ _ c.in-len2-up.len_at_least c.first-item.is c.text-item.is;
  refuse = search rules;
  named = search rules;
  asked = rw take_rest at c.in-Ok.ensures.read;
}
