-- A script that was read keeps the rules and the limits of the language, its INSERTs are whole, and none has more tuples than a script has bytes.
use Rattle.std.proofs.Common.{ℕ, List, Option, Ok, arith}
use Rattle.gx_script.specs.declared.Script.{Script}
use Rattle.gx_sql.proofs.Limited.{faults-once, script-is, tuples-few}
use Rattle.gx_law_scripts.proofs.Whole.{inserts_whole}
use Rattle.gx_words.specs.Asked.{limit}
use Rattle.gx.specs.Top.{IsRead, KeepsLanguage}

pub keeps_language : (left after : Option (List ℕ)) (work : Option ℕ) (script : Script) → IsRead work left after (Ok script) → KeepsLanguage script
keeps_language left after work script read = record {
  language = script-is read.bytes script (let few = read.few in omega (arith, few)) read.is;
  faults = faults-once read.bytes script read.is;
  inserts = inserts_whole read.bytes script read.is;
  tuples = tuples-few limit read.bytes script read.few read.is;
}
