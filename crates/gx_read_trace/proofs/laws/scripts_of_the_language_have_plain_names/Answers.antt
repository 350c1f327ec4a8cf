use Rattle.std.proofs.Common.{arith}
use Rattle.gx_store.specs.Language.{IsTable, table_name}
use Rattle.gx_trace.specs.Lawful.{IsLine}
use Rattle.gx_read_trace.proofs.Plain.{mapped, name-plain, names-plain}
use Rattle.gx_read_trace.proofs.laws.scripts_of_the_language_have_plain_names.Goals as goal

pub returns : goal.returns
returns c = λ script is. (
  omega (arith, is.few_lines),
  record {
    sessions = names-plain script.sessions is.sessions;
    tables = mapped IsTable IsLine table_name (λ table of_language. name-plain table.name of_language.name) script.tables is.tables;
  },
)
