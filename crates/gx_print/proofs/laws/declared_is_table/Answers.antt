use Rattle.gx_print.proofs.TableNames.{declared_table}
use Rattle.gx_print.proofs.laws.declared_is_table.Goals as goal

pub returns : goal.returns
returns c = declared_table
