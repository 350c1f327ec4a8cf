use Rattle.gx_store.proofs.RefusedCauses.{causes-answered, causes-prepared}
use Rattle.gx_store.proofs.refused_causes.commands_go_out_in_time.Goals as goal

pub returns-clause-prepared : goal.returns-clause-prepared
returns-clause-prepared c = λ script table one other s row more. causes-prepared script table one other s row more

pub returns-clause-answered : goal.returns-clause-answered
returns-clause-answered c = λ script table tuple s row. causes-answered script table tuple s row
