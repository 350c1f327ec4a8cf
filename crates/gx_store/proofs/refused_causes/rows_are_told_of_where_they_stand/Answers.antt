use Rattle.gx_store.proofs.RefusedCauses.{causes-faulted-elsewhere, causes-overtaken-elsewhere, causes-skipped-elsewhere}
use Rattle.gx_store.proofs.refused_causes.rows_are_told_of_where_they_stand.Goals as goal

pub returns-clause-skipped : goal.returns-clause-skipped
returns-clause-skipped c = λ table assigns cond before snapshot row. causes-skipped-elsewhere table assigns cond before snapshot row

pub returns-clause-faulted : goal.returns-clause-faulted
returns-clause-faulted c = λ table assigns cond before snapshot row image. causes-faulted-elsewhere table assigns cond before snapshot row image

pub returns-clause-overtaken : goal.returns-clause-overtaken
returns-clause-overtaken c = λ table assigns cond other before snapshot later row. causes-overtaken-elsewhere table assigns cond other before snapshot later row
