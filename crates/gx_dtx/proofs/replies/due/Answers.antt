use Rattle.gx_dtx.proofs.Asking.{due-prepared, due-committed, due-forgotten, due-aborted, is_decision-prepared}
use Rattle.gx_dtx.proofs.replies.due.Goals as goal

pub returns-in-Preparing-Prepared-clause-value : goal.returns-in-Preparing-Prepared-clause-value
returns-in-Preparing-Prepared-clause-value c = λ g participants refused.
    due-prepared g participants c.args.node refused c.in-Preparing-Prepared.awaited c.args.phase.now c.args.answer.now c.once_all.result c.in-Preparing-Prepared.writers-0 c.in-Preparing-Prepared.is-0 c.in-Preparing-Prepared.is-1 c.once_all.ensures

pub returns-in-Preparing-Prepared-clause-decision : goal.returns-in-Preparing-Prepared-clause-decision
returns-in-Preparing-Prepared-clause-decision c =
    is_decision-prepared c.args.node c.in-Preparing-Prepared.writers-0 c.in-Preparing-Prepared.awaited c.args.phase.now c.args.answer.now c.once_all.result c.in-Preparing-Prepared.is-0 c.in-Preparing-Prepared.is-1 c.once_all.ensures

pub returns-in-CommittingTwo-Committed-clause-value : goal.returns-in-CommittingTwo-Committed-clause-value
returns-in-CommittingTwo-Committed-clause-value c = λ g participants refused.
    due-committed g participants c.args.node refused c.in-CommittingTwo-Committed.awaited c.args.phase.now c.args.answer.now c.once_all-in-CommittingTwo-Committed.result c.in-CommittingTwo-Committed.is-0 c.in-CommittingTwo-Committed.is-1 c.once_all-in-CommittingTwo-Committed.ensures

pub returns-in-Ended-Forgotten-clause-value : goal.returns-in-Ended-Forgotten-clause-value
returns-in-Ended-Forgotten-clause-value c = λ g participants refused.
    due-forgotten g participants c.args.node refused c.in-Ended-Forgotten.awaited c.args.phase.now c.args.answer.now c.once_all-in-Ended-Forgotten.result c.in-Ended-Forgotten.is-0 c.in-Ended-Forgotten.is-1 c.once_all-in-Ended-Forgotten.ensures

pub returns-in-Aborting-Aborted-clause-value : goal.returns-in-Aborting-Aborted-clause-value
returns-in-Aborting-Aborted-clause-value c = λ g participants refused.
    due-aborted g participants c.args.node refused c.in-Aborting-Aborted.awaited c.args.phase.now c.args.answer.now c.once_all-in-Aborting-Aborted.result c.in-Aborting-Aborted.is-0 c.in-Aborting-Aborted.is-1 c.once_all-in-Aborting-Aborted.ensures
