use Rattle.std.proofs.Common.{rules}
use Rattle.std.proofs.lemmas.Fn.{filter_same}
use Rattle.gx_groups.proofs.Sessions.{shorter-without}
use Rattle.gx_groups.proofs.members.take_out.Goals as goal

pub returns-clause-items : goal.returns-clause-items
returns-clause-items c = filter_same _ _ _ (λ x b f' k. search rules) _ _ c.retain.ensures.filtered

pub returns-clause-shorter : goal.returns-clause-shorter
returns-clause-shorter c = λ there. rw (returns-clause-items c) (shorter-without c.args.session c.args.sessions.now.items there)
