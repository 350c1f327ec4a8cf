use Rattle.std.proofs.Common.{refl}
use Rattle.gx_rules.specs.RoundRuns.{AwaitsEach, CancelsBoth, CancelsYounger, DecidesOver, DropsTheRound, FindsNobody, GathersReports, ReportsItsWait, TakesItsOwnGraphs}

pub cancels_younger : CancelsYounger
cancels_younger = record { begun = refl; reported = refl; decided = refl; answers = refl }

pub cancels_both : CancelsBoth
cancels_both = record { decided = refl }

pub finds_nobody : FindsNobody
finds_nobody = record { decided = refl; over = refl }

pub takes_its_own_graphs : TakesItsOwnGraphs
takes_its_own_graphs = record { late = refl; awaited = refl; kept = refl; older = refl; one_round = refl; again = refl; decided = refl; no_more = refl }

pub awaits_each : AwaitsEach
awaits_each = record { first = refl; noted = refl; awaits_other = refl; has_first = refl; again = refl; later = refl; other_place = refl; decided = refl }

pub gathers_reports : GathersReports
gathers_reports = record { marks = refl; over = refl; dotted = refl }

pub drops_the_round : DropsTheRound
drops_the_round = record { marks = refl }

pub reports_its_wait : ReportsItsWait
reports_its_wait = record { marks = refl; round = refl; graph = refl }

pub decides_over : DecidesOver
decides_over = record { freed = refl; held_up = refl; outside = refl; beside = refl; elsewhere = refl; dropped = refl }
