-- Complete rounds, and graphs that change nothing.
use Rattle.std.proofs.Common.{◌≡◌, ℕ, zero, suc, ◌+◌, ◌≤◌, ◌<◌, Bool, true, false, cond, eqb, ◌&&◌, List, [], ◌∷◌, map, refl, sym, ap, ◌∙◌, subst, inl, inr, ⊎_elim, arith}
use Rattle.std.proofs.lemmas.Bool.{cases_lt, eqb-true, eq-eqb}
use Rattle.std.specs.List.{filter_map, find, list_all, range_with_len}
use Rattle.std.specs.Option.{option_map, option_or}
use Rattle.std.specs.Prelude.{Option, None, Some, is_some}
use Rattle.gx_waits.specs.declared.graph.LocalGraph.{LocalGraph}
use Rattle.gx_waits.proofs.Members.{Has, any_from_has, has_from_any}
use Rattle.gx_detect.specs.Reports.{noted}
use Rattle.gx_detect.specs.Rounds.{Rounds, are_all, gathered, graphs_in, heard, is_complete}
use Rattle.gx_detect.specs.Calls.{AreOfFirstReports, Call, HasReported, HaveAllReported, Hear, Report, after, begun_by, first_from, first_from_each, heard_since, is_from, is_running}
use Rattle.gx_detect.proofs.Places.{eqb-other}
use Rattle.gx_detect.proofs.Told.{after-told, alike, graph_of, heard-idle, heard-running, only, told_if}

never : false ≡ true → ⊥
never e = cc

both : (a b : Bool) → (a && b) ≡ true → (a ≡ true) × (b ≡ true)
both true b e = (refl, e)
both false b e = absurd (never e)

all_some : (k n : ℕ) (from : ℕ → Option LocalGraph) → list_all is_some (map from (range_with_len k n)) ≡ true → (j : ℕ) → k ≤ j → j < k + n
    → is_some (from j) ≡ true
all_some k zero from all j low high = absurd (omega arith)
all_some k (suc n) from all j low high =
    let parts = both (is_some (from k)) (list_all is_some (map from (range_with_len (k + 1) n))) all in
    ⊎_elim
    (λ (l : k < j). all_some (k + 1) n from parts.1 j (omega arith) (omega arith))
    (λ (u : j ≤ k). let e : k ≡ j = omega arith in subst (λ i. is_some (from i) ≡ true) e parts.0)
    (cases_lt k j)

some_all : (k n : ℕ) (from : ℕ → Option LocalGraph) → ((j : ℕ) → k ≤ j → j < k + n → is_some (from j) ≡ true)
    → list_all is_some (map from (range_with_len k n)) ≡ true
some_all k zero from each = refl
some_all k (suc n) from each =
    ap (λ (b : Bool). b && list_all is_some (map from (range_with_len (k + 1) n))) (each k (omega arith) (omega arith))
    ∙ some_all (k + 1) n from (λ j low high. each j (omega arith) (omega arith))

-- WHO HAS REPORTED
facts : (round k : ℕ) (report : Report) → is_from round k report ≡ true → (report.round ≡ round) × (report.graph.node.0 ≡ k)
facts round k report t =
    let parts = both (eqb report.round round) (eqb report.graph.node.0 k) t in
    (eqb-true report.round round parts.0, eqb-true report.graph.node.0 k parts.1)

test : (round k : ℕ) (report : Report) → (report.round ≡ round) × (report.graph.node.0 ≡ k) → is_from round k report ≡ true
test round k report (a, b) = ap (λ (t : Bool). t && eqb report.graph.node.0 k) (eq-eqb report.round round a) ∙ eq-eqb report.graph.node.0 k b

reporter : (round k : ℕ) (reports : List Report) → is_some (first_from round reports k) ≡ true → (r : Report) × Has r reports
    × (is_from round k r ≡ true)
reporter round k [] e = absurd (never e)
reporter round k (r ∷ rs) e = go (is_from round k r) refl e (reporter round k rs)
  where
    go : (b : Bool) → is_from round k r ≡ b → is_some (option_map graph_of (cond b (Some r) (find (is_from round k) rs))) ≡ true
        → (is_some (first_from round rs k) ≡ true → (q : Report) × Has q rs × (is_from round k q ≡ true))
        → (q : Report) × Has q (r ∷ rs) × (is_from round k q ≡ true)
    go true t s rest = (r, inl refl, t)
    go false t s rest = let q = rest s in (q.0, inr q.1, q.2)

reported : (round k : ℕ) (reports : List Report) (r : Report) → Has r reports → is_from round k r ≡ true → is_some (first_from round reports k) ≡ true
reported round k [] r h t = absurd h
reported round k (q ∷ rs) r (inl e) t = ap (λ (b : Bool). is_some (option_map graph_of (cond b (Some q) (find (is_from round k) rs))))
    (ap (λ (x : Report). is_from round k x) e ∙ t)
reported round k (q ∷ rs) r (inr h) t = go (is_from round k q) (reported round k rs r h t)
  where
    go : (b : Bool) → is_some (first_from round rs k) ≡ true → is_some (option_map graph_of (cond b (Some q) (find (is_from round k) rs))) ≡ true
    go true s = refl
    go false s = s

pub has_reported : (round k : ℕ) (reports : List Report) → is_some (first_from round reports k) ≡ true → HasReported round k reports
has_reported round k reports e =
    let r = reporter round k reports e in any_from_has (λ report. (report.round ≡ round) × (report.graph.node.0 ≡ k)) reports r.0 r.1
    (facts round k r.0 r.2)

pub is_reported : (round k : ℕ) (reports : List Report) → HasReported round k reports → is_some (first_from round reports k) ≡ true
is_reported round k reports h =
    let r = has_from_any (λ report. (report.round ≡ round) × (report.graph.node.0 ≡ k)) reports h in reported round k reports r.0 r.1
    (test round k r.0 r.2)

-- COMPLETE ROUNDS
all_if : (b : Bool) (reports : List (Option LocalGraph)) → are_all (cond b (Some reports) None) ≡ true → (b ≡ true)
    × (list_all is_some reports ≡ true)
all_if true reports e = (refl, e)
all_if false reports e = absurd (never e)

kept : (reports : List (Option LocalGraph)) → list_all is_some reports ≡ true → map Some (filter_map (λ report. report) reports) ≡ reports
kept [] e = refl
kept (None ∷ rs) e = absurd (never e)
kept (Some g ∷ rs) e = ap (λ (xs : List (Option LocalGraph)). Some g ∷ xs) (kept rs e)

graphs-if : (b : Bool) (reports : List (Option LocalGraph)) → are_all (cond b (Some reports) None) ≡ true
    → map Some (graphs_in (cond b (Some reports) None)) ≡ reports
graphs-if true reports e = kept reports e
graphs-if false reports e = absurd (never e)

module _ (segments : ℕ) (calls : List Call) where
  abbrev of_each : List (Option LocalGraph)
  of_each = first_from_each segments (begun_by calls) (heard_since calls)

  told-complete : is_complete (after segments calls) ≡ true → are_all (cond (is_running calls) (Some of_each) None) ≡ true
  told-complete e = sym (ap is_complete (after-told segments calls)) ∙ e

  pub complete_tells : is_complete (after segments calls) ≡ true → (is_running calls ≡ true) × HaveAllReported segments calls
  complete_tells e =
      let parts = all_if (is_running calls) of_each (told-complete e) in (
        parts.0,
        λ segment low high. has_reported (begun_by calls) segment (heard_since calls)
            (all_some 1 segments (first_from (begun_by calls) (heard_since calls)) parts.1 segment low (omega arith)),
      )

  pub is_complete_if : (is_running calls ≡ true) × HaveAllReported segments calls → is_complete (after segments calls) ≡ true
  is_complete_if (runs, each) =
      ap is_complete (after-told segments calls)
      ∙ ap (λ (b : Bool). are_all (cond b (Some of_each) None)) runs
      ∙ some_all 1 segments (first_from (begun_by calls) (heard_since calls))
      (λ j low high. is_reported (begun_by calls) j (heard_since calls) (each j low (omega arith)))

  pub over_first : (own : LocalGraph) → is_complete (after segments calls) ≡ true
      → AreOfFirstReports segments calls own (gathered (after segments calls) own)
  over_first own e = record {
    graphs = graphs_in (after segments calls).reports;
    firsts = ap (λ (d : Rounds). map Some (graphs_in d.reports)) (after-told segments calls) ∙ graphs-if (is_running calls) of_each (told-complete e);
    together = refl;
  }

-- GRAPHS THAT CHANGE NOTHING
stays : (o : Option LocalGraph) (b : Bool) (graph : LocalGraph) → (b ≡ true → is_some o ≡ true) → option_or o (only b graph) ≡ o
stays (Some g) b graph some = refl
stays None true graph some = absurd (never (some refl))
stays None false graph some = refl

otherwise : (b : Bool) (d e : Rounds) → b ≡ false → cond b d e ≡ e
otherwise b d e fails = ap (λ (t : Bool). cond t d e) fails

module _ (segments : ℕ) (calls : List Call) (report : Report) where
  abbrev before : Bool → Rounds
  before b = told_if segments (begun_by calls) (heard_since calls) b

  abbrev Unchanged : Bool → Type 0
  Unchanged b = heard (before b) report.round report.graph ≡ before b

  unchanged : Unchanged (is_running calls) → after segments (Hear report ∷ calls) ≡ after segments calls
  unchanged same = ap (λ (d : Rounds). heard d report.round report.graph) (after-told segments calls) ∙ same ∙ sym (after-told segments calls)

  unchanged_idle : Unchanged false
  unchanged_idle = heard-idle segments (begun_by calls) report.round report.graph

  pub no_round : is_running calls ≡ false → after segments (Hear report ∷ calls) ≡ after segments calls
  no_round idle = unchanged (subst Unchanged (sym idle) unchanged_idle)

  pub late_or_early : (report.round ≡ begun_by calls → ⊥) → after segments (Hear report ∷ calls) ≡ after segments calls
  late_or_early other =
      let now = before (is_running calls) in
      unchanged (otherwise (eqb report.round (begun_by calls))
      (record now { reports = option_map (λ reports. noted reports report.graph) now.reports }) now
      (eqb-other report.round (begun_by calls) other))

  abbrev came : ℕ → Option LocalGraph
  came = first_from (begun_by calls) (heard_since calls)

  pub repeated : HasReported (begun_by calls) report.graph.node.0 (heard_since calls) → after segments (Hear report ∷ calls) ≡ after segments calls
  repeated has = unchanged (go (is_running calls))
    where
      some : (k : ℕ) → is_from (begun_by calls) k report ≡ true → is_some (came k) ≡ true
      some k t = subst (λ i. is_some (came i) ≡ true) (facts (begun_by calls) k report t).1
          (is_reported (begun_by calls) report.graph.node.0 (heard_since calls) has)

      go : (b : Bool) → Unchanged b
      go false = unchanged_idle
      go true =
          heard-running segments (begun_by calls) came report
          ∙ alike segments (begun_by calls) (λ k. option_or (came k) (only (is_from (begun_by calls) k report) report.graph)) came
          (λ k. stays (came k) (is_from (begun_by calls) k report) report.graph (some k))
