use Rattle.std.proofs.Common.{◌≡◌, ◌++◌, [], ℕ, List, OnOk, ap, refl, sym, subst}
use Rattle.std.proofs.lemmas.Result.{IfOk-weaker}
use Rattle.gx_sql.specs.Held.{progress_of}
use Rattle.gx_sql.specs.Lines.{lines_of}
use Rattle.gx_sql.specs.Progress.{Progress}
use Rattle.gx_sql.specs.declared.refusal.LineFault.{LineFault}
use Rattle.gx_explain.specs.Top.{AreShown}
use Rattle.gx_explain.proofs.telling.push_first.Goals as goal

-- what is added where these lines are left
abbrev IsAdded : Progress → LineFault → List ℕ → List ℕ → List (List ℕ) → Type 0
IsAdded p f old new lines = (shown : List ℕ) × (words : List ℕ) × AreShown p f lines shown × (new ≡ old ++ (shown ++ words))

pub returns-in-Some : goal.returns-in-Some
returns-in-Some c =
    let said = progress_of c.args.progress.now in
    subst (λ (lines : List (List ℕ)). OnOk c.push_line.result (IsAdded said c.args.fault c.args.text.now.items c.push_line.new.text.items lines))
    (sym c.in-Some.ensures.cases) c.push_line.ensures

pub returns-in-None : goal.returns-in-None
returns-in-None c =
    let said = progress_of c.args.progress.now in
    subst (λ (lines : List (List ℕ)). OnOk c.push_bytes.result (IsAdded said c.args.fault c.args.text.now.items c.push_bytes.new.text.items lines))
    (sym (ap lines_of c.in-None.ensures.cases)) (IfOk-weaker c.push_bytes.result _ _ (λ m h. ([], _, refl, h)) c.push_bytes.ensures)
