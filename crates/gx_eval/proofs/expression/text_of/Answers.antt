use Rattle.std.proofs.Common.{◌≡◌, ◌∙◌, ap, None, Some, Ok, Option, MatchOption}
use Rattle.gx_meaning.specs.Kinds.{kind_of, kinds_of, value_kind}
use Rattle.gx_meaning.specs.Expressions.{value_of}
use Rattle.gx_meaning.proofs.KindLemmas.{column_within, kind_of-column}
use Rattle.gx_meaning.proofs.Nodes.{value_of-col}
use Rattle.gx_eval.proofs.expression.text_of.Goals as goal

pub column_value-requires : goal.column_value-requires
column_value-requires c = column_within c.args.row.now c.args.expr.now c.in-Col.column c.in-Col.is c.requires

MatchOption-weaker : {T P R : Type 0} {Q S : T → Type 0} (o : Option T) → (P → R) → ((x : T) → Q x → S x) → MatchOption o P Q → MatchOption o R S
MatchOption-weaker None none some h = none h
MatchOption-weaker (Some x) none some h = some x h

pub returns-in-Col : goal.returns-in-Col
returns-in-Col c =
    let kind_is : kind_of (kinds_of c.args.row.now) c.args.expr.now ≡ Some (value_kind c.column_value.result.now) =
    kind_of-column c.args.row.now c.args.expr.now c.in-Col.column c.in-Col.is c.requires ∙ ap (λ v. Some (value_kind v)) (cc) in
    let value_is : value_of c.args.row.now c.args.expr.now ≡ Ok c.column_value.result.now =
    cc (value_of-col c.args.row.now c.in-Col.column, c.in-Col.is) in
    MatchOption-weaker c.text-in-Col.result (λ number. kind_is ∙ ap Some number)
    (λ text same. (kind_is ∙ ap (λ v. Some (value_kind v)) same, value_is ∙ ap Ok same)) c.text-in-Col.ensures
