use Rattle.std.proofs.Common.{◌≡◌, ◌++◌, codes, List, ℕ, OnOk, subst, refl}
use Rattle.std.specs.Option.{option_map}
use Rattle.gx_print.specs.Statements.{where_text}
use Rattle.gx_print.specs.Written.{cond_syn}
use Rattle.gx_print.proofs.Nodes.{joined_twice}
use Rattle.gx_print.proofs.stmts.push_delete.Goals as goal

pub returns : goal.returns
returns c =
    let behind : List ℕ = where_text (option_map (cond_syn c.args.columns.now) c.args.cond.now) in
    let first : c.push_bytes.new.text.items ≡ c.args.text.now.items ++ codes "DELETE FROM " = c.in_ok-push_bytes.ensures in
    let second : c.push_bytes-2.new.text.items ≡ c.push_bytes.new.text.items ++ c.args.name.now = c.in_ok-push_bytes-2.ensures in
    subst (λ (x : List ℕ). OnOk c.push_where.result (c.push_where.new.text.items ≡ x)) (joined_twice c.args.text.now.items c.push_bytes.new.text.items c.push_bytes-2.new.text.items (codes "DELETE FROM ") c.args.name.now behind (codes "DELETE FROM " ++ (c.args.name.now ++ behind)) first second refl) c.push_where.ensures
