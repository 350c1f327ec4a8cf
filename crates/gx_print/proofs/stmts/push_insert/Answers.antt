use Rattle.std.proofs.Common.{◌≡◌, ◌++◌, ◌∙◌, codes, List, ℕ, OnOk, subst, refl, map}
use Rattle.gx_print.specs.Statements.{list_text, tuple_text}
use Rattle.gx_print.specs.Written.{tuple_syn}
use Rattle.gx_print.proofs.Nodes.{joined, joined_twice}
use Rattle.gx_print.proofs.stmts.push_insert.Goals as goal

pub returns : goal.returns
returns c =
    let behind : List ℕ = codes " VALUES " ++ list_text tuple_text (map (tuple_syn c.args.columns.now) c.args.tuples.now) in
    let first : c.push_bytes.new.text.items ≡ c.args.text.now.items ++ codes "INSERT INTO " = c.in_ok-push_bytes.ensures in
    let second : c.push_bytes-2.new.text.items ≡ c.push_bytes.new.text.items ++ c.args.name.now = c.in_ok-push_bytes-2.ensures in
    let third : c.push_bytes-3.new.text.items ≡ c.push_bytes-2.new.text.items ++ codes " VALUES " = c.in_ok-push_bytes-3.ensures in
    let tuples : List ℕ = list_text tuple_text (map (tuple_syn c.args.columns.now) c.args.tuples.now) in
    let last = joined c.push_bytes-2.new.text.items c.push_bytes-3.new.text.items (codes " VALUES ") tuples behind third refl in
    subst (λ (x : List ℕ). OnOk c.push_list.result (c.push_list.new.text.items ≡ x)) (last ∙ joined_twice c.args.text.now.items c.push_bytes.new.text.items c.push_bytes-2.new.text.items (codes "INSERT INTO ") c.args.name.now behind (codes "INSERT INTO " ++ (c.args.name.now ++ behind)) first second refl) c.push_list.ensures
