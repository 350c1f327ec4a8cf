-- Tables and lines that names and kinds let through.
use Rattle.std.proofs.Common.{◌≡◌, ℕ, Bool, true, false, List, [], ◌∷◌, ◌++◌, ◌+◌, IfErr, OnOk, length, map, Result, Ok, Err, refl, sym, ◌∙◌, ap, subst, arith}
use Rattle.gx_tree.specs.declared.schema.Schema.{Schema}
use Rattle.gx_tree.specs.declared.schema.Dist.{Dist}
use Rattle.gx_tree.specs.declared.stmt.Stmt.{Stmt}
use Rattle.gx_script.specs.declared.Line.{Line}
use Rattle.gx_lines.specs.declared.syn.TableSyn.{TableSyn}
use Rattle.gx_resolve.specs.declared.fault.ResolveError.{ResolveError}
use Rattle.gx_resolve.specs.declared.fault.ResolveError.TheVariants as resolve
use Rattle.gx_resolve.specs.Results.{Answer, ◌>>=◌, Says}
use Rattle.gx_resolve.specs.Resolving.{column_as, columns_new, dist_as, table_from}
use Rattle.gx_sql.specs.declared.refusal.LineFault.{LineFault}
use Rattle.gx_sql.specs.declared.refusal.LineError.{LineError}
use Rattle.gx_sql.specs.declared.refusal.LineError.TheVariants as error
use Rattle.gx_sql.specs.Errors.{IsOfNames}
use Rattle.gx_sql.specs.Held.{Ends, Gives}
use Rattle.gx_sql.specs.Progress.{Progress, giving, counted, count_of, next_line, with_line}

-- a stage's error ends the line with its own
pub ends_names : {A X : Type 0} (f : A → X) (x : X) (e : ResolveError) (err : LineError) (answer : Answer A) → IsOfNames e err → Says (Err e) answer → Ends (Err err) x (giving f answer)
ends_names {A = A} {X = X} f x (resolve.Fault fault) err answer h s = subst (λ (err : LineError). Ends (Err err) x (giving f answer)) (sym h) (ap (λ (a : Answer A). giving f a) s)
ends_names {A = A} {X = X} f x resolve.OutOfMemory err answer h s = subst (λ (err : LineError). Ends (Err err) x (giving f answer)) (sym h) tt

length_map : {X Y : Type 0} (f : X → Y) (xs : List X) → length (map f xs) ≡ length xs
length_map f [] = refl
length_map f (x ∷ xs) = let more = length_map f xs in omega arith

spread : (t : TableSyn) (a : Answer Dist) (s : Schema) → (a >>= λ d. Ok (record { name = t.name; columns = map column_as t.columns; dist = d })) ≡ Ok s → (s.name ≡ t.name) × (s.columns ≡ map column_as t.columns)
spread t (Ok d) s e = (cc, cc)
spread t (Err f) s e = absurd cc

made : (t : TableSyn) (a : Answer (Unit {0})) (s : Schema) → (a >>= λ _. (dist_as (map column_as t.columns) t.dist >>= λ d. Ok (record { name = t.name; columns = map column_as t.columns; dist = d }))) ≡ Ok s → (s.name ≡ t.name) × (s.columns ≡ map column_as t.columns)
made t (Ok u) s e = spread t (dist_as (map column_as t.columns) t.dist) s e
made t (Err f) s e = absurd cc

pub made_columns : (known : Bool) (t : TableSyn) (s : Schema) → table_from known t ≡ Ok s → s.columns ≡ map column_as t.columns
made_columns true t s e = absurd cc
made_columns false t s e = (made t (columns_new [] t.columns) s e).1

-- a table that a line declares is new, has the line's name and as many columns
pub table_made : (known : Bool) (t : TableSyn) (s : Schema) → table_from known t ≡ Ok s → (known ≡ false) × (s.name ≡ t.name) × (length s.columns ≡ length t.columns)
table_made true t s e = absurd cc
table_made false t s e =
    let h = made t (columns_new [] t.columns) s e in
    (refl, h.0, ap length h.1 ∙ length_map column_as t.columns)

pub ends_line : (p : Progress) (name : List ℕ) (stmt : Stmt) (ss : List (List ℕ × ℕ)) (ls : List Line) (answer : Answer Stmt) (r : Result (Unit {0}) LineError) → answer ≡ Ok stmt → IfErr r (λ e. e ≡ error.OutOfMemory)
    → OnOk r (ss ≡ counted name (count_of name p.sessions + 1) p.sessions) → OnOk r (ls ≡ p.lines ++ next_line name p.sessions stmt ∷ []) → Ends r (record p { sessions = ss; lines = ls }) (giving (with_line p name) answer)
ends_line p name stmt ss ls answer (Ok u) e n a b = ap (giving (with_line p name)) e ∙ ap (λ (t : List (List ℕ × ℕ)). Ok (record p { sessions = t; lines = p.lines ++ next_line name p.sessions stmt ∷ [] })) (sym a) ∙ ap (λ (t : List Line). Ok (record p { sessions = ss; lines = t })) (sym b)
ends_line p name stmt ss ls answer (Err err) e n a b = subst (λ (err : LineError). Ends (Err err) (record p { sessions = ss; lines = ls }) (giving (with_line p name) answer)) (sym n) tt

err_giving : {A X : Type 0} (f : A → X) (answer : Answer A) (e : LineFault) → giving (λ a. a) answer ≡ Err e → giving f answer ≡ Err e
err_giving f (Ok a) e h = absurd cc
err_giving f (Err k) e h = cc

pub ends_giving : {A X : Type 0} (f : A → X) (x : X) (answer : Answer A) (e : LineError) → Gives (Err e) (giving (λ (a : A). a) answer) → Ends (Err e) x (giving f answer)
ends_giving f x answer (error.Fault k) h = err_giving f answer k h
ends_giving f x answer error.OutOfMemory h = tt

pub ok_giving : {A : Type 0} (a : A) (answer : Answer A) → giving (λ (a : A). a) answer ≡ Ok a → answer ≡ Ok a
ok_giving a (Ok b) h = cc
ok_giving a (Err k) h = absurd cc
