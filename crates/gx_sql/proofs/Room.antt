-- A line that passes no count has room.
use Rattle.std.proofs.Common.{◌≡◌, inl, inr, ℕ, zero, suc, ◌≤◌, ◌<◌, nat_le, nat_lt, Bool, true, false, not, ◌&&◌, List, [], ◌∷◌, ◌++◌, length, Some, None, refl, sym, ◌∙◌, ap, subst, append_assoc, arith}
use Rattle.gx_lex.specs.declared.token.Token.{Token}
use Rattle.gx_lex.specs.declared.token.Token.TheVariants as token
use Rattle.gx_lex.specs.declared.word.Word.{Word}
use Rattle.gx_lex.specs.declared.word.Word.TheVariants as word
use Rattle.gx_lex.specs.declared.symbol.Symbol.TheVariants as symbol
use Rattle.gx_grammar.specs.declared.fault.Limits.{Limits}
use Rattle.gx_grammar.specs.Rules.{Is, many, behind}
use Rattle.gx_grammar.specs.Tokens.{is_word, is_comma, name_of}
use Rattle.gx_lines.specs.declared.syn.ColumnSyn.{ColumnSyn}
use Rattle.gx_lines.specs.declared.syn.TableSyn.{TableSyn}
use Rattle.gx_lines.specs.declared.syn.LineSyn.{LineSyn}
use Rattle.gx_lines.specs.declared.syn.LineSyn.TheVariants as line_syn
use Rattle.gx_lines.specs.Classes.{number_in, in_range}
use Rattle.gx_lines.specs.Queries.{name}
use Rattle.gx_lines.specs.Heads.{column, table, link, group, session_line, head_line}
use Rattle.gx_lines.proofs.Told.{sign_is}
use Rattle.gx_lines.proofs.Classing.{name_first}
use Rattle.gx_lines.proofs.Follow.{marked_true}
use Rattle.gx_sql.specs.declared.refusal.Limit.{Limit}
use Rattle.gx_sql.specs.declared.refusal.Limit.TheVariants as limit
use Rattle.gx_sql.specs.declared.refusal.Limit.TheVariants.{Sessions, Tables, Groups, Columns}
use Rattle.gx_sql.specs.Counts.{is_session, passes_sessions, passes_tables, passes_groups, PassesColumns, PassesInHead, PassesInLine}
use Rattle.gx_sql.specs.Held.{HasRoom}

-- TOKENS
is_name : (d : Limits) (y : Token) (n : List ℕ) → name_of d y ≡ Is n → (m : List ℕ) × (y ≡ token.Name m)
is_name d y n e = name_first (λ y. (m : List ℕ) × (y ≡ token.Name m)) (λ m. (m, refl)) d y n e

same_name : (d : Limits) (m n : List ℕ) → name_of d (token.Name m) ≡ Is n → m ≡ n
same_name d m n e = pick (nat_le (length m) d.name) refl
  where
    pick : (b : Bool) → nat_le (length m) d.name ≡ b → m ≡ n
    pick true q = cc
    pick false q = absurd cc

-- a word and a name
abbrev pub IsNamed : (Token → Type 0) → List Token → Type 0
IsNamed P us = (k : Token) × (m : List ℕ) × P k × (us ≡ k ∷ token.Name m ∷ [])

pub behind_name : (w : Word) (d : Limits) (n : List ℕ) (us : List Token) → behind (is_word w) (name d) n us → IsNamed (λ k. is_word w k ≡ true) us
behind_name w d n us (p, e, (ks, ls, (k, mk, o), (y, ny, oy), r)) =
    let m = is_name d y p.1 ny in
    (k, m.0, marked_true (is_word w) k p.0 mk, r ∙ ap (λ (t : List Token). t ++ ls) o ∙ ap (λ (t : List Token). k ∷ t) (oy ∙ ap (λ (y : Token). y ∷ []) m.1))

-- a comma, a name and one token more
comma_column : (d : Limits) (c : ColumnSyn) (us : List Token) → behind is_comma (column d) c us → (m : List ℕ) × (more : List Token) × (us ≡ token.Symbol symbol.Comma ∷ token.Name m ∷ more)
comma_column d c us (p, e, (ks, ls, (k, mk, o), (a, f, (ns, ms, (y, ny, oy), z, s)), r)) =
    let comma = sign_is symbol.Comma k (marked_true is_comma k p.0 mk) in
    let m = is_name d y a.0 ny in
    (m.0, ms, r ∙ ap (λ (t : List Token). t ++ ls) (o ∙ ap (λ (k : Token). k ∷ []) comma) ∙ ap (λ (t : List Token). token.Symbol symbol.Comma ∷ t) (s ∙ ap (λ (t : List Token). t ++ ms) (oy ∙ ap (λ (y : Token). y ∷ []) m.1)))

none_below : (n : ℕ) → n < 0 → ⊥
none_below n l = omega arith

-- LISTS
module _ {A : Type 0} (g : A → List Token → Type 0) where
  -- a list that is longer than n: n items, and a further one
  abbrev Parted : ℕ → List Token → Type 0
  Parted n ts = (xs : List A) × (y : A) × (us : List Token) × (vs : List Token) × (ws : List Token) × (length xs ≡ n) × many g xs us × g y vs × (ts ≡ us ++ (vs ++ ws))

  split_many : (n : ℕ) (s : List A) (ts : List Token) → many g s ts → n < length s → Parted n ts
  split_many n [] ts q l = absurd (none_below n l)
  split_many zero (a ∷ s) ts (us, vs, q, m, e) l = ([], a, [], us, vs, refl, refl, q, e)
  split_many (suc n) (a ∷ s) ts (us, vs, q, m, e) l = more (split_many n s vs m (less l))
    where
      less : suc n < length (a ∷ s) → n < length s
      less l = omega arith

      more : Parted n vs → Parted (suc n) ts
      more (xs, y, us', vs', ws, len, mx, gy, f) = (a ∷ xs, y, us ++ us', vs', ws, longer len, (us, us', q, mx, refl), gy, e ∙ ap (λ (t : List Token). us ++ t) f ∙ sym (append_assoc us us' (vs' ++ ws)))
        where
          longer : length xs ≡ n → length (a ∷ xs) ≡ suc n
          longer e = omega arith

regroup : (us os cs ms vs ws bs xs : List Token) → us ++ (((os ++ (cs ++ (ms ++ (vs ++ ws)))) ++ bs) ++ xs) ≡ (us ++ (os ++ (cs ++ ms))) ++ (vs ++ (ws ++ (bs ++ xs)))
regroup us os cs ms vs ws bs xs =
    ap (λ (t : List Token). us ++ t) (append_assoc (os ++ (cs ++ (ms ++ (vs ++ ws)))) bs xs ∙ append_assoc os (cs ++ (ms ++ (vs ++ ws))) (bs ++ xs)
    ∙ ap (λ (t : List Token). os ++ t) (append_assoc cs (ms ++ (vs ++ ws)) (bs ++ xs) ∙ ap (λ (t : List Token). cs ++ t) (append_assoc ms (vs ++ ws) (bs ++ xs) ∙ ap (λ (t : List Token). ms ++ t) (append_assoc vs ws (bs ++ xs)))))
    ∙ sym (append_assoc us (os ++ (cs ++ ms)) (vs ++ (ws ++ (bs ++ xs))) ∙ ap (λ (t : List Token). us ++ t) (append_assoc os (cs ++ ms) (vs ++ (ws ++ (bs ++ xs))) ∙ ap (λ (t : List Token). os ++ t) (append_assoc cs ms (vs ++ (ws ++ (bs ++ xs))))))

-- a table's line with more than 32 columns goes on with the name of a 33rd
pub long_passes : (d : Limits) (line : LineSyn) (t : TableSyn) (ts : List Token) → line ≡ line_syn.Table t → table d line ts → 32 < length t.columns → PassesColumns d ts
long_passes d line t ts is (p, e, (us, vs, q, (ws, xs, (w, e2, (zs, bs, (x, e3, (os, ls, on, (y, e4, (c0, c1, co, ma, r4)), r3)), cl, r2)), di, r1), r0)) l =
    let columns : t.columns ≡ y.0 ∷ y.1 = same_columns t p.1.0 (sym is ∙ e) ∙ e2 ∙ e3 ∙ e4 in
    let long : 31 < length y.1 = less (ap length columns) l in
    passed (split_many (behind is_comma (column d)) 31 y.1 c1 ma long)
  where
    same_columns : (t : TableSyn) (cs : List ColumnSyn) → line_syn.Table t ≡ line_syn.Table (record { name = p.0; columns = cs; dist = p.1.1 }) → t.columns ≡ cs
    same_columns t cs e = cc

    less : length t.columns ≡ length (y.0 ∷ y.1) → 32 < length t.columns → 31 < length y.1
    less e l = omega arith

    passed : Parted (behind is_comma (column d)) 31 c1 → PassesColumns d ts
    passed (ys, z, m0, m1, m2, len, mz, gz, r5) =
        let next = comma_column d z m1 gz in
        let whole = r0 ∙ ap (λ (t : List Token). us ++ t) (r1 ∙ ap (λ (t : List Token). t ++ xs) (r2 ∙ ap (λ (t : List Token). t ++ bs) (r3 ∙ ap (λ (t : List Token). os ++ t) (r4 ∙ ap (λ (t : List Token). c0 ++ t) r5)))) ∙ regroup us os c0 m0 m1 m2 bs xs in
        record {
          begun = us ++ (os ++ (c0 ++ m0));
          table = (p.0, y.0 ∷ ys);
          written = (us, os ++ (c0 ++ m0), q, ((x.0, y.0 ∷ ys), refl, (os, c0 ++ m0, on, ((y.0, ys), refl, (c0, m0, co, mz, refl)), refl)), refl);
          full = count len;
          further = next.0;
          rest = next.1 ++ (m2 ++ (bs ++ xs));
          tokens = whole ∙ ap (λ (t : List Token). (us ++ (os ++ (c0 ++ m0))) ++ (t ++ (m2 ++ (bs ++ xs)))) next.2;
        }
      where
        count : length ys ≡ 31 → length (y.0 ∷ ys) ≡ 32
        count e = omega arith

-- LINES
below : (n m : ℕ) → nat_lt n m ≡ true → n < m
below n m h = grind arith

not_below : (n m : ℕ) → nat_lt n m ≡ false → m ≤ n
not_below n m h = grind arith

untrue : (b : Bool) → (b ≡ true → ⊥) → b ≡ false
untrue true n = absurd (n refl)
untrue false n = refl

full_false : (n : ℕ) (b : Bool) → b ≡ true → (nat_le 64 n && b) ≡ false → n < 64
full_false n b e h = pick (nat_le 64 n) refl
  where
    pick : (c : Bool) → nat_le 64 n ≡ c → n < 64
    pick true q = absurd cc
    pick false q = grind arith

in_range_to : (a b n m : ℕ) → in_range a b n ≡ Is m → m ≤ b
in_range_to a b n m e = pick (nat_le a n) (nat_le n b) refl refl
  where
    pick : (c f : Bool) → nat_le a n ≡ c → nat_le n b ≡ f → m ≤ b
    pick true true p q =
        let same : n ≡ m = cc in
        let le : n ≤ b = grind arith in
        omega arith
    pick true false p q = absurd cc
    pick false f p q = absurd cc

number_to : (a b : ℕ) (y : Token) (m : ℕ) → number_in a b y ≡ Is m → m ≤ b
number_to a b (token.Number (Some n)) m e = in_range_to a b n m e
number_to a b (token.Number None) m e = absurd cc
number_to a b (token.Word w) m e = absurd cc
number_to a b (token.Name n) m e = absurd cc
number_to a b (token.Text t) m e = absurd cc
number_to a b (token.Symbol s) m e = absurd cc
number_to a b token.Bad m e = absurd cc

session_room : (d : Limits) (tables groups : ℕ) (sessions : List (List ℕ × ℕ)) (line : LineSyn) (ts : List Token) → (passes_sessions sessions ts ≡ true → ⊥) → session_line d line ts → HasRoom tables groups sessions line
session_room d tables groups sessions line ts n (p, e, (us, vs, (y, ny, oy), q, r)) =
    let m = is_name d y p.0 ny in
    let same = same_name d m.0 p.0 (subst (λ (y : Token). name_of d y ≡ Is p.0) m.1 ny) in
    let whole : ts ≡ token.Name p.0 ∷ vs = r ∙ ap (λ (t : List Token). t ++ vs) (oy ∙ ap (λ (y : Token). y ∷ []) (m.1 ∙ ap token.Name same)) in
    subst (λ (l : LineSyn). HasRoom tables groups sessions l) (sym e) (untrue (nat_le 64 (length sessions) && not (is_session p.0 sessions)) (λ h. n (ap (passes_sessions sessions) whole ∙ h)))

link_room : (n tables groups : ℕ) (sessions : List (List ℕ × ℕ)) (line : LineSyn) (ts : List Token) → n ≤ 16 → link n line ts → HasRoom tables groups sessions line
link_room n tables groups sessions line ts l (p, e, (us, vs, q, (us2, vs2, q2, (us3, vs3, (y, ny, oy), q4, r3), r2), r1)) =
    let to = number_to 1 n y p.1.1.0 ny in
    let bound : p.1.1.0 ≤ 16 = omega arith in
    subst (λ (l : LineSyn). HasRoom tables groups sessions l) (sym e) bound

table_room : (d : Limits) (tables groups : ℕ) (sessions : List (List ℕ × ℕ)) (line : LineSyn) (ts : List Token) → (passes_tables tables ts ≡ true → ⊥) → (PassesColumns d ts → ⊥) → table d line ts → HasRoom tables groups sessions line
table_room d tables groups sessions line ts n m (p, e, (us, vs, q, r, s)) =
    let first = behind_name word.Table d p.0 us q in
    let whole : ts ≡ first.0 ∷ token.Name first.1 ∷ vs = s ∙ ap (λ (t : List Token). t ++ vs) first.3 in
    let few = full_false tables (is_word word.Table first.0) first.2 (untrue (nat_le 64 tables && is_word word.Table first.0) (λ h. n (ap (passes_tables tables) whole ∙ h))) in
    subst (λ (l : LineSyn). HasRoom tables groups sessions l) (sym e) (few, narrow (nat_lt 32 (length p.1.0)) refl)
  where
    narrow : (b : Bool) → nat_lt 32 (length p.1.0) ≡ b → length p.1.0 ≤ 32
    narrow true h =
        let long = below 32 (length p.1.0) h in
        absurd (m (long_passes d line (record { name = p.0; columns = p.1.0; dist = p.1.1 }) ts e (p, e, (us, vs, q, r, s)) long))
    narrow false h = not_below 32 (length p.1.0) h

group_room : (d : Limits) (tables groups : ℕ) (sessions : List (List ℕ × ℕ)) (line : LineSyn) (ts : List Token) → (passes_groups groups ts ≡ true → ⊥) → group d line ts → HasRoom tables groups sessions line
group_room d tables groups sessions line ts n (p, e, (us, vs, q, r, s)) =
    let first = behind_name word.Group d p.0 us q in
    let whole : ts ≡ first.0 ∷ token.Name first.1 ∷ vs = s ∙ ap (λ (t : List Token). t ++ vs) first.3 in
    let few = full_false groups (is_word word.Group first.0) first.2 (untrue (nat_le 64 groups && is_word word.Group first.0) (λ h. n (ap (passes_groups groups) whole ∙ h))) in
    subst (λ (l : LineSyn). HasRoom tables groups sessions l) (sym e) few

pub head_room : (d : Limits) (n tables groups : ℕ) (sessions : List (List ℕ × ℕ)) (line : LineSyn) (ts : List Token) → n ≤ 16 → ((l : Limit) → PassesInHead d tables groups sessions ts l → ⊥) → head_line n d line ts → HasRoom tables groups sessions line
head_room d n tables groups sessions line ts l h (inl (a, e, q)) = subst (λ (l : LineSyn). HasRoom tables groups sessions l) (sym e) tt
head_room d n tables groups sessions line ts l h (inr (inl q)) = table_room d tables groups sessions line ts (h Tables) (λ p. h Columns (untrue (passes_tables tables ts) (h Tables), p)) q
head_room d n tables groups sessions line ts l h (inr (inr (inl q))) = link_room n tables groups sessions line ts l q
head_room d n tables groups sessions line ts l h (inr (inr (inr (inl q)))) = group_room d tables groups sessions line ts (h Groups) q
head_room d n tables groups sessions line ts l h (inr (inr (inr (inr q)))) = session_room d tables groups sessions line ts (h Sessions) q

pub line_room : (d : Limits) (tables groups : ℕ) (sessions : List (List ℕ × ℕ)) (line : LineSyn) (ts : List Token) → ((l : Limit) → PassesInLine sessions ts l → ⊥) → session_line d line ts → HasRoom tables groups sessions line
line_room d tables groups sessions line ts h q = session_room d tables groups sessions line ts (h Sessions) q

-- NO COUNT
pub none_in_head : (d : Limits) (tables groups : ℕ) (sessions : List (List ℕ × ℕ)) (ts : List Token) → passes_sessions sessions ts ≡ false → passes_tables tables ts ≡ false → passes_groups groups ts ≡ false → (PassesColumns d ts → ⊥) → (l : Limit) → PassesInHead d tables groups sessions ts l → ⊥
none_in_head d tables groups sessions ts a b g n Sessions h = cc
none_in_head d tables groups sessions ts a b g n Tables h = cc
none_in_head d tables groups sessions ts a b g n Groups h = cc
none_in_head d tables groups sessions ts a b g n Columns h = n h.1
none_in_head d tables groups sessions ts a b g n limit.Segments h = h
none_in_head d tables groups sessions ts a b g n limit.Lines h = h
none_in_head d tables groups sessions ts a b g n limit.Name h = h
none_in_head d tables groups sessions ts a b g n limit.Text h = h
none_in_head d tables groups sessions ts a b g n limit.Depth h = h

pub none_in_line : (sessions : List (List ℕ × ℕ)) (ts : List Token) → passes_sessions sessions ts ≡ false → (l : Limit) → PassesInLine sessions ts l → ⊥
none_in_line sessions ts a Sessions h = cc
none_in_line sessions ts a Tables h = h
none_in_line sessions ts a Groups h = h
none_in_line sessions ts a Columns h = h
none_in_line sessions ts a limit.Segments h = h
none_in_line sessions ts a limit.Lines h = h
none_in_line sessions ts a limit.Name h = h
none_in_line sessions ts a limit.Text h = h
none_in_line sessions ts a limit.Depth h = h
