-- Where the rows of a view stand: each at its place.
use Rattle.std.proofs.Common.{◌≡◌, ◌==◌, ◌⊎◌, inl, inr, ℕ, ◌+◌, ◌-◌, ◌<◌, pos, suc, List, [], ◌∷◌, length, Option, Some, None, Result, Ok, Err, Bool, true, false, refl, sym, subst, ap, ◌∙◌, if◌then◌else◌, ◌&&◌, eqb, arith}
use Rattle.std.proofs.lemmas.Bool.{eqb-true}
use Rattle.std.proofs.lemmas.Option.{slice_get-get_or, slice_get_within}
use Rattle.gx_ids.specs.declared.ids.Cid.{Cid}
use Rattle.gx_ids.specs.declared.ids.Gxid.{Gxid}
use Rattle.gx_ids.specs.declared.ids.Node.{Node}
use Rattle.gx_ids.specs.declared.ids.Table.{Table}
use Rattle.gx_ids.specs.declared.rid.Rid.{Rid}
use Rattle.gx_tree.specs.declared.expr.Expr.{Expr}
use Rattle.gx_tree.specs.declared.schema.Dist.{Dist}
use Rattle.gx_tree.specs.declared.schema.Dist.TheVariants.{By, Randomly}
use Rattle.gx_tree.specs.declared.value.Value.{Value}
use Rattle.gx_tree.specs.declared.value.Value.TheVariants.{Int}
use Rattle.gx_meaning.specs.Expressions.{and_then}
use Rattle.gx_meaning.specs.declared.fault.ArithFault.{ArithFault}
use Rattle.gx_meaning.specs.Place.{IsWithin, key_place, row_place}
use Rattle.gx_meaning.specs.Constants.{HasKey, constant, each_from, values_of}
use Rattle.gx_script.specs.declared.Script.{Script}
use Rattle.gx_store.specs.declared.mark.Mark.{Mark}
use Rattle.gx_store.specs.declared.mark.Mark.TheVariants as mark
use Rattle.gx_store.specs.Marks.{is_same_rid, node_of}
use Rattle.gx_store.specs.View.{image_after}
use Rattle.gx_store.specs.Writes.{dist_of}
use Rattle.gx_store.proofs.Rows.{same_rid}
use Rattle.gx_law_order.specs.Lists.{Each}
use Rattle.gx_law_writes.specs.Homes.{IsPlaced, IsPlacedMark, IsSameKey, KeepsKey}
use Rattle.gx_law_writes.proofs.Placed.{same-place}
use Rattle.gx_law_answers.specs.Keyed.{AreRowsKeyed}
use Rattle.gx_law_answers.proofs.Shown.{IsAt, first-at}

-- ---- a tuple's values are as many as the tuple
values-step : (k : ℕ) (x : Expr) (xs : List Expr) (values : List Value) (one : Result Value ArithFault) (rest : Result (List Value) ArithFault) → ((ys : List Value) → rest ≡ Ok ys → length ys ≡ length xs) → and_then one (λ y. and_then rest (λ ys. Ok (y ∷ ys))) ≡ Ok values → length values ≡ length (x ∷ xs)
values-step k x xs values (Ok y) (Ok ys) more e = ap length (ok-same values (y ∷ ys) e) ∙ ap suc (more ys refl)
  where
    ok-same : (a b : List Value) → (let o : Result (List Value) ArithFault = Ok b in o) ≡ Ok a → a ≡ b
    ok-same a b f = cc
values-step k x xs values (Ok y) (Err f) more e = absurd (cc)
values-step k x xs values (Err f) rest more e = absurd (cc)

values-length : (k : ℕ) (tuple : List Expr) (values : List Value) → each_from constant k tuple ≡ Ok values → length values ≡ length tuple
values-length k [] values e = ap length (ok-same values e)
  where
    ok-same : (a : List Value) → (let o : Result (List Value) ArithFault = Ok [] in o) ≡ Ok a → a ≡ []
    ok-same a f = cc
values-length k (x ∷ xs) values e = values-step k x xs values (constant k x) (each_from constant (k + 1) xs) (λ ys f. values-length (k + 1) xs ys f) e

key-within : (dist : Dist) (tuple : List Expr) (values : List Value) → HasKey dist tuple → values_of tuple ≡ Ok values → IsWithin dist values
key-within (By column) tuple values key e = less column (length tuple) (length values) key (sym (values-length 0 tuple values e))
  where
    less : (c m n : ℕ) → c < m → m ≡ n → c < n
    less c m n l f = omega (arith, l, f)
key-within Randomly tuple values key e = tt

-- ---- a row with the same in the distribution column stands at the same place
within-kept : (dist : Dist) (old new : List Value) → IsSameKey dist old new → IsWithin dist old → IsWithin dist new
within-kept (By column) old new e w = slice_get_within new column _ (e ∙ slice_get-get_or old column (Int (pos 0)) w)
within-kept Randomly old new e w = tt

place-kept : (n : ℕ) (dist : Dist) (old new : List Value) (rid : Rid) → IsSameKey dist old new → row_place n dist old rid ≡ row_place n dist new rid
place-kept n (By column) old new rid e = ap (key_place n) (sym e)
place-kept n Randomly old new rid e = refl

-- ---- writes
table-is : (a b : Table) → a.0 ≡ b.0 → a ≡ b
table-is a b e = ap (λ n. let r : Table = record { 0 = n } in r) e

-- where a row with these values stands
pub record IsHome (script : Script) (table : Table) (rid : Rid) (row : List Value) (node : Node) : Type 0 where
  pub place : node.0 ≡ row_place script.segments (dist_of script.tables table.0) row rid
  pub within : IsWithin (dist_of script.tables table.0) row

module _ (script : Script) (keyed : AreRowsKeyed script) (all : List Mark) (shown : Gxid → Cid → Bool) (table : Table) (rid : Rid) where
  pub record Wrote (row : List Value) : Type 0 where
    pub node : Node
    pub by : IsAt script all node rid
    pub table_is : by.t ≡ table
    pub image_is : by.x ≡ Some row

  abbrev here : (n : Node) (t : Table) (r : Rid) (x : Option (List Value)) → is_same_rid r rid ≡ true → IsPlaced script all n t r x → IsAt script all n rid
  here n t r x e p = record { t = t; x = x; placed = subst (λ q. IsPlaced script all n t q x) (same_rid r rid e) p }

  -- the write of the image that is shown
  wrote-step : (row : List Value) (n : Node) (t : Table) (r : Rid) (x image : Option (List Value)) (a b d : Bool) → eqb t.0 table.0 ≡ b → is_same_rid r rid ≡ d → IsPlaced script all n t r x → (if a && (b && d) then x else image) ≡ Some row → (image ≡ Some row) ⊎ Wrote row
  wrote-step row n t r x image true true true e f p i = inr (record { node = n; by = here n t r x f p; table_is = table-is t table (eqb-true t.0 table.0 e); image_is = i })
  wrote-step row n t r x image true true false e f p i = inl i
  wrote-step row n t r x image true false d e f p i = inl i
  wrote-step row n t r x image false b d e f p i = inl i

  wrote : (row : List Value) (image : Option (List Value)) (ms : List Mark) → Each (IsPlacedMark script all) ms → image_after shown table rid image ms ≡ Some row → (image ≡ Some row) ⊎ Wrote row
  wrote row image [] e i = inl i
  wrote row image (mark.Write g c n t r x ∷ ms) e i =
      by_case (wrote row (if shown g c && ((t.0 == table.0) && is_same_rid r rid) then x else image) ms e.1 i)
    where
      by_case : ((if shown g c && ((t.0 == table.0) && is_same_rid r rid) then x else image) ≡ Some row) ⊎ Wrote row → (image ≡ Some row) ⊎ Wrote row
      by_case (inl q) = wrote-step row n t r x image (shown g c) (eqb t.0 table.0) (is_same_rid r rid) refl refl e.0 q
      by_case (inr q) = inr q
  wrote row image (m ∷ ms) e i = wrote row image ms e.1 i

  -- a row that was never written has no image
  no-write : (a b d : Bool) (x image : Option (List Value)) → d ≡ false → (if a && (b && d) then x else image) ≡ image
  no-write true true true x image e = absurd (cc)
  no-write true true false x image e = refl
  no-write true false d x image e = refl
  no-write false b d x image e = refl

  never : (image : Option (List Value)) (ms : List Mark) → node_of ms rid ≡ None → image_after shown table rid image ms ≡ image
  never image [] e = refl
  never image (mark.Write g c n t r x ∷ ms) e = by_test (is_same_rid r rid) refl e (λ i q. never i ms q)
    where
      by_test : (b : Bool) → is_same_rid r rid ≡ b → (if b then Some n else node_of ms rid) ≡ None → ((i : Option (List Value)) → node_of ms rid ≡ None → image_after shown table rid i ms ≡ i) → image_after shown table rid (if shown g c && ((t.0 == table.0) && is_same_rid r rid) then x else image) ms ≡ image
      by_test true s q more = absurd (cc)
      by_test false s q more = more (if shown g c && ((t.0 == table.0) && is_same_rid r rid) then x else image) q ∙ no-write (shown g c) (eqb t.0 table.0) (is_same_rid r rid) x image s
  never image (m ∷ ms) e = never image ms e

  home-of : (row : List Value) (node : Node) → IsAt script all node rid → Wrote row → IsHome script table rid row node
  home-of row node a w =
      record {
        place = ap (λ (n : Node). n.0) same-node ∙ w.by.placed.place ∙ ap (λ (t : Table). row_place script.segments (dist_of script.tables t.0) w.by.placed.values rid) w.table_is ∙ place-kept script.segments dist w.by.placed.values row rid key;
        within = within-kept dist w.by.placed.values row key (subst (λ (t : Table). IsWithin (dist_of script.tables t.0) w.by.placed.values) w.table_is within);
      }
    where
      dist : Dist
      dist = dist_of script.tables table.0

      same-node : node ≡ w.node
      same-node = same-place script all w.node node w.by.t a.t rid w.by.x a.x w.by.placed a.placed

      key : IsSameKey dist w.by.placed.values row
      key = subst (λ (t : Table). KeepsKey (dist_of script.tables t.0) w.by.placed.values (Some row)) w.table_is (subst (KeepsKey (dist_of script.tables w.by.t.0) w.by.placed.values) w.image_is (w.by.placed.key (keyed.kept w.by.t)))

      -- what was inserted has a value for the distribution column
      within : IsWithin (dist_of script.tables w.by.t.0) w.by.placed.values
      within = key-within (dist_of script.tables w.by.t.0) w.by.placed.row_of.tuple w.by.placed.values (keyed.inserted all rid.gxid rid.cid w.by.t w.by.placed.row_of.tuples w.by.placed.row_of.of (rid.ordinal - 1) w.by.placed.row_of.tuple w.by.placed.row_of.among) w.by.placed.row_of.constants

  pub home : (ms : List Mark) (row : List Value) → Each (IsPlacedMark script all) ms → image_after shown table rid None ms ≡ Some row → (node : Node) × (node_of ms rid ≡ Some node) × IsHome script table rid row node
  home ms row e i = by_node (node_of ms rid) refl
    where
      none-some : None ≡ Some row → ⊥
      none-some q = cc

      by_wrote : (node : Node) → IsAt script all node rid → (None ≡ Some row) ⊎ Wrote row → IsHome script table rid row node
      by_wrote node a (inl q) = absurd (none-some q)
      by_wrote node a (inr w) = home-of row node a w

      by_node : (o : Option Node) → node_of ms rid ≡ o → (node : Node) × (node_of ms rid ≡ Some node) × IsHome script table rid row node
      by_node None q = absurd (none-some (sym (never None ms q) ∙ i))
      by_node (Some node) q = (node, q, by_wrote node (first-at script all node rid ms e q) (wrote row None ms e i))
