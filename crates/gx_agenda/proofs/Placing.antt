-- Places of groups for sessions by their numbers, and groups of which nothing was asked.
use Rattle.std.proofs.Common.{◌≡◌, ℕ, zero, suc, ◌+◌, ◌-◌, ◌<◌, ◌≤◌, Bool, true, false, cond, List, [], ◌∷◌, ◌++◌, length, map, Option, Some, None, get_or, refl, sym, ap, ◌∙◌, subst, arith, append_assoc, append-nil}
use Rattle.std.proofs.lemmas.List.Elements.{All-map}
use Rattle.std.specs.Prelude.{All, option_map}
use Rattle.std.specs.List.{range_with_len}
use Rattle.gx_ids.specs.declared.ids.SessionId.{SessionId}
use Rattle.gx_script.specs.declared.Script.{Script}
use Rattle.gx_script.specs.declared.group.SlotGroup.{SlotGroup}
use Rattle.gx_groups.specs.Slots.{has}
use Rattle.gx_groups.specs.Table.{IsWithin}
use Rattle.gx_store.specs.Groups.{group_limit, place_in}
use Rattle.gx_store.specs.Schedule.{sessions_of}
use Rattle.gx_agenda.proofs.Asking.{numbered, range-next, range-none}

pub next-place : (f : SessionId → Option ℕ) (items now : List (Option ℕ)) (v : Option ℕ) (k n : ℕ) → k < n → now ≡ items ++ v ∷ [] → v ≡ f (numbered k)
    → now ++ map f (map numbered (range_with_len (k + 1) (n - (k + 1)))) ≡ items ++ map f (map numbered (range_with_len k (n - k)))
next-place f items now v k n l e g =
    ap (λ xs. xs ++ map f (map numbered (range_with_len (k + 1) (n - (k + 1))))) e
    ∙ append_assoc items (v ∷ []) (map f (map numbered (range_with_len (k + 1) (n - (k + 1)))))
    ∙ ap (λ w. items ++ w ∷ map f (map numbered (range_with_len (k + 1) (n - (k + 1))))) g
    ∙ sym (ap (λ r. items ++ map f (map numbered r)) (range-next k n l))

pub all-placed : (f : SessionId → Option ℕ) (items : List (Option ℕ)) (k n : ℕ) → n ≤ k → items ++ map f (map numbered (range_with_len k (n - k))) ≡ items
all-placed f items k n l = ap (λ r. items ++ map f (map numbered r)) (range-none k n l) ∙ append-nil items

within-more : (n : ℕ) (o : Option ℕ) → IsWithin n o → IsWithin (suc n) (option_map (λ m. m + 1) o)
within-more n None w = tt
within-more n (Some p) w = omega arith

within-place : (s : SessionId) (gs : List SlotGroup) → IsWithin (length gs) (place_in s gs)
within-place s [] = tt
within-place s (g ∷ gs) = by_test (has s g.sessions) (within-more (length gs) (place_in s gs) (within-place s gs))
  where
    by_test : (b : Bool) → IsWithin (suc (length gs)) (option_map (λ m. m + 1) (place_in s gs)) → IsWithin (suc (length gs)) (cond b (Some 0) (option_map (λ m. m + 1) (place_in s gs)))
    by_test true w = omega arith
    by_test false w = w

length-mapped : {A B : Type 0} (f : A → B) (xs : List A) → length (map f xs) ≡ length xs
length-mapped f [] = refl
length-mapped f (x ∷ xs) = ap suc (length-mapped f xs)

length-range : (first n : ℕ) → length (range_with_len first n) ≡ n
length-range first zero = refl
length-range first (suc n) = ap suc (length-range (first + 1) n)

pub places-within : (script : Script) (limits : List ℕ) (places : List (Option ℕ)) → limits ≡ map group_limit script.groups → places ≡ map (λ s. place_in s script.groups) (sessions_of script) → All (IsWithin (length limits)) places
places-within script limits places e f =
    subst (All (IsWithin (length limits))) (sym f)
    (All-map (IsWithin (length limits)) (λ s. place_in s script.groups) (sessions_of script)
    (λ i d l. let s = get_or (sessions_of script) i d in subst (λ n. IsWithin n (place_in s script.groups)) (sym (ap length e ∙ length-mapped group_limit script.groups)) (within-place s script.groups)))

pub places-few : (script : Script) (places : List (Option ℕ)) → places ≡ map (λ s. place_in s script.groups) (sessions_of script) → length script.sessions ≤ 64 → length places ≤ 256
places-few script places f few =
    let l = ap length f ∙ length-mapped (λ s. place_in s script.groups) (sessions_of script) ∙ length-mapped numbered (range_with_len 0 (length script.sessions)) ∙ length-range 0 (length script.sessions) in
    omega (arith, l, few)
