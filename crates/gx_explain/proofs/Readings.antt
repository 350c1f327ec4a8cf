-- Lines, one after the other, up to the first that is refused.
use Rattle.std.proofs.Common.{◌≡◌, inl, inr, ℕ, ◌+◌, ◌≤◌, nat_lt, Bool, true, false, List, [], ◌∷◌, Option, Some, None, Result, Ok, Err, arith, refl, sym, ap, subst}
use Rattle.gx_lex.specs.declared.token.Token.{Token}
use Rattle.gx_script.specs.declared.Script.{Script}
use Rattle.gx_sql.specs.declared.refusal.Limit.TheVariants as limit
use Rattle.gx_sql.specs.declared.refusal.LineFault.{LineFault}
use Rattle.gx_sql.specs.declared.refusal.Refusal.{Refusal}
use Rattle.gx_sql.specs.declared.refusal.Refusal.TheVariants as refusal
use Rattle.gx_sql.specs.Lines.{is_skipped, lines_of}
use Rattle.gx_sql.specs.Progress.{Progress}
use Rattle.gx_sql.specs.Script.{Goes, LineSays, ReadsOn, Where, ended as said, refused, script_of}
use Rattle.gx_sql.proofs.Steps.{step_read, too_many}
use Rattle.gx_explain.specs.declared.reading.Ending.{Ending}
use Rattle.gx_explain.specs.declared.reading.Ending.TheVariants as ending
use Rattle.gx_explain.specs.Reading.{AreFirst, Comes, IsBehindAll, IsEnding, IsSaid, ended}

-- here are the lines that are left
comes-here : (n m : ℕ) (p : Progress) (lines : List (List ℕ)) → n ≡ m → Comes n p lines m p lines
comes-here n m p [] e = (e, refl, refl)
comes-here n m p (line ∷ lines) e = inl (e, refl, refl)

-- a line that was read is one of those before
comes-next : (n m : ℕ) (p q r : Progress) (line : List ℕ) (lines rest : List (List ℕ)) → Where (is_skipped line) (q ≡ p) (LineSays p line (Ok q)) → Comes (n + 1) q lines m r rest → Comes n p (line ∷ lines) m r rest
comes-next n m p q r line lines rest w h = inr (pick (is_skipped line) w)
  where
    pick : (b : Bool) → Where b (q ≡ p) (LineSays p line (Ok q)) → Where b (Comes (n + 1) p lines m r rest) ((said : Progress) × LineSays p line (Ok said) × Comes (n + 1) said lines m r rest)
    pick true e = subst (λ (p : Progress). Comes (n + 1) p lines m r rest) e h
    pick false e = (q, e, h)

-- what was read before these lines, from the first on
abbrev pub IsBehind : Progress → List (List ℕ) → ℕ → Progress → List (List ℕ) → Type 0
IsBehind p lines n q rest = ((r : Result Script Refusal) → ReadsOn n q rest r → ReadsOn 1 p lines r) × ((m : ℕ) (s : Progress) (left : List (List ℕ)) → Comes n q rest m s left → Comes 1 p lines m s left)

-- by a line that was read
pub behind-line : (p q s : Progress) (lines : List (List ℕ)) (bytes line others : List ℕ) (ts : List Token) (n : ℕ) (f : Option LineFault)
    → n ≤ 100000 → lines_of bytes ≡ line ∷ lines_of others → f ≡ None → IsSaid line q s ts f → IsBehind p lines n q (lines_of bytes) → IsBehind p lines (n + 1) s (lines_of others)
behind-line p q s lines bytes line others ts n f few e none said (reads, comes) =
    let w = subst (λ (f : Option LineFault). IsSaid line q s ts f) none said in (
      λ r h. reads r (subst (λ (ls : List (List ℕ)). ReadsOn n q ls r) (sym e) (step_read n q s line (lines_of others) r few w h)),
      λ m t left h. comes m t left (subst (λ (ls : List (List ℕ)). Comes n q ls m t left) (sym e) (comes-next n m q s t line (lines_of others) left w h)),
    )

-- whether the line comes behind the last that there may be, and whether it is skipped
abbrev ReadsAt : ℕ → Progress → List ℕ → List (List ℕ) → Result Script Refusal → Bool → Bool → Type 0
ReadsAt n q line ls r many skipped = Where many (r ≡ Err (refusal.TooMany n limit.Lines)) (Where skipped (ReadsOn (n + 1) q ls r) ((s : Result Progress LineFault) × LineSays q line s × Goes n (λ (p : Progress). ReadsOn (n + 1) p ls r) s r))

reads_fault : (n : ℕ) (q : Progress) (line : List ℕ) (ls : List (List ℕ)) (f : LineFault) (many skipped : Bool) → many ≡ false → skipped ≡ false → LineSays q line (Err f) → ReadsAt n q line ls (Err (refused n f)) many skipped
reads_fault n q line ls f true skipped b e h = absurd cc
reads_fault n q line ls f false true b e h = absurd cc
reads_fault n q line ls f false false b e h = (Err f, h, refl)

within : (n : ℕ) → n ≤ 100000 → nat_lt 100000 n ≡ false
within n l = grind arith

fault_reads : (n : ℕ) (q : Progress) (line : List ℕ) (ls : List (List ℕ)) (f : LineFault) → n ≤ 100000 → is_skipped line ≡ false → LineSays q line (Err f) → ReadsOn n q (line ∷ ls) (Err (refused n f))
fault_reads n q line ls f few skip h = reads_fault n q line ls f (nat_lt 100000 n) (is_skipped line) (within n few) skip h

-- at a line with a fault
pub at-fault : (p q s : Progress) (lines : List (List ℕ)) (bytes line others : List ℕ) (ts : List Token) (n : ℕ) (o : Option LineFault) (f : LineFault)
    → n ≤ 100000 → lines_of bytes ≡ line ∷ lines_of others → o ≡ Some f → IsSaid line q s ts o → IsBehind p lines n q (lines_of bytes) → IsEnding p lines s (lines_of bytes) ts (ending.Refused n f)
at-fault p q s lines bytes line others ts n o f few e some said (reads, comes) =
    let w = subst (λ (o : Option LineFault). IsSaid line q s ts o) some said in (
      reads (Err (refused n f)) (subst (λ (ls : List (List ℕ)). ReadsOn n q ls (Err (refused n f))) (sym e) (fault_reads n q line (lines_of others) f few w.0 w.2)),
      subst (λ (s : Progress). Comes 1 p lines n s (lines_of bytes)) (sym w.1) (comes n q (lines_of bytes) (comes-here n n q (lines_of bytes) refl)),
      subst (λ (ls : List (List ℕ)). AreFirst ts ls) (sym e) w.3,
    )

at_end : (p q : Progress) (lines : List (List ℕ)) (ts : List Token) (n : ℕ) (o : Option ℕ) → q.segments ≡ o → IsBehind p lines n q [] → IsEnding p lines q [] ts (ended n o)
at_end p q lines ts n None e (reads, comes) = (reads (Err (refusal.Syntax n)) (ap (λ (o : Option ℕ). said n q o) (sym e)), comes n q [] (refl, refl, refl), tt)
at_end p q lines ts n (Some k) e (reads, comes) = (script_of k q, reads (Ok (script_of k q)) (ap (λ (o : Option ℕ). said n q o) (sym e)))

-- behind the last line
pub at-end : (p q : Progress) (lines rest : List (List ℕ)) (ts : List Token) (n : ℕ) (r : Ending) → rest ≡ [] → r ≡ ended n q.segments → IsBehind p lines n q rest → IsEnding p lines q rest ts r
at-end p q lines rest ts n r e is behind =
    subst (λ (r : Ending). IsEnding p lines q rest ts r) (sym is)
    (subst (λ (rest : List (List ℕ)). IsEnding p lines q rest ts (ended n q.segments)) (sym e)
    (at_end p q lines ts n q.segments refl (subst (λ (rest : List (List ℕ)). IsBehind p lines n q rest) e behind)))

-- behind as many lines as there may be
pub at-limit : (p q : Progress) (lines rest : List (List ℕ)) (ts : List Token) (n : ℕ) (r : Ending) → n ≡ 100001 → IsBehindAll q rest ts r → IsBehind p lines n q rest → IsEnding p lines q rest ts r
at-limit p q lines [] ts n r e is behind = at-end p q lines [] ts 100001 r refl is (subst (λ (n : ℕ). IsBehind p lines n q []) e behind)
at-limit p q lines (line ∷ rest) ts n r e is behind =
    let (reads, comes) = subst (λ (n : ℕ). IsBehind p lines n q (line ∷ rest)) e behind in
    subst (λ (r : Ending). IsEnding p lines q (line ∷ rest) ts r) (sym is.0)
    (reads (Err (refusal.TooMany 100001 limit.Lines)) (too_many q line rest), comes 100001 q (line ∷ rest) (comes-here 100001 100001 q (line ∷ rest) refl), is.1)
