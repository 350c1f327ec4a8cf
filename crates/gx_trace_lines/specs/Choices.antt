-- Readers that go by the word that stands first.
use Rattle.std.specs.Prelude.{◌≡◌, ℕ, Bool, true, false, List, [], ◌∷◌, ◌++◌, Option, Some, None}
use Rattle.gx_trace.specs.Readers.{Front, word}

abbrev pub on_by : {A : Type 0} → (List ℕ → Front A) → Front A → Front (Unit {0}) → Front A
on_by read other None = other
on_by read other (Some x) = read x.1

-- where the word stands, what comes behind it; else the other
abbrev pub on : {A : Type 0} → List ℕ → (List ℕ → Front A) → (List ℕ → Front A) → List ℕ → Front A
on w read other bytes = on_by read (other bytes) (word w bytes)

-- nothing more of it is to be read
abbrev pub just : {A : Type 0} → A → List ℕ → Front A
just a bytes = Some (a, bytes)

-- nothing of the kind is read
abbrev pub nothing : {A : Type 0} → List ℕ → Front A
nothing bytes = None

-- whether a word stood there, and what is left behind it
abbrev pub IsSkipped : Bool → List ℕ → List ℕ → List ℕ → Type 0
IsSkipped true left w bytes = word w bytes ≡ Some (tt, left)
IsSkipped false left w bytes = (word w bytes ≡ None) × (left ≡ bytes)
