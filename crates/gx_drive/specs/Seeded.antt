-- The run of the seeded driver.
use Rattle.std.specs.Prelude.{◌≡◌, ℕ, ◌%◌, zero, suc, true, List, length, slice_get, Some}
use Rattle.rand_xoshiro.specs.SplitMix64.{splitmix_seed}
use Rattle.rand_xoshiro.specs.Xoshiro256.{of_seed, plus_plus}
use Rattle.gx_script.specs.declared.Script.{Script}
use Rattle.gx_store.specs.declared.event.Event.{Event}
use Rattle.gx_store.specs.declared.run.Step.{Step}
use Rattle.gx_store.specs.Groups.{enabled_in}
use Rattle.gx_store.specs.Schedule.{is_any_unfinished}
use Rattle.gx_drive.specs.Chosen.{AreChosen}

-- the generator of a seed
unfoldable pub seeded : ℕ → List ℕ
seeded seed = of_seed (splitmix_seed 32 seed)

-- the generator behind so many words
unfoldable pub behind : ℕ → List ℕ → List ℕ
behind zero generator = generator
behind (suc n) generator = (plus_plus (behind n generator)).1

-- the word of a seed that comes behind so many others
abbrev pub word_of : ℕ → ℕ → ℕ
word_of seed n = (plus_plus (behind n (seeded seed))).0

-- a session is unfinished, and the event has the place among all that is enabled and that the groups let that the seed's next word gives: what is left of the word by their number
pub record IsDrawn (script : Script) (seed : ℕ) (before : List Step) (event : Event) : Type 0 where
  pub unfinished : is_any_unfinished script before ≡ true
  pub drawn : slice_get (enabled_in script before) (word_of seed (length before) % length (enabled_in script before)) ≡ Some event

-- each step does what the seed draws where the steps before it have led
abbrev pub AreDrawn : Script → ℕ → List Step → List Step → Type 0
AreDrawn script seed before steps = AreChosen (IsDrawn script seed) before steps
