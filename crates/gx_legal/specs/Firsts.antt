-- The first sending of a word.
use Rattle.std.specs.Prelude.{◌≡◌, ◌⊎◌, ℕ, ◌<◌, ◌≤◌, List, length, take, slice_get, Some, None}
use Rattle.std.specs.declared.option.Option.{Option}
use Rattle.gx_ids.specs.declared.ids.Gxid.{Gxid}
use Rattle.gx_ids.specs.declared.ids.Node.{Node}
use Rattle.gx_store.specs.declared.mark.Mark.{Mark}
use Rattle.gx_store.specs.declared.run.Step.{Step}
use Rattle.gx_store.specs.Points.{marks_in}
use Rattle.gx_legal.specs.Words.{Sends}
use Rattle.gx_legal.specs.declared.firsts.Sending.{Sending}
use Rattle.gx_legal.specs.declared.word.Word.{Word}

-- the mark sends the word, under some number
abbrev pub SendsWord : Gxid → Word → Node → Mark → Type 0
SendsWord g said to mark = (number : ℕ) × Sends g said to number mark

abbrev pub SendsWordAt : Gxid → Word → Node → List Mark → ℕ → Type 0
SendsWordAt g said to marks place = (mark : Mark) × (slice_get marks place ≡ Some mark) × SendsWord g said to mark

-- the first of the marks that does
abbrev pub IsFirstAmong : Gxid → Word → Node → List Mark → Option ℕ → Type 0
IsFirstAmong g said to marks None = (place : ℕ) (mark : Mark) → slice_get marks place ≡ Some mark → SendsWord g said to mark → ⊥
IsFirstAmong g said to marks (Some first) = SendsWordAt g said to marks first × ((place : ℕ) → place < first → (mark : Mark) → slice_get marks place ≡ Some mark → SendsWord g said to mark → ⊥)

-- the first of the step's, where it is one of the node
abbrev pub IsFirstIn : Gxid → Word → Node → Node → Step → Option ℕ → Type 0
IsFirstIn g said from to step None = (place : ℕ) → step.stamp.node ≡ from → SendsWordAt g said to step.marks place → ⊥
IsFirstIn g said from to step (Some first) = (step.stamp.node ≡ from) × IsFirstAmong g said to step.marks (Some first)

-- a step of the node, at this place, sends it by its mark at that place
abbrev pub SendsFrom : Gxid → Word → Node → Node → List Step → ℕ → ℕ → Type 0
SendsFrom g said from to steps number place = (step : Step) × (slice_get steps number ≡ Some step) × (step.stamp.node ≡ from) × SendsWordAt g said to step.marks place

-- none of the steps does, or the first that does is this one, before which there are so many marks
abbrev pub IsFirstSending : Gxid → Word → Node → Node → List Step → Option Sending → Type 0
IsFirstSending g said from to steps None = (number place : ℕ) → SendsFrom g said from to steps number place → ⊥
IsFirstSending g said from to steps (Some first) = SendsFrom g said from to steps first.step first.mark
    × ((number place : ℕ) → SendsFrom g said from to steps number place → (first.step < number) ⊎ ((first.step ≡ number) × (first.mark ≤ place)))
    × (first.start ≡ length (marks_in (take first.step steps)))
