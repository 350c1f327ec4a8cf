use Rattle.std.specs.Prelude.{ℕ, ◌+◌, ◌-◌, ◌*◌, ◌%◌, ◌^◌, ◌<◌, ℤ, pos, negsuc, List, length, fold, Option, None, Some, slice_get, bit_xor}
use Rattle.gx_ids.specs.declared.rid.Rid.{Rid}
use Rattle.gx_tree.specs.declared.schema.Dist.{Dist}
use Rattle.gx_tree.specs.declared.schema.Dist.TheVariants.{By, Randomly}
use Rattle.gx_tree.specs.declared.value.Value.{Value}
use Rattle.gx_tree.specs.declared.value.Value.TheVariants.{Int, Text}

-- what is left of a whole number after division by n, never negative
abbrev pub remainder : ℤ → ℕ → ℕ
remainder (pos k) n = k % n
remainder (negsuc k) n = n - 1 - k % n

-- one step of FNV-1a of 64 bits: exclusive or with the byte, then times the prime, wrapping
abbrev pub hash_step : ℕ → ℕ → ℕ
hash_step hash byte = (bit_xor hash byte * 1099511628211) % 2 ^ 64

-- FNV-1a of 64 bits
abbrev pub hash_of : List ℕ → ℕ
hash_of bytes = fold hash_step 14695981039346656037 bytes

-- the segment of a key among n segments, which are numbered from 1
abbrev pub value_place : ℕ → Value → ℕ
value_place n (Int key) = 1 + remainder key n
value_place n (Text key) = 1 + hash_of key % n

-- the segment of a key that is there; there is none at a column that the row lacks
abbrev pub key_place : ℕ → Option Value → ℕ
key_place n None = 1
key_place n (Some key) = value_place n key

-- the segment of a row among n segments
abbrev pub row_place : ℕ → Dist → List Value → Rid → ℕ
row_place n (By column) row rid = key_place n (slice_get row column)
row_place n Randomly row rid = 1 + (rid.gxid.0 + rid.ordinal) % n

-- the distribution column is one of the row's
abbrev pub IsWithin : Dist → List Value → Type 0
IsWithin (By column) row = column < length row
IsWithin Randomly row = Unit {0}
