-- A number by its digits.
use Rattle.std.specs.Prelude.{ℕ, ◌+◌, ◌-◌, ◌*◌, nat_le, nat_lt, ◌&&◌, if◌then◌else◌, Option, Some, None}

-- the number with a further digit, where it is one and has 64 bits
abbrev pub grown : ℕ → ℕ → Option ℕ
grown n d = if (nat_le 48 d && nat_le d 57) && nat_lt (n * 10 + (d - 48)) 18446744073709551616 then Some (n * 10 + (d - 48)) else None
