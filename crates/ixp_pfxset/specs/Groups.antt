-- Rows by family and length, as the program puts them.
use Rattle.std.specs.Prelude.{ℕ, ◌+◌, ◌*◌, ◌^◌}
use Rattle.ixp_num.specs.declared.family.Family.{Family}
use Rattle.ixp_num.specs.declared.family.Family.TheVariants.{V4, V6}
use Rattle.ixp_num.specs.declared.prefix.Prefix.{Prefix}

-- the group of the prefixes of a family and a length
abbrev pub group_of : Family → ℕ → ℕ
group_of V4 l = l
group_of V6 l = 256 + l

-- the group, and in a group the number of the address
abbrev pub rank : Prefix → ℕ
rank r = group_of r.family r.len * 2 ^ 128 + r.value
