-- Names of sets with or without a source, and members.
use Rattle.std.specs.Prelude.{ℕ, ◌==◌, ◌&&◌, ◌||◌, ◌++◌, Bool, false, List, [], ◌∷◌, Option, Some, None, map, if◌then◌else◌}
use Rattle.std.specs.List.{list_all, list_any, slice_split}
use Rattle.std.specs.Char.{to_ascii_uppercase}
use Rattle.std.specs.Option.{is_some}
use Rattle.ixp_num.specs.Names.{is_name}
use Rattle.ixp_rpsl.specs.Attributes.{is_empty}
use Rattle.ixp_rpsl.specs.Values.{as_number, as_or_set, is_name_part, is_set_part, set_item}
use Rattle.ixp_rpsl.specs.declared.objects.Item.{Item}
use Rattle.ixp_rpsl_sources.specs.Sources.{is_source_name}

-- the parts of a set's name
abbrev pub are_set_parts : List (List ℕ) → Bool
are_set_parts parts = list_all is_name_part parts && list_any is_set_part parts

-- a source, nothing, and the parts of a set's name
abbrev pub are_sourced_parts : List (List ℕ) → Bool
are_sourced_parts [] = false
are_sourced_parts (source ∷ []) = false
are_sourced_parts (source ∷ nothing ∷ parts) =
    is_source_name source && is_empty nothing && are_set_parts parts

-- A set's name, or a source, two colons and a set's name; in upper case, at most 64 bytes in all.
abbrev pub is_called : List ℕ → Bool
is_called t = is_name t && (are_set_parts (slice_split (λ b. b == 58) t)
    || are_sourced_parts (slice_split (λ b. b == 58) t))

-- what a text in any case calls a set, if it does
abbrev pub called : List ℕ → Option (List ℕ)
called t = if is_called (map to_ascii_uppercase t) then Some (map to_ascii_uppercase t) else None

-- a member: an AS number, or what calls a set
abbrev pub member_of : List ℕ → Option Item
member_of t = as_or_set (as_number t) (set_item (called t))

abbrev pub is_member : List ℕ → Bool
is_member t = is_some (as_number t) || is_called (map to_ascii_uppercase t)

-- a set's name with its source
abbrev pub with_source : List ℕ → List ℕ → List ℕ
with_source source name = source ++ 58 ∷ 58 ∷ name
