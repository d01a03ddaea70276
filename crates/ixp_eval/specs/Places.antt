-- Where the items of a configuration stand, by their names.
use Rattle.std.specs.Prelude.{ℕ, ◌+◌, Bool, false, ◌&&◌, List, [], ◌∷◌, nat_le, Option, Some, None, if◌then◌else◌}
use Rattle.std.specs.List.{slice_get}
use Rattle.ixp_num_tables.specs.Tables.{if_there}
use Rattle.ixp_lang.specs.declared.item.Pipe.{Pipe}
use Rattle.ixp_lang.specs.Meaning.{same_name}
use Rattle.ixp_lang.specs.Trees.{ItemTree, router_id_item, table_item, define_item, function_item, filter_item, device_item, pipe_item, bgp_item}

-- an item is found by its own name, a pipe by its peer's
abbrev pub finds : List ℕ → ItemTree → Bool
finds n (define_item m e) = same_name m n
finds n (function_item m ps ss) = same_name m n
finds n (filter_item m ss) = same_name m n
finds n (pipe_item p) = same_name p.peer n
finds n (router_id_item a) = false
finds n (table_item k m) = false
finds n (device_item m) = false
finds n (bgp_item b) = false

abbrev pub put_place : List ℕ → ℕ → ItemTree → List ℕ
put_place n at i = if finds n i then at ∷ [] else []

-- the places of the items that the name finds, from this place on
abbrev pub places_of : List ℕ → ℕ → List ItemTree → List ℕ
places_of n at [] = []
places_of n at (i ∷ is) = if finds n i then at ∷ places_of n (at + 1) is else places_of n (at + 1) is

-- the item at a place before this one passes the test
abbrev pub is_at : ℕ → (ItemTree → Bool) → List ItemTree → ℕ → Bool
is_at count test items at = if nat_le count at then false else if_there (slice_get items at) false test

-- the place of the last item that passes the test, or else this one
abbrev pub last_place : (ItemTree → Bool) → ℕ → Option ℕ → List ItemTree → Option ℕ
last_place test at found [] = found
last_place test at found (i ∷ is) = last_place test (at + 1) (if test i then Some at else found) is

-- Pipes.

-- the pipe that an item is, where it passes
abbrev pub pipe_at : (Pipe → Bool) → Option ItemTree → Option Pipe
pipe_at test (Some (pipe_item p)) = if test p then Some p else None
pipe_at test o = None

-- the pipe goes between the tables, or has the table as its peer
abbrev pub is_between : List ℕ → List ℕ → Pipe → Bool
is_between primary peer p = same_name p.table primary && same_name p.peer peer

abbrev pub is_from : List ℕ → Pipe → Bool
is_from table p = same_name p.peer table
