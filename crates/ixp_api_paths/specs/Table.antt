-- What the table of paths names.
use Rattle.std.specs.Prelude.{◌≡◌, ◌<◌, ℕ, List, [], Option, Some, None, get_or}
use Rattle.ixp_api_paths.specs.declared.table.Args.{Args}
use Rattle.ixp_api_paths.specs.declared.table.Entry.{Entry}
use Rattle.ixp_api_paths.specs.declared.table.TheConstants.{TABLE, PATHS}
use Rattle.ixp_api_paths.specs.declared.served.Found.{Found}
use Rattle.ixp_api_paths.specs.Paths.{find, on_read, read, no_args, behind_root, found_of}

-- the entry that reads the path, with what it reads
unfoldable pub found : List ℕ → Option (Entry × Args)
found path = find TABLE path

-- What a method and a path name: no path, which is told first, no method of the path, or a call.
abbrev pub look : List ℕ → List ℕ → Found
look method path = found_of method (found path)

-- ---- for private clauses

abbrev pub no_entry : Entry
no_entry = record { parts = []; get = None; post = None; put = None; delete = None }

-- what the entry at a place reads
abbrev pub reads : List Entry → ℕ → List ℕ → Option (Entry × Args)
reads table i path = on_read (get_or table i no_entry)
    (read no_args (get_or table i no_entry).parts (behind_root path)) None

unfoldable pub read_entry : ℕ → List ℕ → Option (Entry × Args)
read_entry i path = reads TABLE i path

-- what a place says of the table's answer: it is what this entry reads, if anything
abbrev pub Named : List ℕ → Option ℕ → Type 0
Named path None = found path ≡ None
Named path (Some i) = (i < PATHS) × (found path ≡ read_entry i path)
