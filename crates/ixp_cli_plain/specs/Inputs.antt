-- The dump in an input of `fate`.
use Rattle.std.specs.Prelude.{ℕ, ◌+◌, Bool, true, ◌==◌, ◌&&◌, List, [], ◌∷◌, take, Option, Some, None, codes, if◌then◌else◌}
use Rattle.std.specs.List.{position}
use Rattle.ixp_num_tables.specs.Tables.{same}

-- a text's first line, with its end
abbrev pub line_part : Option ℕ → List ℕ → List ℕ
line_part None t = t
line_part (Some n) t = take (n + 1) t

abbrev pub first_line : List ℕ → List ℕ
first_line t = line_part (position (λ c. c == 10) t) t

-- all up to the first line that begins with `end` and a blank, and that line with it
abbrev pub dump_from : Bool → List ℕ → List ℕ
dump_from at_start [] = []
dump_from at_start (c ∷ cs) = if at_start && same (codes "end ") (take 4 (c ∷ cs)) then first_line (c ∷ cs)
    else c ∷ dump_from (c == 10) cs

abbrev pub dump_part : List ℕ → List ℕ
dump_part t = dump_from true t
