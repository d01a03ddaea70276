-- What `demo` writes, and the numbers of members that it takes.
use Rattle.std.specs.Prelude.{ℕ, true, List, ◌++◌, Option}
use Rattle.ixp_registry_demo.specs.Demo.{demo}
use Rattle.ixp_build_demo.specs.Builds.{builds_text, rebuilt}
use Rattle.ixp_build_demo.specs.Counts.{counts_of, counts_text}
use Rattle.ixp_cli_plain.specs.Serving.{number_in}

-- the number of members that a word is: a decimal number from 1 to 4000
abbrev pub members_in : List ℕ → Option ℕ
members_in = number_in 4000

-- how many members, sessions and patterns the demo exchange with n members has; then how many parts of its
-- text were regenerated after edits, and that the text is then that of full generation
abbrev pub demo_text : ℕ → List ℕ
demo_text n = counts_text (counts_of (demo n)) ++ builds_text (rebuilt n) true
