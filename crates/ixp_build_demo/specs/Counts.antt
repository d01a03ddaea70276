-- How large an exchange is, and the text that tells it.
use Rattle.std.specs.Prelude.{ℕ, List, [], ◌∷◌, ◌++◌, length, codes, decimal}
use Rattle.ixp_lang.specs.declared.value.SetLit.TheVariants as set
use Rattle.ixp_lang.specs.Trees.{ItemTree, define_item, set_literal}
use Rattle.ixp_num_tables.specs.Sums.{total}
use Rattle.ixp_registry.specs.declared.registry.Registry.{Registry}
use Rattle.ixp_registry.specs.declared.router.Router.{Router}
use Rattle.ixp_registry.specs.Sessions.{Session}
use Rattle.ixp_compile.specs.Generated.{inputs, router_sessions, session_part}
use Rattle.ixp_build_demo.specs.declared.figures.Counts.{Counts}

-- how many patterns the prefix set has that an item of a text defines; none where it defines no such set
abbrev pub patterns_in : ItemTree → ℕ
patterns_in (define_item name (set_literal (set.Prefixes patterns))) = length patterns
patterns_in _ = 0

-- those of the merged sets in a session's part of its router's text
abbrev pub session_patterns : Registry → Router → Session → ℕ
session_patterns r router s = total patterns_in (session_part (inputs r router s))

abbrev pub router_patterns : Registry → Router → ℕ
router_patterns r router = total (session_patterns r router) (router_sessions r router)

-- the members, the sessions of all routers, and the patterns of all sessions' merged sets
abbrev pub counts_of : Registry → Counts
counts_of r = record {
  members = length r.members;
  sessions = total (λ q. length (router_sessions r q)) r.routers;
  patterns = total (router_patterns r) r.routers;
}

-- a word and a number
abbrev pub line : List ℕ → ℕ → List ℕ
line word n = word ++ (decimal n ++ 10 ∷ [])

abbrev pub counts_text : Counts → List ℕ
counts_text c = line (codes "members ") c.members
    ++ (line (codes "sessions ") c.sessions ++ line (codes "patterns ") c.patterns)
