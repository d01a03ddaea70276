-- The names that a text declares.
use Rattle.std.specs.Prelude.{ℕ, Bool, true, false, ◌==◌, not, List, Option, Some, None, if◌then◌else◌}
use Rattle.std.specs.Option.{is_none}
use Rattle.ixp_lang.specs.Trees.{ItemTree}
use Rattle.ixp_lang_tokens.specs.declared.fault.Cause.TheVariants.{Twice}
use Rattle.ixp_lang_tokens.specs.Grammars.{Grammar, sequence, checks, here, gives}
use Rattle.ixp_lang_tokens.specs.Pieces.{a_name, same_word}
use Rattle.ixp_lang_exprs.specs.declared.env.Declared.{Declared}
use Rattle.ixp_lang_exprs.specs.declared.env.Declared.TheVariants.{Parameter}
use Rattle.ixp_lang_exprs.specs.Names.{Names}
use Rattle.ixp_lang_exprs.specs.Sets.{unless_so}

-- before any item no name is declared
abbrev pub nothing_declared : Names
nothing_declared name = None

-- an item, and what names stand for behind it
abbrev pub Declares : Type 0
Declares = ItemTree × Names

-- from now on the name stands for this
abbrev pub standing : Names → List ℕ → Declared → Names
standing names name what other = if same_word name other then Some what else names other

-- a parameter of this function may take the place: there is a parameter of another one
abbrev pub gives_way : Declared → ℕ → Bool
gives_way (Parameter other ty) function = not (other == function)
gives_way _ function = false

-- a parameter of this function may have a name that stands for this
abbrev pub is_free_in : Option Declared → ℕ → Bool
is_free_in None function = true
is_free_in (Some declared) function = gives_way declared function

-- the name of an item, which nothing has yet
abbrev pub free_name : Names → Grammar (List ℕ)
free_name names = here (λ left. sequence a_name
    (λ name. checks (unless_so (is_none (names name)) (Twice, left)) (gives name)))
