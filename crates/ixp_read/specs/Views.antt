-- What the program's own values say, in the words of the grammar.
use Rattle.std.specs.Prelude.{Bool, true, false, List, map}
use Rattle.ixp_lang.specs.Trees.{ItemTree}
use Rattle.ixp_lang.specs.Views.{stmts_view, item_view}
use Rattle.ixp_lang.specs.declared.item.Item.{Item}
use Rattle.ixp_lang_tokens.specs.Grammars.{Step, onward, done}
use Rattle.ixp_lang_exprs.specs.Names.{Names}
use Rattle.ixp_read.specs.Functions as grammar
use Rattle.ixp_read.specs.Items.{Begun}
use Rattle.ixp_read.specs.declared.params.Params.{Params}
use Rattle.ixp_read.specs.declared.function.Head.{Head}
use Rattle.ixp_read.specs.declared.function.Body.{Body}

-- parameters, where names stand for this
abbrev pub params_of : Params → Names → grammar.Params
params_of p names = record { params = p.params; types = p.types; names = names }

abbrev pub head_of : Head → Names → grammar.Head
head_of h names = record { name = h.name; params = params_of h.params names }

abbrev pub body_of : Body → grammar.Body
body_of b = record { statements = stmts_view b.body.items; returns = b.returns }

abbrev pub begun_of : List Item → Names → Begun
begun_of items names = record { items = map item_view items; names = names }

-- the end of the text, or one item more
abbrev pub round_says : Bool → Begun → Step Begun (List ItemTree)
round_says true begun = done begun.items
round_says false begun = onward begun
