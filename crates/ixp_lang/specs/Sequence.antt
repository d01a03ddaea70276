-- What comes after an expression, or after statements, where they are read by themselves.
use Rattle.ixp_lang.specs.declared.route.Route.{Route}
use Rattle.ixp_lang.specs.declared.value.Value.{Value}
use Rattle.ixp_lang.specs.Meaning.{End, falls, returns, accepts, rejects, fails}

-- the value of an expression goes to what comes next; a verdict or a fault ends all
abbrev pub hands_on : End → (Value → Route → End) → End
hands_on (returns v r) next = next v r
hands_on (falls r) next = falls r
hands_on (accepts r) next = accepts r
hands_on rejects next = rejects
hands_on (fails f) next = fails f

-- statements that came to their end are followed by what comes next; `return`, a verdict or a fault ends the
-- body
abbrev pub runs_on : End → (Route → End) → End
runs_on (falls r) next = next r
runs_on (returns v r) next = returns v r
runs_on (accepts r) next = accepts r
runs_on rejects next = rejects
runs_on (fails f) next = fails f
