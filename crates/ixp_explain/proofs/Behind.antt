-- What stands behind a route's net and a blank.
use Rattle.std.proofs.Common.{◌≡◌, ℕ, List, ◌++◌, codes, sym, ◌∙◌, ap}
use Rattle.std.proofs.lemmas.List.{append_cancel_left}
use Rattle.ixp_num.specs.Printing.{prefix_text}
use Rattle.ixp_lang.specs.declared.route.Route.{Route}
use Rattle.ixp_lang.specs.Texts.{attributes_text, route_text}

pub attributes_behind : (route : Route) (net text rest : List ℕ) → text ≡ route_text route → net ≡ prefix_text route.net ++ codes " " → text ≡ net ++ rest → rest ≡ attributes_text route
attributes_behind route net text rest is_text is_net parts =
    append_cancel_left net rest (attributes_text route) (sym parts ∙ (is_text ∙ sym (ap (λ (l : List ℕ). l ++ attributes_text route) is_net)))
