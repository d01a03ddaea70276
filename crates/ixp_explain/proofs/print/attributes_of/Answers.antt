use Rattle.std.proofs.Common.{◌≡◌, ◌++◌, ◌∙◌, ℕ, List, ap, codes}
use Rattle.std.proofs.lemmas.Result.{IfOk-weaker}
use Rattle.ixp_num.specs.Printing.{prefix_text}
use Rattle.ixp_lang.specs.Texts.{attributes_text, route_text}
use Rattle.ixp_explain.proofs.Behind.{attributes_behind}
use Rattle.ixp_explain.proofs.print.attributes_of.Goals as goal

pub returns : goal.returns
returns c =
    let text = c.as_slice.ensures.value ∙ (c.in_ok-print_route.ensures.ok ∙ ap (λ (l : List ℕ). l ++ route_text c.args.route.now) c.new-text.ensures.items) in
    let net =
    c.as_slice-2.ensures.value
    ∙ (c.in_ok-put.ensures.ok
    ∙ ap (λ (l : List ℕ). l ++ codes " ") (c.in_ok-print_prefix.ensures.ok ∙ ap (λ (l : List ℕ). l ++ prefix_text c.args.route.now.net) c.new-net.ensures.items)) in
    let same : c.behind.result.now ≡ attributes_text c.args.route.now =
    attributes_behind c.args.route.now c.as_slice-2.result.now c.as_slice.result.now c.behind.result.now text net c.behind.ensures in
    IfOk-weaker c.from_slice.result _ _ (λ v e. e ∙ same) c.from_slice.ensures.items
