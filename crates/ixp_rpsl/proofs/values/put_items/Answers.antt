use Rattle.std.proofs.Common.{◌≡◌, ◌∷◌, [], ℕ, true, List, sym, ap, ◌∙◌, subst}
use Rattle.std.specs.Option.{option_map}
use Rattle.ixp_rpsl.specs.Puts.{Puts, parts_of}
use Rattle.ixp_rpsl.specs.Values.{items_in}
use Rattle.ixp_rpsl.proofs.Saying.{more_items}
use Rattle.ixp_rpsl.proofs.values.put_items.Goals as goal

pub parts-preserved : goal.parts-preserved
parts-preserved c = λ fine new rest.
    let part : List ℕ = c.first_part.result.0.now in
    let ps : List (List ℕ) = parts_of 44 (option_map (λ r. r.now) c.first_part.result.1) in
    let left : parts_of 44 (option_map (λ r. r.now) c.parts.left) ≡ part ∷ ps = ap (λ o. parts_of 44 (option_map (λ r. r.now) o)) c.in-Some.is ∙ c.first_part.ensures.parts in
    let first : Puts (items_in (part ∷ [])) true c.parts.items c.put_item.new.items = subst (λ b. Puts (items_in (part ∷ [])) b c.parts.items c.put_item.new.items) c.if-not-branch.false c.in_ok-put_item.ensures in
    c.parts.invariant fine new (subst (λ qs. Puts (items_in qs) fine c.parts.items new) (sym left) (more_items part ps fine c.parts.items c.put_item.new.items new first rest))
