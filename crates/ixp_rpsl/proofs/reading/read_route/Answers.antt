use Rattle.std.proofs.Common.{◌≡◌, ◌++◌, List, codes, refl, ap, ◌∙◌, subst, arith}
use Rattle.ixp_rpsl.specs.Lines.{Line, lines_ahead}
use Rattle.ixp_rpsl.specs.Attributes.{attributes, bad_line, earlier, whole_value}
use Rattle.ixp_rpsl.specs.Values.{SaysPrefix, trimmed}
use Rattle.ixp_rpsl.specs.Objects.{found_route, joined, route_of}
use Rattle.ixp_rpsl.specs.declared.entries.Kind.TheVariants as kinds
use Rattle.ixp_rpsl.specs.declared.found.Found.{Found}
use Rattle.ixp_rpsl.proofs.Passing.{behind_key, finds_said}
use Rattle.ixp_rpsl.proofs.reading.read_route.Goals as goal

pub returns : goal.returns
returns c =
    let ls : List Line = lines_ahead c.args.ahead in
    let middle : List Line = lines_ahead c.in_ok-rest.rest in
    let one = c.in_ok-rest.ensures in
    let two = c.in_ok-rest-2.ensures in
    let key : c.trimmed.result.now ≡ trimmed (whole_value c.args.key.now ls) =
    c.trimmed.ensures ∙ ap trimmed (c.as_slice.ensures.value ∙ (one.0 ∙ ap (λ v. v ++ whole_value c.args.key.now ls) c.new-value.ensures.items)) in
    let says : SaysPrefix c.args.family (trimmed (whole_value c.args.key.now ls)) c.prefix_of-net.result = subst (λ t. SaysPrefix c.args.family t c.prefix_of-net.result) key c.prefix_of-net.ensures in
    let said : Found = found_route (route_of c.args.first c.prefix_of-net.result (attributes (codes "origin") ls)) in
    let route : found_route c.route_of.result ≡ said =
    ap found_route (c.route_of.ensures ∙ ap (route_of c.args.first c.prefix_of-net.result)
    (c.as_slice-2.ensures ∙ (two.0 ∙ (ap (λ f. f ++ attributes (codes "origin") middle) c.new-origins.ensures.found ∙ behind_key (codes "origin") ls middle one.1)))) in
    let fault : c.gather.new.self.fault ≡ bad_line middle = two.1 ∙ ap (λ f. earlier f (bad_line middle)) c.new-origins.ensures.fault in
    let near = one.2 in
    let far = two.3 in (
      finds_said (kinds.Route c.args.family) c.args.first c.args.key.now ls middle (lines_ahead c.in_ok-rest-2.rest) c.gather.new.self.fault c.args.found.now c.note.new.self c.put_route.new.self said
          one.1 fault two.2 (c.prefix_of-net.result, says, refl) c.note.ensures (c.in_ok-put_route.ensures ∙ ap (joined c.note.new.self) route),
      omega arith,
    )
