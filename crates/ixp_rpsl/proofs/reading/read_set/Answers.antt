use Rattle.std.proofs.Common.{◌≡◌, ◌++◌, List, codes, refl, ap, ◌∙◌, arith}
use Rattle.ixp_rpsl.specs.Lines.{Line, lines_ahead}
use Rattle.ixp_rpsl.specs.Attributes.{attributes, bad_line, earlier, whole_value}
use Rattle.ixp_rpsl.specs.Values.{trimmed}
use Rattle.ixp_rpsl.specs.Objects.{found_set, joined, set_of}
use Rattle.ixp_rpsl.specs.declared.entries.Kind.TheVariants as kinds
use Rattle.ixp_rpsl.specs.declared.found.Found.{Found}
use Rattle.ixp_rpsl.proofs.Passing.{behind_key, finds_said}
use Rattle.ixp_rpsl.proofs.reading.read_set.Goals as goal

pub returns : goal.returns
returns c =
    let ls : List Line = lines_ahead c.args.ahead in
    let middle : List Line = lines_ahead c.in_ok-rest.rest in
    let one = c.in_ok-rest.ensures in
    let two = c.in_ok-rest-2.ensures in
    let key : c.trimmed.result.now ≡ trimmed (whole_value c.args.key.now ls) =
    c.trimmed.ensures ∙ ap trimmed (c.as_slice.ensures.value ∙ (one.0 ∙ ap (λ v. v ++ whole_value c.args.key.now ls) c.new-value.ensures.items)) in
    let said : Found = found_set (set_of c.args.first (trimmed (whole_value c.args.key.now ls)) (attributes (codes "members") ls)) in
    let values : c.as_slice-2.result.now ≡ attributes (codes "members") ls =
    c.as_slice-2.ensures ∙ (two.0 ∙ (ap (λ f. f ++ attributes (codes "members") middle) c.new-values.ensures.found ∙ behind_key (codes "members") ls middle one.1)) in
    let set : found_set (set_of c.args.first c.trimmed.result.now c.as_slice-2.result.now) ≡ said =
    ap (λ k. found_set (set_of c.args.first k c.as_slice-2.result.now)) key ∙ ap (λ v. found_set (set_of c.args.first (trimmed (whole_value c.args.key.now ls)) v)) values in
    let fault : c.gather.new.self.fault ≡ bad_line middle = two.1 ∙ ap (λ f. earlier f (bad_line middle)) c.new-values.ensures.fault in
    let near = one.2 in
    let far = two.3 in (
      finds_said kinds.Set c.args.first c.args.key.now ls middle (lines_ahead c.in_ok-rest-2.rest) c.gather.new.self.fault c.args.found.now c.note.new.self c.put_set.new.self said
          one.1 fault two.2 refl c.note.ensures
          (c.in_ok-put_set.ensures (set_of c.args.first c.trimmed.result.now c.as_slice-2.result.now) c.set_of.ensures ∙ ap (joined c.note.new.self) set),
      omega arith,
    )
