use Rattle.std.proofs.Common.{rules, ◌≡◌, ◌∷◌, true, false, ◌&&◌, take, codes, arith, add-one, sym, ◌∙◌}
use Rattle.ixp_num_tables.specs.Tables.{same}
use Rattle.ixp_registry_breach.proofs.Lists.{drop_next}
use Rattle.ixp_cli_plain.proofs.Inputs.{dump_ends, dump_goes_on}
use Rattle.ixp_cli_plain.proofs.input.dump_part.Goals as goal

pub returns-then-starts_with-clause-part : goal.returns-then-starts_with-clause-part
returns-then-starts_with-clause-part c =
    let e : c.bytes.left.now ≡ c.in-Some.byte.now ∷ c.in-Some.rest.now = search rules in
    let ends : (c.bytes.at_start && same (codes "end ") (take 4 c.bytes.left.now)) ≡ true = search rules in
    dump_ends c.args.text.now c.bytes.left.now c.in-Some.byte.now c.in-Some.rest.now c.first_line.result.now c.bytes.count c.bytes.at_start c.bytes.invariant.rest e c.bytes.invariant.same ends
    c.first_line.ensures.line c.first_line.ensures.front

pub bytes-preserved : goal.bytes-preserved
bytes-preserved c =
    let e : c.bytes.left.now ≡ c.in-Some.byte.now ∷ c.in-Some.rest.now = search rules in
    let on : (c.bytes.at_start && same (codes "end ") (take 4 c.bytes.left.now)) ≡ false = search rules in
    record {
      rest = rw add-one (drop_next c.args.text.now c.bytes.count c.in-Some.byte.now c.in-Some.rest.now (sym e ∙ c.bytes.invariant.rest));
      room = grind arith;
      same = dump_goes_on c.args.text.now c.bytes.left.now c.in-Some.byte.now c.in-Some.rest.now c.bytes.count c.bytes.at_start c.bytes.invariant.rest e c.bytes.invariant.same on;
    }
