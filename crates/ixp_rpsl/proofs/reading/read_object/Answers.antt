use Rattle.std.proofs.Common.{◌≡◌, Some, sym, subst}
use Rattle.ixp_rpsl.specs.Lines.{line_of, lines_ahead}
use Rattle.ixp_rpsl.specs.Attributes.{named}
use Rattle.ixp_rpsl.specs.Passes.{FindsOf}
use Rattle.ixp_rpsl.proofs.Passing.{finds_named, finds_nameless}
use Rattle.ixp_rpsl.proofs.reading.read_object.Goals as goal

pub returns-in_ok-rest-in-Some : goal.returns-in_ok-rest-in-Some
returns-in_ok-rest-in-Some c =
    let name : named c.args.line.bytes.now ≡ Some (c.in-Some.name.now, c.in-Some.key.now) = sym c.in-Some.ensures in
    let all = c.in_ok-rest-in-Some.ensures in (
      finds_named (line_of c.args.line) (lines_ahead c.args.ahead) (lines_ahead c.in_ok-rest-in-Some.rest) c.in-Some.name.now c.in-Some.key.now c.args.found.now c.read_kind.new.found name
          (subst (λ k. FindsOf k c.args.line.number c.in-Some.key.now (lines_ahead c.args.ahead) (lines_ahead c.in_ok-rest-in-Some.rest) c.args.found.now c.read_kind.new.found) c.kind_of.ensures all.0),
      all.1,
    )

pub returns-in_ok-rest-in-None : goal.returns-in_ok-rest-in-None
returns-in_ok-rest-in-None c =
    let all = c.in_ok-rest-in-None.ensures in (
      finds_nameless (line_of c.args.line) (lines_ahead c.args.ahead) (lines_ahead c.in_ok-rest-in-None.rest) c.args.found.now c.note.new.self c.pass_by.new.found (sym c.in-None.ensures) c.note.ensures all.0 all.1,
      all.2,
    )
