use Rattle.std.proofs.Common.{◌≡◌, Some, sym, ◌∙◌}
use Rattle.ixp_rpsl.specs.Lines.{line_of, lines_ahead}
use Rattle.ixp_rpsl.specs.Attributes.{named}
use Rattle.ixp_rpsl.proofs.Gathering.{takes_named}
use Rattle.ixp_rpsl.proofs.gathered.Gathered.take.Goals as goal

pub returns-in_ok-rest-in-Some : goal.returns-in_ok-rest-in-Some
returns-in_ok-rest-in-Some c =
    let name : named c.args.line.bytes.now ≡ Some (c.in-Some.name.now, c.in-Some.first.now) = sym c.in-Some.ensures in
    let all = c.in_ok-rest-in-Some.ensures in (
      takes_named c.args.word.now (line_of c.args.line) (lines_ahead c.args.ahead) c.requires c.args.self.now c.put.new.self (lines_ahead c.in_ok-rest-in-Some.rest) c.in-Some.name.now c.in-Some.first.now
          name (sym c.is_word.ensures ∙ c.if-is_word.true) all.2 all.0 all.1,
      all.3,
    )
