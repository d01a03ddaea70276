use Rattle.std.proofs.Common.{rules, ◌≡◌, true, false, option_map, sym, ◌∙◌}
use Rattle.ixp_rows_lines.specs.declared.version.Version.TheVariants.{Two}
use Rattle.ixp_store_damage.proofs.LineRows.{lines_next, lines_stop, unread}
use Rattle.ixp_store_damage.proofs.lines.are_lines.Goals as goal

pub returns-in_default : goal.returns-in_default
returns-in_default g c =
    let none = sym (rw c.in_default.is at c.in_ok-line.ensures.reads) in (
      (λ bad. absurd (let wrong : false ≡ true = bad in cc)),
      (λ a. absurd (unread g.R.Lined.row_kind c.args.member c.args.family (option_map g.R.Lined.key c.lines.last) c.lines.left.now (λ e. search rules) none (c.lines.invariant.to a))),
    )

pub returns-then-not-may_follow : goal.returns-then-not-may_follow
returns-then-not-may_follow g c =
    let at = sym (rw c.in-Some.is at c.in_ok-line.ensures.reads) in (
      (λ bad. absurd (let wrong : false ≡ true = bad in cc)),
      (λ a. absurd (lines_stop g.R.Lined.row_kind c.args.member c.args.family (option_map g.R.Lined.key c.lines.last) c.lines.left.now c.in-Some.behind.now (g.R.Lined.fields Two c.in-Some.line) (g.R.Lined.key c.in-Some.line) at
          (g.met.R.Lined.keyed Two c.in-Some.line) (λ may. let bad : true ≡ false = sym (c.may_follow.ensures.1 may) ∙ c.if-not-may_follow.true in absurd cc) (c.lines.invariant.to a))),
    )

pub lines-preserved : goal.lines-preserved
lines-preserved g c =
    let at = sym (rw c.in-Some.is at c.in_ok-line.ensures.reads) in
    let next = lines_next g.R.Lined.row_kind c.args.member c.args.family (option_map g.R.Lined.key c.lines.last) c.lines.left.now c.in-Some.behind.now (g.R.Lined.fields Two c.in-Some.line) (g.R.Lined.key c.in-Some.line) at
    (g.met.R.Lined.keyed Two c.in-Some.line) (c.may_follow.ensures.0 c.if-not-may_follow.false) in
    record { to = λ a. next.0 (c.lines.invariant.to a); back = λ a. c.lines.invariant.back (next.1 a) }
