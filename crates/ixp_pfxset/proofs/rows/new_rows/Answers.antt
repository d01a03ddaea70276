use Rattle.std.proofs.Common.{◌↔◌, sym, subst}
use Rattle.std.specs.List.{Contains}
use Rattle.ixp_num.specs.declared.prefix.Prefix.{Prefix}
use Rattle.ixp_pfxset.specs.Blocks.{IsNew}
use Rattle.ixp_pfxset.proofs.NewRows.{exact_new, more_new}
use Rattle.ixp_pfxset.proofs.rows.new_rows.Goals as goal

pub returns-in-Exact-clause-members : goal.returns-in-Exact-clause-members
returns-in-Exact-clause-members c =
    subst (λ m. (q : Prefix) → Contains c.in_ok-list.list.items q ↔ IsNew c.args.rows.now m c.args.high q) (sym c.in-Exact.is)
    (exact_new c.args.rows.now c.in_ok-list.list.items c.args.high c.in_ok-list.ensures.rows)

pub returns-in-More-clause-members : goal.returns-in-More-clause-members
returns-in-More-clause-members c =
    let outer = c.leave_outermost.new.list.items in
    subst (λ m. (q : Prefix) → Contains outer q ↔ IsNew c.args.rows.now m c.args.high q) (sym c.in-More.is)
    (more_new c.args.rows.now c.in_ok-list.list.items c.args.high c.in_ok-list.ensures.rows outer c.leave_outermost.ensures)
