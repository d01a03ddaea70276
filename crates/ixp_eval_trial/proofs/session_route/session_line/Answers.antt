use Rattle.std.proofs.Common.{sym, ◌∙◌}
use Rattle.ixp_eval_trial.proofs.Parts.{no_parts, no_router, no_interface}
use Rattle.ixp_eval_trial.proofs.session_route.session_line.Goals as goal

pub returns-in_default : goal.returns-in_default
returns-in_default c = no_parts c.args.line.now c.in_default.ensures

pub returns-then-not-is_handle : goal.returns-then-not-is_handle
returns-then-not-is_handle c =
    no_router c.args.line.now c.in-Some.parts.handle.now c.in-Some.parts.number.now c.in-Some.parts.text.now c.in-Some.ensures (sym c.is_handle.ensures ∙ c.if-not-is_handle.true)

pub returns-in_default-interface_of : goal.returns-in_default-interface_of
returns-in_default-interface_of c =
    no_interface c.args.line.now c.in-Some.parts.handle.now c.in-Some.parts.number.now c.in-Some.parts.text.now c.in-Some.ensures c.in_default-interface_of.ensures
