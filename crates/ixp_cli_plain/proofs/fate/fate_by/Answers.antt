use Rattle.std.proofs.Common.{◌∙◌}
use Rattle.ixp_lang.specs.Views.{config_view}
use Rattle.ixp_cli_plain.proofs.Fating.{a_spelling, told_fate, never_fails, walked_by}
use Rattle.ixp_cli_plain.proofs.fate.fate_by.Goals as goal

pub config_of-requires : goal.config_of-requires
config_of-requires c = a_spelling c.args.registry.now c.args.route.now.router c.args.text.now c.args.router.now c.requires.valid c.requires.there c.requires.text

pub returns-in-Ok : goal.returns-in-Ok
returns-in-Ok c =
    told_fate c.args.registry.now c.args.route.now.router c.args.text.now c.args.router.now c.args.route.now (config_view c.in_ok-config.config) _ c.in_ok-sender.sender c.in-Ok.fate
    c.requires.valid c.requires.there c.requires.text c.in_ok-config.ensures c.requires.sender (c.as_slice.ensures ∙ c.in_ok-tables.ensures) c.in_ok-sender.ensures c.in-Ok.ensures

pub unwalked-requires : goal.unwalked-requires
unwalked-requires c =
    never_fails c.in-Err.fault _ _
    (walked_by c.args.registry.now c.args.route.now.router c.args.text.now c.args.router.now c.args.route.now (config_view c.in_ok-config.config) _ c.in_ok-sender.sender
    c.requires.valid c.requires.there c.requires.text c.in_ok-config.ensures c.requires.sender (c.as_slice.ensures ∙ c.in_ok-tables.ensures) c.in_ok-sender.ensures)
    c.in-Err.ensures
