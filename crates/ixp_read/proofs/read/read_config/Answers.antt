use Rattle.std.proofs.Common.{sym, subst, map, []}
use Rattle.ixp_lang.specs.Views.{item_view}
use Rattle.ixp_lang_tokens.specs.Reading.{kinds}
use Rattle.ixp_lang_tokens.specs.Tokens.{HasTokens}
use Rattle.ixp_read.proofs.ConfigurationLaws.{config_spelt}
use Rattle.ixp_read.proofs.read.read_config.Goals as goal

pub returns-in-Ok-items_at : goal.returns-in-Ok-items_at
returns-in-Ok-items_at c =
    let tokens = c.as_slice.result.now in (
      kinds tokens,
      subst (λ ts. HasTokens c.args.t.now (kinds ts)) (sym c.as_slice.ensures.value) c.in-Ok.ensures,
      config_spelt (kinds tokens) (map item_view c.in-Ok-items_at.items.items) [] c.in-Ok-items_at.ensures.reads,
    )
