use Rattle.std.proofs.Common.{rules, ◌≡◌, filter, sym, ap, subst, ◌∙◌}
use Rattle.std.proofs.lemmas.Fn.{filter_same}
use Rattle.ixp_num_tables.specs.Tables.{Ascends}
use Rattle.ixp_build_pending.specs.Names.{row_key}
use Rattle.ixp_build_pending.specs.Rows.{is_later, is_pending}
use Rattle.ixp_build_pending.proofs.Filters.{ascends_kept, twice}
use Rattle.ixp_build_pending.proofs.rows.PendingTexts.drop_upto.Goals as goal

pub from_ascending-requires : goal.from_ascending-requires
from_ascending-requires c =
    let up : Ascends row_key c.into_rows-rows.result.items = subst (Ascends row_key) (sym c.into_rows-rows.ensures.rows) c.into_rows-rows.ensures.ascends in
    let kept : c.retain.new.self.items ≡ filter (is_later c.args.upto) c.into_rows-rows.result.items =
    filter_same _ _ _ (λ x b f' k. search rules) _ _ c.retain.ensures.filtered in
    subst (Ascends row_key) (sym kept) (ascends_kept (is_later c.args.upto) c.into_rows-rows.result.items up)

pub returns : goal.returns
returns c =
    let kept : c.retain.new.self.items ≡ filter (is_later c.args.upto) c.into_rows-rows.result.items =
    filter_same _ _ _ (λ x b f' k. search rules) _ _ c.retain.ensures.filtered in
    let raw : c.into_rows-rows.result.items ≡ c.self.inside.rows = search rules in
    ap (filter is_pending) (c.from_ascending.ensures ∙ (kept ∙ ap (filter (is_later c.args.upto)) raw))
    ∙ (twice is_pending (is_later c.args.upto) c.self.inside.rows ∙ ap (filter (is_later c.args.upto)) c.self.view_is)
