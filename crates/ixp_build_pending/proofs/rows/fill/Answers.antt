use Rattle.std.proofs.Common.{rules, ◌≡◌, ◌∷◌, List, sym, ap, subst, ◌∙◌}
use Rattle.std.specs.List.{AllByRecursion}
use Rattle.ixp_num_tables.specs.Tables.{put}
use Rattle.ixp_build_pending.specs.declared.rows.PendingText.{PendingText}
use Rattle.ixp_build_pending.specs.Names.{row_key}
use Rattle.ixp_build_pending.specs.Rows.{HasRow, all_put}
use Rattle.ixp_build_pending.proofs.Room.{all_keep, put_keeps}
use Rattle.ixp_build_pending.proofs.rows.fill.Goals as goal

pub each-preserved : goal.each-preserved
each-preserved c =
    let left : c.each.left.rest.items ≡ c.in-Some.row ∷ c.next.new.self.rest.items = search rules in
    let there : AllByRecursion (HasRow c.each.rows) (c.in-Some.row ∷ c.next.new.self.rest.items) = subst (AllByRecursion (HasRow c.each.rows)) left c.each.invariant.there in
    record {
      puts = ap (all_put c.next.new.self.rest.items) c.replace.ensures ∙ (sym (ap (λ (rs : List PendingText). all_put rs c.each.rows) left) ∙ c.each.invariant.puts);
      there =
          subst (λ (rs : List PendingText). AllByRecursion (HasRow rs) c.next.new.self.rest.items) (sym c.replace.ensures)
          (all_keep c.next.new.self.rest.items c.each.rows (put row_key c.in-Some.row c.each.rows) (put_keeps c.in-Some.row c.each.rows) there.1);
    }
