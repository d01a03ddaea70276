use Rattle.std.proofs.Common.{◌≡◌, ◌∙◌, ◌<◌, refl, sym, ap, map, length, Ok, arith}
use Rattle.std.proofs.lemmas.Result.{err_from_is_err_and}
use Rattle.ixp_lang.specs.Views.{item_view}
use Rattle.ixp_lang_tokens.specs.Reading.{read, kinds}
use Rattle.ixp_lang_exprs.specs.Names.{names_of}
use Rattle.ixp_lang_exprs.proofs.Firsts.{kinds_length}
use Rattle.ixp_lang_exprs.proofs.Rounds.{ends, round_fails, goes_on}
use Rattle.ixp_read.specs.Items.{config_round, config_form}
use Rattle.ixp_read.specs.Views.{begun_of}
use Rattle.ixp_read.proofs.item.items_at.Goals as goal

pub each-init : goal.each-init
each-init c = (length (kinds c.args.tokens.now), omega (arith, kinds_length c.args.tokens.now), rw (c.new-items.ensures.items, c.new-env.ensures) refl)

pub returns-in_err-is_last : goal.returns-in_err-is_last
returns-in_err-is_last c =
    let p = err_from_is_err_and c.from_residual.result c.from_residual.ensures.1 in
    record {
      reads = rw (p.1, p.2)
          (round_fails (λ s ts. read (config_round s) ts) c.each.invariant.0 (begun_of c.each.items.items (names_of c.each.env)) (kinds c.each.left.now)
          (read config_form (kinds c.args.tokens.now)) c.each.invariant.2 _ c.in_err-is_last.ensures.reads);
    }

pub returns-then-is_last : goal.returns-then-is_last
returns-then-is_last c =
    record {
      reads = sym c.each.invariant.2
          ∙ ends (λ s ts. read (config_round s) ts) c.each.invariant.0 (begun_of c.each.items.items (names_of c.each.env)) (kinds c.each.left.now) (kinds c.in_ok-is_last.rest.now)
          (map item_view c.item_round.new.items.items) (rw c.if-is_last.true at c.in_ok-is_last.ensures.reads)
          ∙ ap (λ rest. Ok (map item_view c.item_round.new.items.items, rest)) (c.in_ok-is_last.ensures.ends c.if-is_last.true);
    }

pub each-smaller : goal.each-smaller
each-smaller c = c.in_ok-is_last.ensures.shorter c.if-is_last.false

pub each-preserved : goal.each-preserved
each-preserved c =
    let g = goes_on (λ s ts. read (config_round s) ts) c.each.invariant.0 (length c.each.left.now) (length c.in_ok-is_last.rest.now)
    (begun_of c.each.items.items (names_of c.each.env)) (begun_of c.item_round.new.items.items (names_of c.item_round.new.env))
    (kinds c.each.left.now) (kinds c.in_ok-is_last.rest.now) c.each.invariant.1 (c.in_ok-is_last.ensures.shorter c.if-is_last.false) (rw c.if-is_last.false at c.in_ok-is_last.ensures.reads) in
    (g.bound, g.enough, g.same ∙ c.each.invariant.2)
