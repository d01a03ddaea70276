use Rattle.std.proofs.Common.{◌≡◌, ◌∙◌, ◌++◌, ◌∷◌, [], length, Ok, sym, ap, subst}
use Rattle.std.proofs.lemmas.Result.{err_from_is_err_and}
use Rattle.ixp_lang_tokens.specs.Grammars.{onward, done}
use Rattle.ixp_lang_tokens.specs.Reading.{read, kinds, ◌>>=◌}
use Rattle.ixp_lang_exprs.specs.Names.{names_of}
use Rattle.ixp_lang_exprs.proofs.Rounds.{passed_on}
use Rattle.ixp_read.specs.Items.{item_form, config_round}
use Rattle.ixp_read.specs.Views.{begun_of}
use Rattle.ixp_read.proofs.RoundSteps.{at_end, none_left, some_left, added, round_item, with_one}
use Rattle.ixp_read.proofs.item.item_round.Goals as goal

pub returns-then-is_empty-clause-reads : goal.returns-then-is_empty-clause-reads
returns-then-is_empty-clause-reads c =
    let before = begun_of c.args.items.now.items (names_of c.args.env.now) in
    subst (λ ts. read (config_round before) ts ≡ Ok (done before.items, ts)) (sym (none_left c.args.tokens.now c.if-is_empty.ensures)) (at_end before)

pub returns-then-is_empty-clause-ends : goal.returns-then-is_empty-clause-ends
returns-then-is_empty-clause-ends c = λ last. none_left c.args.tokens.now c.if-is_empty.ensures

pub returns-in_err-item-clause-reads : goal.returns-in_err-item-clause-reads
returns-in_err-item-clause-reads c =
    let p = err_from_is_err_and c.from_residual.result c.from_residual.ensures.1 in
    rw (p.1, p.2, round_item c.args.items.now.items (names_of c.args.env.now) (length c.as_slice-before.result.now) (kinds c.args.tokens.now) (ap length c.as_slice-before.ensures.value) (some_left c.args.tokens.now c.if-is_empty.ensures))
    (passed_on _ (read (item_form (length c.as_slice-before.result.now) (names_of c.args.env.now)) (kinds c.args.tokens.now)) (added c.args.items.now.items (names_of c.args.env.now)) c.in_err-item.ensures.reads)

pub returns-clause-reads : goal.returns-clause-reads
returns-clause-reads c =
    round_item c.args.items.now.items (names_of c.args.env.now) (length c.as_slice-before.result.now) (kinds c.args.tokens.now) (ap length c.as_slice-before.ensures.value) (some_left c.args.tokens.now c.if-is_empty.ensures)
    ∙ ap (λ r. r >>= added c.args.items.now.items (names_of c.args.env.now)) c.in_ok-item.ensures.reads
    ∙ ap (λ s. Ok (onward s, kinds c.in_ok-item.rest.now)) (with_one c.args.items.now.items c.in_ok-item.item (names_of c.args.env.now) (names_of c.item_at.new.env))
    ∙ ap (λ is. Ok (onward (begun_of is (names_of c.item_at.new.env)), kinds c.in_ok-item.rest.now)) (sym c.in_ok-push.ensures.items)
