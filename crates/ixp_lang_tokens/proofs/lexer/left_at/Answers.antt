use Rattle.std.proofs.Common.{◌≡◌, ◌-◌, ℕ, false, List, [], length, slice_get, IfSome, refl, sym, subst}
use Rattle.ixp_lang_tokens.specs.declared.token.Kind.{Kind}
use Rattle.ixp_lang_tokens.specs.Cutting.{Plain}
use Rattle.ixp_lang_tokens.specs.Tokens.{Placed, Stands, is_last}
use Rattle.ixp_lang_tokens.proofs.PlainLaws.{plain_more}
use Rattle.ixp_lang_tokens.proofs.TokenLaws.{GoesOn, goes_on, begins_here, one_tokens}
use Rattle.ixp_lang_tokens.proofs.lexer.left_at.Goals as goal

pub piece_at-requires : goal.piece_at-requires
piece_at-requires c = c.tokens.invariant.plain [] c.tokens.rest.now refl

pub tokens-preserved : goal.tokens-preserved
tokens-preserved c =
    let here : List ℕ = c.tokens.rest.now in
    let after : List ℕ = c.piece_at.result.rest.now in
    let next : List ℕ = c.behind_gap-rest-in-tokens.result.now in
    let on : (k : Kind) × Stands k here after × (is_last k ≡ false) × GoesOn c.tokens.invariant.on.0 c.args.others next (c.tokens.more - 1) =
    goes_on c.tokens.invariant.on.0 c.args.others c.tokens.more here c.piece_at.result.shape c.piece_at.result.text.now after next c.tokens-test.true c.tokens.invariant.on.2
    c.piece_at.ensures c.behind_gap-rest-in-tokens.ensures.gap in
    record {
      on = (c.tokens.invariant.on.0, c.tokens.invariant.on.1, on.3);
      plain = subst (Plain next) (sym c.plain_behind-plain.ensures) (plain_more here after next on.0 c.tokens.plain c.tokens.invariant.plain on.1 on.2 c.behind_gap-rest-in-tokens.ensures.gap);
    }

pub returns : goal.returns
returns c tokens are =
    subst (λ (ts : List Placed). IfSome (slice_get ts c.args.others) (λ t. length c.tokens.rest.now ≡ t.left))
    (one_tokens c.args.bytes.now c.tokens.invariant.on.0 tokens c.tokens.invariant.on.1 are)
    (begins_here c.tokens.invariant.on.0 c.args.others c.tokens.more c.tokens.rest.now c.tokens-test.false c.tokens.invariant.on.2)
