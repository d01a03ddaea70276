use Rattle.std.proofs.Common.{◌≡◌, ◌<◌, ℕ, false, List, [], ◌∷◌, ◌++◌, length, map, refl, sym, ap, ◌∙◌, subst, arith}
use Rattle.std.proofs.lemmas.Bool.{eqb-true}
use Rattle.std.proofs.lemmas.List.{append_assoc, append-nil, map-append}
use Rattle.ixp_lang_tokens.specs.declared.token.Token.{Token}
use Rattle.ixp_lang_tokens.specs.declared.token.Kind.{Kind}
use Rattle.ixp_lang_tokens.specs.Reading.{kinds}
use Rattle.ixp_lang_tokens.specs.Tokens.{is_last, Placed, placed_kinds, Tokens, HasTokens}
use Rattle.ixp_lang_tokens.specs.Cutting.{Plain}
use Rattle.ixp_lang_tokens.proofs.PlainLaws.{plain_more}
use Rattle.ixp_lang_tokens.proofs.TokenLaws.{from_end, from_last, from_more, stands_shorter}
use Rattle.ixp_lang_tokens.proofs.lexer.tokens_of.Goals as goal
use Rattle.ixp_lang_tokens.proofs.lexer.tokens_of.Goals.{else-bytes-test, then-bytes-test+in_ok-kind+in_ok-push+then-is_last}

pub bytes-smaller : goal.bytes-smaller
bytes-smaller c =
    let more : is_last c.in_ok-kind.kind ≡ false = sym c.if-is_last.ensures in
    let h : length c.in_ok-kind.after.now < length c.bytes.rest.now = stands_shorter c.in_ok-kind.kind c.bytes.rest.now c.in_ok-kind.after.now c.in_ok-kind.ensures more in
    omega (arith, h, c.behind_gap-rest-in-bytes.ensures.shorter)

-- one token more
pushed : (front : List Placed) (token : Placed) (tokens : List Token) → placed_kinds front ≡ kinds tokens
    → placed_kinds (front ++ token ∷ []) ≡ kinds (tokens ++ (record { kind = token.kind }) ∷ [])
pushed front token tokens same =
    map-append (λ t. t.kind) front (token ∷ []) ∙ ap (λ (ks : List Kind). ks ++ token.kind ∷ []) same ∙ sym (map-append (λ t. t.kind) tokens (record { kind = token.kind } ∷ []))

-- what follows the token that was pushed follows the others behind it
pub bytes-preserved : goal.bytes-preserved
bytes-preserved c = record {
  grows =
      let token : Placed = record { kind = c.in_ok-kind.kind; left = length c.bytes.rest.now } in
      let front : List Placed = c.bytes.invariant.grows.0 in
      let last : is_last c.in_ok-kind.kind ≡ false = sym c.if-is_last.ensures in (
        front ++ token ∷ [],
        pushed front token c.bytes.tokens.items c.bytes.invariant.grows.1 ∙ ap kinds (sym c.in_ok-push.ensures.items),
        λ more from.
            subst (Tokens c.args.bytes.now) (sym (append_assoc front (token ∷ []) more))
            (c.bytes.invariant.grows.2 (token ∷ more)
            (from_more c.bytes.rest.now c.in_ok-kind.after.now c.behind_gap-rest-in-bytes.result.now token more c.in_ok-kind.ensures refl last c.behind_gap-rest-in-bytes.ensures.gap from)),
      );
  plain =
      let P : ℕ → Type 0 = λ n. Plain c.behind_gap-rest-in-bytes.result.now n in
      let last : is_last c.in_ok-kind.kind ≡ false = sym c.if-is_last.ensures in
      subst P (sym c.plain_behind-plain.ensures)
      (plain_more c.bytes.rest.now c.in_ok-kind.after.now c.behind_gap-rest-in-bytes.result.now c.in_ok-kind.kind c.bytes.plain c.bytes.invariant.plain c.in_ok-kind.ensures last c.behind_gap-rest-in-bytes.ensures.gap);
}

pub token_at-requires-clause-known : goal.token_at-requires-clause-known
token_at-requires-clause-known c = c.bytes.invariant.plain [] c.bytes.rest.now refl

pub returns : goal.returns
returns c =
    elim c.bytes-test.branch as (λ w. HasTokens c.args.bytes.now (kinds c.bytes-test.tokens.items)) [
      | else-bytes-test w ↦
          let none : length c.bytes.rest.now ≡ 0 = eqb-true _ _ (sym w.bytes-test.ensures) in
          let front : List Placed = c.bytes.invariant.grows.0 in (
            front,
            subst (Tokens c.args.bytes.now) (append-nil front) (c.bytes.invariant.grows.2 [] (from_end c.bytes.rest.now none)),
            c.bytes.invariant.grows.1 ∙ ap (λ v. kinds v.items) (sym w.tokens-is),
          )
      | then-bytes-test+in_ok-kind+in_ok-push+then-is_last w ↦
          let token : Placed = record { kind = w.in_ok-kind.kind; left = length c.bytes.rest.now } in
          let front : List Placed = c.bytes.invariant.grows.0 in (
            front ++ token ∷ [],
            c.bytes.invariant.grows.2 (token ∷ []) (from_last c.bytes.rest.now w.in_ok-kind.after.now token w.in_ok-kind.ensures refl (sym w.if-is_last.ensures)),
            pushed front token c.bytes.tokens.items c.bytes.invariant.grows.1 ∙ ap kinds (sym (ap (λ v. v.items) w.tokens-is ∙ w.in_ok-push.ensures.items)),
          )
    ]
