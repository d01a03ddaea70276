-- The token that stands at a place, by its kind.
use Rattle.std.proofs.Common.{◌≡◌, ◌∙◌, ℕ, zero, suc, List, [], ◌∷◌, length, map, Option, Some, None, option_map, slice_get, Bor, refl, sym, ap}
use Rattle.std.proofs.lemmas.List.{length-map}
use Rattle.ixp_lang_tokens.specs.declared.token.Kind.{Kind}
use Rattle.ixp_lang_tokens.specs.declared.token.Token.{Token}
use Rattle.ixp_lang_tokens.specs.Reading.{kinds}
use Rattle.ixp_lang_tokens.specs.Tokens.{Placed, placed_kinds}

mapped_at : {X Y : Type 0} (f : X → Y) (xs : List X) (i : ℕ) → slice_get (map f xs) i ≡ option_map f (slice_get xs i)
mapped_at f [] i = refl
mapped_at f (x ∷ xs) zero = refl
mapped_at f (x ∷ xs) (suc i) = mapped_at f xs i

kind_of_token : (token : Option (Bor Token)) → option_map (λ t. t.now.kind) token ≡ option_map (λ t. t.kind) (option_map (λ t. t.now) token)
kind_of_token None = refl
kind_of_token (Some t) = refl

pub kind_there : (tokens : List Token) (placed : List Placed) (token : Option (Bor Token)) (others : ℕ) → placed_kinds placed ≡ kinds tokens → option_map (λ t. t.now) token ≡ slice_get tokens others
    → option_map (λ t. t.now.kind) token ≡ option_map (λ t. t.kind) (slice_get placed others)
kind_there tokens placed token others same there =
    kind_of_token token
    ∙ ap (option_map (λ t. t.kind)) there
    ∙ sym (mapped_at (λ t. t.kind) tokens others)
    ∙ ap (λ ks. slice_get ks others) (sym same)
    ∙ mapped_at (λ t. t.kind) placed others

pub as_many : (tokens : List Token) (placed : List Placed) → placed_kinds placed ≡ kinds tokens → length tokens ≡ length placed
as_many tokens placed same = sym (length-map tokens (λ t. t.kind)) ∙ ap length (sym same) ∙ length-map placed (λ t. t.kind)
