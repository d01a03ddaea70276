-- Of two alternatives, one of which begins with a keyword, that keyword decides.
use Rattle.std.proofs.Common.{◌≡◌, ℕ, Bool, true, false, List, [], ◌∷◌, Option, Some, None, option_map, refl, sym, if◌then◌else◌, ap}
use Rattle.ixp_lang_tokens.specs.declared.token.Kind.{Kind}
use Rattle.ixp_lang_tokens.specs.Grammars.{Grammar, sequence, choice}
use Rattle.ixp_lang_tokens.specs.Reading.{read, ◌>>=◌}
use Rattle.ixp_lang_tokens.specs.Pieces.{the_word, is_word, behind, if_so}
use Rattle.ixp_lang_exprs.specs.Lists.{first_in}
use Rattle.ixp_lang_exprs.proofs.Firsts.{first_known, first_unknown}

found : (b : Bool) (ts rest : List Kind) → Some rest ≡ (if b then Some ts else None) → option_map {U = Unit {0} × List Kind} (λ a. (a, ts)) (if_so b) ≡ Some (tt, rest)
found true ts rest e = ap (λ o. option_map (λ r. (tt, r)) o) (sym e)
found false ts rest e = absurd cc

missed : (b : Bool) (ts : List Kind) → ◌≡◌ {A = Option (List Kind)} None (if b then Some ts else None) → option_map {U = Unit {0} × List Kind} (λ a. (a, ts)) (if_so b) ≡ None
missed true ts e = absurd cc
missed false ts e = refl

first_word : (word : List ℕ) (ts rest : List Kind) → Some rest ≡ behind (is_word word) ts → first_in (λ token. if_so (is_word word token)) ts ≡ Some (tt, rest)
first_word word [] rest e = absurd cc
first_word word (k ∷ ts) rest e = found (is_word word k) ts rest e

no_word : (word : List ℕ) (ts : List Kind) → None ≡ behind (is_word word) ts → first_in (λ token. if_so (is_word word token)) ts ≡ None
no_word word [] e = refl
no_word word (k ∷ ts) e = missed (is_word word k) ts e

module _ {A : Type 0} (word : List ℕ) (f : Unit {0} → Grammar A) (g : Grammar A) where
  pub word_next : (ts rest : List Kind) → Some rest ≡ behind (is_word word) ts → read (choice (sequence (the_word word) f) g) ts ≡ read (f tt) rest
  word_next ts rest e = first_known (λ token. if_so (is_word word token)) f g ts tt rest (first_word word ts rest e)

  pub other_next : (ts : List Kind) → None ≡ behind (is_word word) ts → read (choice (sequence (the_word word) f) g) ts ≡ read g ts
  other_next ts e = first_unknown (λ token. if_so (is_word word token)) f g ts (no_word word ts e)
