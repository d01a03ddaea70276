-- The steps of the reader of a function's head.
use Rattle.std.proofs.Common.{◌≡◌, ◌∙◌, ℕ, List, Ok, sym, ap}
use Rattle.ixp_lang_tokens.specs.declared.token.Kind.{Kind}
use Rattle.ixp_lang_tokens.specs.Reading.{Read, read, ◌>>=◌}
use Rattle.ixp_lang_exprs.specs.declared.env.Declared.TheVariants.{Begun}
use Rattle.ixp_lang_exprs.specs.Names.{Names}
use Rattle.ixp_lang_exprs.specs.Declarations.{standing, free_name}
use Rattle.ixp_read.specs.Functions.{Params, params_form, Head, head_with, head_form}

abbrev pub headed : List ℕ → Params × List Kind → Read Head
headed name a = Ok (head_with name a.0, a.1)

pub head_reads : (number : ℕ) (names declared : Names) (ts rest : List Kind) (name : List ℕ) → read (free_name names) ts ≡ Ok (name, rest) → declared ≡ standing names name Begun
    → read (head_form number names) ts ≡ (read (params_form number declared) rest >>= headed name)
head_reads number names declared ts rest name p q =
    ap (λ r. r >>= λ a. (read (params_form number (standing names a.0 Begun)) a.1 >>= headed a.0)) p ∙ ap (λ n. read (params_form number n) rest >>= headed name) (sym q)
