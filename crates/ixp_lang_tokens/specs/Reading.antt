-- How the tokens of a grammar are read, from left to right: what is said and what is left, or the fault and
-- how many tokens are left at its place. Of two alternatives the first token decides.
use Rattle.std.specs.Prelude.{◌≡◌, ℕ, zero, suc, Bool, false, ◌||◌, ◌&&◌, not, List, [], ◌∷◌, length, map, Option, Some, None, Result, Ok, Err, if◌then◌else◌}
use Rattle.std.specs.Option.{is_some}
pub use Rattle.ixp_num.specs.Reading.{◌>>=◌}
use Rattle.ixp_lang_tokens.specs.declared.fault.Cause.{Cause}
use Rattle.ixp_lang_tokens.specs.declared.fault.Cause.TheVariants.{Unexpected}
use Rattle.ixp_lang_tokens.specs.declared.fault.Fault.{Fault}
use Rattle.ixp_lang_tokens.specs.declared.fault.Fault.TheVariants.{NoMemory, Stop}
use Rattle.ixp_lang_tokens.specs.declared.token.Kind.{Kind}
use Rattle.ixp_lang_tokens.specs.declared.token.Token.{Token}
use Rattle.ixp_lang_tokens.specs.Grammars.{Step, onward, done, Grammar, gives, takes, sequence, choice, rounds, checks, bars, unless, here}

-- what is said and the tokens behind it, or the fault
abbrev pub Read : Type 0 → Type 0
Read A = Result (A × List Kind) (Cause × ℕ)

abbrev pub stop : {A : Type 0} → Cause → List Kind → Read A
stop cause tokens = Err (cause, length tokens)

-- a text of the grammar may begin with these tokens, as far as the first one tells; what is barred is refused
-- there
abbrev pub begins : {A : Type 0} → Grammar A → List Kind → Bool
begins (gives v) tokens = false
begins (takes class) [] = false
begins (takes class) (token ∷ tokens) = is_some (class token)
begins (sequence f g) tokens = begins f tokens
begins (choice f g) tokens = begins f tokens || begins g tokens
begins (rounds f s) tokens = begins (f s) tokens
begins (checks fault f) tokens = begins f tokens
begins (bars next cause f) tokens = next tokens || begins f tokens
begins (unless next f) tokens = not (next tokens) && begins f tokens
begins (here f) tokens = begins (f (length tokens)) tokens

abbrev pub taken : {A : Type 0} → Option A → List Kind → Read A
taken None tokens = Err (Unexpected, suc (length tokens))
taken (Some v) tokens = Ok (v, tokens)

abbrev pub stepped : {S A : Type 0} → (S → List Kind → Read A) → Step S A × List Kind → Read A
stepped go (onward s, tokens) = go s tokens
stepped go (done v, tokens) = Ok (v, tokens)

-- at most n + 1 rounds: a round that goes on takes a token, so that the number of tokens is enough
abbrev pub read_rounds : {S A : Type 0} → ℕ → (S → List Kind → Read (Step S A)) → S → List Kind → Read A
read_rounds zero round s tokens = round s tokens >>= stepped (λ t others. stop Unexpected others)
read_rounds (suc n) round s tokens = round s tokens >>= stepped (read_rounds n round)

abbrev pub checked : {A : Type 0} → Option (Cause × ℕ) → Read A → Read A
checked None r = r
checked (Some fault) r = Err fault

abbrev pub read : {A : Type 0} → Grammar A → List Kind → Read A
read (gives v) tokens = Ok (v, tokens)
read (takes class) [] = Err (Unexpected, 0)
read (takes class) (token ∷ tokens) = taken (class token) tokens
read (sequence f g) tokens = read f tokens >>= λ a. read (g a.0) a.1
read (choice f g) tokens = if begins f tokens then read f tokens else read g tokens
read (rounds f s) tokens = read_rounds (length tokens) (λ t others. read (f t) others) s tokens
read (checks fault f) tokens = checked fault (read f tokens)
read (bars next cause f) tokens = if next tokens then stop cause tokens else read f tokens
read (unless next f) tokens = if next tokens then stop Unexpected tokens else read f tokens
read (here f) tokens = read (f (length tokens)) tokens

abbrev pub kinds : List Token → List Kind
kinds tokens = map (λ t. t.kind) tokens

-- the program's answer is what is read; running out of memory is free
abbrev pub Gives : {X A : Type 0} → (X → A × List Kind) → Result X Fault → Read A → Type 0
Gives view (Ok x) r = r ≡ Ok (view x)
Gives view (Err NoMemory) r = Unit {0}
Gives view (Err (Stop cause left)) r = r ≡ Err (cause, left)

-- the same of a test that takes no token: its fault, if there is one
abbrev pub Tells : {X A : Type 0} → (X → A) → Result X Fault → Result A (Cause × ℕ) → Type 0
Tells view (Ok x) r = r ≡ Ok (view x)
Tells view (Err NoMemory) r = Unit {0}
Tells view (Err (Stop cause left)) r = r ≡ Err (cause, left)
